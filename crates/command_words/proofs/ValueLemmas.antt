-- The value of an option among words.
use Rattle.std.proofs.Common.{ℕ, ◌≡◌, ◌<◌, ◌≤◌, Bool, true, false, if◌then◌else◌, Option, Some, None, List, [], ◌∷◌}
use Rattle.std.proofs.Common.{length, map, drop, take, get_or, sym, ap, ◌∙◌, refl, arith}
use Rattle.std.specs.Str.{bytes_eq}
use Rattle.command_words.specs.Words.{value_of}

pub value_here : (name option value : List ℕ) (more : List (List ℕ)) → bytes_eq name option ≡ true
    → value_of name (option ∷ value ∷ more) ≡ Some value
unfolding value_of
value_here name option value more e =
    ap (λ (b : Bool). if b then Some value else value_of name more) e

pub value_past : (name option value : List ℕ) (more : List (List ℕ)) → bytes_eq name option ≡ false
    → value_of name (option ∷ value ∷ more) ≡ value_of name more
unfolding value_of
value_past name option value more e =
    ap (λ (b : Bool). if b then Some value else value_of name more) e

pub value_none : {A : Type 0} (f : A → List ℕ) (name : List ℕ) (xs : List A) → length xs < 2
    → value_of name (map f xs) ≡ None
unfolding value_of
value_none f name [] l = refl
value_none f name (x ∷ []) l = refl
value_none f name (x ∷ y ∷ xs) l = absurd (omega (arith, l))

-- words that begin with two
pub two_of : {A : Type 0} (f : A → List ℕ) (xs : List A) (x y : A) → 2 ≤ length xs → x ≡ get_or xs 0 x
    → y ≡ get_or xs 1 y → map f xs ≡ f x ∷ f y ∷ map f (drop 2 xs)
two_of f [] x y l a b = absurd (omega (arith, l))
two_of f (z ∷ []) x y l a b = absurd (omega (arith, l))
two_of f (z ∷ w ∷ xs) x y l a b = λ i. f (sym a i) ∷ f (sym b i) ∷ map f xs
