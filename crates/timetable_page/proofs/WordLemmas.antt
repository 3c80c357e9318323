-- The words of options, read two at a time.
use Rattle.std.proofs.Common.{ℕ, ◌≡◌, ◌<◌, ◌≤◌, Bool, true, false, if◌then◌else◌, Option, Some, None, List, [], ◌∷◌}
use Rattle.std.proofs.Common.{length, map, drop, get_or, sym, ap, ◌∙◌, refl, arith}
use Rattle.std.specs.Option.{option_and_then}
use Rattle.timetable_page.specs.Words.{is_listed, is_named, told_by, with_option}
use Rattle.timetable_page.specs.declared.words.Told.{Told}

-- words that begin with two
pub two_of : {A : Type 0} (f : A → List ℕ) (xs : List A) (x y : A) → 2 ≤ length xs → x ≡ get_or xs 0 x
    → y ≡ get_or xs 1 y → map f xs ≡ f x ∷ f y ∷ map f (drop 2 xs)
two_of f [] x y l a b = absurd (omega (arith, l))
two_of f (z ∷ []) x y l a b = absurd (omega (arith, l))
two_of f (z ∷ w ∷ xs) x y l a b = λ i. f (sym a i) ∷ f (sym b i) ∷ map f xs

-- an option with its value
pub told_next : (told next : Told) (option value : List ℕ) (more : List (List ℕ)) → with_option told option value ≡ Some next
    → told_by told (option ∷ value ∷ more) ≡ told_by next more
told_next told next option value more e = ap (option_and_then (λ n. told_by n more)) e

pub told_none : (told : Told) (option value : List ℕ) (more : List (List ℕ)) → with_option told option value ≡ None
    → told_by told (option ∷ value ∷ more) ≡ None
told_none told option value more e = ap (option_and_then (λ n. told_by n more)) e

-- no option is left, or one without a value
pub told_all : {A : Type 0} (f : A → List ℕ) (told : Told) (xs : List A) → length xs ≡ 0
    → told_by told (map f xs) ≡ Some told
told_all f told [] l = refl
told_all f told (x ∷ xs) l = absurd (omega (arith, l))

pub told_half : {A : Type 0} (f : A → List ℕ) (told : Told) (xs : List A) → length xs < 2 → 0 < length xs
    → told_by told (map f xs) ≡ None
told_half f told [] l m = absurd (omega (arith, m))
told_half f told (x ∷ []) l m = refl
told_half f told (x ∷ y ∷ xs) l m = absurd (omega (arith, l))

-- the solution is named here, or further on, or nowhere
pub listed_here : (option value : List ℕ) (more : List (List ℕ)) (n : ℕ) → is_named option value n ≡ true
    → is_listed (option ∷ value ∷ more) n ≡ true
listed_here option value more n e = ap (λ (b : Bool). if b then true else is_listed more n) e

pub listed_past : (option value : List ℕ) (more : List (List ℕ)) (n : ℕ) → is_named option value n ≡ false
    → is_listed (option ∷ value ∷ more) n ≡ is_listed more n
listed_past option value more n e = ap (λ (b : Bool). if b then true else is_listed more n) e

pub listed_none : {A : Type 0} (f : A → List ℕ) (xs : List A) (n : ℕ) → length xs < 2 → is_listed (map f xs) n ≡ false
listed_none f [] n l = refl
listed_none f (x ∷ []) n l = refl
listed_none f (x ∷ y ∷ xs) n l = absurd (omega (arith, l))
