-- What stands at a place.
use Rattle.std.proofs.Common.{◌≡◌, ℕ, zero, suc, ◌+◌, ◌<◌, List, [], ◌∷◌, Some, Result, Ok, IfOk, map, drop, length}
use Rattle.std.proofs.Common.{get_or, slice_get, sym, ap, ◌∙◌, subst, arith}
use Rattle.xhstt_shape.specs.declared.records.RawSolution.{RawSolution}

pub ok_is : {A E : Type 0} (r : Result A E) (a : A) (P : A → Type 0) → IfOk r P → r ≡ Ok a → P a
ok_is r a P h is = subst (λ x. IfOk x P) is h

-- the element at hand, of references
pub there_of : {A : Type 0} (f : A → RawSolution) (xs : List A) (k : ℕ) (x : A) → k < length xs → x ≡ get_or xs k x
    → slice_get (map f xs) k ≡ Some (f x)
there_of f [] k x lt is = absurd (omega (arith, lt))
there_of f (y ∷ xs) zero x lt is = ap (λ z. Some (f z)) (sym is)
there_of f (y ∷ xs) (suc k) x lt is = there_of f xs k x (omega (arith, lt)) is

pub get_dropped : (xs : List RawSolution) (n k : ℕ) (x : RawSolution) → slice_get xs (n + k) ≡ Some x
    → slice_get (drop n xs) k ≡ Some x
get_dropped xs zero k x e = ap (slice_get xs) (let z : k ≡ zero + k = omega arith in z) ∙ e
get_dropped [] (suc n) k x e = absurd (cc)
get_dropped (y ∷ xs) (suc n) k x e = get_dropped xs n k x
    (ap (slice_get (y ∷ xs)) (let z : suc (n + k) ≡ suc n + k = omega arith in z) ∙ e)
