-- What stands at a place after one element changes.
use Rattle.std.proofs.Common.{ℕ, ◌≡◌, ◌<◌, zero, suc, List, [], ◌∷◌, length, get_or, set, slice_get, refl, ap, arith}

pub get-set_other : {A : Type 0} (xs : List A) (i k : ℕ) (a : A) → (k ≡ i → ⊥)
    → slice_get (set xs i a) k ≡ slice_get xs k
get-set_other [] i k a n = refl
get-set_other (x ∷ xs) zero zero a n = absurd (n refl)
get-set_other (x ∷ xs) zero (suc k) a n = refl
get-set_other (x ∷ xs) (suc i) zero a n = refl
get-set_other (x ∷ xs) (suc i) (suc k) a n = get-set_other xs i k a (λ e. n (ap suc e))

-- what stands there, whatever stands beyond the end
pub get-any : {A : Type 0} (xs : List A) (k : ℕ) (d e : A) → k < length xs → get_or xs k d ≡ get_or xs k e
get-any [] k d e l = absurd (omega arith)
get-any (x ∷ xs) zero d e l = refl
get-any (x ∷ xs) (suc k) d e l = get-any xs k d e (omega arith)
