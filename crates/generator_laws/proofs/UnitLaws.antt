-- The least common multiple of durations of one to three times is at most six.
use Rattle.std.proofs.Common.{ℕ, ◌≡◌, ◌≤◌, ◌⊎◌, inl, inr, zero, suc, List, [], ◌∷◌, All, refl, sym, ap, subst, arith}
use Rattle.std.proofs.lemmas.List.Elements.{All-nil, All-cons, All-head, All-tail}
use Rattle.xhstt_resolve.specs.Units.{least_multiple, running_units}
use Rattle.archive_generator.proofs.WellFormed.{IsShort}

-- a divisor of six
abbrev IsUnit : ℕ → Type 0
IsUnit n = (n ≡ 1) ⊎ ((n ≡ 2) ⊎ ((n ≡ 3) ⊎ (n ≡ 6)))

abbrev IsOneToThree : ℕ → Type 0
IsOneToThree n = (n ≡ 1) ⊎ ((n ≡ 2) ⊎ (n ≡ 3))

one_to_three : (n : ℕ) → IsShort n → IsOneToThree n
one_to_three zero s = absurd (let l = s.0 in omega arith)
one_to_three (suc zero) s = inl refl
one_to_three (suc (suc zero)) s = inr (inl refl)
one_to_three (suc (suc (suc zero))) s = inr (inr refl)
one_to_three (suc (suc (suc (suc n)))) s = absurd (let l = s.1 in omega arith)

from_one : (d : ℕ) → IsOneToThree d → IsUnit (least_multiple 1 d)
from_one d (inl e) = inl (ap (least_multiple 1) e)
from_one d (inr (inl e)) = inr (inl (ap (least_multiple 1) e))
from_one d (inr (inr e)) = inr (inr (inl (ap (least_multiple 1) e)))

from_two : (d : ℕ) → IsOneToThree d → IsUnit (least_multiple 2 d)
from_two d (inl e) = inr (inl (ap (least_multiple 2) e))
from_two d (inr (inl e)) = inr (inl (ap (least_multiple 2) e))
from_two d (inr (inr e)) = inr (inr (inr (ap (least_multiple 2) e)))

from_three : (d : ℕ) → IsOneToThree d → IsUnit (least_multiple 3 d)
from_three d (inl e) = inr (inr (inl (ap (least_multiple 3) e)))
from_three d (inr (inl e)) = inr (inr (inr (ap (least_multiple 3) e)))
from_three d (inr (inr e)) = inr (inr (inl (ap (least_multiple 3) e)))

from_six : (d : ℕ) → IsOneToThree d → IsUnit (least_multiple 6 d)
from_six d (inl e) = inr (inr (inr (ap (least_multiple 6) e)))
from_six d (inr (inl e)) = inr (inr (inr (ap (least_multiple 6) e)))
from_six d (inr (inr e)) = inr (inr (inr (ap (least_multiple 6) e)))

next_unit : (u d : ℕ) → IsUnit u → IsShort d → IsUnit (least_multiple u d)
next_unit u d h s = by h
  where
    at : (v : ℕ) → u ≡ v → IsUnit (least_multiple v d) → IsUnit (least_multiple u d)
    at v e k = subst (λ x. IsUnit (least_multiple x d)) (sym e) k

    by : IsUnit u → IsUnit (least_multiple u d)
    by (inl e) = at 1 e (from_one d (one_to_three d s))
    by (inr (inl e)) = at 2 e (from_two d (one_to_three d s))
    by (inr (inr (inl e))) = at 3 e (from_three d (one_to_three d s))
    by (inr (inr (inr e))) = at 6 e (from_six d (one_to_three d s))

at_most_six : (u : ℕ) → IsUnit u → u ≤ 6
at_most_six u (inl e) = omega arith
at_most_six u (inr (inl e)) = omega arith
at_most_six u (inr (inr (inl e))) = omega arith
at_most_six u (inr (inr (inr e))) = omega arith

units_from : (u : ℕ) (ds : List ℕ) → IsUnit u → All IsShort ds → All (λ n. n ≤ 6) (running_units u ds)
units_from u [] h s = All-nil (λ n. n ≤ 6)
units_from u (d ∷ ds) h s =
    let next = next_unit u d h (All-head IsShort d ds s) in
    All-cons (λ n. n ≤ 6) (least_multiple u d) (running_units (least_multiple u d) ds)
    (at_most_six (least_multiple u d) next)
    (units_from (least_multiple u d) ds next (All-tail IsShort d ds s))

-- the running multiples of such durations
pub units_small : (ds : List ℕ) → All IsShort ds → All (λ n. n ≤ 6) (running_units 1 ds)
units_small ds s = units_from 1 ds (inl refl) s
