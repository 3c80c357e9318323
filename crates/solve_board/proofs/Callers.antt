-- What callers of a board cite.
use Rattle.std.proofs.Common.{◌≡◌, ◌<◌, ℕ, Option, Some, None, MatchOption, List, [], ◌∷◌, ap, sym, subst, arith}
use Rattle.solve_board.specs.Counts.{IsAmong, one_at}
use Rattle.solve_board.specs.Views.{claimed, saw, saw_none}
use Rattle.solve_board.specs.declared.views.BoardView.{BoardView}
use Rattle.solve_board.proofs.Sums.{weigh-append, one_here, one_is}

-- a number that was just claimed is among the claims
pub just_claimed : (v w : BoardView) (n : ℕ) → w ≡ claimed v n → IsAmong n w.claims
just_claimed v w n is = subst (λ (u : BoardView). IsAmong n u.claims) (sym is)
    (omega (arith, weigh-append (one_at n) v.claims (n ∷ []), one_here n))

-- a look leaves the claims
pub look_claims : (r : Option ℕ) (v w : BoardView) → MatchOption r (w ≡ saw_none v) (λ n. (w ≡ saw v n) × (n < v.jobs))
    → w.claims ≡ v.claims
look_claims None v w h = ap (λ (u : BoardView). u.claims) h
look_claims (Some n) v w h = ap (λ (u : BoardView). u.claims) h.0

pub look_jobs : (r : Option ℕ) (v w : BoardView) → MatchOption r (w ≡ saw_none v) (λ n. (w ≡ saw v n) × (n < v.jobs))
    → w.jobs ≡ v.jobs
look_jobs None v w h = ap (λ (u : BoardView). u.jobs) h
look_jobs (Some n) v w h = ap (λ (u : BoardView). u.jobs) h.0

-- where one number was claimed, each is below what it is below
pub one_below : (claims : List ℕ) (x bound : ℕ) → claims ≡ x ∷ [] → x < bound → (n : ℕ) → IsAmong n claims → n < bound
one_below claims x bound is lt n h = let same =
    one_is n x (let g : IsAmong n (x ∷ []) = subst (IsAmong n) is h in omega (arith, g)) in omega (arith, same, lt)
