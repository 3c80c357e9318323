-- A seat that claims, by its views.
use Rattle.std.proofs.Common.{◌≡◌, ℕ, ◌<◌, [], ◌∷◌, ◌++◌, sym, ap, subst, arith}
use native.Mathlib.Decide.{dec_lt}
use Rattle.solve_board.specs.Counts.{IsAmong, one_at, times}
use Rattle.solve_board.specs.Views.{claimed}
use Rattle.solve_board.specs.declared.views.BoardView.{BoardView}
use Rattle.solve_board.proofs.Sums.{weigh-append, one_is}
use Rattle.engine_tests.specs.Drawing.{IsDrawing, budget}

-- one more job is claimed
pub still_drawing : (jobs n : ℕ) (v w : BoardView) → IsDrawing jobs v → w ≡ claimed v n → n < jobs → IsDrawing jobs w
still_drawing jobs n v w d is lt = subst (IsDrawing jobs) (sym is) record {
  jobs_are = d.jobs_are;
  weight = d.weight;
  below = λ m among. one_more m (dec_lt 0 (times m v.claims)) among;
}
  where
    one_more : (m : ℕ) → Dec (0 < times m v.claims) → IsAmong m (v.claims ++ n ∷ []) → m < jobs
    one_more m (yes was) _ = d.below m was
    one_more m (no not) among = let same : m ≡ n =
        one_is m n (omega (arith, weigh-append (one_at m) v.claims (n ∷ []), not, among)) in omega (arith, same, lt)

pub claimed_budget : (n : ℕ) (v w : BoardView) → w ≡ claimed v n → budget w ≡ budget v
claimed_budget n v w is = ap budget is
