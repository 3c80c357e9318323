-- A new board keeps the rule.
use Rattle.std.proofs.Common.{zero, ◌≡◌, ℕ, suc, ◌≤◌, [], ◌∷◌, refl, sym, subst, arith}
use Rattle.khe_base.specs.declared.limits.TheConstants.{JOBS}
use mathlib.Core.Option.{some, some-injective, some-ne-none}
use lib.ListN.{get_elem?}
use Rattle.solve_board.specs.Views.{first_view}
use Rattle.solve_board.specs.Rule.{IsView, Holds}
use Rattle.solve_board.specs.declared.views.BoardView.{BoardView}
use Rattle.solve_board.specs.Runs.{Splits as Parts}

-- a new board
pub begins : (jobs : ℕ) → jobs ≤ JOBS → Holds jobs
    (record { words = 0 ∷ jobs ∷ []; homes = []; views = first_view jobs ∷ [] })
begins jobs few = (
  0,
  jobs,
  refl,
  record {
    few = few;
    claims = λ h. refl;
    lowest = omega arith;
    shown = λ lt. absurd (omega (arith, lt));
    budget = refl;
    reached = (Parts ∷ [], (tt, tt), refl);
    each = one;
  },
)
  where
    one : (by : ℕ) (v : BoardView) → get_elem? (first_view jobs ∷ []) by ≡ some v
        → IsView jobs jobs (first_view jobs ∷ []) v
    one zero v e = subst (IsView jobs jobs (first_view jobs ∷ [])) (some-injective _ _ e) record {
      offers = λ n is. absurd (omega (arith, is));
      looks = λ n is. absurd (omega (arith, is));
      seen = omega arith;
      over = omega arith;
      spent = λ z. absurd (omega (arith, z));
      jobs_are = λ _. refl;
    }
    one (suc by) v e = absurd (some-ne-none v (sym e))
