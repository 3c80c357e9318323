-- Workers that wait for each other by looks.
use Rattle.std.specs.Prelude.{◌≡◌}
use Rattle.solve_board.specs.declared.views.BoardView.{BoardView}

-- a seat after some looks
pub record HasLooked (v w : BoardView) : Type 0 where
  pub claims : w.claims ≡ v.claims
  pub jobs : w.jobs ≡ v.jobs
  pub left : w.left ≡ v.left
  pub weight : w.weight ≡ v.weight
