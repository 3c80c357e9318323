-- Workers that do nothing but claim.
use Rattle.std.specs.Prelude.{◌≡◌, ℕ, ◌+◌, ◌<◌}
use Rattle.solve_board.specs.Counts.{IsAmong}
use Rattle.solve_board.specs.declared.views.BoardView.{BoardView}

-- how many seats it may still split off, and how many it stands for
abbrev pub budget : BoardView → ℕ
budget v = v.left + v.weight

-- a seat that has claimed jobs alone, below `jobs`
pub record IsDrawing (jobs : ℕ) (v : BoardView) : Type 0 where
  pub jobs_are : v.jobs ≡ jobs
  pub weight : 0 < v.weight
  pub below : (n : ℕ) → IsAmong n v.claims → n < jobs

-- a seat after its claims, which stands for as many seats as before
pub record HasDrawn (v w : BoardView) : Type 0 where
  pub weight : 0 < w.weight
  pub budgeted : budget w ≡ budget v
