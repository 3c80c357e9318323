-- What an open handle keeps: a session, or none where it was refused, and the last answer.
use Rattle.std.specs.Prelude.{ℕ, List, Option}
use Rattle.khe_session.specs.States.{SessionState}

-- its session: none where it was refused, and `Some None` once it is spent; and the last answer
pub record Kept : Type 0 where
  pub session : Option (Option SessionState)
  pub answer : List ℕ
