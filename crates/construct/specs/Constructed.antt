-- The timetable that is constructed: each meet in turn takes its best start, then each task its best resource, each
-- in the state that the turns before it leave.
use Rattle.std.specs.Prelude.{ℕ, ◌≡◌, List}
use Rattle.std.specs.List.{fold}
use Rattle.construct.specs.Begun.{begun}
use Rattle.construct.specs.Choices.{assigns, gives, lowered}
use Rattle.construct.specs.Orders.{order, tasks_of}
use Rattle.construct.specs.declared.built.Built.{Built}
use Rattle.khe_base.specs.declared.numbers.TaskId.{TaskId}
use Rattle.khe_engine.specs.Openings.{IsStateOf}
use Rattle.khe_engine.specs.States.{State}
use Rattle.khe_engine.specs.Values.{totals}
use Rattle.khe_instance.specs.declared.parts.Parts.{Parts}

-- each meet in turn is assigned to the time that leaves the least totals, if these are lower than those there are
unfoldable pub timed : Parts → State → List ℕ → State
timed p s ms = fold (λ (u : State) (m : ℕ). lowered p u (assigns p m)) s ms

-- and each task is given such a resource
unfoldable pub staffed : Parts → State → List TaskId → State
staffed p s ks = fold (λ (u : State) (k : TaskId). lowered p u (gives p k)) s ks

-- from the state that begins: all meets have their turn, and then all tasks in the order of the meets
unfoldable pub constructed : Parts → State → State
constructed p s =
    let ms = order s.slots in
    staffed p (timed p s ms) (tasks_of s.slots ms)

-- what is built: the timetable of the constructed state, with what it costs
pub record IsBuilt (p : Parts) (b : Built) : Type 0 where
  pub start : State
  pub begins : IsStateOf p (begun p) start
  pub listed : IsStateOf p b.plain (constructed p start)
  pub costs : b.totals ≡ totals p (constructed p start)
