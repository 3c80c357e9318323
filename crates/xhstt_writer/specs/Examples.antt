-- Small archives for examples.
use Rattle.std.specs.Prelude.{ℕ, true, Some, None, List, [], ◌∷◌, codes}
use Rattle.khe_base.specs.declared.costs.CostFn.TheVariants.{Linear}
use Rattle.xhstt_shape.specs.declared.constraints.RawApplies.TheVariants as applied
use Rattle.xhstt_shape.specs.declared.constraints.RawConstraint.{RawConstraint}
use Rattle.xhstt_shape.specs.declared.constraints.RawRule.{RawRule}
use Rattle.xhstt_shape.specs.declared.records.Archive.{Archive}
use Rattle.xhstt_shape.specs.declared.records.Name.{Name}
use Rattle.xhstt_shape.specs.declared.records.RawEvent.{RawEvent}
use Rattle.xhstt_shape.specs.declared.records.Ref.{Ref}
use Rattle.xhstt_shape.specs.declared.records.Time.{Time}

abbrev pub name : List ℕ → Name
name text = record { text = text; at = 0 }

abbrev pub to : List ℕ → Ref
to id = record { id = id; at = 0 }

-- an archive without instances and solutions, with an Id or without one
abbrev pub nothing : Archive
nothing = record { id = None; meta_data = None; instances = []; solution_groups = [] }

abbrev pub only_id : List ℕ → Archive
only_id id = record { id = Some (name id); meta_data = None; instances = []; solution_groups = [] }

abbrev pub time : List ℕ → Time
time id = record { id = name id; name = []; week = None; day = None; time_groups = [] }

abbrev pub event : List ℕ → ℕ → RawEvent
event id duration = record {
  id = name id;
  color = None;
  name = [];
  duration = duration;
  workload = None;
  course = None;
  time = None;
  resources = [];
  resource_groups = [];
  event_groups = [];
}

-- a required constraint of linear cost and weight 2 on the event E
abbrev pub constraint : RawRule → RawConstraint
constraint rule = record {
  id = name (codes "c");
  name = [];
  required = true;
  weight = 2;
  cost = Linear;
  applies =
      applied.Events [] (to (codes "E") ∷ []);
  rule = rule;
}

-- three times, an event of duration 3, a constraint of this rule, and a solution without entries
abbrev pub one_event : RawRule → Archive
one_event rule = record {
  id = None;
  meta_data = None;
  instances = record {
    id = name (codes "I");
    meta_data = None;
    time_groups = [];
    times = time (codes "t0") ∷ (time (codes "t1") ∷ (time (codes "t2") ∷ []));
    resource_types = [];
    resource_groups = [];
    resources = [];
    event_groups = [];
    events = event (codes "E") 3 ∷ [];
    constraints = constraint rule ∷ [];
  } ∷ [];
  solution_groups = record {
    id = name (codes "G");
    meta_data = None;
    solutions = record { reference = to (codes "I"); description = None; running_time = None; events = [] } ∷ [];
  } ∷ [];
}
