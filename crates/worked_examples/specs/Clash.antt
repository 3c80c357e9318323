-- Two events of one resource: a chain of two moves mends what no single move does.
use Rattle.std.specs.Prelude.{ℕ, true, false, Some, None, List, [], ◌∷◌, codes}
use Rattle.khe_engine.specs.States.{State}
use Rattle.khe_instance.specs.declared.parts.EventInfo.{EventInfo}
use Rattle.khe_instance.specs.declared.parts.Parts.{Parts}
use Rattle.khe_instance.specs.declared.parts.Place.{Place}
use Rattle.khe_instance.specs.declared.rules.Kind.TheVariants as kind
use Rattle.khe_instance.specs.declared.rules.Rule.TheVariants as rule
use Rattle.worked_examples.specs.School.{at, at_event, at_resource, constraint, has, resource, slot, watch}

abbrev pub fixed_place : Place
fixed_place = record { role = None; rtype = 0; fixed = Some (resource 0); workload = 1 }

abbrev pub fixed_event : List ℕ → ℕ → EventInfo
fixed_event id first = record {
  id = id;
  duration = 1;
  fixed = None;
  first_meet = first;
  places = fixed_place ∷ [];
}

-- three times and a resource, which both events of duration 1 have; the first event is to have the first time, the
-- second one the first or the third, each at a cost of 1, and a clash costs 5
abbrev pub clash : Parts
clash = record {
  id = codes "K";
  times = codes "t0" ∷ codes "t1" ∷ codes "t2" ∷ [];
  types = 1;
  resources = record { id = codes "r0"; rtype = 0 } ∷ [];
  groups = [];
  events = fixed_event (codes "F") 0 ∷ fixed_event (codes "G") 1 ∷ [];
  constraints = constraint (codes "c0") true 1 (rule.PreferTimes (true ∷ false ∷ false ∷ []) None)
      ∷ constraint (codes "c1") true 1 (rule.PreferTimes (true ∷ false ∷ true ∷ []) None)
      ∷ constraint (codes "c2") true 5 rule.AvoidClashes ∷ [];
  monitors = watch kind.PreferTimes 0 (at_event 0) ∷ watch kind.PreferTimes 1 (at_event 1)
      ∷ watch kind.AvoidClashes 2 (at_resource 0) ∷ [];
  unit = 1;
}

-- the starts of both events
abbrev pub timed : ℕ → ℕ → State
timed f g = record {
  slots = slot 0 0 1 (at f) (has 0) ∷ slot 1 1 1 (at g) (has 0) ∷ [];
  grouping = record { attached = true ∷ true ∷ true ∷ []; groups = [] };
}

-- the first event is at the second time, and the second event at the first
abbrev pub begun : State
begun = timed 1 0
