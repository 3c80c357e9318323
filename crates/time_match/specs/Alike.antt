-- Tasks are alike where they run at the same times, are worth the same and stand in no group whose resources are
-- counted together.
use Rattle.std.specs.Prelude.{ℕ, ◌≡◌, ◌==◌, ◌&&◌, Bool, true, false, Option, None, List, slice_get}
use Rattle.std.specs.Option.{option_map_or}
use Rattle.khe_base.specs.IdSet.{has_member}
use Rattle.khe_base.specs.declared.numbers.ResourceId.{ResourceId}
use Rattle.khe_base.specs.declared.numbers.TaskId.{TaskId}
use Rattle.khe_instance.specs.ResourceDeviation.{workload_of}
use Rattle.khe_instance.specs.declared.parts.Parts.{Parts}
use Rattle.khe_instance.specs.declared.points.Monitor.{Monitor}
use Rattle.khe_instance.specs.declared.points.Point.{Point}
use Rattle.khe_instance.specs.declared.points.Point.TheVariants.{EventGroup, EventResource}
use Rattle.khe_instance.specs.declared.rules.Rule.{Rule}
use Rattle.khe_instance.specs.declared.rules.Rule.TheVariants.{AvoidSplitAssignments, PreferResources}
use Rattle.khe_instance.specs.declared.states.Duty.{Duty}
use Rattle.khe_solution.specs.Reading.{has_place, resource_at}
use Rattle.khe_told.specs.Slots.{length_of, slot_at, start_of}
use Rattle.khe_told.specs.declared.slots.Slot.{Slot}

-- a place of a slot's meet, with a resource
abbrev pub duty_in : Slot → ℕ → Option ResourceId → Duty
duty_in x k o = record {
  meet = record { meet = x.meet; event = x.event; duration = length_of x; start = start_of x };
  place = k;
  resource = o;
}

-- what a task is worth to its resource
abbrev pub worth : Parts → List Slot → TaskId → ℕ
worth p s t = workload_of p.events p.unit (duty_in (slot_at s t.meet.0) t.place None)

-- two tasks run at the same times, and are worth the same to their resources
pub record AreAlike (p : Parts) (s : List Slot) (a b : TaskId) : Type 0 where
  pub start : start_of (slot_at s a.meet.0) ≡ start_of (slot_at s b.meet.0)
  pub duration : length_of (slot_at s a.meet.0) ≡ length_of (slot_at s b.meet.0)
  pub worth : worth p s a ≡ worth p s b

-- whether a rule prefers some resources to others, and whether it is on the resources of a group together
abbrev pub is_preference : Rule → Bool
is_preference (PreferResources resources role) = true
is_preference _ = false

abbrev pub is_avoiding_splits : Rule → Bool
is_avoiding_splits (AvoidSplitAssignments role) = true
is_avoiding_splits _ = false

-- whether a rule at a point prefers some resources at a place of an event
abbrev pub prefers_at : Rule → Point → ℕ → ℕ → Bool
prefers_at rule (EventResource x place) e k = is_preference rule && ((e == x.0) && (k == place))
prefers_at rule _ e k = false

-- whether it is on the resources of a group that has the event
abbrev pub unites_at : Parts → Rule → Point → ℕ → Bool
unites_at p rule (EventGroup g) e = is_avoiding_splits rule
    && option_map_or (λ group. has_member group.events e) (slice_get p.groups g) false
unites_at p rule _ e = false

-- whether a monitor does so for a task
abbrev pub prefers : Parts → List Slot → TaskId → Monitor → Bool
prefers p s t m = option_map_or (λ c. prefers_at c.rule m.point (slot_at s t.meet.0).event.0 t.place)
    (slice_get p.constraints m.constraint) false

abbrev pub unites : Parts → List Slot → TaskId → Monitor → Bool
unites p s t m = option_map_or (λ c. unites_at p c.rule m.point (slot_at s t.meet.0).event.0)
    (slice_get p.constraints m.constraint) false

-- a task that is there and has no resource
pub record IsBare (s : List Slot) (t : TaskId) : Type 0 where
  pub there : has_place (slot_at s t.meet.0) t.place ≡ true
  pub none : resource_at s t ≡ None
