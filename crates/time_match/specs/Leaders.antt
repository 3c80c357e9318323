-- The first of tasks that are alike, and what its costs say of those of the others.
use Rattle.std.specs.Prelude.{ℕ, ◌≡◌, ◌+◌, ◌*◌, ◌/◌, Bool, true, false, None, List, All, map, slice_get}
use Rattle.std.specs.List.{filter}
use Rattle.std.specs.Option.{option_map_or}
use Rattle.khe_base.specs.declared.numbers.ResourceId.{ResourceId}
use Rattle.khe_base.specs.declared.numbers.TaskId.{TaskId}
use Rattle.khe_engine.specs.States.{State}
use Rattle.khe_instance.specs.declared.parts.EventInfo.{EventInfo}
use Rattle.khe_instance.specs.declared.parts.Parts.{Parts}
use Rattle.khe_instance.specs.declared.parts.Place.{Place}
use Rattle.khe_instance.specs.declared.points.Monitor.{Monitor}
use Rattle.khe_instance.specs.declared.rules.Constraint.{Constraint}
use Rattle.khe_told.specs.Slots.{length_of, slot_at, start_of}
use Rattle.khe_told.specs.declared.slots.Slot.{Slot}
use Rattle.resource_match.specs.Smallness.{IsSmall}
use Rattle.time_match.specs.Alike.{is_avoiding_splits, is_preference, unites_at, worth}
use Rattle.time_match.specs.Costs.{no_task}
use Rattle.time_match.specs.Parted.{IsSingle, all_numbers}
use Rattle.time_match.specs.Wishes.{rest_in}
use Rattle.time_match.specs.declared.leaders.Leader.{Leader}
use Rattle.time_match.specs.declared.likenesses.Likeness.{Likeness}

-- the numbers of the monitors that prefer some resources, and of the monitors that are on the resources of a
-- group together
abbrev pub is_preference_at : Parts → ℕ → Bool
is_preference_at p n = option_map_or (λ (m : Monitor). option_map_or (λ (c : Constraint). is_preference c.rule)
    (slice_get p.constraints m.constraint) false) (slice_get p.monitors n) false

abbrev pub is_avoidance_at : Parts → ℕ → Bool
is_avoidance_at p n = option_map_or (λ (m : Monitor). option_map_or (λ (c : Constraint). is_avoiding_splits c.rule)
    (slice_get p.constraints m.constraint) false) (slice_get p.monitors n) false

abbrev pub preferences : Parts → List ℕ
preferences p = filter (is_preference_at p) (all_numbers p)

abbrev pub avoidances : Parts → List ℕ
avoidances p = filter (is_avoidance_at p) (all_numbers p)

-- whether the monitor with a number is on the resources of a group that has an event
abbrev pub unites_event : Parts → ℕ → ℕ → Bool
unites_event p e n = option_map_or (λ (m : Monitor). option_map_or (λ (c : Constraint). unites_at p c.rule m.point e)
    (slice_get p.constraints m.constraint) false) (slice_get p.monitors n) false

-- what a meet of a duration is worth at a place of an event
abbrev pub worth_at : Parts → ℕ → ℕ → ℕ → ℕ
worth_at p e k d = option_map_or (λ (event : EventInfo).
    option_map_or (λ (place : Place). place.workload * d * (p.unit / event.duration)) (slice_get event.places k) 0)
    (slice_get p.events e) 0

-- what stands for what is read of a task beyond the last, and the tasks of which it was read
abbrev pub no_likeness : Likeness
no_likeness = record { task = no_task; event = record { 0 = 0 }; start = None; duration = 0; worth = 0; single = false }

abbrev pub tasks_of : List Likeness → List TaskId
tasks_of xs = map (λ (x : Likeness). x.task) xs

-- what was read of a task is so
pub record IsLikeness (p : Parts) (s : List Slot) (x : Likeness) : Type 0 where
  pub event : (slot_at s x.task.meet.0).event ≡ x.event
  pub start : start_of (slot_at s x.task.meet.0) ≡ x.start
  pub duration : length_of (slot_at s x.task.meet.0) ≡ x.duration
  pub worth : worth p s x.task ≡ x.worth
  pub single : IsSingle p s x.task

abbrev pub IsReadFrom : Parts → List Slot → Likeness → Type 0
IsReadFrom p s x = x.single ≡ true → IsLikeness p s x

-- two tasks for which the same was read
pub record AreLike (a b : Likeness) : Type 0 where
  pub start : a.start ≡ b.start
  pub duration : a.duration ≡ b.duration
  pub worth : a.worth ≡ b.worth
  pub first : a.single ≡ true
  pub second : b.single ≡ true

-- two tasks leave with two resources together what they leave with these exchanged
pub record AreExchanged (p : Parts) (b : State) (x y : TaskId) : Type 0 where
  pub hard : (r q : ResourceId) → (rest_in p b x r).hard + (rest_in p b y q).hard
      ≡ (rest_in p b x q).hard + (rest_in p b y r).hard
  pub soft : (r q : ResourceId) → (rest_in p b x r).soft + (rest_in p b y q).soft
      ≡ (rest_in p b x q).soft + (rest_in p b y r).soft

-- what is left of the costs of a leader without its wishes
abbrev pub IsLeader : Parts → State → List ResourceId → Leader → Type 0
IsLeader p b rs x = x.rests ≡ map (rest_in p b x.task) rs

-- a leader that is kept for the tasks after it
pub record IsKept (p : Parts) (b : State) (rs : List ResourceId) (x : Leader) : Type 0 where
  pub rests : IsLeader p b rs x
  pub small : All IsSmall x.rests
