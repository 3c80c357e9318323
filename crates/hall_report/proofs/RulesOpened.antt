-- Rules that are not of one kind.
use Rattle.std.proofs.Common.{ℕ, ◌+◌, ◌-◌, ◌≡◌, ◌<◌, ◌≤◌, Bool, true, false, Option, Some, List, length, slice_get}
use Rattle.std.proofs.Common.{refl, sym, ap, ◌∙◌, subst, arith}
use Rattle.std.proofs.lemmas.Option.{same_Some, slice_get_within}
use Rattle.khe_base.specs.declared.numbers.EventId.{EventId}
use Rattle.khe_base.specs.declared.numbers.ResourceId.{ResourceId}
use Rattle.khe_instance.proofs.MadeLemmas.{constraint_made, event_made, monitor_made}
use Rattle.khe_instance.specs.Lookups.{role_at}
use Rattle.khe_instance.specs.WellMade.{AreWellMade, IsPlacePoint, IsPointOf, IsResourcePoint, IsRule, IsSinglePoint}
use Rattle.khe_instance.specs.declared.parts.EventInfo.{EventInfo}
use Rattle.khe_instance.specs.declared.parts.Parts.{Parts}
use Rattle.khe_instance.specs.declared.points.Monitor.{Monitor}
use Rattle.khe_instance.specs.declared.points.Point.{Point}
use Rattle.khe_instance.specs.declared.points.Point.TheVariants.{Event, EventGroup, EventPair, EventResource, Resource}
use Rattle.khe_instance.specs.declared.rules.Constraint.{Constraint}
use Rattle.khe_instance.specs.declared.rules.Rule.{Rule}
use Rattle.khe_instance.specs.declared.rules.Rule.TheVariants.{AssignTime, AssignResource, SplitEvents}
use Rattle.khe_instance.specs.declared.rules.Rule.TheVariants.{DistributeSplitEvents, PreferTimes, PreferResources}
use Rattle.khe_instance.specs.declared.rules.Rule.TheVariants.{AvoidSplitAssignments, SpreadEvents, LinkEvents}
use Rattle.khe_instance.specs.declared.rules.Rule.TheVariants.{OrderEvents, AvoidClashes, AvoidUnavailableTimes}
use Rattle.khe_instance.specs.declared.rules.Rule.TheVariants.{LimitIdleTimes, ClusterBusyTimes, LimitBusyTimes}
use Rattle.khe_instance.specs.declared.rules.Rule.TheVariants.{LimitWorkload}
use Rattle.hall_report.proofs.UnitLaws.{units_below}
use Rattle.hall_report.specs.Opening.{event_of, place_of, resource_of}
use Rattle.hall_report.specs.Units.{units_of}
use Rattle.hall_report.specs.Strict.{lets_have, lets_start, wants_free}

pub not_starts : (rule : Rule) → ((a : List Bool) (b : Option ℕ) → rule ≡ PreferTimes a b → ⊥) → (d t : ℕ)
    → lets_start rule d t ≡ true
not_starts (PreferTimes a b) h d t = absurd (h a b refl)
not_starts AssignTime h d t = refl
not_starts (AssignResource a) h d t = refl
not_starts (SplitEvents a b c e) h d t = refl
not_starts (DistributeSplitEvents a b c) h d t = refl
not_starts (PreferResources a b) h d t = refl
not_starts (AvoidSplitAssignments a) h d t = refl
not_starts (SpreadEvents a) h d t = refl
not_starts LinkEvents h d t = refl
not_starts (OrderEvents a) h d t = refl
not_starts AvoidClashes h d t = refl
not_starts (AvoidUnavailableTimes a) h d t = refl
not_starts (LimitIdleTimes a b c) h d t = refl
not_starts (ClusterBusyTimes a b c) h d t = refl
not_starts (LimitBusyTimes a b c) h d t = refl
not_starts (LimitWorkload a b) h d t = refl

pub not_haves : (rule : Rule) → ((a : List Bool) (b : List ℕ) → rule ≡ PreferResources a b → ⊥) → (t : ℕ)
    → lets_have rule t ≡ true
not_haves (PreferResources a b) h t = absurd (h a b refl)
not_haves AssignTime h t = refl
not_haves (AssignResource a) h t = refl
not_haves (SplitEvents a b c e) h t = refl
not_haves (DistributeSplitEvents a b c) h t = refl
not_haves (PreferTimes a b) h t = refl
not_haves (AvoidSplitAssignments a) h t = refl
not_haves (SpreadEvents a) h t = refl
not_haves LinkEvents h t = refl
not_haves (OrderEvents a) h t = refl
not_haves AvoidClashes h t = refl
not_haves (AvoidUnavailableTimes a) h t = refl
not_haves (LimitIdleTimes a b c) h t = refl
not_haves (ClusterBusyTimes a b c) h t = refl
not_haves (LimitBusyTimes a b c) h t = refl
not_haves (LimitWorkload a b) h t = refl

pub not_wants : (rule : Rule) → ((a : List Bool) → rule ≡ AvoidUnavailableTimes a → ⊥) → (t : ℕ)
    → wants_free rule t ≡ false
not_wants (AvoidUnavailableTimes a) h t = absurd (h a refl)
not_wants AssignTime h t = refl
not_wants (AssignResource a) h t = refl
not_wants (SplitEvents a b c e) h t = refl
not_wants (DistributeSplitEvents a b c) h t = refl
not_wants (PreferTimes a b) h t = refl
not_wants (PreferResources a b) h t = refl
not_wants (AvoidSplitAssignments a) h t = refl
not_wants (SpreadEvents a) h t = refl
not_wants LinkEvents h t = refl
not_wants (OrderEvents a) h t = refl
not_wants AvoidClashes h t = refl
not_wants (LimitIdleTimes a b c) h t = refl
not_wants (ClusterBusyTimes a b c) h t = refl
not_wants (LimitBusyTimes a b c) h t = refl
not_wants (LimitWorkload a b) h t = refl

-- the constraint of a monitor is there, and its point is one of the rule's
pub constraint_there : (p : Parts) (n : ℕ) (m : Monitor) → AreWellMade p → slice_get p.monitors n ≡ Some m
    → m.constraint < length p.constraints
constraint_there p n m made at = let it = monitor_made p made n m at in
    slice_get_within p.constraints m.constraint it.0 it.1

pub point_there : (p : Parts) (n : ℕ) (m : Monitor) (c : Constraint) (rule : Rule) → AreWellMade p
    → slice_get p.monitors n ≡ Some m → slice_get p.constraints m.constraint ≡ Some c → c.rule ≡ rule
    → IsPointOf p rule m.point
point_there p n m c rule made at has eq =
    let it = monitor_made p made n m at in
    subst (λ (r : Rule). IsPointOf p r m.point) (ap (λ (z : Constraint). z.rule) (same_Some it.0 c (sym it.1 ∙ has))
    ∙ eq) it.3

pub rule_there : (p : Parts) (n : ℕ) (m : Monitor) (c : Constraint) (rule : Rule) → AreWellMade p
    → slice_get p.constraints m.constraint ≡ Some c → c.rule ≡ rule → IsRule p rule
rule_there p n m c rule made has eq = subst (IsRule p) eq (constraint_made p made m.constraint c has).rule

-- the event of a point of one event, the place of a point of one place, and the resource of one of a resource
pub event_there : (p : Parts) (m : Point) (x : EventId) → IsSinglePoint p m → event_of m ≡ Some x
    → x.0 < length p.events
event_there p (Event e) x h at = subst (λ (z : EventId). z.0 < length p.events) (same_Some e x at) h
event_there p (EventResource e k) x h at = absurd h
event_there p (EventGroup g) x h at = absurd h
event_there p (EventPair k) x h at = absurd h
event_there p (Resource r) x h at = absurd h

pub role_there : (p : Parts) (m : Point) (role : List ℕ) (x : EventId) (k : ℕ) → IsPlacePoint p role m
    → place_of m ≡ Some (x, k) → role_at p.events x.0 k ≡ Some role
role_there p (EventResource e j) role x k h at =
    let both : (e, j) ≡ (x, k) = same_Some (e, j) (x, k) at in
    subst (λ (z : EventId × ℕ). role_at p.events z.0.0 z.1 ≡ Some role) both h
role_there p (Event e) role x k h at = absurd h
role_there p (EventGroup g) role x k h at = absurd h
role_there p (EventPair j) role x k h at = absurd h
role_there p (Resource r) role x k h at = absurd h

pub resource_there : (p : Parts) (m : Point) (x : ResourceId) → IsResourcePoint p m → resource_of m ≡ Some x
    → x.0 < length p.resources
resource_there p (Resource r) x h at = subst (λ (z : ResourceId). z.0 < length p.resources) (same_Some r x at) h
resource_there p (Event e) x h at = absurd h
resource_there p (EventResource e k) x h at = absurd h
resource_there p (EventGroup g) x h at = absurd h
resource_there p (EventPair k) x h at = absurd h

-- the meet slots of an event are within all
pub slots_within : (p : Parts) (e : ℕ) (event : EventInfo) → AreWellMade p → slice_get p.events e ≡ Some event
    → event.first_meet + event.duration ≤ units_of p.events
slots_within p e event made at =
    let own = event_made p made e event at in
    let d = own.duration.0 in
    let b = units_below p.events e (event.first_meet + event.duration - 1) made.first_meets
    (event, at, omega (arith, d), omega (arith, d)) in
    omega (arith, b, d)
