-- The pair of events that a monitor of the kind watches.
use Rattle.std.proofs.Common.{ℕ, ◌≡◌, ◌<◌, ◌==◌, ◌||◌, ◌∙◌, true, false, Some, None, List, [], length, refl, sym, ap}
use Rattle.std.proofs.Common.{subst}
use Rattle.std.proofs.lemmas.Option.{none-some}
use Rattle.std.specs.Option.{option_and_then, option_map_or}
use Rattle.khe_base.proofs.ListLemmas.{all-there, there}
use Rattle.khe_instance.specs.Deviation.{deviation, deviation_at}
use Rattle.khe_instance.specs.EventDeviation.{order_events}
use Rattle.khe_instance.specs.Watching.{names_event}
use Rattle.khe_instance.specs.WellMade.{AreBounds, AreWellMade, IsConstraint, IsMonitor, IsPairPoint, IsPointOf, IsRule}
use Rattle.khe_instance.specs.declared.parts.Parts.{Parts}
use Rattle.khe_instance.specs.declared.points.Monitor.{Monitor}
use Rattle.khe_instance.specs.declared.points.Point.{Point}
use Rattle.khe_instance.specs.declared.points.Point.TheVariants.{Event, EventResource, EventGroup, EventPair as Pair}
use Rattle.khe_instance.specs.declared.points.Point.TheVariants.{Resource}
use Rattle.khe_instance.specs.declared.rules.Constraint.{Constraint}
use Rattle.khe_instance.specs.declared.rules.EventPair.{EventPair}
use Rattle.khe_instance.specs.declared.rules.Kind.TheVariants as kind
use Rattle.khe_instance.specs.declared.rules.Rule.{Rule}
use Rattle.khe_instance.specs.declared.rules.Rule.TheVariants.{OrderEvents}
use Rattle.khe_instance.specs.declared.states.Duty.{Duty}
use Rattle.khe_instance.specs.declared.states.Meet.{Meet}
use Rattle.event_monitors.specs.Posts.{names}
use Rattle.event_monitors.specs.ShareLaws.{rule_of_kind}
use Rattle.set_monitors.specs.OrderPairs.{is_order, pair_at, pair_in, pairs_of}

pub record HasPair (p : Parts) (m : Monitor) (q : EventPair) : Type 0 where
  pub at : pair_at p m ≡ Some q
  pub first : q.first.0 < length p.events
  pub second : q.second.0 < length p.events
  pub names_are : (e : ℕ) → names p e m ≡ ((q.first.0 == e) || (q.second.0 == e))
  pub is : (meets : List Meet) (ds : List Duty)
      → deviation p meets ds m ≡ order_events meets q.first.0 q.second.0 q.min q.max

point_of : (pairs : List EventPair) (point : Point) → IsPairPoint pairs point
    → (k : ℕ) × (point ≡ Pair k) × (k < length pairs)
point_of pairs (Pair k) i = (k, refl, i)
point_of pairs (Event e) i = absurd i
point_of pairs (EventResource e k) i = absurd i
point_of pairs (EventGroup g) i = absurd i
point_of pairs (Resource r) i = absurd i

pub its_pair : (p : Parts) (m : Monitor) → AreWellMade p → IsMonitor p m → is_order m.kind ≡ true
    → (q : EventPair) × HasPair p m q
its_pair p m made monitor serves =
    let c : Constraint = monitor.0 in
    let found = monitor.1 in
    let of = rule_of_kind kind.OrderEvents c.rule (ap is_order (sym monitor.2) ∙ serves) in
    let pairs = of.0 in
    let r : c.rule ≡ OrderEvents pairs = of.1 in
    let point = point_of pairs m.point (subst (λ rule. IsPointOf p rule m.point) r monitor.3) in
    let k = point.0 in
    let w : m.point ≡ Pair k = point.1 in
    let q = there pairs k point.2 in
    let rule : IsRule p (OrderEvents pairs) = subst (IsRule p) r
    (all-there (IsConstraint p) p.constraints m.constraint c made.constraints found).rule in
    let within = all-there (λ (q : EventPair). (q.first.0 < length p.events) × (q.second.0 < length p.events)
    × AreBounds q.min q.max) pairs k q.value rule q.found in (
      q.value,
      record {
        at = ap (λ o. option_and_then (λ (c : Constraint). pair_in (pairs_of c.rule) m.point) o) found
            ∙ (λ i. pair_in (pairs_of (r i)) (w i)) ∙ q.found;
        first = within.0;
        second = within.1;
        names_are = λ e. ap (λ o. option_map_or (λ (c : Constraint). names_event p c.rule m.point e) o false) found
            ∙ (λ i. names_event p (r i) (w i) e)
            ∙ ap (λ o. option_map_or (λ (q : EventPair). (q.first.0 == e) || (q.second.0 == e)) o false) q.found;
        is = λ meets ds. ap (λ o. option_map_or (λ (c : Constraint). deviation_at p meets ds c.rule m.point) o 0) found
            ∙ (λ i. deviation_at p meets ds (r i) (w i))
            ∙ ap (λ o. option_map_or (λ (q : EventPair). order_events meets q.first.0 q.second.0 q.min q.max) o 0)
            q.found;
      },
    )

-- both events of a pair are there
pub pair_within : (p : Parts) (m : Monitor) (q : EventPair) → AreWellMade p → IsMonitor p m → pair_at p m ≡ Some q
    → (q.first.0 < length p.events) × (q.second.0 < length p.events)
pair_within p m q made monitor h =
    let c : Constraint = monitor.0 in
    by c.rule m.point (all-there (IsConstraint p) p.constraints m.constraint c made.constraints monitor.1).rule
    (sym (ap (λ o. option_and_then (λ (c : Constraint). pair_in (pairs_of c.rule) m.point) o) monitor.1) ∙ h)
  where
    none : (point : Point) → pair_in [] point ≡ None
    none (Pair k) = refl
    none _ = refl

    at : (pairs : List EventPair) (point : Point) → IsRule p (OrderEvents pairs) → pair_in pairs point ≡ Some q
        → (q.first.0 < length p.events) × (q.second.0 < length p.events)
    at pairs (Pair k) rule h = let w = all-there (λ (q : EventPair). (q.first.0 < length p.events)
        × (q.second.0 < length p.events) × AreBounds q.min q.max) pairs k q rule h in (w.0, w.1)
    at pairs _ rule h = absurd (none-some q h)

    by : (rule : Rule) (point : Point) → IsRule p rule → pair_in (pairs_of rule) point ≡ Some q
        → (q.first.0 < length p.events) × (q.second.0 < length p.events)
    by (OrderEvents pairs) point rule h = at pairs point rule h
    by _ point rule h = absurd (none-some q (sym (none point) ∙ h))
