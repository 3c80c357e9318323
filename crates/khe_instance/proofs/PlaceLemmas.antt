-- The places of events that roles and monitors speak of are there.
use Rattle.std.proofs.Common.{◌≡◌, ◌∙◌, sym, ap, subst, ℕ, ◌<◌, ◌≤◌, Bool, Option, Some, None, List}
use Rattle.std.proofs.Common.{length, slice_get, ◌⊎◌, inl, inr}
use Rattle.std.specs.Option.{option_and_then, option_map_or}
use Rattle.std.proofs.lemmas.Bool.{cases_lt}
use Rattle.std.proofs.lemmas.Option.{none-some, slice_get_past}
use Rattle.khe_base.specs.declared.numbers.EventId.{EventId}
use Rattle.khe_instance.specs.ByPlace.{HasPoint}
use Rattle.khe_instance.specs.Listing.{AreTabled}
use Rattle.khe_instance.specs.Lookups.{places_at, role_at}
use Rattle.khe_instance.specs.WellMade.{IsMonitor, IsPointOf}
use Rattle.khe_instance.specs.declared.parts.EventInfo.{EventInfo}
use Rattle.khe_instance.specs.declared.parts.Parts.{Parts}
use Rattle.khe_instance.specs.declared.points.Monitor.{Monitor}
use Rattle.khe_instance.specs.declared.points.Point.{Point}
use Rattle.khe_instance.specs.declared.points.Point.TheVariants.{Event, EventResource, EventGroup, EventPair as Pair}
use Rattle.khe_instance.specs.declared.points.Point.TheVariants.{Resource}
use Rattle.khe_instance.specs.declared.rules.Rule.{Rule}
use Rattle.khe_instance.specs.declared.rules.Rule.TheVariants.{AssignResource, PreferResources}
use Rattle.khe_instance.proofs.WatchedLaws.{place-there}

-- a role stands only at a place that is there
pub place_within : (infos : List EventInfo) (e k : ℕ) (role : List ℕ) → role_at infos e k ≡ Some role
    → k < places_at infos e
place_within infos e k role h = by (slice_get infos e) h
  where
    at_place : (event : EventInfo) → option_and_then (λ p. p.role) (slice_get event.places k) ≡ Some role
        → k < length event.places
    at_place event g = found (cases_lt k (length event.places))
      where
        found : (k < length event.places) ⊎ (length event.places ≤ k) → k < length event.places
        found (inl l) = l
        found (inr l) = absurd (none-some role (sym (ap (option_and_then (λ p. p.role))
            (slice_get_past event.places k l)) ∙ g))

    by : (o : Option EventInfo) → option_and_then (λ event. option_and_then (λ p. p.role) (slice_get event.places k)) o
        ≡ Some role → k < option_map_or (λ event. length event.places) o 0
    by None g = absurd (none-some role g)
    by (Some event) g = at_place event g

-- the place of a rule's point is there
place_of_point : (p : Parts) (rule : Rule) (e : EventId) (k : ℕ) → IsPointOf p rule (EventResource e k)
    → k < places_at p.events e.0
place_of_point p (AssignResource role) e k h = place_within p.events e.0 k role h
place_of_point p (PreferResources resources role) e k h = place_within p.events e.0 k role h
place_of_point p _ e k h = absurd h

-- so a table of all places has it
pub has_point : (p : Parts) (test : ℕ → ℕ → ℕ → Bool) (n : ℕ) (table : List (List (List ℕ))) (m : Monitor)
    → IsMonitor p m → AreTabled test (length p.events) (places_at p.events) n table → HasPoint m.point table
has_point p test n table m (c, there, kind, at) are = by m.point at
  where
    by : (point : Point) → IsPointOf p c.rule point → HasPoint point table
    by (EventResource e k) h =
        let event = place-there p c.rule e k h in (
          subst (λ n. e.0 < n) (sym are.rows_are) event,
          subst (λ n. k < n) (sym (are.widths e.0 event)) (place_of_point p c.rule e k h),
        )
    by (Event e) h = tt
    by (EventGroup g) h = tt
    by (Pair k) h = tt
    by (Resource r) h = tt
