-- Distribute Split Events: by how many the event has too few or too many meets of a duration.
use Rattle.std.proofs.Common.{ℕ, ◌≡◌, ◌≤◌, ◌==◌, true, cond, Option, List, sym, ap, subst, arith, refl}
use Rattle.khe_base.specs.Bounds.{count_outside}
use Rattle.khe_base.specs.declared.numbers.ResourceId.{ResourceId}
use Rattle.khe_base.specs.declared.numbers.TimeId.{TimeId}
use Rattle.khe_instance.specs.Deviation.{deviation_at}
use Rattle.khe_instance.specs.KindLaws.{is_kind}
use Rattle.khe_instance.specs.Kinds.{kind_of}
use Rattle.khe_instance.specs.WellMade.{IsPointOf}
use Rattle.khe_instance.specs.declared.parts.Parts.{Parts}
use Rattle.khe_instance.specs.declared.points.Point.{Point}
use Rattle.khe_instance.specs.declared.points.Point.TheVariants.{Event, EventResource, EventGroup, EventPair as Pair}
use Rattle.khe_instance.specs.declared.points.Point.TheVariants.{Resource}
use Rattle.khe_instance.specs.declared.rules.Kind.TheVariants as kind
use Rattle.khe_instance.specs.declared.rules.Rule.{Rule}
use Rattle.khe_instance.specs.declared.rules.Rule.TheVariants.{DistributeSplitEvents}
use Rattle.khe_told.specs.Lists.{meets_in, duties_in}
use Rattle.khe_told.specs.Turns.{SlotTurn}
use Rattle.khe_told.specs.declared.slots.Slot.{Slot}
use Rattle.khe_told.specs.declared.slots.Span.{Span}
use Rattle.event_monitors.specs.MeetSums.{sum_over_meets}
use Rattle.event_monitors.specs.ShareLaws.{durations_kept, one_bounded, rule_of_kind, span_bounded}
use Rattle.event_monitors.specs.Shares.{KeepsDuration, given_at, most_of, span_share, total_at}

-- one for a meet of the duration
abbrev pub one_of : ℕ → Option TimeId → ℕ → ℕ
one_of only start duration = cond (duration == only) 1 0

abbrev pub of_duration : Rule → Option Span → Option (Option ResourceId) → ℕ
of_duration (DistributeSplitEvents only least greatest) span given = span_share (one_of only) span
of_duration _ span given = 0

-- how far their number lies outside the bounds
abbrev pub amount_outside : Rule → ℕ → ℕ
amount_outside (DistributeSplitEvents only least greatest) total = count_outside total least greatest
amount_outside _ total = 0

pub of_duration_bounded : (rule : Rule) (span : Option Span) (given : Option (Option ResourceId))
    → of_duration rule span given ≤ most_of span
of_duration_bounded (DistributeSplitEvents only least greatest) span given =
    span_bounded (one_of only) (λ (start : Option TimeId) n. one_bounded (n == only) n) span
of_duration_bounded _ span given = omega arith

pub of_duration_unheard : (rule : Rule) (point : Point) (t : SlotTurn) → KeepsDuration t
    → of_duration rule t.after.span (given_at point t.after.given)
    ≡ of_duration rule t.before.span (given_at point t.before.given)
of_duration_unheard (DistributeSplitEvents only least greatest) point t e =
    durations_kept (one_of only) (λ a b n. refl) t e
of_duration_unheard _ point t e = refl

pub of_duration_exact : (p : Parts) (s : List Slot) (r : Rule) (point : Point)
    → is_kind (kind_of r) kind.DistributeSplitEvents ≡ true → IsPointOf p r point
    → deviation_at p (meets_in s) (duties_in s) r point ≡ amount_outside r (total_at of_duration p r point s)
of_duration_exact p s r point k i =
    let of = rule_of_kind kind.DistributeSplitEvents r k in
    subst (λ q. IsPointOf p q point → deviation_at p (meets_in s) (duties_in s) q point
    ≡ amount_outside q (total_at of_duration p q point s)) (sym of.3) (at of.0 of.1 of.2 point) i
  where
    at : (only least greatest : ℕ) (point : Point) → IsPointOf p (DistributeSplitEvents only least greatest) point
        → deviation_at p (meets_in s) (duties_in s) (DistributeSplitEvents only least greatest) point
        ≡ amount_outside (DistributeSplitEvents only least greatest)
        (total_at of_duration p (DistributeSplitEvents only least greatest) point s)
    at only least greatest (Event e) i = ap (λ n. count_outside n least greatest) (sum_over_meets (one_of only) e.0 s)
    at only least greatest (EventResource e k) i = absurd i
    at only least greatest (EventGroup g) i = absurd i
    at only least greatest (Pair g) i = absurd i
    at only least greatest (Resource g) i = absurd i
