-- Prefer Times: the duration of the event's meets with a start outside the preferred times, or of
-- those alone of one duration.
use Rattle.std.proofs.Common.{ℕ, ◌≡◌, ◌≤◌, ◌&&◌, Bool, true, Option, List, sym, subst, arith, refl}
use Rattle.khe_base.specs.declared.numbers.ResourceId.{ResourceId}
use Rattle.khe_base.specs.declared.numbers.TimeId.{TimeId}
use Rattle.khe_instance.specs.Deviation.{deviation_at}
use Rattle.khe_instance.specs.EventDeviation.{allows, misplaced_duration, starts_outside}
use Rattle.khe_instance.specs.KindLaws.{is_kind}
use Rattle.khe_instance.specs.Kinds.{kind_of}
use Rattle.khe_instance.specs.WellMade.{IsPointOf}
use Rattle.khe_instance.specs.declared.parts.Parts.{Parts}
use Rattle.khe_instance.specs.declared.points.Point.{Point}
use Rattle.khe_instance.specs.declared.points.Point.TheVariants.{Event, EventResource, EventGroup, EventPair as Pair}
use Rattle.khe_instance.specs.declared.points.Point.TheVariants.{Resource}
use Rattle.khe_instance.specs.declared.rules.Kind.TheVariants as kind
use Rattle.khe_instance.specs.declared.rules.Rule.{Rule}
use Rattle.khe_instance.specs.declared.rules.Rule.TheVariants.{PreferTimes}
use Rattle.khe_told.specs.Lists.{meets_in, duties_in}
use Rattle.khe_told.specs.Turns.{SlotTurn}
use Rattle.khe_told.specs.declared.slots.Slot.{Slot}
use Rattle.khe_told.specs.declared.slots.Span.{Span}
use Rattle.event_monitors.specs.MeetSums.{sum_over_meets}
use Rattle.event_monitors.specs.ShareLaws.{meets_kept, part_bounded, rule_of_kind, span_bounded}
use Rattle.event_monitors.specs.Shares.{KeepsMeet, given_at, most_of, span_share, total_at}

abbrev pub misplaced : Rule → Option Span → Option (Option ResourceId) → ℕ
misplaced (PreferTimes times only) span given = span_share (misplaced_duration times only) span
misplaced _ span given = 0

pub misplaced_bounded : (rule : Rule) (span : Option Span) (given : Option (Option ResourceId))
    → misplaced rule span given ≤ most_of span
misplaced_bounded (PreferTimes times only) span given =
    span_bounded (misplaced_duration times only) (λ (start : Option TimeId) n. part_bounded
    (starts_outside times start && allows only n) n) span
misplaced_bounded _ span given = omega arith

pub misplaced_unheard : (rule : Rule) (point : Point) (t : SlotTurn) → KeepsMeet t
    → misplaced rule t.after.span (given_at point t.after.given)
    ≡ misplaced rule t.before.span (given_at point t.before.given)
misplaced_unheard (PreferTimes times only) point t e = meets_kept (misplaced_duration times only) t e
misplaced_unheard _ point t e = refl

pub misplaced_exact : (p : Parts) (s : List Slot) (r : Rule) (point : Point)
    → is_kind (kind_of r) kind.PreferTimes ≡ true → IsPointOf p r point
    → deviation_at p (meets_in s) (duties_in s) r point ≡ total_at misplaced p r point s
misplaced_exact p s r point k i =
    let of = rule_of_kind kind.PreferTimes r k in
    subst (λ q. IsPointOf p q point → deviation_at p (meets_in s) (duties_in s) q point
    ≡ total_at misplaced p q point s) (sym of.2) (at of.0 of.1 point) i
  where
    at : (times : List Bool) (only : Option ℕ) (point : Point) → IsPointOf p (PreferTimes times only) point
        → deviation_at p (meets_in s) (duties_in s) (PreferTimes times only) point
        ≡ total_at misplaced p (PreferTimes times only) point s
    at times only (Event e) i = sum_over_meets (misplaced_duration times only) e.0 s
    at times only (EventResource e k) i = absurd i
    at times only (EventGroup g) i = absurd i
    at times only (Pair g) i = absurd i
    at times only (Resource g) i = absurd i
