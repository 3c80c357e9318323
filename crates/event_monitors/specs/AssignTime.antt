-- Assign Time: the duration of the event's meets without a start.
use Rattle.std.proofs.Common.{ℕ, ◌≡◌, ◌≤◌, true, Option, List, is_none, sym, subst}
use Rattle.khe_base.specs.declared.numbers.ResourceId.{ResourceId}
use Rattle.khe_base.specs.declared.numbers.TimeId.{TimeId}
use Rattle.khe_instance.specs.Deviation.{deviation_at}
use Rattle.khe_instance.specs.EventDeviation.{unplaced_duration}
use Rattle.khe_instance.specs.KindLaws.{is_kind}
use Rattle.khe_instance.specs.Kinds.{kind_of}
use Rattle.khe_instance.specs.WellMade.{IsPointOf}
use Rattle.khe_instance.specs.declared.parts.Parts.{Parts}
use Rattle.khe_instance.specs.declared.points.Point.{Point}
use Rattle.khe_instance.specs.declared.points.Point.TheVariants.{Event, EventResource, EventGroup, EventPair as Pair}
use Rattle.khe_instance.specs.declared.points.Point.TheVariants.{Resource}
use Rattle.khe_instance.specs.declared.rules.Kind.TheVariants as kind
use Rattle.khe_instance.specs.declared.rules.Rule.{Rule}
use Rattle.khe_instance.specs.declared.rules.Rule.TheVariants.{AssignTime}
use Rattle.khe_told.specs.Lists.{meets_in, duties_in}
use Rattle.khe_told.specs.Turns.{SlotTurn}
use Rattle.khe_told.specs.declared.slots.Slot.{Slot}
use Rattle.khe_told.specs.declared.slots.Span.{Span}
use Rattle.event_monitors.specs.MeetSums.{sum_over_meets}
use Rattle.event_monitors.specs.ShareLaws.{meets_kept, part_bounded, rule_of_kind, span_bounded}
use Rattle.event_monitors.specs.Shares.{KeepsMeet, given_at, most_of, span_share, total_at}

abbrev pub unplaced : Rule → Option Span → Option (Option ResourceId) → ℕ
unplaced rule span given = span_share unplaced_duration span

pub unplaced_bounded : (rule : Rule) (span : Option Span) (given : Option (Option ResourceId))
    → unplaced rule span given ≤ most_of span
unplaced_bounded rule span given = span_bounded unplaced_duration
    (λ (start : Option TimeId) n. part_bounded (is_none start) n) span

pub unplaced_unheard : (rule : Rule) (point : Point) (t : SlotTurn) → KeepsMeet t
    → unplaced rule t.after.span (given_at point t.after.given)
    ≡ unplaced rule t.before.span (given_at point t.before.given)
unplaced_unheard rule point t e = meets_kept unplaced_duration t e

pub unplaced_exact : (p : Parts) (s : List Slot) (r : Rule) (point : Point) → is_kind (kind_of r) kind.AssignTime ≡ true
    → IsPointOf p r point
    → deviation_at p (meets_in s) (duties_in s) r point ≡ total_at unplaced p r point s
unplaced_exact p s r point k i =
    subst (λ q. IsPointOf p q point → deviation_at p (meets_in s) (duties_in s) q point ≡ total_at unplaced p q point s)
    (sym (rule_of_kind kind.AssignTime r k)) (at point) i
  where
    at : (point : Point) → IsPointOf p AssignTime point
        → deviation_at p (meets_in s) (duties_in s) AssignTime point ≡ total_at unplaced p AssignTime point s
    at (Event e) i = sum_over_meets unplaced_duration e.0 s
    at (EventResource e k) i = absurd i
    at (EventGroup g) i = absurd i
    at (Pair g) i = absurd i
    at (Resource g) i = absurd i
