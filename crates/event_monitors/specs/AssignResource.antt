-- Assign Resource: the duration of the tasks at a place without a resource.
use Rattle.std.proofs.Common.{ℕ, ◌≡◌, ◌≤◌, true, Option, List, is_none, sym, subst}
use Rattle.khe_base.specs.declared.numbers.ResourceId.{ResourceId}
use Rattle.khe_instance.specs.Deviation.{deviation_at}
use Rattle.khe_instance.specs.EventDeviation.{unfilled_duration}
use Rattle.khe_instance.specs.KindLaws.{is_kind}
use Rattle.khe_instance.specs.Kinds.{kind_of}
use Rattle.khe_instance.specs.WellMade.{IsPointOf}
use Rattle.khe_instance.specs.declared.parts.Parts.{Parts}
use Rattle.khe_instance.specs.declared.points.Point.{Point}
use Rattle.khe_instance.specs.declared.points.Point.TheVariants.{Event, EventResource, EventGroup, EventPair as Pair}
use Rattle.khe_instance.specs.declared.points.Point.TheVariants.{Resource}
use Rattle.khe_instance.specs.declared.rules.Kind.TheVariants as kind
use Rattle.khe_instance.specs.declared.rules.Rule.{Rule}
use Rattle.khe_instance.specs.declared.rules.Rule.TheVariants.{AssignResource}
use Rattle.khe_told.specs.Lists.{meets_in, duties_in}
use Rattle.khe_told.specs.Turns.{SlotTurn}
use Rattle.khe_told.specs.declared.slots.Slot.{Slot}
use Rattle.khe_told.specs.declared.slots.Span.{Span}
use Rattle.event_monitors.specs.DutySums.{sum_over_duties}
use Rattle.event_monitors.specs.ShareLaws.{part_bounded, rule_of_kind, task_bounded, tasks_kept}
use Rattle.event_monitors.specs.Shares.{KeepsTasks, given_at, most_of, task_share, total_at}

abbrev pub unfilled : Rule → Option Span → Option (Option ResourceId) → ℕ
unfilled rule span given = task_share unfilled_duration span given

pub unfilled_bounded : (rule : Rule) (span : Option Span) (given : Option (Option ResourceId))
    → unfilled rule span given ≤ most_of span
unfilled_bounded rule span given = task_bounded unfilled_duration
    (λ (r : Option ResourceId) n. part_bounded (is_none r) n) span given

pub unfilled_unheard : (rule : Rule) (point : Point) (t : SlotTurn) → KeepsTasks t
    → unfilled rule t.after.span (given_at point t.after.given)
    ≡ unfilled rule t.before.span (given_at point t.before.given)
unfilled_unheard rule point t e = tasks_kept unfilled_duration point t e

pub unfilled_exact : (p : Parts) (s : List Slot) (r : Rule) (point : Point)
    → is_kind (kind_of r) kind.AssignResource ≡ true → IsPointOf p r point
    → deviation_at p (meets_in s) (duties_in s) r point ≡ total_at unfilled p r point s
unfilled_exact p s r point k i =
    let of = rule_of_kind kind.AssignResource r k in
    subst (λ q. IsPointOf p q point → deviation_at p (meets_in s) (duties_in s) q point ≡ total_at unfilled p q point s)
    (sym of.1) (at of.0 point) i
  where
    at : (role : List ℕ) (point : Point) → IsPointOf p (AssignResource role) point
        → deviation_at p (meets_in s) (duties_in s) (AssignResource role) point
        ≡ total_at unfilled p (AssignResource role) point s
    at role (Event e) i = absurd i
    at role (EventResource e place) i = sum_over_duties unfilled_duration e.0 place s
    at role (EventGroup g) i = absurd i
    at role (Pair g) i = absurd i
    at role (Resource g) i = absurd i
