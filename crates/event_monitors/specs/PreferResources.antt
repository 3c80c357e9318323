-- Prefer Resources: the duration of the tasks at a place with a resource outside the preferred ones.
use Rattle.std.proofs.Common.{ℕ, ◌≡◌, ◌≤◌, Bool, true, Option, List, sym, subst, arith, refl}
use Rattle.khe_base.specs.declared.numbers.ResourceId.{ResourceId}
use Rattle.khe_instance.specs.Deviation.{deviation_at}
use Rattle.khe_instance.specs.EventDeviation.{given_outside, misfilled_duration}
use Rattle.khe_instance.specs.KindLaws.{is_kind}
use Rattle.khe_instance.specs.Kinds.{kind_of}
use Rattle.khe_instance.specs.WellMade.{IsPointOf}
use Rattle.khe_instance.specs.declared.parts.Parts.{Parts}
use Rattle.khe_instance.specs.declared.points.Point.{Point}
use Rattle.khe_instance.specs.declared.points.Point.TheVariants.{Event, EventResource, EventGroup, EventPair as Pair}
use Rattle.khe_instance.specs.declared.points.Point.TheVariants.{Resource}
use Rattle.khe_instance.specs.declared.rules.Kind.TheVariants as kind
use Rattle.khe_instance.specs.declared.rules.Rule.{Rule}
use Rattle.khe_instance.specs.declared.rules.Rule.TheVariants.{PreferResources}
use Rattle.khe_told.specs.Lists.{meets_in, duties_in}
use Rattle.khe_told.specs.Turns.{SlotTurn}
use Rattle.khe_told.specs.declared.slots.Slot.{Slot}
use Rattle.khe_told.specs.declared.slots.Span.{Span}
use Rattle.event_monitors.specs.DutySums.{sum_over_duties}
use Rattle.event_monitors.specs.ShareLaws.{part_bounded, rule_of_kind, task_bounded, tasks_kept}
use Rattle.event_monitors.specs.Shares.{KeepsTasks, given_at, most_of, task_share, total_at}

abbrev pub misfilled : Rule → Option Span → Option (Option ResourceId) → ℕ
misfilled (PreferResources resources role) span given = task_share (misfilled_duration resources) span given
misfilled _ span given = 0

pub misfilled_bounded : (rule : Rule) (span : Option Span) (given : Option (Option ResourceId))
    → misfilled rule span given ≤ most_of span
misfilled_bounded (PreferResources resources role) span given =
    task_bounded (misfilled_duration resources) (λ (r : Option ResourceId) n. part_bounded (given_outside resources r)
    n) span given
misfilled_bounded _ span given = omega arith

pub misfilled_unheard : (rule : Rule) (point : Point) (t : SlotTurn) → KeepsTasks t
    → misfilled rule t.after.span (given_at point t.after.given)
    ≡ misfilled rule t.before.span (given_at point t.before.given)
misfilled_unheard (PreferResources resources role) point t e =
    tasks_kept (misfilled_duration resources) point t e
misfilled_unheard _ point t e = refl

pub misfilled_exact : (p : Parts) (s : List Slot) (r : Rule) (point : Point)
    → is_kind (kind_of r) kind.PreferResources ≡ true → IsPointOf p r point
    → deviation_at p (meets_in s) (duties_in s) r point ≡ total_at misfilled p r point s
misfilled_exact p s r point k i =
    let of = rule_of_kind kind.PreferResources r k in
    subst (λ q. IsPointOf p q point → deviation_at p (meets_in s) (duties_in s) q point
    ≡ total_at misfilled p q point s) (sym of.2) (at of.0 of.1 point) i
  where
    at : (resources : List Bool) (role : List ℕ) (point : Point) → IsPointOf p (PreferResources resources role) point
        → deviation_at p (meets_in s) (duties_in s) (PreferResources resources role) point
        ≡ total_at misfilled p (PreferResources resources role) point s
    at resources role (Event e) i = absurd i
    at resources role (EventResource e place) i = sum_over_duties (misfilled_duration resources) e.0 place s
    at resources role (EventGroup g) i = absurd i
    at resources role (Pair g) i = absurd i
    at resources role (Resource g) i = absurd i
