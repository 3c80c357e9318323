-- Split Events: how many of the event's meets are too short or too long, and by how many it has too
-- few or too many.
use Rattle.std.proofs.Common.{ℕ, ◌≡◌, ◌≤◌, ◌+◌, ◌∙◌, true, refl, cond, Option, List, slice_get, sym, ap, subst}
use Rattle.std.proofs.Common.{arith}
use Rattle.std.specs.Option.{option_map_or}
use Rattle.khe_base.specs.Bounds.{count_outside}
use Rattle.khe_base.specs.declared.numbers.ResourceId.{ResourceId}
use Rattle.khe_base.specs.declared.numbers.TimeId.{TimeId}
use Rattle.khe_instance.specs.Deviation.{deviation_at}
use Rattle.khe_instance.specs.EventDeviation.{is_unfit}
use Rattle.khe_instance.specs.KindLaws.{is_kind}
use Rattle.khe_instance.specs.Kinds.{kind_of}
use Rattle.khe_instance.specs.WellMade.{IsMonitor, IsPointOf}
use Rattle.khe_instance.specs.declared.parts.Parts.{Parts}
use Rattle.khe_instance.specs.declared.points.Monitor.{Monitor}
use Rattle.khe_instance.specs.declared.points.Point.{Point}
use Rattle.khe_instance.specs.declared.points.Point.TheVariants.{Event, EventResource, EventGroup, EventPair as Pair}
use Rattle.khe_instance.specs.declared.points.Point.TheVariants.{Resource}
use Rattle.khe_instance.specs.declared.rules.Constraint.{Constraint}
use Rattle.khe_instance.specs.declared.rules.Kind.TheVariants as kind
use Rattle.khe_instance.specs.declared.rules.Rule.{Rule}
use Rattle.khe_instance.specs.declared.rules.Rule.TheVariants.{SplitEvents}
use Rattle.khe_told.specs.Agreement.{deviation_in}
use Rattle.khe_told.specs.Lists.{meets_in, duties_in}
use Rattle.khe_told.specs.Turns.{SlotTurn}
use Rattle.khe_told.specs.declared.slots.Slot.{Slot}
use Rattle.khe_told.specs.declared.slots.Span.{Span}
use Rattle.event_monitors.specs.MeetSums.{sum_over_meets}
use Rattle.event_monitors.specs.ShareLaws.{durations_kept, one_bounded, rule_of_kind, span_bounded}
use Rattle.event_monitors.specs.Shares.{KeepsDuration, given_at, most_of, span_share, total_at, total_of}

-- one for a meet that is too short or too long
abbrev pub one_unfit : ℕ → ℕ → Option TimeId → ℕ → ℕ
one_unfit least greatest start duration = cond (is_unfit least greatest duration) 1 0

abbrev pub unfit : Rule → Option Span → Option (Option ResourceId) → ℕ
unfit (SplitEvents a b c d) span given = span_share (one_unfit a b) span
unfit _ span given = 0

-- one for each meet
abbrev pub one_each : Option TimeId → ℕ → ℕ
one_each start duration = 1

abbrev pub meets : Rule → Option Span → Option (Option ResourceId) → ℕ
meets rule span given = span_share one_each span

-- what a rule makes of how many are unfit and how many there are
abbrev pub split_by : Rule → ℕ → ℕ → ℕ
split_by (SplitEvents a b least greatest) bad amount = bad + count_outside amount least greatest
split_by _ bad amount = 0

abbrev pub split_value : Parts → Monitor → ℕ → ℕ → ℕ
split_value p m bad amount = option_map_or (λ c. split_by c.rule bad amount) (slice_get p.constraints m.constraint) 0

pub unfit_bounded : (rule : Rule) (span : Option Span) (given : Option (Option ResourceId))
    → unfit rule span given ≤ most_of span
unfit_bounded (SplitEvents a b c d) span given =
    span_bounded (one_unfit a b) (λ (start : Option TimeId) n. one_bounded (is_unfit a b n) n) span
unfit_bounded _ span given = omega arith

pub meets_bounded : (rule : Rule) (span : Option Span) (given : Option (Option ResourceId))
    → meets rule span given ≤ most_of span
meets_bounded rule span given = span_bounded one_each (λ (start : Option TimeId) n. omega arith) span

pub unfit_unheard : (rule : Rule) (point : Point) (t : SlotTurn) → KeepsDuration t
    → unfit rule t.after.span (given_at point t.after.given) ≡ unfit rule t.before.span (given_at point t.before.given)
unfit_unheard (SplitEvents a b least greatest) point t e =
    durations_kept (one_unfit a b) (λ x y n. refl) t e
unfit_unheard _ point t e = refl

pub meets_unheard : (rule : Rule) (point : Point) (t : SlotTurn) → KeepsDuration t
    → meets rule t.after.span (given_at point t.after.given) ≡ meets rule t.before.span (given_at point t.before.given)
meets_unheard rule point t e = durations_kept one_each (λ x y n. refl) t e

split_at : (p : Parts) (s : List Slot) (r : Rule) (point : Point) → is_kind (kind_of r) kind.SplitEvents ≡ true
    → IsPointOf p r point
    → deviation_at p (meets_in s) (duties_in s) r point
    ≡ split_by r (total_at unfit p r point s) (total_at meets p r point s)
split_at p s r point k i =
    let of = rule_of_kind kind.SplitEvents r k in
    subst (λ q. IsPointOf p q point → deviation_at p (meets_in s) (duties_in s) q point
    ≡ split_by q (total_at unfit p q point s) (total_at meets p q point s)) (sym of.4)
    (at of.0 of.1 of.2 of.3 point) i
  where
    at : (a b c d : ℕ) (point : Point) → IsPointOf p (SplitEvents a b c d) point
        → deviation_at p (meets_in s) (duties_in s) (SplitEvents a b c d) point
        ≡ split_by (SplitEvents a b c d) (total_at unfit p (SplitEvents a b c d) point s)
        (total_at meets p (SplitEvents a b c d) point s)
    at a b c d (Event e) i = λ j. sum_over_meets (one_unfit a b) e.0 s j + count_outside
        (sum_over_meets one_each e.0 s j) c d
    at a b c d (EventResource e k) i = absurd i
    at a b c d (EventGroup g) i = absurd i
    at a b c d (Pair g) i = absurd i
    at a b c d (Resource g) i = absurd i

pub split_exact : (p : Parts) (m : Monitor) (s : List Slot) (bad amount : ℕ) → IsMonitor p m
    → is_kind m.kind kind.SplitEvents ≡ true → bad ≡ total_of unfit p m s → amount ≡ total_of meets p m s
    → deviation_in p s m ≡ split_value p m bad amount
split_exact p m s bad amount monitor serves b n =
    let c = monitor.0 in
    let there = monitor.1 in
    let is : bad ≡ total_at unfit p c.rule m.point s =
    b ∙ ap (λ o. option_map_or (λ (c : Constraint). total_at unfit p c.rule m.point s) o 0) there in
    let are : amount ≡ total_at meets p c.rule m.point s =
    n ∙ ap (λ o. option_map_or (λ (c : Constraint). total_at meets p c.rule m.point s) o 0) there in
    ap (λ o. option_map_or (λ (c : Constraint). deviation_at p (meets_in s) (duties_in s) c.rule m.point) o 0) there
    ∙ split_at p s c.rule m.point (ap (λ k. is_kind k kind.SplitEvents) (sym monitor.2) ∙ serves) monitor.3
    ∙ sym (λ j. split_by c.rule (is j) (are j))
    ∙ sym (ap (λ o. option_map_or (λ (c : Constraint). split_by c.rule bad amount) o 0) there)
