-- Laws on the sums of monitors, for any shares.
use Rattle.std.proofs.Common.{ℕ, ◌≡◌, ◌≤◌, ◌<◌, ◌+◌, ◌∙◌, Bool, true, false, cond, Option, Some, None, List, set}
use Rattle.std.proofs.Common.{slice_get, length, refl, sym, ap, subst, arith, sum_by}
use Rattle.std.specs.Option.{option_map, option_map_or}
use Rattle.std.proofs.lemmas.Option.{none-some, same_Some}
use Rattle.std.proofs.lemmas.List.Sums.{sum_by-set}
use Rattle.khe_base.specs.declared.numbers.ResourceId.{ResourceId}
use Rattle.khe_base.specs.declared.numbers.TimeId.{TimeId}
use Rattle.khe_instance.specs.Deviation.{deviation_at}
use Rattle.khe_instance.specs.KindLaws.{IsOfKind, is_kind, of_kind, same_kind}
use Rattle.khe_instance.specs.Kinds.{kind_of}
use Rattle.khe_instance.specs.Watching.{names_event}
use Rattle.khe_instance.specs.WellMade.{IsMonitor, IsPointOf}
use Rattle.khe_instance.specs.declared.parts.Parts.{Parts}
use Rattle.khe_instance.specs.declared.points.Monitor.{Monitor}
use Rattle.khe_instance.specs.declared.points.Point.{Point}
use Rattle.khe_instance.specs.declared.rules.Constraint.{Constraint}
use Rattle.khe_instance.specs.declared.rules.Kind.{Kind}
use Rattle.khe_instance.specs.declared.rules.Rule.{Rule}
use Rattle.khe_told.specs.Agreement.{deviation_in}
use Rattle.khe_told.specs.Lists.{meets_in, duties_in}
use Rattle.khe_told.specs.Slots.{emptied, slot_at, no_slot}
use Rattle.khe_told.specs.Turns.{IsTurn, SlotTurn, turned}
use Rattle.khe_told.specs.declared.slots.Slot.{Slot}
use Rattle.khe_told.specs.declared.slots.Span.{Span}
use Rattle.event_monitors.specs.Posts.{names}
use Rattle.event_monitors.specs.Shares.{IsSameShare, KeepsDuration, KeepsMeet, KeepsTasks, given_at}
use Rattle.event_monitors.specs.Shares.{measured_by, most_of, share_of, span_share, task_share, total_at, total_of}

-- a rule of a kind's number is one of the kind
pub rule_of_kind : (k : Kind) (r : Rule) → is_kind (kind_of r) k ≡ true → IsOfKind k r
rule_of_kind k r h = subst (λ a. IsOfKind a r) (same_kind (kind_of r) k h) (of_kind r)

-- what is at most the duration plus 1 may be the share of a slot
pub span_bounded : (f : Option TimeId → ℕ → ℕ) → ((start : Option TimeId) (n : ℕ) → f start n ≤ n + 1)
    → (span : Option Span) → span_share f span ≤ most_of span
span_bounded f h None = omega arith
span_bounded f h (Some y) = h y.start y.duration

pub task_bounded : (f : Option ResourceId → ℕ → ℕ) → ((r : Option ResourceId) (n : ℕ) → f r n ≤ n + 1)
    → (span : Option Span) (given : Option (Option ResourceId)) → task_share f span given ≤ most_of span
task_bounded f h None given = omega arith
task_bounded f h (Some y) None = omega arith
task_bounded f h (Some y) (Some r) = h r y.duration

-- as are none, one, and the duration, where a test holds
pub part_bounded : (b : Bool) (n : ℕ) → cond b n 0 ≤ n + 1
part_bounded true n = omega arith
part_bounded false n = omega arith

pub one_bounded : (b : Bool) (n : ℕ) → cond b 1 0 ≤ n + 1
one_bounded true n = omega arith
one_bounded false n = omega arith

-- what a turn leaves
pub meets_kept : (f : Option TimeId → ℕ → ℕ) (t : SlotTurn) → KeepsMeet t
    → span_share f t.after.span ≡ span_share f t.before.span
meets_kept f t h = ap (span_share f) (sym h)

pub durations_kept : (f : Option TimeId → ℕ → ℕ) → ((a b : Option TimeId) (n : ℕ) → f a n ≡ f b n)
    → (t : SlotTurn) → KeepsDuration t → span_share f t.after.span ≡ span_share f t.before.span
durations_kept f same t h = by t.before.span t.after.span h
  where
    by : (x y : Option Span) → option_map (λ (z : Span). z.duration) x ≡ option_map (λ (z : Span). z.duration) y
        → span_share f y ≡ span_share f x
    by None None h = refl
    by (Some x) None h = absurd (none-some _ (sym h))
    by None (Some y) h = absurd (none-some _ h)
    by (Some x) (Some y) h = same y.start x.start y.duration ∙ ap (f x.start) (sym (same_Some x.duration y.duration h))

pub tasks_kept : (f : Option ResourceId → ℕ → ℕ) (point : Point) (t : SlotTurn) → KeepsTasks t
    → task_share f t.after.span (given_at point t.after.given)
    ≡ task_share f t.before.span (given_at point t.before.given)
tasks_kept f point t h =
    ap (λ g. task_share f t.after.span (given_at point g)) (sym h.0)
    ∙ by t.before.span t.after.span (given_at point t.before.given) h.1
  where
    by : (x y : Option Span) (o : Option (Option ResourceId))
        → option_map (λ (z : Span). z.duration) x ≡ option_map (λ (z : Span). z.duration) y
        → task_share f y o ≡ task_share f x o
    by None None o h = refl
    by (Some x) None o h = absurd (none-some _ (sym h))
    by None (Some y) o h = absurd (none-some _ h)
    by (Some x) (Some y) None h = refl
    by (Some x) (Some y) (Some r) h = ap (f r) (sym (same_Some x.duration y.duration h))

module _ (share : Rule → Option Span → Option (Option ResourceId) → ℕ) where
  -- a turn that leaves what its slot counts for leaves a monitor's sum
  sum_unheard : (p : Parts) (rule : Rule) (point : Point) (s : List Slot) (t : SlotTurn) → IsTurn p s t
      → share rule t.after.span (given_at point t.after.given)
      ≡ share rule t.before.span (given_at point t.before.given)
      → total_at share p rule point (turned s t) ≡ total_at share p rule point s
  sum_unheard p rule point s t turns same =
      let k = t.before.meet.0 in
      let a = sum_by-set (share_of share p rule point) s k t.after no_slot turns.there in
      let e : share_of share p rule point t.after ≡ share_of share p rule point (slot_at s k) =
      ap (λ e. cond {A = ℕ} (names_event p rule point e) (share rule t.after.span (given_at point t.after.given)) 0)
      (ap (λ (y : Slot). y.event.0) turns.same)
      ∙ ap (λ v. cond {A = ℕ} (names_event p rule point t.before.event.0) v 0) same
      ∙ ap (share_of share p rule point) (sym turns.slot) in
      omega (arith, a, e)

  pub total_unheard : (p : Parts) (m : Monitor) (s : List Slot) (t : SlotTurn) (total : ℕ) → IsTurn p s t
      → ((rule : Rule) (point : Point)
      → share rule t.after.span (given_at point t.after.given)
      ≡ share rule t.before.span (given_at point t.before.given))
      → total ≡ total_of share p m s → total ≡ total_of share p m (turned s t)
  total_unheard p m s t total turns same h = h ∙ sym (by (slice_get p.constraints m.constraint))
    where
      by : (o : Option Constraint) → option_map_or (λ (k : Constraint). total_at share p k.rule m.point (turned s t)) o
          0
          ≡ option_map_or (λ (k : Constraint). total_at share p k.rule m.point s) o 0
      by None = refl
      by (Some k) = sum_unheard p k.rule m.point s t turns (same k.rule m.point)

  -- so does one that leaves it in the sum of the monitor alone
  pub total_unaffected : (p : Parts) (m : Monitor) (s : List Slot) (t : SlotTurn) (total : ℕ) → IsTurn p s t
      → IsSameShare share p m t → total ≡ total_of share p m s → total ≡ total_of share p m (turned s t)
  total_unaffected p m s t total turns same h = h ∙ sym (by (slice_get p.constraints m.constraint) same)
    where
      by : (o : Option Constraint) → ((c : Constraint) → o ≡ Some c
          → share c.rule t.after.span (given_at m.point t.after.given)
          ≡ share c.rule t.before.span (given_at m.point t.before.given))
          → option_map_or (λ (k : Constraint). total_at share p k.rule m.point (turned s t)) o 0
          ≡ option_map_or (λ (k : Constraint). total_at share p k.rule m.point s) o 0
      by None same = refl
      by (Some k) same = sum_unheard p k.rule m.point s t turns (same k refl)

  share_none : (p : Parts) (rule : Rule) (point : Point) (x : Slot) → names_event p rule point x.event.0 ≡ false
      → share_of share p rule point x ≡ 0
  share_none p rule point x h = ap (λ b. cond b (share rule x.span (given_at point x.given)) 0) h

  sum_elsewhere : (p : Parts) (rule : Rule) (point : Point) (s : List Slot) (k : ℕ) (x : Slot) → k < length s
      → emptied x ≡ emptied (slot_at s k)
      → names_event p rule point (slot_at s k).event.0 ≡ false
      → sum_by (share_of share p rule point) (set s k x) ≡ sum_by (share_of share p rule point) s
  sum_elsewhere p rule point s k x l same named =
      let a = sum_by-set (share_of share p rule point) s k x no_slot l in
      let old = share_none p rule point (slot_at s k) named in
      let e : x.event.0 ≡ (slot_at s k).event.0 = ap (λ (y : Slot). y.event.0) same in
      let new = share_none p rule point x (ap (names_event p rule point) e ∙ named) in
      omega (arith, a, old, new)

  -- another slot in place of one of another event leaves a monitor's sum
  pub total_elsewhere : (p : Parts) (m : Monitor) (s : List Slot) (k : ℕ) (x : Slot) (total : ℕ) → k < length s
      → emptied x ≡ emptied (slot_at s k)
      → names p (slot_at s k).event.0 m ≡ false → IsMonitor p m → total ≡ total_of share p m s
      → total ≡ total_of share p m (set s k x)
  total_elsewhere p m s k x total l same named monitor h =
      let c = monitor.0 in
      let there = monitor.1 in
      let n : names_event p c.rule m.point (slot_at s k).event.0 ≡ false =
      ap (λ o. option_map_or (λ (c : Constraint). names_event p c.rule m.point (slot_at s k).event.0) o false)
      (sym there) ∙ named in
      h ∙ ap (λ o. option_map_or (λ (c : Constraint). total_at share p c.rule m.point s) o 0) there
      ∙ sym (sum_elsewhere p c.rule m.point s k x l same n)
      ∙ sym (ap (λ o. option_map_or (λ (c : Constraint). total_at share p c.rule m.point (set s k x)) o 0) there)

  -- where a rule makes its deviation of its sum, so does a monitor
  pub measured_total : (served : Kind → Bool) (measured : Rule → ℕ → ℕ)
      → ((p : Parts) (s : List Slot) (r : Rule) (point : Point) → served (kind_of r) ≡ true → IsPointOf p r point
      → deviation_at p (meets_in s) (duties_in s) r point ≡ measured r (total_at share p r point s))
      → (p : Parts) (m : Monitor) (s : List Slot) (total : ℕ) → IsMonitor p m → served m.kind ≡ true
      → total ≡ total_of share p m s → deviation_in p s m ≡ measured_by measured p m total
  measured_total served measured law p m s total monitor serves h =
      let c = monitor.0 in
      let there = monitor.1 in
      let is : total ≡ total_at share p c.rule m.point s =
      h ∙ ap (λ o. option_map_or (λ (c : Constraint). total_at share p c.rule m.point s) o 0) there in
      ap (λ o. option_map_or (λ (c : Constraint). deviation_at p (meets_in s) (duties_in s) c.rule m.point) o 0) there
      ∙ law p s c.rule m.point (ap served (sym monitor.2) ∙ serves) monitor.3
      ∙ ap (measured c.rule) (sym is)
      ∙ sym (ap (λ o. option_map_or (λ (c : Constraint). measured c.rule total) o 0) there)
