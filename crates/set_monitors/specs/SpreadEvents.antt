-- Spread Events: how many meets of a monitor's events start in each listed time group, and by how
-- many these are too few or too many.
use Rattle.std.proofs.Common.{ℕ, ◌≡◌, ◌≤◌, ◌<◌, ◌+◌, ◌-◌, ◌∙◌, ◌&&◌, Bool, true, false, cond, Option, Some, None, List}
use Rattle.std.proofs.Common.{[], ◌∷◌, set, length, slice_get, refl, sym, ap, subst, arith, sum_by, count_by}
use Rattle.std.specs.Option.{option_and_then, option_map_or}
use Rattle.std.proofs.lemmas.List.Sums.{sum_by-cons}
use Rattle.std.proofs.Common.{zero-add}
use Rattle.khe_base.specs.Bounds.{count_outside}
use Rattle.khe_base.specs.IdSet.{has_member}
use Rattle.khe_base.specs.declared.limits.TheConstants.{DURATION, GREATEST_DEVIATION}
use Rattle.khe_base.specs.declared.numbers.TimeId.{TimeId}
use Rattle.khe_base.proofs.ListLemmas.{there}
use Rattle.khe_instance.specs.Deviation.{deviation_at}
use Rattle.khe_instance.specs.EventDeviation.{starts_in}
use Rattle.khe_instance.specs.KindLaws.{is_kind}
use Rattle.khe_instance.specs.Kinds.{kind_of}
use Rattle.khe_instance.specs.Watching.{names_event}
use Rattle.khe_instance.specs.WellMade.{IsMonitor, IsPointOf}
use Rattle.khe_instance.specs.declared.parts.GroupInfo.{GroupInfo}
use Rattle.khe_instance.specs.declared.parts.Parts.{Parts}
use Rattle.khe_instance.specs.declared.points.Monitor.{Monitor}
use Rattle.khe_instance.specs.declared.points.Point.{Point}
use Rattle.khe_instance.specs.declared.points.Point.TheVariants.{Event, EventResource, EventGroup, EventPair as Pair}
use Rattle.khe_instance.specs.declared.points.Point.TheVariants.{Resource}
use Rattle.khe_instance.specs.declared.rules.Constraint.{Constraint}
use Rattle.khe_instance.specs.declared.rules.Kind.TheVariants as kind
use Rattle.khe_instance.specs.declared.rules.Rule.{Rule}
use Rattle.khe_instance.specs.declared.rules.Rule.TheVariants.{SpreadEvents}
use Rattle.khe_instance.specs.declared.rules.Spread.{Spread}
use Rattle.khe_instance.specs.declared.states.Meet.{Meet}
use Rattle.khe_told.specs.Agreement.{deviation_in}
use Rattle.khe_told.specs.Lists.{duties_in, meets_in}
use Rattle.khe_told.specs.Slots.{emptied, slot_at}
use Rattle.khe_told.specs.Turns.{IsTurn, SlotTurn, turned}
use Rattle.khe_told.specs.declared.slots.Slot.{Slot}
use Rattle.khe_told.specs.declared.slots.Span.{Span}
use Rattle.event_monitors.specs.Posts.{names}
use Rattle.event_monitors.specs.ShareLaws.{meets_kept, rule_of_kind}
use Rattle.event_monitors.specs.Shares.{KeepsMeet, span_share}
use Rattle.set_monitors.specs.NamedSums.{named_sum, sum_elsewhere, turn_kept}

-- one for a meet that starts in a set of times
abbrev pub one_in : List Bool → Option TimeId → ℕ → ℕ
one_in times start duration = cond (starts_in times start) 1 0

-- how many meets of a monitor's events start in a set of times
abbrev pub started : Parts → Monitor → List Slot → List Bool → ℕ
started p m s times = named_sum p m (λ x. span_share (one_in times) x.span) s

-- the start of a meet, if it has one
abbrev pub start_in : Option Span → Option TimeId
start_in span = option_and_then (λ (y : Span). y.start) span

-- that number after a turn of a slot of one of its events from one start to another, by what it was before
abbrev pub counted_then : ℕ → List Bool → Option TimeId → Option TimeId → ℕ
counted_then n times before later = n + cond (starts_in times later) 1 0 - cond (starts_in times before) 1 0

-- the time groups that a monitor's constraint lists
abbrev pub spreads_in : Rule → List Spread
spreads_in (SpreadEvents spreads) = spreads
spreads_in _ = []

abbrev pub spreads_of : Parts → Monitor → List Spread
spreads_of p m = option_map_or (λ c. spreads_in c.rule) (slice_get p.constraints m.constraint) []

-- by how many too few or too many start in them, by how many start in a set of times
abbrev pub spread_by : (List Bool → ℕ) → List Spread → ℕ
spread_by f spreads = sum_by (λ q. count_outside (f q.group) q.min q.max) spreads

-- the counts are those of the listed groups, and no more than all meets
abbrev pub AreCounts : (List Bool → ℕ) → List Spread → List ℕ → Type 0
AreCounts f spreads counts = (k : ℕ) (q : Spread) → slice_get spreads k ≡ Some q → slice_get counts k ≡ Some (f q.group)

abbrev pub AreFew : List ℕ → Type 0
AreFew counts = (k n : ℕ) → slice_get counts k ≡ Some n → n ≤ DURATION

-- what is kept for a monitor
pub record IsSpread (p : Parts) (m : Monitor) (s : List Slot) (row : List ℕ) (total : ℕ) : Type 0 where
  pub monitor : IsMonitor p m
  pub serves : is_kind m.kind kind.SpreadEvents ≡ true
  pub amount : length row ≡ length (spreads_of p m)
  pub counts : AreCounts (started p m s) (spreads_of p m) row
  pub few : (times : List Bool) → started p m s times ≤ DURATION
  pub outside : total ≡ spread_by (started p m s) (spreads_of p m)
  pub small : total ≤ GREATEST_DEVIATION

-- the meets of a group's events that start in a set of times, by slots
module _ (group times : List Bool) where
  abbrev is_in : Meet → Bool
  is_in m = has_member group m.event.0 && starts_in times m.start

  abbrev of_slot : Slot → ℕ
  of_slot x = cond (has_member group x.event.0) (span_share (one_in times) x.span) 0

  starting : (s : List Slot) → count_by is_in (meets_in s) ≡ sum_by of_slot s
  starting [] = refl
  starting (x ∷ s) = by x.span ∙ ap (λ n. of_slot x + n) (starting s) ∙ sym (sum_by-cons of_slot x s)
    where
      none : (b : Bool) (n : ℕ) → n ≡ cond b 0 0 + n
      none true n = sym (zero-add n)
      none false n = sym (zero-add n)

      both : (b c : Bool) → cond (b && c) 1 0 ≡ cond {A = ℕ} b (cond c 1 0) 0
      both true c = refl
      both false c = refl

      by : (o : Option Span) → count_by is_in (meets_in (record x { span = o } ∷ s))
          ≡ of_slot (record x { span = o }) + count_by is_in (meets_in s)
      by None = none (has_member group x.event.0) (count_by is_in (meets_in s))
      by (Some y) =
          sum_by-cons (λ m. cond (is_in m) 1 0) (record
          { meet = x.meet; event = x.event; duration = y.duration; start = y.start }) (meets_in s)
          ∙ ap (λ n. n + count_by is_in (meets_in s)) (both (has_member group x.event.0) (starts_in times y.start))

-- the deviation by a rule and a point
abbrev started_at : Parts → Rule → Point → List Slot → List Bool → ℕ
started_at p r point s times = sum_by (λ x. cond (names_event p r point x.event.0) (span_share (one_in times) x.span) 0)
    s

spread_at : (p : Parts) (s : List Slot) (r : Rule) (point : Point) → is_kind (kind_of r) kind.SpreadEvents ≡ true
    → IsPointOf p r point
    → deviation_at p (meets_in s) (duties_in s) r point ≡ spread_by (started_at p r point s) (spreads_in r)
spread_at p s r point k i =
    let of = rule_of_kind kind.SpreadEvents r k in
    subst (λ q. IsPointOf p q point → deviation_at p (meets_in s) (duties_in s) q point
    ≡ spread_by (started_at p q point s) (spreads_in q)) (sym of.1) (at of.0 point) i
  where
    at : (spreads : List Spread) (point : Point) → IsPointOf p (SpreadEvents spreads) point
        → deviation_at p (meets_in s) (duties_in s) (SpreadEvents spreads) point
        ≡ spread_by (started_at p (SpreadEvents spreads) point s) spreads
    at spreads (Event e) i = absurd i
    at spreads (EventResource e k) i = absurd i
    at spreads (EventGroup g) i = let t = there p.groups g i in by (slice_get p.groups g) t.value t.found
      where
        by : (o : Option GroupInfo) (group : GroupInfo) → o ≡ Some group
            → option_map_or (λ (group : GroupInfo). sum_by
            (λ (q : Spread). count_outside (count_by (is_in group.events q.group) (meets_in s)) q.min q.max)
            spreads) o 0
            ≡ spread_by (λ times. sum_by (λ (x : Slot). cond
            (option_map_or (λ (group : GroupInfo). has_member group.events x.event.0) o false)
            (span_share (one_in times) x.span) 0) s) spreads
        by o group is =
            subst (λ o. option_map_or (λ (group : GroupInfo). sum_by
            (λ (q : Spread). count_outside (count_by (is_in group.events q.group) (meets_in s)) q.min q.max)
            spreads) o 0
            ≡ spread_by (λ times. sum_by (λ (x : Slot). cond
            (option_map_or (λ (group : GroupInfo). has_member group.events x.event.0) o false)
            (span_share (one_in times) x.span) 0) s) spreads)
            (sym is) (λ j. spread_by (λ times. starting group.events times s j) spreads)
    at spreads (Pair g) i = absurd i
    at spreads (Resource g) i = absurd i

-- what is read is the definition's deviation
pub spread_exact : (p : Parts) (m : Monitor) (s : List Slot) (counts : List ℕ) (outside : ℕ)
    → IsSpread p m s counts outside → deviation_in p s m ≡ outside
spread_exact p m s counts outside k =
    let c = k.monitor.0 in
    let there = k.monitor.1 in
    let named : (e : ℕ) → names_event p c.rule m.point e ≡ names p e m =
    λ e. sym (ap (λ o. option_map_or (λ (c : Constraint). names_event p c.rule m.point e) o false) there) in
    let listed : spreads_in c.rule ≡ spreads_of p m =
    sym (ap (λ o. option_map_or (λ (c : Constraint). spreads_in c.rule) o []) there) in
    ap (λ o. option_map_or (λ (c : Constraint). deviation_at p (meets_in s) (duties_in s) c.rule m.point) o 0) there
    ∙ spread_at p s c.rule m.point (ap (λ a. is_kind a kind.SpreadEvents) (sym k.monitor.2) ∙ k.serves) k.monitor.3
    ∙ (λ j. spread_by (λ times. sum_by (λ (x : Slot). cond (named x.event.0 j) (span_share (one_in times) x.span) 0) s)
    (listed j))
    ∙ sym k.outside

-- where as many meets start in each set of times, all that is kept stays
pub spread_same : (p : Parts) (m : Monitor) (s later : List Slot) (counts : List ℕ) (outside : ℕ)
    → ((times : List Bool) → started p m later times ≡ started p m s times)
    → IsSpread p m s counts outside → IsSpread p m later counts outside
spread_same p m s later counts outside is kept = record {
  monitor = kept.monitor;
  serves = kept.serves;
  amount = kept.amount;
  counts = λ i q h. kept.counts i q h ∙ ap Some (sym (is q.group));
  few = λ times. let a = kept.few times in let b = is times in omega (arith, a, b);
  outside = kept.outside ∙ sym (λ j. spread_by (λ times. is times j) (spreads_of p m));
  small = kept.small;
}

-- so it does after a turn of a slot of another event
pub spread_elsewhere : (p : Parts) (m : Monitor) (s : List Slot) (k : ℕ) (x : Slot) (counts : List ℕ) (outside : ℕ)
    → k < length s → emptied x ≡ emptied (slot_at s k)
    → names p (slot_at s k).event.0 m ≡ false → IsSpread p m s counts outside → IsSpread p m (set s k x) counts outside
spread_elsewhere p m s k x counts outside l same named kept =
    spread_same p m s (set s k x) counts outside
    (λ times. sum_elsewhere p m (λ (y : Slot). span_share (one_in times) y.span) s k x l same named) kept

-- what a slot counts for, by its start
pub one_at_start : (times : List Bool) (o : Option Span)
    → span_share (one_in times) o ≡ cond (starts_in times (start_in o)) 1 0
one_at_start times None = refl
one_at_start times (Some y) = refl

-- and after a turn that keeps the start
pub spread_unaffected : (p : Parts) (m : Monitor) (s : List Slot) (t : SlotTurn) (counts : List ℕ) (outside : ℕ)
    → start_in t.before.span ≡ start_in t.after.span → IsTurn p s t → IsSpread p m s counts outside
    → IsSpread p m (turned s t) counts outside
spread_unaffected p m s t counts outside h turns kept =
    spread_same p m s (turned s t) counts outside
    (λ times. turn_kept p m (λ (y : Slot). span_share (one_in times) y.span) s t turns
    (one_at_start times t.after.span ∙ ap (λ o. cond {A = ℕ} (starts_in times o) 1 0) (sym h)
    ∙ sym (one_at_start times t.before.span))) kept

-- and after a turn that keeps the meet
pub spread_unheard : (p : Parts) (m : Monitor) (s : List Slot) (t : SlotTurn) (counts : List ℕ) (outside : ℕ)
    → KeepsMeet t → IsTurn p s t → IsSpread p m s counts outside → IsSpread p m (turned s t) counts outside
spread_unheard p m s t counts outside h turns kept =
    spread_same p m s (turned s t) counts outside
    (λ times. turn_kept p m (λ (y : Slot). span_share (one_in times) y.span) s t turns (meets_kept (one_in times) t h))
    kept
