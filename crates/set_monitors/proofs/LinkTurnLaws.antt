-- The counts of a group's events and a turn of one of their slots.
use Rattle.std.proofs.Common.{ℕ, ◌≡◌, ◌≤◌, ◌<◌, ◌+◌, ◌==◌, ◌&&◌, ◌∙◌, zero, suc, Bool, true, false, Option, Some}
use Rattle.std.proofs.Common.{None, List, [], get_or, length, slice_get, refl, sym, ap, subst, arith, sum_by}
use Rattle.std.proofs.Common.{IfOk, Result, Ok, Err, replicate, get_or-set_same}
use Rattle.std.specs.List.{range_with_len}
use Rattle.std.specs.Option.{option_map_or}
use Rattle.std.proofs.lemmas.Bool.{eq-eqb, and_from}
use Rattle.std.proofs.lemmas.List.{length-map, length-replicate, length-set}
use Rattle.std.proofs.lemmas.List.Elements.{All-get_or}
use Rattle.std.proofs.lemmas.List.FromFn.{length-range_with_len}
use Rattle.std.proofs.lemmas.List.Sums.{sum_by-le-sum_by, count_by-le-length, get_or-le-sum_by, length-filter}
use Rattle.khe_base.specs.declared.limits.TheConstants.{EVENTS, GREATEST_COUNT}
use Rattle.khe_base.specs.IdSet.{has_member, members_of}
use Rattle.khe_base.proofs.ListLemmas.{all-there}
use Rattle.khe_instance.specs.declared.parts.GroupInfo.{GroupInfo}
use Rattle.khe_instance.specs.KindLaws.{is_kind}
use Rattle.khe_instance.specs.Running.{covers}
use Rattle.khe_instance.specs.Watching.{names_event}
use Rattle.khe_instance.specs.WellMade.{AreWellMade, IsMonitor, IsPointOf}
use Rattle.khe_instance.specs.declared.parts.EventInfo.{EventInfo}
use Rattle.khe_instance.specs.declared.parts.Parts.{Parts}
use Rattle.khe_instance.specs.declared.points.Monitor.{Monitor}
use Rattle.khe_instance.specs.declared.points.Point.{Point}
use Rattle.khe_instance.specs.declared.points.Point.TheVariants.{Event, EventResource, EventGroup, EventPair as Pair}
use Rattle.khe_instance.specs.declared.points.Point.TheVariants.{Resource}
use Rattle.khe_instance.specs.declared.rules.Kind.TheVariants as kind
use Rattle.khe_instance.specs.declared.rules.Rule.TheVariants.{LinkEvents}
use Rattle.khe_told.specs.Fits.{AreTold, IsSlot}
use Rattle.khe_told.specs.Slots.{emptied, no_meets, no_slot}
use Rattle.khe_told.specs.Turns.{IsTurn, SlotTurn, turned}
use Rattle.khe_told.specs.declared.slots.Slot.{Slot}
use Rattle.khe_told.specs.declared.slots.Span.{Span}
use Rattle.timetables.specs.Counts.{count_at, no_counts}
use Rattle.event_monitors.specs.Posts.{names}
use Rattle.event_monitors.specs.Shares.{most_of}
use Rattle.event_monitors.proofs.SlotFacts.{none_of_no_meets}
use Rattle.set_monitors.specs.LinkCounts.{one_if}
use Rattle.set_monitors.specs.Links.{AreOfGroup, members_at, meets_at, runs_in}
use Rattle.set_monitors.specs.LinkRuns.{AreRaised, EndsBy}
use Rattle.set_monitors.specs.LinkElsewhereLaws.{meets_turned, named_by, test}
use Rattle.set_monitors.specs.LinkExactLaws.{point_is}
use Rattle.set_monitors.specs.MemberLaws.{members_ascend, named_member, same_place}
use Rattle.khe_told.proofs.OpeningLaws.{slots_amount}

pub meets_few : (p : Parts) (s : List Slot) (e t : ℕ) → AreWellMade p → AreTold p s → meets_at s e t < GREATEST_COUNT
meets_few p s e t made told =
    let a = count_by-le-length (test e t) s in
    let b : length s ≡ sum_by (λ (x : EventInfo). x.duration) p.events =
    sym (length-map s emptied) ∙ ap length told.whose ∙ slots_amount 0 p.events in
    let f = made.limits.duration in
    omega (arith, a, b, f)

-- free slots run at no time
runs_most : (e t : ℕ) (x : Slot) → one_if (test e t x) ≤ most_of x.span
runs_most e t x = by (x.event.0 == e) x.span
  where
    bit : (b : Bool) (n : ℕ) → one_if b ≤ n + 1
    bit true n = omega arith
    bit false n = omega arith

    by : (b : Bool) (o : Option Span) → one_if (b && option_map_or (λ (y : Span). covers y.duration y.start t) o
        false) ≤ most_of o
    by true None = omega arith
    by false None = omega arith
    by b (Some y) = bit (b && covers y.duration y.start t) y.duration

none_run : (p : Parts) (e t : ℕ) → meets_at (no_meets p) e t ≡ 0
none_run p e t =
    let a = sum_by-le-sum_by (λ x. one_if (test e t x)) (λ (x : Slot). most_of x.span) (no_meets p) (runs_most e t) in
    let b = none_of_no_meets p in
    omega (arith, a, b)

no_count : (n times i t : ℕ) → count_at (no_counts n times) i t ≡ 0
no_count zero times i t = refl
no_count (suc n) times zero t = at times t
  where
    at : (n t : ℕ) → get_or (replicate {A = ℕ} n 0) t 0 ≡ 0
    at zero t = refl
    at (suc n) zero = refl
    at (suc n) (suc t) = at n t
no_count (suc n) times (suc i) t = no_count n times i t

-- without meets no event of a group runs
pub none_of_group : (p : Parts) (point : Point) (n times : ℕ) → n ≡ length (members_at p point) → times ≡ length p.times
    → AreOfGroup p point (no_meets p) (no_counts n times) times
none_of_group p point n times many all = record {
  amount = length-replicate n _ ∙ many;
  all = all;
  cells = λ i e t h. no_count n times i t ∙ sym (none_run p e t);
}

-- a group has no more members than there are events
pub members_few : (p : Parts) (point : Point) → AreWellMade p → length (members_at p point) ≤ EVENTS
members_few p (EventGroup g) made = by (slice_get p.groups g) refl
  where
    by : (o : Option GroupInfo) → slice_get p.groups g ≡ o
        → length (option_map_or (λ (x : GroupInfo). members_of x.events) o []) ≤ EVENTS
    by None e = omega arith
    by (Some x) e =
        let a = length-filter (has_member x.events) (range_with_len 0 (length x.events)) in
        let b = count_by-le-length (has_member x.events) (range_with_len 0 (length x.events)) in
        let d = length-range_with_len 0 (length x.events) in
        let f = all-there (λ (x : GroupInfo). length x.events ≡ length p.events) p.groups g x made.groups e in
        let few = made.limits.events in
        omega (arith, a, b, d, f, few)
members_few p (Event e) made = omega arith
members_few p (EventResource e k) made = omega arith
members_few p (Pair q) made = omega arith
members_few p (Resource r) made = omega arith

-- an event that such a monitor names is a member
pub member_there : (p : Parts) (m : Monitor) (e : ℕ) → IsMonitor p m → is_kind m.kind kind.LinkEvents ≡ true
    → names p e m ≡ true → (i : ℕ) × (slice_get (members_at p m.point) i ≡ Some e)
member_there p m e monitor serves named = by m.point (point_is p m monitor serves)
    (sym (named_by p m monitor e) ∙ named)
  where
    by : (point : Point) → IsPointOf p LinkEvents point → names_event p monitor.0.rule point e ≡ true
        → (i : ℕ) × (slice_get (members_at p point) i ≡ Some e)
    by (EventGroup g) i h = named_member p monitor.0.rule g e h
    by (Event x) i h = absurd i
    by (EventResource x k) i h = absurd i
    by (Pair q) i h = absurd i
    by (Resource r) i h = absurd i

module _ (p : Parts) (s : List Slot) (t : SlotTurn) (turns : IsTurn p s t) where
  abbrev k : ℕ
  k = t.before.meet.0

  -- the meet before and the meet after end with the last time or before
  pub before_ends : EndsBy t.before.span (length p.times)
  before_ends = (subst (IsSlot p) turns.slot
      (All-get_or (IsSlot p) s k no_slot turns.there turns.told.slots)).ends

  pub after_ends : EndsBy t.after.span (length p.times)
  after_ends = (subst (IsSlot p) (get_or-set_same s k t.after no_slot turns.there)
      (All-get_or (IsSlot p) (turned s t) k no_slot (let a = length-set s k t.after in let l = turns.there in
      omega (arith, a, l)) turns.later.slots)).ends

  module _ (point : Point) (rows : List (List ℕ)) (times rank : ℕ) (of : AreOfGroup p point s rows times)
      (at : slice_get (members_at p point) rank ≡ Some t.before.event.0) where
    -- where the meet before runs, its event's count is not 0
    pub some_before : (u : ℕ) → runs_in t.before.span u ≡ true → 0 < count_at rows rank u
    some_before u run =
        let e = t.before.event.0 in
        let a = of.cells rank e u at in
        let b = get_or-le-sum_by (λ y. one_if (test e u y)) s k no_slot turns.there in
        let d = ap (λ y. one_if (test e u y)) turns.slot
        ∙ ap one_if (and_from (e == e) (runs_in t.before.span u) (eq-eqb e e refl) run) in
        omega (arith, a, b, d)

    -- once that is freed, there is room for one more
    pub room_after : (mid : List (List ℕ)) → AreWellMade p
        → AreRaised rank (runs_in t.before.span) (count_at mid) (count_at rows)
        → (u : ℕ) → count_at mid rank u < GREATEST_COUNT
    room_after mid made freed u =
        let e = t.before.event.0 in
        let a = of.cells rank e u at in
        let b = meets_few p s e u made turns.told in
        let d = freed rank u in
        omega (arith, a, b, d)

    -- where the meet before is freed and then the meet after is filled, the counts are those after the turn
    pub group_turned : (mid new : List (List ℕ)) → length mid ≡ length rows → length new ≡ length mid
        → AreRaised rank (runs_in t.before.span) (count_at mid) (count_at rows)
        → AreRaised rank (runs_in t.after.span) (count_at mid) (count_at new)
        → AreOfGroup p point (turned s t) new times
    group_turned mid new same again freed filled = record {
      amount = again ∙ same ∙ of.amount;
      all = of.all;
      cells = each;
    }
      where
        each : (i e u : ℕ) → slice_get (members_at p point) i ≡ Some e → count_at new i u ≡ meets_at (turned s t) e u
        each i e u h =
            let own = same_place (members_at p point) (members_ascend p point) rank i t.before.event.0 e at h in
            let a = meets_turned p s t e u turns in
            let b = freed i u in
            let d = filled i u in
            let f = ap (λ c. one_if (c && runs_in t.before.span u)) own in
            let g = ap (λ c. one_if (c && runs_in t.after.span u)) own in
            let q = of.cells i e u h in
            omega (arith, a, b, d, f, g, q)

-- three clauses on what a call makes
pub all_ok : {T E : Type 0} (r : Result T E) (P Q R S : T → Type 0) → ((x : T) → P x → Q x → R x → S x) → IfOk r P
    → IfOk r Q → IfOk r R → IfOk r S
all_ok (Ok x) P Q R S f p q r = f x p q r
all_ok (Err e) P Q R S f p q r = tt
