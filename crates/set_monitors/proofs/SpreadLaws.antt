-- Counts of starts and one more turn.
use Rattle.std.proofs.Common.{ℕ, ◌≡◌, ◌≤◌, ◌<◌, ◌+◌, ◌*◌, ◌∙◌, ◌⊎◌, inl, inr, zero, suc, Bool, true, false, cond}
use Rattle.std.proofs.Common.{Option}
use Rattle.std.proofs.Common.{Some, None, List, [], ◌∷◌, length, map, set, take, drop, slice_get, refl, sym, ap, subst}
use Rattle.std.proofs.Common.{arith}
use Rattle.std.proofs.Common.{sum_by}
use Rattle.std.specs.Prelude.{All, replicate}
use Rattle.std.proofs.lemmas.Bool.{cases_eq}
use Rattle.std.proofs.lemmas.List.{length-map, length-set}
use Rattle.std.proofs.lemmas.List.Elements.{All-weaker}
use Rattle.std.proofs.lemmas.List.Sums.{sum_by-cons, sum_by-le, sum_by_more}
use Rattle.std.proofs.lemmas.Option.{get_or_from_slice_get, none-some, same_Some, slice_get_within}
use Rattle.khe_base.specs.Bounds.{count_outside}
use Rattle.khe_base.specs.BoundsLaws.{count_outside_small}
use Rattle.khe_base.specs.declared.limits.TheConstants.{DURATION, GREATEST_DEVIATION, LISTED, NUMBER}
use Rattle.khe_base.specs.declared.numbers.TimeId.{TimeId}
use Rattle.khe_base.proofs.ListLemmas.{drop-there, get-other, get-set, there}
use Rattle.khe_instance.specs.EventDeviation.{starts_in}
use Rattle.khe_instance.specs.KindLaws.{is_kind}
use Rattle.khe_instance.specs.WellMade.{AreWellMade, IsMonitor}
use Rattle.khe_instance.specs.declared.parts.EventInfo.{EventInfo}
use Rattle.khe_instance.specs.declared.parts.Parts.{Parts}
use Rattle.khe_instance.specs.declared.points.Monitor.{Monitor}
use Rattle.khe_instance.specs.declared.rules.Kind.TheVariants as kind
use Rattle.khe_instance.specs.declared.rules.Spread.{Spread}
use Rattle.khe_told.specs.Fits.{AreTold}
use Rattle.khe_told.specs.Slots.{emptied, no_meets}
use Rattle.khe_told.specs.Turns.{IsTurn, SlotTurn, turned}
use Rattle.khe_told.specs.declared.slots.Slot.{Slot}
use Rattle.khe_told.specs.declared.slots.Span.{Span}
use Rattle.event_monitors.specs.Posts.{names}
use Rattle.event_monitors.specs.Shares.{span_share}
use Rattle.set_monitors.specs.NamedSums.{named_part, sum_of_none, sum_turned}
use Rattle.set_monitors.specs.SpreadEvents.{AreCounts, AreFew, IsSpread, counted_then, one_in, spread_by, spread_same}
use Rattle.set_monitors.specs.SpreadEvents.{spreads_of, start_in, started}
use Rattle.khe_told.proofs.OpeningLaws.{slots_amount}

-- what a slot counts for, by its start
one_of_start : (times : List Bool) (o : Option Span)
    → span_share (one_in times) o ≡ cond (starts_in times (start_in o)) 1 0
one_of_start times None = refl
one_of_start times (Some y) = refl

-- a turn does to one slot's part what it does to a count
pub started_then : (p : Parts) (m : Monitor) (s : List Slot) (t : SlotTurn) (times : List Bool) → IsTurn p s t
    → names p t.before.event.0 m ≡ true
    → started p m (turned s t) times
    ≡ counted_then (started p m s times) times (start_in t.before.span) (start_in t.after.span)
started_then p m s t times turns named =
    let a = sum_turned p m (λ (y : Slot). span_share (one_in times) y.span) s t t.after turns turns.same named in
    let b = one_of_start times t.before.span in
    let c = one_of_start times t.after.span in
    omega (arith, a, b, c)

-- one that keeps the start leaves all that is kept
pub spread_kept : (p : Parts) (m : Monitor) (s : List Slot) (t : SlotTurn) (row : List ℕ) (total : ℕ) → IsTurn p s t
    → names p t.before.event.0 m ≡ true → start_in t.before.span ≡ start_in t.after.span → IsSpread p m s row total
    → IsSpread p m (turned s t) row total
spread_kept p m s t row total turns named still kept =
    spread_same p m s (turned s t) row total
    (λ times. let a = started_then p m s t times turns named in
    let b : cond {A = ℕ} (starts_in times (start_in t.before.span)) 1 0
    ≡ cond (starts_in times (start_in t.after.span)) 1 0 = ap (λ o. cond (starts_in times o) 1 0) still in
    omega (arith, a, b))
    kept

-- no more meets start than there are slots
one_each : (f : Slot → ℕ) (s : List Slot) → ((x : Slot) → f x ≤ 1) → sum_by f s ≤ length s
one_each f [] h = omega arith
one_each f (x ∷ s) h = let a = sum_by-cons f x s in let b = one_each f s h in let c = h x in omega (arith, a, b, c)

pub started_few : (p : Parts) (m : Monitor) (s : List Slot) (times : List Bool) → AreWellMade p → AreTold p s
    → started p m s times ≤ DURATION
started_few p m s times made told =
    let a = one_each (named_part p m (λ (y : Slot). span_share (one_in times) y.span)) s
    (λ x. named (names p x.event.0 m) x.span) in
    let b : length s ≡ sum_by (λ (x : EventInfo). x.duration) p.events =
    sym (length-map s emptied) ∙ ap length told.whose ∙ slots_amount 0 p.events in
    let c = made.limits.duration in
    omega (arith, a, b, c)
  where
    one : (b : Bool) → cond {A = ℕ} b 1 0 ≤ 1
    one true = omega arith
    one false = omega arith

    named : (b : Bool) (o : Option Span) → cond b (span_share (one_in times) o) 0 ≤ 1
    named false o = omega arith
    named true None = omega arith
    named true (Some y) = one _

pub started_none : (p : Parts) (m : Monitor) (times : List Bool) → started p m (no_meets p) times ≡ 0
started_none p m times = sum_of_none p m (λ (y : Slot). span_share (one_in times) y.span) (λ k e event. refl)

-- counts of as many groups are few where no number of starts is more
pub counts_few : (f : List Bool → ℕ) (spreads : List Spread) (counts : List ℕ) → length counts ≡ length spreads
    → AreCounts f spreads counts → ((times : List Bool) → f times ≤ DURATION) → AreFew counts
counts_few f spreads counts same are few k n h =
    let l = slice_get_within counts k n h in
    let q = there spreads k (omega (arith, same, l)) in
    let e : f q.value.group ≡ n = same_Some (f q.value.group) n (sym (are k q.value q.found) ∙ h) in
    let b = few q.value.group in
    omega (arith, e, b)

-- nor are they outside of the bounds by much
pub spread_small : (f : List Bool → ℕ) (spreads : List Spread) → All (λ (q : Spread). q.min ≤ NUMBER) spreads
    → length spreads ≤ LISTED → ((times : List Bool) → f times ≤ DURATION) → spread_by f spreads ≤ GREATEST_DEVIATION
spread_small f spreads least listed few =
    let a = sum_by-le part (DURATION + NUMBER) spreads
    (All-weaker (λ (q : Spread). q.min ≤ NUMBER) (λ q. part q ≤ DURATION + NUMBER) one spreads least) in
    omega (arith, a, listed)
  where
    part : Spread → ℕ
    part q = count_outside (f q.group) q.min q.max

    one : (q : Spread) → q.min ≤ NUMBER → part q ≤ DURATION + NUMBER
    one q l = let a = count_outside_small (f q.group) q.min q.max in let b = few q.group in omega (arith, a, b, l)

-- while counts are turned, one group after the other
pub record AreTurned (before later : Option TimeId) (spreads : List Spread) (old counts : List ℕ)
    (outside total i : ℕ) : Type 0 where
  pub amount : length counts ≡ length old
  pub done : (k n : ℕ) (q : Spread) → k < i → slice_get old k ≡ Some n → slice_get spreads k ≡ Some q
      → slice_get counts k ≡ Some (counted_then n q.group before later)
  pub rest : (k : ℕ) → i ≤ k → slice_get counts k ≡ slice_get old k
  pub follows : (f : List Bool → ℕ) → AreCounts f spreads old → outside ≡ spread_by f spreads
      → total ≡ spread_by (λ g. counted_then (f g) g before later) (take i spreads) + spread_by f (drop i spreads)
  pub bound : total ≤ GREATEST_DEVIATION + i * (DURATION + NUMBER + 1)

-- one more is turned
pub turned_next : (before later : Option TimeId) (spreads : List Spread) (old counts : List ℕ) (outside total i : ℕ)
    (q : Spread) (n new sum : ℕ) → slice_get spreads i ≡ Some q → slice_get counts i ≡ Some n
    → new ≡ counted_then n q.group before later
    → ((rest : ℕ) → total ≡ rest + count_outside n q.min q.max → sum ≡ rest + count_outside new q.min q.max)
    → sum ≤ total + (DURATION + NUMBER + 1) → AreTurned before later spreads old counts outside total i
    → AreTurned before later spreads old (set counts i new) outside sum (i + 1)
turned_next before later spreads old counts outside total i q n new sum at here is counted small so = record {
  amount = length-set counts i new ∙ so.amount;
  done = λ k a b l h g. done_by k a b l h g (cases_eq i k);
  rest = λ k l. get-other counts i k new (λ e. omega (arith, e, l)) ∙ so.rest k (omega (arith, l));
  follows = λ f are whole. sum_by_then f are whole;
  bound = let a = so.bound in omega (arith, a, small);
}
  where
    old_here : slice_get old i ≡ Some n
    old_here = sym (so.rest i (omega arith)) ∙ here

    done_by : (k a : ℕ) (b : Spread) → k < i + 1 → slice_get old k ≡ Some a → slice_get spreads k ≡ Some b
        → (i ≡ k) ⊎ (i ≡ k → ⊥) → slice_get (set counts i new) k ≡ Some (counted_then a b.group before later)
    done_by k a b l h g (inl e) =
        let same : q ≡ b = same_Some q b (sym at ∙ ap (slice_get spreads) e ∙ g) in
        let as_is : n ≡ a = same_Some n a (sym old_here ∙ ap (slice_get old) e ∙ h) in
        ap (slice_get (set counts i new)) (sym e) ∙ get-set counts i new (slice_get_within counts i n here)
        ∙ ap Some (is ∙ (λ j. counted_then (as_is j) (same j).group before later))
    done_by k a b l h g (inr e) = get-other counts i k new e ∙ so.done k a b (omega (arith, l, e)) h g

    sum_by_then : (f : List Bool → ℕ) → AreCounts f spreads old → outside ≡ spread_by f spreads
        → sum ≡ spread_by (λ g. counted_then (f g) g before later) (take (i + 1) spreads)
        + spread_by f (drop (i + 1) spreads)
    sum_by_then f are whole =
        let then = λ (g : List Bool). counted_then (f g) g before later in
        let part = λ (a : Spread). count_outside (f a.group) a.min a.max in
        let part_then = λ (a : Spread). count_outside (then a.group) a.min a.max in
        let l = slice_get_within spreads i q at in
        let fq : f q.group ≡ n = same_Some (f q.group) n (sym (are i q at) ∙ old_here) in
        let left : sum_by part (drop i spreads) ≡ count_outside n q.min q.max + sum_by part (drop (i + 1) spreads) =
        ap (sum_by part) (drop-there spreads i q at) ∙ sum_by-cons part q (drop (i + 1) spreads)
        ∙ ap (λ k. count_outside k q.min q.max + sum_by part (drop (i + 1) spreads)) fq in
        let made : sum_by part_then (take (i + 1) spreads)
        ≡ sum_by part_then (take i spreads) + count_outside new q.min q.max =
        sum_by_more part_then spreads i q l
        ∙ ap (λ a. sum_by part_then (take i spreads) + part_then a) (get_or_from_slice_get spreads i q q at)
        ∙ ap (λ k. sum_by part_then (take i spreads) + count_outside k q.min q.max)
        (ap (λ k. counted_then k q.group before later) fq ∙ sym is) in
        let before_it = so.follows f are whole in
        let sum_is = counted (sum_by part_then (take i spreads) + sum_by part (drop (i + 1) spreads))
        (omega (arith, before_it, left)) in
        omega (arith, sum_is, made)

-- one more group counts for what it would after a change of its count
pub follows_next : (then : List Bool → ℕ → ℕ) (spreads : List Spread) (counts : List ℕ) (f : List Bool → ℕ)
    (total sum i : ℕ) (q : Spread) (n : ℕ) → slice_get spreads i ≡ Some q → slice_get counts i ≡ Some n
    → AreCounts f spreads counts
    → ((rest : ℕ) → total ≡ rest + count_outside n q.min q.max
    → sum ≡ rest + count_outside (then q.group n) q.min q.max)
    → total ≡ spread_by (λ g. then g (f g)) (take i spreads) + spread_by f (drop i spreads)
    → sum ≡ spread_by (λ g. then g (f g)) (take (i + 1) spreads) + spread_by f (drop (i + 1) spreads)
follows_next then spreads counts f total sum i q n at here are counted before_it =
    let part = λ (a : Spread). count_outside (f a.group) a.min a.max in
    let part_then = λ (a : Spread). count_outside (then a.group (f a.group)) a.min a.max in
    let l = slice_get_within spreads i q at in
    let fq : f q.group ≡ n = same_Some (f q.group) n (sym (are i q at) ∙ here) in
    let left : sum_by part (drop i spreads) ≡ count_outside n q.min q.max + sum_by part (drop (i + 1) spreads) =
    ap (sum_by part) (drop-there spreads i q at) ∙ sum_by-cons part q (drop (i + 1) spreads)
    ∙ ap (λ k. count_outside k q.min q.max + sum_by part (drop (i + 1) spreads)) fq in
    let made : sum_by part_then (take (i + 1) spreads)
    ≡ sum_by part_then (take i spreads) + count_outside (then q.group n) q.min q.max =
    sum_by_more part_then spreads i q l
    ∙ ap (λ a. sum_by part_then (take i spreads) + part_then a) (get_or_from_slice_get spreads i q q at)
    ∙ ap (λ k. sum_by part_then (take i spreads) + count_outside (then q.group k) q.min q.max) fq in
    let sum_is = counted (sum_by part_then (take i spreads) + sum_by part (drop (i + 1) spreads))
    (omega (arith, before_it, left)) in
    omega (arith, sum_is, made)

-- what would be kept for a state
pub spread_of_state : (p : Parts) (m : Monitor) (s : List Slot) (spreads : List Spread) (total : ℕ) → AreWellMade p
    → AreTold p s → IsMonitor p m → is_kind m.kind kind.SpreadEvents ≡ true → spreads ≡ spreads_of p m
    → All (λ (q : Spread). q.min ≤ NUMBER) spreads → length spreads ≤ LISTED
    → total ≡ spread_by (started p m s) spreads
    → IsSpread p m s (map (λ (q : Spread). started p m s q.group) (spreads_of p m)) total
spread_of_state p m s spreads total made told monitor serves is least listed whole = record {
  monitor = monitor;
  serves = serves;
  amount = length-map (spreads_of p m) (λ (q : Spread). started p m s q.group);
  counts = all (spreads_of p m);
  few = λ times. started_few p m s times made told;
  outside = whole ∙ ap (spread_by (started p m s)) is;
  small = let a = spread_small (started p m s) spreads least listed (λ times. started_few p m s times made told) in
      omega (arith, a, whole);
}
  where
    all : (qs : List Spread) → AreCounts (started p m s) qs (map (λ (q : Spread). started p m s q.group) qs)
    all [] k q h = absurd (none-some q h)
    all (x ∷ qs) zero q h = ap (λ (y : Spread). Some (started p m s y.group)) (same_Some x q h)
    all (x ∷ qs) (suc k) q h = all qs k q h

-- counts of nothing
pub nothing_at : (n k : ℕ) → k < n → ◌≡◌ {A = Option ℕ} (slice_get {X = ℕ} (replicate n 0) k) (Some 0)
nothing_at zero k l = absurd (omega arith)
nothing_at (suc n) zero l = refl
nothing_at (suc n) (suc k) l = nothing_at n k (omega arith)

pub counts_none : (f : List Bool → ℕ) (spreads : List Spread) → ((times : List Bool) → f times ≡ 0)
    → AreCounts f spreads (replicate (length spreads) 0)
counts_none f spreads none k q h = nothing_at (length spreads) k (slice_get_within spreads k q h)
    ∙ ap Some (sym (none q.group))

-- all that is kept after a turn, where the counts were turned
pub spread_turned : (p : Parts) (m : Monitor) (s : List Slot) (t : SlotTurn) (spreads : List Spread)
    (old row : List ℕ) (outside total : ℕ) → AreWellMade p → IsTurn p s t → names p t.before.event.0 m ≡ true
    → spreads ≡ spreads_of p m → All (λ (q : Spread). q.min ≤ NUMBER) spreads → length spreads ≤ LISTED
    → length row ≡ length spreads
    → ((f : List Bool → ℕ) → AreCounts f spreads old
    → AreCounts (λ g. counted_then (f g) g (start_in t.before.span) (start_in t.after.span)) spreads row)
    → ((f : List Bool → ℕ) → AreCounts f spreads old → outside ≡ spread_by f spreads
    → total ≡ spread_by (λ g. counted_then (f g) g (start_in t.before.span) (start_in t.after.span)) spreads)
    → IsSpread p m s old outside → IsSpread p m (turned s t) row total
spread_turned p m s t spreads old row total_old total made turns named same least listed amount counts summed kept =
    record {
      monitor = kept.monitor;
      serves = kept.serves;
      amount = amount ∙ ap length same;
      counts = subst (λ qs. AreCounts later qs row) same
          (λ k q h. counts now are k q h ∙ ap Some (sym (then q.group)));
      few = few;
      outside = is ∙ ap (spread_by later) same;
      small = let a = spread_small later spreads least listed few in omega (arith, a, is);
    }
  where
    now : List Bool → ℕ
    now = started p m s

    later : List Bool → ℕ
    later = started p m (turned s t)

    then : (times : List Bool) → later times
        ≡ counted_then (now times) times (start_in t.before.span) (start_in t.after.span)
    then times = started_then p m s t times turns named

    are : AreCounts now spreads old
    are = subst (λ qs. AreCounts now qs old) (sym same) kept.counts

    few : (times : List Bool) → later times ≤ DURATION
    few times = started_few p m (turned s t) times made turns.later

    is : total ≡ spread_by later spreads
    is = summed now are (kept.outside ∙ ap (spread_by now) (sym same))
        ∙ sym (λ j. spread_by (λ times. then times j) spreads)
