-- The first starts and last ends of events that have a list are the same after a cut, and after turns that keep the
-- meets or are of other events.
use Rattle.std.proofs.Common.{ℕ, ◌≡◌, ◌≤◌, ◌<◌, ◌+◌, ◌-◌, ◌==◌, ◌||◌, ◌∙◌, ◌⊎◌, inl, inr, zero, suc, min, fold, Bool}
use Rattle.std.proofs.Common.{true, false, cond}
use Rattle.std.proofs.Common.{Option, Some, None, List, [], ◌∷◌, map, set, get_or, get_or-set_same, length}
use Rattle.std.proofs.Common.{slice_get, refl, sym, ap, subst, arith}
use Rattle.std.specs.Option.{option_map}
use Rattle.std.specs.Prelude.{IfSome}
use Rattle.std.proofs.lemmas.Bool.{eq-eqb, ne_eqb}
use Rattle.std.proofs.lemmas.List.{length-set}
use Rattle.khe_base.specs.declared.numbers.TimeId.{TimeId}
use Rattle.khe_instance.specs.WellMade.{AreWellMade}
use Rattle.khe_instance.specs.declared.parts.Parts.{Parts}
use Rattle.khe_instance.specs.declared.points.Monitor.{Monitor}
use Rattle.khe_instance.specs.declared.rules.EventPair.{EventPair}
use Rattle.khe_instance.proofs.MadeLemmas.{monitor_made}
use Rattle.khe_told.specs.Agreement.{deviation_in}
use Rattle.khe_told.specs.Effects.{AreTurns, IsCut, turned_all}
use Rattle.khe_told.specs.Lists.{duties_in, meets_in}
use Rattle.khe_told.specs.Slots.{no_slot, slot_at}
use Rattle.khe_told.specs.Turns.{IsTurn, SlotTurn, turned}
use Rattle.khe_told.specs.Waits.{AreUnmoved}
use Rattle.khe_told.specs.declared.slots.Slot.{Slot}
use Rattle.khe_told.specs.declared.slots.Span.{Span}
use Rattle.event_monitors.specs.Posts.{AreListed, ArePosts}
use Rattle.event_monitors.specs.declared.posts.Post.{Post}
use Rattle.set_monitors.specs.Foreseeing.{AreCutOrKeep}
use Rattle.set_monitors.specs.MeetEdges.{IsEdges, IsWatched, LeavesEdges, end_key, own_slots, start_key}
use Rattle.set_monitors.specs.OrderPairs.{between, is_order}
use Rattle.set_monitors.specs.declared.meet_edges.Edges.{Edges}
use Rattle.set_monitors.specs.declared.least_trees.TheConstants.{NOTHING}
use Rattle.set_monitors.proofs.BetweenLaws.{order_is}
use Rattle.set_monitors.proofs.ForeseenLaws.{told_after, told_first}
use Rattle.set_monitors.proofs.OrderPairLaws.{HasPair, its_pair}
use Rattle.set_monitors.proofs.OrderWaitLaws.{watched}
use Rattle.set_monitors.proofs.OwnSlotLaws.{told_short}

-- the least of the keys of an event's slots
module _ (key : Option Span → ℕ) (e : ℕ) where
  abbrev least : List Slot → ℕ
  least s = fold min NOTHING (map (λ (x : Slot). key x.span) (own_slots e s))

  abbrev part : Slot → ℕ
  part x = cond (x.event.0 == e) (key x.span) NOTHING

  taken_out : (n k : ℕ) (xs : List ℕ) → fold min (min n k) xs ≡ min (fold min n xs) k
  taken_out n k [] = refl
  taken_out n k (x ∷ xs) =
      let z : min (min n k) x ≡ min (min n x) k = omega arith in
      ap (λ q. fold min q xs) z ∙ taken_out (min n x) k xs

  most : (n : ℕ) (xs : List ℕ) → fold min n xs ≤ n
  most n [] = omega arith
  most n (x ∷ xs) = let a = most (min n x) xs in omega (arith, a)

  one_more : (x : Slot) (s : List Slot) → least (x ∷ s) ≡ min (least s) (part x)
  one_more x s = by (x.event.0 == e)
    where
      by : (b : Bool) → fold min NOTHING (map (λ (y : Slot). key y.span) (cond b (x ∷ own_slots e s) (own_slots e s)))
          ≡ min (least s) (cond b (key x.span) NOTHING)
      by true = taken_out NOTHING (key x.span) (map (λ (y : Slot). key y.span) (own_slots e s))
      by false = let a = most NOTHING (map (λ (y : Slot). key y.span) (own_slots e s)) in
          let z : least s ≡ min (least s) NOTHING = omega (arith, a) in z

  -- a slot in place of another
  exchanged : (s : List Slot) (k : ℕ) (y : Slot) → k < length s
      → min (least (set s k y)) (part (slot_at s k)) ≡ min (least s) (part y)
  exchanged [] k y l = absurd (omega (arith, l))
  exchanged (x ∷ s) zero y l = let a = one_more x s in let b = one_more y s in omega (arith, a, b)
  exchanged (x ∷ s) (suc k) y l =
      let a = one_more x s in
      let b = one_more x (set s k y) in
      let c = exchanged s k y (omega (arith, l)) in
      omega (arith, a, b, c)

  below : (s : List Slot) (k : ℕ) → k < length s → least s ≤ part (slot_at s k)
  below [] k l = absurd (omega (arith, l))
  below (x ∷ s) zero l = let a = one_more x s in omega (arith, a)
  below (x ∷ s) (suc k) l = let a = one_more x s in let b = below s k (omega (arith, l)) in omega (arith, a, b)

  module _ (p : Parts) (s : List Slot) (t : SlotTurn) (turns : IsTurn p s t) where
    pub turn_exchanged : min (least (turned s t)) (part t.before) ≡ min (least s) (part t.after)
    turn_exchanged = subst (λ (x : Slot). min (least (turned s t)) (part x) ≡ min (least s) (part t.after)) turns.slot
        (exchanged s t.before.meet.0 t.after turns.there)

    pub turn_below : least s ≤ part t.before
    turn_below = subst (λ (x : Slot). least s ≤ part x) turns.slot (below s t.before.meet.0 turns.there)

    pub turn_after : least (turned s t) ≤ part t.after
    turn_after = subst (λ (x : Slot). least (turned s t) ≤ part x)
        (get_or-set_same s t.before.meet.0 t.after no_slot turns.there)
        (below (turned s t) t.before.meet.0 (let k = length-set s t.before.meet.0 t.after in let l = turns.there in
        omega (arith, k, l)))

    -- a turn that keeps the meet, or is of another event
    pub least_kept : (t.before.span ≡ t.after.span) ⊎ (t.before.event.0 ≡ e → ⊥) → least (turned s t) ≡ least s
    least_kept kept =
        let same = same_part kept in
        let a = turn_exchanged in
        let b = turn_below in
        let c = turn_after in
        omega (arith, a, b, c, same)
      where
        own : t.after.event.0 ≡ t.before.event.0
        own = ap (λ (y : Slot). y.event.0) turns.same

        same_part : (t.before.span ≡ t.after.span) ⊎ (t.before.event.0 ≡ e → ⊥) → part t.after ≡ part t.before
        same_part (inl h) = λ i. cond (own i == e) (key (sym h i)) NOTHING
        same_part (inr n) = ap (λ b. cond b (key t.after.span) NOTHING) (ne_eqb t.after.event.0 e (λ h. n (sym own ∙
            h)))
            ∙ sym (ap (λ b. cond b (key t.before.span) NOTHING) (ne_eqb t.before.event.0 e n))

  -- what a cut does to the keys of its slots
  pub least_cut : (p : Parts) (s : List Slot) (a b : SlotTurn) → IsTurn p s a → IsTurn p (turned s a) b
      → part b.before ≡ NOTHING
      → ((part a.after ≡ part a.before) × (part a.before ≤ part b.after))
      ⊎ ((part b.after ≡ part a.before) × (part a.before ≤ part a.after))
      → least (turned (turned s a) b) ≡ least s
  least_cut p s a b first second none (inl h) =
      let x = turn_exchanged p s a first in
      let y = turn_exchanged p (turned s a) b second in
      let u = turn_below p s a first in
      let v = turn_after p s a first in
      let w = most NOTHING (map (λ (z : Slot). key z.span) (own_slots e (turned (turned s a) b))) in
      let h0 = h.0 in
      let h1 = h.1 in
      omega (arith, x, y, u, v, w, none, h0, h1)
  least_cut p s a b first second none (inr h) =
      let x = turn_exchanged p s a first in
      let y = turn_exchanged p (turned s a) b second in
      let u = turn_below p s a first in
      let w = most NOTHING (map (λ (z : Slot). key z.span) (own_slots e (turned (turned s a) b))) in
      let h0 = h.0 in
      let h1 = h.1 in
      omega (arith, x, y, u, w, none, h0, h1)

module _ (p : Parts) (s : List Slot) (a b : SlotTurn) (cut : IsCut a b) (first : IsTurn p s a)
    (second : IsTurn p (turned s a) b) (e : ℕ) where
  one : a.after.event.0 ≡ a.before.event.0
  one = ap (λ (y : Slot). y.event.0) first.same

  two : b.after.event.0 ≡ a.before.event.0
  two = ap (λ (y : Slot). y.event.0) second.same ∙ ap (λ n. n.0) cut.event

  free : (key : Option Span → ℕ) → key None ≡ NOTHING → part key e b.before ≡ NOTHING
  free key none = ap (λ o. cond (b.before.event.0 == e) (key o) NOTHING) cut.free ∙ by (b.before.event.0 == e)
    where
      by : (n : Bool) → cond n (key None) NOTHING ≡ NOTHING
      by true = none
      by false = refl

  starts_cut : least start_key e (turned (turned s a) b) ≡ least start_key e s
  starts_cut = least_cut start_key e p s a b first second (free start_key refl) (inl (
    (λ i. cond (one i == e) (start_key (cut.first i)) NOTHING)
        ∙ sym (ap (λ o. cond (a.before.event.0 == e) (start_key o) NOTHING) cut.whole),
    subst (λ (n : ℕ). part start_key e a.before ≤ n) (sym (λ i. cond (two i == e) (start_key (cut.second i)) NOTHING))
        (subst (λ (o : Option Span). cond (a.before.event.0 == e) (start_key o) NOTHING
        ≤ cond (a.before.event.0 == e) (start_key (Some (record { duration = cut.rest; start = later cut.start })))
        NOTHING) (sym cut.whole) (by (a.before.event.0 == e) cut.start)),
  ))
    where
      later : Option TimeId → Option TimeId
      later start = option_map (λ (t : TimeId). record { 0 = t.0 + cut.cut }) start

      by : (n : Bool) (start : Option TimeId)
          → cond n (start_key (Some (record { duration = cut.cut + cut.rest; start = start }))) NOTHING
          ≤ cond n (start_key (Some (record { duration = cut.rest; start = later start }))) NOTHING
      by true None = omega arith
      by true (Some t) = omega arith
      by false start = omega arith

  ends_cut : least end_key e (turned (turned s a) b) ≡ least end_key e s
  ends_cut = least_cut end_key e p s a b first second (free end_key refl) (inr (
    (λ i. cond (two i == e) (end_key (cut.second i)) NOTHING) ∙ same (a.before.event.0 == e) cut.start
        ∙ sym (ap (λ o. cond (a.before.event.0 == e) (end_key o) NOTHING) cut.whole),
    subst (λ (n : ℕ). part end_key e a.before ≤ n) (sym (λ i. cond (one i == e) (end_key (cut.first i)) NOTHING))
        (subst (λ (o : Option Span). cond (a.before.event.0 == e) (end_key o) NOTHING
        ≤ cond (a.before.event.0 == e) (end_key (Some (record { duration = cut.cut; start = cut.start })))
        NOTHING) (sym cut.whole) (by (a.before.event.0 == e) cut.start)),
  ))
    where
      later : Option TimeId → Option TimeId
      later start = option_map (λ (t : TimeId). record { 0 = t.0 + cut.cut }) start

      same : (n : Bool) (start : Option TimeId)
          → cond n (end_key (Some (record { duration = cut.rest; start = later start }))) NOTHING
          ≡ cond n (end_key (Some (record { duration = cut.cut + cut.rest; start = start }))) NOTHING
      same true None = refl
      same true (Some t) = omega arith
      same false start = refl

      by : (n : Bool) (start : Option TimeId)
          → cond n (end_key (Some (record { duration = cut.cut + cut.rest; start = start }))) NOTHING
          ≤ cond n (end_key (Some (record { duration = cut.cut; start = start }))) NOTHING
      by true None = omega arith
      by true (Some t) = omega arith
      by false start = omega arith

-- the first starts and last ends of all events that have a list are the same in two states
record AreAlike (lists : List (List ℕ)) (s s2 : List Slot) : Type 0 where
  starts : (e : ℕ) → IsWatched lists e → least start_key e s2 ≡ least start_key e s
  ends : (e : ℕ) → IsWatched lists e → least end_key e s2 ≡ least end_key e s

other : (lists : List (List ℕ)) (t : SlotTurn) (e : ℕ) → LeavesEdges lists t → IsWatched lists e
    → (t.before.span ≡ t.after.span) ⊎ (t.before.event.0 ≡ e → ⊥)
other lists t e (inl h) watched = inl h
other lists t e (inr none) watched = inr (λ h. watched (ap (λ k. get_or lists k []) (sym h) ∙ none))

alike : (p : Parts) (lists : List (List ℕ)) (s : List Slot) (ts : List SlotTurn)
    → AreCutOrKeep (LeavesEdges lists) ts → AreTurns p s ts → AreAlike lists s (turned_all s ts)
alike p lists s [] (inl h) turns = absurd h
alike p lists s (a ∷ []) (inl h) turns = absurd h
alike p lists s (a ∷ b ∷ []) (inl h) turns = record {
  starts = λ e w. starts_cut p s a b h turns.0 turns.1.0 e;
  ends = λ e w. ends_cut p s a b h turns.0 turns.1.0 e;
}
alike p lists s (a ∷ b ∷ c ∷ ts) (inl h) turns = absurd h
alike p lists s [] (inr h) turns = record { starts = λ e w. refl; ends = λ e w. refl }
alike p lists s (t ∷ ts) (inr h) turns =
    let rest = alike p lists (turned s t) ts (inr h.1) turns.1 in
    record {
      starts = λ e w. rest.starts e w ∙ least_kept start_key e p s t turns.0 (other lists t e h.0 w);
      ends = λ e w. rest.ends e w ∙ least_kept end_key e p s t turns.0 (other lists t e h.0 w);
    }

-- so all deviations are the same
module _ (p : Parts) (posts : List Post) (lists : List (List ℕ)) (s : List Slot) (ts : List SlotTurn)
    (made : AreWellMade p) (all : ArePosts p is_order posts) (listed : AreListed p posts lists)
    (kept : AreCutOrKeep (LeavesEdges lists) ts) (turns : AreTurns p s ts) where
  abbrev of : ℕ → List Slot → Edges
  of e z = record {
    starts = map (λ (x : Slot). start_key x.span) (own_slots e z);
    ends = map (λ (x : Slot). end_key x.span) (own_slots e z);
  }

  are : (e : ℕ) (z : List Slot) → IsEdges e z (of e z)
  are e z = record { starts = refl; ends = refl }

  or_true : (b : Bool) → (b || true) ≡ true
  or_true true = refl
  or_true false = refl

  value_alike : (i : ℕ) (m : Monitor) → slice_get p.monitors i ≡ Some m → is_order m.kind ≡ true
      → deviation_in p (turned_all s ts) m ≡ deviation_in p s m
  value_alike i m at serves =
      let s2 = turned_all s ts in
      let post = all.all i m at serves in
      let a : Post = record { number = record { 0 = i }; monitor = m } in
      let found = its_pair p m made (monitor_made p made i m at) serves in
      let q : EventPair = found.0 in
      let h : HasPair p m q = found.1 in
      let same = alike p lists s ts kept turns in
      let one = watched p posts lists q.first.0 post.0 a listed h.first post.1 (h.names_are q.first.0
      ∙ ap (λ b. b || (q.second.0 == q.first.0)) (eq-eqb q.first.0 q.first.0 refl)) in
      let two = watched p posts lists q.second.0 post.0 a listed h.second post.1 (h.names_are q.second.0
      ∙ ap (λ b. (q.first.0 == q.second.0) || b) (eq-eqb q.second.0 q.second.0 refl)
      ∙ or_true (q.first.0 == q.second.0)) in
      h.is (meets_in s2) (duties_in s2)
      ∙ order_is s2 q.first.0 q.second.0 (of q.first.0 s2) (of q.second.0 s2) q.min q.max
      (told_short p s2 made.limits.times (told_after p s ts turns)) (are q.first.0 s2) (are q.second.0 s2)
      ∙ (λ j. between (same.ends q.first.0 one j) (same.starts q.second.0 two j) q.min q.max)
      ∙ sym (order_is s q.first.0 q.second.0 (of q.first.0 s) (of q.second.0 s) q.min q.max
      (told_short p s made.limits.times (told_first p s ts turns)) (are q.first.0 s) (are q.second.0 s))
      ∙ sym (h.is (meets_in s) (duties_in s))

  pub unmoved_alike : (waits : ℕ → Bool) → AreUnmoved p is_order waits s (turned_all s ts)
  unmoved_alike waits i m at serves not = value_alike i m at serves

  pub answer_alike : (i answer : ℕ) → IfSome (slice_get p.monitors i) (λ (m : Monitor). is_order m.kind ≡ true)
      → option_map (deviation_in p s) (slice_get p.monitors i) ≡ Some answer
      → option_map (deviation_in p (turned_all s ts)) (slice_get p.monitors i) ≡ Some answer
  answer_alike i answer = by (slice_get p.monitors i) refl
    where
      by : (o : Option Monitor) → slice_get p.monitors i ≡ o → IfSome o (λ (m : Monitor). is_order m.kind ≡ true)
          → option_map (deviation_in p s) o ≡ Some answer
          → option_map (deviation_in p (turned_all s ts)) o ≡ Some answer
      by None at serves h = h
      by (Some m) at serves h = ap Some (value_alike i m at serves) ∙ h
