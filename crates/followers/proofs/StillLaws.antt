-- Edits that leave starts and durations as they are leave the ties as they stand.
use Rattle.std.proofs.Common.{ℕ, ◌≡◌, ◌≢◌, ◌+◌, ◌-◌, ◌<◌, ◌≤◌, ◌⊎◌, inl, inr, true, false, Bool, Option, Some, None, List, [], ◌∷◌}
use Rattle.std.proofs.Common.{length, refl, sym, ap, subst, ◌∙◌, arith, set, get_or-set_same, get_or-set_other}
use Rattle.std.specs.Prelude.{◌&&◌, is_some}
use Rattle.std.specs.Option.{option_and_then, option_map, option_map_or}
use Rattle.std.proofs.lemmas.Bool.{cases_lt, eq-eqb}
use Rattle.std.proofs.lemmas.List.{get_or_past, length-set}
use Rattle.khe_base.specs.declared.numbers.TimeId.{TimeId}
use Rattle.monitor_graph.specs.Edits.{is_of_groups}
use Rattle.khe_solution.proofs.Basics.{cases_eq, not-false, passed, true-false}
use Rattle.khe_base.specs.declared.numbers.EventId.{EventId}
use Rattle.khe_base.specs.declared.numbers.ResourceId.{ResourceId}
use Rattle.khe_base.specs.declared.numbers.TaskId.{TaskId}
use Rattle.khe_instance.specs.declared.parts.Parts.{Parts}
use Rattle.khe_told.specs.Slots.{emptied, is_live, length_of, no_slot, slot_at, start_of}
use Rattle.khe_told.specs.Valid.{AreValid}
use Rattle.khe_told.specs.declared.edits.Edit.{Edit}
use Rattle.khe_told.specs.declared.edits.Edit.TheVariants.{Split, Merge, Give, Take, Regive, SwapTasks, Attach, Detach, MakeGroup, DropGroup, AddChild, RemoveChild}
use Rattle.khe_told.specs.declared.slots.Slot.{Slot}
use Rattle.khe_told.specs.declared.slots.Span.{Span}
use Rattle.khe_solution.specs.Editing as editing
use Rattle.khe_solution.specs.Editing.{cut_at, joined_at, later, staffed, with_meet, with_resource}
use Rattle.khe_solution.specs.Reading.{free_slot, is_fixed_event, resource_at}
use Rattle.khe_solution.specs.Refusing as refusing
use Rattle.khe_solution.specs.Refusing.{merge_row}
use Rattle.khe_solution.proofs.MeetEdits.{may_cut, new_slot}
use Rattle.khe_engine.specs.States.{State, edited, refusal}
use Rattle.khe_engine.proofs.StateLaws.{edited_groups, edited_meets, refusal_meets}
use Rattle.khe_told.specs.declared.changes.Change.{Change}
use Rattle.khe_told.specs.declared.refusals.Refusal.{Refusal}
use Rattle.khe_engine.specs.Worlds as faults
use Rattle.khe_engine.specs.Worlds.{Saved, grown}
use Rattle.khe_engine.specs.declared.faults.EditFault.{EditFault}
use Rattle.khe_engine.specs.declared.faults.EditFault.TheVariants as fault
use Rattle.followers.specs.Worlds.{IsFaultOf}
use Rattle.followers.specs.declared.edits.TiedFault.{TiedFault}
use Rattle.followers.specs.declared.edits.TiedFault.TheVariants.{Refused, NoMemory}
use Rattle.followers.specs.Records.{states_of, with_ties}
use Rattle.followers.specs.Still.{is_still}
use Rattle.followers.specs.Tables.{base_refusal, settled}
use Rattle.followers.specs.Bars.{bar, barred_by, live_at}
use Rattle.followers.specs.Ties.{IsTied, TiedState, follows, in_place, is_to, leads, tie_at}
use Rattle.followers.specs.declared.edits.Tie.{Tie}
use Rattle.followers.specs.declared.edits.TiedRefusal.TheVariants.{Base, Follower, Leader}
use Rattle.khe_base.specs.declared.numbers.MeetId.{MeetId}
use Rattle.followers.specs.declared.edits.TiedRefusal.{TiedRefusal}
use Rattle.followers.proofs.BarLaws.{barred_none, barred_some}
use Rattle.followers.proofs.TieLaws.{no_follower}
use Rattle.followers.proofs.SettleLaws.{place_at, place_long, placed_same, same_slots}

-- a slot's meet is as it was
pub record IsAlike (x y : Slot) : Type 0 where
  pub span : x.span ≡ y.span
  pub event : x.event ≡ y.event

alike_refl : (x : Slot) → IsAlike x x
alike_refl x = record { span = refl; event = refl }

-- the meets of all ties are
pub record AreAlike (ties : List (Option Tie)) (s s2 : List Slot) : Type 0 where
  pub long : length s2 ≡ length s
  pub follower : (k : ℕ) (t : Tie) → tie_at ties k ≡ Some t → IsAlike (slot_at s2 k) (slot_at s k)
  pub leader : (k : ℕ) (t : Tie) → tie_at ties k ≡ Some t → IsAlike (slot_at s2 t.leader.0) (slot_at s t.leader.0)

abbrev live_in : Option Span → Bool
live_in o = is_some o

pub alike_tied : (p : Parts) (g g2 : State) (ties : List (Option Tie)) → IsTied p (with_ties g ties) → AreValid p g2.slots
    → AreAlike ties g.slots g2.slots → IsTied p (with_ties g2 ties)
alike_tied p g g2 ties h v a = record {
  valid = v;
  long = h.long ∙ sym a.long;
  each = λ k t i.
      let o = h.each k t i in
      let f = a.follower k t i in
      let l = a.leader k t i in
      record {
        live = ap live_in f.span ∙ o.live;
        leader = ap live_in l.span ∙ o.leader;
        apart = o.apart;
        free = o.free;
        unfixed = ap (λ (e : EventId). is_fixed_event p e.0) f.event ∙ o.unfixed;
        within =
            let x : length_of (slot_at g2.slots k) ≡ length_of (slot_at g.slots k) = ap lasts f.span in
            let y : length_of (slot_at g2.slots t.leader.0) ≡ length_of (slot_at g.slots t.leader.0) = ap lasts l.span in
            let w = o.within in
            omega (arith, x, y, w);
        start = ap starts f.span ∙ o.start ∙ ap (λ s. later t.offset (starts s)) (sym l.span);
      };
}
  where
    lasts : Option Span → ℕ
    lasts o = option_map_or (λ y. y.duration) o 0

    starts : Option Span → Option TimeId
    starts o = option_and_then (λ (y : Span). y.start) o

-- where the ties stand, each follower is at its place
pub settled_same : (p : Parts) (t : TiedState) → IsTied p t → settled t ≡ t
settled_same p t h = λ i. record t { state = record t.state { slots = same i } }
  where
    same : in_place t.ties t.state.slots ≡ t.state.slots
    same = same_slots (in_place t.ties t.state.slots) t.state.slots (place_long t.state.slots t.ties t.state.slots)
        (λ k. place_at t.state.slots t.ties t.state.slots k
        ∙ placed_same t.state.slots t.state.slots (tie_at t.ties k) (slot_at t.state.slots k)
        (λ y i. (h.each k y i).start))

-- a task with another resource
staffed_alike : (s : List Slot) (t : TaskId) (r : Option ResourceId) (k : ℕ) → IsAlike (slot_at (staffed s t r) k) (slot_at s k)
staffed_alike s t r k = by (cases_eq k t.meet.0) (cases_lt k (length s))
  where
    new : Slot
    new = with_resource (slot_at s t.meet.0) t.place r

    by : (k ≡ t.meet.0) ⊎ (k ≡ t.meet.0 → ⊥) → (k < length s) ⊎ (length s ≤ k)
        → IsAlike (slot_at (staffed s t r) k) (slot_at s k)
    by (inr d) o = subst (λ x. IsAlike x (slot_at s k)) (sym (get_or-set_other s t.meet.0 k new no_slot d))
        (alike_refl (slot_at s k))
    by (inl e) (inl l) =
        let j : t.meet.0 < length s = omega (arith, e, l) in
        subst (λ n. IsAlike (slot_at (staffed s t r) n) (slot_at s n)) (sym e)
        (subst (λ x. IsAlike x (slot_at s t.meet.0)) (sym (get_or-set_same s t.meet.0 new no_slot j))
        (record { span = refl; event = refl }))
    by (inl e) (inr g) =
        let n = length-set s t.meet.0 new in
        let past : slot_at (staffed s t r) k ≡ no_slot = get_or_past (set s t.meet.0 new) k no_slot (omega (arith, g, n)) in
        let old : slot_at s k ≡ no_slot = get_or_past s k no_slot g in
        subst (λ x. IsAlike x (slot_at s k)) (sym past) (subst (IsAlike no_slot) (sym old) (alike_refl no_slot))

both_alike : (x y z : Slot) → IsAlike x y → IsAlike y z → IsAlike x z
both_alike x y z a b = record { span = a.span ∙ b.span; event = a.event ∙ b.event }

pub slots_alike : (ties : List (Option Tie)) (s s2 : List Slot) → length s2 ≡ length s
    → ((k : ℕ) → IsAlike (slot_at s2 k) (slot_at s k)) → AreAlike ties s s2
slots_alike ties s s2 l h = record { long = l; follower = λ k t i. h k; leader = λ k t i. h t.leader.0 }

by_groups : (ties : List (Option Tie)) (s : State) (e : Edit) → is_of_groups e ≡ true
    → AreAlike ties s.slots (edited s e).slots
by_groups ties s e h = subst (λ (x : State). AreAlike ties s.slots x.slots) (sym (edited_groups s e h))
    (slots_alike ties s.slots s.slots refl (λ k. alike_refl (slot_at s.slots k)))

-- two slots that no tie names may change
apart_alike : (ties : List (Option Tie)) (s s2 : List Slot) (m n : ℕ) → length s2 ≡ length s
    → ((k : ℕ) → k ≢ m → k ≢ n → slot_at s2 k ≡ slot_at s k)
    → ((k : ℕ) (t : Tie) → tie_at ties k ≡ Some t → (k ≢ m) × (k ≢ n))
    → ((k : ℕ) (t : Tie) → tie_at ties k ≡ Some t → (t.leader.0 ≢ m) × (t.leader.0 ≢ n)) → AreAlike ties s s2
apart_alike ties s s2 m n l h f g = record {
  long = l;
  follower = λ k t i. let a = f k t i in subst (λ x. IsAlike x (slot_at s k)) (sym (h k a.0 a.1)) (alike_refl (slot_at s k));
  leader = λ k t i. let a = g k t i in subst (λ x. IsAlike x (slot_at s t.leader.0)) (sym (h t.leader.0 a.0 a.1))
      (alike_refl (slot_at s t.leader.0));
}

-- what stands in other slots than two
both_other : (s : List Slot) (m n : ℕ) (x y : Slot) (k : ℕ) → k ≢ m → k ≢ n
    → slot_at (set (set s n y) m x) k ≡ slot_at s k
both_other s m n x y k a b = get_or-set_other (set s n y) m k x no_slot a ∙ get_or-set_other s n k y no_slot b

both_long : (s : List Slot) (m n : ℕ) (x y : Slot) → length (set (set s n y) m x) ≡ length s
both_long s m n x y = length-set (set s n y) m x ∙ length-set s n y

-- a meet that neither follows nor leads is in no tie
in_no_tie : (ties : List (Option Tie)) (m : ℕ) → follows ties m ≡ false → leads ties m ≡ false
    → (k : ℕ) (t : Tie) → tie_at ties k ≡ Some t → (k ≢ m) × (t.leader.0 ≢ m)
in_no_tie ties m f l k t i = (
  λ z. true-false (sym (ap is_some (sym (ap (tie_at ties) z) ∙ i)) ∙ f),
  λ z. no_follower ties m k l (ap (is_to m) i ∙ eq-eqb t.leader.0 m z),
)

-- nor is a slot without a meet
free_no_tie : (p : Parts) (s : State) (ties : List (Option Tie)) (n : ℕ) → IsTied p (with_ties s ties)
    → (slot_at s.slots n).span ≡ None → (k : ℕ) (t : Tie) → tie_at ties k ≡ Some t → (k ≢ n) × (t.leader.0 ≢ n)
free_no_tie p s ties n h e k t i =
    let a = h.each k t i in
    let dead : is_live (slot_at s.slots n) ≡ false = ap live_in e in (
      λ z. true-false (sym a.live ∙ ap (λ j. is_live (slot_at s.slots j)) z ∙ dead),
      λ z. true-false (sym a.leader ∙ ap (λ j. is_live (slot_at s.slots j)) z ∙ dead),
    )

cut_bar : (live f l : Bool) → live ≡ true
    → barred_by live ((f, Follower) ∷ (l, Leader) ∷ []) ≡ None → (f ≡ false) × (l ≡ false)
cut_bar true false false e h = (refl, refl)
cut_bar true false true e h = let z : ⊥ = cc in absurd z
cut_bar true true l e h = let z : ⊥ = cc in absurd z
cut_bar false f l e h = absurd (true-false (sym e))

join_bar : (x y f g l k : Bool) → x ≡ true → y ≡ true
    → barred_by (x && y) ((f, Follower) ∷ (g, Follower) ∷ (l, Leader) ∷ (k, Leader) ∷ []) ≡ None
    → (f ≡ false) × (g ≡ false) × (l ≡ false) × (k ≡ false)
join_bar true true false false false false e i h = (refl, refl, refl, refl)
join_bar true true false false false true e i h = let z : ⊥ = cc in absurd z
join_bar true true false false true k e i h = let z : ⊥ = cc in absurd z
join_bar true true false true l k e i h = let z : ⊥ = cc in absurd z
join_bar true true true g l k e i h = let z : ⊥ = cc in absurd z
join_bar true false f g l k e i h = absurd (true-false (sym i))
join_bar false y f g l k e i h = absurd (true-false (sym e))

cut_alike : (p : Parts) (s : State) (ties : List (Option Tie)) (m : MeetId) (cut : ℕ) → IsTied p (with_ties s ties)
    → bar s.slots ties (Split m cut) ≡ None → refusal p s (Split m cut) ≡ None
    → AreAlike ties s.slots (editing.edited s.slots (Split m cut))
unfolding editing.edited bar refusing.refusal
cut_alike p s ties m cut h b r =
    let may = may_cut p s.slots m cut (sym (refusal_meets p s (Split m cut) refl) ∙ r) in
    let f = cut_bar (live_at s.slots m) (follows ties m.0) (leads ties m.0) may.live b in
    let some = may.some in
    let less = may.less in
    let x = slot_at s.slots m.0 in
    let n = free_slot s.slots x.event.0 in
    let new = new_slot p s.slots m h.valid.told may.live (omega (arith, some, less)) in
    apart_alike ties s.slots (cut_at s.slots m.0 cut n) m.0 n
    (both_long s.slots m.0 n (with_meet x cut (start_of x) x.given)
    (with_meet (slot_at s.slots n) (length_of x - cut) (later cut (start_of x)) x.given))
    (both_other s.slots m.0 n (with_meet x cut (start_of x) x.given)
    (with_meet (slot_at s.slots n) (length_of x - cut) (later cut (start_of x)) x.given))
    (λ k t i. (
      (in_no_tie ties m.0 f.0 f.1 k t i).0,
      (free_no_tie p s ties n h new.1 k t i).0,
    ))
    (λ k t i. (
      (in_no_tie ties m.0 f.0 f.1 k t i).1,
      (free_no_tie p s ties n h new.1 k t i).1,
    ))

join_alike : (p : Parts) (s : State) (ties : List (Option Tie)) (a b : MeetId) → IsTied p (with_ties s ties)
    → bar s.slots ties (Merge a b) ≡ None → refusal p s (Merge a b) ≡ None
    → AreAlike ties s.slots (editing.edited s.slots (Merge a b))
unfolding editing.edited bar refusing.refusal
join_alike p s ties a b h e r =
    let row = passed (merge_row s.slots a b) (sym (refusal_meets p s (Merge a b) refl) ∙ r) in
    let x = slot_at s.slots a.0 in
    let y = slot_at s.slots b.0 in
    let f = join_bar (is_live x) (is_live y) (follows ties a.0) (follows ties b.0) (leads ties a.0) (leads ties b.0)
    (not-false (is_live x) row.0) (not-false (is_live y) row.1.0) e in
    apart_alike ties s.slots (joined_at s.slots a.0 b.0) a.0 b.0
    (both_long s.slots a.0 b.0 (with_meet x (length_of x + length_of y) (start_of x) x.given) (emptied y))
    (both_other s.slots a.0 b.0 (with_meet x (length_of x + length_of y) (start_of x) x.given) (emptied y))
    (λ k t i. ((in_no_tie ties a.0 f.0 f.2 k t i).0, (in_no_tie ties b.0 f.1 f.3 k t i).0))
    (λ k t i. ((in_no_tie ties a.0 f.0 f.2 k t i).1, (in_no_tie ties b.0 f.1 f.3 k t i).1))

pub still_alike : (p : Parts) (ties : List (Option Tie)) (s : State) (e : Edit) → is_still e ≡ true
    → IsTied p (with_ties s ties) → bar s.slots ties e ≡ None → refusal p s e ≡ None
    → AreAlike ties s.slots (edited s e).slots
unfolding editing.edited
still_alike p ties s (Split m cut) h t b r =
    subst (λ (x : State). AreAlike ties s.slots x.slots) (sym (edited_meets s (Split m cut) refl)) (cut_alike p s ties m cut t b r)
still_alike p ties s (Merge m n) h t b r =
    subst (λ (x : State). AreAlike ties s.slots x.slots) (sym (edited_meets s (Merge m n) refl)) (join_alike p s ties m n t b r)
still_alike p ties s (Give x y) h t b r = subst (λ (x : State). AreAlike ties s.slots x.slots) (sym (edited_meets s (Give x y) refl))
    (slots_alike ties s.slots (staffed s.slots x (Some y)) (length-set s.slots x.meet.0 _) (staffed_alike s.slots x (Some y)))
still_alike p ties s (Take x) h t b r = subst (λ (x : State). AreAlike ties s.slots x.slots) (sym (edited_meets s (Take x) refl))
    (slots_alike ties s.slots (staffed s.slots x None) (length-set s.slots x.meet.0 _) (staffed_alike s.slots x None))
still_alike p ties s (Regive x y) h t b r = subst (λ (x : State). AreAlike ties s.slots x.slots)
    (sym (edited_meets s (Regive x y) refl))
    (slots_alike ties s.slots (staffed s.slots x (Some y)) (length-set s.slots x.meet.0 _) (staffed_alike s.slots x (Some y)))
still_alike p ties s (SwapTasks x y) h t b r =
    let one = staffed s.slots x (resource_at s.slots y) in
    let two = staffed one y (resource_at s.slots x) in
    subst (λ (z : State). AreAlike ties s.slots z.slots) (sym (edited_meets s (SwapTasks x y) refl))
    (slots_alike ties s.slots two (length-set one y.meet.0 _ ∙ length-set s.slots x.meet.0 _)
    (λ k. both_alike (slot_at two k) (slot_at one k) (slot_at s.slots k)
    (staffed_alike one y (resource_at s.slots x) k) (staffed_alike s.slots x (resource_at s.slots y) k)))
still_alike p ties s (Attach m) h t b r = by_groups ties s (Attach m) refl
still_alike p ties s (Detach m) h t b r = by_groups ties s (Detach m) refl
still_alike p ties s MakeGroup h t b r = by_groups ties s MakeGroup refl
still_alike p ties s (DropGroup g) h t b r = by_groups ties s (DropGroup g) refl
still_alike p ties s (AddChild g m) h t b r = by_groups ties s (AddChild g m) refl
still_alike p ties s (RemoveChild g m) h t b r = by_groups ties s (RemoveChild g m) refl
still_alike p ties s _ h t b r = absurd (true-false (sym h))

-- what they make of a tied state
pub still_tied : (p : Parts) (s s2 : State) (ties : List (Option Tie)) (e : Edit) → is_still e ≡ true
    → IsTied p (with_ties s ties) → None ≡ bar s.slots ties e → refusal p s e ≡ None → s2 ≡ edited s e
    → AreValid p s2.slots → IsTied p (with_ties s2 ties)
still_tied p s s2 ties e h t b r k v = alike_tied p s s2 ties t v
    (subst (λ (x : State). AreAlike ties s.slots x.slots) (sym k) (still_alike p ties s e h t (sym b) r))

pub still_state : (p : Parts) (s s2 : State) (ties : List (Option Tie)) (e : Edit) → IsTied p (with_ties s2 ties)
    → s2 ≡ edited s e → with_ties s2 ties ≡ settled (with_ties (edited s e) ties)
still_state p s s2 ties e t k = sym (settled_same p (with_ties s2 ties) t) ∙ ap (λ x. settled (with_ties x ties)) k

pub still_accepted : (p : Parts) (s : State) (ties : List (Option Tie)) (e : Edit) → None ≡ bar s.slots ties e
    → refusal p s e ≡ None → base_refusal p (with_ties s ties) e ≡ None
still_accepted p s ties e h k = barred_none p s ties e h ∙ ap (option_map Base) k

pub still_fault : (p : Parts) (s : State) (ties : List (Option Tie)) (e : Edit) (f : TiedFault)
    → None ≡ bar s.slots ties e → IsFaultOf (option_map Base (refusal p s e)) f
    → IsFaultOf (base_refusal p (with_ties s ties) e) f
still_fault p s ties e f h i = subst (λ o. IsFaultOf o f) (sym (barred_none p s ties e h)) i

-- a fault of the engine
pub fault_refused : (o : Option Refusal) (r : Refusal) → faults.IsFaultOf o (fault.Refused r)
    → IsFaultOf (option_map Base o) (Refused (Base r))
fault_refused None r k = let z : ⊥ = cc in absurd z
fault_refused (Some x) r k = ap out k
  where
    out : EditFault → TiedFault
    out (fault.Refused y) = Refused (Base y)
    out fault.NoMemory = NoMemory

pub fault_starved : (o : Option Refusal) → faults.IsFaultOf o fault.NoMemory → IsFaultOf (option_map Base o) NoMemory
fault_starved None k = refl
fault_starved (Some x) k = let z : ⊥ = cc in absurd z

pub same_states : (cs : List Change) (xs ys : List Saved) → ys ≡ grown cs xs → states_of ys ≡ states_of xs
same_states cs [] ys e = ap states_of e
same_states cs (x ∷ xs) ys e = ap states_of e

-- what ties refuse
pub bar_fault : (p : Parts) (s : State) (slots : List Slot) (ties : List (Option Tie)) (e : Edit) (r : TiedRefusal)
    → slots ≡ s.slots → Some r ≡ bar slots ties e → IsFaultOf (base_refusal p (with_ties s ties) e) (Refused r)
bar_fault p s slots ties e r i h = subst (λ o. IsFaultOf o (Refused r))
    (sym (barred_some p s ties e r (h ∙ ap (λ x. bar x ties e) i))) refl
