-- Edits of one start, whichever the meet has.
use Rattle.std.proofs.Common.{ℕ, ◌≡◌, ◌≢◌, ◌+◌, ◌-◌, ◌<◌, ◌≤◌, true, false, Bool, cond, Option, Some, None, Result}
use Rattle.std.proofs.Common.{List, [], ◌∷◌, ◌++◌, length, refl, sym, ap, ◌∙◌, arith}
use Rattle.std.specs.Prelude.{IsOk, IfSome, is_some, not}
use Rattle.std.specs.Option.{option_and_then, option_map, option_map_or}
use Rattle.std.proofs.lemmas.Bool.{le-ltb, lt-leb, ne_eqb}
use Rattle.std.proofs.lemmas.List.Sums.{sum_by-cons}
use Rattle.khe_base.specs.declared.numbers.MeetId.{MeetId}
use Rattle.khe_base.specs.declared.numbers.TimeId.{TimeId}
use Rattle.khe_instance.specs.declared.parts.Parts.{Parts}
use Rattle.khe_told.specs.Fits.{IsSlot}
use Rattle.khe_instance.specs.declared.states.Meet.{Meet}
use Rattle.khe_told.specs.Lists.{meet_in}
use Rattle.monitor_graph.specs.Edits.{is_of_groups}
use Rattle.khe_told.specs.Slots.{is_live, length_of, no_slot, slot_at, start_of}
use Rattle.khe_told.specs.Valid.{AreValid}
use Rattle.khe_told.specs.declared.changes.Change.{Change}
use Rattle.khe_told.specs.declared.edits.Edit.{Edit}
use Rattle.khe_told.specs.declared.edits.Edit.TheVariants.{Assign, Unassign, MoveTo}
use Rattle.khe_told.specs.declared.refusals.Refusal.{Refusal}
use Rattle.khe_told.specs.declared.slots.Slot.{Slot}
use Rattle.khe_told.specs.declared.slots.Span.{Span}
use Rattle.khe_solution.specs.Editing as editing
use Rattle.khe_solution.specs.Editing.{timed}
use Rattle.khe_solution.specs.Reading.{is_time}
use Rattle.khe_solution.specs.Refusing as refusing
use Rattle.khe_solution.specs.Refusing.{assign_row, first_refusal, move_row, unassign_row}
use Rattle.khe_solution.proofs.Basics.{AllPass, live_there}
use Rattle.khe_solution.proofs.EditingLaws.{timed_none}
use Rattle.khe_engine.specs.States.{State, edited, refusal}
use Rattle.khe_engine.specs.Worlds.{Saved, World, grown, kept}
use Rattle.khe_engine.proofs.StateLaws.{edited_meets, refusal_meets}
use Rattle.followers.specs.Carrying.{MayPut}
use Rattle.followers.specs.Records.{HasRoom, IsAfter, states_of}

passing : (row : List (Bool × Refusal)) → AllPass row → first_refusal row ≡ None
passing [] a = refl
passing ((test, r) ∷ rest) a = ap (λ b. cond b (Some r) (first_refusal rest)) a.0 ∙ passing rest a.1

not_true : (b : Bool) → b ≡ true → not b ≡ false
not_true b h = ap not h

-- a live meet lasts a time at least
lasts : (p : Parts) (s : List Slot) (m : ℕ) → AreValid p s → is_live (slot_at s m) ≡ true → 1 ≤ length_of (slot_at s m)
lasts p s m v h =
    let l = live_there s m h in
    let slot : IsSlot p (slot_at s m) = v.told.slots m no_slot l in
    by (slot_at s m).span h slot.duration
  where
    by : (o : Option Span) → is_some o ≡ true → IfSome o (λ y. 1 ≤ y.duration) → 1 ≤ option_map_or (λ y. y.duration) o 0
    by (Some y) h d = d
    by None h d = let z : ⊥ = cc in absurd z

-- each of the three edits is accepted
pub assign_ok : (p : Parts) (s : State) (m : MeetId) (t : TimeId) → AreValid p s.slots → MayPut p s.slots m.0 (Some t)
    → start_of (slot_at s.slots m.0) ≡ None → refusal p s (Assign m t) ≡ None
unfolding refusing.refusal
assign_ok p s m t v h e =
    let d = lasts p s.slots m.0 v h.live in
    let f = h.fits in
    refusal_meets p s (Assign m t) refl ∙ passing (assign_row p s.slots m t) (
      not_true _ h.live,
      (
        lt-leb (length p.times) t.0 (omega (arith, d, f)),
        (
          h.unfixed,
          (
            ap is_some e,
            (le-ltb (length p.times) (t.0 + length_of (slot_at s.slots m.0)) f, tt),
          ),
        ),
      ),
    )

pub unassign_ok : (p : Parts) (s : State) (m : MeetId) (t : Option TimeId) (u : TimeId) → MayPut p s.slots m.0 t
    → start_of (slot_at s.slots m.0) ≡ Some u → refusal p s (Unassign m) ≡ None
unfolding refusing.refusal
unassign_ok p s m t u h e = refusal_meets p s (Unassign m) refl ∙ passing (unassign_row p s.slots m)
    (not_true _ h.live, (h.unfixed, (ap (λ o. not (is_some o)) e, tt)))

pub move_ok : (p : Parts) (s : State) (m : MeetId) (t u : TimeId) → AreValid p s.slots → MayPut p s.slots m.0 (Some t)
    → start_of (slot_at s.slots m.0) ≡ Some u → u.0 ≢ t.0 → refusal p s (MoveTo m t) ≡ None
unfolding refusing.refusal
move_ok p s m t u v h e n =
    let d = lasts p s.slots m.0 v h.live in
    let f = h.fits in
    refusal_meets p s (MoveTo m t) refl ∙ passing (move_row p s.slots m t) (
      not_true _ h.live,
      (
        lt-leb (length p.times) t.0 (omega (arith, d, f)),
        (
          h.unfixed,
          (
            ap (λ o. not (is_some o)) e,
            (
              ap (is_time t.0) e ∙ ne_eqb u.0 t.0 n,
              (le-ltb (length p.times) (t.0 + length_of (slot_at s.slots m.0)) f, tt),
            ),
          ),
        ),
      ),
    )

-- and what each makes of the slots
pub assigned : (s s2 : State) (m : MeetId) (t : TimeId) → s2 ≡ edited s (Assign m t)
    → (s2.slots ≡ timed s.slots m (Some t)) × (s2.grouping ≡ s.grouping)
unfolding editing.edited
assigned s s2 m t e = let f = e ∙ edited_meets s (Assign m t) refl in (ap (λ (x : State). x.slots) f, ap (λ (x : State). x.grouping) f)

pub unassigned : (s s2 : State) (m : MeetId) → s2 ≡ edited s (Unassign m)
    → (s2.slots ≡ timed s.slots m None) × (s2.grouping ≡ s.grouping)
unfolding editing.edited
unassigned s s2 m e = let f = e ∙ edited_meets s (Unassign m) refl in (ap (λ (x : State). x.slots) f, ap (λ (x : State). x.grouping) f)

pub moved : (s s2 : State) (m : MeetId) (t : TimeId) → s2 ≡ edited s (MoveTo m t)
    → (s2.slots ≡ timed s.slots m (Some t)) × (s2.grouping ≡ s.grouping)
unfolding editing.edited
moved s s2 m t e = let f = e ∙ edited_meets s (MoveTo m t) refl in (ap (λ (x : State). x.slots) f, ap (λ (x : State). x.grouping) f)

pub put_same : (s : List Slot) (m : MeetId) (t : Option TimeId) → start_of (slot_at s m.0) ≡ t → s ≡ timed s m t
put_same s m t e = sym (timed_none s m t e)

-- the room that an edit takes
more_kept : (cs : List Change) (xs : List Saved) → kept (grown cs xs) ≤ kept xs + 1
more_kept cs [] = omega arith
more_kept cs (x ∷ xs) =
    let f : Saved → ℕ = λ (y : Saved). y.records in
    let a = sum_by-cons f (record { state = x.state; trail = x.trail ++ cs; records = x.records + 1 }) xs in
    let b = sum_by-cons f x xs in
    omega (arith, a, b)

same_states : (cs : List Change) (xs : List Saved) → states_of (grown cs xs) ≡ states_of xs
same_states cs [] = refl
same_states cs (x ∷ xs) = refl

pub after_edit : (a b : World) (cs : List Change) → b.parts ≡ a.parts → b.saved ≡ grown cs a.saved
    → a.spare + kept a.saved ≤ b.spare + kept b.saved → IsAfter 1 a b
after_edit a b cs p s k = record {
  parts = p;
  states = ap states_of s ∙ same_states cs a.saved;
  spare = let m = more_kept cs a.saved in let e : kept b.saved ≡ kept (grown cs a.saved) = ap kept s in omega (arith, k, m, e);
}

pub edit_goes : {A E : Type 0} (a : World) (r : Result A E) → HasRoom 1 a → (1 ≤ a.spare → IsOk r) → (a.saved ≡ [] → IsOk r) → IsOk r
edit_goes a r h spare none = by a.saved refl
  where
    full : (x : Saved) (xs : List Saved) → a.saved ≡ x ∷ xs → a.saved ≢ []
    full x xs e f = let z : ⊥ = cc in z

    by : (xs : List Saved) → a.saved ≡ xs → IsOk r
    by [] e = none e
    by (x ∷ xs) e = spare (h (full x xs e))

pub after_none : (a : World) → IsAfter 1 a a
after_none a = record { parts = refl; states = refl; spare = omega arith }

pub after_both : (m n : ℕ) (a b c : World) → IsAfter m a b → IsAfter n b c → IsAfter (m + n) a c
after_both m n a b c x y = record {
  parts = y.parts ∙ x.parts;
  states = y.states ∙ x.states;
  spare = let f = x.spare in let g = y.spare in omega (arith, f, g);
}

-- what room is left
pub room_left : (m n : ℕ) (a b : World) → HasRoom (m + n) a → IsAfter m a b → HasRoom n b
room_left m n a b h k e =
    let f = h (λ z. e (by b.saved refl (k.states ∙ ap states_of z))) in
    let g = k.spare in
    omega (arith, f, g)
  where
    by : (xs : List Saved) → b.saved ≡ xs → states_of b.saved ≡ [] → b.saved ≡ []
    by [] e f = e
    by (x ∷ xs) e f = let g : states_of (x ∷ xs) ≡ [] = ap states_of (sym e) ∙ f in let z : ⊥ = cc in absurd z

pub grouping_kept : (s s2 : State) (e : Edit) → is_of_groups e ≡ false → s2 ≡ edited s e → s2.grouping ≡ s.grouping
grouping_kept s s2 e h k = ap (λ (x : State). x.grouping) (k ∙ edited_meets s e h)

-- the start of a slot whose meet is this one
pub start_read : (x : Slot) (own : Meet) → meet_in x ≡ Some own → start_of x ≡ own.start
start_read x own e = by x.span e
  where
    start_in : Option Meet → Option TimeId
    start_in None = None
    start_in (Some m) = m.start

    by : (o : Option Span)
        → option_map (λ y. record { meet = x.meet; event = x.event; duration = y.duration; start = y.start }) o ≡ Some own
        → option_and_then (λ (y : Span). y.start) o ≡ own.start
    by None e = let z : ⊥ = cc in absurd z
    by (Some y) e = ap start_in e

-- room for one more edit
pub room_here : (m n : ℕ) (a b : World) → HasRoom n a → IsAfter m a b → m < n → HasRoom 1 b
room_here m n a b h k l = room_left m 1 a b (λ e. let f = h e in omega (arith, f, l)) k

pub after_more : (m n : ℕ) (a b : World) → IsAfter m a b → m ≤ n → IsAfter n a b
after_more m n a b k l = record { parts = k.parts; states = k.states; spare = let f = k.spare in omega (arith, f, l) }

pub after_some : (n : ℕ) (a : World) → IsAfter n a a
after_some n a = record { parts = refl; states = refl; spare = omega arith }

pub start_none : (x : Slot) → meet_in x ≡ None → start_of x ≡ None
start_none x e = by x.span e
  where
    by : (o : Option Span)
        → option_map {T = Span} {U = Meet} (λ y. record { meet = x.meet; event = x.event; duration = y.duration; start = y.start }) o
        ≡ None
        → option_and_then (λ (y : Span). y.start) o ≡ None
    by None e = refl
    by (Some y) e = let z : ⊥ = cc in absurd z

pub room_less : (m n k : ℕ) (a b : World) → HasRoom k a → IsAfter m a b → m + n ≤ k → HasRoom n b
room_less m n k a b h i l = room_left m n a b (λ e. let f = h e in omega (arith, f, l)) i

pub after_sum : (m n k : ℕ) (a b c : World) → IsAfter m a b → IsAfter n b c → m + n ≤ k → IsAfter k a c
after_sum m n k a b c x y l = after_more (m + n) k a c (after_both m n a b c x y) l

-- one edit more, of n
pub after_one : (k left : ℕ) (a b c : World) → IsAfter (k - left) a b → IsAfter 1 b c → 0 < left → left ≤ k
    → IsAfter (k - (left - 1)) a c
after_one k left a b c x y l m = after_sum (k - left) 1 (k - (left - 1)) a b c x y (omega (arith, l, m))
