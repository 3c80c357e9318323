-- A tied state after an edit: each follower is at its place.
use Rattle.std.proofs.Common.{ℕ, zero, suc, ◌≡◌, ◌≢◌, ◌+◌, ◌<◌, ◌≤◌, ◌⊎◌, inl, inr, true, false, cond, Option, Some, None, List, [], ◌∷◌}
use Rattle.std.proofs.Common.{length, refl, sym, ap, ◌∙◌, arith, get_or}
use Rattle.std.proofs.lemmas.Bool.{eq-eqb, ne_eqb}
use Rattle.std.proofs.lemmas.List.{get_or_default, same_lists}
use Rattle.khe_base.specs.declared.numbers.MeetId.{MeetId}
use Rattle.khe_base.specs.declared.numbers.TimeId.{TimeId}
use Rattle.khe_instance.specs.declared.parts.Parts.{Parts}
use Rattle.khe_told.specs.Slots.{is_live, length_of, no_slot, slot_at, start_of}
use Rattle.khe_told.specs.Valid.{AreValid}
use Rattle.khe_told.specs.declared.slots.Slot.{Slot}
use Rattle.khe_solution.specs.Editing.{later, timed, with_start}
use Rattle.khe_solution.specs.Reading.{is_fixed_event}
use Rattle.khe_solution.proofs.Basics.{cases_eq, live_there}
use Rattle.khe_solution.proofs.EditingLaws.{start_given, start_lasts, start_live, start_same, timed_other, timed_same}
use Rattle.khe_engine.specs.States.{State}
use Rattle.followers.specs.Carrying.{AreCarried, carried}
use Rattle.followers.specs.Ties.{IsTie, IsTied, in_place, placed, placed_by, tie_at}
use Rattle.followers.specs.declared.edits.Tie.{Tie}

-- a slot at its place
placed_none : (s : List Slot) (tie : Option Tie) → placed s tie no_slot ≡ no_slot
placed_none s None = refl
placed_none s (Some t) = refl

pub place_at : (s : List Slot) (ties : List (Option Tie)) (xs : List Slot) (k : ℕ)
    → slot_at (placed_by s ties xs) k ≡ placed s (tie_at ties k) (slot_at xs k)
place_at s [] xs k = refl
place_at s (tie ∷ ties) [] k = sym (placed_none s (tie_at (tie ∷ ties) k))
place_at s (tie ∷ ties) (x ∷ xs) zero = refl
place_at s (tie ∷ ties) (x ∷ xs) (suc k) = place_at s ties xs k

pub place_long : (s : List Slot) (ties : List (Option Tie)) (xs : List Slot) → length (placed_by s ties xs) ≡ length xs
place_long s [] xs = refl
place_long s (tie ∷ ties) [] = refl
place_long s (tie ∷ ties) (x ∷ xs) = ap suc (place_long s ties xs)

-- lists of slots that read the same are the same
pub same_slots : (xs ys : List Slot) → length xs ≡ length ys → ((k : ℕ) → slot_at xs k ≡ slot_at ys k) → xs ≡ ys
same_slots xs ys l h = same_lists xs ys l by
  where
    by : (k : ℕ) (d : Slot) → k < length xs → get_or xs k d ≡ get_or ys k d
    by k d i =
        let j : k < length ys = omega (arith, i, l) in
        get_or_default xs k d no_slot i ∙ h k ∙ get_or_default ys k no_slot d j

-- what a tie says but for the start
pub record IsLoose (p : Parts) (s : List Slot) (ties : List (Option Tie)) (m : ℕ) (t : Tie) : Type 0 where
  pub live : is_live (slot_at s m) ≡ true
  pub leader : is_live (slot_at s t.leader.0) ≡ true
  pub apart : m ≢ t.leader.0
  pub free : tie_at ties t.leader.0 ≡ None
  pub unfixed : is_fixed_event p (slot_at s m).event.0 ≡ false
  pub within : t.offset + length_of (slot_at s m) ≤ length_of (slot_at s t.leader.0)

pub loosened : (p : Parts) (s : List Slot) (ties : List (Option Tie)) (m : ℕ) (t : Tie) → IsTie p s ties m t
    → IsLoose p s ties m t
loosened p s ties m t h = record {
  live = h.live;
  leader = h.leader;
  apart = h.apart;
  free = h.free;
  unfixed = h.unfixed;
  within = h.within;
}

-- a slot that is put at its place lasts as long, is as live and is of the same event
placed_live : (s : List Slot) (tie : Option Tie) (x : Slot) → is_live (placed s tie x) ≡ is_live x
placed_live s None x = refl
placed_live s (Some t) x = start_live x (later t.offset (start_of (slot_at s t.leader.0)))

placed_lasts : (s : List Slot) (tie : Option Tie) (x : Slot) → length_of (placed s tie x) ≡ length_of x
placed_lasts s None x = refl
placed_lasts s (Some t) x = start_lasts x (later t.offset (start_of (slot_at s t.leader.0)))

placed_event : (s : List Slot) (tie : Option Tie) (x : Slot) → (placed s tie x).event ≡ x.event
placed_event s None x = refl
placed_event s (Some t) x = refl

-- with each follower at its place the ties stand
pub settled_tied : (p : Parts) (g : State) (s : List Slot) (ties : List (Option Tie)) → g.slots ≡ in_place ties s
    → AreValid p g.slots → length ties ≡ length s
    → ((m : ℕ) (t : Tie) → tie_at ties m ≡ Some t → IsLoose p s ties m t)
    → IsTied p (record { state = g; ties = ties })
settled_tied p g s ties e v long loose = record {
  valid = v;
  long = long ∙ sym (place_long s ties s) ∙ sym (ap length e);
  each = λ m t i. let h = loose m t i in record {
    live = ap is_live (at m) ∙ placed_live s (tie_at ties m) (slot_at s m) ∙ h.live;
    leader = ap is_live (at t.leader.0) ∙ placed_live s (tie_at ties t.leader.0) (slot_at s t.leader.0) ∙ h.leader;
    apart = h.apart;
    free = h.free;
    unfixed = ap (λ (x : Slot). is_fixed_event p x.event.0) (at m)
        ∙ ap (λ x. is_fixed_event p x.0) (placed_event s (tie_at ties m) (slot_at s m)) ∙ h.unfixed;
    within =
        let a : length_of (slot_at g.slots m) ≡ length_of (slot_at s m)
        = ap length_of (at m) ∙ placed_lasts s (tie_at ties m) (slot_at s m) in
        let b : length_of (slot_at g.slots t.leader.0) ≡ length_of (slot_at s t.leader.0)
        = ap length_of (at t.leader.0) ∙ placed_lasts s (tie_at ties t.leader.0) (slot_at s t.leader.0) in
        let w = h.within in
        omega (arith, a, b, w);
    start = ap start_of (at m) ∙ ap (λ o. start_of (placed s o (slot_at s m))) i
        ∙ start_given (slot_at s m) (later t.offset (start_of (slot_at s t.leader.0))) h.live
        ∙ ap (λ x. later t.offset (start_of x)) (sym (leader_at t.leader.0 h.free));
  };
}
  where
    at : (k : ℕ) → slot_at g.slots k ≡ placed s (tie_at ties k) (slot_at s k)
    at k = ap (λ xs. slot_at xs k) e ∙ place_at s ties s k

    leader_at : (k : ℕ) → tie_at ties k ≡ None → slot_at g.slots k ≡ slot_at s k
    leader_at k f = at k ∙ ap (λ o. placed s o (slot_at s k)) f

-- where each follower stands at its place, putting it there changes nothing
pub placed_same : (s t : List Slot) (tie : Option Tie) (x : Slot)
    → ((y : Tie) → tie ≡ Some y → start_of x ≡ later y.offset (start_of (slot_at s y.leader.0))) → placed s tie x ≡ x
placed_same s t None x h = refl
placed_same s t (Some y) x h = ap (with_start x) (sym (h y refl)) ∙ start_same x

-- after an edit of the start of a meet that follows none, and after its followers were put at their places
pub carried_in_place : (p : Parts) (g : State) (ties : List (Option Tie)) (m : MeetId) (start : Option TimeId) (s s2 : List Slot)
    → IsTied p (record { state = g; ties = ties }) → tie_at ties m.0 ≡ None → is_live (slot_at g.slots m.0) ≡ true
    → s ≡ timed g.slots m start → AreCarried ties m.0 start s s2 → s2 ≡ in_place ties s
carried_in_place p g ties m start s s2 h free live e c = same_slots s2 (in_place ties s)
    (c.long ∙ sym (place_long s ties s))
    (λ k. c.each k ∙ by k (tie_at ties k) refl ∙ sym (place_at s ties s k))
  where
    inside : m.0 < length g.slots
    inside = live_there g.slots m.0 live

    moved : slot_at s m.0 ≡ with_start (slot_at g.slots m.0) start
    moved = ap (λ xs. slot_at xs m.0) e ∙ timed_same g.slots m start inside

    kept : (k : ℕ) → k ≢ m.0 → slot_at s k ≡ slot_at g.slots k
    kept k d = ap (λ xs. slot_at xs k) e ∙ timed_other g.slots m start k d

    by : (k : ℕ) (tie : Option Tie) → tie_at ties k ≡ tie
        → carried m.0 start tie (slot_at s k) ≡ placed s tie (slot_at s k)
    by k None i = refl
    by k (Some t) i = way (cases_eq t.leader.0 m.0)
      where
        own : k ≢ m.0
        own z = let q : Some t ≡ None = sym i ∙ ap (tie_at ties) z ∙ free in let y : ⊥ = cc in y

        way : (t.leader.0 ≡ m.0) ⊎ (t.leader.0 ≡ m.0 → ⊥)
            → carried m.0 start (Some t) (slot_at s k) ≡ placed s (Some t) (slot_at s k)
        way (inl z) = ap (λ b. cond b (with_start (slot_at s k) (later t.offset start)) (slot_at s k))
            (eq-eqb t.leader.0 m.0 z)
            ∙ ap (λ u. with_start (slot_at s k) (later t.offset u))
            (sym (ap (λ n. start_of (slot_at s n)) z ∙ ap start_of moved ∙ start_given (slot_at g.slots m.0) start live))
        way (inr d) = ap (λ b. cond b (with_start (slot_at s k) (later t.offset start)) (slot_at s k))
            (ne_eqb t.leader.0 m.0 d)
            ∙ sym (placed_same s s (Some t) (slot_at s k) (λ y q. ap start_of (kept k own)
            ∙ (h.each k y (i ∙ q)).start
            ∙ ap (λ x. later y.offset (start_of x)) (sym (kept y.leader.0 (λ w. d (same y q ∙ w))))))
          where
            same : (y : Tie) → Some t ≡ Some y → t.leader.0 ≡ y.leader.0
            same y q = ap leader_of q
              where
                leader_of : Option Tie → ℕ
                leader_of None = 0
                leader_of (Some x) = x.leader.0
