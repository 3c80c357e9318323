-- The edits of starts: Assign, Unassign, MoveTo and SwapMeets.
use Rattle.std.proofs.Common.{◌≡◌, ◌<◌, true, false, Option, Some, None, List, ◌++◌, length, refl, sym, ap, ◌∙◌}
use Rattle.std.specs.Option.{option_map_or}
use Rattle.std.proofs.lemmas.Bool.{eq-eqb}
use Rattle.khe_base.specs.declared.numbers.MeetId.{MeetId}
use Rattle.khe_base.specs.declared.numbers.TimeId.{TimeId}
use Rattle.khe_instance.specs.declared.parts.Parts.{Parts}
use Rattle.khe_told.specs.Slots.{slot_at, length_of, is_live, start_of}
use Rattle.khe_told.specs.declared.slots.Slot.{Slot}
use Rattle.khe_told.specs.declared.edits.Edit.TheVariants.{Assign, Unassign, MoveTo, SwapMeets}
use Rattle.khe_told.specs.declared.edits.Back.TheVariants.{By}
use Rattle.khe_solution.specs.Reading.{would_run_over}
use Rattle.khe_solution.specs.Refusing.{first_refusal, assign_row, unassign_row, move_row, swap_meets_row}
use Rattle.khe_solution.specs.Editing.{edited, timed}
use Rattle.khe_solution.specs.Changing.{changes, lifts, places}
use Rattle.khe_solution.specs.Backs.{back_of, undone, undone_changes}
use Rattle.khe_told.specs.Valid.{AreValid}
use Rattle.khe_solution.proofs.Basics.{true-false, not-false, some_value, no_value, passed, live_there}
use Rattle.khe_solution.proofs.EditingLaws.{timed_same, timed_other, timed_twice, timed_back, timed_comm, timed_reads}
use Rattle.khe_solution.proofs.EditingLaws.{start_given}
use Rattle.khe_solution.proofs.Stages.{Goes, MayMove, goes_both, goes_to, lift_goes, place_goes, moves_still}
use Rattle.khe_solution.proofs.Works.{Works}

pub timed_start : (s : List Slot) (m : MeetId) (t : Option TimeId) → is_live (slot_at s m.0) ≡ true
    → start_of (slot_at (timed s m t) m.0) ≡ t
timed_start s m t h = ap start_of (timed_same s m t (live_there s m.0 h)) ∙ start_given (slot_at s m.0) t h

pub assign_works : (p : Parts) (s : List Slot) (m : MeetId) (t : TimeId) → AreValid p s
    → first_refusal (assign_row p s m t) ≡ None → Works p s (Assign m t)
unfolding changes edited back_of undone undone_changes
assign_works p s m t v h =
    let x = slot_at s m.0 in
    let a = passed (assign_row p s m t) h in
    let live = not-false (is_live x) a.0 in
    let none : start_of x ≡ None = no_value (start_of x) a.1.1.1.0 in
    record {
      goes = place_goes p s m (Some t) v (record { live = live; free = a.1.1.0 }) none a.1.1.1.1.0;
      back = timed_back s m (Some t) None (live_there s m.0 live) none;
      list = ap (places m) (timed_start s m (Some t) live);
    }

pub unassign_works : (p : Parts) (s : List Slot) (m : MeetId) → AreValid p s → first_refusal (unassign_row p s m) ≡ None
    → Works p s (Unassign m)
unfolding changes edited back_of undone undone_changes
unassign_works p s m v h =
    let x = slot_at s m.0 in
    let a = passed (unassign_row p s m) h in
    let live = not-false (is_live x) a.0 in
    let u = some_value (start_of x) (not-false _ a.1.1.0) in
    let known : back_of s (Unassign m) ≡ By (Assign m u.0) =
    ap (λ o. option_map_or (λ (t : TimeId). By (Assign m t)) o (By (Unassign m))) u.1 in
    record {
      goes = lift_goes p s m (start_of x) v (record { live = live; free = a.1.0 }) refl;
      back = ap (undone (timed s m None)) known ∙ timed_back s m None (Some u.0) (live_there s m.0 live) u.1;
      list = ap (undone_changes (timed s m None)) known ∙ ap (lifts m) (sym u.1);
    }

pub move_works : (p : Parts) (s : List Slot) (m : MeetId) (t : TimeId) → AreValid p s
    → first_refusal (move_row p s m t) ≡ None → Works p s (MoveTo m t)
unfolding changes edited back_of undone undone_changes
move_works p s m t v h =
    let x = slot_at s m.0 in
    let a = passed (move_row p s m t) h in
    let live = not-false (is_live x) a.0 in
    let may : MayMove p s m = record { live = live; free = a.1.1.0 } in
    let u = some_value (start_of x) (not-false _ a.1.1.1.0) in
    let l = live_there s m.0 live in
    let known : back_of s (MoveTo m t) ≡ By (MoveTo m u.0) =
    ap (λ o. option_map_or (λ (q : TimeId). By (MoveTo m q)) o (By (MoveTo m t))) u.1 in
    let s1 = timed s m None in
    let g1 = lift_goes p s m (start_of x) v may refl in
    let over : would_run_over p (Some t) (length_of (slot_at s1 m.0)) ≡ false =
    ap (would_run_over p (Some t)) (timed_reads s m None m.0 l).lasts ∙ a.1.1.1.1.1.0 in
    let g2 = place_goes p s1 m (Some t) g1.valid (moves_still p s m m None l may) (timed_start s m None live) over in
    record {
      goes = goes_to p s (timed s1 m (Some t)) (timed s m (Some t)) (lifts m (start_of x) ++ places m (Some t))
          (goes_both p s s1 (timed s1 m (Some t)) (lifts m (start_of x)) (places m (Some t)) g1 g2)
          (timed_twice s m None (Some t) l);
      back = ap (undone (timed s m (Some t))) known ∙ timed_back s m (Some t) (Some u.0) l u.1;
      list = ap (undone_changes (timed s m (Some t))) known
          ∙ (λ i. lifts m (sym u.1 i) ++ places m (timed_start s m (Some t) live i));
    }

-- two meets that exchange their starts
pub swapped : (s : List Slot) (a b : MeetId) (t u : Option TimeId) → (b.0 ≡ a.0 → ⊥) → a.0 < length s
    → b.0 < length (timed s a None) → b.0 < length (timed s a u)
    → timed (timed (timed (timed s a None) b None) a u) b t ≡ timed (timed s a u) b t
swapped s a b t u d la lb1 lb =
    let s1 = timed s a None in
    let e1 : timed (timed s1 b None) a u ≡ timed (timed s a u) b None =
    timed_comm s1 b a None u (λ e. d (sym e)) ∙ ap (λ q. timed q b None) (timed_twice s a None u la) in
    ap (λ q. timed q b t) e1 ∙ timed_twice (timed s a u) b None t lb

swap_goes : (p : Parts) (s : List Slot) (a b : MeetId) → AreValid p s → MayMove p s a → MayMove p s b → (b.0 ≡ a.0 → ⊥)
    → would_run_over p (start_of (slot_at s b.0)) (length_of (slot_at s a.0)) ≡ false
    → would_run_over p (start_of (slot_at s a.0)) (length_of (slot_at s b.0)) ≡ false
    → Goes p s (lifts a (start_of (slot_at s a.0))
    ++ (lifts b (start_of (slot_at s b.0)) ++ (places a (start_of (slot_at s b.0))
    ++ places b (start_of (slot_at s a.0)))))
    (timed (timed s a (start_of (slot_at s b.0))) b (start_of (slot_at s a.0)))
swap_goes p s a b v ma mb d oa ob =
    let t = start_of (slot_at s a.0) in
    let u = start_of (slot_at s b.0) in
    let s1 = timed s a None in
    let s2 = timed s1 b None in
    let s3 = timed s2 a u in
    let s4 = timed s3 b t in
    let la = live_there s a.0 ma.live in
    let g1 = lift_goes p s a t v ma refl in
    let mb1 = moves_still p s a b None la mb in
    let lb1 = live_there s1 b.0 mb1.live in
    let g2 = lift_goes p s1 b u g1.valid mb1 (ap start_of (timed_other s a None b.0 d)) in
    let ma2 = moves_still p s1 b a None lb1 (moves_still p s a a None la ma) in
    let la2 = live_there s2 a.0 ma2.live in
    let none3 : start_of (slot_at s2 a.0) ≡ None =
    ap start_of (timed_other s1 b None a.0 (λ e. d (sym e))) ∙ timed_start s a None ma.live in
    let over3 : would_run_over p u (length_of (slot_at s2 a.0)) ≡ false =
    ap (would_run_over p u) ((timed_reads s1 b None a.0 lb1).lasts ∙ (timed_reads s a None a.0 la).lasts) ∙ oa in
    let g3 = place_goes p s2 a u g2.valid ma2 none3 over3 in
    let mb3 = moves_still p s2 a b u la2 (moves_still p s1 b b None lb1 mb1) in
    let none4 : start_of (slot_at s3 b.0) ≡ None =
    ap start_of (timed_other s2 a u b.0 d) ∙ timed_start s1 b None mb1.live in
    let over4 : would_run_over p t (length_of (slot_at s3 b.0)) ≡ false =
    ap (would_run_over p t) ((timed_reads s2 a u b.0 la2).lasts ∙ (timed_reads s1 b None b.0 lb1).lasts
    ∙ (timed_reads s a None b.0 la).lasts) ∙ ob in
    let g4 = place_goes p s3 b t g3.valid mb3 none4 over4 in
    let lb = live_there (timed s a u) b.0 (moves_still p s a b u la mb).live in
    let c3 = goes_both p s2 s3 s4 (places a u) (places b t) g3 g4 in
    let c2 = goes_both p s1 s2 s4 (lifts b u) (places a u ++ places b t) g2 c3 in
    let c1 = goes_both p s s1 s4 (lifts a t) (lifts b u ++ (places a u ++ places b t)) g1 c2 in
    goes_to p s s4 (timed (timed s a u) b t) (lifts a t ++ (lifts b u ++ (places a u ++ places b t))) c1
    (swapped s a b t u d la lb1 lb)

pub swap_meets_works : (p : Parts) (s : List Slot) (a b : MeetId) → AreValid p s
    → first_refusal (swap_meets_row p s a b) ≡ None → Works p s (SwapMeets a b)
unfolding changes edited back_of undone undone_changes
swap_meets_works p s a b v h =
    let x = slot_at s a.0 in
    let y = slot_at s b.0 in
    let t = start_of x in
    let u = start_of y in
    let k = passed (swap_meets_row p s a b) h in
    let ma : MayMove p s a = record { live = not-false (is_live x) k.0; free = k.1.1.0 } in
    let mb : MayMove p s b = record { live = not-false (is_live y) k.1.0; free = k.1.1.1.0 } in
    let d : b.0 ≡ a.0 → ⊥ = λ e. true-false (sym (eq-eqb a.0 b.0 (sym e)) ∙ k.1.1.1.1.1.1.0) in
    let c : a.0 ≡ b.0 → ⊥ = λ e. d (sym e) in
    let la = live_there s a.0 ma.live in
    let lb = live_there s b.0 mb.live in
    let sa = timed s a u in
    let s2 = timed sa b t in
    let mb2 = moves_still p s a b u la mb in
    let ey : start_of (slot_at s2 b.0) ≡ t = timed_start sa b t mb2.live in
    let ex : start_of (slot_at s2 a.0) ≡ u = ap start_of (timed_other sa b t a.0 c) ∙ timed_start s a u ma.live in
    record {
      goes = swap_goes p s a b v ma mb d k.1.1.1.1.1.1.1.1.0 k.1.1.1.1.1.1.1.1.1.0;
      back = (λ i. timed (timed s2 a (ey i)) b (ex i))
          ∙ ap (λ q. timed q b u) (timed_comm sa b a t t c ∙ ap (λ q. timed q b t) (timed_back s a u t la refl))
          ∙ timed_back s b t u lb refl;
      list = λ i. lifts a (ey i) ++ (lifts b (ex i) ++ (places a (ex i) ++ places b (ey i)));
    }
