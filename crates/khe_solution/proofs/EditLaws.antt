-- What follows for every edit, and for every record that leads back.
use Rattle.std.proofs.Common.{ℕ, ◌≡◌, ◌+◌, ◌-◌, ◌^◌, ◌<◌, ◌≤◌, arith, inl, inr, set, length, get_or-set_same, true}
use Rattle.std.proofs.Common.{Option, Some, None, List, sym, ap, subst, ◌∙◌}
use Rattle.khe_instance.specs.declared.parts.Parts.{Parts}
use Rattle.khe_told.proofs.SlotLaws.{after_inverses, all_fit_inverses}
use Rattle.khe_told.proofs.WatcherLaws.{watchers_inverses}
use Rattle.khe_told.specs.Watchers.{watcher_counts}
use Rattle.khe_told.specs.Changes.{after_all, inverses}
use Rattle.khe_told.specs.Fits.{AllFit, IsSlot}
use Rattle.khe_told.specs.declared.slots.Slot.{Slot}
use Rattle.khe_told.specs.declared.edits.Edit.{Edit}
use Rattle.khe_told.specs.declared.edits.Edit.TheVariants.{Assign, Unassign, MoveTo, Split, Merge, SwapMeets, Give}
use Rattle.khe_told.specs.declared.edits.Edit.TheVariants.{Take, Regive, SwapTasks, Attach, Detach, MakeGroup}
use Rattle.khe_told.specs.declared.edits.Edit.TheVariants.{DropGroup, AddChild, RemoveChild}
use Rattle.khe_told.specs.declared.edits.Back.{Back}
use Rattle.khe_told.specs.declared.edits.Back.TheVariants.{By, Cut, Make, Insert}
use Rattle.khe_told.specs.Slots.{no_slot, slot_at, length_of, start_of}
use Rattle.khe_told.specs.declared.slots.Span.{Span}
use Rattle.khe_base.specs.declared.numbers.MeetId.{MeetId}
use Rattle.khe_base.specs.declared.numbers.TimeId.{TimeId}
use Rattle.khe_instance.specs.WellMade.{AreWellMade}
use Rattle.std.specs.Prelude.{IfSome}
use Rattle.std.specs.Option.{option_map_or, option_and_then}
use Rattle.std.proofs.lemmas.Bool.{cases_lt}
use Rattle.std.proofs.lemmas.List.{get_or_past, length-set}
use Rattle.std.proofs.lemmas.List.Elements.{All-get_or}
use Rattle.khe_solution.specs.Timetables.{HasRoom, AreRoomy, StartsLater, CutsWithin, RecutsWithin}
use Rattle.khe_solution.specs.Refusing.{is_of_meets, refusal}
use Rattle.khe_solution.specs.Editing.{edited, with_meet, later, cut_at}
use Rattle.khe_solution.specs.Changing.{changes}
use Rattle.khe_solution.specs.Backs.{back_of, undone, undone_changes, LeadsBack}
use Rattle.khe_told.specs.Valid.{AreValid}
use Rattle.khe_solution.proofs.Basics.{true-false, live_there}
use Rattle.khe_solution.proofs.Works.{Works}
use Rattle.khe_solution.proofs.StartEdits.{assign_works, unassign_works, move_works, swap_meets_works}
use Rattle.khe_solution.proofs.ResourceEdits.{give_works, take_works, regive_works, swap_tasks_works}
use Rattle.khe_solution.proofs.MeetEdits.{split_works, merge_works, may_cut}
use Rattle.khe_solution.proofs.Owners.{room_for}

pub edit_works : (p : Parts) (s : List Slot) (e : Edit) → AreValid p s → is_of_meets e ≡ true → refusal p s e ≡ None
    → Works p s e
unfolding refusal
edit_works p s (Assign m t) v o h = assign_works p s m t v h
edit_works p s (Unassign m) v o h = unassign_works p s m v h
edit_works p s (MoveTo m t) v o h = move_works p s m t v h
edit_works p s (Split m cut) v o h = split_works p s m cut v h
edit_works p s (Merge a b) v o h = merge_works p s a b v h
edit_works p s (SwapMeets a b) v o h = swap_meets_works p s a b v h
edit_works p s (Give t r) v o h = give_works p s t r v h
edit_works p s (Take t) v o h = take_works p s t v h
edit_works p s (Regive t r) v o h = regive_works p s t r v h
edit_works p s (SwapTasks a b) v o h = swap_tasks_works p s a b v h
edit_works p s (Attach m) v o h = absurd (true-false (sym o))
edit_works p s (Detach m) v o h = absurd (true-false (sym o))
edit_works p s MakeGroup v o h = absurd (true-false (sym o))
edit_works p s (DropGroup g) v o h = absurd (true-false (sym o))
edit_works p s (AddChild g m) v o h = absurd (true-false (sym o))
edit_works p s (RemoveChild g m) v o h = absurd (true-false (sym o))

pub edit_fits : (p : Parts) (s : List Slot) (e : Edit) → AreValid p s → is_of_meets e ≡ true → refusal p s e ≡ None
    → AllFit p s (changes s e)
edit_fits p s e v o h = (edit_works p s e v o h).goes.fits

pub edit_slots : (p : Parts) (s : List Slot) (e : Edit) → AreValid p s → is_of_meets e ≡ true → refusal p s e ≡ None
    → after_all s (changes s e) ≡ edited s e
edit_slots p s e v o h = (edit_works p s e v o h).goes.slots

-- an edit that is not refused leads from a valid state to a valid one
pub edit_valid : (p : Parts) (s : List Slot) (e : Edit) → AreValid p s → is_of_meets e ≡ true → refusal p s e ≡ None
    → AreValid p (after_all s (changes s e))
edit_valid p s e v o h = let g = (edit_works p s e v o h).goes in subst (AreValid p) (sym g.slots) g.valid

-- a record that leads back: the changes that it undoes lead to these slots, and their inverses back
undo_list : (p : Parts) (s : List Slot) (b : Back) (l : LeadsBack p s b)
    → undone_changes s b ≡ changes (undone s b) l.edit
undo_list p s b l =
    let w = edit_works p (undone s b) l.edit l.valid l.ours l.accepted in
    (λ i. undone_changes (l.slots i) (l.record_ i)) ∙ w.list

pub undo_after : (p : Parts) (s : List Slot) (b : Back) → LeadsBack p s b
    → s ≡ after_all (undone s b) (undone_changes s b)
undo_after p s b l =
    let w = edit_works p (undone s b) l.edit l.valid l.ours l.accepted in
    l.slots ∙ sym w.goes.slots ∙ ap (after_all (undone s b)) (sym (undo_list p s b l))

pub undo_forth : (p : Parts) (s : List Slot) (b : Back) → LeadsBack p s b → AllFit p (undone s b) (undone_changes s b)
undo_forth p s b l =
    let w = edit_works p (undone s b) l.edit l.valid l.ours l.accepted in
    subst (AllFit p (undone s b)) (sym (undo_list p s b l)) w.goes.fits

pub undo_fits : (p : Parts) (s : List Slot) (b : Back) → LeadsBack p s b → AllFit p s (inverses (undone_changes s b))
undo_fits p s b l =
    subst (λ x. AllFit p x (inverses (undone_changes s b))) (sym (undo_after p s b l))
    (all_fit_inverses p (undone s b) (undone_changes s b) l.valid.told (undo_forth p s b l))

pub undo_slots : (p : Parts) (s : List Slot) (b : Back) → LeadsBack p s b
    → after_all s (inverses (undone_changes s b)) ≡ undone s b
undo_slots p s b l =
    ap (λ x. after_all x (inverses (undone_changes s b))) (undo_after p s b l)
    ∙ after_inverses p (undone s b) (undone_changes s b) l.valid.told (undo_forth p s b l)

pub undo_valid : (p : Parts) (s : List Slot) (b : Back) → LeadsBack p s b
    → AreValid p (after_all s (inverses (undone_changes s b)))
undo_valid p s b l = subst (AreValid p) (sym (undo_slots p s b l)) l.valid

pub undo_steps : (p : Parts) (s : List Slot) (b : Back) → LeadsBack p s b
    → watcher_counts p s (inverses (undone_changes s b)) ≡ watcher_counts p (undone s b) (undone_changes s b)
undo_steps p s b l =
    ap (λ x. watcher_counts p x (inverses (undone_changes s b))) (undo_after p s b l)
    ∙ watchers_inverses p (undone s b) (undone_changes s b) l.valid.told (undo_forth p s b l)

-- the record of an edit leads back
pub back_leads : (p : Parts) (s : List Slot) (e : Edit) → AreValid p s → is_of_meets e ≡ true → refusal p s e ≡ None
    → LeadsBack p (edited s e) (back_of s e)
back_leads p s e v o h =
    let w = edit_works p s e v o h in
    record {
      edit = e;
      ours = o;
      accepted = subst (λ x. refusal p x e ≡ None) (sym w.back) h;
      valid = subst (AreValid p) (sym w.back) v;
      record_ = λ i. back_of (sym w.back i) e;
      slots = λ i. edited (sym w.back i) e;
    }

pub back_slots : (p : Parts) (s : List Slot) (e : Edit) → AreValid p s → is_of_meets e ≡ true → refusal p s e ≡ None
    → undone (edited s e) (back_of s e) ≡ s
back_slots p s e v o h = (edit_works p s e v o h).back

pub back_list : (p : Parts) (s : List Slot) (e : Edit) → AreValid p s → is_of_meets e ≡ true → refusal p s e ≡ None
    → undone_changes (edited s e) (back_of s e) ≡ changes s e
back_list p s e v o h = (edit_works p s e v o h).list

-- the room that a solution keeps is room for the changes of its edits, and what they cut is in range
pub edit_room : (p : Parts) (s : List Slot) (c : ℕ) → AreValid p s → AreWellMade p → HasRoom p c → AreRoomy s c
edit_room p s c v w r = room_for p s c v.told w r

starts_within : (o : Option Span) (cut n : ℕ) → IfSome o (λ y. IfSome y.start (λ t. t.0 + y.duration ≤ n))
    → cut ≤ option_map_or (λ (y : Span). y.duration) o 0 → n < 2 ^ 32
    → IfSome (option_and_then (λ (y : Span). y.start) o) (λ t. t.0 + cut < 2 ^ 32)
starts_within None cut n i l k = tt
starts_within (Some y) cut n i l k = at_start y.start i
  where
    at_start : (u : Option TimeId) → IfSome u (λ t. t.0 + y.duration ≤ n) → IfSome u (λ t. t.0 + cut < 2 ^ 32)
    at_start None h = tt
    at_start (Some t) h = omega (arith, h, l, k)

pub edit_cuts : (p : Parts) (s : List Slot) (e : Edit) → AreValid p s → AreWellMade p → refusal p s e ≡ None
    → CutsWithin s e
unfolding refusal
edit_cuts p s (Split m cut) v w h =
    let x = slot_at s m.0 in
    let c = may_cut p s m cut h in
    let i = All-get_or (IsSlot p) s m.0 no_slot (live_there s m.0 c.live) v.told.slots in
    let t = w.limits.times in
    let a = c.some in
    let b = c.less in
    let l : cut ≤ length_of x = omega (arith, b) in
    let d : 2 ≤ length_of x = omega (arith, a, b) in
    let n : length p.times < 2 ^ 32 = omega (arith, t) in
    (d, starts_within x.span cut (length p.times) i.ends l n)
edit_cuts p s (Assign m t) v w h = tt
edit_cuts p s (Unassign m) v w h = tt
edit_cuts p s (MoveTo m t) v w h = tt
edit_cuts p s (Merge a b) v w h = tt
edit_cuts p s (SwapMeets a b) v w h = tt
edit_cuts p s (Give t r) v w h = tt
edit_cuts p s (Take t) v w h = tt
edit_cuts p s (Regive t r) v w h = tt
edit_cuts p s (SwapTasks a b) v w h = tt
edit_cuts p s (Attach m) v w h = tt
edit_cuts p s (Detach m) v w h = tt
edit_cuts p s MakeGroup v w h = tt
edit_cuts p s (DropGroup g) v w h = tt
edit_cuts p s (AddChild g m) v w h = tt
edit_cuts p s (RemoveChild g m) v w h = tt

cut_within : (p : Parts) (s : List Slot) (a : MeetId) (cut : ℕ) (b : MeetId) → AreWellMade p
    → AreValid p (cut_at s a.0 cut b.0) → StartsLater s a cut
cut_within p s a cut b w v = elim (cases_lt a.0 (length s)) [
  | inl l ↦
      let x = slot_at s a.0 in
      let y = with_meet (slot_at s b.0) (length_of x - cut) (later cut (start_of x)) x.given in
      let s1 = set s b.0 y in
      let u = with_meet x cut (start_of x) x.given in
      let n = length-set s b.0 y in
      let m = length-set s1 a.0 u in
      let l1 : a.0 < length s1 = omega (arith, n, l) in
      let l2 : a.0 < length (set s1 a.0 u) = omega (arith, n, m, l) in
      let there : slot_at (set s1 a.0 u) a.0 ≡ u = get_or-set_same s1 a.0 u no_slot l1 in
      let i : IsSlot p u = subst (IsSlot p) there (All-get_or (IsSlot p) (set s1 a.0 u) a.0 no_slot l2 v.told.slots) in
      let t = w.limits.times in
      starts_within u.span cut (length p.times) i.ends (omega arith) (omega (arith, t))
  | inr g ↦ subst (λ x. IfSome (start_of x) (λ t. t.0 + cut < 2 ^ 32)) (sym (get_or_past s a.0 no_slot g)) tt
]

pub undo_cuts : (p : Parts) (s : List Slot) (b : Back) → AreWellMade p → LeadsBack p s b → RecutsWithin s b
unfolding undone
undo_cuts p s (Cut a cut b) w l = cut_within p s a cut b w l.valid
undo_cuts p s (By e) w l = tt
undo_cuts p s (Make g) w l = tt
undo_cuts p s (Insert g m k) w l = tt
