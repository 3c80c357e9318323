-- What an edit would make of slots leads to the slots after it.
use Rattle.std.proofs.Common.{ℕ, ◌≡◌, ◌<◌, ◌∙◌, true, Option, Some, None, List, [], ◌∷◌, length, set, refl, sym, ap, subst}
use Rattle.std.proofs.Common.{get_or-set_other}
use Rattle.std.proofs.lemmas.Bool.{eq-eqb}
use Rattle.std.proofs.lemmas.List.{length-set}
use Rattle.std.specs.Prelude.{replicate}
use Rattle.khe_base.specs.declared.numbers.MeetId.{MeetId}
use Rattle.khe_base.specs.declared.numbers.ResourceId.{ResourceId}
use Rattle.khe_base.specs.declared.numbers.TaskId.{TaskId}
use Rattle.khe_base.specs.declared.numbers.TimeId.{TimeId}
use Rattle.khe_instance.specs.declared.parts.Parts.{Parts}
use Rattle.khe_told.specs.Fits.{AreTold}
use Rattle.khe_told.specs.Slots.{emptied, is_live, no_slot, slot_at, start_of}
use Rattle.khe_told.specs.Turns.{IsTurn, SlotTurn}
use Rattle.khe_told.specs.Valid.{AreValid}
use Rattle.khe_told.specs.declared.slots.Slot.{Slot}
use Rattle.khe_told.specs.declared.edits.Edit.{Edit}
use Rattle.khe_told.specs.declared.edits.Edit.TheVariants.{Assign, Unassign, MoveTo, SwapMeets, Give, Take, Regive}
use Rattle.khe_told.specs.declared.edits.Edit.TheVariants.{SwapTasks}
use Rattle.khe_solution.specs.Editing.{edited, staffed, timed, with_resource, with_start}
use Rattle.khe_solution.specs.Effects.{LeadTo, restaffing, retiming}
use Rattle.khe_solution.specs.Reading.{has_place, resource_at}
use Rattle.khe_solution.specs.Refusing.{is_of_meets, refusal, assign_row, unassign_row, move_row, swap_meets_row, give_row}
use Rattle.khe_solution.specs.Refusing.{take_row, regive_row, swap_tasks_row}
use Rattle.khe_solution.proofs.Basics.{live_there, not-false, passed, true-false}
use Rattle.khe_solution.proofs.EditLaws.{edit_slots, edit_valid}
use Rattle.khe_solution.proofs.EditingLaws.{staffed_away, timed_other}
use Rattle.khe_solution.proofs.Stages.{MayMove, MayTurn, turn_there, valid_staffed, valid_timed}

-- one slot of a told state becomes another
is_turn : (p : Parts) (s : List Slot) (k : ℕ) (y : Slot) → AreTold p s → k < length s → (slot_at s k).meet.0 ≡ k
    → emptied y ≡ emptied (slot_at s k) → AreTold p (set s k y)
    → IsTurn p s (record { before = slot_at s k; after = y })
is_turn p s k y told l e same later = record {
  there = subst (λ (n : ℕ). n < length s) (sym e) l;
  slot = ap (slot_at s) e;
  same = same;
  told = told;
  later = subst (λ (n : ℕ). AreTold p (set s n y)) (sym e) later;
}

lead_one : (p : Parts) (s : List Slot) (k : ℕ) (y : Slot) → AreTold p s → k < length s → (slot_at s k).meet.0 ≡ k
    → emptied y ≡ emptied (slot_at s k) → AreTold p (set s k y)
    → LeadTo p s (record { before = slot_at s k; after = y } ∷ []) (set s k y)
lead_one p s k y told l e same later =
    let at : set s k y ≡ set s (slot_at s k).meet.0 y = ap (λ (n : ℕ). set s n y) (sym e) in
    record { turns = (is_turn p s k y told l e same later, subst (AreTold p) at later); leads = sym at }

-- two slots, one after the other
pub lead_two : (p : Parts) (s : List Slot) (j k : ℕ) (x y : Slot) → AreTold p s → j < length s → k < length s
    → (k ≡ j → ⊥) → (slot_at s j).meet.0 ≡ j → (slot_at s k).meet.0 ≡ k → emptied x ≡ emptied (slot_at s j)
    → emptied y ≡ emptied (slot_at s k) → AreTold p (set s j x) → AreTold p (set (set s j x) k y)
    → LeadTo p s (record { before = slot_at s j; after = x } ∷ record { before = slot_at s k; after = y } ∷ [])
    (set (set s j x) k y)
lead_two p s j k x y told lj lk apart ej ek samej samek mid later =
    let s1 = set s j x in
    let at : s1 ≡ set s (slot_at s j).meet.0 x = ap (λ (n : ℕ). set s n x) (sym ej) in
    let other : slot_at s1 k ≡ slot_at s k = get_or-set_other s j k x no_slot apart in
    let two = lead_one p s1 k y mid (subst (λ (n : ℕ). k < n) (sym (length-set s j x)) lk)
    (ap (λ (z : Slot). z.meet.0) other ∙ ek) (samek ∙ sym (ap emptied other)) later in
    let second : LeadTo p s1 (record { before = slot_at s k; after = y } ∷ []) (set s1 k y) =
    subst (λ (z : Slot). LeadTo p s1 (record { before = z; after = y } ∷ []) (set s1 k y)) other two in
    let moved = subst (λ (q : List Slot). LeadTo p q (record { before = slot_at s k; after = y } ∷ []) (set s1 k y))
    at second in
    record { turns = (is_turn p s j x told lj ej samej mid, moved.turns); leads = moved.leads }

same_places : (x : Slot) (k : ℕ) (r : Option ResourceId) → emptied (with_resource x k r) ≡ emptied x
same_places x k r = λ i. record x { span = None; given = replicate (length-set x.given k r i) None }

-- a meet gets another start, and a task another resource
pub retimes : (p : Parts) (s : List Slot) (m : MeetId) (t : Option TimeId) → AreTold p s → m.0 < length s
    → (slot_at s m.0).meet ≡ m → AreTold p (timed s m t) → LeadTo p s (retiming s m t ∷ []) (timed s m t)
retimes p s m t told l e later = lead_one p s m.0 (with_start (slot_at s m.0) t) told l
    (ap (λ (n : MeetId). n.0) e) refl later

pub restaffs : (p : Parts) (s : List Slot) (t : TaskId) (r : Option ResourceId) → AreTold p s → t.meet.0 < length s
    → (slot_at s t.meet.0).meet ≡ t.meet → AreTold p (staffed s t r)
    → LeadTo p s (restaffing s t r ∷ []) (staffed s t r)
restaffs p s t r told l e later = lead_one p s t.meet.0 (with_resource (slot_at s t.meet.0) t.place r) told l
    (ap (λ (n : MeetId). n.0) e) (same_places (slot_at s t.meet.0) t.place r) later

retimes_two : (p : Parts) (s : List Slot) (a b : MeetId) (t u : Option TimeId) → AreTold p s → a.0 < length s
    → b.0 < length s → (b.0 ≡ a.0 → ⊥) → (slot_at s a.0).meet ≡ a → (slot_at s b.0).meet ≡ b
    → AreTold p (timed s a t) → AreTold p (timed (timed s a t) b u)
    → LeadTo p s (retiming s a t ∷ retiming s b u ∷ []) (timed (timed s a t) b u)
retimes_two p s a b t u told la lb apart ea eb mid later =
    let at : set (timed s a t) b.0 (with_start (slot_at s b.0) u) ≡ timed (timed s a t) b u =
    ap (λ (z : Slot). set (timed s a t) b.0 (with_start z u)) (sym (timed_other s a t b.0 apart)) in
    subst (LeadTo p s (retiming s a t ∷ retiming s b u ∷ [])) at
    (lead_two p s a.0 b.0 (with_start (slot_at s a.0) t) (with_start (slot_at s b.0) u) told la lb apart
    (ap (λ (n : MeetId). n.0) ea) (ap (λ (n : MeetId). n.0) eb) refl refl mid (subst (AreTold p) (sym at) later))

restaffs_two : (p : Parts) (s : List Slot) (a b : TaskId) (q r : Option ResourceId) → AreTold p s
    → a.meet.0 < length s → b.meet.0 < length s → (b.meet.0 ≡ a.meet.0 → ⊥) → (slot_at s a.meet.0).meet ≡ a.meet
    → (slot_at s b.meet.0).meet ≡ b.meet → AreTold p (staffed s a q) → AreTold p (staffed (staffed s a q) b r)
    → LeadTo p s (restaffing s a q ∷ restaffing s b r ∷ []) (staffed (staffed s a q) b r)
restaffs_two p s a b q r told la lb apart ea eb mid later =
    let at : set (staffed s a q) b.meet.0 (with_resource (slot_at s b.meet.0) b.place r)
    ≡ staffed (staffed s a q) b r =
    ap (λ (z : Slot). set (staffed s a q) b.meet.0 (with_resource z b.place r))
    (sym (staffed_away s a q b.meet.0 apart)) in
    subst (LeadTo p s (restaffing s a q ∷ restaffing s b r ∷ [])) at
    (lead_two p s a.meet.0 b.meet.0 (with_resource (slot_at s a.meet.0) a.place q)
    (with_resource (slot_at s b.meet.0) b.place r) told la lb apart (ap (λ (n : MeetId). n.0) ea)
    (ap (λ (n : MeetId). n.0) eb) (same_places (slot_at s a.meet.0) a.place q)
    (same_places (slot_at s b.meet.0) b.place r) mid (subst (AreTold p) (sym at) later))

-- where the meets and the tasks of an accepted edit are
pub assign_there : (p : Parts) (s : List Slot) (m : MeetId) (t : TimeId) → refusal p s (Assign m t) ≡ None
    → m.0 < length s
unfolding refusal
assign_there p s m t h = live_there s m.0 (not-false (is_live (slot_at s m.0)) (passed (assign_row p s m t) h).0)

pub unassign_there : (p : Parts) (s : List Slot) (m : MeetId) → refusal p s (Unassign m) ≡ None → m.0 < length s
unfolding refusal
unassign_there p s m h = live_there s m.0 (not-false (is_live (slot_at s m.0)) (passed (unassign_row p s m) h).0)

pub move_there : (p : Parts) (s : List Slot) (m : MeetId) (t : TimeId) → refusal p s (MoveTo m t) ≡ None
    → m.0 < length s
unfolding refusal
move_there p s m t h = live_there s m.0 (not-false (is_live (slot_at s m.0)) (passed (move_row p s m t) h).0)

pub swap_there : (p : Parts) (s : List Slot) (a b : MeetId) → refusal p s (SwapMeets a b) ≡ None
    → (a.0 < length s) × (b.0 < length s)
unfolding refusal
swap_there p s a b h =
    let k = passed (swap_meets_row p s a b) h in (
      live_there s a.0 (not-false (is_live (slot_at s a.0)) k.0),
      live_there s b.0 (not-false (is_live (slot_at s b.0)) k.1.0),
    )

pub give_may : (p : Parts) (s : List Slot) (t : TaskId) (r : ResourceId) → refusal p s (Give t r) ≡ None → MayTurn p s t
unfolding refusal
give_may p s t r h = let k = passed (give_row p s t r) h in
    record { place = not-false (has_place (slot_at s t.meet.0) t.place) k.0; free = k.1.1.0 }

pub take_may : (p : Parts) (s : List Slot) (t : TaskId) → refusal p s (Take t) ≡ None → MayTurn p s t
unfolding refusal
take_may p s t h = let k = passed (take_row p s t) h in
    record { place = not-false (has_place (slot_at s t.meet.0) t.place) k.0; free = k.1.0 }

pub regive_may : (p : Parts) (s : List Slot) (t : TaskId) (r : ResourceId) → refusal p s (Regive t r) ≡ None
    → MayTurn p s t
unfolding refusal
regive_may p s t r h = let k = passed (regive_row p s t r) h in
    record { place = not-false (has_place (slot_at s t.meet.0) t.place) k.0; free = k.1.1.0 }

pub trade_there : (p : Parts) (s : List Slot) (a b : TaskId) → refusal p s (SwapTasks a b) ≡ None
    → (a.meet.0 < length s) × (b.meet.0 < length s)
unfolding refusal
trade_there p s a b h =
    let k = passed (swap_tasks_row p s a b) h in (
      (turn_there p s a (record { place = not-false (has_place (slot_at s a.meet.0) a.place) k.0; free = k.1.1.0 })).0,
      (turn_there p s b (record { place = not-false (has_place (slot_at s b.meet.0) b.place) k.1.0; free = k.1.1.1.0 })).0,
    )

-- the slots after an accepted edit are told
pub edited_told : (p : Parts) (s : List Slot) (e : Edit) → AreValid p s → is_of_meets e ≡ true → refusal p s e ≡ None
    → AreTold p (edited s e)
edited_told p s e v o h = subst (AreTold p) (edit_slots p s e v o h) (edit_valid p s e v o h).told

-- each sort of edits
pub assign_leads : (p : Parts) (s : List Slot) (m : MeetId) (t : TimeId) → AreValid p s
    → refusal p s (Assign m t) ≡ None → (slot_at s m.0).meet ≡ m
    → LeadTo p s (retiming s m (Some t) ∷ []) (edited s (Assign m t))
unfolding edited
assign_leads p s m t v h e = retimes p s m (Some t) v.told (assign_there p s m t h) e
    (edited_told p s (Assign m t) v refl h)

pub unassign_leads : (p : Parts) (s : List Slot) (m : MeetId) → AreValid p s → refusal p s (Unassign m) ≡ None
    → (slot_at s m.0).meet ≡ m → LeadTo p s (retiming s m None ∷ []) (edited s (Unassign m))
unfolding edited
unassign_leads p s m v h e = retimes p s m None v.told (unassign_there p s m h) e
    (edited_told p s (Unassign m) v refl h)

pub move_leads : (p : Parts) (s : List Slot) (m : MeetId) (t : TimeId) → AreValid p s
    → refusal p s (MoveTo m t) ≡ None → (slot_at s m.0).meet ≡ m
    → LeadTo p s (retiming s m (Some t) ∷ []) (edited s (MoveTo m t))
unfolding edited
move_leads p s m t v h e = retimes p s m (Some t) v.told (move_there p s m t h) e
    (edited_told p s (MoveTo m t) v refl h)

pub give_leads : (p : Parts) (s : List Slot) (t : TaskId) (r : ResourceId) → AreValid p s
    → refusal p s (Give t r) ≡ None → (slot_at s t.meet.0).meet ≡ t.meet
    → LeadTo p s (restaffing s t (Some r) ∷ []) (edited s (Give t r))
unfolding edited
give_leads p s t r v h e = restaffs p s t (Some r) v.told (turn_there p s t (give_may p s t r h)).0 e
    (edited_told p s (Give t r) v refl h)

pub take_leads : (p : Parts) (s : List Slot) (t : TaskId) → AreValid p s → refusal p s (Take t) ≡ None
    → (slot_at s t.meet.0).meet ≡ t.meet → LeadTo p s (restaffing s t None ∷ []) (edited s (Take t))
unfolding edited
take_leads p s t v h e = restaffs p s t None v.told (turn_there p s t (take_may p s t h)).0 e
    (edited_told p s (Take t) v refl h)

pub regive_leads : (p : Parts) (s : List Slot) (t : TaskId) (r : ResourceId) → AreValid p s
    → refusal p s (Regive t r) ≡ None → (slot_at s t.meet.0).meet ≡ t.meet
    → LeadTo p s (restaffing s t (Some r) ∷ []) (edited s (Regive t r))
unfolding edited
regive_leads p s t r v h e = restaffs p s t (Some r) v.told (turn_there p s t (regive_may p s t r h)).0 e
    (edited_told p s (Regive t r) v refl h)

pub swap_leads : (p : Parts) (s : List Slot) (a b : MeetId) → AreValid p s → refusal p s (SwapMeets a b) ≡ None
    → (slot_at s a.0).meet ≡ a → (slot_at s b.0).meet ≡ b
    → LeadTo p s (retiming s a (start_of (slot_at s b.0)) ∷ retiming s b (start_of (slot_at s a.0)) ∷ [])
    (edited s (SwapMeets a b))
unfolding edited refusal
swap_leads p s a b v h ea eb =
    let k = passed (swap_meets_row p s a b) h in
    let t = start_of (slot_at s a.0) in
    let u = start_of (slot_at s b.0) in
    let ma : MayMove p s a = record { live = not-false (is_live (slot_at s a.0)) k.0; free = k.1.1.0 } in
    let apart : b.0 ≡ a.0 → ⊥ = λ e. true-false (sym (eq-eqb a.0 b.0 (sym e)) ∙ k.1.1.1.1.1.1.0) in
    let l = swap_there p s a b h in
    retimes_two p s a b u t v.told l.0 l.1 apart ea eb
    (valid_timed p s a u v ma k.1.1.1.1.1.1.1.1.0).told (edited_told p s (SwapMeets a b) v refl h)

pub trade_leads : (p : Parts) (s : List Slot) (a b : TaskId) → AreValid p s → refusal p s (SwapTasks a b) ≡ None
    → (b.meet.0 ≡ a.meet.0 → ⊥) → (slot_at s a.meet.0).meet ≡ a.meet → (slot_at s b.meet.0).meet ≡ b.meet
    → LeadTo p s (restaffing s a (resource_at s b) ∷ restaffing s b (resource_at s a) ∷ [])
    (edited s (SwapTasks a b))
unfolding edited refusal
trade_leads p s a b v h apart ea eb =
    let k = passed (swap_tasks_row p s a b) h in
    let ta : MayTurn p s a =
    record { place = not-false (has_place (slot_at s a.meet.0) a.place) k.0; free = k.1.1.0 } in
    let l = trade_there p s a b h in
    restaffs_two p s a b (resource_at s b) (resource_at s a) v.told l.0 l.1 apart ea eb
    (valid_staffed p s a (resource_at s b) v ta (not-false _ k.1.1.1.1.1.1.1.1.0)).told
    (edited_told p s (SwapTasks a b) v refl h)

-- what is said of an edit leads where the edit does
pub leads_along : (p : Parts) (s : List Slot) (e e2 : Edit) (x x2 : SlotTurn) (ts : List SlotTurn) → e ≡ e2 → x ≡ x2
    → ts ≡ x ∷ [] → LeadTo p s (x2 ∷ []) (edited s e2) → LeadTo p s ts (edited s e)
leads_along p s e e2 x x2 ts is at all l =
    subst (λ (q : List SlotTurn). LeadTo p s q (edited s e)) (sym (all ∙ ap (λ (y : SlotTurn). y ∷ []) at))
    (subst (λ (f : Edit). LeadTo p s (x2 ∷ []) (edited s f)) (sym is) l)

pub leads_along_two : (p : Parts) (s : List Slot) (e e2 : Edit) (x x2 y y2 : SlotTurn) (ts : List SlotTurn) → e ≡ e2
    → x ≡ x2 → y ≡ y2 → ts ≡ x ∷ y ∷ [] → LeadTo p s (x2 ∷ y2 ∷ []) (edited s e2) → LeadTo p s ts (edited s e)
leads_along_two p s e e2 x x2 y y2 ts is at then all l =
    subst (λ (q : List SlotTurn). LeadTo p s q (edited s e)) (sym (all ∙ (λ i. at i ∷ then i ∷ [])))
    (subst (λ (f : Edit). LeadTo p s (x2 ∷ y2 ∷ []) (edited s f)) (sym is) l)
