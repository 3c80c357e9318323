-- The edits of resources: Give, Take, Regive and SwapTasks.
use Rattle.std.proofs.Common.{◌≡◌, ◌<◌, true, Option, Some, None, List, ◌++◌, length, refl, sym, ap, ◌∙◌}
use Rattle.std.specs.Prelude.{◌&&◌}
use Rattle.std.specs.Option.{option_map_or}
use Rattle.std.proofs.lemmas.Bool.{eq-eqb}
use Rattle.khe_base.specs.declared.numbers.ResourceId.{ResourceId}
use Rattle.khe_base.specs.declared.numbers.TaskId.{TaskId}
use Rattle.khe_instance.specs.declared.parts.Parts.{Parts}
use Rattle.khe_told.specs.Slots.{slot_at}
use Rattle.khe_told.specs.declared.slots.Slot.{Slot}
use Rattle.khe_told.specs.declared.edits.Edit.TheVariants.{Give, Take, Regive, SwapTasks}
use Rattle.khe_told.specs.declared.edits.Back.TheVariants.{By}
use Rattle.khe_solution.specs.Reading.{has_place, resource_at, may_have, has_type}
use Rattle.khe_solution.specs.Refusing.{first_refusal, give_row, take_row, regive_row, swap_tasks_row}
use Rattle.khe_solution.specs.Editing.{edited, staffed}
use Rattle.khe_solution.specs.Changing.{changes, takes, gives}
use Rattle.khe_solution.specs.Backs.{back_of, undone, undone_changes}
use Rattle.khe_told.specs.Valid.{AreValid}
use Rattle.khe_solution.proofs.Basics.{true-false, not-false, not_none, no_value, passed}
use Rattle.khe_solution.proofs.EditingLaws.{AreApart, staffed_twice, staffed_back, staffed_comm, staffed_given}
use Rattle.khe_solution.proofs.EditingLaws.{staffed_other}
use Rattle.khe_solution.proofs.Stages.{Goes, MayTurn, goes_both, goes_to, take_goes, give_goes, turns_still, turn_there}
use Rattle.khe_solution.proofs.Stages.{task_place, place_still}
use Rattle.khe_solution.proofs.Works.{Works}

pub give_works : (p : Parts) (s : List Slot) (t : TaskId) (r : ResourceId) → AreValid p s
    → first_refusal (give_row p s t r) ≡ None → Works p s (Give t r)
unfolding changes edited back_of undone undone_changes
give_works p s t r v h =
    let x = slot_at s t.meet.0 in
    let a = passed (give_row p s t r) h in
    let may : MayTurn p s t = record { place = not-false (has_place x t.place) a.0; free = a.1.1.0 } in
    let none : resource_at s t ≡ None = no_value (resource_at s t) a.1.1.1.0 in
    let w = turn_there p s t may in
    record {
      goes = give_goes p s t (Some r) v may none (not-false (has_type p r.0 (task_place p s t)) a.1.1.1.1.0);
      back = staffed_back s t (Some r) None w.0 none;
      list = ap (gives t) (staffed_given s t (Some r) w.0 w.1);
    }

pub take_works : (p : Parts) (s : List Slot) (t : TaskId) → AreValid p s → first_refusal (take_row p s t) ≡ None
    → Works p s (Take t)
unfolding changes edited back_of undone undone_changes
take_works p s t v h =
    let x = slot_at s t.meet.0 in
    let a = passed (take_row p s t) h in
    let may : MayTurn p s t = record { place = not-false (has_place x t.place) a.0; free = a.1.0 } in
    let q = not_none (resource_at s t) a.1.1.0 in
    let w = turn_there p s t may in
    let known : back_of s (Take t) ≡ By (Give t q.0) =
    ap (λ o. option_map_or (λ (r : ResourceId). By (Give t r)) o (By (Take t))) q.1 in
    record {
      goes = take_goes p s t (resource_at s t) v may refl;
      back = ap (undone (staffed s t None)) known ∙ staffed_back s t None (Some q.0) w.0 q.1;
      list = ap (undone_changes (staffed s t None)) known ∙ ap (takes t) (sym q.1);
    }

pub regive_works : (p : Parts) (s : List Slot) (t : TaskId) (r : ResourceId) → AreValid p s
    → first_refusal (regive_row p s t r) ≡ None → Works p s (Regive t r)
unfolding changes edited back_of undone undone_changes
regive_works p s t r v h =
    let x = slot_at s t.meet.0 in
    let a = passed (regive_row p s t r) h in
    let may : MayTurn p s t = record { place = not-false (has_place x t.place) a.0; free = a.1.1.0 } in
    let q = not_none (resource_at s t) a.1.1.1.0 in
    let w = turn_there p s t may in
    let known : back_of s (Regive t r) ≡ By (Regive t q.0) =
    ap (λ o. option_map_or (λ (z : ResourceId). By (Regive t z)) o (By (Regive t r))) q.1 in
    let s1 = staffed s t None in
    let g1 = take_goes p s t (resource_at s t) v may refl in
    let has : may_have p (Some r) (task_place p s1 t) ≡ true =
    ap (may_have p (Some r)) (place_still p s t t None w.0)
    ∙ not-false (has_type p r.0 (task_place p s t)) a.1.1.1.1.1.0 in
    let g2 = give_goes p s1 t (Some r) g1.valid (turns_still p s t t None w.0 may) (staffed_given s t None w.0 w.1)
    has in
    record {
      goes = goes_to p s (staffed s1 t (Some r)) (staffed s t (Some r)) (takes t (resource_at s t) ++ gives t (Some r))
          (goes_both p s s1 (staffed s1 t (Some r)) (takes t (resource_at s t)) (gives t (Some r)) g1 g2)
          (staffed_twice s t None (Some r) w.0);
      back = ap (undone (staffed s t (Some r))) known ∙ staffed_back s t (Some r) (Some q.0) w.0 q.1;
      list = ap (undone_changes (staffed s t (Some r))) known
          ∙ (λ i. takes t (sym q.1 i) ++ gives t (staffed_given s t (Some r) w.0 w.1 i));
    }

-- two tasks that exchange their resources
pub traded : (s : List Slot) (a b : TaskId) (q r : Option ResourceId) → AreApart a b → a.meet.0 < length s
    → b.meet.0 < length (staffed s a None) → b.meet.0 < length (staffed s a r)
    → staffed (staffed (staffed (staffed s a None) b None) a r) b q ≡ staffed (staffed s a r) b q
traded s a b q r d la lb1 lb =
    let s1 = staffed s a None in
    let e1 : staffed (staffed s1 b None) a r ≡ staffed (staffed s a r) b None =
    staffed_comm s1 b a None r (λ e f. d (sym e) (sym f)) lb1
    ∙ ap (λ z. staffed z b None) (staffed_twice s a None r la) in
    ap (λ z. staffed z b q) e1 ∙ staffed_twice (staffed s a r) b None q lb

trade_goes : (p : Parts) (s : List Slot) (a b : TaskId) → AreValid p s → MayTurn p s a → MayTurn p s b → AreApart a b
    → may_have p (resource_at s b) (task_place p s a) ≡ true → may_have p (resource_at s a) (task_place p s b) ≡ true
    → Goes p s (takes a (resource_at s a) ++ (takes b (resource_at s b)
    ++ (gives a (resource_at s b) ++ gives b (resource_at s a))))
    (staffed (staffed s a (resource_at s b)) b (resource_at s a))
trade_goes p s a b v ta tb d oa ob =
    let c : AreApart b a = λ e f. d (sym e) (sym f) in
    let q = resource_at s a in
    let r = resource_at s b in
    let s1 = staffed s a None in
    let s2 = staffed s1 b None in
    let s3 = staffed s2 a r in
    let s4 = staffed s3 b q in
    let wa = turn_there p s a ta in
    let g1 = take_goes p s a q v ta refl in
    let tb1 = turns_still p s a b None wa.0 tb in
    let wb1 = turn_there p s1 b tb1 in
    let g2 = take_goes p s1 b r g1.valid tb1 (staffed_other s a b None d wa.0) in
    let ta2 = turns_still p s1 b a None wb1.0 (turns_still p s a a None wa.0 ta) in
    let wa2 = turn_there p s2 a ta2 in
    let none3 : resource_at s2 a ≡ None = staffed_other s1 b a None c wb1.0 ∙ staffed_given s a None wa.0 wa.1 in
    let has3 : may_have p r (task_place p s2 a) ≡ true =
    ap (may_have p r) (place_still p s1 b a None wb1.0 ∙ place_still p s a a None wa.0) ∙ oa in
    let g3 = give_goes p s2 a r g2.valid ta2 none3 has3 in
    let tb3 = turns_still p s2 a b r wa2.0 (turns_still p s1 b b None wb1.0 tb1) in
    let none4 : resource_at s3 b ≡ None = staffed_other s2 a b r d wa2.0 ∙ staffed_given s1 b None wb1.0 wb1.1 in
    let has4 : may_have p q (task_place p s3 b) ≡ true =
    ap (may_have p q) (place_still p s2 a b r wa2.0 ∙ place_still p s1 b b None wb1.0 ∙ place_still p s a b None wa.0)
    ∙ ob in
    let g4 = give_goes p s3 b q g3.valid tb3 none4 has4 in
    let lb = (turn_there p (staffed s a r) b (turns_still p s a b r wa.0 tb)).0 in
    let c3 = goes_both p s2 s3 s4 (gives a r) (gives b q) g3 g4 in
    let c2 = goes_both p s1 s2 s4 (takes b r) (gives a r ++ gives b q) g2 c3 in
    let c1 = goes_both p s s1 s4 (takes a q) (takes b r ++ (gives a r ++ gives b q)) g1 c2 in
    goes_to p s s4 (staffed (staffed s a r) b q) (takes a q ++ (takes b r ++ (gives a r ++ gives b q))) c1
    (traded s a b q r d wa.0 wb1.0 lb)

pub swap_tasks_works : (p : Parts) (s : List Slot) (a b : TaskId) → AreValid p s
    → first_refusal (swap_tasks_row p s a b) ≡ None → Works p s (SwapTasks a b)
unfolding changes edited back_of undone undone_changes
swap_tasks_works p s a b v h =
    let x = slot_at s a.meet.0 in
    let y = slot_at s b.meet.0 in
    let q = resource_at s a in
    let r = resource_at s b in
    let k = passed (swap_tasks_row p s a b) h in
    let ta : MayTurn p s a = record { place = not-false (has_place x a.place) k.0; free = k.1.1.0 } in
    let tb : MayTurn p s b = record { place = not-false (has_place y b.place) k.1.0; free = k.1.1.1.0 } in
    let d : AreApart a b = λ e f. true-false (sym
    (λ i. eq-eqb a.meet.0 b.meet.0 (sym e) i && eq-eqb a.place b.place (sym f) i) ∙ k.1.1.1.1.1.1.0) in
    let c : AreApart b a = λ e f. d (sym e) (sym f) in
    let wa = turn_there p s a ta in
    let wb = turn_there p s b tb in
    let sa = staffed s a r in
    let s2 = staffed sa b q in
    let tb2 = turns_still p s a b r wa.0 tb in
    let wb2 = turn_there p sa b tb2 in
    let ey : resource_at s2 b ≡ q = staffed_given sa b q wb2.0 wb2.1 in
    let ex : resource_at s2 a ≡ r = staffed_other sa b a q c wb2.0 ∙ staffed_given s a r wa.0 wa.1 in
    record {
      goes = trade_goes p s a b v ta tb d (not-false _ k.1.1.1.1.1.1.1.1.0) (not-false _ k.1.1.1.1.1.1.1.1.1.0);
      back = (λ i. staffed (staffed s2 a (ey i)) b (ex i))
          ∙ ap (λ z. staffed z b r) (staffed_comm sa b a q q c wb2.0
          ∙ ap (λ z. staffed z b q) (staffed_back s a r q wa.0 refl))
          ∙ staffed_back s b q r wb.0 refl;
      list = λ i. takes a (ey i) ++ (takes b (ex i) ++ (gives a (ex i) ++ gives b (ey i)));
    }
