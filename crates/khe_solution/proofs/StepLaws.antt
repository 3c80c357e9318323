-- Edits that come to the same as several smaller ones.
use Rattle.std.proofs.Common.{ℕ, ◌≡◌, ◌+◌, ◌<◌, ◌≤◌, Bool, true, false, cond, Option, Some, None, List, [], ◌∷◌, length}
use Rattle.std.proofs.Common.{slice_get, refl, sym, ap, subst, ◌∙◌, arith}
use Rattle.std.specs.Prelude.{not, ◌&&◌, ◌==◌, is_some, is_none, nat_le, IfSome}
use Rattle.std.specs.Option.{option_map_or}
use Rattle.std.proofs.lemmas.Bool.{eq-eqb, lt-leb}
use Rattle.std.proofs.lemmas.List.Elements.{All-get_or}
use Rattle.std.proofs.lemmas.Option.{slice_get_within}
use Rattle.khe_base.specs.declared.numbers.MeetId.{MeetId}
use Rattle.khe_base.specs.declared.numbers.ResourceId.{ResourceId}
use Rattle.khe_base.specs.declared.numbers.TaskId.{TaskId}
use Rattle.khe_base.specs.declared.numbers.TimeId.{TimeId}
use Rattle.khe_instance.specs.declared.parts.Parts.{Parts}
use Rattle.khe_instance.specs.declared.parts.Place.{Place}
use Rattle.khe_instance.specs.declared.parts.ResourceInfo.{ResourceInfo}
use Rattle.khe_told.specs.Fits.{IsSlot}
use Rattle.khe_told.specs.Slots.{no_slot, slot_at, length_of, is_live, start_of}
use Rattle.khe_told.specs.Valid.{AreValid}
use Rattle.khe_told.specs.declared.slots.Slot.{Slot}
use Rattle.khe_told.specs.declared.slots.Span.{Span}
use Rattle.khe_told.specs.declared.edits.Edit.TheVariants.{Assign, Unassign, MoveTo, SwapMeets, Give, Take, Regive}
use Rattle.khe_told.specs.declared.edits.Edit.TheVariants.{SwapTasks}
use Rattle.khe_told.specs.declared.refusals.Refusal.{Refusal}
use Rattle.khe_solution.specs.Reading.{has_place, resource_at, has_type, may_have, runs_over, would_run_over, is_time}
use Rattle.khe_solution.specs.Reading.{is_resource}
use Rattle.khe_solution.specs.Refusing.{first_refusal, refusal, assign_row, unassign_row, move_row, swap_meets_row}
use Rattle.khe_solution.specs.Refusing.{give_row, take_row, regive_row, swap_tasks_row}
use Rattle.khe_solution.specs.Editing.{edited, timed, staffed}
use Rattle.khe_solution.specs.Steps.{IsDone}
use Rattle.khe_solution.proofs.Basics.{true-false, not-false, some_value, not_none, AllPass, passed, live_there}
use Rattle.khe_solution.proofs.EditingLaws.{AreApart, span_of, timed_other, timed_twice, timed_reads, staffed_twice}
use Rattle.khe_solution.proofs.EditingLaws.{staffed_given, staffed_other}
use Rattle.khe_solution.proofs.Stages.{MayMove, moves_still, MayTurn, turns_still, turn_there, task_place, place_still}
use Rattle.khe_solution.proofs.StartEdits.{timed_start, swapped}
use Rattle.khe_solution.proofs.ResourceEdits.{traded}

-- where each test is false, none refuses
passing : (row : List (Bool × Refusal)) → AllPass row → first_refusal row ≡ None
passing [] a = refl
passing ((test, r) ∷ rest) a = ap (λ b. cond b (Some r) (first_refusal rest)) a.0 ∙ passing rest a.1

not-true : (b : Bool) → b ≡ true → not b ≡ false
not-true b h = ap not h

below : (n k : ℕ) → k < n → nat_le n k ≡ false
below n k l = lt-leb n k l

-- a resource that has the type of a place is one of the instance
type_known : (p : Parts) (r : ℕ) (place : Option Place) → has_type p r place ≡ true
    → nat_le (length p.resources) r ≡ false
type_known p r None h = absurd (true-false (sym h))
type_known p r (Some place) h = below (length p.resources) r (at_resource (slice_get p.resources r) refl h)
  where
    at_resource : (o : Option ResourceInfo) → slice_get p.resources r ≡ o
        → option_map_or (λ (x : ResourceInfo). x.rtype == place.rtype) o false ≡ true → r < length p.resources
    at_resource None e k = absurd (true-false (sym k))
    at_resource (Some x) e k = slice_get_within p.resources r x e

-- what makes an Unassign and an Assign accepted
may_unassign : (p : Parts) (s : List Slot) (m : MeetId) (t : TimeId) → MayMove p s m → start_of (slot_at s m.0) ≡ Some t
    → first_refusal (unassign_row p s m) ≡ None
may_unassign p s m t h e = passing (unassign_row p s m) (not-true _ h.live, (h.free, (ap (λ o. not (is_some o)) e, tt)))

may_assign : (p : Parts) (s : List Slot) (m : MeetId) (t : TimeId) → MayMove p s m → start_of (slot_at s m.0) ≡ None
    → nat_le (length p.times) t.0 ≡ false → runs_over p t.0 (length_of (slot_at s m.0)) ≡ false
    → first_refusal (assign_row p s m t) ≡ None
may_assign p s m t h e k o = passing (assign_row p s m t) (not-true _ h.live, (k, (h.free, (ap is_some e, (o, tt)))))

pub move_done : (p : Parts) (s : List Slot) (m : MeetId) (t : TimeId) → refusal p s (MoveTo m t) ≡ None
    → IsDone p s (edited s (MoveTo m t)) (Unassign m ∷ Assign m t ∷ [])
unfolding refusal edited
move_done p s m t h =
    let x = slot_at s m.0 in
    let a = passed (move_row p s m t) h in
    let live = not-false (is_live x) a.0 in
    let l = live_there s m.0 live in
    let may : MayMove p s m = record { live = live; free = a.1.1.0 } in
    let u = some_value (start_of x) (not-false _ a.1.1.1.0) in
    let s1 = timed s m None in
    let over : runs_over p t.0 (length_of (slot_at s1 m.0)) ≡ false =
    ap (runs_over p t.0) (timed_reads s m None m.0 l).lasts ∙ a.1.1.1.1.1.0 in (
      may_unassign p s m u.0 may u.1,
      (
        may_assign p s1 m t (moves_still p s m m None l may) (timed_start s m None live) a.1.0 over,
        timed_twice s m None
            (Some t) l,
      ),
    )

pub move_accepted : (p : Parts) (s : List Slot) (m : MeetId) (t : TimeId) → refusal p s (Unassign m) ≡ None
    → refusal p (edited s (Unassign m)) (Assign m t) ≡ None
    → is_time t.0 (start_of (slot_at s m.0)) ≡ false → refusal p s (MoveTo m t) ≡ None
unfolding refusal edited
move_accepted p s m t h k d =
    let x = slot_at s m.0 in
    let s1 = timed s m None in
    let a = passed (unassign_row p s m) h in
    let b = passed (assign_row p s1 m t) k in
    let l = live_there s m.0 (not-false (is_live x) a.0) in
    let over : runs_over p t.0 (length_of x) ≡ false =
    sym (ap (runs_over p t.0) (timed_reads s m None m.0 l).lasts) ∙ b.1.1.1.1.0 in
    passing (move_row p s m t) (a.0, (b.1.0, (a.1.0, (a.1.1.0, (d, (over, tt))))))

-- a meet that runs starts at a time of the instance
start_known : (p : Parts) (s : List Slot) (m : MeetId) (t : TimeId) → AreValid p s → is_live (slot_at s m.0) ≡ true
    → start_of (slot_at s m.0) ≡ Some t → nat_le (length p.times) t.0 ≡ false
start_known p s m t v live e =
    let x = slot_at s m.0 in
    let i = All-get_or (IsSlot p) s m.0 no_slot (live_there s m.0 live) v.told.slots in
    let known = span_of x.span (Some t) live e in
    let lasts : 1 ≤ length_of x = subst (λ o. IfSome o (λ (y : Span). 1 ≤ y.duration)) known i.duration in
    let ends : t.0 + length_of x ≤ length p.times =
    subst (λ o. IfSome o (λ (y : Span). IfSome y.start (λ q. q.0 + y.duration ≤ length p.times))) known i.ends in
    below (length p.times) t.0 (omega (arith, lasts, ends))

pub swap_done : (p : Parts) (s : List Slot) (a b : MeetId) (t u : TimeId) → AreValid p s
    → refusal p s (SwapMeets a b) ≡ None → start_of (slot_at s a.0) ≡ Some t → start_of (slot_at s b.0) ≡ Some u
    → IsDone p s (edited s (SwapMeets a b)) (Unassign a ∷ Unassign b ∷ Assign a u ∷ Assign b t ∷ [])
unfolding refusal edited
swap_done p s a b t u v h et eu =
    let x = slot_at s a.0 in
    let y = slot_at s b.0 in
    let k = passed (swap_meets_row p s a b) h in
    let ma : MayMove p s a = record { live = not-false (is_live x) k.0; free = k.1.1.0 } in
    let mb : MayMove p s b = record { live = not-false (is_live y) k.1.0; free = k.1.1.1.0 } in
    let d : b.0 ≡ a.0 → ⊥ = λ e. true-false (sym (eq-eqb a.0 b.0 (sym e)) ∙ k.1.1.1.1.1.1.0) in
    let oa : runs_over p u.0 (length_of x) ≡ false =
    sym (ap (λ o. would_run_over p o (length_of x)) eu) ∙ k.1.1.1.1.1.1.1.1.0 in
    let ob : runs_over p t.0 (length_of y) ≡ false =
    sym (ap (λ o. would_run_over p o (length_of y)) et) ∙ k.1.1.1.1.1.1.1.1.1.0 in
    let s1 = timed s a None in
    let s2 = timed s1 b None in
    let s3 = timed s2 a (Some u) in
    let la = live_there s a.0 ma.live in
    let mb1 = moves_still p s a b None la mb in
    let lb1 = live_there s1 b.0 mb1.live in
    let ma2 = moves_still p s1 b a None lb1 (moves_still p s a a None la ma) in
    let la2 = live_there s2 a.0 ma2.live in
    let none3 : start_of (slot_at s2 a.0) ≡ None =
    ap start_of (timed_other s1 b None a.0 (λ e. d (sym e))) ∙ timed_start s a None ma.live in
    let over3 : runs_over p u.0 (length_of (slot_at s2 a.0)) ≡ false =
    ap (runs_over p u.0) ((timed_reads s1 b None a.0 lb1).lasts ∙ (timed_reads s a None a.0 la).lasts) ∙ oa in
    let mb3 = moves_still p s2 a b (Some u) la2 (moves_still p s1 b b None lb1 mb1) in
    let none4 : start_of (slot_at s3 b.0) ≡ None =
    ap start_of (timed_other s2 a (Some u) b.0 d) ∙ timed_start s1 b None mb1.live in
    let over4 : runs_over p t.0 (length_of (slot_at s3 b.0)) ≡ false =
    ap (runs_over p t.0) ((timed_reads s2 a (Some u) b.0 la2).lasts ∙ (timed_reads s1 b None b.0 lb1).lasts
    ∙ (timed_reads s a None b.0 la).lasts) ∙ ob in
    let lb = live_there (timed s a (Some u)) b.0 (moves_still p s a b (Some u) la mb).live in (
      may_unassign p s a t ma et,
      (
        may_unassign p s1 b u mb1 (ap start_of (timed_other s a None b.0 d) ∙ eu),
        (
          may_assign p s2 a u ma2 none3 (start_known p s b u v mb.live eu) over3,
          (
            may_assign p s3 b t mb3 none4 (start_known p s a t v ma.live et) over4,
            swapped s a b (Some t) (Some u) d la lb1 lb ∙ (λ i. timed (timed s a (sym eu i)) b (sym et i)),
          ),
        ),
      ),
    )

-- what makes a Take and a Give accepted
may_take : (p : Parts) (s : List Slot) (t : TaskId) (r : ResourceId) → MayTurn p s t → resource_at s t ≡ Some r
    → first_refusal (take_row p s t) ≡ None
may_take p s t r h e = passing (take_row p s t) (not-true _ h.place, (h.free, (ap is_none e, tt)))

may_give : (p : Parts) (s : List Slot) (t : TaskId) (r : ResourceId) → MayTurn p s t → resource_at s t ≡ None
    → has_type p r.0 (task_place p s t) ≡ true → first_refusal (give_row p s t r) ≡ None
may_give p s t r h e k = passing (give_row p s t r)
    (not-true _ h.place, (type_known p r.0 (task_place p s t) k, (h.free, (ap is_some e, (not-true _ k, tt)))))

pub regive_done : (p : Parts) (s : List Slot) (t : TaskId) (r : ResourceId) → refusal p s (Regive t r) ≡ None
    → IsDone p s (edited s (Regive t r)) (Take t ∷ Give t r ∷ [])
unfolding refusal edited
regive_done p s t r h =
    let x = slot_at s t.meet.0 in
    let a = passed (regive_row p s t r) h in
    let may : MayTurn p s t = record { place = not-false (has_place x t.place) a.0; free = a.1.1.0 } in
    let q = not_none (resource_at s t) a.1.1.1.0 in
    let w = turn_there p s t may in
    let s1 = staffed s t None in
    let has : has_type p r.0 (task_place p s1 t) ≡ true =
    ap (has_type p r.0) (place_still p s t t None w.0)
    ∙ not-false (has_type p r.0 (task_place p s t)) a.1.1.1.1.1.0 in (
      may_take p s t q.0 may q.1,
      (
        may_give p s1 t r (turns_still p s t t None w.0 may) (staffed_given s t None w.0 w.1) has,
        staffed_twice s t None
            (Some r) w.0,
      ),
    )

pub regive_accepted : (p : Parts) (s : List Slot) (t : TaskId) (r : ResourceId) → refusal p s (Take t) ≡ None
    → refusal p (edited s (Take t)) (Give t r) ≡ None
    → is_resource r.0 (resource_at s t) ≡ false → refusal p s (Regive t r) ≡ None
unfolding refusal edited
regive_accepted p s t r h k d =
    let x = slot_at s t.meet.0 in
    let s1 = staffed s t None in
    let a = passed (take_row p s t) h in
    let b = passed (give_row p s1 t r) k in
    let may : MayTurn p s t = record { place = not-false (has_place x t.place) a.0; free = a.1.0 } in
    let w = turn_there p s t may in
    let has : not (has_type p r.0 (task_place p s t)) ≡ false =
    sym (ap (λ o. not (has_type p r.0 o)) (place_still p s t t None w.0)) ∙ b.1.1.1.1.0 in
    passing (regive_row p s t r) (a.0, (b.1.0, (a.1.0, (a.1.1.0, (d, (has, tt))))))

pub trade_done : (p : Parts) (s : List Slot) (a b : TaskId) (q r : ResourceId) → refusal p s (SwapTasks a b) ≡ None
    → resource_at s a ≡ Some q → resource_at s b ≡ Some r
    → IsDone p s (edited s (SwapTasks a b)) (Take a ∷ Take b ∷ Give a r ∷ Give b q ∷ [])
unfolding refusal edited
trade_done p s a b q r h eq er =
    let x = slot_at s a.meet.0 in
    let y = slot_at s b.meet.0 in
    let k = passed (swap_tasks_row p s a b) h in
    let ta : MayTurn p s a = record { place = not-false (has_place x a.place) k.0; free = k.1.1.0 } in
    let tb : MayTurn p s b = record { place = not-false (has_place y b.place) k.1.0; free = k.1.1.1.0 } in
    let d : AreApart a b = λ e f. true-false (sym
    (λ i. eq-eqb a.meet.0 b.meet.0 (sym e) i && eq-eqb a.place b.place (sym f) i) ∙ k.1.1.1.1.1.1.0) in
    let c : AreApart b a = λ e f. d (sym e) (sym f) in
    let oa : has_type p r.0 (task_place p s a) ≡ true =
    sym (ap (λ o. may_have p o (task_place p s a)) er) ∙ not-false _ k.1.1.1.1.1.1.1.1.0 in
    let ob : has_type p q.0 (task_place p s b) ≡ true =
    sym (ap (λ o. may_have p o (task_place p s b)) eq) ∙ not-false _ k.1.1.1.1.1.1.1.1.1.0 in
    let s1 = staffed s a None in
    let s2 = staffed s1 b None in
    let s3 = staffed s2 a (Some r) in
    let wa = turn_there p s a ta in
    let tb1 = turns_still p s a b None wa.0 tb in
    let wb1 = turn_there p s1 b tb1 in
    let ta2 = turns_still p s1 b a None wb1.0 (turns_still p s a a None wa.0 ta) in
    let wa2 = turn_there p s2 a ta2 in
    let none3 : resource_at s2 a ≡ None = staffed_other s1 b a None c wb1.0 ∙ staffed_given s a None wa.0 wa.1 in
    let has3 : has_type p r.0 (task_place p s2 a) ≡ true =
    ap (has_type p r.0) (place_still p s1 b a None wb1.0 ∙ place_still p s a a None wa.0) ∙ oa in
    let tb3 = turns_still p s2 a b (Some r) wa2.0 (turns_still p s1 b b None wb1.0 tb1) in
    let none4 : resource_at s3 b ≡ None = staffed_other s2 a b (Some r) d wa2.0 ∙ staffed_given s1 b None wb1.0 wb1.1 in
    let has4 : has_type p q.0 (task_place p s3 b) ≡ true =
    ap (has_type p q.0) (place_still p s2 a b (Some r) wa2.0 ∙ place_still p s1 b b None wb1.0
    ∙ place_still p s a b None wa.0) ∙ ob in
    let lb = (turn_there p (staffed s a (Some r)) b (turns_still p s a b (Some r) wa.0 tb)).0 in (
      may_take p s a q ta eq,
      (
        may_take p s1 b r tb1 (staffed_other s a b None d wa.0 ∙ er),
        (
          may_give p s2 a r ta2 none3 has3,
          (
            may_give p s3 b q tb3 none4 has4,
            traded s a b (Some q) (Some r) d wa.0 wb1.0 lb ∙ (λ i. staffed (staffed s a (sym er i)) b (sym eq i)),
          ),
        ),
      ),
    )
