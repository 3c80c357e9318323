-- A meet or task that is lifted and then put elsewhere is moved.
use Rattle.std.proofs.Common.{ℕ, ◌≡◌, ◌<◌, ◌==◌, Bool, true, cond, Some, None, List, [], ◌∷◌, map, length}
use Rattle.std.proofs.Common.{refl, sym, ap, subst, ◌∙◌, arith}
use Rattle.std.specs.Prelude.{All, is_some, not, nat_lt, ◌&&◌}
use Rattle.std.proofs.lemmas.Bool.{and_parts, eqb-true}
use Rattle.std.proofs.lemmas.List.Elements.{All-nil, All-cons, All-head, All-tail}
use Rattle.khe_base.specs.declared.numbers.MeetId.{MeetId}
use Rattle.khe_base.specs.declared.numbers.ResourceId.{ResourceId}
use Rattle.khe_base.specs.declared.numbers.TaskId.{TaskId}
use Rattle.khe_base.specs.declared.numbers.TimeId.{TimeId}
use Rattle.khe_base.specs.declared.sums.Totals.{Totals}
use Rattle.khe_instance.specs.declared.parts.Parts.{Parts}
use Rattle.khe_told.specs.Slots.{slot_at, is_live}
use Rattle.khe_told.specs.declared.edits.Edit.{Edit}
use Rattle.khe_told.specs.declared.edits.Edit.TheVariants.{Assign, Unassign, MoveTo, Split, Merge, SwapMeets, Give}
use Rattle.khe_told.specs.declared.edits.Edit.TheVariants.{Take, Regive, SwapTasks, Attach, Detach, MakeGroup}
use Rattle.khe_told.specs.declared.edits.Edit.TheVariants.{DropGroup, AddChild, RemoveChild}
use Rattle.khe_told.specs.declared.refusals.Refusal.{Refusal}
use Rattle.khe_told.specs.declared.slots.Slot.{Slot}
use Rattle.khe_solution.specs.Editing as editing
use Rattle.khe_solution.specs.Editing.{timed, staffed}
use Rattle.khe_solution.specs.Reading.{has_place, has_type, is_fixed_event, is_fixed_place, runs_over}
use Rattle.khe_solution.specs.Refusing.{first_refusal, assign_row, unassign_row, move_row}
use Rattle.khe_solution.specs.Refusing.{give_row, take_row, regive_row, refusal}
use Rattle.khe_solution.proofs.Basics.{AllPass, not-false, passed, live_there}
use Rattle.khe_solution.proofs.EditingLaws.{timed_reads, timed_twice, staffed_given, staffed_reads, staffed_twice}
use Rattle.khe_solution.proofs.Stages.{MayTurn, place_still, turn_there}
use Rattle.khe_solution.proofs.StartEdits.{timed_start}
use Rattle.khe_engine.specs.States.{State, edited}
use Rattle.khe_engine.specs.Worlds.{World}
use Rattle.repair_moves.specs.declared.moved.Moved.{Moved}
use Rattle.repair_moves.specs.declared.moved.Moved.TheVariants.{Meet, Task}
use Rattle.ejection_repair.specs.Lifts.{IsMove, ended, lift_of, lifted_by, put_of}
use Rattle.ejection_repair.specs.Looks.{look}
use Rattle.ejection_repair.specs.Trails.{is_same}

-- a row of which each test is false refuses nothing
passing : (row : List (Bool × Refusal)) → AllPass row → first_refusal row ≡ None
passing [] h = refl
passing ((test, r) ∷ rest) h = ap (λ t. cond t (Some r) (first_refusal rest)) h.0 ∙ passing rest h.1

-- a move of a meet, as a lift and a place
move_lifted : (p : Parts) (s : List Slot) (m : MeetId) (t : TimeId) → first_refusal (move_row p s m t) ≡ None
    → (first_refusal (unassign_row p s m) ≡ None) × (first_refusal (assign_row p (timed s m None) m t) ≡ None)
    × (timed (timed s m None) m (Some t) ≡ timed s m (Some t))
move_lifted p s m t h =
    let x = slot_at s m.0 in
    let s1 = timed s m None in
    let a = passed (move_row p s m t) h in
    let live = not-false (is_live x) a.0 in
    let l = live_there s m.0 live in
    let r = timed_reads s m None m.0 l in (
      passing (unassign_row p s m) (a.0, (a.1.1.0, (a.1.1.1.0, tt))),
      passing (assign_row p s1 m t) (
        ap not r.live ∙ a.0,
        (
          a.1.0,
          (
            ap (λ e. is_fixed_event p e.0) r.event ∙ a.1.1.0,
            (ap is_some (timed_start s m None live), (ap (runs_over p t.0) r.lasts ∙ a.1.1.1.1.1.0, tt)),
          ),
        ),
      ),
      timed_twice s m None (Some t) l,
    )

-- another resource for a task, as a take and a give
regive_lifted : (p : Parts) (s : List Slot) (k : TaskId) (r : ResourceId) → first_refusal (regive_row p s k r) ≡ None
    → (first_refusal (take_row p s k) ≡ None) × (first_refusal (give_row p (staffed s k None) k r) ≡ None)
    × (staffed (staffed s k None) k (Some r) ≡ staffed s k (Some r))
regive_lifted p s k r h =
    let x = slot_at s k.meet.0 in
    let s1 = staffed s k None in
    let a = passed (regive_row p s k r) h in
    let may : MayTurn p s k = record { place = not-false (has_place x k.place) a.0; free = a.1.1.0 } in
    let w = turn_there p s k may in
    let q = staffed_reads s k None k.meet.0 w.0 in (
      passing (take_row p s k) (a.0, (a.1.1.0, (a.1.1.1.0, tt))),
      passing (give_row p s1 k r) (
        (λ i. not (is_some (q.span i) && nat_lt k.place (q.places i))) ∙ a.0,
        (
          a.1.0,
          (
            ap (λ e. is_fixed_place p e.0 k.place) q.event ∙ a.1.1.0,
            (
              ap is_some (staffed_given s k None w.0 w.1),
              (ap (λ o. not (has_type p r.0 o)) (place_still p s k k None w.0) ∙ a.1.1.1.1.1.0, tt),
            ),
          ),
        ),
      ),
      staffed_twice s k None (Some r) w.0,
    )

-- what lifting and putting come to
pub record AreSteps (p : Parts) (s : State) (e : Edit) (x : Moved) : Type 0 where
  pub lift : IsMove p s.slots (lift_of x)
  pub put : IsMove p (edited s (lift_of x)).slots (put_of e)
  pub both : edited (edited s (lift_of x)) (put_of e) ≡ edited s e

move_steps : (p : Parts) (s : State) (m : MeetId) (t : TimeId) → refusal p s.slots (MoveTo m t) ≡ None
    → AreSteps p s (MoveTo m t) (Meet m)
unfolding refusal editing.edited edited lift_of put_of
move_steps p s m t h =
    let g = move_lifted p s.slots m t h in
    record {
      lift = record { ours = refl; accepted = g.0 };
      put = record { ours = refl; accepted = g.1 };
      both = ap (λ z. let y : State = record s { slots = z } in y) g.2;
    }

regive_steps : (p : Parts) (s : State) (k : TaskId) (r : ResourceId) → refusal p s.slots (Regive k r) ≡ None
    → AreSteps p s (Regive k r) (Task k)
unfolding refusal editing.edited edited lift_of put_of
regive_steps p s k r h =
    let g = regive_lifted p s.slots k r h in
    record {
      lift = record { ours = refl; accepted = g.0 };
      put = record { ours = refl; accepted = g.1 };
      both = ap (λ z. let y : State = record s { slots = z } in y) g.2;
    }

nothing : (x : Moved) → None ≡ Some x → ⊥
nothing x h = let g : ⊥ = cc in g

pub steps_of : (p : Parts) (s : State) (e : Edit) (x : Moved) → IsMove p s.slots e → lifted_by e ≡ Some x
    → AreSteps p s e x
unfolding lifted_by
steps_of p s (MoveTo m t) x h f =
    let g : Meet m ≡ x = cc in subst (AreSteps p s (MoveTo m t)) g (move_steps p s m t h.accepted)
steps_of p s (Regive k r) x h f =
    let g : Task k ≡ x = cc in subst (AreSteps p s (Regive k r)) g (regive_steps p s k r h.accepted)
steps_of p s (Assign m t) x h f = absurd (nothing x f)
steps_of p s (Unassign m) x h f = absurd (nothing x f)
steps_of p s (Split m cut) x h f = absurd (nothing x f)
steps_of p s (Merge a b) x h f = absurd (nothing x f)
steps_of p s (SwapMeets a b) x h f = absurd (nothing x f)
steps_of p s (Give k r) x h f = absurd (nothing x f)
steps_of p s (Take k) x h f = absurd (nothing x f)
steps_of p s (SwapTasks a b) x h f = absurd (nothing x f)
steps_of p s (Attach m) x h f = absurd (nothing x f)
steps_of p s (Detach m) x h f = absurd (nothing x f)
steps_of p s MakeGroup x h f = absurd (nothing x f)
steps_of p s (DropGroup g) x h f = absurd (nothing x f)
steps_of p s (AddChild g m) x h f = absurd (nothing x f)
steps_of p s (RemoveChild g m) x h f = absurd (nothing x f)

-- the first of several moves lets their meet or task be lifted
pub lift_made : (p : Parts) (s : State) (es : List Edit) (x : Moved) → 0 < length es → All (IsMove p s.slots) es
    → All (λ e. lifted_by e ≡ Some x) es → IsMove p s.slots (lift_of x)
lift_made p s [] x l h f = absurd (omega arith)
lift_made p s (e ∷ es) x l h f =
    (steps_of p s e x (All-head (IsMove p s.slots) e es h) (All-head (λ e. lifted_by e ≡ Some x) e es f)).lift

-- each is put from there
pub puts_made : (p : Parts) (s : State) (es : List Edit) (x : Moved) → All (IsMove p s.slots) es
    → All (λ e. lifted_by e ≡ Some x) es → All (IsMove p (edited s (lift_of x)).slots) (map put_of es)
puts_made p s [] x h f = All-nil (IsMove p (edited s (lift_of x)).slots)
puts_made p s (e ∷ es) x h f =
    let P = IsMove p s.slots in
    let Q : Edit → Type 0 = λ e. lifted_by e ≡ Some x in
    All-cons (IsMove p (edited s (lift_of x)).slots) (put_of e) (map put_of es)
    (steps_of p s e x (All-head P e es h) (All-head Q e es f)).put
    (puts_made p s es x (All-tail P e es h) (All-tail Q e es f))

-- and leaves the state that the move leaves
pub puts_end : (p : Parts) (s : State) (es : List Edit) (x : Moved) → All (IsMove p s.slots) es
    → All (λ e. lifted_by e ≡ Some x) es
    → map (ended (edited s (lift_of x))) (map put_of es) ≡ map (ended s) es
unfolding ended
puts_end p s [] x h f = refl
puts_end p s (e ∷ es) x h f =
    let P = IsMove p s.slots in
    let Q : Edit → Type 0 = λ e. lifted_by e ≡ Some x in
    let both = (steps_of p s e x (All-head P e es h) (All-head Q e es f)).both in
    let rest = puts_end p s es x (All-tail P e es h) (All-tail Q e es f) in
    (λ i. (record { moved = []; state = both i }) ∷ rest i)

-- two that are the same
pub same_moved : (a b : Moved) → is_same a b ≡ true → a ≡ b
same_moved (Meet a) (Meet b) h = ap (λ n. Meet (record { 0 = n })) (eqb-true a.0 b.0 h)
same_moved (Task a) (Task b) h =
    let q = and_parts (a.meet.0 == b.meet.0) (a.place == b.place) h in
    let m = eqb-true a.meet.0 b.meet.0 q.0 in
    let k = eqb-true a.place b.place q.1 in
    (λ i. Task (record { meet = record { 0 = m i }; place = k i }))
same_moved (Meet a) (Task b) h = absurd (let g : ⊥ = cc in g)
same_moved (Task a) (Meet b) h = absurd (let g : ⊥ = cc in g)

-- in the world where it was lifted
pub puts_there : (w v : World) (es : List Edit) (x : Moved) (e : Edit) → e ≡ lift_of x → v.parts ≡ w.parts
    → v.state ≡ edited w.state e → All (IsMove w.parts w.state.slots) es → All (λ e. lifted_by e ≡ Some x) es
    → All (IsMove v.parts v.state.slots) (map put_of es)
puts_there w v es x e le p s h f =
    let P : Parts → Type 0 = λ q. All (IsMove q (edited w.state (lift_of x)).slots) (map put_of es) in
    let Q : State → Type 0 = λ y. All (IsMove v.parts y.slots) (map put_of es) in
    subst Q (sym (s ∙ ap (edited w.state) le)) (subst P (sym p) (puts_made w.parts w.state es x h f))

pub look_lifted : (w v : World) (t : Totals) (n : ℕ) (es : List Edit) (x : Moved) (e : Edit) → e ≡ lift_of x
    → v.parts ≡ w.parts → v.state ≡ edited w.state e → All (IsMove w.parts w.state.slots) es
    → All (λ e. lifted_by e ≡ Some x) es
    → look w.parts t n (map (ended w.state) es) ≡ look v.parts t n (map (ended v.state) (map put_of es))
look_lifted w v t n es x e le p s h f =
    ap (look w.parts t n) (sym (puts_end w.parts w.state es x h f))
    ∙ ap (λ q. look q t n (map (ended (edited w.state (lift_of x))) (map put_of es))) (sym p)
    ∙ ap (λ y. look v.parts t n (map (ended y) (map put_of es))) (sym (s ∙ ap (edited w.state) le))
