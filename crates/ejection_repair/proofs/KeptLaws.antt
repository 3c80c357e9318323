-- What each move keeps is true of all states that repair looks at, and of the one that it comes to.
use Rattle.std.proofs.Common.{ℕ, zero, suc, ◌≡◌, ◌+◌, inl, inr, Bool, true, false, cond, Option, Some, None, List, []}
use Rattle.std.proofs.Common.{◌∷◌, ◌++◌, map, slice_get, refl, ap, ◌∙◌, sym, subst}
use Rattle.std.specs.List.{filter}
use Rattle.std.specs.Option.{option_map_or}
use Rattle.std.specs.Prelude.{is_none, is_some}
use Rattle.std.proofs.lemmas.Bool.{both_ways}
use Rattle.khe_instance.specs.declared.parts.Parts.{Parts}
use Rattle.khe_instance.specs.declared.points.Monitor.{Monitor}
use Rattle.khe_instance.specs.declared.points.Point.{Point}
use Rattle.khe_instance.specs.declared.rules.Constraint.{Constraint}
use Rattle.khe_instance.specs.declared.rules.Rule.{Rule}
use Rattle.khe_told.specs.declared.edits.Edit.{Edit}
use Rattle.khe_told.specs.declared.edits.Edit.TheVariants.{Assign, MoveTo, Give, Regive}
use Rattle.khe_told.specs.declared.refusals.Refusal.{Refusal}
use Rattle.khe_told.specs.declared.slots.Slot.{Slot}
use Rattle.khe_told.specs.Slots.{slot_at}
use Rattle.khe_solution.specs.Reading.{is_placed, resource_at}
use Rattle.khe_solution.specs.Refusing as refusing
use Rattle.khe_engine.specs.States.{State, edited, refusal}
use Rattle.khe_engine.proofs.StateLaws.{edited_meets, refusal_meets}
use Rattle.monitor_graph.specs.Dearer.{dearer, only}
use Rattle.repair_moves.specs.Items.{task_at}
use Rattle.repair_moves.specs.Moves.{choices_from, edit_of, is_accepted, is_choice, items_from, moves, moves_of}
use Rattle.repair_moves.specs.Moves.{moves_under, part_from}
use Rattle.repair_moves.specs.Picked.{picked}
use Rattle.repair_moves.specs.Table.{parts_of}
use Rattle.repair_moves.specs.declared.parts.Part.{Part}
use Rattle.repair_moves.specs.declared.parts.Part.TheVariants.{TimeMoves, SwapMoves, Cuts, Joins, TaskMoves, TradeMoves}
use Rattle.repair_moves.specs.declared.parts.Part.TheVariants.{Gives}
use Rattle.ejection_repair.specs.Chains.{Chain, chains, longer, unmoved, rotated, extensions, tried}
use Rattle.ejection_repair.specs.Repaired.{Try, try_at, tries_from, run, repaired}
use Rattle.ejection_repair.specs.Settled.{Among, AreSteps, IsReached}
use Rattle.ejection_repair.specs.Trails.{is_fresh}
use Rattle.ejection_repair.specs.Values.{totals_at, are_lower, costs_at, defects_from}
use Rattle.ejection_repair.proofs.AmongLaws.{among_split, source, filter_among, rotated_among, among_map}
use Rattle.ejection_repair.proofs.EditLaws.{not_of_groups}

-- an edit of meets and tasks that a state accepts
abbrev IsMove : Parts → List Slot → Edit → Type 0
IsMove p s e = (refusing.refusal p s e ≡ None) × (refusing.is_of_meets e ≡ true)

none_is : (o : Option Refusal) → is_none o ≡ true → o ≡ None
none_is None h = refl
none_is (Some r) h = absurd (both_ways false refl h)

accepted_is : (p : Parts) (s : List Slot) (e : Edit) → is_accepted p s e ≡ true → refusing.refusal p s e ≡ None
unfolding is_accepted
accepted_is p s e h = none_is (refusing.refusal p s e) h

-- each choice is an edit of meets and tasks
of_meets : (p : Parts) (s : List Slot) (point : Point) (part : Part) (n k : ℕ)
    → refusing.is_of_meets (edit_of p s point part n k) ≡ true
unfolding edit_of
of_meets p s point TimeMoves n k = by_start (is_placed (slot_at s n))
  where
    by_start : (b : Bool) → refusing.is_of_meets (cond b (MoveTo (record { 0 = n }) (record { 0 = k }))
        (Assign (record { 0 = n }) (record { 0 = k }))) ≡ true
    by_start true = refl
    by_start false = refl
of_meets p s point SwapMoves n k = refl
of_meets p s point Cuts n k = refl
of_meets p s point Joins n k = refl
of_meets p s point TaskMoves n k = by_given (is_some (resource_at s (task_at p n)))
  where
    by_given : (b : Bool) → refusing.is_of_meets (cond b (Regive (task_at p n) (record { 0 = k }))
        (Give (task_at p n) (record { 0 = k }))) ≡ true
    by_given true = refl
    by_given false = refl
of_meets p s point TradeMoves n k = refl
of_meets p s point Gives n k = refl

of_chosen : {A B : Type 0} (P : B → Type 0) (f : A → B) (test : A → Bool) (xs : List A) (y : B)
    → ((x : A) → test x ≡ true → P (f x)) → Among y (map f (filter test xs)) → P y
of_chosen P f test [] y h m = absurd m
of_chosen P f test (x ∷ xs) y h m = by_head (test x) refl (of_chosen P f test xs y h) m
  where
    by_head : (b : Bool) → test x ≡ b → (Among y (map f (filter test xs)) → P y)
        → Among y (map f (cond b (x ∷ filter test xs) (filter test xs))) → P y
    by_head true e rest (inl q) = subst P (sym q) (h x e)
    by_head true e rest (inr q) = rest q
    by_head false e rest q = rest q

of_choices : (p : Parts) (s : List Slot) (point : Point) (part : Part) (n from : ℕ) (e : Edit)
    → Among e (choices_from p s point part n from) → IsMove p s e
unfolding choices_from picked
of_choices p s point part n from e m =
    of_chosen (IsMove p s) (edit_of p s point part n) (is_choice p s point part n) _ e
    (λ k h. (accepted_is p s (edit_of p s point part n k) h, of_meets p s point part n k)) m

of_part : (p : Parts) (s : List Slot) (rule : Rule) (point : Point) (part : Part) (e : Edit)
    → Among e (part_from p s rule point part 0) → IsMove p s e
unfolding part_from
of_part p s rule point part e m =
    let q = source (λ n. choices_from p s point part n 0) e (items_from p s rule point part 0) m in
    of_choices p s point part q.at 0 e q.gives

pub move_is : (p : Parts) (s : List Slot) (n : ℕ) (e : Edit) → Among e (moves p s n) → IsMove p s e
unfolding moves moves_of moves_under
move_is p s n e m = by_monitor (slice_get p.monitors n) m
  where
    by_constraint : (x : Monitor) (o : Option Constraint) → Among e (option_map_or (moves_under p s x) o [])
        → IsMove p s e
    by_constraint x None g = absurd g
    by_constraint x (Some k) g =
        let q = source (λ part. part_from p s k.rule x.point part 0) e (parts_of x.kind) g in
        of_part p s k.rule x.point q.at e q.gives

    by_monitor : (o : Option Monitor) → Among e (option_map_or (moves_of p s) o []) → IsMove p s e
    by_monitor None g = absurd g
    by_monitor (Some x) g = by_constraint x (slice_get p.constraints x.constraint) g

-- a move leads from a state of which something is true to another
abbrev pub Leads : Parts → (State → Type 0) → Type 0
Leads p Good = (s : State) (m : ℕ) (e : Edit) → Good s → Among e (moves p s.slots m) → Good (edited s e)

pub ext_good : (p : Parts) (Good : State → Type 0) → Leads p Good → (marked : List ℕ) (v k : ℕ) (c : Chain) (m : ℕ)
    → Good c.state
    → (x : Chain) → Among x (extensions p marked v k c m) → Good x.state
unfolding extensions tried longer
ext_good p Good b marked v zero c m good x h = absurd h
ext_good p Good b marked v (suc k) c m good x h =
    let on = λ (e : Edit). longer c e ∷ option_map_or (extensions p marked v k (longer c e))
    (only (dearer marked (costs_at p (longer c e).state))) [] in
    let s = source on x (filter (is_fresh c.state.slots c.moved) (rotated v (moves p c.state.slots m))) h in
    let next : Good (longer c s.at).state =
    b c.state m s.at good (rotated_among s.at v (moves p c.state.slots m)
    (filter_among (is_fresh c.state.slots c.moved) s.at (rotated v (moves p c.state.slots m)) s.there)) in
    by s.at next (only (dearer marked (costs_at p (longer c s.at).state)))
    (λ n. ext_good p Good b marked v k (longer c s.at) n next x) s.gives
  where
    by : (e : Edit) → Good (longer c e).state → (o : Option ℕ)
        → ((n : ℕ) → Among x (extensions p marked v k (longer c e) n) → Good x.state)
        → Among x (longer c e ∷ option_map_or (extensions p marked v k (longer c e)) o []) → Good x.state
    by e g o f (inl q) = let P : Chain → Type 0 = λ y. Good y.state in subst P (sym q) g
    by e g None f (inr q) = absurd q
    by e g (Some n) f (inr q) = f n q

pub chains_good : (p : Parts) (Good : State → Type 0) → Leads p Good → (s : State) (v k : ℕ) → Good s → (x : Chain)
    → Among x (chains p s v k) → Good x.state
unfolding chains
chains_good p Good b s v k good x h =
    let q = source (extensions p (costs_at p s) v k (unmoved s)) x (rotated v (defects_from (costs_at p s) 0)) h in
    ext_good p Good b (costs_at p s) v k (unmoved s) q.at good x q.gives

pub tries_good : (p : Parts) (Good : State → Type 0) → Leads p Good → (s : State) (v gone n : ℕ) → Good s → (x : Try)
    → Among x (tries_from p s v gone n) → Good x.state
unfolding tries_from
tries_good p Good b s v gone zero good x h = absurd h
tries_good p Good b s v gone (suc n) good x h =
    elim (among_split x (map (try_at gone) (chains p s v (gone + 1))) (tries_from p s v (gone + 1) n) h) [
      | inl g ↦ let q = among_map gone x (chains p s v (gone + 1)) g in
          let P : State → Type 0 = Good in subst P (sym (ap (λ y. y.state) q.2))
          (chains_good p Good b s v (gone + 1) good q.0 q.1)
      | inr g ↦ tries_good p Good b s v (gone + 1) n good x g
    ]

-- and so is the state that a run comes to
run_good : (p : Parts) (Good : State → Type 0) → Leads p Good → (depth v n a t : ℕ) (s : State) (xs : List Try) → Good s
    → ((x : Try) → Among x xs → Good x.state)
    → Good (run p depth v n a t s xs).state
unfolding run
run_good p Good b depth v zero a t s [] good h = good
run_good p Good b depth v zero a t s (x ∷ xs) good h = good
run_good p Good b depth v (suc n) a t s [] good h = good
run_good p Good b depth v (suc n) a t s (x ∷ xs) good h =
    by (are_lower (totals_at p x.state) (totals_at p s))
    (run_good p Good b depth v n (a + 1) (t + 1) x.state (tries_from p x.state v 0 depth) (h x (inl refl))
    (tries_good p Good b x.state v 0 depth (h x (inl refl))))
    (run_good p Good b depth v n a (t + 1) s xs good (λ y m. h y (inr m)))
  where
    by : (c : Bool) → Good (run p depth v n (a + 1) (t + 1) x.state (tries_from p x.state v 0 depth)).state
        → Good (run p depth v n a (t + 1) s xs).state
        → Good (cond c (run p depth v n (a + 1) (t + 1) x.state (tries_from p x.state v 0 depth))
        (run p depth v n a (t + 1) s xs)).state
    by true f g = f
    by false f g = g

pub repaired_good : (p : Parts) (Good : State → Type 0) → Leads p Good → (s : State) (depth budget v : ℕ) → Good s
    → Good (repaired p s depth budget v).state
unfolding repaired
repaired_good p Good b s depth budget v good =
    run_good p Good b depth v budget 0 0 s (tries_from p s v 0 depth) good (tries_good p Good b s v 0 depth good)

-- moves keep which monitors are attached, and the groups
pub same_grouping : (p : Parts) (s : State) (depth budget v : ℕ)
    → (repaired p s depth budget v).state.grouping ≡ s.grouping
same_grouping p s depth budget v = repaired_good p (λ u. u.grouping ≡ s.grouping) onward s depth budget v refl
  where
    onward : Leads p (λ u. u.grouping ≡ s.grouping)
    onward u m e same among = ap (λ (x : State). x.grouping)
        (edited_meets u e (not_of_groups e (move_is p u.slots m e among).1)) ∙ same

-- and lead on by edits that are accepted
steps_more : (p : Parts) (s u : State) (es : List Edit) (e : Edit) → AreSteps p s es u → refusal p u e ≡ None
    → AreSteps p s (es ++ (e ∷ [])) (edited u e)
steps_more p s u [] e h r = (ap (λ x. refusal p x e) h ∙ r, ap (λ x. edited x e) h)
steps_more p s u (f ∷ es) e h r = (h.0, steps_more p (edited s f) u es e h.1 r)

pub leads_reached : (p : Parts) (s : State) → Leads p (IsReached p s)
leads_reached p s u m e there among =
    let move = move_is p u.slots m e among in
    (there.0 ++ (e ∷ []), steps_more p s u there.0 e there.1 (refusal_meets p u e (not_of_groups e move.1) ∙ move.0))

pub reached : (p : Parts) (s : State) (depth budget v : ℕ) → IsReached p s (repaired p s depth budget v).state
reached p s depth budget v = repaired_good p (IsReached p s) (leads_reached p s) s depth budget v ([], refl)
