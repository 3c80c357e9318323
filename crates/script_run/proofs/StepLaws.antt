-- What an engine's calls say of its trace, and how many steps they take or owe.
use Rattle.std.proofs.Common.{ℕ, ◌≡◌, ◌↔◌, ◌<◌, ◌≤◌, ◌+◌, ◌-◌, ◌⊎◌, Option, Some, None, true, false, Result, Ok, Err, List, [], ◌∷◌, length, refl, sym}
use Rattle.std.proofs.Common.{ap, subst, ◌∙◌, arith}
use Rattle.std.specs.Prelude.{OnOk, OnErr, IfErr, is_ok}
use Rattle.khe_base.specs.declared.limits.TheConstants.{MARKS}
use Rattle.khe_instance.specs.declared.parts.Parts.{Parts}
use Rattle.khe_told.specs.Watchers.{watcher_counts}
use Rattle.khe_told.specs.declared.edits.Edit.{Edit}
use Rattle.khe_told.specs.declared.refusals.Refusal.{Refusal}
use Rattle.khe_told.specs.declared.refusals.Refusal.TheVariants.{NoMark, MarksFull}
use Rattle.khe_engine.specs.States.{State, changes, edited, refusal}
use Rattle.khe_engine.specs.Worlds.{Saved, World, around, closed, fresh, from_mark, grown, last_cost, last_saved, trails_cost}
use Rattle.edit_script.specs.Reading.{reading}
use Rattle.edit_script.specs.declared.commands.Command.{Command}
use Rattle.edit_script.specs.declared.commands.Command.TheVariants as command
use Rattle.edit_script.specs.declared.commands.LineFault.{LineFault}
use Rattle.script_run.specs.Plays.{asks}
use Rattle.script_run.specs.Scripts.{reads}
use Rattle.script_run.specs.Steps.{Trace, back_at, by_refusal, command_steps, read_steps, script_steps, steps_of, trace_of, traced}
use Rattle.script_run.proofs.MarkLaws.{IsEmpty, full_answer, number_answer, ok_err}
use Rattle.script_run.proofs.PlayLaws.{some_left}

same_trace : (b : World) (s : State) (xs : List Saved) → b.state ≡ s → b.saved ≡ xs
    → trace_of b ≡ record { state = s; saved = xs }
same_trace b s xs e f = λ i. record { state = e i; saved = f i }

-- an edit that is made, and one that is refused
pub traced_edit : (p : Parts) (a b : World) (e : Edit) → refusal p a.state e ≡ None → b.state ≡ edited a.state e
    → b.saved ≡ grown (changes a.state e) a.saved → trace_of b ≡ traced p (trace_of a) (command.Edit e)
unfolding traced
traced_edit p a b e r s g =
    same_trace b (edited a.state e) (grown (changes a.state e) a.saved) s g
    ∙ ap (λ o. by_refusal o (trace_of a) (record { state = edited a.state e; saved = grown (changes a.state e) a.saved }))
    (sym r)

pub steps_edit : (p : Parts) (a : World) (e : Edit) (m n : ℕ) → refusal p a.state e ≡ None
    → n ≤ m + watcher_counts p a.state.slots (changes a.state e) → n ≤ m + command_steps p (trace_of a) (command.Edit e)
unfolding command_steps
steps_edit p a e m n r h =
    subst (λ o. n ≤ m + by_refusal o 0 (watcher_counts p a.state.slots (changes a.state e))) (sym r) h

pub traced_refused : (p : Parts) (a b : World) (e : Edit) (r : Refusal) → refusal p a.state e ≡ Some r
    → b.state ≡ a.state → b.saved ≡ a.saved → trace_of b ≡ traced p (trace_of a) (command.Edit e)
unfolding traced
traced_refused p a b e r h s g =
    same_trace b a.state a.saved s g
    ∙ ap (λ o. by_refusal o (trace_of a) (record { state = edited a.state e; saved = grown (changes a.state e) a.saved }))
    (sym h)

-- marks
pub traced_begin : (p : Parts) (a b : World) (r : Result (Unit {0}) Refusal)
    → ((r ≡ Err MarksFull) ↔ (length a.saved ≡ MARKS)) → IfErr r (λ x. x ≡ MarksFull)
    → b.state ≡ a.state → OnOk r (b.saved ≡ fresh a.state ∷ a.saved) → OnErr r (b.saved ≡ a.saved)
    → trace_of b ≡ traced p (trace_of a) command.Begin
unfolding traced
traced_begin p a b (Ok u) full only s ok err =
    same_trace b a.state (fresh a.state ∷ a.saved) s ok
    ∙ ap (λ o. by_refusal o (trace_of a) (record { state = a.state; saved = fresh a.state ∷ a.saved }))
    (full_answer a.saved (Ok u) full only)
traced_begin p a b (Err x) full only s ok err =
    same_trace b a.state a.saved s err
    ∙ ap (λ o. by_refusal o (trace_of a) (record { state = a.state; saved = fresh a.state ∷ a.saved }))
    (full_answer a.saved (Err x) full only)

pub traced_end : (p : Parts) (a b : World) → b.state ≡ a.state → b.saved ≡ closed a.saved
    → trace_of b ≡ traced p (trace_of a) command.End
unfolding traced
traced_end p a b s e = same_trace b a.state (closed a.saved) s e

pub traced_undo : (p : Parts) (a b : World) (r : Result (Unit {0}) Refusal) → ((r ≡ Err NoMark) ↔ (a.saved ≡ []))
    → IfErr r (λ x. x ≡ NoMark)
    → OnOk r ((x : Saved) (xs : List Saved) → a.saved ≡ x ∷ xs → (b.state ≡ x.state) × (b.saved ≡ fresh x.state ∷ xs))
    → OnErr r (b ≡ a) → trace_of b ≡ traced p (trace_of a) command.Undo
unfolding traced
traced_undo p a b r none only ok err = by a.saved refl r none only ok err
  where
    by : (xs : List Saved) → a.saved ≡ xs → (r : Result (Unit {0}) Refusal) → ((r ≡ Err NoMark) ↔ (a.saved ≡ []))
        → IfErr r (λ x. x ≡ NoMark)
        → OnOk r ((x : Saved) (xs : List Saved) → a.saved ≡ x ∷ xs
        → (b.state ≡ x.state) × (b.saved ≡ fresh x.state ∷ xs)) → OnErr r (b ≡ a)
        → trace_of b ≡ back_at (trace_of a) xs
    by [] e (Ok u) none only ok err = absurd (ok_err u NoMark (none.1 e))
    by [] e (Err x) none only ok err = ap trace_of err
    by (x ∷ xs) e (Ok u) none only ok err = let h = ok x xs e in
        same_trace b x.state (fresh x.state ∷ xs) h.0 h.1
    by (x ∷ xs) e (Err y) none only ok err = absurd (subst IsEmpty (sym (none.0 (ap Err only)) ∙ e) tt)

pub steps_undo : (p : Parts) (a : World) (m n : ℕ) → n ≤ m + last_cost p a.saved
    → n ≤ m + command_steps p (trace_of a) command.Undo
unfolding command_steps
steps_undo p a m n h = h

pub traced_mark : (p : Parts) (a b : World) (k : ℕ) (r : Result (Unit {0}) Refusal)
    → OnOk r ((1 ≤ k) × (k ≤ length a.saved)) → IfErr r (λ x. (x ≡ NoMark) × ((k < 1) ⊎ (length a.saved < k)))
    → OnOk r (b.state ≡ last_saved a.state (from_mark k a.saved))
    → OnOk r (b.saved ≡ fresh b.state ∷ around (from_mark k a.saved)) → OnErr r (b ≡ a)
    → trace_of b ≡ traced p (trace_of a) (command.UndoTo k)
unfolding traced
traced_mark p a b k (Ok u) ok err state saved same =
    by (from_mark k a.saved) refl state saved
    ∙ ap (λ o. by_refusal o (trace_of a) (back_at (trace_of a) (from_mark k a.saved)))
    (number_answer k a.saved (Ok u) ok err)
  where
    by : (xs : List Saved) → xs ≡ from_mark k a.saved → b.state ≡ last_saved a.state xs
        → b.saved ≡ fresh b.state ∷ around xs → trace_of b ≡ back_at (trace_of a) xs
    by [] e s h = absurd (some_left k a.saved ok.0 ok.1 e)
    by (x ∷ xs) e s h = same_trace b x.state (fresh x.state ∷ xs) s (h ∙ ap (λ y. fresh y ∷ xs) s)
traced_mark p a b k (Err x) ok err state saved same =
    ap trace_of same ∙ ap (λ o. by_refusal o (trace_of a) (back_at (trace_of a) (from_mark k a.saved)))
    (number_answer k a.saved (Err x) ok err)

pub steps_mark : (p : Parts) (a : World) (k : ℕ) (r : Result (Unit {0}) Refusal) (m n : ℕ)
    → OnOk r ((1 ≤ k) × (k ≤ length a.saved)) → IfErr r (λ x. (x ≡ NoMark) × ((k < 1) ⊎ (length a.saved < k)))
    → OnOk r (n ≤ m + trails_cost p (length a.saved + 1 - k) a.saved) → OnErr r (n ≤ m)
    → n ≤ m + command_steps p (trace_of a) (command.UndoTo k)
unfolding command_steps
steps_mark p a k (Ok u) m n ok err h same =
    subst (λ o. n ≤ m + by_refusal o 0 (trails_cost p (length a.saved + 1 - k) a.saved))
    (number_answer k a.saved (Ok u) ok err) h
steps_mark p a k (Err x) m n ok err h same = omega (arith, same)

-- a line that says nothing
pub traced_nothing : (p : Parts) (a : World) → trace_of a ≡ traced p (trace_of a) command.Nothing
unfolding traced
traced_nothing p a = refl

-- where nothing is taken or owed more, no more than anything is
pub steps_none : (m n k : ℕ) → n ≤ m → n ≤ m + k
steps_none m n k h = omega (arith, h)

-- where an engine is there, the steps that lines take
pub steps_there : (o : Option World) (w : World) (ls : List (List ℕ)) → o ≡ Some w
    → steps_of o ls ≡ script_steps w.parts (trace_of w) ls
steps_there o w [] e = refl
steps_there o w (line ∷ more) e = ap (λ x. steps_of x (line ∷ more)) e

-- the steps of a line with a reading, and those of the lines after it
pub steps_first : (p : Parts) (t : Trace) (line : List ℕ) (more : List (List ℕ)) (c : Command) → reading line ≡ Ok c
    → script_steps p t (line ∷ more) ≡ command_steps p t c + script_steps p (traced p t c) more
steps_first p t line more c e = ap (λ r. read_steps r (λ d. command_steps p t d + script_steps p (traced p t d) more)) e

-- after an error no step is taken or owed more
pub on_error : {A E : Type 0} (r : Result A E) (m o n q : ℕ) → OnErr r ((n ≡ m) × (q ≡ o)) → OnErr r (n + q ≤ m + o)
on_error (Ok a) m o n q h = tt
on_error (Err e) m o n q h = let a = h.0 in let b = h.1 in omega (arith, a, b)

-- a line that was carried out, and those after it
pub line_spent : (o q : Option World) (w v : World) (line : List ℕ) (more : List (List ℕ)) (c : Command) (m n : ℕ)
    → o ≡ Some w → q ≡ Some v → reading line ≡ Ok c → v.parts ≡ w.parts → trace_of v ≡ traced w.parts (trace_of w) c
    → n ≤ m + command_steps w.parts (trace_of w) c → n + steps_of q more ≤ m + steps_of o (line ∷ more)
line_spent o q w v line more c m n e f r parts next h =
    let all = steps_there o w (line ∷ more) e ∙ steps_first w.parts (trace_of w) line more c r in
    let rest = steps_there q v more f ∙ (λ i. script_steps (parts i) (next i) more) in
    omega (arith, all, rest, h)

pub line_steps : (o : Option World) (w : World) (line : List ℕ) (more : List (List ℕ)) (c : Command) (m n : ℕ)
    → o ≡ Some w → reading line ≡ Ok c → n ≤ m + command_steps w.parts (trace_of w) c → n ≤ m + steps_of o (line ∷ more)
line_steps o w line more c m n e r h =
    let all = steps_there o w (line ∷ more) e ∙ steps_first w.parts (trace_of w) line more c r in
    omega (arith, all, h)

-- a line without a reading
pub unread_spent : {A : Type 0} (line : List ℕ) (f : LineFault) → reading line ≡ Err f → reads line ≡ true → A
unread_spent line f r t = absurd (let g : is_ok (reading line) ≡ false = ap is_ok r in let h : ⊥ = cc in h)

-- what is so anyway is so where nothing failed
pub on_ok : {A E : Type 0} {P : Type 0} (r : Result A E) → P → OnOk r P
on_ok (Ok a) h = h
on_ok (Err e) h = tt

-- a command that asks for something
pub traced_asked : (p : Parts) (t : Trace) (c : Command) → asks c ≡ true → t ≡ traced p t c
unfolding traced
traced_asked p t (command.Ask q) e = refl
traced_asked p t (command.AskAbout s n) e = refl
traced_asked p t (command.Edit x) e = absurd (let g : ⊥ = cc in g)
traced_asked p t command.Begin e = absurd (let g : ⊥ = cc in g)
traced_asked p t command.End e = absurd (let g : ⊥ = cc in g)
traced_asked p t command.Undo e = absurd (let g : ⊥ = cc in g)
traced_asked p t (command.UndoTo k) e = absurd (let g : ⊥ = cc in g)
traced_asked p t command.Nothing e = absurd (let g : ⊥ = cc in g)
