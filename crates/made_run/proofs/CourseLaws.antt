-- What the calls of an engine make of a course.
use Rattle.std.proofs.Common.{ℕ, ◌≡◌, ◌+◌, ◌%◌, ◌==◌, Bool, true, false, Option, Some, None, Result, Err, List, [], ◌∷◌}
use Rattle.std.proofs.Common.{◌++◌, refl, sym, ap, ◌∙◌}
use Rattle.std.specs.Prelude.{if◌then◌else◌, ◌↔◌, OnOk, OnErr, IfErr, length}
use Rattle.khe_base.specs.declared.limits.TheConstants.{MARKS}
use Rattle.khe_instance.specs.declared.parts.Parts.{Parts}
use Rattle.khe_told.specs.declared.changes.Change.{Change}
use Rattle.khe_told.specs.declared.edits.Edit.{Edit}
use Rattle.khe_told.specs.declared.refusals.Refusal.{Refusal}
use Rattle.khe_told.specs.declared.refusals.Refusal.TheVariants.{NoMark, MarksFull}
use Rattle.khe_engine.specs.States.{edited, refusal}
use Rattle.khe_engine.specs.Worlds.{Saved, World, IsFaultOf, closed, fresh, grown}
use Rattle.khe_engine.specs.declared.faults.EditFault.{EditFault}
use Rattle.khe_engine.specs.declared.faults.EditFault.TheVariants.{Refused}
use Rattle.edit_script.specs.declared.commands.Command.{Command}
use Rattle.edit_script.specs.declared.commands.Command.TheVariants as command
use Rattle.script_run.specs.Plays.{Play, play_of, played}
use Rattle.script_run.proofs.PlayLaws.{played_begin, played_edit, played_end, played_refused, played_undo}
use Rattle.made_run.specs.Commands as spec
use Rattle.made_run.specs.Courses.{Course, after, counted, course, course_of}
use Rattle.made_run.specs.declared.running.Counts.{Counts}

-- one list of commands after another
pub course_append : (p : Parts) (c : Course) (xs ys : List Command)
    → course p c (xs ++ ys) ≡ course p (course p c xs) ys
course_append p c [] ys = refl
course_append p c (x ∷ xs) ys = course_append p (after p c x) xs ys

-- the marks by the number of an edit
pub begins_one : (p : Parts) (c d : Course) (n : ℕ) → (n % 10 == 0) ≡ true → d ≡ after p c command.Begin
    → d ≡ course p c (spec.begins n)
begins_one p c d n t e = e ∙ ap (λ (b : Bool). course p c (if b then command.Begin ∷ [] else [])) (sym t)

pub begins_none : (p : Parts) (c : Course) (n : ℕ) → (n % 10 == 0) ≡ false → c ≡ course p c (spec.begins n)
begins_none p c n t = ap (λ (b : Bool). course p c (if b then command.Begin ∷ [] else [])) (sym t)

pub undoes_one : (p : Parts) (c d : Course) (n : ℕ) → (n % 20 == 9) ≡ true → d ≡ after p c command.Undo
    → d ≡ course p c (spec.undoes n)
undoes_one p c d n t e = e ∙ ap (λ (b : Bool). course p c (if b then command.Undo ∷ [] else [])) (sym t)

pub undoes_none : (p : Parts) (c : Course) (n : ℕ) → (n % 20 == 9) ≡ false → c ≡ course p c (spec.undoes n)
undoes_none p c n t = ap (λ (b : Bool). course p c (if b then command.Undo ∷ [] else [])) (sym t)

pub ends_one : (p : Parts) (c d : Course) (n : ℕ) → (n % 10 == 9) ≡ true → d ≡ after p c command.End
    → d ≡ course p c (spec.ends n)
ends_one p c d n t e = e ∙ ap (λ (b : Bool). course p c (if b then command.End ∷ [] else [])) (sym t)

pub ends_none : (p : Parts) (c : Course) (n : ℕ) → (n % 10 == 9) ≡ false → c ≡ course p c (spec.ends n)
ends_none p c n t = ap (λ (b : Bool). course p c (if b then command.End ∷ [] else [])) (sym t)

-- a play with what was counted before
abbrev with_counts : Counts → Play → Course
with_counts n w = record { play = w; accepted = n.accepted; refused = n.refused }

pub begin_course : (p : Parts) (a b : World) (r : Result (Unit {0}) Refusal) (n : Counts)
    → ((r ≡ Err MarksFull) ↔ (length a.saved ≡ MARKS)) → IfErr r (λ x. x ≡ MarksFull)
    → b.state ≡ a.state → OnOk r (b.saved ≡ fresh a.state ∷ a.saved) → OnErr r (b.saved ≡ a.saved)
    → course_of b n ≡ after p (course_of a n) command.Begin
unfolding after
begin_course p a b r n full only s ok err = ap (with_counts n) (played_begin p a b r full only s ok err)

pub undo_course : (p : Parts) (a b : World) (r : Result (Unit {0}) Refusal) (n : Counts)
    → ((r ≡ Err NoMark) ↔ (a.saved ≡ [])) → IfErr r (λ x. x ≡ NoMark)
    → OnOk r ((x : Saved) (xs : List Saved) → a.saved ≡ x ∷ xs → (b.state ≡ x.state) × (b.saved ≡ fresh x.state ∷ xs))
    → OnErr r (b ≡ a) → course_of b n ≡ after p (course_of a n) command.Undo
unfolding after
undo_course p a b r n none only ok err = ap (with_counts n) (played_undo p a b r none only ok err)

pub end_course : (p : Parts) (a b : World) (n : Counts) → b.state ≡ a.state → b.saved ≡ closed a.saved
    → course_of b n ≡ after p (course_of a n) command.End
unfolding after
end_course p a b n s e = ap (with_counts n) (played_end p a b s e)

-- an edit that is accepted, and one that is refused
pub accepted_course : (p : Parts) (a b : World) (e : Edit) (cs : List Change) (n m : Counts)
    → refusal p a.state e ≡ None → b.state ≡ edited a.state e → b.saved ≡ grown cs a.saved
    → m.accepted ≡ n.accepted + 1 → m.refused ≡ n.refused
    → course_of b m ≡ after p (course_of a n) (command.Edit e)
unfolding after
accepted_course p a b e cs n m r s g more same =
    (λ i. record { play = played_edit p a b e cs r s g i; accepted = more i; refused = same i })
    ∙ ap (λ (o : Option Refusal). counted o (played p (play_of a) (command.Edit e)) (course_of a n)) (sym r)

pub refused_course : (p : Parts) (a b : World) (e : Edit) (x : Refusal) (n m : Counts)
    → refusal p a.state e ≡ Some x → b.state ≡ a.state → b.saved ≡ a.saved
    → m.accepted ≡ n.accepted → m.refused ≡ n.refused + 1
    → course_of b m ≡ after p (course_of a n) (command.Edit e)
unfolding after
refused_course p a b e x n m r s g same more =
    (λ i. record { play = played_refused p a b e x r s g i; accepted = same i; refused = more i })
    ∙ ap (λ (o : Option Refusal). counted o (played p (play_of a) (command.Edit e)) (course_of a n)) (sym r)

-- why an edit was not made, where it was refused
pub fault_refused : (o : Option Refusal) (f : EditFault) (x : Refusal) → IsFaultOf o f → f ≡ Refused x → o ≡ Some x
fault_refused (Some r) f x h e = let same : r ≡ x = cc in ap Some same
fault_refused None f x h e = let apart : ⊥ = cc in absurd apart

-- an edit with the marks before and after it
around_course : (p : Parts) (c : Course) (n : ℕ) (e : Edit)
    → course p (course p (after p (course p c (spec.begins n)) (command.Edit e)) (spec.undoes n)) (spec.ends n)
    ≡ course p c (spec.around n e)
around_course p c n e =
    let b = course p c (spec.begins n) in
    sym (course_append p (after p b (command.Edit e)) (spec.undoes n) (spec.ends n))
    ∙ sym (course_append p c (spec.begins n) (command.Edit e ∷ (spec.undoes n ++ spec.ends n)))

pub step_course : (p p1 p2 p3 : Parts) (size count n x : ℕ) (e : Edit) (c c1 c2 c3 c4 : Course)
    → p1 ≡ p → p2 ≡ p1 → p3 ≡ p2 → e ≡ (spec.edit size count x).0
    → c1 ≡ course p c (spec.begins n) → c2 ≡ after p1 c1 (command.Edit e) → c3 ≡ course p2 c2 (spec.undoes n)
    → c4 ≡ course p3 c3 (spec.ends n) → c4 ≡ course p c (spec.step size count n x).0
unfolding spec.step
step_course p p1 p2 p3 size count n x e c c1 c2 c3 c4 q1 q2 q3 drawn first edit undone ended =
    let r2 : p2 ≡ p = q2 ∙ q1 in
    let r3 : p3 ≡ p = q3 ∙ r2 in
    let h2 : c2 ≡ after p (course p c (spec.begins n)) (command.Edit e) =
    edit ∙ (λ i. after (q1 i) (first i) (command.Edit e)) in
    let h3 : c3 ≡ course p (after p (course p c (spec.begins n)) (command.Edit e)) (spec.undoes n) =
    undone ∙ (λ i. course (r2 i) (h2 i) (spec.undoes n)) in
    ended ∙ (λ i. course (r3 i) (h3 i) (spec.ends n)) ∙ around_course p c n e
    ∙ ap (λ (y : Edit). course p c (spec.around n y)) drawn
