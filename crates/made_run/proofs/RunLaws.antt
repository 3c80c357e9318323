-- A whole run, edit by edit, and its line.
use Rattle.std.proofs.Common.{ℕ, ◌≡◌, ◌+◌, ◌*◌, ◌≤◌, ◌<◌, Result, Ok, Err, List, [], ◌∷◌, drop, map, refl, sym, ap}
use Rattle.std.proofs.Common.{subst, ◌∙◌}
use Rattle.std.specs.Prelude.{IfOk}
use Rattle.edit_script.specs.declared.commands.Command.{Command}
use Rattle.archive_generator.specs.Job.{slots}
use Rattle.archive_generator.specs.Made.{state_after}
use Rattle.archive_generator.specs.Names.{below}
use Rattle.archive_generator.specs.Turns.{gathered}
use Rattle.archive_generator.proofs.ListLemmas.{drop_below_end}
use Rattle.khe_engine.specs.Openings.{IsStateOf}
use Rattle.khe_engine.specs.States.{State}
use Rattle.khe_engine.specs.Worlds.{Saved, World}
use Rattle.khe_instance.specs.declared.parts.Parts.{Parts}
use Rattle.khe_instance.specs.declared.states.Plain.{Plain}
use Rattle.made_run.specs.Commands.{commands, drawn_commands, step}
use Rattle.made_run.specs.Courses.{Course, course, course_of, started}
use Rattle.made_run.specs.Lines.{made_line}
use Rattle.made_run.specs.Runs.{IsRunLine}
use Rattle.made_run.specs.declared.running.Counts.{Counts}
use Rattle.made_run.proofs.CourseLaws.{course_append}

-- an engine without marks, of which nothing was counted
pub start_course : (w : World) (n : Counts) → w.saved ≡ [] → n.accepted ≡ 0 → n.refused ≡ 0
    → course_of w n ≡ started w.state
start_course w n none a r =
    λ i. record {
      play = record { state = w.state; saved = map (λ (x : Saved). x.state) (none i) };
      accepted = a i;
      refused = r i;
    }

pub begin_run : (w : World) (n : Counts) (size count x : ℕ) → w.saved ≡ [] → n.accepted ≡ 0 → n.refused ≡ 0
    → course w.parts (course_of w n) (gathered (step size count) (drop 0 (below (10 * size))) x).0
    ≡ course w.parts (started w.state) (drawn_commands size count x)
unfolding drawn_commands
begin_run w n size count x none a r =
    ap (λ (c : Course). course w.parts c (gathered (step size count) (below (10 * size)) x).0)
    (start_course w n none a r)

-- what the commands of one number more make, and then those of the rest
pub next_course : (p : Parts) (f : ℕ → ℕ → List Command × ℕ) (xs : List ℕ) (i a x y : ℕ) (c d whole : Course)
    → drop i xs ≡ a ∷ drop (i + 1) xs → d ≡ course p c (f a x).0 → y ≡ (f a x).1
    → course p c (gathered f (drop i xs) x).0 ≡ whole → course p d (gathered f (drop (i + 1) xs) y).0 ≡ whole
next_course p f xs i a x y c d whole left e g h =
    (λ j. course p (e j) (gathered f (drop (i + 1) xs) (g j)).0)
    ∙ sym (course_append p c (f a x).0 (gathered f (drop (i + 1) xs) (f a x).1).0)
    ∙ subst (λ (ys : List ℕ). course p c (gathered f ys x).0 ≡ whole) left h

pub end_run : (p : Parts) (f : ℕ → ℕ → List Command × ℕ) (n i x : ℕ) (c whole : Course) → n ≤ i
    → course p c (gathered f (drop i (below n)) x).0 ≡ whole → c ≡ whole
end_run p f n i x c whole l h =
    subst (λ (ys : List ℕ). course p c (gathered f ys x).0 ≡ whole) (drop_below_end n i l) h

-- the line on the course that a run took
pub same_line : {E : Type 0} (r : Result (List ℕ) E) (seed size : ℕ) (p q : Parts) (c d : Course) → q ≡ p → d ≡ c
    → IfOk r (λ t. t ≡ made_line seed size q d) → IfOk r (λ t. t ≡ made_line seed size p c)
same_line (Ok t) seed size p q c d e f h = h ∙ (λ i. made_line seed size (e i) (f i))
same_line (Err x) seed size p q c d e f h = tt

pub is_run : {E : Type 0} (r : Result (List ℕ) E) (seed size count x : ℕ) (p q : Parts) (plain : Plain) (s : State)
    → q ≡ p → IsStateOf p plain s → count ≡ slots seed size → x ≡ state_after seed size
    → IfOk r (λ t. t ≡ made_line seed size q (course q (started s) (drawn_commands size count x)))
    → IfOk r (IsRunLine seed size p plain)
unfolding commands
is_run (Ok t) seed size count x p q plain s e is f g h = record {
  state = s;
  is = is;
  line_is = h ∙ (λ i. made_line seed size (e i) (course (e i) (started s) (drawn_commands size (f i) (g i))));
}
is_run (Err y) seed size count x p q plain s e is f g h = tt
