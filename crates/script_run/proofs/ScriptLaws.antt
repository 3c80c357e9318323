-- What an engine that may be away answers, and one line of a script among all.
use Rattle.std.proofs.Common.{ℕ, ◌≡◌, ◌∙◌, ◌+◌, ◌++◌, true, Option, None, Some, Result, Ok, Err, List, [], ◌∷◌, ap, refl, subst, sym}
use Rattle.std.specs.Prelude.{OnErr, if◌then◌else◌, is_ok, is_some}
use Rattle.edit_script.specs.Reading.{reading}
use Rattle.edit_script.specs.declared.commands.Command.{Command}
use Rattle.khe_engine.specs.Worlds.{World}
use Rattle.khe_instance.specs.declared.parts.Parts.{Parts}
use Rattle.khe_io.specs.Amid.{IsAmid}
use Rattle.script_run.specs.Added.{IsAdded, IsCutOff}
use Rattle.script_run.specs.Answers.{answer}
use Rattle.script_run.specs.Faults.{fault_line}
use Rattle.script_run.specs.Plays.{Play, play_of, played}
use Rattle.script_run.specs.Scripts.{answers, answers_of, by_reading, reads}
use Rattle.script_run.proofs.AddedLaws.{amid_added, amid_added_cut, amid_begin}

-- an engine that is there
pub one_there : {A : Type 0} (o : Option A) → is_some o ≡ true → (w : A) × (o ≡ Some w)
one_there None e = absurd (let f : ⊥ = cc in f)
one_there (Some w) e = (w, refl)

-- what is so anyway is so after an error
pub on_err : {A E : Type 0} {P : Type 0} (r : Result A E) → P → OnErr r P
on_err (Ok a) h = tt
on_err (Err e) h = h

-- where it is there, what the engine answers
pub answers_there : (o : Option World) (w : World) (number : ℕ) (ls : List (List ℕ)) → o ≡ Some w
    → answers_of o number ls ≡ answers w.parts (play_of w) number ls
answers_there o w number [] e = refl
answers_there o w number (line ∷ more) e = ap (λ x. answers_of x number (line ∷ more)) e

-- a line with a reading, and those after it
answers_first : (p : Parts) (w : Play) (number : ℕ) (line : List ℕ) (more : List (List ℕ)) (c : Command)
    → reading line ≡ Ok c
    → answers p w number (line ∷ more) ≡ answer p w c ++ answers p (played p w c) (number + 1) more
answers_first p w number line more c e = ap
    (λ r. by_reading r (λ d. answer p w d ++ answers p (played p w d) (number + 1) more) (fault_line number)) e

-- its answer joined what waited, and the others are to come
pub line_answered : (p q : Parts) (w v : Play) (number : ℕ) (line : List ℕ) (more : List (List ℕ)) (c : Command)
    (before now : Option (List ℕ)) (text text2 : List ℕ) → reading line ≡ Ok c → q ≡ p → v ≡ played p w c
    → IsAdded before now text (answer p w c) text2
    → IsAmid before now text2 (if reads line then answers q v (number + 1) more else [])
    (text ++ answers p w number (line ∷ more))
line_answered p q w v number line more c before now text text2 e parts next added =
    let rest = answers p (played p w c) (number + 1) more in
    let left : (if reads line then answers q v (number + 1) more else []) ≡ rest =
    ap (λ r. if is_ok r then answers q v (number + 1) more else []) e
    ∙ (λ i. answers (parts i) (next i) (number + 1) more) in
    subst (λ xs. IsAmid before now text2 xs (text ++ answers p w number (line ∷ more))) (sym left)
    (subst (λ ys. IsAmid before now text2 rest (text ++ ys)) (sym (answers_first p w number line more c e))
    (amid_added before before now text (answer p w c) text2 rest (text ++ (answer p w c ++ rest))
    (amid_begin before text (answer p w c ++ rest)) added))

-- its answer was cut off
pub line_cut : (p : Parts) (w : Play) (number : ℕ) (line : List ℕ) (more : List (List ℕ)) (c : Command)
    (before now : Option (List ℕ)) (text : List ℕ) → reading line ≡ Ok c → IsCutOff before now text (answer p w c)
    → IsCutOff before now text (answers p w number (line ∷ more))
line_cut p w number line more c before now text e cut =
    let rest = answers p (played p w c) (number + 1) more in
    subst (λ ys. IsCutOff before now text ys) (sym (answers_first p w number line more c e))
    (amid_added_cut before before now text (answer p w c) rest (text ++ (answer p w c ++ rest))
    (amid_begin before text (answer p w c ++ rest)) cut)
