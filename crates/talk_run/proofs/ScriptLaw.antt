-- The answers of a talk to lines of scripts are those of scripts.
use Rattle.std.proofs.Common.{ℕ, ◌≡◌, ◌+◌, ◌&&◌, Bool, true, false, Result, Ok, Err, List, [], ◌∷◌, ◌++◌, is_ok, refl, sym, ap, ◌∙◌}
use Rattle.std.proofs.Common.{encode_utf8_all}
use Rattle.std.specs.List.{flat_map, list_all}
use Rattle.std.proofs.lemmas.Str.{encodes-append}
use Rattle.edit_script.specs.Reading.{reading}
use Rattle.edit_script.specs.Words.{words}
use Rattle.edit_script.specs.declared.commands.Command.{Command}
use Rattle.edit_script.specs.declared.commands.LineFault.{LineFault}
use Rattle.khe_engine.specs.States.{State}
use Rattle.khe_instance.specs.declared.parts.Parts.{Parts}
use Rattle.script_run.specs.Answers.{answer}
use Rattle.script_run.specs.Faults.{fault_line}
use Rattle.script_run.specs.Plays.{Play, played}
use Rattle.script_run.specs.Scripts.{answers, by_reading, is_read}
use Rattle.talk_run.specs.Answers.{answered, turned}
use Rattle.talk_run.specs.Lines.{talk_reading, with_more}
use Rattle.talk_run.specs.Talks.{talk_answers, talk_bytes, ended}
use Rattle.talk_run.specs.declared.commands.TalkCommand.{TalkCommand}
use Rattle.talk_run.specs.declared.commands.TalkCommand.TheVariants as command

-- a line of a script says in a talk what it says there
base-read : (line : List ℕ) (c : Command) → reading line ≡ Ok c → talk_reading line ≡ Ok (command.Base c)
unfolding talk_reading
base-read line c e = ap (λ r. with_more r (words line)) e

and-both : (a b : Bool) → (a && b) ≡ true → (a ≡ true) × (b ≡ true)
and-both true b e = (refl, e)
and-both false b e = absurd (let g : ⊥ = cc in g)

-- the first line by its reading
next : (spelled : State → List ℕ) (p : Parts) (w : Play) (number : ℕ) (line : List ℕ) (more : List (List ℕ))
    (r : Result Command LineFault) → reading line ≡ r → is_ok r ≡ true
    → ((v : Play) → encode_utf8_all (answers p v (number + 1) more)
    ≡ flat_map (λ bytes. bytes) (talk_answers spelled p v (number + 1) more))
    → encode_utf8_all (answers p w number (line ∷ more))
    ≡ flat_map (λ bytes. bytes) (talk_answers spelled p w number (line ∷ more))
next spelled p w number line more (Err fault) e ok rest = absurd (let g : ⊥ = cc in g)
next spelled p w number line more (Ok c) e ok rest =
    ap (λ r. encode_utf8_all (by_reading r (λ x. answer p w x ++ answers p (played p w x) (number + 1) more)
    (fault_line number))) e
    ∙ encodes-append (answer p w c) (answers p (played p w c) (number + 1) more)
    ∙ ap (λ xs. encode_utf8_all (answer p w c) ++ xs) (rest (played p w c))
    ∙ sym (ap (λ r. answered spelled p w number r ++ flat_map (λ bytes. bytes)
    (talk_answers spelled p (turned p w r) (number + 1) more)) (base-read line c e))

pub as_script : (spelled : State → List ℕ) (p : Parts) (w : Play) (number : ℕ) (ls : List (List ℕ)) → is_read ls ≡ true
    → encode_utf8_all (answers p w number ls) ≡ flat_map (λ bytes. bytes) (talk_answers spelled p w number ls)
as_script spelled p w number [] e = refl
as_script spelled p w number (line ∷ more) e =
    let read = and-both (is_ok (reading line)) (is_read more) e in
    next spelled p w number line more (reading line) refl read.0 (λ v. as_script spelled p v (number + 1) more read.1)

-- where the archive is written in the same way the answers are the same
pub spelled_alike : (one other : State → List ℕ) (p : Parts) (w : Play) (number : ℕ) (ls : List (List ℕ))
    → ((s : State) → one s ≡ other s) → talk_bytes one p w number ls ≡ talk_bytes other p w number ls
spelled_alike one other p w number [] same = refl
spelled_alike one other p w number (line ∷ more) same =
    ap (λ bytes. ended bytes ++ talk_bytes one p (turned p w (talk_reading line)) (number + 1) more)
    (first (talk_reading line))
    ∙ ap (λ bytes. ended (answered other p w number (talk_reading line)) ++ bytes)
    (spelled_alike one other p (turned p w (talk_reading line)) (number + 1) more same)
  where
    first : (r : Result TalkCommand LineFault) → answered one p w number r ≡ answered other p w number r
    first (Ok (command.Base c)) = refl
    first (Ok (command.Repair c)) = refl
    first (Ok command.Archive) = same w.state
    first (Err fault) = refl
