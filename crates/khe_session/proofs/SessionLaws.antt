-- The answers of a session are those of a talk, whatever timetable the archive has that it keeps.
use Rattle.std.proofs.Common.{ℕ, ◌≡◌, ◌+◌, true, Result, Ok, Err, List, [], ◌∷◌, ap, refl, sym, ◌∙◌, encode_utf8_all}
use Rattle.std.specs.List.{flat_map}
use Rattle.edit_script.specs.Lines.{lines}
use Rattle.edit_script.specs.declared.commands.LineFault.{LineFault}
use Rattle.khe_engine.specs.States.{State}
use Rattle.khe_instance.specs.declared.parts.Parts.{Parts}
use Rattle.script_run.specs.Plays.{Play}
use Rattle.script_run.specs.Scripts.{answers, is_script, script_text}
use Rattle.talk_run.specs.Answers.{answered, archive_bytes, listed}
use Rattle.talk_run.specs.Lines.{talk_reading}
use Rattle.talk_run.specs.Talks.{talk_answers}
use Rattle.talk_run.specs.declared.commands.TalkCommand.{TalkCommand}
use Rattle.talk_run.specs.declared.commands.TalkCommand.TheVariants as command
use Rattle.talk_run.proofs.ScriptLaw.{as_script}
use Rattle.talk_run.proofs.SentLaws.{respelled_twice}
use Rattle.xhstt_shape.specs.declared.records.Archive.{Archive}
use Rattle.xhstt_writer.specs.Archives.{canonical}
use Rattle.khe_session.specs.States.{SessionState, answer_to, answers_to, blank, lined, nothing}

pub as_talk : (s : SessionState) (ls : List (List ℕ))
    → answers_to s ls ≡ talk_answers (archive_bytes s.archive s.solution s.parts) s.parts s.play (s.lines + 1) ls
as_talk s [] = refl
as_talk s (line ∷ more) = ap (λ xs. answer_to s line ∷ xs) (as_talk (lined s line) more)

pub as_script_whole : (s : SessionState) (script : List ℕ) → s.lines ≡ 0 → is_script script ≡ true
    → flat_map (λ bytes. bytes) (answers_to s (lines script)) ≡ encode_utf8_all (script_text s.parts s.play script)
as_script_whole s script first read =
    ap (flat_map (λ bytes. bytes)) (as_talk s (lines script))
    ∙ sym (as_script (archive_bytes s.archive s.solution s.parts) s.parts s.play (s.lines + 1) (lines script) read)
    ∙ ap (λ n. encode_utf8_all (answers s.parts s.play (n + 1) (lines script))) first

-- with any timetable in place of the solution it is the same archive
pub spelled_as : (a : Archive) (number : ℕ) (p : Parts) (t : State)
    → archive_bytes (blank a number p) number p t ≡ archive_bytes a number p t
spelled_as a number p t = ap canonical (respelled_twice a number p nothing p (listed t))

-- an answer, where the archive is written in the same way
answered_alike : (one other : State → List ℕ) (p : Parts) (w : Play) (number : ℕ) (r : Result TalkCommand LineFault)
    → ((t : State) → one t ≡ other t) → answered one p w number r ≡ answered other p w number r
answered_alike one other p w number (Ok (command.Base c)) same = refl
answered_alike one other p w number (Ok (command.Repair c)) same = refl
answered_alike one other p w number (Ok command.Archive) same = same w.state
answered_alike one other p w number (Err fault) same = refl

pub answered_as : (a : Archive) (k : ℕ) (p : Parts) (w : Play) (number : ℕ) (line : List ℕ)
    → answered (archive_bytes a k p) p w number (talk_reading line)
    ≡ answered (archive_bytes (blank a k p) k p) p w number (talk_reading line)
answered_as a k p w number line =
    answered_alike (archive_bytes a k p) (archive_bytes (blank a k p) k p) p w number (talk_reading line)
    (λ t. sym (spelled_as a k p t))
