-- What a line of a talk makes of a play, and what it is answered. Of scripts it is what they make and answer; a
-- repair is that of the definitions; and an archive is written with the timetable that stands.
use Rattle.std.specs.Prelude.{ℕ, Result, Ok, Err, List, [], ◌∷◌, codes, encode_utf8_all}
use Rattle.ejection_repair.specs.Repaired.{Repaired, repaired}
use Rattle.edit_script.specs.declared.commands.LineFault.{LineFault}
use Rattle.khe_engine.specs.States.{State}
use Rattle.khe_engine.specs.Values.{totals}
use Rattle.khe_instance.specs.declared.parts.Parts.{Parts}
use Rattle.khe_instance.specs.declared.states.Plain.{Plain}
use Rattle.khe_told.specs.Lists.{meets_in, tasks_in}
use Rattle.repair_run.specs.Lines.{repair_line}
use Rattle.repair_run.specs.Placed.{respelled}
use Rattle.script_run.specs.Answers.{answer}
use Rattle.script_run.specs.Faults.{fault_line}
use Rattle.script_run.specs.Plays.{Play, played}
use Rattle.talk_run.specs.declared.commands.Chains.{Chains}
use Rattle.talk_run.specs.declared.commands.TalkCommand.{TalkCommand}
use Rattle.talk_run.specs.declared.commands.TalkCommand.TheVariants as command
use Rattle.xhstt_shape.specs.declared.records.Archive.{Archive}
use Rattle.xhstt_writer.specs.Archives.{canonical}

-- what repair of a state comes to
abbrev pub repaired_by : Parts → State → Chains → Repaired
repaired_by p s c = repaired p s c.depth c.budget c.diversifier

-- one thing where no mark is open, and another where one is
abbrev pub by_marks : {A : Type 0} → List State → A → A → A
by_marks [] none some = none
by_marks (x ∷ xs) none some = some

abbrev pub open_mark_line : List ℕ
open_mark_line = codes "refused 31 OpenMark\n"

-- the line on a repair, and what the timetable costs that it leaves
abbrev pub line_on : Parts → Repaired → List ℕ
line_on p r = repair_line r.outcome (totals p r.state)

abbrev pub repair_answer : Parts → Play → Chains → List ℕ
repair_answer p w c = by_marks w.saved (line_on p (repaired_by p w.state c)) open_mark_line

-- what a repair makes of a play
abbrev pub repair_played : Parts → Play → Chains → Play
repair_played p w c = by_marks w.saved (record w { state = (repaired_by p w.state c).state }) w

-- the meets and the tasks of a state
abbrev pub listed : State → Plain
listed s = record { meets = meets_in s.slots; tasks = tasks_in s.slots; detached = []; groups = [] }

-- an archive with the timetable of a state in place of the solution with a number
abbrev pub archive_bytes : Archive → ℕ → Parts → State → List ℕ
archive_bytes a number p s = canonical (respelled a number p (listed s))

-- what a command makes of a play
abbrev pub talk_played : Parts → Play → TalkCommand → Play
talk_played p w (command.Base c) = played p w c
talk_played p w (command.Repair c) = repair_played p w c
talk_played p w command.Archive = w

-- the bytes of its answer, by those of the archive with a state's timetable
abbrev pub talk_answer : (State → List ℕ) → Parts → Play → TalkCommand → List ℕ
talk_answer spelled p w (command.Base c) = encode_utf8_all (answer p w c)
talk_answer spelled p w (command.Repair c) = encode_utf8_all (repair_answer p w c)
talk_answer spelled p w command.Archive = spelled w.state

-- what a line makes of a play by its reading: nothing where it has none
abbrev pub turned : Parts → Play → Result TalkCommand LineFault → Play
turned p w (Ok c) = talk_played p w c
turned p w (Err fault) = w

-- the bytes of what the line with a number is answered, by its reading
abbrev pub answered : (State → List ℕ) → Parts → Play → ℕ → Result TalkCommand LineFault → List ℕ
answered spelled p w number (Ok c) = talk_answer spelled p w c
answered spelled p w number (Err fault) = encode_utf8_all (fault_line number fault)
