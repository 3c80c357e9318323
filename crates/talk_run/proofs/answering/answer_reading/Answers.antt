-- The answer is that of the reading.
use Rattle.std.proofs.Common.{◌≡◌, ◌++◌, ◌∙◌, Ok, Result, ap, subst}
use Rattle.edit_script.specs.declared.commands.LineFault.{LineFault}
use Rattle.script_run.specs.Answers.{answer}
use Rattle.script_run.specs.Faults.{fault_line}
use Rattle.script_run.specs.Plays.{play_of}
use Rattle.talk_run.specs.Answers.{answered, archive_bytes, repair_answer}
use Rattle.talk_run.specs.Between.{IsBetween}
use Rattle.talk_run.specs.declared.commands.TalkCommand.{TalkCommand}
use Rattle.talk_run.specs.declared.commands.TalkCommand.TheVariants as command
use Rattle.talk_run.proofs.BetweenLemmas.{between_pushed}
use Rattle.talk_run.proofs.answering.answer_reading.Goals as goal

pub returns-in-Ok-Archive-clause-front : goal.returns-in-Ok-Archive-clause-front
returns-in-Ok-Archive-clause-front g c = λ before rest whole h.
    let s = c.args.speaker.now in
    let p = s.engine.parts in
    let told : c.in-Ok-Archive.field-0 ≡ command.Archive = rw c.in-Ok-Archive.is at c.in-Ok-Archive.field-0-is in
    let is = c.in-Ok-Archive.is ∙ ap Ok told in
    c.put_archive.ensures.front before rest whole
    (subst (λ (r : Result TalkCommand LineFault). IsBetween before (g.K.Sink.taken c.args.out.now) c.args.text.now
    (answered (archive_bytes s.archive s.solution p) p (play_of s.engine) c.args.number r ++ rest) whole) is h)

pub returns-in_ok-answer_command-in-Ok-Base-clause-answered : goal.returns-in_ok-answer_command-in-Ok-Base-clause-answered
returns-in_ok-answer_command-in-Ok-Base-clause-answered g c = λ before rest whole h.
    let s = c.args.speaker.now in
    let p = s.engine.parts in
    let w = play_of s.engine in
    let told : c.in-Ok-Base.field-0 ≡ command.Base c.in-Ok-Base.command = rw c.in-Ok-Base.is at c.in-Ok-Base.field-0-is in
    let is = c.in-Ok-Base.is ∙ ap Ok told in
    between_pushed before (g.K.Sink.taken c.args.out.now) c.args.text.now c.answer_command.new.text
    (answer p w c.in-Ok-Base.command)
    (answered (archive_bytes s.archive s.solution p) p w c.args.number c.args.reading) rest whole
    (ap (answered (archive_bytes s.archive s.solution p) p w c.args.number) is)
    c.in_ok-answer_command-in-Ok-Base.ensures.text h

pub returns-in_ok-answer_repair-in-Ok-Repair-clause-answered : goal.returns-in_ok-answer_repair-in-Ok-Repair-clause-answered
returns-in_ok-answer_repair-in-Ok-Repair-clause-answered g c = λ before rest whole h.
    let s = c.args.speaker.now in
    let p = s.engine.parts in
    let w = play_of s.engine in
    let told : c.in-Ok-Repair.field-0 ≡ command.Repair c.in-Ok-Repair.chains = rw c.in-Ok-Repair.is at c.in-Ok-Repair.field-0-is in
    let is = c.in-Ok-Repair.is ∙ ap Ok told in
    between_pushed before (g.K.Sink.taken c.args.out.now) c.args.text.now c.answer_repair.new.text
    (repair_answer p w c.in-Ok-Repair.chains)
    (answered (archive_bytes s.archive s.solution p) p w c.args.number c.args.reading) rest whole
    (ap (answered (archive_bytes s.archive s.solution p) p w c.args.number) is)
    c.in_ok-answer_repair-in-Ok-Repair.ensures.text h

pub returns-in_ok-push_fault-in-Err-clause-answered : goal.returns-in_ok-push_fault-in-Err-clause-answered
returns-in_ok-push_fault-in-Err-clause-answered g c = λ before rest whole h.
    let s = c.args.speaker.now in
    let p = s.engine.parts in
    let w = play_of s.engine in
    let is = c.in-Err.is in
    between_pushed before (g.K.Sink.taken c.args.out.now) c.args.text.now c.push_fault.new.text
    (fault_line c.args.number c.in-Err.fault)
    (answered (archive_bytes s.archive s.solution p) p w c.args.number c.args.reading) rest whole
    (ap (answered (archive_bytes s.archive s.solution p) p w c.args.number) is)
    c.in_ok-push_fault-in-Err.ensures h
