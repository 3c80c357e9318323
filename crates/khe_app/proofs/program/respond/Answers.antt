-- Words without a reading, and those that name no archive.
use Rattle.std.proofs.Common.{None, Some, map, string_bytes, ap, ◌∙◌, refl}
use Rattle.command_words.specs.Requests.{asked_of}
use Rattle.command_words.specs.Words.{asked, making, running}
use Rattle.command_words.specs.declared.words.Request.{Request}
use Rattle.khe_app.proofs.EndsLemmas.{archive_lacked, by_words, no_archive, not_unread}
use Rattle.khe_app.proofs.program.respond.Goals as goal

pub returns-in-None-clause-end : goal.returns-in-None-clause-end
returns-in-None-clause-end g c =
    let h = g.S.Shelf.holdings c.args.shelf.now in
    let sound = g.S.Shelf.is_sound c.args.shelf.now in
    let faults = g.S.Shelf.faults c.args.shelf.now in
    by_words (map string_bytes c.args.words.now) None h sound faults faults (g.K.Sink.taken c.args.out.now)
    (g.K.Sink.taken c.refuse_words.new.out) (g.K.Sink.faults c.args.out.now)
    (g.K.Sink.faults c.refuse_words.new.out) c.refuse_words.result.0 c.in-None.ensures.asked
    (c.refuse_words.ensures.end h sound faults)

pub returns-in-Some-Make-clause-end : goal.returns-in-Some-Make-clause-end
returns-in-Some-Make-clause-end g c =
    let h = g.S.Shelf.holdings c.args.shelf.now in
    let sound = g.S.Shelf.is_sound c.args.shelf.now in
    let faults = g.S.Shelf.faults c.args.shelf.now in
    by_words (map string_bytes c.args.words.now) (Some (making c.in-Some-Make.seed c.in-Some-Make.size)) h sound faults
    faults (g.K.Sink.taken c.args.out.now) (g.K.Sink.taken c.make.new.out) (g.K.Sink.faults c.args.out.now)
    (g.K.Sink.faults c.make.new.out) c.make.result.0
    (c.in-Some-Make.ensures.asked ∙ ap (λ (r : Request). Some (asked_of r)) c.in-Some-Make.field-0-is)
    (c.make.ensures.end h sound faults)

pub returns-in-Some-Run-clause-end : goal.returns-in-Some-Run-clause-end
returns-in-Some-Run-clause-end g c =
    let h = g.S.Shelf.holdings c.args.shelf.now in
    let sound = g.S.Shelf.is_sound c.args.shelf.now in
    let faults = g.S.Shelf.faults c.args.shelf.now in
    by_words (map string_bytes c.args.words.now) (Some (running c.in-Some-Run.seed c.in-Some-Run.size)) h sound faults
    faults (g.K.Sink.taken c.args.out.now) (g.K.Sink.taken c.make_run.new.out) (g.K.Sink.faults c.args.out.now)
    (g.K.Sink.faults c.make_run.new.out) c.make_run.result.0
    (c.in-Some-Run.ensures.asked ∙ ap (λ (r : Request). Some (asked_of r)) c.in-Some-Run.field-0-is)
    (c.make_run.ensures.end h sound faults)

pub returns-in-Some-Evaluate-clause-unread : goal.returns-in-Some-Evaluate-clause-unread
returns-in-Some-Evaluate-clause-unread g c = not_unread (asked (map string_bytes c.args.words.now)) _
    (c.in-Some-Evaluate.ensures.asked ∙ ap (λ (r : Request). Some (asked_of r)) c.in-Some-Evaluate.field-0-is) refl

pub returns-in-Some-Script-clause-unread : goal.returns-in-Some-Script-clause-unread
returns-in-Some-Script-clause-unread g c = not_unread (asked (map string_bytes c.args.words.now)) _
    (c.in-Some-Script.ensures.asked ∙ ap (λ (r : Request). Some (asked_of r)) c.in-Some-Script.field-0-is) refl

pub returns-in-Some-Check-clause-unread : goal.returns-in-Some-Check-clause-unread
returns-in-Some-Check-clause-unread g c = not_unread (asked (map string_bytes c.args.words.now)) _
    (c.in-Some-Check.ensures.asked ∙ ap (λ (r : Request). Some (asked_of r)) c.in-Some-Check.field-0-is) refl

pub returns-in-Some-Repair-clause-unread : goal.returns-in-Some-Repair-clause-unread
returns-in-Some-Repair-clause-unread g c = not_unread (asked (map string_bytes c.args.words.now)) _
    (c.in-Some-Repair.ensures.asked ∙ ap (λ (r : Request). Some (asked_of r)) c.in-Some-Repair.field-0-is) refl

pub returns-in-Some-Solve-clause-unread : goal.returns-in-Some-Solve-clause-unread
returns-in-Some-Solve-clause-unread g c = not_unread (asked (map string_bytes c.args.words.now)) _
    (c.in-Some-Solve.ensures.asked ∙ ap (λ (r : Request). Some (asked_of r)) c.in-Some-Solve.field-0-is) refl

pub returns-in-Some-Match-clause-unread : goal.returns-in-Some-Match-clause-unread
returns-in-Some-Match-clause-unread g c = not_unread (asked (map string_bytes c.args.words.now)) _
    (c.in-Some-Match.ensures.asked ∙ ap (λ (r : Request). Some (asked_of r)) c.in-Some-Match.field-0-is) refl

pub returns-in-Some-Construct-clause-unread : goal.returns-in-Some-Construct-clause-unread
returns-in-Some-Construct-clause-unread g c = not_unread (asked (map string_bytes c.args.words.now)) _
    (c.in-Some-Construct.ensures.asked ∙ ap (λ (r : Request). Some (asked_of r)) c.in-Some-Construct.field-0-is) refl

pub returns-in-Some-Evaluate-clause-absent : goal.returns-in-Some-Evaluate-clause-absent
returns-in-Some-Evaluate-clause-absent g c sound =
    archive_lacked (map string_bytes c.args.words.now) _ c.in-Some-Evaluate.archive.now
    (g.S.Shelf.holdings c.args.shelf.now) c.evaluate.result.0
    (c.in-Some-Evaluate.ensures.asked ∙ ap (λ (r : Request). Some (asked_of r)) c.in-Some-Evaluate.field-0-is) refl
    (c.evaluate.ensures.absent sound)

pub returns-in-Some-Script-clause-absent : goal.returns-in-Some-Script-clause-absent
returns-in-Some-Script-clause-absent g c sound =
    archive_lacked (map string_bytes c.args.words.now) _ c.in-Some-Script.archive.now
    (g.S.Shelf.holdings c.args.shelf.now) c.run_script.result.0
    (c.in-Some-Script.ensures.asked ∙ ap (λ (r : Request). Some (asked_of r)) c.in-Some-Script.field-0-is) refl
    (c.run_script.ensures.absent sound)

pub returns-in-Some-Check-clause-absent : goal.returns-in-Some-Check-clause-absent
returns-in-Some-Check-clause-absent g c sound =
    archive_lacked (map string_bytes c.args.words.now) _ c.in-Some-Check.archive.now
    (g.S.Shelf.holdings c.args.shelf.now) c.check.result.0
    (c.in-Some-Check.ensures.asked ∙ ap (λ (r : Request). Some (asked_of r)) c.in-Some-Check.field-0-is) refl
    (c.check.ensures.absent sound)

pub returns-in-Some-Repair-clause-absent : goal.returns-in-Some-Repair-clause-absent
returns-in-Some-Repair-clause-absent g c sound =
    archive_lacked (map string_bytes c.args.words.now) _ c.in-Some-Repair.archive.now
    (g.S.Shelf.holdings c.args.shelf.now) c.repair.result.0
    (c.in-Some-Repair.ensures.asked ∙ ap (λ (r : Request). Some (asked_of r)) c.in-Some-Repair.field-0-is) refl
    (c.repair.ensures.absent sound)

pub returns-in-Some-Solve-clause-absent : goal.returns-in-Some-Solve-clause-absent
returns-in-Some-Solve-clause-absent g c sound =
    archive_lacked (map string_bytes c.args.words.now) _ c.in-Some-Solve.archive.now
    (g.S.Shelf.holdings c.args.shelf.now) c.solve.result.0
    (c.in-Some-Solve.ensures.asked ∙ ap (λ (r : Request). Some (asked_of r)) c.in-Some-Solve.field-0-is) refl
    (c.solve.ensures.absent sound)

pub returns-in-Some-Match-clause-absent : goal.returns-in-Some-Match-clause-absent
returns-in-Some-Match-clause-absent g c sound =
    archive_lacked (map string_bytes c.args.words.now) _ c.in-Some-Match.archive.now
    (g.S.Shelf.holdings c.args.shelf.now) c.match_tasks.result.0
    (c.in-Some-Match.ensures.asked ∙ ap (λ (r : Request). Some (asked_of r)) c.in-Some-Match.field-0-is) refl
    (c.match_tasks.ensures.absent sound)

pub returns-in-Some-Construct-clause-absent : goal.returns-in-Some-Construct-clause-absent
returns-in-Some-Construct-clause-absent g c sound =
    archive_lacked (map string_bytes c.args.words.now) _ c.in-Some-Construct.archive.now
    (g.S.Shelf.holdings c.args.shelf.now) c.construct.result.0
    (c.in-Some-Construct.ensures.asked ∙ ap (λ (r : Request). Some (asked_of r)) c.in-Some-Construct.field-0-is) refl
    (c.construct.ensures.absent sound)

pub returns-in-Some-Make-clause-absent : goal.returns-in-Some-Make-clause-absent
returns-in-Some-Make-clause-absent g c sound =
    no_archive (map string_bytes c.args.words.now) _ (g.S.Shelf.holdings c.args.shelf.now)
    (c.in-Some-Make.ensures.asked ∙ ap (λ (r : Request). Some (asked_of r)) c.in-Some-Make.field-0-is) refl

pub returns-in-Some-Run-clause-absent : goal.returns-in-Some-Run-clause-absent
returns-in-Some-Run-clause-absent g c sound =
    no_archive (map string_bytes c.args.words.now) _ (g.S.Shelf.holdings c.args.shelf.now)
    (c.in-Some-Run.ensures.asked ∙ ap (λ (r : Request). Some (asked_of r)) c.in-Some-Run.field-0-is) refl

pub returns-in-None-clause-absent : goal.returns-in-None-clause-absent
returns-in-None-clause-absent g c sound =
    no_archive (map string_bytes c.args.words.now) None (g.S.Shelf.holdings c.args.shelf.now) c.in-None.ensures.asked
    refl

pub returns-in-Some-Evaluate-clause-needs_no_shelf : goal.returns-in-Some-Evaluate-clause-needs_no_shelf
returns-in-Some-Evaluate-clause-needs_no_shelf g c = not_unread (asked (map string_bytes c.args.words.now)) _
    (c.in-Some-Evaluate.ensures.asked ∙ ap (λ (r : Request). Some (asked_of r)) c.in-Some-Evaluate.field-0-is) refl

pub returns-in-Some-Script-clause-needs_no_shelf : goal.returns-in-Some-Script-clause-needs_no_shelf
returns-in-Some-Script-clause-needs_no_shelf g c = not_unread (asked (map string_bytes c.args.words.now)) _
    (c.in-Some-Script.ensures.asked ∙ ap (λ (r : Request). Some (asked_of r)) c.in-Some-Script.field-0-is) refl

pub returns-in-Some-Check-clause-needs_no_shelf : goal.returns-in-Some-Check-clause-needs_no_shelf
returns-in-Some-Check-clause-needs_no_shelf g c = not_unread (asked (map string_bytes c.args.words.now)) _
    (c.in-Some-Check.ensures.asked ∙ ap (λ (r : Request). Some (asked_of r)) c.in-Some-Check.field-0-is) refl

pub returns-in-Some-Repair-clause-needs_no_shelf : goal.returns-in-Some-Repair-clause-needs_no_shelf
returns-in-Some-Repair-clause-needs_no_shelf g c = not_unread (asked (map string_bytes c.args.words.now)) _
    (c.in-Some-Repair.ensures.asked ∙ ap (λ (r : Request). Some (asked_of r)) c.in-Some-Repair.field-0-is) refl

pub returns-in-Some-Solve-clause-needs_no_shelf : goal.returns-in-Some-Solve-clause-needs_no_shelf
returns-in-Some-Solve-clause-needs_no_shelf g c = not_unread (asked (map string_bytes c.args.words.now)) _
    (c.in-Some-Solve.ensures.asked ∙ ap (λ (r : Request). Some (asked_of r)) c.in-Some-Solve.field-0-is) refl

pub returns-in-Some-Match-clause-needs_no_shelf : goal.returns-in-Some-Match-clause-needs_no_shelf
returns-in-Some-Match-clause-needs_no_shelf g c = not_unread (asked (map string_bytes c.args.words.now)) _
    (c.in-Some-Match.ensures.asked ∙ ap (λ (r : Request). Some (asked_of r)) c.in-Some-Match.field-0-is) refl

pub returns-in-Some-Construct-clause-needs_no_shelf : goal.returns-in-Some-Construct-clause-needs_no_shelf
returns-in-Some-Construct-clause-needs_no_shelf g c = not_unread (asked (map string_bytes c.args.words.now)) _
    (c.in-Some-Construct.ensures.asked ∙ ap (λ (r : Request). Some (asked_of r)) c.in-Some-Construct.field-0-is) refl

pub returns-in-Some-Make-clause-needs_no_shelf : goal.returns-in-Some-Make-clause-needs_no_shelf
returns-in-Some-Make-clause-needs_no_shelf g c none h =
    let sound = g.S.Shelf.is_sound c.args.shelf.now in
    let faults = g.S.Shelf.faults c.args.shelf.now in
    by_words (map string_bytes c.args.words.now) (Some (making c.in-Some-Make.seed c.in-Some-Make.size)) h sound faults
    faults (g.K.Sink.taken c.args.out.now) (g.K.Sink.taken c.make.new.out) (g.K.Sink.faults c.args.out.now)
    (g.K.Sink.faults c.make.new.out) c.make.result.0
    (c.in-Some-Make.ensures.asked ∙ ap (λ (r : Request). Some (asked_of r)) c.in-Some-Make.field-0-is)
    (c.make.ensures.end h sound faults)

pub returns-in-Some-Run-clause-needs_no_shelf : goal.returns-in-Some-Run-clause-needs_no_shelf
returns-in-Some-Run-clause-needs_no_shelf g c none h =
    let sound = g.S.Shelf.is_sound c.args.shelf.now in
    let faults = g.S.Shelf.faults c.args.shelf.now in
    by_words (map string_bytes c.args.words.now) (Some (running c.in-Some-Run.seed c.in-Some-Run.size)) h sound faults
    faults (g.K.Sink.taken c.args.out.now) (g.K.Sink.taken c.make_run.new.out) (g.K.Sink.faults c.args.out.now)
    (g.K.Sink.faults c.make_run.new.out) c.make_run.result.0
    (c.in-Some-Run.ensures.asked ∙ ap (λ (r : Request). Some (asked_of r)) c.in-Some-Run.field-0-is)
    (c.make_run.ensures.end h sound faults)

pub returns-in-None-clause-needs_no_shelf : goal.returns-in-None-clause-needs_no_shelf
returns-in-None-clause-needs_no_shelf g c none h =
    let sound = g.S.Shelf.is_sound c.args.shelf.now in
    let faults = g.S.Shelf.faults c.args.shelf.now in
    by_words (map string_bytes c.args.words.now) None h sound faults faults (g.K.Sink.taken c.args.out.now)
    (g.K.Sink.taken c.refuse_words.new.out) (g.K.Sink.faults c.args.out.now)
    (g.K.Sink.faults c.refuse_words.new.out) c.refuse_words.result.0 c.in-None.ensures.asked
    (c.refuse_words.ensures.end h sound faults)
