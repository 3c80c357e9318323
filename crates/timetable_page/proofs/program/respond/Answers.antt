-- What was taken from the shelf is what stands under the name.
use Rattle.std.proofs.Common.{inl, refl, rules}
use Rattle.timetable_page.specs.Endings.{IsRefused, IsShown}
use Rattle.archive_reading.specs.declared.refusals.Refusal.TheVariants.{TooLarge}
use Rattle.khe_base.specs.declared.limits.TheConstants.{ARCHIVE_BYTES}
use Rattle.timetable_page.specs.Words.{shows}
use Rattle.timetable_page.proofs.PageLemmas.{stands, stands_above}
use Rattle.timetable_page.proofs.program.respond.Goals as goal

pub returns-in-Ok-clause-shown : goal.returns-in-Ok-clause-shown
returns-in-Ok-clause-shown g c = λ done.
    stands (g.S.Shelf.holdings c.args.shelf.now) c.args.request.now.archive.now c.in-Ok.bytes
    (IsShown (shows c.args.request.now.choice) (g.K.Sink.taken c.args.out.now) (g.K.Sink.taken c.show.new.out)) c.in-Ok.ensures.whole
    (c.show.ensures.shown done)

pub returns-in-Ok-clause-refused : goal.returns-in-Ok-clause-refused
returns-in-Ok-clause-refused g c = λ done.
    stands (g.S.Shelf.holdings c.args.shelf.now) c.args.request.now.archive.now c.in-Ok.bytes
    (IsRefused (g.K.Sink.taken c.args.out.now) (g.K.Sink.taken c.show.new.out)) c.in-Ok.ensures.whole
    (c.show.ensures.refused done)

pub returns-in-Err-TooLarge-clause-refused : goal.returns-in-Err-TooLarge-clause-refused
returns-in-Err-TooLarge-clause-refused g c = λ done.
    stands_above (g.S.Shelf.holdings c.args.shelf.now) c.args.request.now.archive.now ARCHIVE_BYTES
    (IsRefused (g.K.Sink.taken c.args.out.now) (g.K.Sink.taken c.refuse.new.out)) (search rules)
    (λ bytes large. record { refusal = TooLarge; why = inl (large, refl); took = c.refuse.ensures.took done })
