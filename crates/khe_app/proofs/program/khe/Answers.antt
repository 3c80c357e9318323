-- The outcome by tables, and the words of the promise, from the outcome.
use Rattle.std.proofs.Common.{None, Some, inl, map, string_bytes, subst}
use Rattle.command_words.specs.Words.{asked}
use Rattle.khe_app.specs.Ends.{EndedOf}
use Rattle.khe_app.proofs.ByTablesLaws.{ended_by_tables}
use Rattle.khe_app.proofs.PromiseLaws.{no_dearer, outnumber, read_back, run_decided}
use Rattle.khe_app.proofs.WordLaws.{askable}
use Rattle.khe_app.proofs.program.khe.Goals as goal

pub returns-clause-no_dearer : goal.returns-clause-no_dearer
returns-clause-no_dearer g c zero =
    let words = asked (map string_bytes c.args.words.now) in
    let h = g.S.Shelf.holdings c.args.shelf.now in
    let before = g.K.Sink.taken c.args.out.now in
    let after = g.K.Sink.taken c.respond.new.out in
    no_dearer words h before after
    (subst (EndedOf words h before after) zero (c.respond.ensures.end.decided (inl zero)))

pub returns-clause-outnumber : goal.returns-clause-outnumber
returns-clause-outnumber g c ran =
    outnumber (asked (map string_bytes c.args.words.now)) (g.S.Shelf.holdings c.args.shelf.now)
    (g.K.Sink.taken c.args.out.now) (g.K.Sink.taken c.respond.new.out) c.respond.result.0 ran
    (c.respond.ensures.end.decided (run_decided c.respond.result.0 ran))

pub returns-clause-by_tables : goal.returns-clause-by_tables
returns-clause-by_tables g c known =
    ended_by_tables (map string_bytes c.args.words.now) (g.S.Shelf.holdings c.args.shelf.now)
    (g.K.Sink.taken c.args.out.now) (g.K.Sink.taken c.respond.new.out) c.respond.result.0
    (c.respond.ensures.end.decided known)

pub returns-clause-read_back : goal.returns-clause-read_back
returns-clause-read_back g c zero =
    let words = map string_bytes c.args.words.now in
    let h = g.S.Shelf.holdings c.args.shelf.now in
    let before = g.K.Sink.taken c.args.out.now in
    let after = g.K.Sink.taken c.respond.new.out in
    read_back (asked words) h before after (askable words)
    (subst (EndedOf (asked words) h before after) zero (c.respond.ensures.end.decided (inl zero)))
    (λ none. subst (EndedOf (asked words) (Some (λ name. None)) before after) zero
    ((c.respond.ensures.needs_no_shelf none (Some (λ name. None))).decided (inl zero)))
