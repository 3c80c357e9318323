-- What was written, or why nothing was.
use Rattle.khe_app.proofs.MatchEnds.{end_matched, match_not_two}
use Rattle.khe_app.proofs.matching.match_tasks.Goals as goal

pub returns-in-Ok-clause-end : goal.returns-in-Ok-clause-end
returns-in-Ok-clause-end g c =
    end_matched (g.S.Shelf.holdings c.args.shelf.now) c.args.name.now c.args.wanted.solution c.args.wanted.time
    c.args.wanted.rtype
    c.in-Ok.answer _ _ _ _ _ _ _ c.write_match.result.0 c.in-Ok.ensures.answer c.write_match.ensures.written

pub returns-in-Ok-clause-status : goal.returns-in-Ok-clause-status
returns-in-Ok-clause-status g c = match_not_two c.args.wanted.solution c.args.wanted.time c.args.wanted.rtype
    c.in-Ok.answer _ _ _ _ c.write_match.result.0 c.write_match.ensures.written
