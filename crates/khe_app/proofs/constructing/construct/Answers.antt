-- What was written, or why nothing was.
use Rattle.khe_app.proofs.ConstructEnds.{end_constructed, construct_not_two}
use Rattle.khe_app.proofs.constructing.construct.Goals as goal

pub returns-in-Ok-clause-end : goal.returns-in-Ok-clause-end
returns-in-Ok-clause-end g c =
    end_constructed (g.S.Shelf.holdings c.args.shelf.now) c.args.name.now c.args.number c.args.chains c.in-Ok.answer
    _ _ _ _ _ _ _ c.write_construct.result.0 c.in-Ok.ensures.answer c.write_construct.ensures.written

pub returns-in-Ok-clause-status : goal.returns-in-Ok-clause-status
returns-in-Ok-clause-status g c = construct_not_two c.args.number c.args.chains c.in-Ok.answer _ _ _ _
    c.write_construct.result.0 c.write_construct.ensures.written
