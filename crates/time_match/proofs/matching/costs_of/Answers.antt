-- The costs are asked in the bare state, inside a mark that is undone.
use Rattle.std.proofs.Common.{subst, sym}
use Rattle.khe_engine.specs.Worlds.{World}
use Rattle.time_match.specs.Marks.{IsInside}
use Rattle.time_match.proofs.TakeLaws.{bared, mark_open, ready_in}
use Rattle.time_match.proofs.matching.costs_of.Goals as goal

pub table-costs-requires-clause-ready : goal.table-costs-requires-clause-ready
table-costs-requires-clause-ready g c =
    let w = c.args.engine.now in
    let b = bared w c.begin.new.engine c.strip.new.engine c.args.tasks.now c.begin.ensures.inside c.begin.ensures.state
    c.strip.ensures.parts c.strip.ensures.state c.strip.ensures.inside in
    ready_in w c.strip.new.engine c.args.resources.now c.args.tasks.now b c.requires.free c.requires.apart

pub take_back-requires : goal.take_back-requires
take_back-requires g c =
    let w = c.args.engine.now in
    mark_open w c.table-costs.new.engine (subst (λ (u : World). IsInside w u) (sym c.table-costs.ensures.same)
    (c.strip.ensures.inside w c.begin.ensures.inside))

pub returns-clause-back : goal.returns-clause-back
returns-clause-back g c =
    let w = c.args.engine.now in
    c.take_back.ensures w (subst (λ (u : World). IsInside w u) (sym c.table-costs.ensures.same)
    (c.strip.ensures.inside w c.begin.ensures.inside))
