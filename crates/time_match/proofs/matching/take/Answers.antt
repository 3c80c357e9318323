-- The tasks are stripped and given what the choice gives them inside a mark, which is closed or undone.
use Rattle.std.proofs.Common.{true, false}
use Rattle.time_match.proofs.TakeLaws.{bared, lower_in, mark_open, ready_in}
use Rattle.time_match.proofs.matching.take.Goals as goal

pub give-requires-clause-ready : goal.give-requires-clause-ready
give-requires-clause-ready g c =
    let w = c.args.engine.now in
    let b = bared w c.begin.new.engine c.strip.new.engine c.args.tasks.now c.begin.ensures.inside c.begin.ensures.state
    c.strip.ensures.parts c.strip.ensures.state c.strip.ensures.inside in
    ready_in w c.strip.new.engine c.args.resources.now c.args.tasks.now b c.requires.free c.requires.apart

pub keep-requires : goal.keep-requires
keep-requires g c =
    let w = c.args.engine.now in
    mark_open w c.give.new.engine (c.give.ensures.inside w (c.strip.ensures.inside w c.begin.ensures.inside))

pub take_back-requires : goal.take_back-requires
take_back-requires g c =
    let w = c.args.engine.now in
    mark_open w c.give.new.engine (c.give.ensures.inside w (c.strip.ensures.inside w c.begin.ensures.inside))

pub returns-then-is_lower-clause-lower : goal.returns-then-is_lower-clause-lower
returns-then-is_lower-clause-lower g c =
    let w = c.args.engine.now in
    let b = bared w c.begin.new.engine c.strip.new.engine c.args.tasks.now c.begin.ensures.inside c.begin.ensures.state
    c.strip.ensures.parts c.strip.ensures.state c.strip.ensures.inside in
    lower_in w c.strip.new.engine c.give.new.engine c.args.resources.now c.args.tasks.now c.args.choice.now
    c.totals.result c.totals-before.result c.is_lower.result true b c.give.ensures.parts c.give.ensures.state
    c.totals.ensures c.totals-before.ensures c.is_lower.ensures c.if-is_lower.true

pub returns-else-is_lower-clause-lower : goal.returns-else-is_lower-clause-lower
returns-else-is_lower-clause-lower g c =
    let w = c.args.engine.now in
    let b = bared w c.begin.new.engine c.strip.new.engine c.args.tasks.now c.begin.ensures.inside c.begin.ensures.state
    c.strip.ensures.parts c.strip.ensures.state c.strip.ensures.inside in
    lower_in w c.strip.new.engine c.give.new.engine c.args.resources.now c.args.tasks.now c.args.choice.now
    c.totals.result c.totals-before.result c.is_lower.result false b c.give.ensures.parts c.give.ensures.state
    c.totals.ensures c.totals-before.ensures c.is_lower.ensures c.if-is_lower.false

pub returns-then-is_lower-clause-saved : goal.returns-then-is_lower-clause-saved
returns-then-is_lower-clause-saved g c =
    let w = c.args.engine.now in
    c.keep.ensures.saved w (c.give.ensures.inside w (c.strip.ensures.inside w c.begin.ensures.inside))

pub returns-else-is_lower-clause-state : goal.returns-else-is_lower-clause-state
returns-else-is_lower-clause-state g c =
    let w = c.args.engine.now in
    (c.take_back.ensures w (c.give.ensures.inside w (c.strip.ensures.inside w c.begin.ensures.inside))).state

pub returns-else-is_lower-clause-parts : goal.returns-else-is_lower-clause-parts
returns-else-is_lower-clause-parts g c =
    let w = c.args.engine.now in
    (c.take_back.ensures w (c.give.ensures.inside w (c.strip.ensures.inside w c.begin.ensures.inside))).parts

pub returns-else-is_lower-clause-saved : goal.returns-else-is_lower-clause-saved
returns-else-is_lower-clause-saved g c =
    let w = c.args.engine.now in
    (c.take_back.ensures w (c.give.ensures.inside w (c.strip.ensures.inside w c.begin.ensures.inside))).saved
