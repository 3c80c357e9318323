-- The choice is one, of the costs in the state before.
use Rattle.std.proofs.Common.{◌∙◌}
use Rattle.time_match.specs.Costs.{bare}
use Rattle.time_match.proofs.TakeLaws.{choice_each, choice_range, same_lower}
use Rattle.time_match.proofs.matching.match_lists.Goals as goal

pub take-requires-clause-each : goal.take-requires-clause-each
take-requires-clause-each g c =
    let u = c.reserve.new.self in
    choice_each u.parts (bare u.state c.args.tasks.now) c.args.tasks.now c.args.resources.now
    c.in_ok-choice.choice.cheapest c.as_slice.result.now c.in_ok-choice.ensures.certified c.as_slice.ensures

pub take-requires-clause-range : goal.take-requires-clause-range
take-requires-clause-range g c =
    let u = c.reserve.new.self in
    choice_range u.parts (bare u.state c.args.tasks.now) c.args.tasks.now c.args.resources.now
    c.in_ok-choice.choice.cheapest c.as_slice.result.now c.in_ok-choice.ensures.certified c.as_slice.ensures

pub returns-clause-lower : goal.returns-clause-lower
returns-clause-lower g c =
    let w = c.args.engine.now in
    let v = c.choose.new.engine in
    let back = c.in_ok-choice.ensures.back in
    same_lower w v c.args.resources.now c.args.tasks.now c.as_slice.result.now c.in_ok-choice.choice.cheapest.chosen
    c.take.result (back.parts ∙ c.in_ok-reserve.ensures.parts) (back.state ∙ c.in_ok-reserve.ensures.state)
    c.as_slice.ensures c.take.ensures.lower
