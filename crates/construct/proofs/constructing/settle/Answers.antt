-- The slots have the places that they had.
use Rattle.std.proofs.Common.{◌<◌, length, ap, sym, subst, arith, ◌∙◌}
use Rattle.std.specs.Prelude.{All}
use Rattle.khe_told.proofs.ValidLaws.{subst2}
use Rattle.khe_told.specs.Fits.{AreTold}
use Rattle.construct.proofs.OrderLaws.{order_within}
use Rattle.construct.proofs.TurnLaws.{all_done, same_many, same_places}
use Rattle.construct.specs.Constructed.{staffed}
use Rattle.construct.specs.Orders.{tasks_of}
use Rattle.construct.proofs.constructing.settle.Goals as goal

pub give_all-requires-clause-slots : goal.give_all-requires-clause-slots
give_all-requires-clause-slots g c =
    let p = c.args.engine.now.parts in
    let s = c.args.engine.now.state in
    let t = c.assign_all.new.engine.state in
    let then_ = subst2 AreTold c.solution.ensures.parts c.solution.ensures.slots c.facts.ensures.told in
    let now = subst2 AreTold (c.solution-2.ensures.parts ∙ c.assign_all.ensures.parts) c.solution-2.ensures.slots
    c.facts-2.ensures.told in
    let many = same_many p t.slots s.slots now then_ in
    let all = subst (All (λ m. m < length s.slots)) (sym c.requires.order) (order_within s.slots) in
    λ k d l. (let low = all k d l in omega (arith, many, low))

pub returns-clause-state : goal.returns-clause-state
returns-clause-state g c =
    let p = c.args.engine.now.parts in
    let s = c.args.engine.now.state in
    let t = c.assign_all.new.engine.state in
    let then_ = subst2 AreTold c.solution.ensures.parts c.solution.ensures.slots c.facts.ensures.told in
    let now = subst2 AreTold (c.solution-2.ensures.parts ∙ c.assign_all.ensures.parts) c.solution-2.ensures.slots
    c.facts-2.ensures.told in
    all_done p s t c.give_all.new.engine.state c.args.meets.now c.requires.order c.assign_all.ensures.state
    (λ m. same_places p t.slots s.slots m now then_)
    (c.give_all.ensures.state ∙ ap (λ q. staffed q t (tasks_of t.slots c.args.meets.now)) c.assign_all.ensures.parts)
