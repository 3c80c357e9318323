-- What is listed is the constructed state.
use Rattle.std.proofs.Common.{ap, ◌∙◌}
use Rattle.khe_engine.specs.Openings.{IsStateOf}
use Rattle.khe_engine.specs.States.{State}
use Rattle.khe_engine.specs.Values.{totals}
use Rattle.khe_instance.specs.declared.parts.Parts.{Parts}
use Rattle.khe_told.proofs.ValidLaws.{subst2}
use Rattle.construct.specs.Orders.{order}
use Rattle.construct.proofs.constructing.build.Goals as goal

pub settle-requires-clause-order : goal.settle-requires-clause-order
settle-requires-clause-order g c =
    c.as_slice.ensures.value ∙ c.in_ok-meets.ensures.order ∙ ap order c.solution.ensures.slots

pub returns-clause-listed : goal.returns-clause-listed
returns-clause-listed g c =
    subst2 (λ (p : Parts) (s : State). IsStateOf p c.in_ok-plain.field-0 s) c.settle.ensures.parts
    c.settle.ensures.state c.in_ok-plain.ensures.state

pub returns-clause-totals : goal.returns-clause-totals
returns-clause-totals g c =
    c.totals.ensures ∙ (λ i. totals (c.settle.ensures.parts i) (c.settle.ensures.state i))
