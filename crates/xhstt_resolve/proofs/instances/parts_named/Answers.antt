-- What a lookup leads to is that of its own instance.
use Rattle.std.proofs.Common.{◌≡◌, subst, IfOk, IfErr, None}
use Rattle.xhstt_resolve.specs.Answers.{IsFirst}
use Rattle.xhstt_resolve.specs.Limits.{limit_fault}
use Rattle.xhstt_resolve.specs.Parts.{parts_of}
use Rattle.xhstt_resolve.proofs.AnswersLemmas.{as_well}
use Rattle.xhstt_resolve.proofs.instances.parts_named.Goals as goal

pub returns-clause-made : goal.returns-clause-made
returns-clause-made c =
    subst (λ i. IfOk c.parts_within-made.result (λ p. p ≡ parts_of i)) c.in_ok-lookup.ensures.instance
    c.parts_within-made.ensures.made

pub returns-clause-within : goal.returns-clause-within
returns-clause-within c =
    subst (λ i. IfOk c.parts_within-made.result (λ p. limit_fault i ≡ None)) c.in_ok-lookup.ensures.instance
    c.parts_within-made.ensures.within

pub returns-clause-fault : goal.returns-clause-fault
returns-clause-fault c =
    subst (λ i. IfErr c.parts_within-made.result (IsFirst (limit_fault i))) c.in_ok-lookup.ensures.instance
    c.parts_within-made.ensures.fault

pub returns-clause-kept : goal.returns-clause-kept
returns-clause-kept c = as_well c.parts_within-made.result c.in_ok-counts_within.ensures.kept
