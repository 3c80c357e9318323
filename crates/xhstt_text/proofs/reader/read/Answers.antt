use Rattle.std.proofs.Common.{◌∙◌}
use Rattle.xhstt_text.specs.Machine.{late, outcome_of}
use Rattle.xhstt_text.proofs.Follow.{fails_with, passes_on}
use Rattle.xhstt_text.proofs.FollowOutside.{more_after, at_text_end, some_left, none_left}
use Rattle.xhstt_text.proofs.reader.read.Goals as goal

pub returns-in_err-end-clause-exact : goal.returns-in_err-end-clause-exact
returns-in_err-end-clause-exact c =
    let t = c.in_ok-table.table in
    passes_on c.from_residual-in_err-end.result c.in_err-end.field-0.0 (outcome_of c.args.bytes.now) _ _
    c.from_residual-in_err-end.ensures.1 c.in_ok-table.ensures
    (c.in_err-end.ensures.leads late t.nodes.items t.attributes.items)

pub returns-then-not-is_empty-clause-exact : goal.returns-then-not-is_empty-clause-exact
returns-then-not-is_empty-clause-exact c =
    let t = c.in_ok-table.table in
    let e = c.in_ok-end.end in
    fails_with c.trailing.result _ _ c.trailing.ensures
    (more_after t.nodes.items t.attributes.items (outcome_of c.args.bytes.now) e.at e.rest.now
    (c.in_ok-table.ensures ∙ c.in_ok-end.ensures.leads late t.nodes.items t.attributes.items)
    c.in_ok-end.ensures.stops (some_left _ _ c.is_empty.ensures c.if-not-is_empty.true))

pub returns-clause-exact : goal.returns-clause-exact
returns-clause-exact c =
    let t = c.in_ok-table.table in
    let e = c.in_ok-end.end in
    at_text_end t.nodes.items t.attributes.items (outcome_of c.args.bytes.now) e.at e.rest.now
    (c.in_ok-table.ensures ∙ c.in_ok-end.ensures.leads late t.nodes.items t.attributes.items)
    (none_left _ _ c.is_empty.ensures c.if-not-is_empty.false)
