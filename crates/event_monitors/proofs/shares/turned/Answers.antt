use Rattle.std.proofs.Common.{◌≤◌, ◌+◌, ◌-◌, ◌∙◌, ap, arith}
use Rattle.event_monitors.specs.Shares.{given_at, greatest_total}
use Rattle.event_monitors.proofs.Turning.{turned_total}
use Rattle.event_monitors.proofs.shares.turned.Given as given
use Rattle.event_monitors.proofs.shares.turned.Goals as goal

small : (g : given.Over) (c : goal.After-share-later g)
    → c.args.total - c.share-before.result + c.share-later.result ≤ greatest_total
small g c =
    let share = g.S.Share.share in
    let rule = c.constraint.result.now.rule in
    let point = c.args.monitor.point in
    let before = c.share-before.ensures ∙ (λ j. share rule (c.before-2.ensures j)
    ((c.given_of.ensures ∙ ap (given_at point) c.given_before.ensures) j)) in
    let later = c.share-later.ensures ∙ (λ j. share rule (c.after.ensures j)
    ((c.given_of-2.ensures ∙ ap (given_at point) c.given_after.ensures) j)) in
    (turned_total share g.met.S.Share.bounded c.args.inst.now c.args.monitor c.constraint.result.now c.args.told.now
    c.args.turn.now c.args.total c.share-before.result c.share-later.result c.facts.ensures c.requires.turns
    c.requires.monitor c.constraint.ensures c.requires.named c.requires.total before later).small

pub overflow_add-result : goal.overflow_add-result
overflow_add-result g c = let most = small g c in omega (arith, most)

pub returns-clause-small : goal.returns-clause-small
returns-clause-small g c = small g c
