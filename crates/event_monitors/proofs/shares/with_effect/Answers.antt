use Rattle.std.proofs.Common.{◌∙◌, false, ap, sym}
use Rattle.std.specs.Option.{option_map_or}
use Rattle.khe_instance.specs.Watching.{names_event}
use Rattle.khe_instance.specs.declared.rules.Constraint.{Constraint}
use Rattle.event_monitors.specs.Shares.{given_at}
use Rattle.event_monitors.proofs.Turning.{turned_total}
use Rattle.event_monitors.proofs.shares.with_effect.Goals as goal

pub returns-clause-small : goal.returns-clause-small
returns-clause-small g c =
    let p = c.args.inst.now in
    let share = g.S.Share.share in
    let rule = c.args.constraint.now.rule in
    let point = c.args.monitor.point in
    let t = c.args.effect.now in
    let before = c.share-before.ensures ∙ (λ j. share rule (c.before-2.ensures j)
    ((c.given_of.ensures ∙ ap (given_at point) c.given_before.ensures) j)) in
    let later = c.share-later.ensures ∙ (λ j. share rule (c.after.ensures j) (c.point_after.ensures j)) in
    let named = ap (λ o. option_map_or (λ (k : Constraint). names_event p k.rule point t.before.event.0) o false)
    c.requires.constraint
    ∙ sym (c.names_event.ensures ∙ ap (λ e. names_event p rule point e.0) c.event.ensures)
    ∙ c.if-not-names_event.false in
    (turned_total share g.met.S.Share.bounded p c.args.monitor c.args.constraint.now c.requires.total.0
    t c.args.total c.share-before.result c.share-later.result c.facts.ensures c.requires.total.2
    c.requires.monitor c.requires.constraint named c.requires.total.1 before later).small
