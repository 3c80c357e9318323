use Rattle.std.proofs.Common.{◌∙◌, map, sym, ap, subst}
use Rattle.khe_instance.specs.declared.rules.Spread.{Spread}
use Rattle.khe_told.specs.Effects.{turned_all}
use Rattle.set_monitors.specs.SpreadEvents.{AreCounts, AreFew, IsSpread, spread_by, spread_exact, spreads_of, started}
use Rattle.set_monitors.proofs.ForeseenLaws.{told_after}
use Rattle.set_monitors.proofs.SpreadLaws.{counts_few, spread_of_state}
use Rattle.set_monitors.proofs.spread_events.StartsGauge.value_after.Goals as goal

pub outside_after-requires-clause-few : goal.outside_after-requires-clause-few
outside_after-requires-clause-few c =
    let kept = c.requires.keeps in
    subst (λ ns. AreFew ns) (sym c.as_slice.ensures.value)
    (counts_few (started c.args.inst.now c.args.monitor c.args.told.now) (spreads_of c.args.inst.now c.args.monitor)
    c.args.self.now.counts.items kept.amount kept.counts kept.few)

-- what would be kept
kept : (c : goal.After-outside_after) → IsSpread c.args.inst.now c.args.monitor
    (turned_all c.args.told.now c.args.effects.now)
    (map (λ (q : Spread). started c.args.inst.now c.args.monitor (turned_all c.args.told.now c.args.effects.now)
    q.group)
    (spreads_of c.args.inst.now c.args.monitor)) c.outside_after.result
kept c =
    let p = c.args.inst.now in
    let m = c.args.monitor in
    let s = c.args.told.now in
    let ts = c.args.effects.now in
    let is = c.requires.keeps in
    let spreads = c.listed-spreads.result.now in
    let listed = c.listed-spreads.ensures in
    spread_of_state p m (turned_all s ts) spreads c.outside_after.result c.facts.ensures
    (told_after p s ts c.requires.turns) is.monitor is.serves listed.spreads listed.least listed.listed
    (c.outside_after.ensures (started p m s)
    (subst (λ ns. AreCounts (started p m s) spreads ns) (sym c.as_slice.ensures.value)
    (subst (λ qs. AreCounts (started p m s) qs c.args.self.now.counts.items) (sym listed.spreads) is.counts))
    (is.outside ∙ ap (spread_by (started p m s)) (sym listed.spreads))
    ∙ sym (λ j. spread_by (λ g. c.shifts_of-shifts.ensures s c.requires.turns g j) spreads))

pub returns-clause-value : goal.returns-clause-value
returns-clause-value c = spread_exact c.args.inst.now c.args.monitor (turned_all c.args.told.now c.args.effects.now)
    (map (λ (q : Spread). started c.args.inst.now c.args.monitor (turned_all c.args.told.now c.args.effects.now)
    q.group)
    (spreads_of c.args.inst.now c.args.monitor)) c.outside_after.result (kept c)

pub returns-clause-small : goal.returns-clause-small
returns-clause-small c = (kept c).small
