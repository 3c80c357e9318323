use Rattle.std.proofs.Common.{◌≡◌, ◌∙◌, Option, sym, ap, subst}
use Rattle.khe_base.specs.declared.numbers.TimeId.{TimeId}
use Rattle.set_monitors.specs.SpreadEvents.{AreCounts, counted_then, spread_by, spreads_of, start_in, started}
use Rattle.set_monitors.proofs.SpreadLaws.{counts_few, spread_kept, spread_turned}
use Rattle.set_monitors.proofs.spread_events.StartsGauge.turn.Goals as goal

pub turn_counts-self-requires-clause-few : goal.turn_counts-self-requires-clause-few
turn_counts-self-requires-clause-few c =
    let kept = c.requires.keeps in
    counts_few (started c.args.inst.now c.args.monitor c.args.told.now) (spreads_of c.args.inst.now c.args.monitor)
    c.args.self.now.counts.items kept.amount kept.counts kept.few

pub returns-clause-keeps : goal.returns-clause-keeps
returns-clause-keeps c =
    let t = c.args.turn.now in
    let spreads = c.listed-spreads.result.now in
    let old = c.args.self.now.counts.items in
    let row = c.turn_counts-self.new.counts.items in
    let before : c.start_in-before.result ≡ start_in t.before.span = c.start_in-before.ensures
    ∙ ap start_in c.before-2.ensures in
    let later : c.start_in-after.result ≡ start_in t.after.span = c.start_in-after.ensures
    ∙ ap start_in c.after.ensures in
    spread_turned c.args.inst.now c.args.monitor c.args.told.now t spreads old row c.args.self.now.outside
    c.turn_counts-self.result c.facts.ensures c.requires.turns c.requires.named c.listed-spreads.ensures.spreads
    c.listed-spreads.ensures.least c.listed-spreads.ensures.listed c.turn_counts-self.ensures.amount
    (λ f are. subst (λ (a : Option TimeId). AreCounts (λ g. counted_then (f g) g a (start_in t.after.span)) spreads row)
    before (subst (λ (a : Option TimeId). AreCounts (λ g. counted_then (f g) g c.start_in-before.result a) spreads row)
    later (c.turn_counts-self.ensures.counts f are)))
    (λ f are whole. c.turn_counts-self.ensures.outside f are whole
    ∙ (λ j. spread_by (λ g. counted_then (f g) g (before j) (later j)) spreads))
    c.requires.keeps

pub returns-then-is_same-clause-keeps : goal.returns-then-is_same-clause-keeps
returns-then-is_same-clause-keeps c =
    let t = c.args.turn.now in
    spread_kept c.args.inst.now c.args.monitor c.args.told.now t c.args.self.now.counts.items c.args.self.now.outside
    c.requires.turns c.requires.named
    (sym (c.start_in-before.ensures ∙ ap start_in c.before-2.ensures) ∙ c.is_same.ensures c.if-is_same.true
    ∙ c.start_in-after.ensures ∙ ap start_in c.after.ensures)
    c.requires.keeps
