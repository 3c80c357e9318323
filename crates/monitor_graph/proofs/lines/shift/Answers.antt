use Rattle.std.proofs.Common.{false}
use Rattle.monitor_graph.specs.Opened.{no_line}
use Rattle.monitor_graph.proofs.TrialLaws.{is_part, shifted}
use Rattle.monitor_graph.proofs.lines.shift.Goals as goal

pub exchange-requires-clause-hard : goal.exchange-requires-clause-hard
exchange-requires-clause-hard c = (is_part c.args.lines.now c.requires.before.0 c.args.totals.now c.args.place (no_line false)
    c.requires.known c.requires.before.1 c.requires.before.2).hard

pub exchange-requires-clause-soft : goal.exchange-requires-clause-soft
exchange-requires-clause-soft c = (is_part c.args.lines.now c.requires.before.0 c.args.totals.now c.args.place (no_line false)
    c.requires.known c.requires.before.1 c.requires.before.2).soft

pub exchange-requires-clause-hard_small : goal.exchange-requires-clause-hard_small
exchange-requires-clause-hard_small c = (is_part c.args.lines.now c.requires.before.0 c.args.totals.now c.args.place
    (no_line false) c.requires.known c.requires.before.1 c.requires.before.2).hard_small

pub exchange-requires-clause-soft_small : goal.exchange-requires-clause-soft_small
exchange-requires-clause-soft_small c = (is_part c.args.lines.now c.requires.before.0 c.args.totals.now c.args.place
    (no_line false) c.requires.known c.requires.before.1 c.requires.before.2).soft_small

pub returns : goal.returns
returns c ds h s = shifted c.args.lines.now ds c.args.totals.now c.exchange.new.totals c.args.place c.args.deviation
    (no_line false) c.requires.known c.requires.small h s c.exchange.ensures.hard c.exchange.ensures.soft
