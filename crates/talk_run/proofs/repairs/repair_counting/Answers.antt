-- The line is that on the repair.
use Rattle.std.proofs.Common.{◌++◌, ◌∙◌, ap}
use Rattle.khe_io.proofs.AmidLemmas.{one-ok}
use Rattle.talk_run.proofs.PlayLaws.{line_same}
use Rattle.talk_run.proofs.repairs.repair_counting.Goals as goal

pub returns-clause-text : goal.returns-clause-text
returns-clause-text g c =
    let w = c.args.engine.now in
    let v = c.repair.new.engine in
    let e = c.in_ok-outcome.ensures in
    let line = c.in_ok-repair_line.ensures ∙ line_same w.parts v.parts w.state v.state c.args.chains.depth
    c.args.chains.budget c.args.chains.diversifier c.from.result c.from-2.result c.in_ok-outcome.outcome c.totals.result
    e.outcome e.state e.parts c.totals.ensures c.from.ensures c.from-2.ensures in
    one-ok c.push_text-2.result c.push_text-2.ensures.ok (λ f. f ∙ ap (λ t. c.args.text.now ++ t) line)
