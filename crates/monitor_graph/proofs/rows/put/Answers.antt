use Rattle.std.proofs.Common.{◌/◌, sym, ◌∙◌, ap, get_or}
use Rattle.monitor_graph.proofs.RowLaws.{summed_set, summed_clear, summed_zero}
use Rattle.monitor_graph.proofs.rows.put.Goals as goal

pub returns-then-is_in-clause-summed : goal.returns-then-is_in-clause-summed
returns-then-is_in-clause-summed c =
    summed_set c.args.words.now.items c.args.summary.now.items c.set_bit.new.words.items
    c.set_bit-then-is_in.new.words.items c.args.n c.requires.summed c.set_bit.ensures.bits
    c.set_bit-then-is_in.ensures.bits

pub returns-then-index-eq0-clause-summed : goal.returns-then-index-eq0-clause-summed
returns-then-index-eq0-clause-summed c =
    summed_zero c.clear_bit.new.words.items c.args.summary.now.items c.clear_bit-then-index-eq0.new.words.items
    (c.args.n / 64)
    (summed_clear c.args.words.now.items c.args.summary.now.items c.clear_bit.new.words.items c.args.n c.requires.summed
    c.clear_bit.ensures.bits)
    (let e = c.if-index-eq0.true in ap (get_or c.clear_bit.new.words.items (c.args.n / 64)) (sym e)
    ∙ sym c.index.ensures ∙ e)
    c.clear_bit-then-index-eq0.ensures.bits
