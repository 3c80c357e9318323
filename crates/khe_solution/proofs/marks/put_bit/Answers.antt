use Rattle.std.proofs.Common.{◌/◌, sym, ◌∙◌, ap, get_or}
use Rattle.khe_solution.proofs.MarkLaws.{marked_set, marked_clear, marked_zero}
use Rattle.khe_solution.proofs.marks.put_bit.Goals as goal

pub returns-then-is_in-clause-marked : goal.returns-then-is_in-clause-marked
returns-then-is_in-clause-marked c =
    marked_set c.args.words.now.items c.args.marks.now.items c.set_bit.new.words.items
    c.set_bit-then-is_in.new.words.items c.args.n c.requires.marked c.set_bit.ensures.bits
    c.set_bit-then-is_in.ensures.bits

pub returns-then-index-eq0-clause-marked : goal.returns-then-index-eq0-clause-marked
returns-then-index-eq0-clause-marked c =
    marked_zero c.clear_bit.new.words.items c.args.marks.now.items c.clear_bit-then-index-eq0.new.words.items
    (c.args.n / 64)
    (marked_clear c.args.words.now.items c.args.marks.now.items c.clear_bit.new.words.items c.args.n c.requires.marked
    c.clear_bit.ensures.bits)
    (let e = c.if-index-eq0.true in ap (get_or c.clear_bit.new.words.items (c.args.n / 64)) (sym e)
    ∙ sym c.index.ensures ∙ e)
    c.clear_bit-then-index-eq0.ensures.bits
