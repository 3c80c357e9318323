use Rattle.demand_matching.proofs.WindowLemmas.{window_is}
use Rattle.demand_matching.proofs.windows.window.Goals as goal

pub returns : goal.returns
returns c = λ i h. window_is c.args.bits.now c.args.from i c.word_at-low.result c.word_at-high.result
    c.word_at-low.ensures c.word_at-high.ensures c.word_at-low.type_inv c.word_at-high.type_inv h
