-- The chains that were linked.
use Rattle.std.proofs.Common.{arith}
use Rattle.xhstt_completion.specs.Entries.{entries_of}
use Rattle.xhstt_completion.proofs.ChainLemmas.{same-chain}
use Rattle.khe_base.proofs.ListLemmas.{front-whole}
use Rattle.xhstt_completion.proofs.chains.chained.Goals as goal

pub returns-clause-chains : goal.returns-clause-chains
returns-clause-chains c = λ e l.
    let entries = c.args.entries.now in
    same-chain entries c.link.new.firsts c.link.new.nexts _ _ e (entries_of c.args.inst.now e entries)
    (front-whole _ c.link.new.firsts _ (omega (
      arith,
      c.in_ok-vec.ensures.len,
      c.events.ensures,
      c.link.ensures.firsts,
    )))
    (front-whole _ c.link.new.nexts _ (omega (arith, c.in_ok-vec-2.ensures.len, c.link.ensures.nexts)))
    (c.link.ensures.chains e l)
