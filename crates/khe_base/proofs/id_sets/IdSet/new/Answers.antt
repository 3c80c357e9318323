use Rattle.std.proofs.Common.{◌∙◌, ap, subst, sym, arith}
use Rattle.khe_base.specs.StoredSets.{set_of_bits, IsStored}
use Rattle.khe_base.proofs.IdSetLemmas.{IsStored-zeros, set_of_bits-zeros}
use Rattle.khe_base.proofs.id_sets.IdSet.new.Goals as goal

pub invariant_of-result : goal.invariant_of-result
invariant_of-result c =
    subst (λ w. IsStored w c.args.size 0) (sym c.in_ok-no_bits.ensures)
    (IsStored-zeros _ c.args.size (omega arith) c.ranges.size.fits)

pub returns : goal.returns
returns c = ap (λ w. set_of_bits w c.args.size) c.in_ok-no_bits.ensures ∙ set_of_bits-zeros _ c.args.size
