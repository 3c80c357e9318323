use Rattle.std.proofs.Common.{◌-◌, ◌∙◌, ap, count_ones, bit_and}
use Rattle.std.proofs.lemmas.Nat.{and_mask, one_shl}
use Rattle.khe_base.proofs.bits.ones_below.Goals as goal

pub returns : goal.returns
returns c =
    ap (λ x. count_ones (bit_and c.args.word (x - 1))) (one_shl c.args.place 64 c.requires)
    ∙ ap count_ones (and_mask c.args.word c.args.place)
