-- The bit of the place is set, and all others stay.
use Rattle.std.proofs.Common.{ap, nat_eq}
use Rattle.std.specs.Int.{w64}
use Rattle.std.proofs.lemmas.Nat.Bits.{bit_at_set_same, bit_at_set_other}
use Rattle.xhstt_shape.proofs.SeenLaws.{set_at}
use Rattle.xhstt_shape.proofs.walk.with_bit.Goals as goal

pub returns : goal.returns
returns c =
    let word = c.args.word in
    let k = c.args.place in
    set_at word _ k (ap (λ x. nat_eq x 1) (bit_at_set_same w64 word k c.requires))
    (λ i other. ap (λ x. nat_eq x 1) (bit_at_set_other w64 word k c.requires i other))
