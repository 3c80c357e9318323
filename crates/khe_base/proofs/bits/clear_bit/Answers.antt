use Rattle.std.proofs.Common.{◌≡◌, ◌<◌, ◌%◌, ap, nat_eq, get_or, ◌/◌, false, arith}
use Rattle.std.specs.Int.{w64}
use Rattle.std.proofs.lemmas.Nat.Bits.{bit_at_clear_same, bit_at_clear_other}
use Rattle.std.proofs.lemmas.List.{get_or_read}
use Rattle.khe_base.proofs.BitsLemmas.{is_set-replaced}
use Rattle.khe_base.proofs.bits.clear_bit.Goals as goal

pub returns-clause-bits : goal.returns-clause-bits
returns-clause-bits c =
    let k = c.args.n % 64 in
    let within : k < 64 = omega arith in
    let word = get_or c.args.words.now.items (c.args.n / 64) 0 in
    let e : c.index_mut.result.now ≡ word = get_or_read c.args.words.now.items _ _ c.requires c.index_mut.ensures.value
    0 in
    rw e
    (is_set-replaced c.args.words.now.items c.args.n 0 _ c.requires false
    (ap (λ x. nat_eq x 1) (bit_at_clear_same w64 word k within))
    (λ i below other. ap (λ x. nat_eq x 1) (bit_at_clear_other w64 word k within i below other)))
