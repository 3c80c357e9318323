-- The bit of a number that was no member is set, and it is counted once; else the set stays as it is.
use Rattle.std.proofs.Common.{◌<◌, ◌≡◌, ◌∙◌, ◌+◌, ◌^◌, sym, ap, true, set, length, arith, false, true}
use Rattle.khe_base.specs.Bits.{is_set, words_for}
use Rattle.khe_base.specs.IdSet.{with_member}
use Rattle.khe_base.proofs.IdSetLemmas.{length-set_of_bits, set_of_bits-insert, set_of_bits-member, IsStored-insert}
use Rattle.khe_base.proofs.IdSetLemmas.{IsStored-room}
use Rattle.khe_base.proofs.id_sets.IdSet.insert.Goals as goal

pub set_bit-requires : goal.set_bit-requires
set_bit-requires c =
    let size : length c.args.self.now ≡ c.self.inside.size =
    ap length (sym c.self.view_is) ∙ length-set_of_bits c.self.inside.words.items c.self.inside.size in
    let room : length c.self.inside.words.items ≡ words_for c.self.inside.size = c.self.invariant.room in
    omega arith

pub overflow_add-self : goal.overflow_add-self
overflow_add-self c =
    let words = c.self.inside.words.items in
    let size : length c.args.self.now ≡ c.self.inside.size =
    ap length (sym c.self.view_is) ∙ length-set_of_bits words c.self.inside.size in
    let here : c.args.n < c.self.inside.size = omega arith in
    let absent : is_set words c.args.n ≡ false = ap (λ w. is_set w c.args.n) (sym c.as_slice.ensures.value)
    ∙ sym c.is_set.ensures ∙ c.if-not-is_set.true in
    let small : c.self.inside.count + 1 < 2 ^ 32 =
    IsStored-room words c.args.n c.self.inside.size c.self.inside.count here absent c.self.invariant in
    omega arith

pub invariant_of-self : goal.invariant_of-self
invariant_of-self c =
    let words = c.self.inside.words.items in
    let size : length c.args.self.now ≡ c.self.inside.size =
    ap length (sym c.self.view_is) ∙ length-set_of_bits words c.self.inside.size in
    let here : c.args.n < c.self.inside.size = omega arith in
    let absent : is_set words c.args.n ≡ false = ap (λ w. is_set w c.args.n) (sym c.as_slice.ensures.value)
    ∙ sym c.is_set.ensures ∙ c.if-not-is_set.true in
    IsStored-insert words c.set_bit.new.words.items c.args.n c.self.inside.size here c.set_bit.ensures.length
    c.set_bit.ensures.bits
    c.self.inside.count absent c.self.invariant

pub returns-then-not-is_set : goal.returns-then-not-is_set
returns-then-not-is_set c =
    let words = c.self.inside.words.items in
    let size : length c.args.self.now ≡ c.self.inside.size =
    ap length (sym c.self.view_is) ∙ length-set_of_bits words c.self.inside.size in
    let here : c.args.n < c.self.inside.size = omega arith in
    set_of_bits-insert words c.set_bit.new.words.items c.args.n c.self.inside.size here c.set_bit.ensures.length
    c.set_bit.ensures.bits
    ∙ ap (λ xs. set xs c.args.n true) c.self.view_is

pub returns-else-not-is_set : goal.returns-else-not-is_set
returns-else-not-is_set c =
    let words = c.self.inside.words.items in
    let size : length c.args.self.now ≡ c.self.inside.size =
    ap length (sym c.self.view_is) ∙ length-set_of_bits words c.self.inside.size in
    let here : c.args.n < c.self.inside.size = omega arith in
    let present : is_set words c.args.n ≡ true = ap (λ w. is_set w c.args.n) (sym c.as_slice.ensures.value)
    ∙ sym c.is_set.ensures ∙ c.if-not-is_set.false in
    sym c.self.view_is ∙ set_of_bits-member words c.args.n c.self.inside.size here present
    ∙ ap (λ xs. with_member xs c.args.n) c.self.view_is
