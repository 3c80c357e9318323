use Rattle.std.proofs.Common.{◌∙◌, ap, sym, length}
use Rattle.khe_base.specs.Bits.{is_set, words_for}
use Rattle.khe_base.specs.IdSet.{has_member}
use Rattle.khe_base.proofs.IdSetLemmas.{length-set_of_bits, has_member-set_of_bits}
use Rattle.khe_base.proofs.id_sets.IdSet.words.Goals as goal

pub returns-clause-room : goal.returns-clause-room
returns-clause-room c =
    ap length c.as_slice.ensures.value ∙ c.self.invariant.room
    ∙ ap words_for (sym (length-set_of_bits c.self.inside.words.items c.self.inside.size) ∙ ap length c.self.view_is)

pub returns-clause-bits : goal.returns-clause-bits
returns-clause-bits c n =
    let words = c.self.inside.words.items in
    ap (λ w. is_set w n) c.as_slice.ensures.value
    ∙ sym (has_member-set_of_bits words c.self.inside.size c.self.invariant.beyond n)
    ∙ ap (λ s. has_member s n) c.self.view_is
