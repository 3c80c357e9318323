-- The bits that are copied are those of the members.
use Rattle.std.proofs.Common.{◌∙◌, ap, sym}
use Rattle.khe_base.specs.Bits.{is_set}
use Rattle.khe_base.proofs.IdSetLemmas.{set_of_bits-same}
use Rattle.timetables.proofs.masks.Mask.new.Goals as goal

pub returns : goal.returns
returns c =
    set_of_bits-same _ c.size.result c.args.group.now (sym c.size.ensures)
    (λ t h. sym (c.words-words.ensures.bits t) ∙ ap (λ w. is_set w t) (sym c.in_ok-from_slice.ensures.items))
