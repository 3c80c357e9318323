use Rattle.std.proofs.Common.{◌∙◌, ap, sym, length}
use Rattle.khe_base.proofs.IdSetLemmas.{length-set_of_bits}
use Rattle.timetables.proofs.masks.Mask.size.Goals as goal

pub returns : goal.returns
returns c = sym (length-set_of_bits c.self.inside.words.items c.self.inside.size) ∙ ap length c.self.view_is
