-- By the laws on what is written.
use Rattle.text_laws.proofs.RepairedLaws.{repair_no_dearer}
use Rattle.text_laws.proofs.laws.a_repair_is_read_no_dearer.Goals as goal

pub returns : goal.returns
returns c = repair_no_dearer
