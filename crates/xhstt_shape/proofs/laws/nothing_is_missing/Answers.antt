use Rattle.xhstt_shape.proofs.Present.{whole}
use Rattle.xhstt_shape.proofs.laws.nothing_is_missing.Goals as goal

pub returns : goal.returns
returns c = whole
