-- No bytes spell no character.
use Rattle.std.proofs.lemmas.Str.{chars-nil}
use Rattle.khe_base.proofs.texts.Text.new.Goals as goal

pub returns : goal.returns
returns c = rw c.new.ensures.bytes chars-nil
