-- No bytes spell no character.
use Rattle.std.proofs.lemmas.Str.{chars-nil}
use Rattle.archive_generator.proofs.names.roomy_text.Goals as goal

pub returns : goal.returns
returns c = rw c.in_ok-with_capacity.ensures.bytes chars-nil
