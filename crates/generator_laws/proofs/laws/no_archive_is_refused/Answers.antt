use Rattle.generator_laws.proofs.MadeLaws.{made_faultless}
use Rattle.generator_laws.proofs.laws.no_archive_is_refused.Goals as goal

pub returns : goal.returns
returns c = made_faultless
