-- By the law on the bytes.
use Rattle.khe_app.proofs.TextLaws.{checks}
use Rattle.outcome_laws.proofs.laws.what_is_checked_is_read_again.Goals as goal

pub returns : goal.returns
returns c = checks
