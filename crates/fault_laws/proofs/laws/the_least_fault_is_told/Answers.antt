-- Each command tells a refusal by its line.
use Rattle.fault_laws.proofs.OutcomeLaws.{fault_told}
use Rattle.fault_laws.proofs.laws.the_least_fault_is_told.Goals as goal
use Rattle.command_words.specs.Words.{asked}

pub returns : goal.returns
returns c = λ words under bytes status text kind at r h least.
    fault_told (asked words) r.name bytes under status text kind at r.named r.stands r.few h least
