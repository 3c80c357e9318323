-- Bytes that spell no tree have a least fault.
use Rattle.fault_laws.proofs.OutcomeLaws.{no_text_told}
use Rattle.fault_laws.proofs.laws.what_is_told_of_no_text_is_the_least_fault.Goals as goal
use Rattle.command_words.specs.Words.{asked}

pub returns : goal.returns
returns c = λ words under bytes status text r h none.
    no_text_told (asked words) r.name bytes under status text r.named r.stands r.few h none
