-- What slots list.
use Rattle.khe_told.proofs.DutyLaws.{duties_listed}
use Rattle.khe_told.proofs.FrameLaws.{told_from}
use Rattle.khe_told.proofs.ValidLaws.{listed_told, listed_valid}
use Rattle.khe_told.proofs.laws.slots_list_a_state.Goals as goal

pub returns-clause-duties : goal.returns-clause-duties
returns-clause-duties c = λ p s made told. duties_listed 0 s (told_from p s made.first_meets told.whose)

pub returns-clause-told : goal.returns-clause-told
returns-clause-told c = λ p s made told. listed_told p s made.first_meets told

pub returns-clause-valid : goal.returns-clause-valid
returns-clause-valid c = listed_valid
