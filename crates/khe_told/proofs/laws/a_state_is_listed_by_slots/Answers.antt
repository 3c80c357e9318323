-- What slots are that list a state.
use Rattle.khe_told.proofs.PlainLaws.{told_listed, valid_listed}
use Rattle.khe_told.proofs.laws.a_state_is_listed_by_slots.Goals as goal

pub returns-clause-told : goal.returns-clause-told
returns-clause-told c = λ p s made whose bare told. told_listed p s made.first_meets whose bare told

pub returns-clause-valid : goal.returns-clause-valid
returns-clause-valid c = λ p s plain made whose bare meets tasks valid. valid_listed p s plain made.first_meets whose
    bare meets tasks valid
