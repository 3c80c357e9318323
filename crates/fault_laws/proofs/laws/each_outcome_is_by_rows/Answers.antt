-- By the law on readings, a command at a time.
use Rattle.khe_app.proofs.ByTablesLaws.{outcome_by_machines, outcome_by_rows}
use Rattle.fault_laws.proofs.laws.each_outcome_is_by_rows.Goals as goal

pub returns : goal.returns
returns c = λ a name bytes under status text e s.
    (outcome_by_rows a name bytes under status text e s, outcome_by_machines a name bytes under status text e s)
