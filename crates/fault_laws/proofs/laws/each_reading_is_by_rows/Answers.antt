-- By the law of first faults, and by what each span of a tree means.
use Rattle.khe_app.proofs.RowLaws.{by_machines, by_rows}
use Rattle.fault_laws.proofs.laws.each_reading_is_by_rows.Goals as goal

pub returns : goal.returns
returns c = λ bytes reading. (by_rows bytes reading, by_machines bytes reading)
