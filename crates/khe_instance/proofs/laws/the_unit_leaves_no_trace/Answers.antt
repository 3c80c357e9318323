use Rattle.khe_instance.proofs.WorkloadLaws.{multiple-same, multiples-same}
use Rattle.khe_instance.proofs.laws.the_unit_leaves_no_trace.Goals as goal

pub returns-clause-finer : goal.returns-clause-finer
returns-clause-finer c = λ events k unit ds r least greatest positive multiple. multiple-same events k unit multiple
    positive ds r least greatest

pub returns-clause-any : goal.returns-clause-any
returns-clause-any c = multiples-same
