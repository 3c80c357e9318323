-- Each solution's number is there.
use Rattle.khe_base.specs.Names.{number_of}
use Rattle.xhstt_references.specs.Ids.{instance_ids}
use Rattle.xhstt_references.specs.References.{solutions_of}
use Rattle.xhstt_resolve.proofs.AnswersLemmas.{unwrapped}
use Rattle.xhstt_resolve.proofs.resolving.solution_numbers.Goals as goal

pub returns-clause-of : goal.returns-clause-of
returns-clause-of c =
    let a = c.args.archive.now in
    unwrapped (λ s. number_of s.reference.id (instance_ids a)) c.in_ok-instances_of_solutions.field-0.instances
    (solutions_of a) c.in_ok-instances_of_solutions.ensures.numbers
