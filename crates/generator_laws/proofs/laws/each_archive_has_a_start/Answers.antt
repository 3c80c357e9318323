use Rattle.std.proofs.Common.{map}
use Rattle.xhstt_references.specs.Followed.{followed_of}
use Rattle.xhstt_resolve.specs.Parts.{parts_of}
use Rattle.xhstt_resolve.specs.Resolved.{instances_of}
use Rattle.xhstt_resolve.specs.declared.resolving.Resolved.{Resolved}
use Rattle.archive_generator.specs.Made.{made}
use Rattle.generator_laws.proofs.MadeLaws.{made_resolved, has_start}
use Rattle.generator_laws.proofs.laws.each_archive_has_a_start.Goals as goal

pub returns : goal.returns
returns c = λ seed size some few.
    let a = made seed size in
    let r : Resolved = record { instances = map parts_of a.instances; of = instances_of a; followed = followed_of a } in
    let is = made_resolved seed size some few in
    (r, is, has_start seed size some few r is)
