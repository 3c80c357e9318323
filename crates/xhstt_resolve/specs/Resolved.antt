-- The instances of an archive, or its first fault: of the Ids of instances and of solution groups; of
-- each instance in turn, its references and then its limits; of the number of solutions; and of the
-- references of the solutions.
use Rattle.std.specs.Prelude.{ℕ, Option, unwrap_or, Result, Ok, Err, List, [], ◌∷◌, map, length}
use Rattle.std.specs.Option.{option_map, option_map_or, option_or}
use Rattle.khe_base.specs.Names.{number_of}
use Rattle.xhstt_references.specs.Faults.{fault_of_ids, fault_of_instance, fault_of_solutions}
use Rattle.xhstt_references.specs.Followed.{followed_of}
use Rattle.xhstt_references.specs.Ids.{instance_ids}
use Rattle.xhstt_references.specs.References.{solutions_of}
use Rattle.xhstt_resolve.specs.Faults.{as_fault}
use Rattle.xhstt_resolve.specs.Limits.{above, earliest, limit_fault}
use Rattle.xhstt_resolve.specs.Parts.{parts_of}
use Rattle.xhstt_resolve.specs.declared.faults.ResolveFault.{ResolveFault}
use Rattle.fault_tables.specs.declared.limits.TheConstants.{TOO_MANY_SOLUTIONS}
use Rattle.xhstt_resolve.specs.declared.resolving.Resolved.{Resolved}
use Rattle.xhstt_shape.specs.declared.records.Archive.{Archive}
use Rattle.xhstt_shape.specs.declared.records.RawInstance.{RawInstance}

-- the first fault of one instance
abbrev pub instance_fault : RawInstance → Option ResolveFault
instance_fault i = option_or (option_map as_fault (fault_of_instance i)) (limit_fault i)

-- the number of solutions, and then their references
abbrev pub solutions_fault : Archive → Option ResolveFault
solutions_fault a = earliest
    (above TOO_MANY_SOLUTIONS (length (solutions_of a))
    ∷ option_map as_fault (fault_of_solutions a)
    ∷ [])

-- the first fault of an archive
abbrev pub archive_fault : Archive → Option ResolveFault
archive_fault a = earliest
    (option_map as_fault (fault_of_ids a)
    ∷ earliest (map instance_fault a.instances)
    ∷ solutions_fault a
    ∷ [])

-- the number of the instance of each solution
abbrev pub instances_of : Archive → List ℕ
instances_of a = map (λ s. unwrap_or (number_of s.reference.id (instance_ids a)) 0) (solutions_of a)

-- the instances, and each solution's instance and what its entries name there; or the first fault
abbrev pub resolved : Archive → Result Resolved ResolveFault
resolved a = option_map_or Err (archive_fault a)
    (Ok (record { instances = map parts_of a.instances; of = instances_of a; followed = followed_of a }))
