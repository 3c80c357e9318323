-- The first fault of an archive's names and references: the kinds in their order, and of one kind the first place in
-- the text.
use Rattle.std.specs.Prelude.{ℕ, ◌≡◌, min, Option, Some, None, Result, Ok, Err, List, [], ◌∷◌, map}
use Rattle.std.specs.List.{fold}
use Rattle.fault_tables.specs.Told.{Tells}
use Rattle.xhstt_references.specs.References.{repeated, repeated_ids, repeated_roles, unknown_references}
use Rattle.xhstt_references.specs.References.{events_off_end, unknown_in_solutions}
use Rattle.xhstt_references.specs.declared.faults.ReferenceFault.{ReferenceFault}
use Rattle.xhstt_references.specs.declared.faults.ReferenceFault.TheVariants.{Bad, NoMemory}
use Rattle.fault_tables.specs.declared.faults.TheConstants.{DUPLICATE_ID, UNKNOWN_REFERENCE, DUPLICATE_ROLE}
use Rattle.fault_tables.specs.declared.faults.TheConstants.{EVENT_OFF_END}
use Rattle.xhstt_shape.specs.declared.records.Archive.{Archive}
use Rattle.xhstt_shape.specs.declared.records.RawInstance.{RawInstance}

-- a fault of this kind at the least of the places, or else what follows
abbrev pub at_first : ℕ → List ℕ → Option ReferenceFault → Option ReferenceFault
at_first kind [] following = following
at_first kind (at ∷ more) following = Some (Bad kind (fold min at more))

-- the first fault of an instance's names and references
abbrev pub fault_of_instance : RawInstance → Option ReferenceFault
fault_of_instance i =
    at_first DUPLICATE_ID (repeated_ids i)
    (at_first UNKNOWN_REFERENCE (unknown_references i)
    (at_first DUPLICATE_ROLE (repeated_roles i)
    (at_first EVENT_OFF_END (events_off_end i) None)))

-- the first fault of the Ids of instances, and then of solution groups
abbrev pub fault_of_ids : Archive → Option ReferenceFault
fault_of_ids a =
    at_first DUPLICATE_ID (repeated (map (λ i. i.id) a.instances))
    (at_first DUPLICATE_ID (repeated (map (λ g. g.id) a.solution_groups)) None)

-- the first reference of the solutions that names nothing
abbrev pub fault_of_solutions : Archive → Option ReferenceFault
fault_of_solutions a = at_first UNKNOWN_REFERENCE (unknown_in_solutions a) None

-- the fault that an error tells, unless memory was refused
abbrev pub told : ReferenceFault → Option ReferenceFault
told (Bad kind at) = Some (Bad kind at)
told NoMemory = None

-- an answer comes where there is no fault, and else the first one is told, unless memory was refused
abbrev pub IsTold : {A : Type 0} → Result A ReferenceFault → Option ReferenceFault → Type 0
IsTold (Ok _) first = first ≡ None
IsTold (Err error) first = Tells told (λ fault. first ≡ Some fault) error
