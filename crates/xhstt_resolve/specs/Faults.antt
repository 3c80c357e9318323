-- A fault of references, told as a fault of resolving.
use Rattle.xhstt_references.specs.declared.faults.ReferenceFault.{ReferenceFault}
use Rattle.xhstt_references.specs.declared.faults.ReferenceFault.TheVariants as reference
use Rattle.xhstt_resolve.specs.declared.faults.ResolveFault.{ResolveFault}
use Rattle.xhstt_resolve.specs.declared.faults.ResolveFault.TheVariants.{Bad, NoMemory}

abbrev pub as_fault : ReferenceFault → ResolveFault
as_fault (reference.Bad kind at) = Bad kind at
as_fault reference.NoMemory = NoMemory
