-- What an answer of the resolver says of the first fault.
use Rattle.std.specs.Prelude.{◌≡◌, Option, Some, None, Result, Err}
use Rattle.fault_tables.specs.Told.{Tells}
use Rattle.xhstt_resolve.specs.declared.faults.ResolveFault.{ResolveFault}
use Rattle.xhstt_resolve.specs.declared.faults.ResolveFault.TheVariants.{Bad, Limit, NoMemory}
use Rattle.xhstt_resolve.specs.declared.resolving.Resolved.{Resolved}

-- the fault that an error tells, unless memory was refused
abbrev pub told : ResolveFault → Option ResolveFault
told (Bad kind at) = Some (Bad kind at)
told (Limit which value) = Some (Limit which value)
told NoMemory = None

-- an error tells the first fault
abbrev pub IsFirst : Option ResolveFault → ResolveFault → Type 0
IsFirst first error = Tells told (λ fault. first ≡ Some fault) error

-- an error tells the fault of the definition
abbrev pub IsFaultOf : Result Resolved ResolveFault → ResolveFault → Type 0
IsFaultOf answer error = Tells told (λ fault. answer ≡ Err fault) error
