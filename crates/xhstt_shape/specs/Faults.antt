-- How a look at a part of a tree ends: it goes on, or there is a fault, which has a kind and a byte.
use Rattle.std.specs.Prelude.{ℕ, ◌≡◌, Bool, true, false, Option, Some, None, Result, Ok, Err}
use Rattle.fault_tables.specs.Told.{Tells}
use Rattle.xhstt_shape.specs.declared.faults.ShapeFault.{ShapeFault}
use Rattle.xhstt_shape.specs.declared.faults.ShapeFault.TheVariants.{Bad, NoMemory}

-- no fault, or the first one
abbrev pub Outcome : Type 0
Outcome = Result (Unit {0}) ShapeFault

abbrev pub fine : Outcome
fine = Ok tt

abbrev pub bad : ℕ → ℕ → Outcome
bad kind at = Err (Bad kind at)

-- no fault where something holds
abbrev pub unless : Bool → Outcome → Outcome
unless true fault = fine
unless false fault = fault

-- what one look ends in, and then another
abbrev pub followed_by : Outcome → Outcome → Outcome
followed_by (Ok _) later = later
followed_by (Err fault) later = Err fault

-- the fault that an error tells, unless memory was refused
abbrev pub told : ShapeFault → Option ShapeFault
told (Bad kind at) = Some (Bad kind at)
told NoMemory = None

-- an answer is what a look ends in, unless memory was refused
abbrev pub IsTold : {A : Type 0} → Result A ShapeFault → Result A ShapeFault → Type 0
IsTold (Ok a) end = end ≡ Ok a
IsTold (Err error) end = Tells told (λ fault. end ≡ Err fault) error
