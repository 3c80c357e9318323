-- What archives that are equal but for places have in common: instances, completed solutions and spelling.
use Rattle.std.specs.Prelude.{◌≡◌, Result, Ok, Err, ℕ, slice_get}
use Rattle.std.specs.Option.{option_map}
use Rattle.khe_instance.specs.declared.parts.Parts.{Parts}
use Rattle.xhstt_completion.specs.Completed.{completed}
use Rattle.xhstt_references.specs.References.{solutions_of}
use Rattle.xhstt_resolve.specs.Resolved.{resolved}
use Rattle.xhstt_resolve.specs.declared.faults.ResolveFault.{ResolveFault}
use Rattle.xhstt_resolve.specs.declared.faults.ResolveFault.TheVariants.{Bad, Limit, NoMemory}
use Rattle.xhstt_resolve.specs.declared.resolving.Resolved.{Resolved}
use Rattle.xhstt_shape.specs.Places.{IsSame}
use Rattle.xhstt_shape.specs.declared.records.Archive.{Archive}
use Rattle.xhstt_writer.specs.Archives.{canonical}

-- a fault at the place 0
abbrev pub placeless : ResolveFault → ResolveFault
placeless (Bad kind at) = Bad kind 0
placeless (Limit which value) = Limit which value
placeless NoMemory = NoMemory

-- the instances, or the fault but for its place
abbrev pub without_place : Result Resolved ResolveFault → Result Resolved ResolveFault
without_place (Ok r) = Ok r
without_place (Err fault) = Err (placeless fault)

-- they resolve to the same, but for the place of a fault
abbrev pub AreResolvedAlike : Type 0
AreResolvedAlike = (a b : Archive) → IsSame a b → without_place (resolved a) ≡ without_place (resolved b)

-- so where the one has instances, the other has the same
abbrev pub KeepInstances : Type 0
KeepInstances = (a b : Archive) (r : Resolved) → IsSame a b → resolved a ≡ Ok r → resolved b ≡ Ok r

-- their solutions with a number complete to the same, for any instance
abbrev pub AreCompletedAlike : Type 0
AreCompletedAlike =
    (a b : Archive) (p : Parts) (number : ℕ) → IsSame a b
    → option_map (completed p) (slice_get (solutions_of a) number)
    ≡ option_map (completed p) (slice_get (solutions_of b) number)

-- they have the same canonical spelling
abbrev pub AreWrittenAlike : Type 0
AreWrittenAlike = (a b : Archive) → IsSame a b → canonical a ≡ canonical b
