-- What a script or a repair begins with: the completed solution with a number and its instance, or why there is
-- none.
use Rattle.std.specs.Prelude.{ℕ, ◌≡◌, Result, Ok, Err, slice_get}
use Rattle.std.specs.Option.{option_map_or}
use Rattle.archive_reading.specs.Reading.{Reading, evaluable, refused}
use Rattle.archive_reading.specs.declared.reading.Unread.{Unread}
use Rattle.archive_reading.specs.declared.reading.Unread.TheVariants as unread
use Rattle.archive_reading.specs.declared.refusals.Refusal.{Refusal}
use Rattle.archive_reading.specs.declared.refusals.Refusal.TheVariants.{Invalid, NoSuchSolution}
use Rattle.khe_instance.specs.declared.parts.Parts.{Parts}
use Rattle.khe_instance.specs.declared.states.Plain.{Plain}
use Rattle.parallel_solve.specs.Verdicts.{parts_at}
use Rattle.xhstt_completion.specs.Completed.{completed}
use Rattle.xhstt_completion.specs.declared.faults.Cause.{Cause}
use Rattle.xhstt_references.specs.References.{solutions_of}
use Rattle.xhstt_resolve.specs.declared.resolving.Resolved.{Resolved}
use Rattle.xhstt_shape.specs.declared.records.Archive.{Archive}

-- the state of a solution of an instance; or a refusal in its place
pub data Start : Type 0 where
  begins : Parts → Plain → Start
  barred : Refusal → Start

-- a solution that is completed, or is invalid for a cause
abbrev pub start_by : Parts → Result Plain Cause → Start
start_by p (Ok plain) = begins p plain
start_by p (Err cause) = barred (Invalid cause.cause cause.entry)

-- the solution of an archive with this number, if there is one
abbrev pub start_of : Archive → Resolved → ℕ → Start
start_of a r number =
    option_map_or (λ raw. option_map_or (λ p. start_by p (completed p raw)) (parts_at r number) (barred NoSuchSolution))
    (slice_get (solutions_of a) number) (barred NoSuchSolution)

abbrev pub start_in : ℕ → Reading → Start
start_in number (evaluable a r) = start_of a r number
start_in number (refused refusal) = barred refusal

-- there is none, for this reason, or memory ran out
abbrev pub IsBarredBy : Start → Unread → Type 0
IsBarredBy s (unread.Refused refusal) = s ≡ barred refusal
IsBarredBy s unread.NoMemory = Unit {0}
