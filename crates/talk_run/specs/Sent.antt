-- Archives that differ in the entries of one solution alone are written alike with a timetable in its place.
use Rattle.std.specs.Prelude.{ℕ, ◌≡◌}
use Rattle.khe_instance.specs.declared.parts.Parts.{Parts}
use Rattle.khe_instance.specs.declared.states.Plain.{Plain}
use Rattle.repair_run.specs.Placed.{respelled}
use Rattle.xhstt_shape.specs.declared.records.Archive.{Archive}

-- with whatever timetable in place of the solution with this number they are the same
abbrev pub IsSame : Archive → Archive → ℕ → Type 0
IsSame a b number = (p : Parts) (plain : Plain) → respelled a number p plain ≡ respelled b number p plain
