-- The solutions of a job, from what was drawn for them.
use Rattle.std.specs.Prelude.{ℕ, Option, Some, None, List, [], ◌∷◌, ◌++◌, codes, map}
use Rattle.xhstt_shape.specs.declared.records.RawEntry.{RawEntry}
use Rattle.xhstt_shape.specs.declared.records.RawGiven.{RawGiven}
use Rattle.xhstt_shape.specs.declared.records.RawSolution.{RawSolution}
use Rattle.archive_generator.specs.declared.drawing.DrawnEntry.{DrawnEntry}
use Rattle.archive_generator.specs.Names.{name, to, numbered, to_time}

-- a resource for a role
abbrev pub given : List ℕ → List ℕ → ℕ → RawGiven
given role word n = record { reference = to (numbered word n); role = Some (name role) }

-- the same, where one was drawn
abbrev pub given_if : List ℕ → List ℕ → Option ℕ → List RawGiven
given_if role word None = []
given_if role word (Some n) = given role word n ∷ []

abbrev pub all_given : DrawnEntry → List RawGiven
all_given e = given_if (codes "T") (codes "p") e.teacher ++ given_if (codes "R") (codes "q") e.room

unfoldable pub entry : DrawnEntry → RawEntry
entry e = record {
  reference = to (numbered (codes "e") e.event);
  duration = Some e.duration;
  time = to_time e.time;
  resources = all_given e;
}

unfoldable pub solution : List DrawnEntry → RawSolution
solution entries = record {
  reference = to (codes "made");
  description = None;
  running_time = None;
  events = map entry entries;
}
