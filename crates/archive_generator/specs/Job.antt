-- What is drawn for a job of a size: its events, and the entries of its solutions.
use Rattle.std.specs.Prelude.{ℕ, ◌+◌, ◌-◌, ◌/◌, ◌%◌, ◌==◌, nat_lt, max, Bool, false, ◌||◌, Option, Some, None}
use Rattle.std.specs.Prelude.{List, [], ◌∷◌, is_some, if◌then◌else◌}
use Rattle.std.specs.List.{sum_by}
use Rattle.archive_generator.specs.declared.drawing.DrawnEntry.{DrawnEntry}
use Rattle.archive_generator.specs.declared.drawing.DrawnEvent.{DrawnEvent}
use Rattle.archive_generator.specs.declared.drawing.DrawnJob.{DrawnJob}
use Rattle.archive_generator.specs.Draws.{next, drawn, perhaps}
use Rattle.archive_generator.specs.Names.{below}
use Rattle.archive_generator.specs.Turns.{in_turn, gathered}

-- how many teachers, classes and rooms a job of a size has
abbrev pub teachers : ℕ → ℕ
teachers size = max 1 (size / 5)

abbrev pub classes : ℕ → ℕ
classes size = max 1 (size / 10)

abbrev pub rooms : ℕ → ℕ
rooms size = max 1 (size / 10)

-- and how many resources these are together
abbrev pub resource_count : ℕ → ℕ
resource_count size = teachers size + classes size + rooms size

-- the preassigned time of an event of a duration: each twentieth event has one
unfoldable pub fixed_time : ℕ → ℕ → ℕ → Option ℕ × ℕ
fixed_time i duration x = if i % 20 == 19 then (Some (drawn (41 - duration) x), next x) else (None, x)

-- an event lasts 1 to 3 times
unfoldable pub event : ℕ → ℕ → DrawnEvent × ℕ
event i x =
    let duration = 1 + drawn 3 x in
    let time = fixed_time i duration (next x) in
    (record { number = i; duration = duration; time = time.0 }, time.1)

unfoldable pub events : ℕ → ℕ → List DrawnEvent × ℕ
events size x = in_turn event (below size) x

-- for how many times all events run together
unfoldable pub slots : ℕ → ℕ → ℕ
slots seed size = sum_by (λ (e : DrawnEvent). e.duration) (events size seed).0

-- whether an event is given in two parts, of duration 1 and of what is left: never where it has a
-- preassigned time or lasts one time, else in one of two cases
unfoldable pub is_cut : DrawnEvent → ℕ → Bool × ℕ
is_cut e x = if is_some e.time || nat_lt e.duration 2 then (false, x) else (drawn 2 x == 1, next x)

-- the time of a part, in seven of eight cases where the event has no preassigned one
unfoldable pub start : DrawnEvent → ℕ → ℕ → Option ℕ × ℕ
start e duration x = if is_some e.time then (None, x) else perhaps (41 - duration) x

-- an entry for a part of an event: its time, its teacher and its room
unfoldable pub entry : ℕ → DrawnEvent → ℕ → ℕ → DrawnEntry × ℕ
entry size e duration x =
    let time = start e duration x in
    let teacher = perhaps (teachers size) time.1 in
    let room = perhaps (rooms size) teacher.1 in
    (record { event = e.number; duration = duration; time = time.0; teacher = teacher.0; room = room.0 }, room.1)

-- the entries for an event, one a part
unfoldable pub whole_entry : ℕ → DrawnEvent → ℕ → List DrawnEntry × ℕ
whole_entry size e x = let only = entry size e e.duration x in (only.0 ∷ [], only.1)

unfoldable pub cut_entries : ℕ → DrawnEvent → ℕ → List DrawnEntry × ℕ
cut_entries size e x =
    let first = entry size e 1 x in
    let second = entry size e (e.duration - 1) first.1 in
    (first.0 ∷ second.0 ∷ [], second.1)

unfoldable pub entries : ℕ → DrawnEvent → ℕ → List DrawnEntry × ℕ
entries size e x = let cut = is_cut e x in if cut.0 then cut_entries size e cut.1 else whole_entry size e cut.1

-- a solution: the entries for all events
unfoldable pub solution : ℕ → List DrawnEvent → ℕ → List DrawnEntry × ℕ
solution size drawn x = gathered (entries size) drawn x

unfoldable pub solutions : ℕ → List DrawnEvent → ℕ → List (List DrawnEntry) × ℕ
solutions size drawn x = in_turn (λ _ y. solution size drawn y) (below 4) x

-- all events, and then four solutions
unfoldable pub job : ℕ → ℕ → DrawnJob × ℕ
job size x =
    let first = events size x in
    let rest = solutions size first.0 first.1 in
    (record { events = first.0; solutions = rest.0 }, rest.1)
