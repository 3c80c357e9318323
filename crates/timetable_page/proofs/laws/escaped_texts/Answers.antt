-- The two laws of escaped texts.
use Rattle.timetable_page.proofs.Escapes.{inert, read_back}
use Rattle.timetable_page.proofs.laws.escaped_texts.Goals as goal

pub returns : goal.returns
returns c = record { inert = inert; read_back = read_back }
