-- The head, the cause, and the rest.
use Rattle.timetable_page.proofs.sections.invalid_section.Goals as goal

pub returns : goal.returns
returns c = record { head = c.in_ok-head.head; rest = c.in_ok-rest.rest; is = c.in_ok-page.ensures }
