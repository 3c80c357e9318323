-- What was put is the page of the archive that the bytes spell, or refuses them.
use Rattle.timetable_page.proofs.program.show.Goals as goal

pub returns-in-Ok-clause-shown : goal.returns-in-Ok-clause-shown
returns-in-Ok-clause-shown g c = λ done. record {
  archive = c.in-Ok.read.archive;
  resolved = c.in-Ok.read.resolved;
  read = c.in-Ok.ensures.read;
  put = c.put.ensures.put done;
}

pub returns-in-Err-Refused-clause-refused : goal.returns-in-Err-Refused-clause-refused
returns-in-Err-Refused-clause-refused g c = λ done. record {
  refusal = c.in-Err-Refused.refusal;
  why = rw c.in-Err-Refused.field-0-is at c.in-Err-Refused.ensures.stopped;
  took = c.refuse.ensures.took done;
}
