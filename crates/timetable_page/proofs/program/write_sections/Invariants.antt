-- The sections so far were sent, and the sink counted no fault.
use Rattle.std.proofs.Common.{ℕ, ◌≡◌, List, [], Option, map}
use Rattle.khe_io.specs.Amid.{IsAmid}
use Rattle.timetable_page.specs.Endings.{AreSent}
use Rattle.timetable_page.specs.Words.{shows}
use Rattle.timetable_page.proofs.program.write_sections.Given as goal

abbrev pub invariant-loop-number : goal.invariant-loop-number
invariant-loop-number g l = record {
  sent : (before : Option (List ℕ)) (opening : List ℕ) → IsAmid before (g.K.Sink.taken l.fn.out) [] [] opening
      → AreSent l.fn.parts.resolved.now (map (λ x. x.now) l.fn.parts.raws.now) (shows l.fn.parts.choice) l.number l.sent
      before (g.K.Sink.taken l.out) opening;
  faultless : g.K.Sink.faults l.out ≡ g.K.Sink.faults l.fn.out;
}
