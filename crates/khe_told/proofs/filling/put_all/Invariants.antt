-- So many meets are put with their tasks.
use Rattle.std.proofs.Common.{length}
use Rattle.khe_told.specs.Stored.{AreInOrder, slots_in}
use Rattle.khe_told.proofs.FillingLaws.{IsAmid}
use Rattle.khe_told.proofs.filling.put_all.Given as goal

abbrev pub invariant-loop-meet : goal.invariant-loop-meet
invariant-loop-meet l =
    AreInOrder 0 (length l.given.items) l.rows.items
    × IsAmid l.inst l.plain.meets l.plain.tasks (slots_in 0 l.rows.items l.given.items) l.meet-index l.next
