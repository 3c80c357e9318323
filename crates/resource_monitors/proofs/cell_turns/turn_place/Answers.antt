use Rattle.timetables.specs.Counts.{count_at}
use Rattle.resource_monitors.proofs.TurnLaws.{room_one, some_one}
use Rattle.resource_monitors.proofs.cell_turns.turn_place.Goals as goal

pub fill_place-requires-clause-room : goal.fill_place-requires-clause-room
fill_place-requires-clause-room c = room_one c.args.rises c.args.place c.args.run (count_at c.args.table.now)
    c.if-rises.true c.requires.counts

pub free_place-requires-clause-some : goal.free_place-requires-clause-some
free_place-requires-clause-some c = some_one c.args.rises c.args.place c.args.run (count_at c.args.table.now)
    c.if-rises.false c.requires.counts
