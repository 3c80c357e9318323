use Rattle.resource_monitors.proofs.LoadLaws.{enough_one, fallen, risen, room_one}
use Rattle.resource_monitors.proofs.loads.turn_load.Goals as goal

pub raise-requires-clause-small : goal.raise-requires-clause-small
raise-requires-clause-small c = room_one c.args.rises c.args.r c.args.worth c.args.loads.now.items c.if-rises.true
    c.requires.can

pub lower-requires-clause-enough : goal.lower-requires-clause-enough
lower-requires-clause-enough c = enough_one c.args.rises c.args.r c.args.worth c.args.loads.now.items c.if-rises.false
    c.requires.can

pub returns-then-rises-clause-loads : goal.returns-then-rises-clause-loads
returns-then-rises-clause-loads c = risen c.args.rises c.args.r c.args.worth c.args.loads.now.items
    c.raise.new.loads.items c.if-rises.true c.requires.resource c.raise.ensures

pub returns-else-rises-clause-loads : goal.returns-else-rises-clause-loads
returns-else-rises-clause-loads c = fallen c.args.rises c.args.r c.args.worth c.args.loads.now.items
    c.lower.new.loads.items c.if-rises.false c.requires.resource
    (enough_one c.args.rises c.args.r c.args.worth c.args.loads.now.items c.if-rises.false c.requires.can)
    c.lower.ensures
