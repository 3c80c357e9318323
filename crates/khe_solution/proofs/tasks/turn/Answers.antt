use Rattle.khe_solution.proofs.KeptLaws.{turned_is}
use Rattle.khe_solution.proofs.tasks.turn.Goals as goal

pub returns-clause-put : goal.returns-clause-put
returns-clause-put c = turned_is c.args.rows.now c.put.new.rows c.put-2.new.rows c.args.number c.args.old c.args.new
    c.put.ensures.stride c.put.ensures.put c.put-2.ensures.put
