use Rattle.std.specs.Prelude.{codes}
use Rattle.std.specs.Fmt.{decimal}
use Rattle.match_run.proofs.LineLaws.{then_ok}
use Rattle.match_run.proofs.lines.push_many.Goals as goal

pub returns : goal.returns
returns c =
    then_ok c.push_number.result c.args.line.now c.push_literal.new.self c.push_number.new.self
    (codes "<!-- khe match tasks ") (decimal c.args.count) c.in_ok-push_literal.ensures.ok c.push_number.ensures.ok
