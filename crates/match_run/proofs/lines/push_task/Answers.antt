use Rattle.std.specs.Prelude.{codes}
use Rattle.match_run.specs.Lines.{number_words}
use Rattle.match_run.proofs.LineLaws.{then_ok}
use Rattle.match_run.proofs.lines.push_task.Goals as goal

pub returns : goal.returns
returns c =
    then_ok c.push_numbers.result c.args.line.now c.push_literal.new.self c.push_numbers.new.line
    (codes "<!-- khe task ") (number_words c.args.task) c.in_ok-push_literal.ensures.ok c.push_numbers.ensures
