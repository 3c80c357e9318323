-- The totals follow the lines.
use Rattle.std.specs.List.{enumerate_from, flat_map}
use Rattle.evaluation_report.specs.Lines.{total_line}
use Rattle.khe_engine.specs.Values.{totals}
use Rattle.khe_io.proofs.AmidLemmas.{always-err}
use Rattle.script_run.specs.Answers.{monitor_text}
use Rattle.script_run.proofs.AddedLaws.{cut_second}
use Rattle.script_run.proofs.questions.push_monitors.Goals as goal

pub returns-in_err-push_total-clause-front : goal.returns-in_err-push_total-clause-front
returns-in_err-push_total-clause-front g c =
    let p = c.args.engine.now.parts in
    let s = c.args.engine.now.state in
    always-err c.from_residual-in_err-push_total.result
    (cut_second (g.G.Onward.taken c.args.onward.now) (g.G.Onward.taken c.push_monitor_lines.new.onward)
    c.args.text.now (flat_map (monitor_text p s) (enumerate_from 0 p.monitors)) (total_line (totals p s))
    c.push_monitor_lines.new.text c.in_ok-push_monitor_lines.ensures.added)
