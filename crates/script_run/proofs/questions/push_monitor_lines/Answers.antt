-- At each turn one monitor leaves what is left and joins what waits, of which something may go on.
use Rattle.std.proofs.Common.{◌≤◌, ◌<◌, ◌+◌, ◌++◌, ◌∙◌, ap, subst, arith, length, drop}
use Rattle.std.proofs.Math.ListN.{drop_of_length-le}
use Rattle.std.specs.List.{enumerate_from, flat_map}
use Rattle.khe_base.proofs.ListLemmas.{lines-there, there}
use Rattle.khe_io.specs.Amid.{IsAmid}
use Rattle.khe_io.proofs.AmidLemmas.{always-err, amid-cut, amid-stop}
use Rattle.script_run.specs.Answers.{monitor_answer, monitor_text}
use Rattle.script_run.proofs.AddedLaws.{amid_item}
use Rattle.script_run.proofs.questions.push_monitor_lines.Goals as goal

pub returns-in_err-push_monitor-clause-front : goal.returns-in_err-push_monitor-clause-front
returns-in_err-push_monitor-clause-front g c =
    let ms = c.args.engine.now.parts.monitors in
    let f = monitor_text c.args.engine.now.parts c.args.engine.now.state in
    let i = c.loop-number.number in
    always-err c.from_residual.result
    (amid-stop (g.G.Onward.taken c.args.onward.now) (g.G.Onward.taken c.loop-number.onward) c.loop-number.text
    (flat_map f (enumerate_from i (drop i ms))) (c.args.text.now ++ flat_map f (enumerate_from 0 ms))
    c.loop-number.invariant.amid)

pub returns-in_err-pass-clause-front : goal.returns-in_err-pass-clause-front
returns-in_err-pass-clause-front g c =
    let p = c.args.engine.now.parts in
    let s = c.args.engine.now.state in
    let ms = p.monitors in
    let i = c.loop-number.number in
    let parts = c.instance-inst.ensures in
    let within : i < length ms = omega (
      arith,
      c.loop-number-test.true,
      c.monitors-number-end.ensures,
      ap (λ q. length q.monitors) parts,
    ) in
    let found = there ms i within in
    let f = monitor_text p s in
    let before = g.G.Onward.taken c.args.onward.now in
    let now = g.G.Onward.taken c.loop-number.onward in
    let rest = flat_map f (enumerate_from (i + 1) (drop (i + 1) ms)) in
    let whole = c.args.text.now ++ flat_map f (enumerate_from 0 ms) in
    let pushed = amid_item before now c.loop-number.text (f (i, found.value)) c.push_monitor.new.text
    (flat_map f (enumerate_from i (drop i ms))) rest whole (lines-there f ms i i found.value found.found)
    (c.in_ok-push_monitor.ensures ∙ ap (λ o. c.loop-number.text ++ monitor_answer p s i o) found.found)
    c.loop-number.invariant.amid in
    always-err c.from_residual-in_err-pass.result
    (amid-cut before now (g.G.Onward.taken c.pass.new.self) c.push_monitor.new.text rest whole pushed
    c.in_err-pass.ensures.front)

pub loop-number-preserved : goal.loop-number-preserved
loop-number-preserved g c =
    let p = c.args.engine.now.parts in
    let s = c.args.engine.now.state in
    let ms = p.monitors in
    let i = c.loop-number.number in
    let parts = c.instance-inst.ensures in
    let within : i < length ms = omega (
      arith,
      c.loop-number-test.true,
      c.monitors-number-end.ensures,
      ap (λ q. length q.monitors) parts,
    ) in
    let found = there ms i within in
    let f = monitor_text p s in
    let before = g.G.Onward.taken c.args.onward.now in
    let now = g.G.Onward.taken c.loop-number.onward in
    let rest = flat_map f (enumerate_from (i + 1) (drop (i + 1) ms)) in
    let whole = c.args.text.now ++ flat_map f (enumerate_from 0 ms) in
    let pushed = amid_item before now c.loop-number.text (f (i, found.value)) c.push_monitor.new.text
    (flat_map f (enumerate_from i (drop i ms))) rest whole (lines-there f ms i i found.value found.found)
    (c.in_ok-push_monitor.ensures ∙ ap (λ o. c.loop-number.text ++ monitor_answer p s i o) found.found)
    c.loop-number.invariant.amid in
    record {
      amid = c.in_ok-pass.ensures.amid before rest whole pushed;
      faultless = c.in_ok-pass.ensures.faultless ∙ c.loop-number.invariant.faultless;
    }

pub returns-clause-added : goal.returns-clause-added
returns-clause-added g c =
    let ms = c.args.engine.now.parts.monitors in
    let f = monitor_text c.args.engine.now.parts c.args.engine.now.state in
    let i = c.loop-number.number in
    let ended : length ms ≤ i = omega (
      arith,
      c.loop-number-test.false,
      c.monitors-number-end.ensures,
      ap (λ q. length q.monitors) c.instance-inst.ensures,
    ) in
    subst (λ ys. IsAmid (g.G.Onward.taken c.args.onward.now) (g.G.Onward.taken c.loop-number.onward) c.loop-number.text
    (flat_map f (enumerate_from i ys)) (c.args.text.now ++ flat_map f (enumerate_from 0 ms)))
    (drop_of_length-le ms ended) c.loop-number.invariant.amid
