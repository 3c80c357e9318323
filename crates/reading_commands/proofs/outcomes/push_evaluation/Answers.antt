-- At each turn one monitor leaves what is left and joins the lines.
use Rattle.std.proofs.Common.{◌≡◌, ◌≤◌, ◌<◌, ◌+◌, ◌++◌, [], ◌∙◌, sym, ap, subst, arith, length, drop, get_or}
use Rattle.std.proofs.Common.{append_assoc, OnOk, false, ◌==◌}
use Rattle.std.proofs.Math.ListN.{drop_of_length-le}
use Rattle.std.proofs.lemmas.List.{append-nil}
use Rattle.std.specs.List.{enumerate_from, flat_map, list_any}
use Rattle.khe_base.proofs.ListLemmas.{lines-there, mapped-there, there}
use Rattle.evaluation_report.specs.Lines.{total_line}
use Rattle.reading_commands.specs.Report.{monitor_text}
use Rattle.khe_instance.proofs.CostsLaws.{cost-there}
use Rattle.khe_instance.specs.Evaluated as evaluated
use Rattle.plain_eval.specs.declared.evaluation.Values.{Values}
use Rattle.reading_commands.proofs.outcomes.push_evaluation.Goals as goal

pub loop-number-preserved : goal.loop-number-preserved
loop-number-preserved c = λ s is alone.
    let p = c.args.inst.now in
    let ms = p.monitors in
    let i = c.loop-number.number in
    let within : i < length ms = omega (arith, c.loop-number-test.true, c.monitors-number-end.ensures) in
    let found = there ms i within in
    let f = monitor_text c.args.all p s in
    let rest = flat_map f (enumerate_from (i + 1) (drop (i + 1) ms)) in
    let deviation : get_or c.as_slice-deviations.result.now i 0 ≡ evaluated.deviation_in p s found.value =
    ap (λ ds. get_or ds i 0) (c.as_slice-deviations.ensures ∙ ap (λ (v : Values). v.deviations) is)
    ∙ mapped-there (evaluated.deviation_in p s) ms i found.value 0 found.found in
    let cost : get_or c.as_slice-costs.result.now i 0 ≡ evaluated.cost_in p s (i, found.value) =
    ap (λ cs. get_or cs i 0) (c.as_slice-costs.ensures ∙ ap (λ (v : Values). v.costs) is)
    ∙ cost-there p s i found.value found.found in
    let attached : evaluated.is_detached s i ≡ false = ap (λ ds. list_any (λ d. d.0 == i) ds) alone in
    ap (λ t. t ++ rest) (c.in_ok-push_monitor.ensures s found.value deviation cost attached)
    ∙ append_assoc c.loop-number.text (f (i, found.value)) rest
    ∙ ap (λ t. c.loop-number.text ++ t) (sym (lines-there f ms i i found.value found.found))
    ∙ c.loop-number.invariant s is alone

pub returns : goal.returns
returns c = λ s is alone.
    let p = c.args.inst.now in
    let ms = p.monitors in
    let i = c.loop-number.number in
    let f = monitor_text c.args.all p s in
    let ended : length ms ≤ i = omega (arith, c.loop-number-test.false, c.monitors-number-end.ensures) in
    let none : drop i ms ≡ [] = drop_of_length-le ms ended in
    let lines = flat_map f (enumerate_from 0 ms) in
    let text : c.loop-number.text ≡ c.args.text.now ++ lines =
    sym (append-nil c.loop-number.text)
    ∙ ap (λ xs. c.loop-number.text ++ flat_map f (enumerate_from i xs)) (sym none)
    ∙ c.loop-number.invariant s is alone in
    let totals = evaluated.totals p s in
    let whole =
    ap (λ t. c.loop-number.text ++ t) (c.in_ok-total_line.ensures ∙ ap total_line (ap (λ (v : Values). v.totals) is))
    ∙ ap (λ t. t ++ total_line totals) text
    ∙ append_assoc c.args.text.now lines (total_line totals) in
    subst (λ t. OnOk c.push_text-2.result (c.push_text-2.new.self ≡ t)) whole c.push_text-2.ensures.ok
