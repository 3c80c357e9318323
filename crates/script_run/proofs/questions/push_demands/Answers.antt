-- At each turn one demand leaves what is left and joins what waits, of which something may go on.
use Rattle.std.proofs.Common.{◌≡◌, ◌+◌, ◌++◌, [], ◌∙◌, Some, drop, get_or, slice_get, subst}
use Rattle.std.proofs.Math.ListN.{drop_of_length-le}
use Rattle.std.proofs.lemmas.Option.{slice_get-get_or}
use Rattle.std.specs.List.{flat_map}
use Rattle.evaluation_report.specs.Demands.{demand_line}
use Rattle.hall_report.specs.declared.demand.Demand.{Demand}
use Rattle.hall_report.specs.declared.demand.Demand.TheVariants.{Task}
use Rattle.khe_io.specs.Amid.{IsAmid}
use Rattle.khe_io.proofs.AmidLemmas.{always-err, amid-cut, amid-stop}
use Rattle.script_run.proofs.AddedLaws.{amid_item}
use Rattle.script_run.proofs.ShowLaws.{texts-there}
use Rattle.script_run.proofs.questions.push_demands.Goals as goal

abbrev none : Demand
none = Task (record { 0 = 0 }) 0 0

pub returns-in_err-push_demand_line-clause-front : goal.returns-in_err-push_demand_line-clause-front
returns-in_err-push_demand_line-clause-front g c =
    let xs = c.args.demands.now in
    always-err c.from_residual.result
    (amid-stop (g.G.Onward.taken c.args.onward.now) (g.G.Onward.taken c.loop-demand.onward) c.loop-demand.text
    (flat_map demand_line (drop c.loop-demand.demand-index xs)) (c.args.text.now ++ flat_map demand_line xs)
    c.loop-demand.invariant.amid)

pub returns-in_err-pass-clause-front : goal.returns-in_err-pass-clause-front
returns-in_err-pass-clause-front g c =
    let xs = c.args.demands.now in
    let i = c.loop-demand.demand-index in
    let d = get_or xs i none in
    let at : slice_get xs i ≡ Some d = slice_get-get_or xs i none c.loop-demand-test.true in
    let before = g.G.Onward.taken c.args.onward.now in
    let now = g.G.Onward.taken c.loop-demand.onward in
    let rest = flat_map demand_line (drop (i + 1) xs) in
    let whole = c.args.text.now ++ flat_map demand_line xs in
    let pushed = amid_item before now c.loop-demand.text (demand_line d) c.push_demand_line.new.line
    (flat_map demand_line (drop i xs)) rest whole (texts-there demand_line xs i d at)
    c.in_ok-push_demand_line.ensures c.loop-demand.invariant.amid in
    always-err c.from_residual-in_err-pass.result
    (amid-cut before now (g.G.Onward.taken c.pass.new.self) c.push_demand_line.new.line rest whole pushed
    c.in_err-pass.ensures.front)

pub loop-demand-preserved : goal.loop-demand-preserved
loop-demand-preserved g c =
    let xs = c.args.demands.now in
    let i = c.loop-demand.demand-index in
    let d = get_or xs i none in
    let at : slice_get xs i ≡ Some d = slice_get-get_or xs i none c.loop-demand-test.true in
    let before = g.G.Onward.taken c.args.onward.now in
    let now = g.G.Onward.taken c.loop-demand.onward in
    let rest = flat_map demand_line (drop (i + 1) xs) in
    let whole = c.args.text.now ++ flat_map demand_line xs in
    let pushed = amid_item before now c.loop-demand.text (demand_line d) c.push_demand_line.new.line
    (flat_map demand_line (drop i xs)) rest whole (texts-there demand_line xs i d at)
    c.in_ok-push_demand_line.ensures c.loop-demand.invariant.amid in
    record {
      amid = c.in_ok-pass.ensures.amid before rest whole pushed;
      faultless = c.in_ok-pass.ensures.faultless ∙ c.loop-demand.invariant.faultless;
    }

pub returns-clause-added : goal.returns-clause-added
returns-clause-added g c =
    let xs = c.args.demands.now in
    let none_left : drop c.loop-demand.demand-index xs ≡ [] = drop_of_length-le xs c.loop-demand-test.false in
    subst (λ ys. IsAmid (g.G.Onward.taken c.args.onward.now) (g.G.Onward.taken c.loop-demand.onward) c.loop-demand.text
    (flat_map demand_line ys) (c.args.text.now ++ flat_map demand_line xs)) none_left c.loop-demand.invariant.amid
