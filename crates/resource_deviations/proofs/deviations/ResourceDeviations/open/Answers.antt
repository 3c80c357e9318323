-- One more task is added up.
use Rattle.std.proofs.Common.{◌≡◌, ◌≤◌, arith, length, subst, sym, take, length-take-le}
use Rattle.std.proofs.lemmas.List.Elements.{All-weaker}
use Rattle.khe_instance.specs.States.{IsDuty}
use Rattle.resource_deviations.specs.Filled.{counted}
use Rattle.resource_deviations.specs.Rows.{IsResource}
use Rattle.resource_deviations.proofs.FilledLemmas.{counts-few, filled-more}
use Rattle.khe_instance.proofs.DutiesLemmas.{are-duties}
use Rattle.resource_deviations.proofs.deviations.ResourceDeviations.open.Goals as goal

pub rows_of-requires-clause-resources : goal.rows_of-requires-clause-resources
rows_of-requires-clause-resources c =
    let p = c.args.inst.now in
    let ds = c.args.duties.now in
    let each = (are-duties p c.requires.0 ds c.facts.ensures c.requires.1).each in
    All-weaker (IsDuty p) (IsResource c.resources.result)
    (λ d h. subst (λ n. IsResource n d) (sym c.resources.ensures) h.given) ds each

pub rows_of-requires-clause-few : goal.rows_of-requires-clause-few
rows_of-requires-clause-few c = (are-duties c.args.inst.now c.requires.0 c.args.duties.now c.facts.ensures c.requires.1).few

pub add_counts-requires-clause-duty : goal.add_counts-requires-clause-duty
add_counts-requires-clause-duty c = (are-duties c.args.inst.now c.requires.0 c.args.duties.now c.facts.ensures
    c.requires.1).each c.loop-duty.duty-index _ c.loop-duty-test.true

pub add_counts-requires-clause-counts : goal.add_counts-requires-clause-counts
add_counts-requires-clause-counts c = λ r t.
    let few = (are-duties c.args.inst.now c.requires.0 c.args.duties.now c.facts.ensures c.requires.1).few in
    let so_far = take c.loop-duty.duty-index c.args.duties.now in
    let running : counted c.in_ok-rows.rows.of.items c.loop-duty.table r t ≤ length so_far =
    counts-few c.args.inst.now so_far c.in_ok-rows.rows.of.items c.in_ok-rows.rows.count c.loop-duty.table c.loop-duty.workloads.items c.loop-duty.invariant r t in
    let long : length so_far ≡ c.loop-duty.duty-index =
    length-take-le c.loop-duty.duty-index c.args.duties.now (omega arith) in
    omega arith

pub add_workload-requires-clause-duty : goal.add_workload-requires-clause-duty
add_workload-requires-clause-duty c = (are-duties c.args.inst.now c.requires.0 c.args.duties.now c.facts.ensures
    c.requires.1).each c.loop-duty.duty-index _ c.loop-duty-test.true

pub loop-duty-preserved : goal.loop-duty-preserved
loop-duty-preserved c =
    let few = (are-duties c.args.inst.now c.requires.0 c.args.duties.now c.facts.ensures c.requires.1).few in
    filled-more c.args.inst.now c.args.duties.now c.in_ok-rows.rows.of.items c.in_ok-rows.rows.count c.loop-duty.table c.add_counts.new.table c.loop-duty.workloads.items
    c.add_workload.new.workloads.items c.loop-duty.duty-index _
    c.loop-duty-test.true few c.loop-duty.invariant
    c.add_counts.ensures.room c.add_counts.ensures.counts
    c.add_workload.ensures.room c.add_workload.ensures.sums c.add_workload.ensures.small
