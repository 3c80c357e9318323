-- The resource of one more task has a row of its own.
use Rattle.std.proofs.Common.{arith, ◌∙◌, sym, take}
use Rattle.std.proofs.lemmas.List.{take_all}
use Rattle.std.proofs.lemmas.List.Elements.{All-more, All-same, All-weaker}
use Rattle.std.proofs.lemmas.Option.{IfSome_then}
use Rattle.khe_instance.specs.declared.states.Duty.{Duty}
use Rattle.resource_deviations.specs.Rows.{HasRow}
use Rattle.resource_deviations.proofs.rows.rows_of.Goals as goal

pub loop-duty-preserved : goal.loop-duty-preserved
loop-duty-preserved c =
    let duties = c.args.duties.now in
    let old = c.loop-duty.of.items in
    let new = c.with_row-count.new.of.items in
    let kept : (d : Duty) → HasRow old d → HasRow new d =
    λ d h. IfSome_then d.resource h (λ r some. c.with_row-count.ensures.kept r.0 some) in
    record {
      rows = c.with_row-count.ensures.rows;
      size = c.with_row-count.ensures.size ∙ c.loop-duty.invariant.size;
      there = All-more (HasRow new) duties c.loop-duty.duty-index _ c.loop-duty-test.true
          (All-weaker (HasRow old) (HasRow new) kept (take c.loop-duty.duty-index duties) c.loop-duty.invariant.there)
          c.with_row-count.ensures.there;
      few =
          let more = c.with_row-count.ensures.count in
          let so_far = c.loop-duty.invariant.few in
          omega (arith, more, so_far);
    }

pub returns-clause-there : goal.returns-clause-there
returns-clause-there c =
    All-same (HasRow c.loop-duty.of.items) c.args.duties.now _
    (sym (take_all c.loop-duty.duty-index c.args.duties.now
    (let end = c.loop-duty-test.false in omega (arith, end)))) c.loop-duty.invariant.there
