-- One set more, which has no more idle times than times.
use Rattle.std.proofs.Common.{◌≡◌, ◌≤◌, ◌∙◌, sym, ap, ◌+◌, Bool, List, length, get_or, arith}
use Rattle.std.proofs.lemmas.List.Sums.{sum_by_more}
use Rattle.timetables.specs.Counts.{row_of, idle_times}
use Rattle.resource_deviations.proofs.FilledLemmas.{idle_few}
use Rattle.resource_deviations.proofs.measures.idle_outside.Goals as goal

pub loop-mask-preserved : goal.loop-mask-preserved
loop-mask-preserved c =
    let masks = c.args.masks.now in
    let i = c.loop-mask.mask-index in
    let mask = c.mask-item.result in
    let row = row_of c.args.table.now c.args.r.0 in
    let here : c.from-total.result ≡ idle_times row mask = c.from-total.ensures ∙ c.idle_in.ensures in
    let its = here ∙ ap (idle_times row) c.mask-item.is in
    let few : idle_times row mask ≤ length mask = idle_few row mask in
    let long : length mask ≡ length (get_or masks i mask) = ap (λ (m : List Bool). length m) c.mask-item.is in
    let size : length (get_or masks i mask) ≡ length row = c.requires.sizes i mask c.loop-mask-test.true in
    record {
      value = (λ j. c.loop-mask.invariant.value j + its j)
          ∙ sym (sum_by_more (idle_times row) masks i mask c.loop-mask-test.true);
      small = omega (arith, here, few, long, size, c.requires.times, c.loop-mask.invariant.small);
    }
