-- One set more, which has no more idle times than times.
use Rattle.std.proofs.Common.{◌≡◌, ◌∙◌, sym, ap, ◌+◌, Bool, List, [], ◌∷◌, length, get_or, arith}
use Rattle.std.proofs.lemmas.List.Sums.{sum_by_more}
use Rattle.khe_base.specs.Bits.{is_set}
use Rattle.khe_base.specs.Busy.{idle_times}
use Rattle.resource_monitors.proofs.row_measures.idle_outside_of.Goals as goal

pub loop-mask-preserved : goal.loop-mask-preserved
loop-mask-preserved c =
    let masks = c.args.masks.now in
    let i = c.loop-mask.mask-index in
    let mask = c.mask-item.result in
    let here : c.from-total.result ≡ idle_times (is_set (c.args.word ∷ [])) mask =
    c.from-total.ensures ∙ c.idle_in.ensures.value in
    let its = here ∙ ap (idle_times (is_set (c.args.word ∷ []))) c.mask-item.is in
    let few = c.idle_in.ensures.small in
    let from = c.from-total.ensures in
    let long : length mask ≡ length (get_or masks i mask) = ap (λ (m : List Bool). length m) c.mask-item.is in
    let size : length (get_or masks i mask) ≡ c.args.times = c.requires.sizes i mask c.loop-mask-test.true in
    record {
      value = (λ j. c.loop-mask.invariant.value j + its j)
          ∙ sym (sum_by_more (idle_times (is_set (c.args.word ∷ []))) masks i mask c.loop-mask-test.true);
      small = let a = c.loop-mask.invariant.small in let b = c.requires.short in
          omega (arith, from, few, long, size, a, b);
    }
