-- One set more, which has a busy time or has none.
use Rattle.std.proofs.Common.{◌≡◌, ◌∙◌, sym, ap, ℕ, ◌+◌, Bool, List, [], ◌∷◌, arith}
use Rattle.std.proofs.lemmas.List.Sums.{sum_by_more}
use Rattle.khe_base.specs.Bits.{is_set}
use Rattle.khe_base.specs.Busy.{busy_times}
use Rattle.khe_instance.specs.ResourceDeviation.{used_outside}
use Rattle.resource_monitors.proofs.row_measures.busy_outside_of.Goals as goal

pub loop-mask-preserved : goal.loop-mask-preserved
loop-mask-preserved c =
    let masks = c.args.masks.now in
    let mask = c.mask-item.result in
    let excess : List Bool → ℕ = λ m. used_outside (busy_times (is_set (c.args.word ∷ [])) m) c.args.least
    c.args.greatest in
    let here : c.set_outside-total.result ≡ excess mask =
    c.set_outside-total.ensures.value ∙ ap (λ n. used_outside n c.args.least c.args.greatest) c.busy_in.ensures in
    let its = here ∙ ap excess c.mask-item.is in
    record {
      value = (λ j. c.loop-mask.invariant.value j + its j)
          ∙ sym (sum_by_more excess masks c.loop-mask.mask-index mask c.loop-mask-test.true);
      small = let a = c.loop-mask.invariant.small in let b = c.set_outside-total.ensures.small in omega (arith, a, b);
    }
