-- One set more, which has a busy time or has none.
use Rattle.std.proofs.Common.{◌≡◌, ◌∙◌, sym, ap, ℕ, Bool, true, false, List, [], ◌∷◌, nat_lt, get_or, arith, rules}
use Rattle.std.proofs.lemmas.List.Sums.{count_by_more_yes, count_by_more_no}
use Rattle.khe_base.specs.Bits.{is_set}
use Rattle.khe_base.specs.Busy.{busy_times}
use Rattle.resource_monitors.proofs.row_measures.busy_sets_outside_of.Goals as goal
use Rattle.resource_monitors.proofs.row_measures.busy_sets_outside_of.Goals.{then-meets, else-meets}

pub loop-mask-preserved : goal.loop-mask-preserved
loop-mask-preserved c =
    let masks = c.args.masks.now in
    let i = c.loop-mask.mask-index in
    let mask = c.mask-item.result in
    let count : List Bool → ℕ = busy_times (is_set (c.args.word ∷ [])) in
    let busy : List Bool → Bool = λ m. nat_lt 0 (count m) in
    elim c.if-meets.branch [
      | then-meets w ↦
          let met : c.meets.result ≡ true = search rules in
          let holds : busy (get_or masks i mask) ≡ true =
          ap busy (sym c.mask-item.is) ∙ sym c.meets.ensures ∙ met in
          let more = count_by_more_yes busy masks i mask c.loop-mask-test.true holds in
          record { value = omega (arith, more); small = omega arith }
      | else-meets w ↦
          let unmet : c.meets.result ≡ false = search rules in
          let fails : busy (get_or masks i mask) ≡ false =
          ap busy (sym c.mask-item.is) ∙ sym c.meets.ensures ∙ unmet in
          let more = count_by_more_no busy masks i mask c.loop-mask-test.true fails in
          record { value = omega (arith, more); small = omega arith }
    ]
