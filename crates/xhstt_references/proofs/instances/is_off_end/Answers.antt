-- A time that has a number is below the count.
use Rattle.std.proofs.Common.{◌≡◌, ◌∙◌, ◌<◌, ◌+◌, ◌-◌, ap, sym, length, ltb, false, Some, arith}
use Rattle.std.specs.Option.{option_map_or}
use Rattle.khe_base.specs.Names.{number_of}
use Rattle.xhstt_references.proofs.UnknownLemmas.{number_below, left_over}
use Rattle.xhstt_references.proofs.instances.is_off_end.Goals as goal

pub overflow_sub-result : goal.overflow_sub-result
overflow_sub-result c =
    let below : c.in-Some.number < length c.args.times.now =
    number_below c.args.time.now _ _ (sym c.number.ensures ∙ c.in-Some.is) in
    omega (arith, c.len-count.ensures.len)

pub returns-in-Some : goal.returns-in-Some
returns-in-Some c =
    let n = c.in-Some.number in
    let d = c.args.duration in
    let times = c.args.times.now in
    let found : number_of c.args.time.now times ≡ Some n = sym c.number.ensures ∙ c.in-Some.is in
    ap (λ k. ltb (k - n) d) c.len-count.ensures.len
    ∙ left_over (length times) n d (number_below c.args.time.now times n found)
    ∙ ap (λ o. option_map_or (λ t. ltb (length times) (t + d)) o false) (sym found)
