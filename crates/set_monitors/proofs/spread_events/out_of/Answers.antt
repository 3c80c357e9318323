use Rattle.std.proofs.Common.{ℕ, ◌≡◌, ◌≤◌, ◌<◌, ◌+◌, ◌∙◌, Some, get_or, slice_get, length, sym, ap, ap₂, subst, arith}
use Rattle.std.proofs.lemmas.List.Sums.{sum_by_more}
use Rattle.std.proofs.lemmas.Option.{same_Some, slice_get-get_or}
use Rattle.khe_base.specs.Bounds.{count_outside}
use Rattle.khe_base.specs.declared.limits.TheConstants.{DURATION, NUMBER}
use Rattle.khe_instance.specs.declared.rules.Spread.{Spread}
use Rattle.set_monitors.proofs.spread_events.out_of.Goals as goal

pub overflow_add-total : goal.overflow_add-total
overflow_add-total c =
    let i = c.loop-i.i in
    let ns = c.args.counts.now in
    let here = c.loop-i-test.true in
    let q = c.index-spreads-i.result in
    let n = get_or ns i 0 in
    let l : i < length ns = omega (arith, here, c.requires.amount) in
    let few : n ≤ DURATION = c.requires.few i n (slice_get-get_or ns i 0 l) in
    let least : q.min ≤ NUMBER = subst (λ (x : Spread). x.min ≤ NUMBER) (sym c.index-spreads-i.is)
    (c.requires.least i q here) in
    omega (
      arith,
      few,
      least,
      here,
      c.requires.listed,
      c.loop-i.invariant.bound,
      c.count_out-total.ensures.small,
      c.from.ensures,
    )

pub loop-i-preserved : goal.loop-i-preserved
loop-i-preserved c =
    let ss = c.args.spreads.now in
    let ns = c.args.counts.now in
    let i = c.loop-i.i in
    let here = c.loop-i-test.true in
    let q = c.index-spreads-i.result in
    let n = get_or ns i 0 in
    let l : i < length ns = omega (arith, here, c.requires.amount) in
    let at : slice_get ss i ≡ Some q = slice_get-get_or ss i q here ∙ ap Some (sym c.index-spreads-i.is) in
    let there : slice_get ns i ≡ Some n = slice_get-get_or ns i 0 l in
    let few : n ≤ DURATION = c.requires.few i n there in
    let least : q.min ≤ NUMBER = subst (λ (x : Spread). x.min ≤ NUMBER) (sym c.index-spreads-i.is)
    (c.requires.least i q here) in
    let old = c.loop-i.invariant in
    let read : c.from.result ≡ n = c.from.ensures in
    record {
      outside = λ f are.
          (let part = λ (s : Spread). count_outside (f s.group) s.min s.max in
          ap₂ (λ (a b : ℕ). a + b) (old.outside f are)
          (c.count_out-total.ensures.exact ∙ ap (λ k. count_outside k q.min q.max)
          (read ∙ same_Some n (f q.group) (sym there ∙ are i q at)) ∙ ap part c.index-spreads-i.is)
          ∙ sym (sum_by_more part ss i q here));
      bound = omega (arith, few, least, old.bound, c.count_out-total.ensures.small, read);
    }
