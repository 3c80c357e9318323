use Rattle.std.proofs.Common.{◌≡◌, ◌∙◌, ap, ap₂, subst, sym, ◌+◌, ◌≤◌, ℕ, get_or, arith}
use Rattle.std.proofs.lemmas.List.Sums.{sum_by_more}
use Rattle.khe_base.specs.Bounds.{count_outside}
use Rattle.khe_base.specs.declared.limits.TheConstants.{NUMBER}
use Rattle.khe_instance.specs.declared.rules.Spread.{Spread}
use Rattle.event_deviations.specs.Groups.{starting_in}
use Rattle.event_deviations.proofs.at_groups.spread_events.Goals as goal

pub loop-spread-preserved : goal.loop-spread-preserved
loop-spread-preserved c =
    let meets = c.args.index.now.meets in
    let es = c.args.events.now in
    let ss = c.args.spreads.now in
    let i = c.loop-spread.spread-index in
    let here = c.loop-spread-test.true in
    let s = c.spread-item.result in
    let old = c.loop-spread.invariant in
    let f = λ (s : Spread). count_outside (starting_in meets s.group es) s.min s.max in
    let counts = c.count_starts.ensures in
    let own : c.count_out-total.result ≡ f (get_or ss i s) =
    c.count_out-total.ensures.exact
    ∙ (λ k. count_outside ((c.sum_in.ensures ∙ counts.exact s.group) k) s.min s.max)
    ∙ ap f c.spread-item.is in
    let least : s.min ≤ NUMBER = subst (λ (x : Spread). x.min ≤ NUMBER) (sym c.spread-item.is)
    (c.requires.least i s here) in
    record {
      exact = ap₂ (λ (a b : ℕ). a + b) old.exact own ∙ sym (sum_by_more f ss i s here);
      bound = omega (arith, old.bound, c.count_out-total.ensures.small, c.sum_in.ensures, counts.bound s.group);
    }
