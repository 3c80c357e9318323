use Rattle.std.proofs.Common.{sym, ap, ◌∙◌, arith, inl, inr, None}
use Rattle.std.proofs.lemmas.List.{get_or_read}
use Rattle.demand_matching.specs.Domains.{is_picked}
use Rattle.demand_matching.proofs.Counting.{cases_last}
use Rattle.demand_matching.proofs.Picks.{picked_hit}
use Rattle.demand_matching.proofs.Reaching.{reaches_trans, all_picked_reached}
use Rattle.demand_matching.proofs.reach.Reach.follow.Goals as goal
use Rattle.khe_base.proofs.IdSetLemmas.{member_below}

pub follow_at-requires-clause-picked : goal.follow_at-requires-clause-picked
follow_at-requires-clause-picked c =
    let t = c.args.table.now in
    ap (is_picked t.resources c.in-Some.domain.resources) c.number-resource.ensures
    ∙ picked_hit t.resources c.in-Some.domain.resources c.loop-i.i (omega (arith, c.count-i-end.ensures))

pub number-resource-requires-clause-given : goal.number-resource-requires-clause-given
number-resource-requires-clause-given c =
    let t = c.args.table.now in
    let its = sym (get_or_read t.demands.items c.args.from c.index.result.now
    (omega (arith, member_below c.args.self.now.marks c.args.from c.requires.from, c.requires.reach.size))
    c.index.ensures None) ∙ c.in-Some.is in
    (c.requires.table.in_range c.args.from c.in-Some.domain its).resources

pub loop-i-preserved : goal.loop-i-preserved
loop-i-preserved c =
    let inv = c.loop-i.invariant in
    let e = c.in_ok-follow_at.ensures in
    record {
      reaches = reaches_trans c.args.table.now c.args.self.now c.loop-i.self c.follow_at.new.self inv.reaches e.reaches;
      seen = e.seen;
      reached = λ j n by l p o. elim (cases_last j c.loop-i.i (omega arith)) [
        | inl x ↦ e.reached n by p (rw (c.number-resource.ensures, ← x) o)
        | inr less ↦ e.reaches.marks by (inv.reached j n by less p o)
      ];
    }

pub returns-clause-reached : goal.returns-clause-reached
returns-clause-reached c =
    let t = c.args.table.now in
    let its = sym (get_or_read t.demands.items c.args.from c.index.result.now
    (omega (arith, member_below c.args.self.now.marks c.args.from c.requires.from, c.requires.reach.size))
    c.index.ensures None) ∙ c.in-Some.is in
    λ s by may owner. all_picked_reached t c.in-Some.domain c.loop-i.self c.args.from c.loop-i.i s by its
    (omega (arith, c.count-i-end.ensures)) c.loop-i.invariant.reached may owner
