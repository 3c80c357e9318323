use Rattle.std.proofs.Common.{ap, ◌∙◌, arith, inl, inr, get_or}
use Rattle.demand_matching.specs.Domains.{is_picked}
use Rattle.demand_matching.proofs.Counting.{cases_last}
use Rattle.demand_matching.proofs.Looks.{all_reached}
use Rattle.demand_matching.proofs.Picks.{picked_hit}
use Rattle.demand_matching.proofs.Searches.{goes_on_trans, domain_kept, taken_kept, reached_still}
use Rattle.demand_matching.proofs.table.Table.meet_all.Goals as goal

pub meet_at-met-requires-clause-domain : goal.meet_at-met-requires-clause-domain
meet_at-met-requires-clause-domain c =
    domain_kept c.args.self.now c.args.order.now c.loop-i.order c.args.stage.place c.args.len c.args.domain
    c.loop-i.invariant.goes_on.keeps c.requires.place c.requires.domain

pub meet_at-met-requires-clause-picked : goal.meet_at-met-requires-clause-picked
meet_at-met-requires-clause-picked c =
    let t = c.args.self.now in
    ap (is_picked t.resources c.args.domain.resources) c.number-resource.ensures
    ∙ picked_hit t.resources c.args.domain.resources c.loop-i.i (omega (arith, c.count-i-end.ensures))

pub meet_at-met-requires-clause-taken : goal.meet_at-met-requires-clause-taken
meet_at-met-requires-clause-taken c =
    taken_kept c.args.self.now c.args.order.now c.loop-i.order c.args.stage.place c.args.len
    c.loop-i.invariant.goes_on.keeps
    c.requires.place c.requires.taken

pub loop-i-preserved : goal.loop-i-preserved
loop-i-preserved c =
    let t = c.args.self.now in
    let inv = c.loop-i.invariant in
    let g = c.meet_at-met.ensures.goes_on in
    record {
      goes_on = goes_on_trans t c.args.stage.head c.args.order.now c.loop-i.order c.meet_at-met.new.order
          c.loop-i.unseen.items c.meet_at-met.new.unseen.items c.args.len c.loop-i.met c.meet_at-met.result
          c.requires.table inv.goes_on g;
      reached = λ j n l p. elim (cases_last j c.loop-i.i (omega arith)) [
        | inl x ↦ rw x (rw c.number-resource.ensures at (c.meet_at-met.ensures.reached n p))
        | inr less ↦ reached_still t c.loop-i.order.demands.items c.loop-i.order.spots.items
            c.meet_at-met.new.order.demands.items c.meet_at-met.new.order.spots.items c.loop-i.met c.meet_at-met.result
            _ g.longer g.keeps (inv.reached j n less p)
      ];
    }

pub returns-clause-reached : goal.returns-clause-reached
returns-clause-reached c =
    λ s may. all_reached c.args.self.now c.loop-i.order.spots.items c.args.domain
    (get_or c.args.order.now.demands.items c.args.stage.place 0) c.loop-i.met c.loop-i.i s c.requires.domain
    (omega (arith, c.count-i-end.ensures)) c.loop-i.invariant.reached may
