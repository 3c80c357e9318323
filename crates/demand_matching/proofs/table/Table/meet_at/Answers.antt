use Rattle.std.proofs.Common.{◌+◌, ◌*◌, ap, sym, ◌∙◌, arith, get_or}
use Rattle.khe_base.specs.Bits.{is_set}
use Rattle.demand_matching.proofs.Looks.{common_below, common_allowed, times_more}
use Rattle.demand_matching.proofs.Picks.{picked_end}
use Rattle.demand_matching.proofs.Searches.{goes_on_trans, domain_kept, taken_kept}
use Rattle.demand_matching.proofs.table.Table.meet_at.Goals as goal

pub meet_word-met-requires-clause-below : goal.meet_word-met-requires-clause-below
meet_word-met-requires-clause-below c =
    let t = c.args.self.now in
    let range = c.requires.table.in_range (get_or c.args.order.now.demands.items c.args.stage.place 0) c.args.domain
    c.requires.domain in
    λ i h e. common_below t c.args.domain c.loop-k.unseen.items c.args.resource c.row-row.result c.window.result
    c.word.result c.loop-k.k i range c.requires.picked c.row-row.ensures.is
    (λ j h. c.window.ensures j h ∙ ap (λ xs. is_set xs (c.row-row.result + 64 * c.loop-k.k + j))
    c.as_slice.ensures.value) c.word.ensures h e

pub meet_word-met-requires-clause-allowed : goal.meet_word-met-requires-clause-allowed
meet_word-met-requires-clause-allowed c =
    let t = c.args.self.now in
    let range = c.requires.table.in_range (get_or c.args.order.now.demands.items c.args.stage.place 0) c.args.domain
    c.requires.domain in
    let its = domain_kept t c.args.order.now c.loop-k.order c.args.stage.place c.args.len c.args.domain
    c.loop-k.invariant.goes_on.keeps c.requires.place c.requires.domain in
    λ i h e. common_allowed t c.args.domain c.loop-k.unseen.items
    (get_or c.loop-k.order.demands.items c.args.stage.place 0)
    c.args.resource c.row-row.result c.window.result c.word.result c.loop-k.k i range its c.requires.picked
    c.row-row.ensures.is
    (λ j h. c.window.ensures j h ∙ ap (λ xs. is_set xs (c.row-row.result + 64 * c.loop-k.k + j))
    c.as_slice.ensures.value) c.word.ensures h e

pub meet_word-met-requires-clause-taken : goal.meet_word-met-requires-clause-taken
meet_word-met-requires-clause-taken c =
    taken_kept c.args.self.now c.args.order.now c.loop-k.order c.args.stage.place c.args.len
    c.loop-k.invariant.goes_on.keeps
    c.requires.place c.requires.taken

pub loop-k-preserved : goal.loop-k-preserved
loop-k-preserved c =
    let t = c.args.self.now in
    let inv = c.loop-k.invariant in
    let g = c.meet_word-met.ensures.goes_on in
    let range = c.requires.table.in_range (get_or c.args.order.now.demands.items c.args.stage.place 0) c.args.domain
    c.requires.domain in
    record {
      goes_on = goes_on_trans t c.args.stage.head c.args.order.now c.loop-k.order c.meet_word-met.new.order
          c.loop-k.unseen.items c.meet_word-met.new.unseen.items c.args.len c.loop-k.met c.meet_word-met.result
          c.requires.table inv.goes_on g;
      reached =
          times_more t c.args.stage.head c.args.domain c.loop-k.order c.meet_word-met.new.order c.loop-k.unseen.items
          c.meet_word-met.new.unseen.items c.args.resource c.row-row.result c.window.result c.word.result c.loop-k.k
          c.loop-k.met c.meet_word-met.result range c.requires.picked c.row-row.ensures.is
          (λ j h. c.window.ensures j h ∙ ap (λ xs. is_set xs (c.row-row.result + 64 * c.loop-k.k + j))
          c.as_slice.ensures.value) c.word.ensures inv.goes_on.marked g inv.reached c.meet_word-met.ensures.reached;
    }

pub returns-clause-reached : goal.returns-clause-reached
returns-clause-reached c =
    λ n p. rw (sym c.row-row.ensures.is) (c.loop-k.invariant.reached n
    (omega (arith, picked_end c.args.self.now.times c.args.domain.times n p, c.span-first.ensures.end)) p)
