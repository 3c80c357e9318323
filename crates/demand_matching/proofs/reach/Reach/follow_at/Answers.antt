use Rattle.std.proofs.Common.{◌+◌, ◌*◌, ap, ◌∙◌, arith}
use Rattle.khe_base.specs.Bits.{is_set}
use Rattle.demand_matching.specs.Table.{owner_of}
use Rattle.demand_matching.proofs.Looks.{common_allowed, common_below}
use Rattle.demand_matching.proofs.Picks.{picked_end}
use Rattle.demand_matching.proofs.Reaching.{reaches_trans}
use Rattle.demand_matching.proofs.Seen.{seen_on}
use Rattle.demand_matching.proofs.reach.Reach.follow_at.Goals as goal

pub follow_word-requires-clause-below : goal.follow_word-requires-clause-below
follow_word-requires-clause-below c =
    let t = c.args.table.now in
    let range = c.requires.table.in_range c.args.from c.args.domain c.requires.domain in
    λ i h e. common_below t c.args.domain c.loop-k.unseen.items c.args.resource c.row-row.result c.window.result
    c.word.result c.loop-k.k i range c.requires.picked c.row-row.ensures.is
    (λ j h. c.window.ensures j h ∙ ap (λ xs. is_set xs (c.row-row.result + 64 * c.loop-k.k + j))
    c.as_slice.ensures.value) c.word.ensures h e

pub follow_word-requires-clause-allowed : goal.follow_word-requires-clause-allowed
follow_word-requires-clause-allowed c =
    let t = c.args.table.now in
    let range = c.requires.table.in_range c.args.from c.args.domain c.requires.domain in
    λ i h e. common_allowed t c.args.domain c.loop-k.unseen.items c.args.from c.args.resource c.row-row.result
    c.window.result c.word.result c.loop-k.k i range c.requires.domain c.requires.picked c.row-row.ensures.is
    (λ j h. c.window.ensures j h ∙ ap (λ xs. is_set xs (c.row-row.result + 64 * c.loop-k.k + j))
    c.as_slice.ensures.value) c.word.ensures h e

pub loop-k-preserved : goal.loop-k-preserved
loop-k-preserved c =
    let t = c.args.table.now in
    let inv = c.loop-k.invariant in
    let e = c.in_ok-follow_word.ensures in
    let range = c.requires.table.in_range c.args.from c.args.domain c.requires.domain in
    record {
      reaches = reaches_trans t c.args.self.now c.loop-k.self c.follow_word.new.self inv.reaches e.reaches;
      seen = e.seen;
      reached = seen_on t c.args.domain c.loop-k.self.marks c.follow_word.new.self.marks c.loop-k.unseen.items
          c.args.resource c.row-row.result c.window.result c.word.result c.loop-k.k range c.requires.picked
          c.row-row.ensures.is
          (λ j h. c.window.ensures j h ∙ ap (λ xs. is_set xs (c.row-row.result + 64 * c.loop-k.k + j))
          c.as_slice.ensures.value) c.word.ensures inv.seen e.reaches.marks inv.reached e.reached;
    }

pub returns-clause-reached : goal.returns-clause-reached
returns-clause-reached c =
    λ n by p owner. c.loop-k.invariant.reached n by
    (omega (arith, picked_end c.args.table.now.times c.args.domain.times n p, c.span-first.ensures.end)) p
    (ap (λ r. owner_of c.args.table.now (r + n)) c.row-row.ensures.is ∙ owner)
