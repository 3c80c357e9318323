use Rattle.std.proofs.Common.{ℕ, List, sym, subst, length}
use Rattle.resource_match.specs.declared.search.Label.{Label}
use Rattle.resource_match.specs.Prices.{IsWithin}
use Rattle.resource_match.specs.Settled.{path_limit}
use Rattle.resource_match.specs.Trees.{cost_to}
use Rattle.resource_match.proofs.Flags.{has_range}
use Rattle.resource_match.proofs.Starting.{tree_begins}
use Rattle.resource_match.proofs.Growing.{labels_small, near_small, near_smaller, goes_on, stops}
use Rattle.resource_match.proofs.search.find_end.Goals as goal

pub start-requires-clause-range : goal.start-requires-clause-range
start-requires-clause-range c =
    has_range c.args.costs.now c.args.task c.args.settled.now.chosen.now c.args.settled.now.owners.now
    c.requires.matching

pub follow-requires-clause-range : goal.follow-requires-clause-range
follow-requires-clause-range c =
    has_range c.args.costs.now c.args.task c.args.settled.now.chosen.now c.args.settled.now.owners.now
    c.requires.matching

pub loop-near-init : goal.loop-near-init
loop-near-init c = record {
  ways = c.exit_of-exit.ensures.ways;
  tree =
      tree_begins c.args.costs.now c.args.task c.args.settled.now.chosen.now c.args.settled.now.owners.now
      c.args.settled.now.prices.now
      c.start.new.waiting.items
      c.start.new.closed.items c.start.new.labels.items
      (record {
        costs = c.requires.costs;
        inside = c.requires.task;
        matching = c.requires.matching;
        labels_length = c.start.ensures.labels;
        waiting_length = c.start.ensures.waiting;
        closed_length = c.start.ensures.closed;
        first = c.start.ensures.first;
      })
      c.exit_of-exit.result.choice c.exit_of-exit.result.cost c.exit_of-exit.ensures.is c.exit_of-exit.ensures.small
      c.of.result c.of.ensures.is;
}

pub nearest-requires-clause-small_labels : goal.nearest-requires-clause-small_labels
nearest-requires-clause-small_labels c =
    subst (λ (ls : List Label). (k : ℕ) → IsWithin path_limit (cost_to ls k)) (sym c.as_slice.ensures.value)
    (labels_small c.args.costs.now c.args.task c.args.settled.now.chosen.now c.args.settled.now.owners.now
    c.args.settled.now.prices.now
    c.loop-near.room.waiting.items
    c.loop-near.room.closed.items c.loop-near.room.labels.items c.loop-near.end c.requires.costs
    c.loop-near.invariant.tree)

pub better_end-end-requires-clause-cost : goal.better_end-end-requires-clause-cost
better_end-end-requires-clause-cost c =
    near_small c.args.costs.now c.args.task c.args.settled.now.chosen.now c.args.settled.now.owners.now
    c.args.settled.now.prices.now
    c.loop-near.room.waiting.items
    c.as_slice-in-loop-near.result.now c.loop-near.room.closed.items c.loop-near.room.labels.items c.as_slice.result.now
    c.loop-near.end
    c.in-Some.near c.index-label.result.now c.requires.costs c.loop-near.invariant.tree c.as_slice.ensures.value
    c.as_slice-in-loop-near.ensures.value
    c.in-Some.ensures c.index-label.ensures

pub follow-requires-clause-small : goal.follow-requires-clause-small
follow-requires-clause-small c =
    near_small c.args.costs.now c.args.task c.args.settled.now.chosen.now c.args.settled.now.owners.now
    c.args.settled.now.prices.now
    c.loop-near.room.waiting.items
    c.as_slice-in-loop-near.result.now c.loop-near.room.closed.items c.loop-near.room.labels.items c.as_slice.result.now
    c.loop-near.end
    c.in-Some.near c.index-label.result.now c.requires.costs c.loop-near.invariant.tree c.as_slice.ensures.value
    c.as_slice-in-loop-near.ensures.value
    c.in-Some.ensures c.index-label.ensures

pub loop-near-smaller : goal.loop-near-smaller
loop-near-smaller c =
    near_smaller c.args.settled.now.prices.now c.loop-near.room.waiting.items c.as_slice-in-loop-near.result.now
    c.as_slice.result.now
    (length c.as_slice-in-loop-near.result.now) c.in-Some.near c.as_slice-in-loop-near.ensures.value c.in-Some.ensures

pub loop-near-preserved : goal.loop-near-preserved
loop-near-preserved c = record {
  ways = c.exit_of-way.ensures.ways;
  tree =
      goes_on c.args.costs.now c.args.task c.args.settled.now.chosen.now c.args.settled.now.owners.now
      c.args.settled.now.prices.now
      c.loop-near.room.waiting.items
      c.as_slice-in-loop-near.result.now c.as_slice-in-Some.result.now c.loop-near.room.closed.items
      c.loop-near.room.labels.items
      c.as_slice.result.now
      c.follow.new.labels.items c.loop-near.end c.better_end-end.result c.in-Some.near c.index-label.result.now
      c.exit_of-way.result.choice c.exit_of-way.result.cost c.requires.costs c.requires.task c.requires.matching
      c.requires.prices
      c.loop-near.invariant.tree
      c.as_slice.ensures.value c.as_slice-in-loop-near.ensures.value c.in-Some.ensures c.if-not-is_below.ensures.below
      c.index-label.ensures
      c.as_slice-in-Some.ensures.value c.follow.ensures.labels c.follow.ensures.followed c.exit_of-way.ensures.is
      c.exit_of-way.ensures.small
      c.better_end-end.ensures;
}

pub returns-then-not-is_below-clause-tree : goal.returns-then-not-is_below-clause-tree
returns-then-not-is_below-clause-tree c =
    stops c.args.costs.now c.args.task c.args.settled.now.chosen.now c.args.settled.now.owners.now
    c.args.settled.now.prices.now c.loop-near.room.waiting.items
    c.as_slice-in-loop-near.result.now c.loop-near.room.closed.items c.loop-near.room.labels.items c.as_slice.result.now
    c.loop-near.end
    c.in-Some.near c.loop-near.invariant.tree c.as_slice.ensures.value c.as_slice-in-loop-near.ensures.value
    c.in-Some.ensures
    c.if-not-is_below.ensures.not_below
