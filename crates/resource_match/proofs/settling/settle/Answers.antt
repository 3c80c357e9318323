use Rattle.std.proofs.Common.{◌≡◌, ◌+◌, ◌<◌, ℕ, List, Option, Some, sym, subst}
use Rattle.resource_match.specs.declared.search.Label.{Label}
use Rattle.resource_match.specs.Choices.{choice_at}
use Rattle.resource_match.specs.Exits.{AreWays}
use Rattle.resource_match.specs.Trees.{IsShiftIn}
use Rattle.resource_match.proofs.Flags.{has_range}
use Rattle.resource_match.proofs.Ways.{ways_kept}
use Rattle.resource_match.proofs.Ended.{Ended, world_of, whole_in, tasks_in, resources_in, whole_small, has_once}
use Rattle.resource_match.proofs.Ended.{new_bounds, bounds_again, shift_begins}
use Rattle.resource_match.proofs.settling.settle.Goals as goal

pub price_tasks-requires-clause-small : goal.price_tasks-requires-clause-small
price_tasks-requires-clause-small c =
    whole_small c.args.costs.now c.args.task c.as_slice.result.now c.as_slice-2.result.now c.as_slice-3.result.now
    c.find_end-end.new.room.waiting.items c.find_end-end.new.room.closed.items c.find_end-end.new.room.labels.items
    c.as_slice-4.result.now
    c.find_end-end.result c.requires.costs c.find_end-end.ensures.tree c.as_slice-4.ensures.value

pub price_resources-requires-clause-small : goal.price_resources-requires-clause-small
price_resources-requires-clause-small c =
    whole_small c.args.costs.now c.args.task c.as_slice.result.now c.as_slice-2.result.now c.as_slice-3.result.now
    c.find_end-end.new.room.waiting.items c.find_end-end.new.room.closed.items c.find_end-end.new.room.labels.items
    c.as_slice-7.result.now
    c.find_end-end.result c.requires.costs c.find_end-end.ensures.tree c.as_slice-7.ensures.value

pub price_resources-requires-clause-range : goal.price_resources-requires-clause-range
price_resources-requires-clause-range c =
    subst (λ (xs : List (Option ℕ)). (k r : ℕ) → choice_at xs k ≡ Some r → r < c.args.costs.now.resources)
    (sym c.as_slice-6.ensures.value)
    (has_range c.args.costs.now c.args.task c.args.matching.now.chosen.items c.args.matching.now.owners.items
    c.requires.settled.matching)

pub price_resources-requires-clause-once : goal.price_resources-requires-clause-once
price_resources-requires-clause-once c =
    subst (λ (xs : List (Option ℕ)). (i k r : ℕ) → choice_at xs i ≡ Some r → choice_at xs k ≡ Some r → i ≡ k)
    (sym c.as_slice-6.ensures.value)
    (has_once c.args.costs.now c.args.task c.args.matching.now.chosen.items c.args.matching.now.owners.items
    c.requires.settled.matching)

pub shift-requires-clause-shift : goal.shift-requires-clause-shift
shift-requires-clause-shift c =
    let m = c.args.matching.now in
    let x : Ended = record {
      c = c.args.costs.now;
      task = c.args.task;
      chosen = m.chosen.items;
      owners = m.owners.items;
      us = m.tasks.items;
      vs = m.resources.items;
      waiting = c.find_end-end.new.room.waiting.items;
      closed = c.find_end-end.new.room.closed.items;
      ls = c.find_end-end.new.room.labels.items;
      e = c.find_end-end.result;
      us' = c.price_tasks.new.prices.items;
      vs' = c.price_resources.new.prices.items;
      costs = c.requires.costs;
      inside = c.requires.task;
      matching = c.requires.settled.matching;
      bounds = c.requires.settled.bounds;
      exact = c.requires.settled.exact;
      whole =
          whole_in c.args.costs.now c.args.task m.chosen.items c.as_slice.result.now m.owners.items
          c.as_slice-2.result.now
          m.tasks.items c.as_slice-3.result.now c.find_end-end.new.room.waiting.items
          c.find_end-end.new.room.closed.items
          c.find_end-end.new.room.labels.items c.find_end-end.result c.as_slice.ensures.value c.as_slice-2.ensures.value
          c.as_slice-3.ensures.value c.find_end-end.ensures.tree;
      tasks =
          tasks_in c.args.costs.now c.find_end-end.new.room.closed.items c.as_slice-5.result.now
          c.find_end-end.new.room.labels.items
          c.as_slice-4.result.now c.find_end-end.result.cost m.tasks.items c.price_tasks.new.prices.items
          c.as_slice-5.ensures.value c.as_slice-4.ensures.value c.price_tasks.ensures;
      resources =
          resources_in c.args.costs.now m.chosen.items c.as_slice-6.result.now c.find_end-end.new.room.closed.items
          c.as_slice-8.result.now
          c.find_end-end.new.room.labels.items c.as_slice-7.result.now c.find_end-end.result.cost m.resources.items
          c.price_resources.new.prices.items c.as_slice-6.ensures.value c.as_slice-8.ensures.value
          c.as_slice-7.ensures.value
          c.price_resources.ensures;
    } in
    let begins = subst (λ (ls : List Label). IsShiftIn (world_of x) ls m.chosen.items m.owners.items
    c.find_end-end.result.task c.find_end-end.result.choice)
    (sym c.as_slice-9.ensures.value) (shift_begins x) in
    (world_of x, begins)

pub returns-clause-settled : goal.returns-clause-settled
returns-clause-settled c =
    let m = c.args.matching.now in
    let x : Ended = record {
      c = c.args.costs.now;
      task = c.args.task;
      chosen = m.chosen.items;
      owners = m.owners.items;
      us = m.tasks.items;
      vs = m.resources.items;
      waiting = c.find_end-end.new.room.waiting.items;
      closed = c.find_end-end.new.room.closed.items;
      ls = c.find_end-end.new.room.labels.items;
      e = c.find_end-end.result;
      us' = c.price_tasks.new.prices.items;
      vs' = c.price_resources.new.prices.items;
      costs = c.requires.costs;
      inside = c.requires.task;
      matching = c.requires.settled.matching;
      bounds = c.requires.settled.bounds;
      exact = c.requires.settled.exact;
      whole =
          whole_in c.args.costs.now c.args.task m.chosen.items c.as_slice.result.now m.owners.items
          c.as_slice-2.result.now
          m.tasks.items c.as_slice-3.result.now c.find_end-end.new.room.waiting.items
          c.find_end-end.new.room.closed.items
          c.find_end-end.new.room.labels.items c.find_end-end.result c.as_slice.ensures.value c.as_slice-2.ensures.value
          c.as_slice-3.ensures.value c.find_end-end.ensures.tree;
      tasks =
          tasks_in c.args.costs.now c.find_end-end.new.room.closed.items c.as_slice-5.result.now
          c.find_end-end.new.room.labels.items
          c.as_slice-4.result.now c.find_end-end.result.cost m.tasks.items c.price_tasks.new.prices.items
          c.as_slice-5.ensures.value c.as_slice-4.ensures.value c.price_tasks.ensures;
      resources =
          resources_in c.args.costs.now m.chosen.items c.as_slice-6.result.now c.find_end-end.new.room.closed.items
          c.as_slice-8.result.now
          c.find_end-end.new.room.labels.items c.as_slice-7.result.now c.find_end-end.result.cost m.resources.items
          c.price_resources.new.prices.items c.as_slice-6.ensures.value c.as_slice-8.ensures.value
          c.as_slice-7.ensures.value
          c.price_resources.ensures;
    } in
    let begins = subst (λ (ls : List Label). IsShiftIn (world_of x) ls m.chosen.items m.owners.items
    c.find_end-end.result.task c.find_end-end.result.choice)
    (sym c.as_slice-9.ensures.value) (shift_begins x) in
    let s = c.shift.ensures.shifted (world_of x) begins in
    record {
      matching = s.matching;
      bounds = bounds_again x.c (x.task + 1) x.owners c.shift.new.owners.items x.us' x.vs' (new_bounds x) s.free;
      exact = s.exact;
    }

pub returns-clause-ways : goal.returns-clause-ways
returns-clause-ways c =
    ways_kept c.args.costs.now c.args.matching.now.owners.items c.shift.new.owners.items
    c.find_end-end.new.room.ways.items
    c.shift.ensures.kept
    (subst (λ (xs : List (Option ℕ)). AreWays c.args.costs.now xs c.find_end-end.new.room.ways.items)
    c.as_slice-2.ensures.value
    c.find_end-end.ensures.ways)
