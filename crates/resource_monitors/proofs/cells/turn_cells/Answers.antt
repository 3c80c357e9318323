-- A turn of a slot turns the counts, and who may have another deviation waits.
use Rattle.std.proofs.Common.{◌∙◌, List, Option, not, slice_get, sym, ap, refl}
use Rattle.khe_base.specs.declared.numbers.ResourceId.{ResourceId}
use Rattle.khe_told.specs.Turns.{turned}
use Rattle.resource_monitors.specs.Runs.{run_of}
use Rattle.resource_monitors.proofs.FamilyLaws.{unmoved_by}
use Rattle.resource_monitors.proofs.FollowLaws.{below_after, below_before, can_exchange, counts_none, counts_then}
use Rattle.resource_monitors.proofs.FollowLaws.{watchers_then}
use Rattle.resource_monitors.proofs.cells.turn_cells.Goals as goal

pub run_of-emptied-requires : goal.run_of-emptied-requires
run_of-emptied-requires g c = below_before c.args.inst.now c.facts.ensures c.args.told.now c.args.turn.now
    c.requires.turns
    c.before-2.result c.before-2.ensures

pub run_of-filled-requires : goal.run_of-filled-requires
run_of-filled-requires g c = below_after c.args.inst.now c.facts.ensures c.args.told.now c.args.turn.now
    c.requires.turns
    c.after.result c.after.ensures

pub returns-then-is_none-2-clause-counts : goal.returns-then-is_none-2-clause-counts
returns-then-is_none-2-clause-counts g c = λ r t. c.requires.counts r t
    ∙ sym (counts_none c.args.inst.now c.facts.ensures c.args.told.now
    c.args.turn.now c.requires.turns c.run_of-emptied.result c.run_of-filled.result
    (c.run_of-emptied.ensures ∙ ap run_of c.before-2.ensures) (c.run_of-filled.ensures ∙ ap run_of c.after.ensures)
    (c.is_none.ensures ∙ ap not c.if-is_none.true) (c.is_none-then-is_none.ensures ∙ ap not c.if-is_none-2.true)
    r t)

pub returns-then-is_none-2-clause-unmoved : goal.returns-then-is_none-2-clause-unmoved
returns-then-is_none-2-clause-unmoved g c = λ hears. unmoved_by c.args.inst.now g.K.CellKinds.serves_kind
    c.facts.ensures g.met.K.CellKinds.at_cells c.args.told.now (turned c.args.told.now c.args.turn.now)
    c.args.table.now c.args.table.now (g.W.Waits.waits c.args.waits.now) c.requires.counts
    (λ r t. c.requires.counts r t ∙ sym (counts_none c.args.inst.now c.facts.ensures c.args.told.now
    c.args.turn.now c.requires.turns c.run_of-emptied.result c.run_of-filled.result
    (c.run_of-emptied.ensures ∙ ap run_of c.before-2.ensures) (c.run_of-filled.ensures ∙ ap run_of c.after.ensures)
    (c.is_none.ensures ∙ ap not c.if-is_none.true) (c.is_none-then-is_none.ensures ∙ ap not c.if-is_none-2.true)
    r t))
    (λ i m there served idle. refl)

pub follow_all-requires-clause-can : goal.follow_all-requires-clause-can
follow_all-requires-clause-can g c = can_exchange c.args.inst.now c.facts.ensures c.args.told.now c.args.turn.now
    c.requires.turns _ (λ i. record {
      emptied = (c.run_of-emptied.ensures ∙ ap run_of c.before-2.ensures) i;
      filled = (c.run_of-filled.ensures ∙ ap run_of c.after.ensures) i;
      before = c.given_before-before.ensures i;
      later = c.given_after-later.ensures i;
    })
    c.args.table.now c.requires.counts

pub follow_all-requires-clause-still : goal.follow_all-requires-clause-still
follow_all-requires-clause-still g c = λ j n.
    (let same = c.altered-places.ensures j n in (
      ap (λ (xs : List (Option ResourceId)). slice_get xs j) c.given_before-before.ensures ∙ same.0
          ∙ sym (ap (λ (xs : List (Option ResourceId)). slice_get xs j) c.given_after-later.ensures),
      (c.run_of-emptied.ensures ∙ ap run_of c.before-2.ensures) ∙ ap run_of same.1
          ∙ sym (c.run_of-filled.ensures ∙ ap run_of c.after.ensures),
    ))

pub returns-clause-counts : goal.returns-clause-counts
returns-clause-counts g c = counts_then c.args.inst.now c.facts.ensures c.args.told.now c.args.turn.now
    c.requires.turns _ (λ i. record {
      emptied = (c.run_of-emptied.ensures ∙ ap run_of c.before-2.ensures) i;
      filled = (c.run_of-filled.ensures ∙ ap run_of c.after.ensures) i;
      before = c.given_before-before.ensures i;
      later = c.given_after-later.ensures i;
    })
    c.args.table.now c.requires.counts c.follow_all.new.table c.follow_all.ensures.counts

pub returns-clause-unmoved : goal.returns-clause-unmoved
returns-clause-unmoved g c = λ hears. unmoved_by c.args.inst.now g.K.CellKinds.serves_kind c.facts.ensures
    g.met.K.CellKinds.at_cells c.args.told.now (turned c.args.told.now c.args.turn.now) c.args.table.now
    c.follow_all.new.table
    (g.W.Waits.waits c.follow_all.new.waits) c.requires.counts
    (counts_then c.args.inst.now c.facts.ensures c.args.told.now c.args.turn.now
    c.requires.turns _ (λ i. record {
      emptied = (c.run_of-emptied.ensures ∙ ap run_of c.before-2.ensures) i;
      filled = (c.run_of-filled.ensures ∙ ap run_of c.after.ensures) i;
      before = c.given_before-before.ensures i;
      later = c.given_after-later.ensures i;
    })
    c.args.table.now c.requires.counts c.follow_all.new.table c.follow_all.ensures.counts)
    (c.follow_all.ensures.unmoved hears)

pub returns-clause-watchers : goal.returns-clause-watchers
returns-clause-watchers g c = watchers_then c.args.inst.now c.facts.ensures c.args.told.now c.args.turn.now
    c.requires.turns _ (λ i. record {
      emptied = (c.run_of-emptied.ensures ∙ ap run_of c.before-2.ensures) i;
      filled = (c.run_of-filled.ensures ∙ ap run_of c.after.ensures) i;
      before = c.given_before-before.ensures i;
      later = c.given_after-later.ensures i;
    })
    (g.W.Waits.waits c.args.waits.now) (g.W.Waits.waits c.follow_all.new.waits) c.follow_all.ensures.listed
