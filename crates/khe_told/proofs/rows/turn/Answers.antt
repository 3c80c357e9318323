-- The meet's row is there, and with its task slots it is turned as the change asks.
use Rattle.khe_told.proofs.StoredLaws.{may_turn, turned_order, turned_slots}
use Rattle.khe_told.proofs.rows.turn.Goals as goal

pub turn_tasks-requires : goal.turn_tasks-requires
turn_tasks-requires c =
    (may_turn c.args.rows.now.items c.args.given.now.items c.args.change c.meet-at.result.0 c.index-row.result.now
    c.meet-at.ensures c.index-row.ensures c.requires.order c.requires.there c.requires.suits).task

pub returns-clause-order : goal.returns-clause-order
returns-clause-order c =
    turned_order c.args.rows.now.items c.args.given.now.items c.turn_tasks.new.given.items c.args.change
    c.meet-at.result.0 c.index-row.result.now c.span_after.result
    (may_turn c.args.rows.now.items c.args.given.now.items c.args.change c.meet-at.result.0 c.index-row.result.now
    c.meet-at.ensures c.index-row.ensures c.requires.order c.requires.there c.requires.suits)
    c.meet-at.ensures c.turn_tasks.ensures c.requires.order

pub returns-clause-slots : goal.returns-clause-slots
returns-clause-slots c =
    turned_slots c.args.rows.now.items c.args.given.now.items c.turn_tasks.new.given.items c.args.change
    c.meet-at.result.0 c.index-row.result.now c.span_after.result
    (may_turn c.args.rows.now.items c.args.given.now.items c.args.change c.meet-at.result.0 c.index-row.result.now
    c.meet-at.ensures c.index-row.ensures c.requires.order c.requires.there c.requires.suits)
    c.meet-at.ensures c.span_after.ensures c.turn_tasks.ensures c.requires.order
