-- An event more was drawn; after the last one nothing is left.
use Rattle.std.proofs.Common.{◌≤◌, ◌∷◌, [], All, sym, subst}
use Rattle.std.proofs.lemmas.List.Elements.{All-append, All-cons, All-nil}
use Rattle.archive_generator.specs.declared.drawing.DrawnEvent.{DrawnEvent}
use Rattle.archive_generator.specs.Job as spec
use Rattle.archive_generator.specs.Names.{below}
use Rattle.archive_generator.proofs.ListLemmas.{drop_below, turn_value, turn_state, turn_end_value, turn_end_state}
use Rattle.archive_generator.proofs.drawing.draw_events.Goals as goal

abbrev IsShort : DrawnEvent → Type 0
IsShort e = e.duration ≤ 3

pub loop-number-preserved : goal.loop-number-preserved
loop-number-preserved c =
    let n = c.loop-number.number in
    let before = c.loop-number.invariant in
    let e = c.draw_event.ensures in
    let left = drop_below c.args.size n c.loop-number-test.true in
    record {
      value = turn_value spec.event (below c.args.size) n n c.loop-number.draws.state c.draw_event.new.draws.state
          c.draw_event.result c.loop-number.events c.push.new.self _ c.in_ok-push.ensures.ok left e.value e.state
          before.value;
      state = turn_state spec.event (below c.args.size) n n c.loop-number.draws.state c.draw_event.new.draws.state _
          left e.state before.state;
      short = subst (All IsShort) (sym c.in_ok-push.ensures.ok) (All-append IsShort c.loop-number.events
          (c.draw_event.result ∷ []) before.short (All-cons IsShort c.draw_event.result [] e.short (All-nil IsShort)));
    }

pub returns-clause-value : goal.returns-clause-value
returns-clause-value c = turn_end_value spec.event c.args.size c.loop-number.number c.loop-number.draws.state
    c.loop-number.events _ c.loop-number-test.false c.loop-number.invariant.value

pub returns-clause-state : goal.returns-clause-state
returns-clause-state c = turn_end_state spec.event c.args.size c.loop-number.number c.loop-number.draws.state _
    c.loop-number-test.false c.loop-number.invariant.state
