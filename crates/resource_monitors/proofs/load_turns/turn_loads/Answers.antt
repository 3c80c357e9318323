-- A turn of a slot turns the workloads, and who may have another deviation waits.
use Rattle.std.proofs.Common.{ℕ, ◌∙◌, List, Option, ap, slice_get, sym}
use Rattle.khe_base.specs.declared.numbers.ResourceId.{ResourceId}
use Rattle.std.specs.Option.{option_map_or}
use Rattle.khe_told.specs.Turns.{turned}
use Rattle.khe_told.specs.declared.slots.Span.{Span}
use Rattle.resource_monitors.proofs.LoadFollowLaws.{can_exchange, loads_then, watchers_then}
use Rattle.resource_monitors.proofs.LoadStepLaws.{unmoved_by}
use Rattle.resource_monitors.proofs.load_turns.turn_loads.Goals as goal

pub follow_all-requires-clause-can : goal.follow_all-requires-clause-can
follow_all-requires-clause-can g c = can_exchange c.args.inst.now c.facts.ensures c.args.told.now c.args.turn.now
    c.requires.turns
    _ (λ i. record {
      event = c.event-event.ensures i;
      less = (c.length_of-less.ensures ∙ ap (λ o. option_map_or (λ (y : Span). y.duration) o 0) c.before-2.ensures) i;
      more = (c.length_of-more.ensures ∙ ap (λ o. option_map_or (λ (y : Span). y.duration) o 0) c.after.ensures) i;
      before = c.given_before-before.ensures i;
      later = c.given_after-later.ensures i;
    }) c.args.loads.now.items c.requires.loads

abbrev lasts : Option Span → ℕ
lasts o = option_map_or (λ (y : Span). y.duration) o 0

pub follow_all-requires-clause-still : goal.follow_all-requires-clause-still
follow_all-requires-clause-still g c = λ j n.
    (let same = c.altered-places.ensures j n in (
      ap (λ (xs : List (Option ResourceId)). slice_get xs j) c.given_before-before.ensures ∙ same.0
          ∙ sym (ap (λ (xs : List (Option ResourceId)). slice_get xs j) c.given_after-later.ensures),
      (c.length_of-less.ensures ∙ ap lasts c.before-2.ensures) ∙ ap lasts same.1
          ∙ sym (c.length_of-more.ensures ∙ ap lasts c.after.ensures),
    ))

pub returns-clause-loads : goal.returns-clause-loads
returns-clause-loads g c = loads_then c.args.inst.now c.facts.ensures c.args.told.now c.args.turn.now c.requires.turns
    _ (λ i. record {
      event = c.event-event.ensures i;
      less = (c.length_of-less.ensures ∙ ap (λ o. option_map_or (λ (y : Span). y.duration) o 0) c.before-2.ensures) i;
      more = (c.length_of-more.ensures ∙ ap (λ o. option_map_or (λ (y : Span). y.duration) o 0) c.after.ensures) i;
      before = c.given_before-before.ensures i;
      later = c.given_after-later.ensures i;
    })
    c.args.loads.now.items c.requires.loads c.follow_all.new.loads.items c.follow_all.ensures.resources
    c.follow_all.ensures.loads

pub returns-clause-unmoved : goal.returns-clause-unmoved
returns-clause-unmoved g c = λ hears. unmoved_by c.args.inst.now c.facts.ensures c.args.told.now
    (turned c.args.told.now c.args.turn.now) c.args.loads.now.items c.follow_all.new.loads.items
    (g.W.Waits.waits c.follow_all.new.waits) c.requires.loads
    (loads_then c.args.inst.now c.facts.ensures c.args.told.now c.args.turn.now c.requires.turns
    _ (λ i. record {
      event = c.event-event.ensures i;
      less = (c.length_of-less.ensures ∙ ap (λ o. option_map_or (λ (y : Span). y.duration) o 0) c.before-2.ensures) i;
      more = (c.length_of-more.ensures ∙ ap (λ o. option_map_or (λ (y : Span). y.duration) o 0) c.after.ensures) i;
      before = c.given_before-before.ensures i;
      later = c.given_after-later.ensures i;
    })
    c.args.loads.now.items c.requires.loads c.follow_all.new.loads.items c.follow_all.ensures.resources
    c.follow_all.ensures.loads)
    (c.follow_all.ensures.unmoved hears)

pub returns-clause-watchers : goal.returns-clause-watchers
returns-clause-watchers g c = watchers_then c.args.inst.now c.facts.ensures c.args.told.now c.args.turn.now
    c.requires.turns
    _ (λ i. record {
      event = c.event-event.ensures i;
      less = (c.length_of-less.ensures ∙ ap (λ o. option_map_or (λ (y : Span). y.duration) o 0) c.before-2.ensures) i;
      more = (c.length_of-more.ensures ∙ ap (λ o. option_map_or (λ (y : Span). y.duration) o 0) c.after.ensures) i;
      before = c.given_before-before.ensures i;
      later = c.given_after-later.ensures i;
    })
    (g.W.Waits.waits c.args.waits.now) (g.W.Waits.waits c.follow_all.new.waits) c.follow_all.ensures.listed
