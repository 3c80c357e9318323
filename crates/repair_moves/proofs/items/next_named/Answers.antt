use Rattle.std.proofs.Common.{◌≡◌, true, false, sym, ◌∙◌, arith}
use Rattle.repair_moves.specs.Items.{meet_slots}
use Rattle.repair_moves.specs.Named.{is_named}
use Rattle.repair_moves.proofs.ItemLaws as laws
use Rattle.repair_moves.proofs.PickedLaws.{none_more, none_on}
use Rattle.repair_moves.proofs.items.next_named.Goals as goal

pub loop-slot-init : goal.loop-slot-init
loop-slot-init c = record {
  onward = omega arith;
  none = λ k a b. laws.named_below c.args.inst.now c.args.solution.now.slots c.args.rule.now c.args.point
      c.named_within-within.result.start c.named_within-within.result.end k c.facts.ensures.made
      c.facts.ensures.valid.told c.named_within-within.ensures (omega (arith, a, b));
}

pub loop-slot-preserved-then-not-names : goal.loop-slot-preserved-then-not-names
loop-slot-preserved-then-not-names c =
    let has = c.event_of-event.ensures in
    let are = c.slots_of-slot.ensures.are has.0 has.1 in
    let e : c.names.result ≡ false = c.if-not-names.true in
    let o = c.loop-slot.invariant.onward in
    let x = has.2 in
    let y = has.3 in
    let z = are.1 in
    record {
      onward = omega (arith, o, y, z);
      none = none_on (is_named c.args.inst.now c.args.solution.now.slots c.args.rule.now c.args.point) c.args.from
          c.loop-slot.slot c.slots_of-slot.result.end c.loop-slot.invariant.none
          (λ k a b. laws.unnamed c.args.inst.now c.args.solution.now.slots c.args.rule.now c.args.point
          c.event_of-event.result.0 k c.facts.ensures.made c.facts.ensures.valid.told
          (has.0, has.1, omega (arith, x, a), omega (arith, z, b)) (sym c.names.ensures ∙ e));
    }

pub returns-then-is_some : goal.returns-then-is_some
returns-then-is_some c =
    let e : c.names.result ≡ true = c.if-not-names.false in
    let l = c.loop-slot-test.true in
    let m = c.named_within-within.ensures.slots in (
      c.loop-slot.invariant.onward,
      omega (arith, l, m),
      laws.named_event c.args.inst.now c.args.solution.now.slots c.args.rule.now c.args.point c.event_of-event.result.0
          c.loop-slot.slot c.facts.ensures.made c.facts.ensures.valid.told c.event_of-event.ensures
          (sym c.names.ensures ∙ e)
          (laws.live_some _ c.live.result c.is_some.result c.live.ensures c.is_some.ensures c.if-is_some.true),
      c.loop-slot.invariant.none,
    )

pub loop-slot-preserved : goal.loop-slot-preserved
loop-slot-preserved c = record {
  onward = let o = c.loop-slot.invariant.onward in omega (arith, o);
  none = none_more (is_named c.args.inst.now c.args.solution.now.slots c.args.rule.now c.args.point) c.args.from
      c.loop-slot.slot c.loop-slot.invariant.none
      (laws.named_dead c.args.inst.now c.args.solution.now.slots c.args.rule.now c.args.point c.loop-slot.slot
      (laws.live_none _ c.live.result c.is_some.result c.live.ensures c.is_some.ensures c.if-is_some.false));
}

pub returns : goal.returns
returns c =
    let l = c.loop-slot-test.false in
    none_on (is_named c.args.inst.now c.args.solution.now.slots c.args.rule.now c.args.point) c.args.from
    c.loop-slot.slot (meet_slots c.args.inst.now) c.loop-slot.invariant.none
    (λ k a b. laws.named_beyond c.args.inst.now c.args.solution.now.slots c.args.rule.now c.args.point
    c.named_within-within.result.start c.named_within-within.result.end k c.facts.ensures.made
    c.facts.ensures.valid.told c.named_within-within.ensures (omega (arith, a, l)))
