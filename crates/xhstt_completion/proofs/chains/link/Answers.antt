-- One more entry is linked.
use Rattle.std.proofs.Common.{◌≡◌, ◌∙◌, ◌+◌, ◌-◌, ◌<◌, None, ap, subst, arith, length, get_or}
use Rattle.std.proofs.lemmas.List.{length-replicate, length-set}
use Rattle.xhstt_references.specs.declared.following.Named.{Named}
use Rattle.xhstt_completion.proofs.ChainLemmas.{AreChains, chains-none, chains-more}
use Rattle.xhstt_completion.proofs.FoundLemmas.{linked}
use Rattle.xhstt_completion.proofs.chains.link.Goals as goal

pub loop-at-init : goal.loop-at-init
loop-at-init c =
    let p = c.args._inst.now in
    let entries = c.args._entries.now in
    record {
      within = omega (arith, c.requires.many);
      firsts = ap length c.requires.firsts ∙ length-replicate (length p.events) (length entries);
      nexts = c.requires.nexts;
      chains = chains-none p entries c.args.firsts.now c.args.nexts.now (length c.args.named.now) c.requires.many
          c.requires.firsts;
    }

pub bounds-firsts-event : goal.bounds-firsts-event
bounds-firsts-event c =
    let k = c.loop-at.at - 1 in
    let low : k < length c.args._entries.now = omega (arith, c.loop-at.invariant.within, c.loop-at-test.true) in
    let is = linked c.args._inst.now c.args._entries.now c.args.named.now k
    (record { event = record { 0 = 0 }; time = None; first = 0 })
    c.requires.many c.requires.events low in
    omega (arith, is.below, c.loop-at.invariant.firsts)

pub bounds-firsts-event-in-loop-at : goal.bounds-firsts-event-in-loop-at
bounds-firsts-event-in-loop-at c =
    let k = c.loop-at.at - 1 in
    let low : k < length c.args._entries.now = omega (arith, c.loop-at.invariant.within, c.loop-at-test.true) in
    let is = linked c.args._inst.now c.args._entries.now c.args.named.now k
    (record { event = record { 0 = 0 }; time = None; first = 0 })
    c.requires.many c.requires.events low in
    omega (arith, is.below, c.loop-at.invariant.firsts)

pub loop-at-preserved : goal.loop-at-preserved
loop-at-preserved c =
    let p = c.args._inst.now in
    let entries = c.args._entries.now in
    let firsts = c.loop-at.firsts in
    let nexts = c.loop-at.nexts in
    let k = c.loop-at.at - 1 in
    let d : Named = record { event = record { 0 = 0 }; time = None; first = 0 } in
    let n : Named = get_or c.args.named.now k d in
    let low : k < length entries = omega (arith, c.loop-at.invariant.within, c.loop-at-test.true) in
    let is = linked p entries c.args.named.now k d c.requires.many c.requires.events low in
    let below : n.event.0 < length firsts = omega (arith, is.below, c.loop-at.invariant.firsts) in
    let room : k < length nexts = omega (arith, low, c.loop-at.invariant.nexts) in
    let next : c.loop-at.at ≡ k + 1 = omega (arith, c.loop-at-test.true) in
    let old : AreChains p entries firsts nexts (k + 1) =
    subst (AreChains p entries firsts nexts) next c.loop-at.invariant.chains in
    record {
      within = omega (arith, low);
      firsts = length-set firsts n.event.0 k ∙ c.loop-at.invariant.firsts;
      nexts = length-set nexts k (get_or firsts n.event.0 0) ∙ c.loop-at.invariant.nexts;
      chains = chains-more p entries firsts nexts k is.entry n.event old is.found is.event below room;
    }
