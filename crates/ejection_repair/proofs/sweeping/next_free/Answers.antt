use Rattle.std.proofs.Common.{subst, ap, arith, length}
use Rattle.khe_instance.specs.declared.parts.Parts.{Parts}
use Rattle.ejection_repair.specs.Rounds.{defects_ahead}
use Rattle.ejection_repair.specs.Stuck.{AreStuckFrom, AreStuckSpans}
use Rattle.ejection_repair.specs.Values.{costs_at}
use Rattle.repair_moves.specs.Stuck.{IsStuck}
use Rattle.ejection_repair.proofs.StuckLaws as laws
use Rattle.ejection_repair.proofs.sweeping.next_free.Goals as goal

pub loop-defect-preserved : goal.loop-defect-preserved
loop-defect-preserved g c =
    let E = c.args.engine.now in
    let costs = costs_at E.parts E.state in
    let i = c.loop-defect.invariant in
    let d = c.in-Some.defect.0 in
    let end = c.end_from.result in
    let S : Parts → Type 0 = λ q. IsStuck q d in
    let F : Parts → Type 0 = λ q. AreStuckFrom q d end in
    let P : Parts → Type 0 = λ q. AreStuckSpans q c.end_from.new.self in
    let own = subst S c.instance-inst.ensures (c.is_stuck.ensures.stuck c.if-not-is_stuck.false) in
    let all = subst F c.instance-inst.ensures c.end_from.ensures.stuck in
    let next = ap length c.in-Some.ensures.next in
    let passed = c.pass_to.ensures.fewer costs in
    let before = i.fewer in
    record {
      spans = subst P c.instance-inst.ensures c.end_from.ensures.spans;
      same = λ f leaves.
          laws.free_past E.parts f (defects_ahead costs c.args.round.now) (defects_ahead costs c.loop-defect.round)
          (defects_ahead costs c.next_of.new.round) (defects_ahead costs c.pass_to.new.round) d leaves own
          (i.same f leaves) c.in-Some.ensures.next
          (c.pass_to.ensures.same E.parts costs f leaves
          (λ whole n a b. all n (let e = c.in-Some.ensures.onward whole in omega (arith, e, a)) b));
      fewer = omega (arith, next, passed, before);
    }
