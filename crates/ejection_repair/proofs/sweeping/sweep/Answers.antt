use Rattle.std.proofs.Common.{Some, None, sym, ap, subst, ◌∙◌}
use Rattle.khe_instance.specs.declared.parts.Parts.{Parts}
use Rattle.ejection_repair.specs.Chains.{extensions}
use Rattle.ejection_repair.specs.Looks.{chain_at, look}
use Rattle.ejection_repair.specs.Stuck.{AreStuckSpans}
use Rattle.ejection_repair.proofs.SearchLaws as search
use Rattle.ejection_repair.proofs.StuckLaws as stuck
use Rattle.ejection_repair.proofs.SweepLaws as sweeps
use Rattle.ejection_repair.proofs.sweeping.sweep.Goals as goal

pub loop-defect-init : goal.loop-defect-init
loop-defect-init g c =
    let E = c.args.engine.now in
    record {
      back = search.back_itself E;
      spans = c.requires.spans;
      looks = ap (look E.parts c.args.aim.now.lowest c.args.left.now)
          (sweeps.chains_begun E c.no_trail-trail.result c.round_of-round.result c.args.aim.now.diversifier c.args.more
          c.requires.marked c.no_trail-trail.ensures.none c.round_of-round.ensures);
    }

pub loop-defect-preserved : goal.loop-defect-preserved
loop-defect-preserved g c =
    let E = c.args.engine.now in let u = c.loop-defect.engine in let i = c.loop-defect.invariant in let e =
    c.in-Through.ensures in
    record {
      back = search.back_again E u c.extend.new.engine i.back e.kept e.room e.looks.1 e.looks.2;
      spans = let P : Parts → Type 0 = λ q. AreStuckSpans q c.next_free.new.spans in
          subst P i.back.parts c.in-Some.ensures.spans;
      looks = sym (sweeps.sweep_through E u c.no_trail-trail.result c.args.aim.now.diversifier c.args.more
          c.in-Some.defect.0 c.loop-defect.left c.extend.new.left _ _ c.args.aim.now.lowest i.back
          (stuck.free_back E u _ (Some c.in-Some.defect) c.loop-defect.round c.next_free.new.round i.back (c.in-Some.ensures.next
          (extensions E.parts E.marked c.args.aim.now.diversifier c.args.more (chain_at c.no_trail-trail.result E))
          (stuck.leaves_out E u c.no_trail-trail.result c.args.aim.now.diversifier c.args.more i.back))) e.looks.0) ∙ i.looks;
    }

pub returns-in-Found-clause-looks : goal.returns-in-Found-clause-looks
returns-in-Found-clause-looks g c =
    let E = c.args.engine.now in let u = c.loop-defect.engine in let i = c.loop-defect.invariant in
    sym i.looks ∙ sweeps.sweep_found E u c.no_trail-trail.result c.args.aim.now.diversifier c.args.more
    c.in-Some.defect.0 c.loop-defect.left _ _ _ _ c.args.aim.now.lowest i.back
    (stuck.free_back E u _ (Some c.in-Some.defect) c.loop-defect.round c.next_free.new.round i.back (c.in-Some.ensures.next
    (extensions E.parts E.marked c.args.aim.now.diversifier c.args.more (chain_at c.no_trail-trail.result E))
    (stuck.leaves_out E u c.no_trail-trail.result c.args.aim.now.diversifier c.args.more i.back))) c.in-Found.ensures.looks

pub returns-in-Spent-clause-looks : goal.returns-in-Spent-clause-looks
returns-in-Spent-clause-looks g c =
    let E = c.args.engine.now in let u = c.loop-defect.engine in let i = c.loop-defect.invariant in let e =
    c.in-Spent.ensures.looks in (
      sym i.looks ∙ sweeps.sweep_spent E u c.no_trail-trail.result c.args.aim.now.diversifier c.args.more
          c.in-Some.defect.0 c.loop-defect.left _ _ c.args.aim.now.lowest i.back
          (stuck.free_back E u _ (Some c.in-Some.defect) c.loop-defect.round c.next_free.new.round i.back (c.in-Some.ensures.next
          (extensions E.parts E.marked c.args.aim.now.diversifier c.args.more (chain_at c.no_trail-trail.result E))
          (stuck.leaves_out E u c.no_trail-trail.result c.args.aim.now.diversifier c.args.more i.back))) e.0,
      e.1 ∙ i.back.state,
      e.2 ∙ i.back.saved,
      e.3,
    )

pub returns-clause-looks : goal.returns-clause-looks
returns-clause-looks g c =
    let E = c.args.engine.now in let u = c.loop-defect.engine in let i = c.loop-defect.invariant in (
      sym i.looks ∙ sweeps.sweep_done E c.no_trail-trail.result c.args.aim.now.diversifier c.args.more
          c.loop-defect.left _ c.args.aim.now.lowest
          (stuck.free_back E u _ None c.loop-defect.round c.next_free.new.round i.back (c.in_default.ensures.next
          (extensions E.parts E.marked c.args.aim.now.diversifier c.args.more (chain_at c.no_trail-trail.result E))
          (stuck.leaves_out E u c.no_trail-trail.result c.args.aim.now.diversifier c.args.more i.back))),
      i.back.state,
      i.back.saved,
    )
