use Rattle.std.proofs.Common.{subst, ◌∙◌}
use Rattle.khe_instance.specs.declared.parts.Parts.{Parts}
use Rattle.ejection_repair.specs.Repaired.{runs_from}
use Rattle.ejection_repair.specs.Stuck.{AreStuckSpans}
use Rattle.ejection_repair.proofs.SearchLaws as search
use Rattle.ejection_repair.proofs.RunLaws as runs
use Rattle.ejection_repair.proofs.repairing.round.Goals as goal

pub loop-gone-preserved : goal.loop-gone-preserved
loop-gone-preserved g c =
    let w = c.args.engine.now in let u = c.loop-gone.engine in let i = c.loop-gone.invariant in let e =
    c.in-Through.ensures in
    let r = runs.round_through w u c.args.aim.now.lowest c.args.depth c.args.aim.now.diversifier c.args.left.now
    c.loop-gone.left c.sweep.new.left c.loop-gone.gone
    (λ a t. runs_from w.parts c.args.depth c.args.aim.now.diversifier c.args.left.now a t w.state) i.back
    c.requires.lowest e.looks.0 i.fewer c.loop-gone-test.true i.runs in
    record {
      back = search.back_again w u c.sweep.new.engine i.back e.kept e.room e.looks.1 e.looks.2;
      spans = let P : Parts → Type 0 = λ q. AreStuckSpans q c.sweep.new.spans in subst P i.back.parts e.spans;
      fewer = r.0;
      runs = r.1;
    }

pub returns-in-Found-clause-goes : goal.returns-in-Found-clause-goes
returns-in-Found-clause-goes g c =
    let w = c.args.engine.now in let u = c.loop-gone.engine in let i = c.loop-gone.invariant in
    runs.round_found w u c.args.aim.now.lowest c.args.depth c.args.aim.now.diversifier c.args.left.now c.loop-gone.left
    c.sweep.new.left c.loop-gone.gone c.sweep.new.engine.state
    (λ a t. runs_from w.parts c.args.depth c.args.aim.now.diversifier c.args.left.now a t w.state) i.back
    c.requires.lowest c.in-Found.ensures.looks i.fewer c.loop-gone-test.true i.runs

pub returns-in-Spent-clause-goes : goal.returns-in-Spent-clause-goes
returns-in-Spent-clause-goes g c =
    let w = c.args.engine.now in let u = c.loop-gone.engine in let i = c.loop-gone.invariant in let e =
    c.in-Spent.ensures.looks in (
      e.1 ∙ i.back.state,
      e.3,
      runs.round_spent w u c.args.aim.now.lowest c.args.depth c.args.aim.now.diversifier c.args.left.now
          c.loop-gone.left c.loop-gone.gone
          (λ a t. runs_from w.parts c.args.depth c.args.aim.now.diversifier c.args.left.now a t w.state) i.back
          c.requires.lowest e.0 i.fewer c.loop-gone-test.true i.runs,
    )

pub returns-clause-goes : goal.returns-clause-goes
returns-clause-goes g c =
    let w = c.args.engine.now in let i = c.loop-gone.invariant in (
      i.back.state,
      i.fewer,
      runs.round_done w c.args.depth c.args.aim.now.diversifier c.args.left.now c.loop-gone.left c.loop-gone.gone
          (λ a t. runs_from w.parts c.args.depth c.args.aim.now.diversifier c.args.left.now a t w.state)
          c.loop-gone-test.false i.runs,
    )
