use Rattle.std.proofs.Common.{◌+◌, arith, drop, length, subst, sym, ap}
use Rattle.std.proofs.lemmas.List.{drop_all, drop_more}
use Rattle.khe_engine.specs.Late.{LeadAlike}
use Rattle.khe_engine.proofs.LateLaws.{none_alike, put_alike, then_alike}
use Rattle.khe_engine.proofs.late.put_all.Goals as goal

pub loop-change-preserved : goal.loop-change-preserved
loop-change-preserved c =
    let v = c.loop-change.invariant in
    let e = c.put.ensures in
    let cs = c.args.changes.now in
    let i = c.loop-change.change-index in
    let before = c.loop-change.list.items in
    let after = c.put.new.list.items in
    let here = drop_more cs i _ c.loop-change-test.true in
    let long = ap length here in
    record {
      room = let a = v.room in let b = e.longer in let d = e.room in omega (arith, a, b, d, long);
      kept = let a = v.kept in let d = e.room in omega (arith, a, d);
      lead = λ es next. v.lead es (subst (λ xs. LeadAlike before xs es) (sym here)
          (then_alike before after (drop (i + 1) cs) es _ (put_alike before after _ e.put) next));
    }

pub returns-clause-lead : goal.returns-clause-lead
returns-clause-lead c =
    let cs = c.args.changes.now in
    let items = c.loop-change.list.items in
    c.loop-change.invariant.lead items (subst (λ xs. LeadAlike items xs items)
    (sym (drop_all c.loop-change.change-index cs c.loop-change-test.false)) (none_alike items))
