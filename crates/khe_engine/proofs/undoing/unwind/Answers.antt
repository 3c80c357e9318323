use Rattle.std.proofs.Common.{◌≡◌, ◌+◌, ◌∷◌, arith, ap, sym, subst, ◌∙◌}
use Rattle.khe_told.specs.Watchers.{watcher_counts}
use Rattle.undo_paths.specs.Stack.{inner, outer}
use Rattle.khe_engine.specs.States.{state_of, undone, undone_changes}
use Rattle.khe_engine.specs.Records.{undone_all, MarksLead, undo_cost}
use Rattle.khe_engine.proofs.RecordLaws.{pop_lead, pop_marks, pop_records}
use Rattle.khe_engine.proofs.undoing.unwind.Goals as goal

pub loop-back-preserved : goal.loop-back-preserved
loop-back-preserved g c =
    let v = c.loop-back.invariant in
    let p = c.args.inst.now in
    let n = (g.N.GraphWatcher.board c.loop-back.listeners).seats in
    let s0 = state_of c.loop-back.solution.slots (g.N.GraphWatcher.board c.loop-back.listeners) in
    let s1 = state_of c.revert.new.solution.slots (g.N.GraphWatcher.board c.revert.new.listeners) in
    let j0 = c.loop-back.journal.since in
    let j1 = c.pop.new.self.since in
    let b = c.in-Some.back in
    let e = c.in-Some.ensures in
    let r = c.revert.ensures in
    let st : s1 ≡ undone s0 b = r.state in
    let first : inner j0 ≡ b ∷ inner j1 = ap inner e.0 in
    let l = pop_lead p n s0 j0 j1 b e.0 e.1 v.leads in
    record {
      parts = r.parts;
      state = ap (λ x. undone_all x (inner j1)) st ∙ sym (ap (undone_all s0) first) ∙ v.state;
      leads = subst (λ x. MarksLead p x s1 j1) (sym r.seats) (subst (λ x. MarksLead p n x j1) (sym st) l.1);
      outer = sym (ap outer e.0) ∙ v.outer;
      marks = pop_marks j0 j1 b e.0 e.1 ∙ v.marks;
      spare = let a = pop_records j0 j1 b e.0 e.1 in let f = v.spare in let d = e.2 in omega (arith, a, f, d);
      of = r.of;
      told = r.told;
      marked = r.marked ∙ v.marked;
      seats = r.seats ∙ v.seats;
      steps =
          let a = v.steps in
          let f = r.steps in
          let d : undo_cost p s0 (inner j0) ≡ watcher_counts p s1.slots (undone_changes s0 b) + undo_cost p s1
          (inner j1) =
          ap (undo_cost p s0) first ∙ (λ i. watcher_counts p (sym st i).slots (undone_changes s0 b) + undo_cost p
          (sym st i) (inner j1)) in
          omega (arith, a, f, d);
    }
