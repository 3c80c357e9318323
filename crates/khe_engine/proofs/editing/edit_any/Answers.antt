use Rattle.std.proofs.Common.{◌≡◌, refl, sym, ap, ◌∙◌, arith}
use Rattle.khe_instance.specs.declared.parts.Parts.{Parts}
use Rattle.khe_told.specs.Watchers.{watcher_counts}
use Rattle.monitor_graph.specs.Groups.{seats_at}
use Rattle.khe_engine.specs.Records.{records, saved_of}
use Rattle.khe_engine.specs.States.{State, state_of, refusal, edited, made, changes}
use Rattle.khe_engine.specs.Worlds.{grown}
use Rattle.khe_engine.proofs.RecordLaws.{as_many, marks_same, recorded_lead, recorded_saved}
use Rattle.khe_engine.proofs.StateLaws.{same_state}
use Rattle.khe_engine.proofs.editing.edit_any.Goals as goal

pub make-requires : goal.make-requires
make-requires g c =
    let p = c.args.inst.now in
    let slots = c.args.solution.now.slots in
    let b = g.N.GraphWatcher.board c.args.listeners.now in
    let b1 = g.N.GraphWatcher.board c.prepare.new.listeners in
    let e = c.prepare.ensures in
    let ok = c.in_ok-prepare.ensures in
    record {
      accepted = ap (λ (x : State). refusal p x c.args.edit) (same_state slots b b1 e.lines e.groups)
          ∙ ap (λ (q : Parts). refusal q (state_of slots b) c.args.edit) (sym c.requires.parts) ∙ ok.accepted;
      room = ok.room;
      seat = ok.seat;
      parts = c.requires.parts;
      of = e.of;
      told = e.told ∙ c.requires.told;
    }

pub returns-in_err-prepare-clause-leads : goal.returns-in_err-prepare-clause-leads
returns-in_err-prepare-clause-leads g c =
    let e = c.prepare.ensures in
    let b = g.N.GraphWatcher.board c.args.listeners.now in
    let b1 = g.N.GraphWatcher.board c.prepare.new.listeners in
    marks_same c.args.inst.now b.seats b1.seats (state_of c.args.solution.now.slots b)
    (state_of c.args.solution.now.slots b1) c.args.journal.now.since c.prepare.new.journal.since
    (same_state c.args.solution.now.slots b b1 e.lines e.groups) e.since e.seats c.requires.leads

pub returns-in_err-prepare-clause-spare : goal.returns-in_err-prepare-clause-spare
returns-in_err-prepare-clause-spare g c =
    let n = c.prepare.ensures.kept in
    let l = ap records c.prepare.ensures.since in
    omega (arith, n, l)

pub returns : goal.returns
returns g c =
    let p = c.args.inst.now in
    let slots = c.args.solution.now.slots in
    let b = g.N.GraphWatcher.board c.args.listeners.now in
    let b1 = g.N.GraphWatcher.board c.prepare.new.listeners in
    let b2 = g.N.GraphWatcher.board c.make.new.listeners in
    let e = c.prepare.ensures in
    let m = c.make.ensures in
    let s = state_of slots b in
    let s1 = state_of slots b1 in
    let s2 = state_of c.make.new.solution.slots b2 in
    let since = c.args.journal.now.since in
    let since1 = c.prepare.new.journal.since in
    let since2 = c.make.new.journal.since in
    let cs = changes s1 c.args.edit in
    let same : s1 ≡ s = same_state slots b b1 e.lines e.groups in
    record {
      parts = m.parts;
      of = m.of;
      told = m.told;
      marked = m.marked ∙ e.marked;
      seats = λ k. let a = e.seats k in let n = ap (λ x. seats_at x k) m.seats in omega (arith, a, n);
      leads = recorded_lead p b1.seats b2.seats cs s1 s2 since1 since2 m.record_ (as_many b1.seats b2.seats m.seats)
          (marks_same p b.seats b1.seats s s1 since since1 same e.since e.seats c.requires.leads);
      accepted = ap (λ (q : Parts). refusal q s c.args.edit) (sym c.requires.parts) ∙ c.in_ok-prepare.ensures.accepted;
      fault = tt;
      made = m.made ∙ ap (λ (x : State). made x c.args.edit) same;
      state = m.state ∙ ap (λ (x : State). edited x c.args.edit) same;
      saved = recorded_saved p b2.seats cs s1 s2 since1 since2 m.record_
          ∙ (λ i. grown (changes (same i) c.args.edit) (saved_of (same i) (e.since i)));
      steps =
          let taken = m.steps in
          let owed = e.owed in
          let counts = ap (λ (x : State). watcher_counts p slots (changes x c.args.edit)) same in
          omega (arith, taken, owed, counts);
      err = tt;
      spare = let a = m.spare in let n = e.kept in let l = ap records e.since in omega (arith, a, n, l);
      room = λ a k l. refl;
      unmarked = λ a k l. refl;
    }
