use Rattle.std.proofs.Common.{◌≡◌, None, sym, ap, subst, ◌∙◌, arith}
use Rattle.monitor_graph.specs.Boards.{Board, grouping_of}
use Rattle.monitor_graph.specs.Groups.{HaveRoom}
use Rattle.monitor_graph.specs.Edits as groups
use Rattle.khe_engine.specs.Records.{IsRecorded}
use Rattle.khe_engine.specs.States.{state_of, changes}
use Rattle.khe_engine.proofs.StateLaws.{refusal_groups, edited_groups, made_groups, recorded_groups}
use Rattle.khe_engine.proofs.editing.edit_groups.Goals as goal

pub back-back-requires : goal.back-back-requires
back-back-requires g c =
    let s = state_of c.args.solution.now.slots (g.N.GraphWatcher.board c.args.listeners.now) in
    record {
      ours = c.requires.sort;
      accepted = ap (λ (b : Board). groups.refusal (grouping_of b) c.args.edit) c.graph-graph.ensures
          ∙ sym (refusal_groups c.args.inst.now s c.args.edit c.requires.sort) ∙ c.requires.accepted;
    }

pub keep-requires : goal.keep-requires
keep-requires g c = record { room = c.requires.room }

pub regroup-requires : goal.regroup-requires
regroup-requires g c =
    let s = state_of c.args.solution.now.slots (g.N.GraphWatcher.board c.args.listeners.now) in
    record {
      of = c.requires.of;
      ours = c.requires.sort;
      accepted = sym (refusal_groups c.args.inst.now s c.args.edit c.requires.sort) ∙ c.requires.accepted;
      room = c.requires.seat;
    }

pub returns : goal.returns
returns g c =
    let p = c.args.inst.now in
    let e = c.args.edit in
    let old = g.N.GraphWatcher.board c.args.listeners.now in
    let new = g.N.GraphWatcher.board c.regroup.new.self in
    let s = state_of c.args.solution.now.slots old in
    let s2 = state_of c.args.solution.now.slots new in
    let since = c.args.journal.now.since in
    let since2 = c.keep.new.journal.since in
    let r = c.regroup.ensures in
    let back = c.back-back.result in
    let at = c.graph-graph.ensures in
    let accepted : groups.refusal s.grouping e ≡ None =
    sym (refusal_groups p s e c.requires.sort) ∙ c.requires.accepted in
    let now : s2 ≡ record s { grouping = groups.edited s.grouping e } = λ i. record {
      slots = c.args.solution.now.slots;
      grouping = r.grouping i;
    } in
    record {
      parts = c.requires.parts;
      of = r.of;
      told = r.told ∙ c.requires.told;
      marked = r.marked;
      seats = r.seats;
      made = r.made ∙ sym (made_groups s e c.requires.sort);
      state = now ∙ sym (edited_groups s e c.requires.sort);
      record_ = subst (λ x. IsRecorded p x (changes s e) s s2 since since2) (sym r.seats)
          (recorded_groups p old.seats s s2 e back since since2 c.requires.sort accepted
          (subst (λ (b : Board). back ≡ groups.back_of (grouping_of b) e) at c.back-back.ensures.record_)
          (subst (λ (b : Board). groups.CanUndo (groups.edited (grouping_of b) e) back) at c.back-back.ensures.leads)
          (subst (λ (b : Board). groups.undone (groups.edited (grouping_of b) e) back ≡ grouping_of b) at
          c.back-back.ensures.grouping)
          (subst (λ (b : Board). HaveRoom b.groups b.seats) at c.facts.ensures.seats) now c.keep.ensures.since);
      spare = c.keep.ensures.spare;
      steps = let owed = r.owed in omega (arith, owed);
    }
