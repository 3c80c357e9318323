use Rattle.std.proofs.Common.{◌≡◌, ◌+◌, ◌≤◌, None, Ok, arith, sym, ap, subst, ◌∙◌}
use Rattle.khe_instance.specs.declared.parts.Parts.{Parts}
use Rattle.khe_told.specs.Watchers.{watcher_counts}
use Rattle.khe_solution.specs.Backs as backs
use Rattle.khe_solution.specs.Changing as changing
use Rattle.khe_solution.specs.Editing as editing
use Rattle.khe_solution.specs.Refusing as refusing
use Rattle.khe_engine.specs.States.{state_of}
use Rattle.khe_engine.proofs.StateLaws.{other_sort, refusal_meets, edited_meets, made_meets, changes_meets, recorded_meets}
use Rattle.khe_engine.proofs.editing.edit_meets.Goals as goal

pub back-back-requires : goal.back-back-requires
back-back-requires g c =
    let s = state_of c.args.solution.now.slots (g.N.GraphWatcher.board c.args.listeners.now) in
    record {
      ours = other_sort c.args.edit c.requires.sort;
      accepted = ap (λ (q : Parts). refusing.refusal q s.slots c.args.edit) c.requires.parts
          ∙ sym (refusal_meets c.args.inst.now s c.args.edit c.requires.sort) ∙ c.requires.accepted;
    }

pub keep-requires : goal.keep-requires
keep-requires g c = record { room = c.requires.room }

pub edit-requires : goal.edit-requires
edit-requires g c = record {
  ours = other_sort c.args.edit c.requires.sort;
  of = subst (g.N.Watcher.IsOf c.args.listeners.now) (sym c.requires.parts) c.requires.of;
  told = c.requires.told;
}

pub unreachable-requires : goal.unreachable-requires
unreachable-requires g c =
    let s = state_of c.args.solution.now.slots (g.N.GraphWatcher.board c.args.listeners.now) in
    let accepted : refusing.refusal c.args.solution.now.parts s.slots c.args.edit ≡ None =
    ap (λ (q : Parts). refusing.refusal q s.slots c.args.edit) c.requires.parts
    ∙ sym (refusal_meets c.args.inst.now s c.args.edit c.requires.sort) ∙ c.requires.accepted in
    c.in_default.not-Ok (editing.made s.slots c.args.edit)
    (c.edit.ensures.answer ∙ ap (λ o. editing.answer o (editing.made s.slots c.args.edit)) accepted)

pub returns : goal.returns
returns g c =
    let p = c.args.inst.now in
    let e = c.args.edit in
    let sort = c.requires.sort in
    let slots = c.args.solution.now.slots in
    let after = c.edit.new.self.slots in
    let old = g.N.GraphWatcher.board c.args.listeners.now in
    let new = g.N.GraphWatcher.board c.edit.new.watcher in
    let s = state_of slots old in
    let s2 = state_of after new in
    let said = c.in-Ok.ensures in
    let accepted : refusing.refusal c.args.solution.now.parts slots e ≡ None =
    ap (λ (q : Parts). refusing.refusal q slots e) c.requires.parts
    ∙ sym (refusal_meets p s e sort) ∙ c.requires.accepted in
    let ok : c.edit.result ≡ Ok (editing.made slots e) =
    c.edit.ensures.answer ∙ ap (λ o. editing.answer o (editing.made slots e)) accepted in
    let made : c.in-Ok.made ≡ editing.made slots e = cc ok in
    let rest = g.met.N.GraphWatcher.same_groups c.args.listeners.now c.edit.new.watcher said.rest in
    let now : s2 ≡ record s { slots = editing.edited slots e } = λ i. record {
      slots = said.slots i;
      grouping = sym rest.grouping i;
    } in
    record {
      parts = said.parts ∙ c.requires.parts;
      of = subst (g.N.Watcher.IsOf c.edit.new.watcher) c.requires.parts said.of;
      told = said.told;
      marked = sym rest.marked;
      seats = sym rest.seats;
      made = made ∙ sym (made_meets s e sort);
      state = now ∙ sym (edited_meets s e sort);
      record_ = recorded_meets p new.seats s s2 e c.back-back.result c.args.journal.now.since c.keep.new.journal.since sort
          c.back-back.ensures.record_
          (subst (λ (q : Parts). backs.LeadsBack q (editing.edited slots e) c.back-back.result) c.requires.parts
          c.back-back.ensures.leads)
          c.back-back.ensures.slots c.back-back.ensures.list now c.keep.ensures.since;
      spare = c.keep.ensures.spare;
      steps =
          let taken = subst (λ (q : Parts). c.edit.new.steps + g.N.Watcher.owed c.edit.new.watcher q
          ≤ c.args.steps.now + g.N.Watcher.owed c.args.listeners.now q
          + watcher_counts q slots (changing.changes slots e)) c.requires.parts said.steps in
          omega (arith, taken, ap (watcher_counts p slots) (changes_meets s e sort));
    }
