use Rattle.std.proofs.Common.{◌≡◌, ◌≤◌, ◌+◌, true, false, ap, subst, sym, ◌∙◌, arith}
use Rattle.khe_instance.specs.declared.parts.Parts.{Parts}
use Rattle.khe_told.specs.Watchers.{watcher_counts}
use Rattle.khe_solution.specs.Backs as backs
use Rattle.khe_engine.specs.States.{state_of, is_back_of_groups}
use Rattle.khe_engine.proofs.StateLaws.{undone_groups, undone_meets, list_meets}
use Rattle.khe_engine.proofs.undoing.revert.Goals as goal

pub returns-then-is_back_of_groups-clause-state : goal.returns-then-is_back_of_groups-clause-state
returns-then-is_back_of_groups-clause-state g c =
    let s = state_of c.args.solution.now.slots (g.N.GraphWatcher.board c.args.listeners.now) in
    let sort : is_back_of_groups c.args.back ≡ true = sym c.is_back_of_groups.ensures ∙ c.if-is_back_of_groups.true in
    (λ i. record { slots = c.args.solution.now.slots; grouping = c.undo_grouping.ensures.grouping i })
    ∙ sym (undone_groups s c.args.back sort)

pub returns-else-is_back_of_groups-clause-state : goal.returns-else-is_back_of_groups-clause-state
returns-else-is_back_of_groups-clause-state g c =
    let s = state_of c.args.solution.now.slots (g.N.GraphWatcher.board c.args.listeners.now) in
    let sort : is_back_of_groups c.args.back ≡ false = sym c.is_back_of_groups.ensures ∙ c.if-is_back_of_groups.false in
    let u = c.undo.ensures in
    let rest = g.met.N.GraphWatcher.same_groups c.args.listeners.now c.undo.new.watcher u.rest in
    (λ i. record { slots = u.slots i; grouping = sym rest.grouping i }) ∙ sym (undone_meets s c.args.back sort)

pub returns-else-is_back_of_groups-clause-steps : goal.returns-else-is_back_of_groups-clause-steps
returns-else-is_back_of_groups-clause-steps g c =
    let s = state_of c.args.solution.now.slots (g.N.GraphWatcher.board c.args.listeners.now) in
    let sort : is_back_of_groups c.args.back ≡ false = sym c.is_back_of_groups.ensures ∙ c.if-is_back_of_groups.false in
    let taken = subst (λ (q : Parts). c.undo.new.steps + g.N.Watcher.owed c.undo.new.watcher q
    ≤ c.args.steps.now + g.N.Watcher.owed c.args.listeners.now q + watcher_counts q c.undo.new.self.slots
    (backs.undone_changes c.args.solution.now.slots c.args.back)) c.requires.parts c.undo.ensures.steps in
    let same = ap (watcher_counts c.args.inst.now c.undo.new.self.slots) (list_meets s c.args.back sort) in
    omega (arith, taken, same)
