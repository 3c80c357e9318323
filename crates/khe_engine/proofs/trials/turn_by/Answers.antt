-- The families are told the changes, and their inverses lead back.
use Rattle.std.proofs.Common.{◌≡◌, List, refl, sym, ap, ◌∙◌, subst}
use Rattle.khe_instance.specs.declared.parts.Parts.{Parts}
use Rattle.khe_told.specs.Changes.{after_all, inverses}
use Rattle.khe_told.specs.Fits.{AllFit, AreTold}
use Rattle.khe_told.specs.Waits.{waits_in}
use Rattle.khe_told.specs.declared.changes.Change.{Change}
use Rattle.khe_told.specs.declared.slots.Slot.{Slot}
use Rattle.khe_told.proofs.SlotLaws.{after_inverses, all_fit_inverses}
use Rattle.khe_solution.specs.Changing.{changes}
use Rattle.khe_engine.specs.States.{state_of}
use Rattle.khe_engine.specs.Values.{HasValues}
use Rattle.khe_engine.proofs.SettleLaws.{left_measured}
use Rattle.khe_engine.proofs.StateLaws.{edited_meets, one_sort}
use Rattle.khe_engine.proofs.trials.turn_by.Goals as goal

pub returns-clause-measured : goal.returns-clause-measured
returns-clause-measured g c =
    let p = c.args.inst.now in
    let b = c.args.listeners.now.graph in
    left_measured p g.F.Family.serves_kind (waits_in c.turn_all.new.waits)
    (g.F.Family.told c.args.listeners.now.families) (g.F.Family.told c.turn_all.new.self) b c.requires.serves
    (subst (λ (s : List Slot). HasValues p s b) (sym c.requires.told) c.requires.values) (c.turn_all.ensures.unmoved refl)

pub returns-clause-back : goal.returns-clause-back
returns-clause-back g c =
    let p = c.args.inst.now in
    let s = c.args.solution.now.slots in
    let e = c.list_changes.ensures in
    let cs = changes s c.args.edit.now in
    let turned : g.F.Family.told c.turn_all.new.self ≡ after_all s cs =
    c.turn_all.ensures.told ∙ (λ i. after_all (c.requires.told i) ((c.as_slice.ensures.value ∙ e.items) i)) in
    let back = all_fit_inverses p s cs (subst (λ (q : Parts). AreTold q s) c.requires.parts e.told)
    (subst (λ (q : Parts). AllFit q s cs) c.requires.parts e.fit) in
    subst (λ (x : List Slot). AllFit p x (inverses c.list_changes.new.list.items)) (sym turned)
    (subst (λ (xs : List Change). AllFit p (after_all s cs) (inverses xs)) (sym e.items) back)

pub returns-clause-state : goal.returns-clause-state
returns-clause-state g c =
    let s = c.args.solution.now.slots in
    let b = c.args.listeners.now.graph in
    let e = c.list_changes.ensures in
    let turned : g.F.Family.told c.turn_all.new.self ≡ after_all s (changes s c.args.edit.now) =
    c.turn_all.ensures.told ∙ (λ i. after_all (c.requires.told i) ((c.as_slice.ensures.value ∙ e.items) i)) in
    ap (λ (x : List Slot). state_of x b) (turned ∙ e.leads)
    ∙ sym (edited_meets (state_of s b) c.args.edit.now (one_sort c.args.edit.now c.requires.ours))

pub returns-clause-home : goal.returns-clause-home
returns-clause-home g c =
    let p = c.args.inst.now in
    let s = c.args.solution.now.slots in
    let e = c.list_changes.ensures in
    let cs = changes s c.args.edit.now in
    let turned : g.F.Family.told c.turn_all.new.self ≡ after_all s cs =
    c.turn_all.ensures.told ∙ (λ i. after_all (c.requires.told i) ((c.as_slice.ensures.value ∙ e.items) i)) in
    (λ i. after_all (turned i) (inverses (e.items i)))
    ∙ after_inverses p s cs (subst (λ (q : Parts). AreTold q s) c.requires.parts e.told)
    (subst (λ (q : Parts). AllFit q s cs) c.requires.parts e.fit)
