-- A Split is a cut, and all else stays in place.
use Rattle.std.proofs.Common.{◌≡◌, ◌∙◌, ◌<◌, None, List, length, ap, subst, sym}
use Rattle.khe_told.specs.Effects.{IsCut}
use Rattle.khe_told.specs.Slots.{slot_at}
use Rattle.khe_told.specs.Turns.{SlotTurn}
use Rattle.khe_told.specs.declared.edits.Edit.{Edit}
use Rattle.khe_told.specs.declared.edits.Edit.TheVariants.{Split}
use Rattle.khe_told.specs.declared.slots.Slot.{Slot}
use Rattle.khe_solution.specs.Editing.{edited}
use Rattle.khe_solution.specs.Effects.{LeadTo, cutting, receiving, shortening}
use Rattle.khe_solution.specs.Refusing.{refusal}
use Rattle.khe_solution.specs.Timetables.{StartsLater}
use Rattle.khe_solution.proofs.EditLaws.{edit_cuts}
use Rattle.khe_solution.proofs.SplitLaws.{is_split, split_leads, splits_cut}
use Rattle.khe_solution.proofs.effects.effects_of.Goals as goal

pub new_meet-new-requires-clause-long : goal.new_meet-new-requires-clause-long
new_meet-new-requires-clause-long c =
    let p = c.args.inst.now in
    let s = c.args.slots.now in
    (edit_cuts p s (Split c.in-Split.meet c.in-Split.cut) c.requires.valid c.facts.ensures
    (subst (λ (e : Edit). refusal p s e ≡ None) c.in-Split.is c.requires.accepted)).0

pub split-requires-clause-meet : goal.split-requires-clause-meet
split-requires-clause-meet c =
    let p = c.args.inst.now in
    let s = c.args.slots.now in
    let m = c.in-Split.meet in
    let h = is_split p s m c.in-Split.cut c.new_meet-new.result c.requires.valid.told
    (subst (λ (e : Edit). refusal p s e ≡ None) c.in-Split.is c.requires.accepted) c.new_meet-new.ensures in
    subst (λ (q : List Slot). m.0 < length q) (sym c.told-told.ensures) h.pair.first

pub split-requires-clause-new : goal.split-requires-clause-new
split-requires-clause-new c =
    let p = c.args.inst.now in
    let s = c.args.slots.now in
    let n = c.new_meet-new.result in
    let h = is_split p s c.in-Split.meet c.in-Split.cut n c.requires.valid.told
    (subst (λ (e : Edit). refusal p s e ≡ None) c.in-Split.is c.requires.accepted) c.new_meet-new.ensures in
    subst (λ (q : List Slot). n.0 < length q) (sym c.told-told.ensures) h.pair.second

pub split-requires-clause-cut : goal.split-requires-clause-cut
split-requires-clause-cut c =
    let p = c.args.inst.now in
    let s = c.args.slots.now in
    let m = c.in-Split.meet in
    let cut = c.in-Split.cut in
    let n = c.new_meet-new.result in
    let h = is_split p s m cut n c.requires.valid.told
    (subst (λ (e : Edit). refusal p s e ≡ None) c.in-Split.is c.requires.accepted) c.new_meet-new.ensures in
    subst (λ (q : List Slot). IsCut (shortening q m cut) (receiving q m cut n)) (sym c.told-told.ensures)
    (splits_cut p s m cut n h)

pub split-requires-clause-later : goal.split-requires-clause-later
split-requires-clause-later c =
    let p = c.args.inst.now in
    let s = c.args.slots.now in
    let m = c.in-Split.meet in
    let cut = c.in-Split.cut in
    subst (λ (q : List Slot). StartsLater q m cut) (sym c.told-told.ensures)
    (edit_cuts p s (Split m cut) c.requires.valid c.facts.ensures
    (subst (λ (e : Edit). refusal p s e ≡ None) c.in-Split.is c.requires.accepted)).1

pub returns-in-Split : goal.returns-in-Split
returns-in-Split c =
    let p = c.args.inst.now in
    let s = c.args.slots.now in
    let m = c.in-Split.meet in
    let cut = c.in-Split.cut in
    let n = c.new_meet-new.result in
    let same = c.told-told.ensures in
    let leads = split_leads p s m cut n c.requires.valid
    (subst (λ (e : Edit). refusal p s e ≡ None) c.in-Split.is c.requires.accepted) c.new_meet-new.ensures
    (ap (λ (q : List Slot). (slot_at q m.0).meet) (sym same) ∙ c.split.ensures.meet)
    (ap (λ (q : List Slot). (slot_at q n.0).meet) (sym same) ∙ c.split.ensures.new) in
    subst (λ (ts : List SlotTurn). LeadTo p s ts (edited s c.args.edit.now))
    (sym (c.split.ensures.effects ∙ ap (λ (q : List Slot). cutting q m cut n) same))
    (subst (λ (e : Edit). LeadTo p s (cutting s m cut n) (edited s e)) (sym c.in-Split.is) leads)
