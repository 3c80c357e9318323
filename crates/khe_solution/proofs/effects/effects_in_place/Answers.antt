-- Each sort of edits by its law.
use Rattle.std.proofs.Common.{◌≡◌, ◌∙◌, None, ap, arith, subst}
use Rattle.khe_told.specs.declared.edits.Edit.{Edit}
use Rattle.khe_told.specs.declared.edits.Edit.TheVariants.{Assign, Unassign, MoveTo, SwapMeets, Give, Take, Regive}
use Rattle.khe_told.specs.declared.edits.Edit.TheVariants.{SwapTasks}
use Rattle.khe_solution.specs.Effects.{restaffing, retiming}
use Rattle.khe_solution.specs.Refusing.{refusal}
use Rattle.khe_solution.proofs.EffectLaws.{assign_leads, assign_there, give_leads, give_may, move_leads, move_there}
use Rattle.khe_solution.proofs.EffectLaws.{regive_leads, regive_may, swap_leads, swap_there, take_leads, take_may}
use Rattle.khe_solution.proofs.EffectLaws.{leads_along, leads_along_two, trade_leads, trade_there, unassign_leads}
use Rattle.khe_solution.proofs.EffectLaws.{unassign_there}
use Rattle.khe_solution.proofs.Stages.{turn_there}
use Rattle.khe_solution.proofs.effects.effects_in_place.Goals as goal

pub retimed-requires : goal.retimed-requires
retimed-requires c = assign_there c.args.inst.now c.args.told.now c.in-Assign.meet c.in-Assign.time
    (subst (λ (e : Edit). refusal c.args.inst.now c.args.told.now e ≡ None) c.in-Assign.is c.requires.accepted)

pub retimed-requires-in-Unassign : goal.retimed-requires-in-Unassign
retimed-requires-in-Unassign c = unassign_there c.args.inst.now c.args.told.now c.in-Unassign.meet
    (subst (λ (e : Edit). refusal c.args.inst.now c.args.told.now e ≡ None) c.in-Unassign.is c.requires.accepted)

pub retimed-requires-in-MoveTo : goal.retimed-requires-in-MoveTo
retimed-requires-in-MoveTo c = move_there c.args.inst.now c.args.told.now c.in-MoveTo.meet c.in-MoveTo.time
    (subst (λ (e : Edit). refusal c.args.inst.now c.args.told.now e ≡ None) c.in-MoveTo.is c.requires.accepted)

pub retimed-first-requires : goal.retimed-first-requires
retimed-first-requires c = (swap_there c.args.inst.now c.args.told.now c.in-SwapMeets.a c.in-SwapMeets.b
    (subst (λ (e : Edit). refusal c.args.inst.now c.args.told.now e ≡ None) c.in-SwapMeets.is c.requires.accepted)).0

pub retimed-second-requires : goal.retimed-second-requires
retimed-second-requires c = (swap_there c.args.inst.now c.args.told.now c.in-SwapMeets.a c.in-SwapMeets.b
    (subst (λ (e : Edit). refusal c.args.inst.now c.args.told.now e ≡ None) c.in-SwapMeets.is c.requires.accepted)).1

pub restaffed-requires : goal.restaffed-requires
restaffed-requires c = (turn_there c.args.inst.now c.args.told.now c.in-Give.task
    (give_may c.args.inst.now c.args.told.now c.in-Give.task c.in-Give.resource
    (subst (λ (e : Edit). refusal c.args.inst.now c.args.told.now e ≡ None) c.in-Give.is c.requires.accepted))).0

pub restaffed-requires-in-Take : goal.restaffed-requires-in-Take
restaffed-requires-in-Take c = (turn_there c.args.inst.now c.args.told.now c.in-Take.task
    (take_may c.args.inst.now c.args.told.now c.in-Take.task
    (subst (λ (e : Edit). refusal c.args.inst.now c.args.told.now e ≡ None) c.in-Take.is c.requires.accepted))).0

pub restaffed-requires-in-Regive : goal.restaffed-requires-in-Regive
restaffed-requires-in-Regive c = (turn_there c.args.inst.now c.args.told.now c.in-Regive.task
    (regive_may c.args.inst.now c.args.told.now c.in-Regive.task c.in-Regive.resource
    (subst (λ (e : Edit). refusal c.args.inst.now c.args.told.now e ≡ None) c.in-Regive.is c.requires.accepted))).0

pub restaffed-first-requires : goal.restaffed-first-requires
restaffed-first-requires c = (trade_there c.args.inst.now c.args.told.now c.in-SwapTasks.a c.in-SwapTasks.b
    (subst (λ (e : Edit). refusal c.args.inst.now c.args.told.now e ≡ None) c.in-SwapTasks.is c.requires.accepted)).0

pub restaffed-second-requires : goal.restaffed-second-requires
restaffed-second-requires c = (trade_there c.args.inst.now c.args.told.now c.in-SwapTasks.a c.in-SwapTasks.b
    (subst (λ (e : Edit). refusal c.args.inst.now c.args.told.now e ≡ None) c.in-SwapTasks.is c.requires.accepted)).1

pub returns-in-Assign : goal.returns-in-Assign
returns-in-Assign c = leads_along c.args.inst.now c.args.told.now _ (Assign c.in-Assign.meet c.in-Assign.time) _ _ _ c.in-Assign.is c.retimed.ensures.effect c.of.ensures
    (assign_leads c.args.inst.now c.args.told.now c.in-Assign.meet c.in-Assign.time c.requires.valid (subst (λ (e : Edit). refusal c.args.inst.now c.args.told.now e ≡ None) c.in-Assign.is c.requires.accepted) c.retimed.ensures.number)

pub returns-in-Unassign : goal.returns-in-Unassign
returns-in-Unassign c = leads_along c.args.inst.now c.args.told.now _ (Unassign c.in-Unassign.meet) _ _ _ c.in-Unassign.is c.retimed-in-Unassign.ensures.effect c.of-in-Unassign.ensures
    (unassign_leads c.args.inst.now c.args.told.now c.in-Unassign.meet c.requires.valid (subst (λ (e : Edit). refusal c.args.inst.now c.args.told.now e ≡ None) c.in-Unassign.is c.requires.accepted) c.retimed-in-Unassign.ensures.number)

pub returns-in-MoveTo : goal.returns-in-MoveTo
returns-in-MoveTo c = leads_along c.args.inst.now c.args.told.now _ (MoveTo c.in-MoveTo.meet c.in-MoveTo.time) _ _ _ c.in-MoveTo.is c.retimed-in-MoveTo.ensures.effect c.of-in-MoveTo.ensures
    (move_leads c.args.inst.now c.args.told.now c.in-MoveTo.meet c.in-MoveTo.time c.requires.valid (subst (λ (e : Edit). refusal c.args.inst.now c.args.told.now e ≡ None) c.in-MoveTo.is c.requires.accepted) c.retimed-in-MoveTo.ensures.number)

pub returns-in-Give : goal.returns-in-Give
returns-in-Give c = leads_along c.args.inst.now c.args.told.now _ (Give c.in-Give.task c.in-Give.resource) _ _ _ c.in-Give.is c.restaffed.ensures.effect c.of-in-Give.ensures
    (give_leads c.args.inst.now c.args.told.now c.in-Give.task c.in-Give.resource c.requires.valid (subst (λ (e : Edit). refusal c.args.inst.now c.args.told.now e ≡ None) c.in-Give.is c.requires.accepted) c.restaffed.ensures.number)

pub returns-in-Take : goal.returns-in-Take
returns-in-Take c = leads_along c.args.inst.now c.args.told.now _ (Take c.in-Take.task) _ _ _ c.in-Take.is c.restaffed-in-Take.ensures.effect c.of-in-Take.ensures
    (take_leads c.args.inst.now c.args.told.now c.in-Take.task c.requires.valid (subst (λ (e : Edit). refusal c.args.inst.now c.args.told.now e ≡ None) c.in-Take.is c.requires.accepted) c.restaffed-in-Take.ensures.number)

pub returns-in-Regive : goal.returns-in-Regive
returns-in-Regive c = leads_along c.args.inst.now c.args.told.now _ (Regive c.in-Regive.task c.in-Regive.resource) _ _ _ c.in-Regive.is c.restaffed-in-Regive.ensures.effect c.of-in-Regive.ensures
    (regive_leads c.args.inst.now c.args.told.now c.in-Regive.task c.in-Regive.resource c.requires.valid (subst (λ (e : Edit). refusal c.args.inst.now c.args.told.now e ≡ None) c.in-Regive.is c.requires.accepted) c.restaffed-in-Regive.ensures.number)

pub returns-in-SwapMeets : goal.returns-in-SwapMeets
returns-in-SwapMeets c =
    let s = c.args.told.now in
    leads_along_two c.args.inst.now c.args.told.now _ (SwapMeets c.in-SwapMeets.a c.in-SwapMeets.b) _ _ _ _ _ c.in-SwapMeets.is
    (c.retimed-first.ensures.effect ∙ ap (retiming s c.in-SwapMeets.a) c.start_of.ensures)
    (c.retimed-second.ensures.effect ∙ ap (retiming s c.in-SwapMeets.b) c.start_of-in-SwapMeets.ensures)
    c.of-in-SwapMeets.ensures
    (swap_leads c.args.inst.now c.args.told.now c.in-SwapMeets.a c.in-SwapMeets.b c.requires.valid (subst (λ (e : Edit). refusal c.args.inst.now c.args.told.now e ≡ None) c.in-SwapMeets.is c.requires.accepted)
    c.retimed-first.ensures.number c.retimed-second.ensures.number)

pub returns-else-a-b : goal.returns-else-a-b
returns-else-a-b c =
    let s = c.args.told.now in
    let apart : c.in-SwapTasks.b.meet.0 ≡ c.in-SwapTasks.a.meet.0 → ⊥ =
    λ e. let f = c.if-a-b.false in omega (arith, f, e) in
    leads_along_two c.args.inst.now c.args.told.now _ (SwapTasks c.in-SwapTasks.a c.in-SwapTasks.b) _ _ _ _ _ c.in-SwapTasks.is
    (c.restaffed-first.ensures.effect ∙ ap (restaffing s c.in-SwapTasks.a) c.resource_at.ensures)
    (c.restaffed-second.ensures.effect ∙ ap (restaffing s c.in-SwapTasks.b) c.resource_at-in-SwapTasks.ensures)
    c.of-in-SwapTasks.ensures
    (trade_leads c.args.inst.now c.args.told.now c.in-SwapTasks.a c.in-SwapTasks.b c.requires.valid (subst (λ (e : Edit). refusal c.args.inst.now c.args.told.now e ≡ None) c.in-SwapTasks.is c.requires.accepted) apart
    c.restaffed-first.ensures.number c.restaffed-second.ensures.number)
