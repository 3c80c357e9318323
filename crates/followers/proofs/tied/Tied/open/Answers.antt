use Rattle.std.proofs.Common.{◌≡◌, ◌∙◌, [], None, Option, List, replicate, ap}
use Rattle.khe_base.proofs.ResultLemmas.{if_ok}
use Rattle.khe_engine.specs.Worlds.{World}
use Rattle.undo_paths.specs.Stack.{Stack}
use Rattle.followers.specs.Records.{states_of}
use Rattle.followers.specs.declared.edits.Tie.{Tie}
use Rattle.followers.specs.declared.records.Before.{Before}
use Rattle.followers.proofs.OpenLaws.{as_many, open_kept}
use Rattle.followers.proofs.StartLaws.{valid_of}
use Rattle.followers.proofs.tied.Tied.open.Goals as goal

pub invariant_of-result : goal.invariant_of-result
invariant_of-result g c =
    let engine = c.in_ok-engine.engine in
    let slots = c.meet_slots-slots.result in
    let first = if_ok _ _ _ c.in_ok-engine.ensures.0 c.both.ensures in
    let parts = if_ok _ _ (λ (e : World). e.parts ≡ c.args.inst.now) first.0 c.open-engine.ensures.parts in
    let none = if_ok _ _ (λ (e : World). e.saved ≡ []) first.0 c.open-engine.ensures.saved in
    let ties = if_ok _ _ (λ (t : List (Option Tie)). t ≡ replicate slots None) first.1 c.open-ties.ensures in
    let since = if_ok _ _ (λ (j : Stack Before). j.since ≡ []) c.in_ok-engine.ensures.1 c.open-journal.ensures.since in
    let valid = valid_of c.solution.result.now.parts c.args.inst.now c.solution.result.now.slots engine.state.slots
    (c.solution.ensures.parts ∙ parts) c.solution.ensures.slots c.facts-2.ensures in
    let many = as_many c.args.inst.now engine.state slots valid c.meet_slots-slots.ensures in
    open_kept engine.parts engine.state c.in_ok-engine.ties (states_of engine.saved) c.in_ok-engine.journal.since slots
    (valid_of c.solution.result.now.parts engine.parts c.solution.result.now.slots engine.state.slots
    c.solution.ensures.parts c.solution.ensures.slots c.facts-2.ensures) many ties (ap states_of none) since

pub returns-clause-ties : goal.returns-clause-ties
returns-clause-ties g c =
    let engine = c.in_ok-engine.engine in
    let slots = c.meet_slots-slots.result in
    let first = if_ok _ _ _ c.in_ok-engine.ensures.0 c.both.ensures in
    let parts = if_ok _ _ (λ (e : World). e.parts ≡ c.args.inst.now) first.0 c.open-engine.ensures.parts in
    let ties = if_ok _ _ (λ (t : List (Option Tie)). t ≡ replicate slots None) first.1 c.open-ties.ensures in
    let valid = valid_of c.solution.result.now.parts c.args.inst.now c.solution.result.now.slots engine.state.slots
    (c.solution.ensures.parts ∙ parts) c.solution.ensures.slots c.facts-2.ensures in
    ties ∙ ap (λ n. replicate n None) (as_many c.args.inst.now engine.state slots valid c.meet_slots-slots.ensures)
