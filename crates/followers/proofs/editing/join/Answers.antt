use Rattle.std.proofs.Common.{◌<◌, ◌≤◌, ◌∙◌, Some, length, ap, set, subst, sym, arith}
use Rattle.khe_base.specs.declared.limits.TheConstants.{TIMES}
use Rattle.khe_instance.specs.declared.parts.Parts.{Parts}
use Rattle.khe_told.specs.Slots.{slot_at, start_of}
use Rattle.khe_solution.proofs.Basics.{live_there}
use Rattle.followers.specs.Records.{IsKept, saved_of, states_of, with_ties}
use Rattle.followers.specs.Ties.{tie_at}
use Rattle.followers.proofs.StartLaws.{valid_of}
use Rattle.followers.proofs.TieLaws.{can_tie, kept_record, saved_record, tie_back, tie_few, tie_may, tie_state, tie_tied}
use Rattle.followers.proofs.editing.join.Goals as goal

pub place-requires-clause-few : goal.place-requires-clause-few
place-requires-clause-few g c =
    let p = c.args.engine.now.parts in
    let s = c.args.engine.now.state in
    let ties = c.args.ties.now in
    let few : length p.times ≤ TIMES = subst (λ (q : Parts). length q.times ≤ TIMES) c.instance.ensures
    c.facts.ensures.limits.times in
    tie_few p s.slots c.args.meet.0 c.args.tie.offset (start_of (slot_at s.slots c.args.tie.leader.0)) few
    (tie_may p s.slots ties c.args.meet.0 c.args.tie c.requires.kept.now.valid
    (can_tie p s ties c.args.meet c.args.tie c.requires.accepted))

pub retie-requires-clause-there : goal.retie-requires-clause-there
retie-requires-clause-there g c =
    let s = c.args.engine.now.state in
    let can = can_tie c.args.engine.now.parts s c.args.ties.now c.args.meet c.args.tie c.requires.accepted in
    let a = live_there s.slots c.args.meet.0 can.live in
    let b = c.requires.kept.now.long in
    omega (arith, a, b)

pub retie-requires-clause-leader : goal.retie-requires-clause-leader
retie-requires-clause-leader g c =
    let s = c.args.engine.now.state in
    let can = can_tie c.args.engine.now.parts s c.args.ties.now c.args.meet c.args.tie c.requires.accepted in
    let a = live_there s.slots c.args.tie.leader.0 can.leader in
    let b = c.requires.kept.now.long in
    omega (arith, a, b)

pub returns-clause-kept : goal.returns-clause-kept
returns-clause-kept g c =
    let p = c.args.engine.now.parts in
    let s = c.args.engine.now.state in
    let s2 = c.place.new.engine.state in
    let ties = c.args.ties.now in
    let k = c.requires.kept in
    let can = can_tie p s ties c.args.meet c.args.tie c.requires.accepted in
    let l : c.args.meet.0 < length ties =
    let a = live_there s.slots c.args.meet.0 can.live in let b = k.now.long in omega (arith, a, b) in
    let v = valid_of c.solution-2.result.now.parts p c.solution-2.result.now.slots s2.slots
    (c.solution-2.ensures.parts ∙ c.place.ensures.after.parts) c.solution-2.ensures.slots c.facts-3.ensures in
    let tied = tie_tied p s s2 ties c.args.meet c.args.tie k.now can v c.place.ensures.slots in
    let kept = kept_record p c.place.new.engine.parts s s2 ties (states_of c.args.engine.now.saved)
    (states_of c.place.new.engine.saved) c.args.journal.now.since c.args.meet (Some c.args.tie)
    c.place.ensures.after.parts c.place.ensures.after.states l k tied in
    subst (λ t. IsKept c.place.new.engine.parts s2 t (states_of c.place.new.engine.saved) c.retie.new.journal.since)
    (sym c.retie.ensures.ties)
    (subst (IsKept c.place.new.engine.parts s2 (set ties c.args.meet.0 (Some c.args.tie))
    (states_of c.place.new.engine.saved)) (sym c.retie.ensures.since) kept)

pub returns-clause-state : goal.returns-clause-state
returns-clause-state g c =
    let p = c.args.engine.now.parts in
    let s = c.args.engine.now.state in
    let ties = c.args.ties.now in
    let can = can_tie p s ties c.args.meet c.args.tie c.requires.accepted in
    ap (with_ties c.place.new.engine.state) c.retie.ensures.ties
    ∙ tie_state p s c.place.new.engine.state ties c.args.meet c.args.tie c.requires.kept.now can
    c.place.ensures.grouping c.place.ensures.slots

pub returns-clause-saved : goal.returns-clause-saved
returns-clause-saved g c =
    let ties = c.args.ties.now in
    let m = c.args.meet in
    let more = set ties m.0 (Some c.args.tie) in
    (λ i. saved_of (c.retie.ensures.ties i) (c.place.ensures.after.states i) (c.retie.ensures.since i))
    ∙ saved_record ties more (states_of c.args.engine.now.saved) c.args.journal.now.since
    (record { meet = m; tie = tie_at ties m.0 }) (tie_back ties m.0 (Some c.args.tie))
