use Rattle.std.proofs.Common.{◌+◌, List, ap, arith, ◌∙◌}
use Rattle.khe_told.specs.Slots.{slot_at, start_of}
use Rattle.khe_told.specs.declared.slots.Slot.{Slot}
use Rattle.khe_solution.proofs.Basics.{live_there}
use Rattle.followers.specs.Links.{count_of}
use Rattle.followers.specs.Records.{with_ties}
use Rattle.followers.proofs.PutLaws.{after_sum, room_less}
use Rattle.followers.proofs.StartLaws.{tied_of, valid_of}
use Rattle.followers.proofs.SwapLaws.{first_may, second_may, swap_followed, swap_open, swapped}
use Rattle.followers.proofs.editing.swap.Goals as goal

pub carry-requires-clause-there : goal.carry-requires-clause-there
carry-requires-clause-there g c =
    let s = c.args.engine.now.state in
    let o = swap_open c.args.engine.now.parts s c.args.ties.now c.args.a c.args.b c.requires.accepted in
    let l = live_there s.slots c.args.a.0 o.first in
    let n = c.requires.tied.long in
    omega (arith, l, n)

pub carry-requires-clause-may : goal.carry-requires-clause-may
carry-requires-clause-may g c =
    let p = c.args.engine.now.parts in
    let s = c.args.engine.now.state in
    let ties = c.args.ties.now in
    let o = swap_open p s ties c.args.a c.args.b c.requires.accepted in
    first_may p c.make.new.engine.parts s c.make.new.engine.state ties c.args.a.0 c.args.b.0 c.start_of-second.result
    (c.start_of-second.ensures ∙ ap (λ (x : List Slot). start_of (slot_at x c.args.b.0)) c.solution-2.ensures.slots)
    c.make.ensures.after.parts c.requires.tied o
    (swapped s c.make.new.engine.state ties c.args.a c.args.b o c.make.ensures.state)
    (valid_of c.solution-3.result.now.parts p c.solution-3.result.now.slots c.make.new.engine.state.slots
    (c.solution-3.ensures.parts ∙ c.make.ensures.after.parts) c.solution-3.ensures.slots c.facts.ensures)

pub carry-requires-clause-room : goal.carry-requires-clause-room
carry-requires-clause-room g c =
    let m = count_of c.args.ties.now c.args.a.0 in
    let n = count_of c.args.ties.now c.args.b.0 in
    room_less 1 m (m + n + 1) c.args.engine.now c.make.new.engine c.requires.room c.make.ensures.after (omega arith)

pub carry-requires-2-clause-there : goal.carry-requires-2-clause-there
carry-requires-2-clause-there g c =
    let s = c.args.engine.now.state in
    let o = swap_open c.args.engine.now.parts s c.args.ties.now c.args.a c.args.b c.requires.accepted in
    let l = live_there s.slots c.args.b.0 o.second in
    let n = c.requires.tied.long in
    omega (arith, l, n)

pub carry-requires-2-clause-may : goal.carry-requires-2-clause-may
carry-requires-2-clause-may g c =
    let p = c.args.engine.now.parts in
    let s = c.args.engine.now.state in
    let ties = c.args.ties.now in
    let o = swap_open p s ties c.args.a c.args.b c.requires.accepted in
    let same = c.carry.ensures.after.parts ∙ c.make.ensures.after.parts in
    second_may p c.carry.new.engine.parts s c.make.new.engine.state c.carry.new.engine.state ties c.args.a.0
    c.args.b.0 c.start_of-second.result c.start_of-first.result
    (c.start_of-first.ensures ∙ ap (λ (x : List Slot). start_of (slot_at x c.args.a.0)) c.solution.ensures.slots)
    same c.requires.tied o
    (swapped s c.make.new.engine.state ties c.args.a c.args.b o c.make.ensures.state) c.carry.ensures.carried
    (valid_of c.solution-4.result.now.parts p c.solution-4.result.now.slots c.carry.new.engine.state.slots
    (c.solution-4.ensures.parts ∙ same) c.solution-4.ensures.slots c.facts-2.ensures)

pub carry-requires-2-clause-room : goal.carry-requires-2-clause-room
carry-requires-2-clause-room g c =
    let m = count_of c.args.ties.now c.args.a.0 in
    let n = count_of c.args.ties.now c.args.b.0 in
    room_less (1 + m) n (m + n + 1) c.args.engine.now c.carry.new.engine c.requires.room
    (after_sum 1 m (1 + m) c.args.engine.now c.make.new.engine c.carry.new.engine c.make.ensures.after
    c.carry.ensures.after (omega arith)) (omega arith)

pub returns-clause-after : goal.returns-clause-after
returns-clause-after g c =
    let m = count_of c.args.ties.now c.args.a.0 in
    let n = count_of c.args.ties.now c.args.b.0 in
    after_sum (1 + m) n (m + n + 1) c.args.engine.now c.carry.new.engine c.carry-2.new.engine
    (after_sum 1 m (1 + m) c.args.engine.now c.make.new.engine c.carry.new.engine c.make.ensures.after
    c.carry.ensures.after (omega arith)) c.carry-2.ensures.after (omega arith)

pub returns-clause-tied : goal.returns-clause-tied
returns-clause-tied g c =
    let p = c.args.engine.now.parts in
    let s = c.args.engine.now.state in
    let ties = c.args.ties.now in
    let o = swap_open p s ties c.args.a c.args.b c.requires.accepted in
    let same = c.carry-2.ensures.after.parts ∙ c.carry.ensures.after.parts ∙ c.make.ensures.after.parts in
    tied_of p c.carry-2.new.engine.parts (with_ties c.carry-2.new.engine.state ties) same
    (swap_followed p s c.make.new.engine.state c.carry.new.engine.state c.carry-2.new.engine.state ties c.args.a
    c.args.b c.start_of-second.result c.start_of-first.result
    (c.start_of-second.ensures ∙ ap (λ (x : List Slot). start_of (slot_at x c.args.b.0)) c.solution-2.ensures.slots)
    (c.start_of-first.ensures ∙ ap (λ (x : List Slot). start_of (slot_at x c.args.a.0)) c.solution.ensures.slots)
    c.requires.tied o c.make.ensures.state c.carry.ensures.carried c.carry-2.ensures.carried
    (c.carry-2.ensures.grouping ∙ c.carry.ensures.grouping)
    (valid_of c.solution-5.result.now.parts p c.solution-5.result.now.slots c.carry-2.new.engine.state.slots
    (c.solution-5.ensures.parts ∙ same) c.solution-5.ensures.slots c.facts-3.ensures)).tied

pub returns-clause-state : goal.returns-clause-state
returns-clause-state g c =
    let p = c.args.engine.now.parts in
    let s = c.args.engine.now.state in
    let ties = c.args.ties.now in
    let o = swap_open p s ties c.args.a c.args.b c.requires.accepted in
    let same = c.carry-2.ensures.after.parts ∙ c.carry.ensures.after.parts ∙ c.make.ensures.after.parts in
    (swap_followed p s c.make.new.engine.state c.carry.new.engine.state c.carry-2.new.engine.state ties c.args.a
    c.args.b c.start_of-second.result c.start_of-first.result
    (c.start_of-second.ensures ∙ ap (λ (x : List Slot). start_of (slot_at x c.args.b.0)) c.solution-2.ensures.slots)
    (c.start_of-first.ensures ∙ ap (λ (x : List Slot). start_of (slot_at x c.args.a.0)) c.solution.ensures.slots)
    c.requires.tied o c.make.ensures.state c.carry.ensures.carried c.carry-2.ensures.carried
    (c.carry-2.ensures.grouping ∙ c.carry.ensures.grouping)
    (valid_of c.solution-5.result.now.parts p c.solution-5.result.now.slots c.carry-2.new.engine.state.slots
    (c.solution-5.ensures.parts ∙ same) c.solution-5.ensures.slots c.facts-3.ensures)).state
