use Rattle.std.proofs.Common.{◌+◌, arith, ◌∙◌}
use Rattle.followers.specs.Links.{count_of}
use Rattle.followers.specs.Records.{with_ties}
use Rattle.followers.proofs.PutLaws.{after_sum, room_less}
use Rattle.followers.proofs.StartLaws.{start_accepted, start_followed, start_long, start_may, start_there, tied_of, valid_of}
use Rattle.followers.proofs.editing.follow.Goals as goal

pub make-requires-clause-accepted : goal.make-requires-clause-accepted
make-requires-clause-accepted g c = start_accepted c.args.engine.now.parts
    (with_ties c.args.engine.now.state c.args.ties.now) c.args.edit c.args.meet c.args.start c.requires.sort
    c.requires.accepted

pub carry-requires-clause-there : goal.carry-requires-clause-there
carry-requires-clause-there g c = start_there c.args.engine.now.parts c.args.engine.now.state c.args.ties.now c.args.edit
    c.args.meet c.args.start c.requires.sort c.requires.tied c.requires.accepted

pub carry-requires-clause-long : goal.carry-requires-clause-long
carry-requires-clause-long g c = start_long c.args.engine.now.parts c.args.engine.now.state c.make.new.engine.state
    c.args.ties.now c.args.edit c.args.meet c.args.start c.requires.sort c.requires.tied c.make.ensures.state

pub carry-requires-clause-may : goal.carry-requires-clause-may
carry-requires-clause-may g c = start_may c.args.engine.now.parts c.make.new.engine.parts c.args.engine.now.state
    c.make.new.engine.state c.args.ties.now c.args.edit c.args.meet c.args.start c.requires.sort c.requires.tied
    c.requires.accepted c.make.ensures.state c.make.ensures.after.parts
    (valid_of c.solution.result.now.parts c.args.engine.now.parts c.solution.result.now.slots
    c.make.new.engine.state.slots (c.solution.ensures.parts ∙ c.make.ensures.after.parts) c.solution.ensures.slots
    c.facts.ensures)

pub carry-requires-clause-room : goal.carry-requires-clause-room
carry-requires-clause-room g c =
    let n = count_of c.args.ties.now c.args.meet.0 in
    room_less 1 n (n + 1) c.args.engine.now c.make.new.engine c.requires.room c.make.ensures.after (omega arith)

pub returns-clause-after : goal.returns-clause-after
returns-clause-after g c =
    let n = count_of c.args.ties.now c.args.meet.0 in
    after_sum 1 n (n + 1) c.args.engine.now c.make.new.engine c.carry.new.engine c.make.ensures.after
    c.carry.ensures.after (omega arith)

pub returns-clause-tied : goal.returns-clause-tied
returns-clause-tied g c =
    let same = c.carry.ensures.after.parts ∙ c.make.ensures.after.parts in
    tied_of c.args.engine.now.parts c.carry.new.engine.parts (with_ties c.carry.new.engine.state c.args.ties.now) same
    (start_followed c.args.engine.now.parts c.args.engine.now.state c.make.new.engine.state c.carry.new.engine.state
    c.args.ties.now c.args.edit c.args.meet c.args.start c.requires.sort c.requires.tied c.requires.accepted
    c.make.ensures.state c.carry.ensures.carried c.carry.ensures.grouping
    (valid_of c.solution-2.result.now.parts c.args.engine.now.parts c.solution-2.result.now.slots
    c.carry.new.engine.state.slots (c.solution-2.ensures.parts ∙ same) c.solution-2.ensures.slots
    c.facts-2.ensures)).tied

pub returns-clause-state : goal.returns-clause-state
returns-clause-state g c =
    let same = c.carry.ensures.after.parts ∙ c.make.ensures.after.parts in
    (start_followed c.args.engine.now.parts c.args.engine.now.state c.make.new.engine.state c.carry.new.engine.state
    c.args.ties.now c.args.edit c.args.meet c.args.start c.requires.sort c.requires.tied c.requires.accepted
    c.make.ensures.state c.carry.ensures.carried c.carry.ensures.grouping
    (valid_of c.solution-2.result.now.parts c.args.engine.now.parts c.solution-2.result.now.slots
    c.carry.new.engine.state.slots (c.solution-2.ensures.parts ∙ same) c.solution-2.ensures.slots
    c.facts-2.ensures)).state
