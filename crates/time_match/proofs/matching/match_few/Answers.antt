-- The lists are those of the instance and of the timetable.
use Rattle.time_match.proofs.MatchLaws.{lists_apart, lists_few, left_of, lists_of, lists_open}
use Rattle.time_match.proofs.MatchLaws.{matched_by}
use Rattle.time_match.specs.declared.outcomes.Matched.{Matched}
use Rattle.time_match.proofs.matching.match_few.Goals as goal

pub match_lists-requires-clause-free : goal.match_lists-requires-clause-free
match_lists-requires-clause-free g c =
    let w = c.args.engine.now in
    let h = lists_of w.parts c.instance-inst.result.now c.solution.result.now.slots w.state c.args.time.0 c.args.rtype
    _ _ c.in_ok-tasks.tasks c.in_ok-tasks.resources c.as_slice.result.now c.as_slice-2.result.now
    c.instance-inst.ensures c.solution.ensures.slots c.in_ok-tasks.ensures.0 c.in_ok-tasks.ensures.1
    c.list_tasks-tasks.ensures c.list_resources-resources.ensures c.as_slice.ensures c.as_slice-2.ensures in
    lists_open w.parts w.state c.args.time.0 c.args.rtype _ _ h c.facts.ensures.made c.facts.ensures.valid

pub match_lists-requires-clause-apart : goal.match_lists-requires-clause-apart
match_lists-requires-clause-apart g c =
    let w = c.args.engine.now in
    let h = lists_of w.parts c.instance-inst.result.now c.solution.result.now.slots w.state c.args.time.0 c.args.rtype
    _ _ c.in_ok-tasks.tasks c.in_ok-tasks.resources c.as_slice.result.now c.as_slice-2.result.now
    c.instance-inst.ensures c.solution.ensures.slots c.in_ok-tasks.ensures.0 c.in_ok-tasks.ensures.1
    c.list_tasks-tasks.ensures c.list_resources-resources.ensures c.as_slice.ensures c.as_slice-2.ensures in
    lists_apart w.parts w.state c.args.time.0 c.args.rtype _ _ h c.facts.ensures.made c.facts.ensures.valid

pub match_lists-requires-clause-few_resources : goal.match_lists-requires-clause-few_resources
match_lists-requires-clause-few_resources g c =
    let w = c.args.engine.now in
    let h = lists_of w.parts c.instance-inst.result.now c.solution.result.now.slots w.state c.args.time.0 c.args.rtype
    _ _ c.in_ok-tasks.tasks c.in_ok-tasks.resources c.as_slice.result.now c.as_slice-2.result.now
    c.instance-inst.ensures c.solution.ensures.slots c.in_ok-tasks.ensures.0 c.in_ok-tasks.ensures.1
    c.list_tasks-tasks.ensures c.list_resources-resources.ensures c.as_slice.ensures c.as_slice-2.ensures in
    lists_few w.parts w.state c.args.time.0 c.args.rtype _ _ h c.facts.ensures.made

pub returns-clause-matched : goal.returns-clause-matched
returns-clause-matched g c =
    let w = c.args.engine.now in
    let h = lists_of w.parts c.instance-inst.result.now c.solution.result.now.slots w.state c.args.time.0 c.args.rtype
    _ _ c.in_ok-tasks.tasks c.in_ok-tasks.resources c.as_slice.result.now c.as_slice-2.result.now
    c.instance-inst.ensures c.solution.ensures.slots c.in_ok-tasks.ensures.0 c.in_ok-tasks.ensures.1
    c.list_tasks-tasks.ensures c.list_resources-resources.ensures c.as_slice.ensures c.as_slice-2.ensures in
    let m : Matched = record {
      tasks = c.in_ok-tasks.tasks;
      resources = c.in_ok-tasks.resources;
      cheapest = c.in_ok-choice.choice.cheapest;
      sum = c.in_ok-choice.choice.sum;
      taken = c.in_ok-choice.choice.taken;
    } in
    matched_by w.parts w.state c.args.time.0 c.args.rtype m c.as_slice.result.now c.as_slice-2.result.now h
    c.as_slice.ensures c.as_slice-2.ensures c.in_ok-choice.ensures.certified c.in_ok-choice.ensures.sum
    c.in_ok-choice.ensures.lower

pub returns-clause-state : goal.returns-clause-state
returns-clause-state g c =
    let w = c.args.engine.now in
    let h = lists_of w.parts c.instance-inst.result.now c.solution.result.now.slots w.state c.args.time.0 c.args.rtype
    _ _ c.in_ok-tasks.tasks c.in_ok-tasks.resources c.as_slice.result.now c.as_slice-2.result.now
    c.instance-inst.ensures c.solution.ensures.slots c.in_ok-tasks.ensures.0 c.in_ok-tasks.ensures.1
    c.list_tasks-tasks.ensures c.list_resources-resources.ensures c.as_slice.ensures c.as_slice-2.ensures in
    let m : Matched = record {
      tasks = c.in_ok-tasks.tasks;
      resources = c.in_ok-tasks.resources;
      cheapest = c.in_ok-choice.choice.cheapest;
      sum = c.in_ok-choice.choice.sum;
      taken = c.in_ok-choice.choice.taken;
    } in
    left_of w.parts w.state c.match_lists.new.engine.state c.args.time.0 c.args.rtype m c.as_slice.result.now
    c.as_slice-2.result.now h c.in_ok-choice.ensures.state
