use Rattle.time_match.proofs.LeaderLaws.{may_at, row_next_at}
use Rattle.time_match.proofs.asking.push_task.Goals as goal

pub push_like-requires-clause-first : goal.push_like-requires-clause-first
push_like-requires-clause-first g c = c.is_led.ensures.first c.if-is_led.true

pub push_like-requires-clause-some : goal.push_like-requires-clause-some
push_like-requires-clause-some g c = c.is_led.ensures.some c.if-is_led.true

pub push_like-requires-clause-like : goal.push_like-requires-clause-like
push_like-requires-clause-like g c = c.first_like-first.ensures.like (c.is_led.ensures.first c.if-is_led.true)

pub push_row-requires-clause-accepted : goal.push_row-requires-clause-accepted
push_row-requires-clause-accepted g c =
    may_at c.args.engine.now.parts c.args.reads.now.resources.now c.args.engine.now.state.slots c.args.reads.now.read.now c.args.place
    c.requires.ready c.requires.place

pub returns-in_ok-push_row-clause-pairs : goal.returns-in_ok-push_row-clause-pairs
returns-in_ok-push_row-clause-pairs g c =
    let p = c.args.engine.now.parts in
    let b = c.args.engine.now.state in
    let rs = c.args.reads.now.resources.now in
    let read = c.args.reads.now.read.now in
    row_next_at p b rs read c.args.place c.args.pairs.now c.push_row.new.pairs c.requires.place c.requires.pairs
    c.in_ok-push_row.ensures.row
