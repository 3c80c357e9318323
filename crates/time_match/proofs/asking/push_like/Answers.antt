use Rattle.std.proofs.Common.{◌<◌, arith, get_or, length, subst, sym}
use Rattle.khe_base.specs.declared.numbers.TaskId.{TaskId}
use Rattle.time_match.specs.Leaders.{AreExchanged, no_likeness}
use Rattle.time_match.proofs.LeaderLaws.{bare_at, exchanged, may_at, row_next_at}
use Rattle.time_match.proofs.asking.push_like.Goals as goal

pub push_led-requires-clause-like : goal.push_led-requires-clause-like
push_led-requires-clause-like g c = c.requires.read c.args.place no_likeness c.requires.place c.requires.like.second

pub push_led-requires-clause-bare : goal.push_led-requires-clause-bare
push_led-requires-clause-bare g c =
    bare_at c.args.engine.now.parts c.args.reads.now.resources.now c.args.engine.now.state.slots c.args.reads.now.read.now c.args.place
    c.requires.ready c.requires.place

pub push_led-requires-clause-accepted : goal.push_led-requires-clause-accepted
push_led-requires-clause-accepted g c =
    may_at c.args.engine.now.parts c.args.reads.now.resources.now c.args.engine.now.state.slots c.args.reads.now.read.now c.args.place
    c.requires.ready c.requires.place

pub push_led-requires-clause-exchanged : goal.push_led-requires-clause-exchanged
push_led-requires-clause-exchanged g c =
    let p = c.args.engine.now.parts in
    let b = c.args.engine.now.state in
    let rs = c.args.reads.now.resources.now in
    let read = c.args.reads.now.read.now in
    let l = c.requires.place in
    let h = c.requires.first in
    let x = get_or read c.args.first no_likeness in
    let y = get_or read c.args.place no_likeness in
    let within : c.args.first < length read = omega (arith, l, h) in
    subst (λ (t : TaskId). AreExchanged p b t y.task) (sym c.in_ok-leader.ensures.task)
    (exchanged p b x y (c.requires.read c.args.first no_likeness within c.requires.like.first)
    (c.requires.read c.args.place no_likeness l c.requires.like.second) c.requires.like
    (bare_at p rs b.slots read c.args.first c.requires.ready within)
    (bare_at p rs b.slots read c.args.place c.requires.ready l))

pub returns-clause-pairs : goal.returns-clause-pairs
returns-clause-pairs g c =
    let p = c.args.engine.now.parts in
    let b = c.args.engine.now.state in
    let rs = c.args.reads.now.resources.now in
    let read = c.args.reads.now.read.now in
    row_next_at p b rs read c.args.place c.args.pairs.now c.push_led.new.pairs c.requires.place c.requires.pairs
    c.in_ok-push_led.ensures.row
