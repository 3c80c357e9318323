use Rattle.std.proofs.Common.{arith, subst, sym}
use Rattle.std.specs.Prelude.{All}
use Rattle.std.proofs.lemmas.List.Elements.{All-drop, All-take}
use Rattle.resource_match.specs.Smallness.{IsSmall}
use Rattle.time_match.specs.Leaders.{no_likeness}
use Rattle.time_match.proofs.LeaderLaws.{asked_is, bare_at, may_at, wide_enough}
use Rattle.time_match.proofs.asking.lead.Goals as goal

pub row_at-asked-requires : goal.row_at-asked-requires
row_at-asked-requires g c =
    let p = c.args.engine.now.parts in
    let b = c.args.engine.now.state in
    let rs = c.args.reads.now.resources.now in
    let read = c.args.reads.now.read.now in
    wide_enough p b rs read c.args.place c.args.first c.args.pairs.now c.requires.place c.requires.first
    c.requires.pairs

pub leader_of-requires-clause-asked : goal.leader_of-requires-clause-asked
leader_of-requires-clause-asked g c =
    let p = c.args.engine.now.parts in
    let b = c.args.engine.now.state in
    let rs = c.args.reads.now.resources.now in
    let read = c.args.reads.now.read.now in
    asked_is p b rs read c.args.place c.args.first c.args.pairs.now c.row_at-asked.result.now c.requires.place
    c.requires.first c.requires.pairs c.row_at-asked.ensures

pub leader_of-requires-clause-small : goal.leader_of-requires-clause-small
leader_of-requires-clause-small g c =
    subst (All IsSmall) (sym c.row_at-asked.ensures) (All-take IsSmall _ _ (All-drop IsSmall _ _ c.requires.small))

pub leader_of-requires-clause-like : goal.leader_of-requires-clause-like
leader_of-requires-clause-like g c =
    let l = c.requires.place in
    let h = c.requires.first in
    c.requires.read c.args.first no_likeness (omega (arith, l, h)) c.requires.single

pub leader_of-requires-clause-bare : goal.leader_of-requires-clause-bare
leader_of-requires-clause-bare g c =
    let l = c.requires.place in
    let h = c.requires.first in
    bare_at c.args.engine.now.parts c.args.reads.now.resources.now c.args.engine.now.state.slots c.args.reads.now.read.now c.args.first
    c.requires.ready (omega (arith, l, h))

pub leader_of-requires-clause-accepted : goal.leader_of-requires-clause-accepted
leader_of-requires-clause-accepted g c =
    let l = c.requires.place in
    let h = c.requires.first in
    may_at c.args.engine.now.parts c.args.reads.now.resources.now c.args.engine.now.state.slots c.args.reads.now.read.now c.args.first
    c.requires.ready (omega (arith, l, h))
