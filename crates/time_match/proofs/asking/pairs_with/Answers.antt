use Rattle.std.proofs.Common.{◌≡◌, ◌+◌, ◌∙◌, ap, arith, subst, sym, take}
use Rattle.std.specs.Prelude.{All, IfSome}
use Rattle.std.specs.List.{flat_map}
use Rattle.std.proofs.lemmas.List.{length-map, take_all}
use Rattle.khe_engine.specs.Worlds.{World}
use Rattle.time_match.specs.Costs.{row}
use Rattle.time_match.specs.Leaders.{IsKept, IsReadFrom, preferences, tasks_of}
use Rattle.time_match.specs.Open.{AreReady}
use Rattle.time_match.specs.declared.likenesses.Likeness.{Likeness}
use Rattle.time_match.proofs.asking.pairs_with.Goals as goal

pub push_task-requires-clause-numbers : goal.push_task-requires-clause-numbers
push_task-requires-clause-numbers g c =
    subst (λ (u : World). c.args.reads.now.numbers.now ≡ preferences u.parts) (sym c.loop-place.invariant.same) c.requires.numbers

pub push_task-requires-clause-read : goal.push_task-requires-clause-read
push_task-requires-clause-read g c =
    subst (λ (u : World). All (IsReadFrom u.parts u.state.slots) c.args.reads.now.read.now) (sym c.loop-place.invariant.same)
    c.requires.read

pub push_task-requires-clause-ready : goal.push_task-requires-clause-ready
push_task-requires-clause-ready g c =
    subst (λ (u : World). AreReady u.parts c.args.reads.now.resources.now u.state.slots (tasks_of c.args.reads.now.read.now))
    (sym c.loop-place.invariant.same) c.requires.ready

pub push_task-requires-clause-pairs : goal.push_task-requires-clause-pairs
push_task-requires-clause-pairs g c =
    subst (λ (u : World). c.loop-place.pairs ≡ flat_map (row u.parts u.state c.args.reads.now.resources.now)
    (take c.loop-place.place (tasks_of c.args.reads.now.read.now))) (sym c.loop-place.invariant.same)
    c.loop-place.invariant.pairs

pub push_task-requires-clause-kept : goal.push_task-requires-clause-kept
push_task-requires-clause-kept g c =
    subst (λ (u : World). IfSome c.loop-place.kept (IsKept u.parts u.state c.args.reads.now.resources.now))
    (sym c.loop-place.invariant.same) c.loop-place.invariant.kept

pub loop-place-preserved : goal.loop-place-preserved
loop-place-preserved g c =
    let same = c.loop-place.invariant.same in
    record {
      pairs = c.in_ok-kept.ensures.pairs
          ∙ ap (λ (u : World). flat_map (row u.parts u.state c.args.reads.now.resources.now)
          (take (c.loop-place.place + 1) (tasks_of c.args.reads.now.read.now))) same;
      small = c.push_task.ensures.small;
      same = c.push_task.ensures.same ∙ same;
      kept = subst (λ (u : World). IfSome c.in_ok-kept.kept (IsKept u.parts u.state c.args.reads.now.resources.now)) same
          c.in_ok-kept.ensures.kept;
    }

pub returns-clause-pairs : goal.returns-clause-pairs
returns-clause-pairs g c =
    let w = c.args.engine.now in
    let read = c.args.reads.now.read.now in
    let end = c.loop-place-test.false in
    let many = length-map read (λ (x : Likeness). x.task) in
    c.loop-place.invariant.pairs
    ∙ ap (flat_map (row w.parts w.state c.args.reads.now.resources.now))
    (take_all c.loop-place.place (tasks_of read) (omega (arith, end, many)))
