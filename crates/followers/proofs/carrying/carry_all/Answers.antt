use Rattle.std.proofs.Common.{◌≤◌, ◌-◌, ◌∙◌, ap, length, refl, sym, subst, arith}
use Rattle.khe_base.specs.declared.limits.TheConstants.{TIMES}
use Rattle.khe_instance.specs.declared.parts.Parts.{Parts}
use Rattle.khe_solution.specs.Editing.{timed}
use Rattle.followers.specs.Carrying.{MayPut}
use Rattle.followers.specs.Links.{count_of}
use Rattle.followers.proofs.CarryLaws.{later_may, left_here, left_one, may_put, some_tie}
use Rattle.followers.proofs.PutLaws.{after_one, room_less}
use Rattle.followers.proofs.carrying.carry_all.Goals as goal

pub bounds : goal.bounds
bounds g c = (left_here c.args.links.ties.now c.args.links.next.now c.args.links.prev.now c.args.leader.0 c.args.start
    c.loop-left.at c.loop-left.left c.args.engine.now.state.slots c.loop-left.engine.state.slots
    c.loop-left.invariant.left c.loop-left-test.true).there

pub unreachable-requires : goal.unreachable-requires
unreachable-requires g c = some_tie c.args.links.ties.now c.args.leader.0 c.loop-left.at
    (left_here c.args.links.ties.now c.args.links.next.now c.args.links.prev.now c.args.leader.0 c.args.start
    c.loop-left.at c.loop-left.left c.args.engine.now.state.slots c.loop-left.engine.state.slots
    c.loop-left.invariant.left c.loop-left-test.true).to c.in_default.not-Some

pub later-requires : goal.later-requires
later-requires g c =
    let p = c.args.engine.now.parts in
    let few : length p.times ≤ TIMES = subst (λ (q : Parts). length q.times ≤ TIMES) c.instance.ensures
    c.facts.ensures.limits.times in
    later_may p c.args.links.ties.now c.args.leader.0 c.loop-left.at c.in-Some.tie c.args.start
    c.args.engine.now.state.slots c.loop-left.engine.state.slots (omega (arith, few)) c.in-Some.is
    (left_here c.args.links.ties.now c.args.links.next.now c.args.links.prev.now c.args.leader.0 c.args.start
    c.loop-left.at c.loop-left.left c.args.engine.now.state.slots c.loop-left.engine.state.slots
    c.loop-left.invariant.left c.loop-left-test.true) c.requires.may

pub put-requires-clause-may : goal.put-requires-clause-may
put-requires-clause-may g c = subst (MayPut c.loop-left.engine.parts c.loop-left.engine.state.slots c.loop-left.at)
    (sym c.later.ensures)
    (may_put c.args.engine.now.parts c.loop-left.engine.parts c.args.links.ties.now c.args.leader.0 c.loop-left.at
    c.in-Some.tie c.args.start c.args.engine.now.state.slots c.loop-left.engine.state.slots
    c.loop-left.invariant.after.parts c.in-Some.is
    (left_here c.args.links.ties.now c.args.links.next.now c.args.links.prev.now c.args.leader.0 c.args.start
    c.loop-left.at c.loop-left.left c.args.engine.now.state.slots c.loop-left.engine.state.slots
    c.loop-left.invariant.left c.loop-left-test.true) c.requires.may)

pub put-requires-clause-room : goal.put-requires-clause-room
put-requires-clause-room g c =
    let n = count_of c.args.links.ties.now c.args.leader.0 in
    room_less (n - c.loop-left.left) 1 n c.args.engine.now c.loop-left.engine c.requires.room
    c.loop-left.invariant.after (omega (arith, c.loop-left-test.true, c.loop-left.invariant.most))

pub loop-left-preserved : goal.loop-left-preserved
loop-left-preserved g c =
    let n = count_of c.args.links.ties.now c.args.leader.0 in
    record {
      most = omega (arith, c.loop-left.invariant.most);
      left = left_one c.args.links.ties.now c.args.links.next.now c.args.links.prev.now c.args.leader.0 c.args.start
          c.loop-left.at c.loop-left.left (record { 0 = c.loop-left.at }) c.in-Some.tie c.args.engine.now.state.slots
          c.loop-left.engine.state.slots c.put.new.engine.state.slots c.requires.long refl c.in-Some.is
          (c.put.ensures.slots
          ∙ ap (timed c.loop-left.engine.state.slots (record { 0 = c.loop-left.at })) c.later.ensures)
          c.loop-left-test.true c.loop-left.invariant.left;
      grouping = c.put.ensures.grouping ∙ c.loop-left.invariant.grouping;
      after = after_one n c.loop-left.left c.args.engine.now c.loop-left.engine c.put.new.engine
          c.loop-left.invariant.after c.put.ensures.after c.loop-left-test.true c.loop-left.invariant.most;
    }
