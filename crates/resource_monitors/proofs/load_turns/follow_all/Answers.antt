-- Place by place, where those that are passed over are given the same for the same duration.
use Rattle.std.proofs.Common.{◌+◌, ◌∙◌, inl, refl}
use Rattle.resource_monitors.proofs.WaitLaws.{same_on}
use Rattle.resource_monitors.specs.Loads.{is_on_workload, value_in}
use Rattle.resource_monitors.proofs.LoadStepLaws.{exchanged_last, exchanged_more, exchanged_over, moved_here, room_here}
use Rattle.resource_monitors.proofs.LoadStepLaws.{some_here}
use Rattle.resource_monitors.proofs.load_turns.follow_all.Goals as goal

pub loop-number-init : goal.loop-number-init
loop-number-init g c = record {
  resources = refl;
  exchanged = exchanged_over c.args.inst.now c.args.resized.event c.args.resized.less c.args.resized.more
      c.args.regiven.now.before.now c.args.regiven.now.later.now 0
      c.next-number.result c.next-number.ensures.from c.requires.can.places
      (λ j a b. c.requires.still j (c.next-number.ensures.none j a b))
      c.args.loads.now.items c.args.loads.now.items (λ q. refl);
  same = refl;
  unmoved = λ hears i m there served idle. refl;
  kept = λ k e. e;
  listed = λ i e. inl e;
}

pub follow_both-requires-clause-some : goal.follow_both-requires-clause-some
follow_both-requires-clause-some g c = some_here c.args.inst.now c.args.resized.event c.args.resized.less
    c.args.resized.more c.args.regiven.now.before.now
    c.args.regiven.now.later.now
    c.loop-number.number c.loop-number-test.true c.requires.can.places
    c.args.loads.now.items c.loop-number.loads.items c.requires.can.some c.loop-number.invariant.exchanged

pub follow_both-requires-clause-room : goal.follow_both-requires-clause-room
follow_both-requires-clause-room g c = room_here c.args.inst.now c.args.resized.event c.args.resized.less
    c.args.resized.more c.args.regiven.now.before.now
    c.args.regiven.now.later.now
    c.loop-number.number c.loop-number-test.true c.requires.can.places
    c.args.loads.now.items c.loop-number.loads.items c.requires.can.room c.loop-number.invariant.exchanged

pub loop-number-preserved : goal.loop-number-preserved
loop-number-preserved g c = record {
  resources = c.follow_both.ensures.resources ∙ c.loop-number.invariant.resources;
  exchanged = exchanged_over c.args.inst.now c.args.resized.event c.args.resized.less c.args.resized.more
      c.args.regiven.now.before.now c.args.regiven.now.later.now
      (c.loop-number.number + 1) c.next-number-in-loop-number.result c.next-number-in-loop-number.ensures.from
      c.requires.can.places
      (λ j a b. c.requires.still j (c.next-number-in-loop-number.ensures.none j a b))
      c.args.loads.now.items c.follow_both.new.loads.items
      (exchanged_more c.args.inst.now c.args.resized.event c.args.resized.less c.args.resized.more
      c.args.regiven.now.before.now c.args.regiven.now.later.now
      c.loop-number.number c.loop-number-test.true c.requires.can.places
      c.args.loads.now.items c.loop-number.loads.items c.follow_both.new.loads.items
      c.loop-number.invariant.exchanged c.follow_both.ensures.loads);
  same = c.follow_both.ensures.monitors ∙ c.loop-number.invariant.same;
  unmoved = λ hears. same_on c.args.inst.now is_on_workload (value_in c.args.inst.now c.args.loads.now.items)
      (value_in c.args.inst.now c.loop-number.loads.items) (value_in c.args.inst.now c.follow_both.new.loads.items)
      (g.W.Waits.waits c.loop-number.waits) (g.W.Waits.waits c.follow_both.new.waits)
      (c.loop-number.invariant.unmoved hears) c.follow_both.ensures.kept (c.follow_both.ensures.unmoved hears);
  kept = λ k e. c.follow_both.ensures.kept k (c.loop-number.invariant.kept k e);
  listed = moved_here c.args.inst.now c.args.resized.event c.args.resized.less c.args.resized.more
      c.args.regiven.now.before.now c.args.regiven.now.later.now
      c.loop-number.number c.loop-number-test.true c.requires.can.places
      (g.W.Waits.waits c.args.waits.now) (g.W.Waits.waits c.loop-number.waits)
      (g.W.Waits.waits c.follow_both.new.waits) c.loop-number.invariant.listed c.follow_both.ensures.listed;
}

pub returns-clause-loads : goal.returns-clause-loads
returns-clause-loads g c = exchanged_last c.args.inst.now c.args.resized.event c.args.resized.less c.args.resized.more
    c.args.regiven.now.before.now
    c.args.regiven.now.later.now
    c.loop-number.number c.args.loads.now.items c.loop-number.loads.items c.loop-number-test.false
    c.requires.can.places c.loop-number.invariant.exchanged
