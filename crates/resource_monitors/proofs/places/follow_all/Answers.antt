-- Place by place, where those that are passed over are given the same at the same times.
use Rattle.std.proofs.Common.{◌+◌, ◌∙◌, inl, refl}
use Rattle.timetables.specs.Counts.{count_at}
use Rattle.resource_monitors.specs.Cells.{value_in}
use Rattle.resource_monitors.proofs.ExchangeLaws.{exchanged_last, exchanged_more, exchanged_none, exchanged_over}
use Rattle.resource_monitors.proofs.ExchangeLaws.{moved_here, room_here}
use Rattle.resource_monitors.proofs.ExchangeLaws.{some_here}
use Rattle.resource_monitors.proofs.WaitLaws.{same_on}
use Rattle.resource_monitors.proofs.places.follow_all.Goals as goal

pub loop-place-init : goal.loop-place-init
loop-place-init g c = record {
  rows = c.requires.rows;
  counts = exchanged_over c.args.emptied c.args.filled c.args.regiven.now.before.now c.args.regiven.now.later.now 0
      c.next-place.result
      c.next-place.ensures.from c.requires.can.places
      (λ j a b. c.requires.still j (c.next-place.ensures.none j a b))
      (count_at c.args.table.now) (count_at c.args.table.now)
      (exchanged_none c.args.emptied c.args.filled (count_at c.args.table.now));
  same = refl;
  unmoved = λ hears i m there served idle. refl;
  kept = λ k e. e;
  listed = λ i e. inl e;
}

pub follow_both-requires-clause-some : goal.follow_both-requires-clause-some
follow_both-requires-clause-some g c = some_here c.args.emptied c.args.filled c.args.regiven.now.before.now
    c.args.regiven.now.later.now
    c.loop-place.place
    c.loop-place-test.true c.requires.can.places
    (count_at c.args.table.now) (count_at c.loop-place.table) c.requires.can.some c.loop-place.invariant.counts

pub follow_both-requires-clause-room : goal.follow_both-requires-clause-room
follow_both-requires-clause-room g c = room_here c.args.emptied c.args.filled c.args.regiven.now.before.now
    c.args.regiven.now.later.now
    c.loop-place.place
    c.loop-place-test.true c.requires.can.places
    (count_at c.args.table.now) (count_at c.loop-place.table) c.requires.can.few c.requires.can.room
    c.loop-place.invariant.counts

pub loop-place-preserved : goal.loop-place-preserved
loop-place-preserved g c = record {
  rows = c.follow_both.ensures.rows;
  counts = exchanged_over c.args.emptied c.args.filled c.args.regiven.now.before.now c.args.regiven.now.later.now
      (c.loop-place.place + 1)
      c.next-place-in-loop-place.result c.next-place-in-loop-place.ensures.from c.requires.can.places
      (λ j a b. c.requires.still j (c.next-place-in-loop-place.ensures.none j a b))
      (count_at c.args.table.now) (count_at c.follow_both.new.table)
      (exchanged_more c.args.emptied c.args.filled c.args.regiven.now.before.now c.args.regiven.now.later.now
      c.loop-place.place
      c.loop-place-test.true c.requires.can.places
      (count_at c.args.table.now) (count_at c.loop-place.table) (count_at c.follow_both.new.table)
      c.loop-place.invariant.counts c.follow_both.ensures.counts);
  same = c.follow_both.ensures.monitors ∙ c.loop-place.invariant.same;
  unmoved = λ hears. same_on c.args.audience.now.inst.now g.K.CellKinds.serves_kind
      (value_in c.args.audience.now.inst.now c.args.table.now)
      (value_in c.args.audience.now.inst.now c.loop-place.table)
      (value_in c.args.audience.now.inst.now c.follow_both.new.table) (g.W.Waits.waits c.loop-place.waits)
      (g.W.Waits.waits c.follow_both.new.waits)
      (c.loop-place.invariant.unmoved hears) c.follow_both.ensures.kept (c.follow_both.ensures.unmoved hears);
  kept = λ k e. c.follow_both.ensures.kept k (c.loop-place.invariant.kept k e);
  listed = moved_here c.args.emptied c.args.filled c.args.regiven.now.before.now c.args.regiven.now.later.now
      c.loop-place.place
      c.loop-place-test.true c.requires.can.places
      c.args.audience.now.inst.now (g.W.Waits.waits c.args.waits.now) (g.W.Waits.waits c.loop-place.waits)
      (g.W.Waits.waits c.follow_both.new.waits) c.loop-place.invariant.listed c.follow_both.ensures.listed;
}

pub returns-clause-counts : goal.returns-clause-counts
returns-clause-counts g c = exchanged_last c.args.emptied c.args.filled c.args.regiven.now.before.now
    c.args.regiven.now.later.now
    c.loop-place.place
    (count_at c.args.table.now) (count_at c.loop-place.table) c.loop-place-test.false c.requires.can.places
    c.loop-place.invariant.counts
