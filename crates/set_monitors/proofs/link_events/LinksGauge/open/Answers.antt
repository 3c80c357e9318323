use Rattle.std.proofs.Common.{◌≡◌, true, length, sym, ap, subst, arith}
use Rattle.khe_instance.specs.KindLaws.{is_kind}
use Rattle.khe_instance.specs.WellMade.{IsMonitor}
use Rattle.khe_instance.specs.declared.rules.Kind.TheVariants as kind
use Rattle.khe_told.specs.Slots.{no_meets}
use Rattle.timetables.specs.Counts.{no_counts}
use Rattle.set_monitors.specs.LinkCounts.{AreLinked}
use Rattle.set_monitors.specs.Links.{AreOfGroup}
use Rattle.set_monitors.proofs.LinkTurnLaws.{all_ok, members_few, none_of_group}
use Rattle.set_monitors.proofs.link_events.LinksGauge.open.Goals as goal

pub overflow_cast-events : goal.overflow_cast-events
overflow_cast-events c =
    let a = members_few c.args.inst.now c.args.monitor.point c.facts.ensures in
    let b = ap length c.members-events.ensures in
    omega (arith, a, b)

pub returns : goal.returns
returns c =
    let p = c.args.inst.now in
    let m = c.args.monitor in
    let events = length c.members-events.result.now in
    let times = c.times.result in
    let of = none_of_group p m.point events times (ap length c.members-events.ensures) c.times.ensures in
    all_ok c.no_links.result (λ l. l.table ≡ no_counts events times) (λ l. length l.running.items ≡ times)
    (λ l. AreLinked l.table l.events l.running.items l.apart)
    (λ l. IsMonitor p m × (is_kind m.kind kind.LinkEvents ≡ true)
    × AreOfGroup p m.point (no_meets p) l.table (length l.running.items)
    × AreLinked l.table l.events l.running.items l.apart)
    (λ l table long linked. (
      c.requires.monitor,
      c.requires.served,
      subst (AreOfGroup p m.point (no_meets p) l.table) (sym long)
          (subst (λ rows. AreOfGroup p m.point (no_meets p) rows times) (sym table) of),
      linked,
    ))
    c.no_links.ensures.table c.no_links.ensures.times c.no_links.ensures.linked
