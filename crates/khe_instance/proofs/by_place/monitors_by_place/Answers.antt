-- One monitor more.
use Rattle.std.proofs.Common.{ap, sym, false, length}
use Rattle.std.specs.Option.{option_map_or}
use Rattle.khe_instance.specs.ByPlace.{is_at_place, is_place}
use Rattle.khe_instance.specs.Lookups.{places_at}
use Rattle.khe_instance.specs.declared.points.Monitor.{Monitor}
use Rattle.khe_instance.proofs.ListingLemmas.{one_tabled}
use Rattle.khe_instance.proofs.MadeLemmas.{monitor_made}
use Rattle.khe_instance.proofs.PlaceLemmas.{has_point}
use Rattle.khe_instance.proofs.by_place.monitors_by_place.Goals as goal

pub add_at_place-requires : goal.add_at_place-requires
add_at_place-requires c =
    let p = c.args.inst.now in
    let m = c.monitor-point.result in
    has_point p (is_at_place p.monitors) c.loop-number.number c.loop-number.table m
    (monitor_made p c.facts.ensures c.loop-number.number m c.monitor-point.ensures) c.loop-number.invariant

pub loop-number-preserved : goal.loop-number-preserved
loop-number-preserved c =
    let p = c.args.inst.now in
    let m = c.monitor-point.result in
    one_tabled (is_at_place p.monitors) (length p.events) (places_at p.events) c.loop-number.number (is_place m.point)
    c.loop-number.table _
    (λ a b l h. ap (λ o. option_map_or (λ (x : Monitor). is_place x.point a b) o false) (sym c.monitor-point.ensures))
    c.loop-number.invariant c.in_ok-add_at_place.ensures
