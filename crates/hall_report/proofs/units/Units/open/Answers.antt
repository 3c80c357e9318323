use Rattle.std.proofs.Common.{◌≡◌, ◌∙◌, length, ap, sym, subst}
use Rattle.std.proofs.lemmas.List.{length-replicate}
use Rattle.std.specs.List.{range_with_len}
use Rattle.khe_told.specs.Slots.{no_meets}
use Rattle.hall_report.specs.Units.{AreUnits, units_of}
use Rattle.hall_report.proofs.UnitsOpened.{units_open}
use Rattle.hall_report.proofs.units.Units.open.Goals as goal

pub returns-clause-free : goal.returns-clause-free
returns-clause-free c =
    let p = c.args.inst.now in
    let held = c.in_ok-held.held.items in
    let many : length held ≡ units_of p.events = ap length (c.in_ok-held.ensures.items_if_clones_equal (λ y h. h))
    ∙ length-replicate c.meet_slots-count.result 0 ∙ c.meet_slots-count.ensures in
    let next : c.in_ok-next.next.items ≡ range_with_len 1 (units_of p.events) =
    c.in_ok-next.ensures ∙ ap (range_with_len 1) c.meet_slots-count.ensures in
    subst (λ n. AreUnits p.events (no_meets p) n held c.in_ok-free.free.items) (sym next)
    (subst (λ f. AreUnits p.events (no_meets p) (range_with_len 1 (units_of p.events)) held f)
    (sym c.in_ok-free.ensures) (units_open p held c.facts.ensures many))
