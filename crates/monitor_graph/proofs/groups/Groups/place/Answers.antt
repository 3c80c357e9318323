use Rattle.std.proofs.Common.{◌≡◌, ◌≤◌, List, sym, arith, subst}
use Rattle.khe_base.specs.declared.numbers.MonitorId.{MonitorId}
use Rattle.monitor_graph.specs.Groups.{occurs, place_of}
use Rattle.monitor_graph.proofs.SeatLaws.{only_place}
use Rattle.monitor_graph.proofs.groups.Groups.place.Goals as goal

pub returns-then-children-place : goal.returns-then-children-place
returns-then-children-place c =
    let P : List MonitorId → Type 0 = λ xs. c.guess-place.result ≡ place_of c.args.child.0 xs in
    subst P c.children-children.ensures
    (only_place c.children-children.result.now c.args.child.0 c.guess-place.result (record { 0 = 0 })
    (omega arith) c.if-children-place.true
    (subst (λ xs. occurs c.args.child.0 xs ≤ 1) (sym c.children-children.ensures)
    (c.facts.ensures.valid.once c.args.group.0 c.args.child.0)))
