-- What was made is there for the state without meets.
use Rattle.std.proofs.Common.{◌≡◌, ◌+◌, ◌∙◌, sym, ap, subst, length, arith, Ok, List, ℕ}
use Rattle.khe_base.proofs.ResultLemmas.{if_ok}
use Rattle.khe_told.specs.Slots.{no_meets}
use Rattle.khe_told.specs.declared.slots.Slot.{Slot}
use Rattle.demand_matching.specs.Domains.{Domains, no_domains}
use Rattle.hall_report.proofs.DemandsOpened.{opened}
use Rattle.hall_report.specs.Kept.{AreOf}
use Rattle.hall_report.specs.Opening.{AreCells, AreWanted}
use Rattle.hall_report.specs.Picks.{AreResourceSets, AreStartSets}
use Rattle.hall_report.specs.Units.{AreFirsts, AreUnits}
use Rattle.hall_report.specs.declared.renewing.Picks.{Picks}
use Rattle.hall_report.proofs.demands.Demands.open.Goals as goal

of_instance : (c : goal.After-want_cells) → AreOf c.args.inst.now c.in_ok-starts.told c.in_ok-starts.units
    (record { starts = c.in_ok-starts.starts.entries; resources = c.in_ok-starts.resources.entries })
    c.want_cells.new.matching c.in_ok-starts.cells c.task_slots-tasks.result c.times-times.result
of_instance c =
    let p = c.args.inst.now in
    let made = c.in_ok-starts in
    let picks : Picks = record { starts = made.starts.entries; resources = made.resources.entries } in
    let tops = made.ensures in
    let parts = if_ok c.both-parts.result ((made.starts, made.resources), made.cells)
    (λ q. (c.both.result ≡ Ok q.0) × (c.free_cells.result ≡ Ok q.1)) tops.0 c.both-parts.ensures in
    let pair = if_ok c.both.result (made.starts, made.resources)
    (λ q. (c.start_sets-starts.result ≡ Ok q.0) × (c.resource_sets-resources.result ≡ Ok q.1)) parts.0
    c.both.ensures in
    let rest = if_ok c.both-rest.result (made.told, made.units)
    (λ q. (c.open.result ≡ Ok q.0) × (c.open-2.result ≡ Ok q.1)) tops.1 c.both-rest.ensures in
    let starts = if_ok c.start_sets-starts.result made.starts (λ q. AreStartSets p q.sets q.entries.items) pair.0
    c.start_sets-starts.ensures in
    let resources = if_ok c.resource_sets-resources.result made.resources
    (λ q. AreResourceSets p q.sets q.entries.items) pair.1 c.resource_sets-resources.ensures in
    let cells = if_ok c.free_cells.result made.cells (AreCells p) parts.1 c.free_cells.ensures in
    let told : made.told ≡ no_meets p = if_ok c.open.result made.told (λ q. q ≡ no_meets p) rest.0 c.open.ensures in
    let units = if_ok c.open-2.result made.units (λ q. AreUnits p.events (no_meets p) q.next.items q.held.items
    q.free.items) rest.1 c.open-2.ensures.free in
    let firsts = if_ok c.open-2.result made.units (λ q. AreFirsts p.events q.tasks.items) rest.1
    c.open-2.ensures.firsts in
    let tasks = c.task_slots-tasks.result in
    let times = c.times-times.result in
    let wanted : AreWanted times tasks made.cells c.in_ok-matching.matching c.want_cells.new.matching =
    subst (λ (xs : List ℕ). AreWanted times tasks xs c.in_ok-matching.matching c.want_cells.new.matching)
    c.as_slice.ensures c.want_cells.ensures in
    let over : AreWanted times tasks made.cells (no_domains made.starts.sets made.resources.sets times
    c.resources.result (tasks + length made.cells)) c.want_cells.new.matching =
    subst (λ (w : Domains). AreWanted times tasks made.cells w c.want_cells.new.matching)
    (c.in_ok-matching.ensures ∙ ap (no_domains made.starts.sets made.resources.sets times c.resources.result)
    (omega (arith, c.len.ensures, cells.few)))
    wanted in
    subst (λ (s : List Slot). AreOf p s made.units picks c.want_cells.new.matching made.cells tasks times) (sym told)
    (opened p made.units picks made.starts.sets made.resources.sets made.cells c.want_cells.new.matching tasks times
    c.resources.result (tasks + length made.cells)
    c.facts.ensures units firsts starts resources cells c.task_slots-tasks.ensures c.times-times.ensures
    c.resources.ensures (let e : tasks + length made.cells ≡ tasks + length made.cells = omega arith in e) over)

pub invariant_of-result : goal.invariant_of-result
invariant_of-result c = record { opened = ∣ (c.args.inst.now, of_instance c) ∣₁ }

pub returns-clause-of : goal.returns-clause-of
returns-clause-of c = of_instance c.before
