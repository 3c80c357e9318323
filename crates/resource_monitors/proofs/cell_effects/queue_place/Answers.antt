-- By busy times and clashes before and after.
use Rattle.std.proofs.Common.{◌-◌, ◌∙◌, length, sym, ap, subst, arith, sum_by}
use Rattle.std.specs.List.{range_with_len}
use Rattle.std.proofs.lemmas.Option.{same_Some}
use Rattle.khe_base.specs.declared.numbers.ResourceId.{ResourceId}
use Rattle.khe_told.specs.Effects.{turned_all}
use Rattle.timetables.specs.Counts.{count_at}
use Rattle.resource_monitors.specs.Effects.{IsSettled}
use Rattle.resource_monitors.specs.Shifts.{after_both}
use Rattle.resource_monitors.proofs.CellEffectLaws.{can_here, can_row, list_settled, word_same}
use Rattle.resource_monitors.proofs.PlaceLaws.{are_posts, list_at}
use Rattle.resource_monitors.proofs.ShiftLaws.{shifts_then}
use Rattle.std.proofs.lemmas.Option.{slice_get_within}
use Rattle.resource_monitors.proofs.cell_effects.queue_place.Goals as goal

pub word_after-after-requires-clause-can : goal.word_after-after-requires-clause-can
word_after-after-requires-clause-can g c = can_row c.args.inst.now c.args.table.now c.in-Some.r.0
    c.shifts_of-shifts.result c.requires.rows (c.requires.resource c.in-Some.r c.in-Some.is)
    (can_here c.args.inst.now c.facts.ensures c.args.told.now c.args.effects.now
    c.args.table.now c.in-Some.r.0 c.shifts_of-shifts.result c.requires.turns c.requires.rows
    (c.requires.resource c.in-Some.r c.in-Some.is) c.requires.counts c.shifts_of-shifts.ensures.shifts
    c.shifts_of-shifts.ensures.first c.shifts_of-shifts.ensures.second)

pub clashes_after-clashes-requires-clause-can : goal.clashes_after-clashes-requires-clause-can
clashes_after-clashes-requires-clause-can g c = can_row c.args.inst.now c.args.table.now c.in-Some.r.0
    c.shifts_of-shifts.result c.requires.rows (c.requires.resource c.in-Some.r c.in-Some.is)
    (can_here c.args.inst.now c.facts.ensures c.args.told.now c.args.effects.now
    c.args.table.now c.in-Some.r.0 c.shifts_of-shifts.result c.requires.turns c.requires.rows
    (c.requires.resource c.in-Some.r c.in-Some.is) c.requires.counts c.shifts_of-shifts.ensures.shifts
    c.shifts_of-shifts.ensures.first c.shifts_of-shifts.ensures.second)

pub add_changed-requires-clause-known : goal.add_changed-requires-clause-known
add_changed-requires-clause-known g c = λ k a h.
    (let there = are_posts c.args.inst.now g.K.CellKinds.serves_kind c.in-Some.r.0 c.as_slice-list.result.now
    (list_at g.K.CellKinds.serves_kind (length c.args.inst.now.resources) c.args.inst.now.monitors c.args.lists.now
    c.in-Some.r.0 c.index-lists-r.result c.as_slice-list.result.now c.requires.lists
    (c.requires.resource c.in-Some.r c.in-Some.is) c.index-lists-r.is c.as_slice-list.ensures) k a h in
    let l = slice_get_within c.args.inst.now.monitors a.number.0 a.monitor there in
    let b = c.requires.monitors in
    omega (arith, l, b))

pub returns-clause-settled : goal.returns-clause-settled
returns-clause-settled g c = λ r is.
    (let p = c.args.inst.now in
    let s2 = turned_all c.args.told.now c.args.effects.now in
    let x = c.in-Some.r in
    let l = c.requires.resource x c.in-Some.is in
    let can = (can_here c.args.inst.now c.facts.ensures c.args.told.now c.args.effects.now
    c.args.table.now c.in-Some.r.0 c.shifts_of-shifts.result c.requires.turns c.requires.rows
    (c.requires.resource c.in-Some.r c.in-Some.is) c.requires.counts c.shifts_of-shifts.ensures.shifts
    c.shifts_of-shifts.ensures.first c.shifts_of-shifts.ensures.second) in
    subst (λ (y : ResourceId). IsSettled p g.K.CellKinds.serves_kind c.args.told.now s2 y.0
    (g.W.Waits.waits c.add_changed.new.waits)) (same_Some x r (sym c.in-Some.is ∙ is))
    (list_settled p c.facts.ensures g.K.CellKinds.serves_kind g.met.K.CellKinds.at_cells c.args.told.now s2 x
    c.as_slice-list.result.now
    (list_at g.K.CellKinds.serves_kind (length c.args.inst.now.resources) c.args.inst.now.monitors c.args.lists.now
    c.in-Some.r.0 c.index-lists-r.result c.as_slice-list.result.now c.requires.lists
    (c.requires.resource c.in-Some.r c.in-Some.is) c.index-lists-r.is c.as_slice-list.ensures)
    (count_at c.args.table.now x.0) (after_both c.shifts_of-shifts.result (count_at c.args.table.now x.0))
    (c.requires.counts x.0)
    (shifts_then p c.facts.ensures x.0 c.shifts_of-shifts.result
    (count_at c.args.table.now x.0) c.args.told.now c.args.effects.now c.requires.turns
    c.shifts_of-shifts.ensures.shifts (c.requires.counts x.0))
    c.differs-busy.result c.differs-other.result
    (λ e. word_same p c.args.table.now x.0 c.shifts_of-shifts.result c.requires.rows l c.requires.few can
    c.word-before.result c.word_after-after.result c.word-before.ensures c.word_after-after.ensures
    (c.differs-busy.ensures e))
    (λ e. ap (λ n. sum_by (λ t. after_both c.shifts_of-shifts.result (count_at c.args.table.now x.0) t - 1)
    (range_with_len 0 n)) (sym (c.requires.rows.times x.0 l))
    ∙ sym c.clashes_after-clashes.ensures ∙ c.differs-other.ensures e ∙ c.clashes.ensures
    ∙ ap (λ n. sum_by (λ t. count_at c.args.table.now x.0 t - 1) (range_with_len 0 n)) (c.requires.rows.times x.0 l))
    (g.W.Waits.waits c.args.waits.now) (g.W.Waits.waits c.add_changed.new.waits) c.add_changed.ensures.added))
