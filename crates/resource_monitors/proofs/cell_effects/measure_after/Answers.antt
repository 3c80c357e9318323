-- By the row of busy times.
use Rattle.std.proofs.Common.{ℕ, ◌∙◌, Bool, List, nat_lt, sym, ap, count_by}
use Rattle.std.proofs.Common.{sum_by, zero-add}
use Rattle.khe_base.specs.Bounds.{count_outside}
use Rattle.khe_base.specs.Busy.{busy_times, idle_times}
use Rattle.khe_instance.specs.Deviation.{measured}
use Rattle.khe_instance.specs.ResourceDeviation.{used_outside}
use Rattle.timetables.specs.Counts.{count_at}
use Rattle.resource_monitors.specs.Sets.{sets_of}
use Rattle.resource_monitors.specs.Shifts.{after_both}
use Rattle.resource_monitors.proofs.CellEffectLaws.{beyond_row, row_bits}
use Rattle.resource_monitors.proofs.cell_effects.measure_after.Goals as goal

pub returns-in-AvoidUnavailableTimes : goal.returns-in-AvoidUnavailableTimes
returns-in-AvoidUnavailableTimes c = c.busy_total_of.ensures
    ∙ ap (λ (b : ℕ → Bool). (λ (xs : List (List Bool)). sum_by (busy_times b) xs) c.args.masks.now)
    (λ i t. row_bits c.word_after-word.result (after_both c.args.shifts (count_at c.args.table.now c.args.r.0))
    c.word_after-word.ensures (beyond_row c.args.inst.now c.args.table.now c.args.r.0 c.args.shifts c.requires.rows
    c.requires.resource c.requires.few c.requires.can) t i)
    ∙ ap (λ (xs : List (List Bool)). (λ (b : ℕ → Bool). sum_by (busy_times b) xs)
    (λ t. nat_lt 0 (after_both c.args.shifts (count_at c.args.table.now c.args.r.0) t)))
    (c.requires.masks ∙ ap sets_of c.in-AvoidUnavailableTimes.is)
    ∙ zero-add (busy_times (λ t. nat_lt 0 (after_both c.args.shifts (count_at c.args.table.now c.args.r.0) t))
    c.in-AvoidUnavailableTimes.times)
    ∙ sym (ap (λ rule. measured c.args.inst.now rule (after_both c.args.shifts (count_at c.args.table.now c.args.r.0)) 0)
    c.in-AvoidUnavailableTimes.is)

pub returns-in-LimitIdleTimes : goal.returns-in-LimitIdleTimes
returns-in-LimitIdleTimes c = c.idle_outside_of.ensures
    ∙ ap (λ (b : ℕ → Bool). (λ (xs : List (List Bool)). count_outside (sum_by (idle_times b) xs) c.in-LimitIdleTimes.min c.in-LimitIdleTimes.max) c.args.masks.now)
    (λ i t. row_bits c.word_after-word.result (after_both c.args.shifts (count_at c.args.table.now c.args.r.0))
    c.word_after-word.ensures (beyond_row c.args.inst.now c.args.table.now c.args.r.0 c.args.shifts c.requires.rows
    c.requires.resource c.requires.few c.requires.can) t i)
    ∙ ap (λ (xs : List (List Bool)). (λ (b : ℕ → Bool). count_outside (sum_by (idle_times b) xs) c.in-LimitIdleTimes.min c.in-LimitIdleTimes.max)
    (λ t. nat_lt 0 (after_both c.args.shifts (count_at c.args.table.now c.args.r.0) t)))
    (c.requires.masks ∙ ap sets_of c.in-LimitIdleTimes.is)
    ∙ sym (ap (λ rule. measured c.args.inst.now rule (after_both c.args.shifts (count_at c.args.table.now c.args.r.0)) 0)
    c.in-LimitIdleTimes.is)

pub returns-in-ClusterBusyTimes : goal.returns-in-ClusterBusyTimes
returns-in-ClusterBusyTimes c = c.busy_sets_outside_of.ensures
    ∙ ap (λ (b : ℕ → Bool). (λ (xs : List (List Bool)). count_outside (count_by (λ m. nat_lt 0 (busy_times b m)) xs) c.in-ClusterBusyTimes.min c.in-ClusterBusyTimes.max) c.args.masks.now)
    (λ i t. row_bits c.word_after-word.result (after_both c.args.shifts (count_at c.args.table.now c.args.r.0))
    c.word_after-word.ensures (beyond_row c.args.inst.now c.args.table.now c.args.r.0 c.args.shifts c.requires.rows
    c.requires.resource c.requires.few c.requires.can) t i)
    ∙ ap (λ (xs : List (List Bool)). (λ (b : ℕ → Bool). count_outside (count_by (λ m. nat_lt 0 (busy_times b m)) xs) c.in-ClusterBusyTimes.min c.in-ClusterBusyTimes.max)
    (λ t. nat_lt 0 (after_both c.args.shifts (count_at c.args.table.now c.args.r.0) t)))
    (c.requires.masks ∙ ap sets_of c.in-ClusterBusyTimes.is)
    ∙ sym (ap (λ rule. measured c.args.inst.now rule (after_both c.args.shifts (count_at c.args.table.now c.args.r.0)) 0)
    c.in-ClusterBusyTimes.is)

pub returns-in-LimitBusyTimes : goal.returns-in-LimitBusyTimes
returns-in-LimitBusyTimes c = c.busy_outside_of.ensures
    ∙ ap (λ (b : ℕ → Bool). (λ (xs : List (List Bool)). sum_by (λ m. used_outside (busy_times b m) c.in-LimitBusyTimes.min c.in-LimitBusyTimes.max) xs) c.args.masks.now)
    (λ i t. row_bits c.word_after-word.result (after_both c.args.shifts (count_at c.args.table.now c.args.r.0))
    c.word_after-word.ensures (beyond_row c.args.inst.now c.args.table.now c.args.r.0 c.args.shifts c.requires.rows
    c.requires.resource c.requires.few c.requires.can) t i)
    ∙ ap (λ (xs : List (List Bool)). (λ (b : ℕ → Bool). sum_by (λ m. used_outside (busy_times b m) c.in-LimitBusyTimes.min c.in-LimitBusyTimes.max) xs)
    (λ t. nat_lt 0 (after_both c.args.shifts (count_at c.args.table.now c.args.r.0) t)))
    (c.requires.masks ∙ ap sets_of c.in-LimitBusyTimes.is)
    ∙ sym (ap (λ rule. measured c.args.inst.now rule (after_both c.args.shifts (count_at c.args.table.now c.args.r.0)) 0)
    c.in-LimitBusyTimes.is)
