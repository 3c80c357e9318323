-- Each of the five kinds at cells is measured by a resource's counts.
use Rattle.std.proofs.Common.{◌≡◌, ◌∙◌, true, refl, ap}
use Rattle.khe_instance.specs.KindLaws.{is_kind, same_kind}
use Rattle.khe_instance.specs.declared.rules.Kind.{Kind}
use Rattle.khe_instance.specs.declared.rules.Kind.TheVariants as kind
use Rattle.resource_monitors.specs.Cells.{is_at_cells}

one_of : (a : Kind) → is_at_cells a ≡ true → (k : Kind) → is_kind k a ≡ true → is_at_cells k ≡ true
one_of a h k e = ap is_at_cells (same_kind k a e) ∙ h

pub avoid_clashes_at_cells : (k : Kind) → is_kind k kind.AvoidClashes ≡ true → is_at_cells k ≡ true
avoid_clashes_at_cells = one_of kind.AvoidClashes refl

pub avoid_unavailable_times_at_cells : (k : Kind) → is_kind k kind.AvoidUnavailableTimes ≡ true → is_at_cells k ≡ true
avoid_unavailable_times_at_cells = one_of kind.AvoidUnavailableTimes refl

pub limit_idle_times_at_cells : (k : Kind) → is_kind k kind.LimitIdleTimes ≡ true → is_at_cells k ≡ true
limit_idle_times_at_cells = one_of kind.LimitIdleTimes refl

pub cluster_busy_times_at_cells : (k : Kind) → is_kind k kind.ClusterBusyTimes ≡ true → is_at_cells k ≡ true
cluster_busy_times_at_cells = one_of kind.ClusterBusyTimes refl

pub limit_busy_times_at_cells : (k : Kind) → is_kind k kind.LimitBusyTimes ≡ true → is_at_cells k ≡ true
limit_busy_times_at_cells = one_of kind.LimitBusyTimes refl
