-- What is measured turns on the counts at the listed times alone, and mostly on which are busy.
use Rattle.std.proofs.Common.{ℕ, ◌≡◌, ◌<◌, ◌+◌, ◌-◌, ◌∙◌, ◌&&◌, not, nat_lt, Bool, true, false, cond, Some, List, []}
use Rattle.std.proofs.Common.{◌∷◌, length, slice_get, slice_index, refl, sym, ap, arith, count_by, sum_by, lt-ltb}
use Rattle.std.proofs.Common.{zero-add}
use Rattle.std.specs.List.{range_with_len}
use Rattle.std.specs.Option.{option_map_or}
use Rattle.std.proofs.lemmas.Bool.{false≢true}
use Rattle.std.proofs.lemmas.List.Sums.{sum_by-cons}
use Rattle.khe_base.specs.Bounds.{count_outside}
use Rattle.khe_base.specs.Busy.{count_below, any_between, busy_times, idle_times}
use Rattle.khe_base.specs.IdSet.{has_member}
use Rattle.khe_base.specs.declared.numbers.ResourceId.{ResourceId}
use Rattle.khe_instance.specs.Deviation.{measured, deviation_at}
use Rattle.khe_instance.specs.Kinds.{kind_of}
use Rattle.khe_instance.specs.ResourceDeviation.{busy_by, used_outside}
use Rattle.khe_instance.specs.Running.{running_tasks}
use Rattle.khe_instance.specs.Watching.{lists_time}
use Rattle.khe_instance.specs.WellMade.{IsMonitor, IsPointOf, IsResourcePoint}
use Rattle.khe_instance.specs.declared.parts.Parts.{Parts}
use Rattle.khe_instance.specs.declared.points.Monitor.{Monitor}
use Rattle.khe_instance.specs.declared.points.Point.{Point}
use Rattle.khe_instance.specs.declared.points.Point.TheVariants.{Resource}
use Rattle.khe_instance.specs.declared.rules.Constraint.{Constraint}
use Rattle.khe_instance.specs.declared.rules.Rule.{Rule}
use Rattle.khe_instance.specs.declared.rules.Rule.TheVariants.{AvoidClashes, AvoidUnavailableTimes, LimitIdleTimes}
use Rattle.khe_instance.specs.declared.rules.Rule.TheVariants.{ClusterBusyTimes, LimitBusyTimes}
use Rattle.khe_told.specs.Agreement.{deviation_in}
use Rattle.khe_told.specs.Lists.{meets_in, duties_in}
use Rattle.khe_told.specs.declared.slots.Slot.{Slot}
use Rattle.timetables.specs.Counts.{row_of, count_at}
use Rattle.resource_monitors.specs.Cells.{is_at_cells, is_by_busy, value_at, value_in, lists}

module _ (c d : ℕ → ℕ) where
  abbrev AreSame : List Bool → Type 0
  AreSame g = (t : ℕ) → has_member g t ≡ true → busy_by c t ≡ busy_by d t

  both_same : (g : List Bool) → AreSame g → (t : ℕ) → (has_member g t && busy_by c t) ≡ (has_member g t && busy_by d t)
  both_same g h t = by (has_member g t) refl
    where
      by : (b : Bool) → has_member g t ≡ b → (b && busy_by c t) ≡ (b && busy_by d t)
      by true e = h t e
      by false e = refl

  free_same : (g : List Bool) → AreSame g → (t : ℕ)
      → (has_member g t && not (busy_by c t)) ≡ (has_member g t && not (busy_by d t))
  free_same g h t = by (has_member g t) refl
    where
      by : (b : Bool) → has_member g t ≡ b → (b && not (busy_by c t)) ≡ (b && not (busy_by d t))
      by true e = ap not (h t e)
      by false e = refl

  busy_same : (g : List Bool) → AreSame g → busy_times (busy_by c) g ≡ busy_times (busy_by d) g
  busy_same g h = λ i. count_below (λ t. both_same g h t i) (length g)

  idle_same : (g : List Bool) → AreSame g → idle_times (busy_by c) g ≡ idle_times (busy_by d) g
  idle_same g h = λ i. count_below (λ t. free_same g h t
      i && (any_between (λ s. both_same g h s i) 0 t && any_between (λ s. both_same g h s i) (t + 1) (length g)))
      (length g)

  abbrev AreListedSame : List (List Bool) → Type 0
  AreListedSame groups = (t : ℕ) → nat_lt 0 (count_by (λ g. has_member g t) groups) ≡ true → busy_by c t ≡ busy_by d t

  groups_same : (f e : List Bool → ℕ) → ((g : List Bool) → AreSame g → f g ≡ e g) → (groups : List (List Bool))
      → AreListedSame groups → sum_by f groups ≡ sum_by e groups
  groups_same f e each [] h = refl
  groups_same f e each (g ∷ gs) h =
      sum_by-cons f g gs
      ∙ ap (λ n. n + sum_by f gs) (each g (λ t m. h t (first t m)))
      ∙ ap (λ n. e g + n) (groups_same f e each gs (λ t m. h t (later t m)))
      ∙ sym (sum_by-cons e g gs)
    where
      more : (t : ℕ) → count_by (λ x. has_member x t) (g ∷ gs)
          ≡ cond (has_member g t) 1 0 + count_by (λ x. has_member x t) gs
      more t = sum_by-cons (λ (x : List Bool). cond (has_member x t) 1 0) g gs

      first : (t : ℕ) → has_member g t ≡ true → nat_lt 0 (count_by (λ x. has_member x t) (g ∷ gs)) ≡ true
      first t m = ap (nat_lt 0) (more t ∙ ap (λ b. cond b 1 0 + count_by (λ x. has_member x t) gs) m)
          ∙ lt-ltb 0 (1 + count_by (λ x. has_member x t) gs) (omega arith)

      later : (t : ℕ) → nat_lt 0 (count_by (λ x. has_member x t) gs) ≡ true
          → nat_lt 0 (count_by (λ x. has_member x t) (g ∷ gs)) ≡ true
      later t m = ap (nat_lt 0) (more t) ∙ by (has_member g t) (count_by (λ x. has_member x t) gs) m
        where
          by : (b : Bool) (n : ℕ) → nat_lt 0 n ≡ true → nat_lt 0 (cond b 1 0 + n) ≡ true
          by true n e = lt-ltb 0 (1 + n) (omega arith)
          by false n e = ap (nat_lt 0) (zero-add n) ∙ e

  single : (g : List Bool) → ((t : ℕ) → nat_lt 0 (cond (has_member g t) 1 0) ≡ true → busy_by c t ≡ busy_by d t)
      → AreSame g
  single g h t e = h t (ap (λ b. nat_lt 0 (cond b 1 0)) e)

  -- where only busy times are measured
  pub measured_busy : (p : Parts) (v w : ℕ) (rule : Rule) → is_by_busy (kind_of rule) ≡ true
      → ((t : ℕ) → lists_time rule t ≡ true → busy_by c t ≡ busy_by d t) → measured p rule c v ≡ measured p rule d w
  measured_busy p v w (AvoidUnavailableTimes times) k h = busy_same times (single times h)
  measured_busy p v w (LimitIdleTimes groups a b) k h =
      ap (λ n. count_outside n a b) (groups_same (idle_times (busy_by c)) (idle_times (busy_by d)) idle_same groups h)
  measured_busy p v w (ClusterBusyTimes groups a b) k h =
      ap (λ n. count_outside n a b) (groups_same (λ g. cond (nat_lt 0 (busy_times (busy_by c) g)) 1 0)
      (λ g. cond (nat_lt 0 (busy_times (busy_by d) g)) 1 0) (λ g e. ap (λ n. cond (nat_lt 0 n) 1 0) (busy_same g e))
      groups h)
  measured_busy p v w (LimitBusyTimes groups a b) k h =
      groups_same (λ g. used_outside (busy_times (busy_by c) g) a b) (λ g. used_outside (busy_times (busy_by d) g) a b)
      (λ g e. ap (λ n. used_outside n a b) (busy_same g e)) groups h
  measured_busy p v w _ k h = absurd (false≢true k)

  pub measured_same : (p : Parts) (v w : ℕ) (rule : Rule) → is_at_cells (kind_of rule) ≡ true
      → ((t : ℕ) → lists_time rule t ≡ true → c t ≡ d t) → measured p rule c v ≡ measured p rule d w
  measured_same p v w AvoidClashes k h = λ i. sum_by (λ t. h t refl i - 1) (range_with_len 0 (length p.times))
  measured_same p v w (AvoidUnavailableTimes times) k h =
      measured_busy p v w (AvoidUnavailableTimes times) refl (λ t e. ap (nat_lt 0) (h t e))
  measured_same p v w (LimitIdleTimes groups a b) k h =
      measured_busy p v w (LimitIdleTimes groups a b) refl (λ t e. ap (nat_lt 0) (h t e))
  measured_same p v w (ClusterBusyTimes groups a b) k h =
      measured_busy p v w (ClusterBusyTimes groups a b) refl (λ t e. ap (nat_lt 0) (h t e))
  measured_same p v w (LimitBusyTimes groups a b) k h =
      measured_busy p v w (LimitBusyTimes groups a b) refl (λ t e. ap (nat_lt 0) (h t e))
  measured_same p v w _ k h = absurd (false≢true k)

-- a monitor of such a kind is at a resource
abbrev pub IsAtResource : Parts → Point → Type 0
IsAtResource p point = (r : ResourceId) × (point ≡ Resource r) × (r.0 < length p.resources)

pub of_point : (p : Parts) (point : Point) → IsResourcePoint p point → IsAtResource p point
of_point p (Resource r) h = (r, refl, h)
of_point p _ h = absurd h

of_rule : (p : Parts) (rule : Rule) (point : Point) → is_at_cells (kind_of rule) ≡ true → IsPointOf p rule point
    → IsAtResource p point
of_rule p AvoidClashes point k h = of_point p point h
of_rule p (AvoidUnavailableTimes times) point k h = of_point p point h
of_rule p (LimitIdleTimes groups a b) point k h = of_point p point h
of_rule p (ClusterBusyTimes groups a b) point k h = of_point p point h
of_rule p (LimitBusyTimes groups a b) point k h = of_point p point h
of_rule p _ point k h = absurd (false≢true k)

pub at_resource : (p : Parts) (m : Monitor) → IsMonitor p m → is_at_cells m.kind ≡ true → IsAtResource p m.point
at_resource p m (c, there, kind, point) k = of_rule p c.rule m.point (ap is_at_cells (sym kind) ∙ k) point

-- the deviation is what is measured of the counts of the tasks
pub value_is : (p : Parts) (s : List Slot) (rows : List (List ℕ)) (m : Monitor) → IsMonitor p m
    → is_at_cells m.kind ≡ true
    → ((r t : ℕ) → count_at rows r t ≡ running_tasks (duties_in s) r t) → deviation_in p s m ≡ value_in p rows m
value_is p s rows m (c, there, kind, point) k h =
    let at = of_rule p c.rule m.point (ap is_at_cells (sym kind) ∙ k) point in
    ap (λ o. option_map_or (λ (x : Constraint). deviation_at p (meets_in s) (duties_in s) x.rule m.point) o 0) there
    ∙ ap (deviation_at p (meets_in s) (duties_in s) c.rule) at.1
    ∙ measured_same (running_tasks (duties_in s) at.0.0) (slice_index (row_of rows at.0.0)) p _ 0 c.rule
    (ap is_at_cells (sym kind) ∙ k) (λ t _. sym (h at.0.0 t))
    ∙ sym (ap (value_at p rows c.rule) at.1)
    ∙ sym (ap (λ o. option_map_or (λ (x : Constraint). value_at p rows x.rule m.point) o 0) there)

-- what the rule measures at two counts, the monitor does
value_by : (p : Parts) (old new : List (List ℕ)) (m : Monitor) (r : ResourceId) (c : Constraint)
    → slice_get p.constraints m.constraint ≡ Some c → m.point ≡ Resource r
    → measured p c.rule (slice_index (row_of new r.0)) 0 ≡ measured p c.rule (slice_index (row_of old r.0)) 0
    → value_in p new m ≡ value_in p old m
value_by p old new m r c there at same =
    ap (λ o. option_map_or (λ (x : Constraint). value_at p new x.rule m.point) o 0) there
    ∙ ap (value_at p new c.rule) at
    ∙ same
    ∙ sym (ap (value_at p old c.rule) at)
    ∙ sym (ap (λ o. option_map_or (λ (x : Constraint). value_at p old x.rule m.point) o 0) there)

-- and it turns on the counts at the listed times of its resource
pub value_same : (p : Parts) (old new : List (List ℕ)) (m : Monitor) (r : ResourceId) → IsMonitor p m
    → is_at_cells m.kind ≡ true → m.point ≡ Resource r
    → ((t : ℕ) → lists p m t ≡ true → count_at new r.0 t ≡ count_at old r.0 t) → value_in p new m ≡ value_in p old m
value_same p old new m r (c, there, kind, point) k at h =
    value_by p old new m r c there at
    (measured_same (slice_index (row_of new r.0)) (slice_index (row_of old r.0)) p 0 0 c.rule
    (ap is_at_cells (sym kind) ∙ k)
    (λ t e. h t (ap (λ o. option_map_or (λ (x : Constraint). lists_time x.rule t) o false) there ∙ e)))

-- or on which of them are busy
pub value_busy : (p : Parts) (old new : List (List ℕ)) (m : Monitor) (r : ResourceId) → IsMonitor p m
    → is_by_busy m.kind ≡ true → m.point ≡ Resource r
    → ((t : ℕ) → nat_lt 0 (count_at new r.0 t) ≡ nat_lt 0 (count_at old r.0 t)) → value_in p new m ≡ value_in p old m
value_busy p old new m r (c, there, kind, point) k at h =
    value_by p old new m r c there at
    (measured_busy (slice_index (row_of new r.0)) (slice_index (row_of old r.0)) p 0 0 c.rule
    (ap is_by_busy (sym kind) ∙ k) (λ t _. h t))
