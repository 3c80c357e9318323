-- What a monitor on a workload measures.
use Rattle.std.proofs.Common.{ℕ, ◌≡◌, ◌≤◌, ◌<◌, ◌*◌, ◌∙◌, true, Some, List, length, slice_get, slice_index, sym, ap}
use Rattle.std.proofs.Common.{subst, arith}
use Rattle.std.specs.Option.{option_map_or}
use Rattle.khe_base.specs.declared.limits.TheConstants.{GREATEST_DEVIATION}
use Rattle.khe_base.specs.declared.numbers.ResourceId.{ResourceId}
use Rattle.khe_instance.specs.Deviation.{deviation_at}
use Rattle.khe_instance.specs.KindLaws.{IsOfKind, of_kind, same_kind}
use Rattle.khe_instance.specs.ResourceDeviation.{limit_workload}
use Rattle.khe_instance.specs.WellMade.{AreWellMade, IsMonitor, IsPointOf, IsRule}
use Rattle.khe_instance.specs.declared.parts.Parts.{Parts}
use Rattle.khe_instance.specs.declared.points.Monitor.{Monitor}
use Rattle.khe_instance.specs.declared.points.Point.{Point}
use Rattle.khe_instance.specs.declared.points.Point.TheVariants.{Resource}
use Rattle.khe_instance.specs.declared.rules.Constraint.{Constraint}
use Rattle.khe_instance.specs.declared.rules.Kind.TheVariants as kind
use Rattle.khe_instance.specs.declared.rules.Rule.{Rule}
use Rattle.khe_instance.specs.declared.rules.Rule.TheVariants.{LimitWorkload}
use Rattle.khe_instance.proofs.MadeLemmas.{constraint_made}
use Rattle.khe_instance.proofs.ResourceBounds.{measured-small}
use Rattle.khe_told.specs.Agreement.{deviation_in}
use Rattle.khe_told.specs.Lists.{duties_in, meets_in}
use Rattle.khe_told.specs.declared.slots.Slot.{Slot}
use Rattle.resource_monitors.specs.Loads.{HasLoads, is_on_workload, outside, value_at, value_in}
use Rattle.resource_monitors.proofs.MeasureLaws.{of_point}

-- a monitor on a workload has such a rule, and a resource
pub record IsOnWorkload (p : Parts) (m : Monitor) : Type 0 where
  pub constraint : Constraint
  pub there : slice_get p.constraints m.constraint ≡ Some constraint
  pub least : ℕ
  pub greatest : ℕ
  pub rule : constraint.rule ≡ LimitWorkload least greatest
  pub resource : ResourceId
  pub point : m.point ≡ Resource resource
  pub known : resource.0 < length p.resources

pub on_workload : (p : Parts) (m : Monitor) → IsMonitor p m → is_on_workload m.kind ≡ true → IsOnWorkload p m
on_workload p m (c, there, of_rule, point) served =
    let of : IsOfKind kind.LimitWorkload c.rule =
    subst (λ k. IsOfKind k c.rule) (sym of_rule ∙ same_kind m.kind kind.LimitWorkload served) (of_kind c.rule) in
    let at = of_point p m.point (subst (λ (x : Rule). IsPointOf p x m.point) of.2 point) in
    record {
      constraint = c;
      there = there;
      least = of.0;
      greatest = of.1;
      rule = of.2;
      resource = at.0;
      point = at.1;
      known = at.2;
    }

-- its deviation is what is measured of the workload
pub value_is : (p : Parts) (s : List Slot) (loads : List ℕ) (m : Monitor) → IsMonitor p m → is_on_workload m.kind ≡ true
    → HasLoads p s loads → deviation_in p s m ≡ value_in p loads m
value_is p s loads m is served h =
    let on = on_workload p m is served in
    ap (λ o. option_map_or (λ (x : Constraint). deviation_at p (meets_in s) (duties_in s) x.rule m.point) o 0) on.there
    ∙ (λ i. deviation_at p (meets_in s) (duties_in s) (on.rule i) (on.point i))
    ∙ ap (λ n. limit_workload p.unit n on.least on.greatest) (sym (h.each on.resource.0))
    ∙ sym (λ i. value_at p loads (on.rule i) (on.point i))
    ∙ sym (ap (λ o. option_map_or (λ (x : Constraint). value_at p loads x.rule m.point) o 0) on.there)

-- it turns on the workload of its resource alone
pub value_same : (p : Parts) (old new : List ℕ) (m : Monitor) (r : ResourceId) → IsMonitor p m → m.point ≡ Resource r
    → slice_index new r.0 ≡ slice_index old r.0 → value_in p new m ≡ value_in p old m
value_same p old new m r (c, there, kind, point) at h =
    ap (λ o. option_map_or (λ (x : Constraint). value_at p new x.rule m.point) o 0) there
    ∙ ap (value_at p new c.rule) at
    ∙ ap (outside p c.rule) h
    ∙ sym (ap (value_at p old c.rule) at)
    ∙ sym (ap (λ o. option_map_or (λ (x : Constraint). value_at p old x.rule m.point) o 0) there)

-- and is no greater than any deviation
module _ (p : Parts) (made : AreWellMade p) where
  pub outside_small : (load : ℕ) → load ≤ GREATEST_DEVIATION * p.unit → (rule : Rule) → IsRule p rule
      → outside p rule load ≤ GREATEST_DEVIATION
  outside_small load small (LimitWorkload least greatest) h =
      measured-small p (λ t. 0) load made.limits made.unit.positive (λ t. omega arith) small
      (LimitWorkload least greatest) h
  outside_small load small _ h = omega arith

  pub value_small : (loads : List ℕ) → ((r : ℕ) → slice_index loads r ≤ GREATEST_DEVIATION * p.unit) → (m : Monitor)
      → IsMonitor p m → value_in p loads m ≤ GREATEST_DEVIATION
  value_small loads small m (c, there, kind, point) =
      let e = ap (λ o. option_map_or (λ (x : Constraint). value_at p loads x.rule m.point) o 0) there in
      let l = by m.point in
      omega (arith, e, l)
    where
      by : (point : Point) → value_at p loads c.rule point ≤ GREATEST_DEVIATION
      by (Resource r) = outside_small (slice_index loads r.0) (small r.0) c.rule
          (constraint_made p made m.constraint c there).rule
      by _ = omega arith
