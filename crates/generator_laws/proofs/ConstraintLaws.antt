-- The constraints of the instance that is made name parts of it.
use Rattle.std.proofs.Common.{ℕ, ◌≡◌, ◌+◌, ◌*◌, ◌<◌, List, [], ◌∷◌, ◌++◌, map, All, flat_map}
use Rattle.std.proofs.Common.{refl, sym, subst, arith}
use Rattle.std.specs.Prelude.{codes}
use Rattle.std.proofs.lemmas.List.Elements.{All-append}
use Rattle.xhstt_shape.specs.declared.constraints.RawConstraint.{RawConstraint}
use Rattle.xhstt_shape.specs.declared.constraints.RawPair.{RawPair}
use Rattle.xhstt_shape.specs.declared.constraints.RawSpread.{RawSpread}
use Rattle.xhstt_references.specs.References as references
use Rattle.archive_generator.specs.declared.drawing.DrawnEvent.{DrawnEvent}
use Rattle.archive_generator.specs.declared.resources.Sort.TheVariants as sort
use Rattle.archive_generator.specs.Constraints as constraints
use Rattle.archive_generator.specs.Events as events
use Rattle.archive_generator.specs.Made as made
use Rattle.archive_generator.specs.Names.{to, numbered, below, to_each}
use Rattle.archive_generator.specs.Times as times
use Rattle.archive_generator.proofs.Spellable.{three, four}
use Rattle.generator_laws.proofs.DrawLaws.{AreDrawn, some_rooms}
use Rattle.generator_laws.proofs.IdLaws.{IsSize, both_none}
use Rattle.generator_laws.proofs.NumberLaws.{all_below}
use Rattle.generator_laws.proofs.ReferenceLaws.{directory, Names, IsAmong, none_unknown, one_known, none_given}
use Rattle.generator_laws.proofs.ReferenceLaws as known

-- what is true of each constraint of a job is true of all of them
pub record Each (P : RawConstraint → Type 0) (size : ℕ) : Type 0 where
  pub assign_time : P constraints.assign_time
  pub assign_resource : P constraints.assign_resource
  pub split_events : P constraints.split_events
  pub distribute : P constraints.distribute
  pub prefer_times : P constraints.prefer_times
  pub prefer_resources : P constraints.prefer_resources
  pub avoid_split : P (constraints.avoid_split size)
  pub spread_events : P (constraints.spread_events size)
  pub link_events : P constraints.link_events
  pub order_events : P (constraints.order_events size)
  pub avoid_clashes : P constraints.avoid_clashes
  pub avoid_unavailable : P constraints.avoid_unavailable
  pub limit_idle : P constraints.limit_idle
  pub cluster_busy : P constraints.cluster_busy
  pub limit_busy : P constraints.limit_busy
  pub limit_workload : P constraints.limit_workload

-- so it is of the list of them
pub all_constraints : (P : RawConstraint → Type 0) (size : ℕ) (es : List DrawnEvent) → Each P size
    → All P (made.instance size es).constraints
unfolding made.instance constraints.constraints constraints.event_constraints constraints.part_constraints
    constraints.group_constraints constraints.resource_constraints constraints.load_constraints
all_constraints P size es h =
    let events = constraints.event_constraints in
    let parts = constraints.part_constraints in
    let groups = constraints.group_constraints size in
    let resources = constraints.resource_constraints in
    let on_events = three P constraints.assign_time constraints.assign_resource constraints.split_events h.assign_time
    h.assign_resource h.split_events in
    let on_parts = three P constraints.distribute constraints.prefer_times constraints.prefer_resources h.distribute
    h.prefer_times h.prefer_resources in
    let on_groups = four P (constraints.avoid_split size) (constraints.spread_events size) constraints.link_events
    (constraints.order_events size) h.avoid_split h.spread_events h.link_events h.order_events in
    let on_resources = three P constraints.avoid_clashes constraints.avoid_unavailable constraints.limit_idle
    h.avoid_clashes h.avoid_unavailable h.limit_idle in
    let on_loads = three P constraints.cluster_busy constraints.limit_busy constraints.limit_workload h.cluster_busy
    h.limit_busy h.limit_workload in
    All-append P (((events ++ parts) ++ groups) ++ resources) constraints.load_constraints
    (All-append P ((events ++ parts) ++ groups) resources
    (All-append P (events ++ parts) groups (All-append P events parts on_events on_parts) on_groups) on_resources)
    on_loads

module _ (size : ℕ) (es : List DrawnEvent) (s : IsSize size) (drawn : AreDrawn size es) where
  all_known : references.unknown (directory size es).event_groups (to (codes "all") ∷ []) ≡ []
  all_known = one_known (directory size es).event_groups (to (codes "all")) (known.all_among size es s drawn)

  halves_known : references.unknown_in_applies (directory size es) (constraints.all_halves size) ≡ []
  unfolding constraints.all_halves
  halves_known =
      let ids = (directory size es).event_groups in
      none_unknown ids (to_each (codes "h") (events.halves size))
      (all_below (Names ids) (λ n. to (numbered (codes "h") n)) (events.halves size) (known.half_among size es s drawn))

  first_half_known : references.unknown (directory size es).event_groups (to (codes "h0") ∷ []) ≡ []
  first_half_known =
      let ids = (directory size es).event_groups in
      let some : 0 < events.halves size = omega arith in
      one_known ids (to (codes "h0"))
      (subst (IsAmong ids) (sym known.first_half_id) (known.half_among size es s drawn 0 some))

  pair_known : (k : ℕ) → k < constraints.pair_count size
      → references.unknown_in_pair (directory size es) (constraints.pair k) ≡ []
  pair_known k l =
      let ids = (directory size es).events in
      let first : 20 * k < size = omega arith in
      let second : 20 * k + 1 < size = omega arith in
      both_none _ _
      (one_known ids (to (numbered (codes "e") (20 * k))) (known.event_among size es s drawn (20 * k) first))
      (one_known ids (to (numbered (codes "e") (20 * k + 1))) (known.event_among size es s drawn (20 * k + 1) second))

  pairs_known : references.unknown_in_applies (directory size es) (constraints.pairs size) ≡ []
  unfolding constraints.pairs
  pairs_known =
      let d = directory size es in
      none_given (references.unknown_in_pair d) (map constraints.pair (below (constraints.pair_count size)))
      (all_below (λ (p : RawPair). references.unknown_in_pair d p ≡ []) constraints.pair (constraints.pair_count size)
      pair_known)

  spreads_known : flat_map (references.unknown_in_spread (directory size es)) constraints.spreads ≡ []
  unfolding constraints.spreads
  spreads_known =
      let d = directory size es in
      none_given (references.unknown_in_spread d) (map constraints.spread (below 5))
      (all_below (λ (p : RawSpread). references.unknown_in_spread d p ≡ []) constraints.spread 5
      (λ n l. one_known d.time_groups (to (numbered (codes "d") n)) (known.day_group_among size es s drawn n l)))

  days_known : references.unknown (directory size es).time_groups times.days ≡ []
  unfolding times.days
  days_known =
      let ids = (directory size es).time_groups in
      none_unknown ids (to_each (codes "d") 5)
      (all_below (Names ids) (λ n. to (numbered (codes "d") n)) 5 (known.day_group_among size es s drawn))

  early_known : references.unknown (directory size es).time_groups (to (codes "early") ∷ []) ≡ []
  early_known = one_known (directory size es).time_groups (to (codes "early")) (known.early_among size es s drawn)

  first_room_known : references.unknown (directory size es).resources (to (codes "q0") ∷ []) ≡ []
  first_room_known =
      let ids = (directory size es).resources in
      one_known ids (to (codes "q0"))
      (subst (IsAmong ids) (sym known.first_room_id) (known.room_among size es s drawn 0 (some_rooms size)))

  last_time_known : references.unknown (directory size es).times (to (codes "t39") ∷ []) ≡ []
  last_time_known =
      let ids = (directory size es).times in
      one_known ids (to (codes "t39"))
      (subst (IsAmong ids) (sym known.last_time_id) (known.time_among size es s drawn 39 (omega arith)))

  teachers_known : references.unknown (directory size es).resource_groups (to (codes "gp") ∷ []) ≡ []
  teachers_known = one_known (directory size es).resource_groups (to (codes "gp"))
      (known.group_among size es s drawn sort.Teacher)

  classes_known : references.unknown (directory size es).resource_groups (to (codes "gc") ∷ []) ≡ []
  classes_known = one_known (directory size es).resource_groups (to (codes "gc"))
      (known.group_among size es s drawn sort.Class)

  all_groups_known : references.unknown (directory size es).resource_groups constraints.all_groups ≡ []
  all_groups_known =
      let ids = (directory size es).resource_groups in
      none_unknown ids constraints.all_groups
      (three (Names ids) (to (codes "gp")) (to (codes "gc")) (to (codes "gq"))
      (known.group_among size es s drawn sort.Teacher) (known.group_among size es s drawn sort.Class)
      (known.group_among size es s drawn sort.Room))

  each_known : Each (λ c. references.unknown_in_constraint (directory size es) c ≡ []) size
  unfolding constraints.assign_time constraints.assign_resource constraints.split_events constraints.distribute
      constraints.prefer_times constraints.prefer_resources constraints.avoid_split constraints.spread_events
      constraints.link_events constraints.order_events constraints.avoid_clashes constraints.avoid_unavailable
      constraints.limit_idle constraints.cluster_busy constraints.limit_busy constraints.limit_workload
  each_known =
      let all = both_none _ _ (both_none _ _ all_known refl) refl in
      let teachers = both_none _ _ teachers_known refl in
      record {
        assign_time = all;
        assign_resource = all;
        split_events = all;
        distribute = all;
        prefer_times = both_none _ _ (both_none _ _ all_known refl) (both_none _ _ early_known refl);
        prefer_resources = both_none _ _ (both_none _ _ all_known refl) first_room_known;
        avoid_split = both_none _ _ halves_known refl;
        spread_events = both_none _ _ halves_known spreads_known;
        link_events = both_none _ _ first_half_known refl;
        order_events = both_none _ _ pairs_known refl;
        avoid_clashes = both_none _ _ (both_none _ _ all_groups_known refl) refl;
        avoid_unavailable = both_none _ _ teachers last_time_known;
        limit_idle = both_none _ _ teachers days_known;
        cluster_busy = both_none _ _ teachers days_known;
        limit_busy = both_none _ _ (both_none _ _ classes_known refl) days_known;
        limit_workload = both_none _ _ teachers refl;
      }

  -- no reference of a constraint is unknown
  pub constraints_known : flat_map (references.unknown_in_constraint (directory size es))
      (made.instance size es).constraints ≡ []
  constraints_known =
      let d = directory size es in
      none_given (references.unknown_in_constraint d) (made.instance size es).constraints
      (all_constraints (λ (c : RawConstraint). references.unknown_in_constraint d c ≡ []) size es each_known)
