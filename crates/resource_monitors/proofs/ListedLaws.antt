-- A monitor on clashes lists all times, and any other those of its sets.
use Rattle.std.proofs.Common.{ℕ, ◌≡◌, ◌∙◌, ◌||◌, Bool, true, false, cond, List, [], ◌∷◌, nat_lt, refl, sym, ap, arith}
use Rattle.std.specs.Prelude.{slice_index_or}
use Rattle.std.specs.Option.{option_map_or}
use Rattle.std.proofs.lemmas.List.Sums.{sum_by-cons}
use Rattle.khe_base.specs.IdSet.{has_member}
use Rattle.khe_base.proofs.ListLemmas.{mapped-there}
use Rattle.khe_instance.specs.Kinds.{kind_of}
use Rattle.khe_instance.specs.Watching.{lists_time}
use Rattle.khe_instance.specs.WellMade.{IsMonitor}
use Rattle.khe_instance.specs.declared.parts.Parts.{Parts}
use Rattle.khe_instance.specs.declared.points.Monitor.{Monitor}
use Rattle.khe_instance.specs.declared.rules.Constraint.{Constraint}
use Rattle.khe_instance.specs.declared.rules.Rule.{Rule}
use Rattle.khe_instance.specs.declared.rules.Rule.TheVariants as rule
use Rattle.resource_monitors.specs.Cells.{lists, lists_all}
use Rattle.resource_monitors.specs.Sets.{has_time, room_for, sets_of}

single : (times : List Bool) (t : ℕ) → has_time (times ∷ []) t
    ≡ nat_lt 0 (cond {A = ℕ} (has_member times t) 1 0)
single times t = ap (nat_lt 0) (let e = sum_by-cons (λ (g : List Bool). cond {A = ℕ} (has_member g t) 1 0) times [] in
    omega (arith, e))

pub by_sets : (r : Rule) (t : ℕ) → lists_all (kind_of r) || has_time (sets_of r) t ≡ lists_time r t
by_sets rule.AssignTime t = refl
by_sets (rule.AssignResource role) t = refl
by_sets (rule.SplitEvents a b c d) t = refl
by_sets (rule.DistributeSplitEvents d least greatest) t = refl
by_sets (rule.PreferTimes times duration) t = refl
by_sets (rule.PreferResources resources role) t = refl
by_sets (rule.AvoidSplitAssignments role) t = refl
by_sets (rule.SpreadEvents spreads) t = refl
by_sets rule.LinkEvents t = refl
by_sets (rule.OrderEvents pairs) t = refl
by_sets rule.AvoidClashes t = refl
by_sets (rule.AvoidUnavailableTimes times) t = single times t
by_sets (rule.LimitIdleTimes groups least greatest) t = refl
by_sets (rule.ClusterBusyTimes groups least greatest) t = refl
by_sets (rule.LimitBusyTimes groups least greatest) t = refl
by_sets (rule.LimitWorkload least greatest) t = refl

listed : (p : Parts) (m : Monitor) (t : ℕ) → IsMonitor p m
    → lists_all m.kind || has_time (slice_index_or (room_for p) m.constraint []) t ≡ lists p m t
listed p m t is =
    let c : Constraint = is.0 in
    ap (λ k. lists_all k || has_time (slice_index_or (room_for p) m.constraint []) t) is.2
    ∙ ap (λ xs. lists_all (kind_of c.rule) || has_time xs t)
    (mapped-there (λ (x : Constraint). sets_of x.rule) p.constraints m.constraint c [] is.1)
    ∙ by_sets c.rule t
    ∙ sym (ap (λ o. option_map_or (λ (x : Constraint). lists_time x.rule t) o false) is.1)

pub listed_all : (p : Parts) (m : Monitor) (t : ℕ) → IsMonitor p m → lists_all m.kind ≡ true → true ≡ lists p m t
listed_all p m t is h =
    ap (λ b. b || has_time (slice_index_or (room_for p) m.constraint []) t) (sym h) ∙ listed p m t is

pub listed_in : (p : Parts) (m : Monitor) (t : ℕ) (sets : List (List (List Bool))) → sets ≡ room_for p
    → IsMonitor p m → lists_all m.kind ≡ false → has_time (slice_index_or sets m.constraint []) t ≡ lists p m t
listed_in p m t sets e is h =
    ap (λ xs. has_time (slice_index_or xs m.constraint []) t) e
    ∙ ap (λ b. b || has_time (slice_index_or (room_for p) m.constraint []) t) (sym h) ∙ listed p m t is
