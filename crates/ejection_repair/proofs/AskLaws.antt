-- The defects and the dearer monitors as lists.
use Rattle.std.proofs.Common.{ℕ, ◌≡◌, ◌+◌, ◌^◌, ◌<◌, ◌≤◌, inl, inr, Bool, true, false, cond, Option, Some, None, List}
use Rattle.std.proofs.Common.{[], ◌∷◌, length, not, refl, ap, ◌∙◌, sym, subst, arith}
use Rattle.std.specs.Prelude.{IfSome, nat_lt}
use Rattle.std.specs.List.{range_with_len}
use Rattle.std.specs.Option.{option_map}
use Rattle.std.proofs.lemmas.Bool.{both_ways, cases_lt}
use Rattle.std.proofs.lemmas.List.{get_or_past, length-map}
use Rattle.std.proofs.lemmas.List.FromFn.{length-range_with_len}
use Rattle.khe_base.specs.declared.limits.TheConstants.{MONITORS}
use Rattle.khe_base.specs.declared.numbers.MonitorId.{MonitorId}
use Rattle.khe_instance.specs.Costs.{cost_at, is_defect}
use Rattle.khe_instance.specs.declared.parts.Parts.{Parts}
use Rattle.khe_engine.specs.States.{State}
use Rattle.khe_engine.specs.Values.{costs, deviations_in, only_dearer}
use Rattle.monitor_graph.specs.Dearer.{dearer, dearer_from, only}
use Rattle.monitor_graph.specs.Edits.{is_attached}
use Rattle.monitor_graph.specs.Values.{IsNextDefect}
use Rattle.repair_moves.proofs.PickedLaws.{first_picked}
use Rattle.ejection_repair.specs.Rounds.{IsFirstDefect}
use Rattle.ejection_repair.specs.Settled.{Among}
use Rattle.ejection_repair.specs.Values.{costs_at, defects_from}

-- the costs as the engine tells them
pub costs_are : (p : Parts) (s : State) → costs p s ≡ costs_at p s
unfolding costs_at
costs_are p s = refl

-- there is a cost for each monitor
pub costs_long : (p : Parts) (s : State) → length (costs_at p s) ≡ length p.monitors
unfolding costs_at
costs_long p s =
    length-map (range_with_len 0 (length p.monitors))
    (cost_at p (λ n. not (is_attached s.grouping n)) (deviations_in p s.slots))
    ∙ length-range_with_len 0 (length p.monitors)

-- a defect is a monitor
pub defect_within : (costs : List ℕ) (n : ℕ) → is_defect costs n ≡ true → n < length costs
defect_within costs n h = elim (cases_lt n (length costs)) [
  | inl l ↦ l
  | inr g ↦ absurd (both_ways false refl (sym (ap (λ c. nat_lt 0 c) (get_or_past costs n 0 g)) ∙ h))
]

-- the first defect as the engine tells it
pub first_defect : (costs : List ℕ) (from : ℕ) (r : Option MonitorId) → IsNextDefect costs from r
    → IsFirstDefect r costs from
unfolding defects_from
first_defect costs from None h = first_picked (is_defect costs) from (length costs) None (λ k a b. h k a)
first_defect costs from (Some m) h =
    first_picked (is_defect costs) from (length costs) (Some m.0) (h.0, defect_within costs m.0 h.1, h.1, h.2)

pub next_defect_at : (p : Parts) (s : State) (costs : List ℕ) (from : ℕ) (r : Option MonitorId) → costs ≡ costs_at p s
    → IsNextDefect costs from r → IsFirstDefect r (costs_at p s) from
next_defect_at p s costs from r e h = subst (λ cs. IsFirstDefect r cs from) e (first_defect costs from r h)

pub next_defect_known : (p : Parts) (s : State) (costs : List ℕ) (from : ℕ) (r : Option MonitorId)
    → costs ≡ costs_at p s → IsNextDefect costs from r → IfSome r (λ m. m.0 < length p.monitors)
next_defect_known p s costs from None e h = tt
next_defect_known p s costs from (Some m) e h =
    let l = defect_within costs m.0 h.1 in
    let a = ap length e in
    let b = costs_long p s in
    omega (arith, l, a, b)

pub few_monitors : (p q : Parts) → p ≡ q → length p.monitors ≤ MONITORS → length q.monitors ≤ MONITORS
few_monitors p q e h = subst (λ (x : Parts). length x.monitors ≤ MONITORS) e h

pub small_number : (p : Parts) (r : Option MonitorId) → length p.monitors ≤ MONITORS
    → IfSome r (λ m. m.0 < length p.monitors) → IfSome r (λ m. m.0 + 1 < 2 ^ 32)
small_number p None few h = tt
small_number p (Some m) few h = omega (arith, few, h)

-- a monitor that is dearer is one of the list
dearer_within : (n : ℕ) (ms cs : List ℕ) (m : ℕ) → Among m (dearer_from n ms cs) → m < n + length cs
unfolding dearer_from
dearer_within n [] cs m h = absurd h
dearer_within n (x ∷ ms) [] m h = absurd h
dearer_within n (x ∷ ms) (c ∷ cs) m h = by_head (nat_lt x c)
    (λ g. (let q = dearer_within (n + 1) ms cs m g in omega (arith, q))) h
  where
    by_head : (b : Bool) → (Among m (dearer_from (n + 1) ms cs) → m < n + length (c ∷ cs))
        → Among m (cond b (n ∷ dearer_from (n + 1) ms cs) (dearer_from (n + 1) ms cs)) → m < n + length (c ∷ cs)
    by_head true f (inl e) = omega (arith, e)
    by_head true f (inr g) = f g
    by_head false f g = f g

only_among : (xs : List ℕ) (m : ℕ) → only xs ≡ Some m → Among m xs
unfolding only
only_among [] m h = absurd (let g : ⊥ = cc in g)
only_among (x ∷ []) m h = inl (let g : m ≡ x = cc in g)
only_among (x ∷ y ∷ xs) m h = absurd (let g : ⊥ = cc in g)

pub dearer_at : (p : Parts) (s : State) (marked : List ℕ) (r : Option MonitorId) → r ≡ only_dearer p s marked
    → r ≡ option_map (λ m. record { 0 = m }) (only (dearer marked (costs_at p s)))
unfolding costs_at
dearer_at p s marked r h = h

pub dearer_known : (p : Parts) (s : State) (marked : List ℕ) (r : Option MonitorId)
    → r ≡ option_map (λ m. record { 0 = m }) (only (dearer marked (costs_at p s)))
    → IfSome r (λ m. m.0 < length p.monitors)
dearer_known p s marked r h = by_only (only (dearer marked (costs_at p s))) refl h
  where
    by_only : (o : Option ℕ) → only (dearer marked (costs_at p s)) ≡ o → r ≡ option_map (λ m. record { 0 = m }) o
        → IfSome r (λ m. m.0 < length p.monitors)
    by_only None e g = subst (λ (x : Option MonitorId). IfSome x (λ m. m.0 < length p.monitors)) (sym g) tt
    by_only (Some n) e g =
        let l = dearer_within 0 marked (costs_at p s) n (only_among _ n e) in
        let a = costs_long p s in
        subst (λ (x : Option MonitorId). IfSome x (λ m. m.0 < length p.monitors)) (sym g)
        (let q : n < length p.monitors = omega (arith, l, a) in q)
