-- Tables by event, one more event or one more monitor.
use Rattle.std.proofs.Common.{ℕ, zero, suc, ◌≡◌, ◌+◌, ◌<◌, ◌≤◌, Bool, true, false, cond, Option, Some, None, List, [], ◌∷◌}
use Rattle.std.proofs.Common.{◌++◌, ◌⊎◌, length, drop, set, slice_get, get_or, refl, sym, ap, subst, ◌∙◌, arith, inl, inr}
use Rattle.std.specs.List.{cons_option, filter_map, fold}
use Rattle.std.specs.Option.{option_and_then, option_map, option_map_or}
use Rattle.std.proofs.lemmas.Bool.{cases_eq, cases_lt, eq-eqb, ne_eqb}
use Rattle.std.proofs.lemmas.List.{length-append, length-set, at_drop_all}
use Rattle.std.proofs.lemmas.Option.{get_or_from_slice_get, none-some, same_Some, slice_get-get_or, slice_get_within}
use Rattle.construct.specs.Amounts.{AreAmounts, AreBoundsFrom, AreNarrowed, AreWidest, narrowed_by}
use Rattle.construct.specs.Cuts.{amount_of, bounds_in, bounds_of, is_event, narrowed, set_by, widest}
use Rattle.construct.specs.declared.bounds.Bounds.{Bounds}
use Rattle.khe_base.proofs.ListLemmas.{drop-there, get-last, get-other, get-set}
use Rattle.khe_base.specs.declared.numbers.EventId.{EventId}
use Rattle.khe_instance.specs.WellMade.{IsMonitor, IsPointOf}
use Rattle.khe_instance.specs.declared.parts.EventInfo.{EventInfo}
use Rattle.khe_instance.specs.declared.parts.Parts.{Parts}
use Rattle.khe_instance.specs.declared.points.Monitor.{Monitor}
use Rattle.khe_instance.specs.declared.points.Point.{Point}
use Rattle.khe_instance.specs.declared.points.Point.TheVariants.{Event}
use Rattle.khe_instance.specs.declared.rules.Constraint.{Constraint}
use Rattle.khe_instance.specs.declared.rules.Rule.{Rule}
use Rattle.khe_instance.specs.declared.rules.Rule.TheVariants.{AssignTime, AssignResource, SplitEvents}
use Rattle.khe_instance.specs.declared.rules.Rule.TheVariants.{DistributeSplitEvents, PreferTimes, PreferResources}
use Rattle.khe_instance.specs.declared.rules.Rule.TheVariants.{AvoidSplitAssignments, SpreadEvents, LinkEvents}
use Rattle.khe_instance.specs.declared.rules.Rule.TheVariants.{OrderEvents, AvoidClashes, AvoidUnavailableTimes}
use Rattle.khe_instance.specs.declared.rules.Rule.TheVariants.{LimitIdleTimes, ClusterBusyTimes, LimitBusyTimes}
use Rattle.khe_instance.specs.declared.rules.Rule.TheVariants.{LimitWorkload}

-- what stands in a list with one more element
get-push : {X : Type 0} (xs : List X) (x y : X) (e : ℕ) → slice_get (xs ++ x ∷ []) e ≡ Some y
    → (slice_get xs e ≡ Some y) ⊎ ((e ≡ length xs) × (x ≡ y))
get-push [] x y zero h = inr (refl, same_Some x y h)
get-push [] x y (suc e) h = absurd (none-some y h)
get-push (z ∷ xs) x y zero h = inl h
get-push (z ∷ xs) x y (suc e) h = elim (get-push xs x y e h) [
  | inl a ↦ inl a
  | inr a ↦ inr (ap suc a.0, a.1)
]

long-push : {X : Type 0} (xs : List X) (x : X) (n : ℕ) → length xs ≡ n → length (xs ++ x ∷ []) ≡ n + 1
long-push xs x n h = length-append xs (x ∷ []) ∙ ap (λ k. k + 1) h

-- one more event
pub widest_start : (p : Parts) (table : List Bounds) → table ≡ [] → AreWidest p 0 table
widest_start p table h = record {
  many = ap length h;
  each = λ e event b at k. absurd (none-some b (ap (λ t. slice_get t e) (sym h) ∙ k));
}

pub widest_more : (p : Parts) (n : ℕ) (table more : List Bounds) (event : EventInfo) (b : Bounds) → AreWidest p n table
    → slice_get p.events n ≡ Some event → b ≡ widest event.duration → more ≡ table ++ b ∷ [] → AreWidest p (n + 1) more
widest_more p n table more event b w at is m = record {
  many = ap length m ∙ long-push table b n w.many;
  each = λ e x c there k.
      elim (get-push table b c e (ap (λ t. slice_get t e) (sym m) ∙ k)) [
        | inl h ↦ w.each e x c there h
        | inr h ↦
            let same : event ≡ x = same_Some event x (sym at ∙ ap (slice_get p.events) (sym w.many ∙ sym h.0) ∙ there) in
            sym h.1 ∙ is ∙ ap (λ (y : EventInfo). widest y.duration) same
      ];
}

pub bounds_start : (p : Parts) (table : List Bounds) → AreWidest p (length p.events) table → AreBoundsFrom p 0 table
unfolding bounds_of
bounds_start p table w = record {
  many = w.many;
  each = λ e event b at k. ap (λ c. fold narrowed c (filter_map (set_by p e) p.monitors)) (w.each e event b at k);
}

-- one more monitor
folded_next : (o : Option Bounds) (b : Bounds) (bs : List Bounds)
    → fold narrowed (option_map_or (narrowed b) o b) bs ≡ fold narrowed b (cons_option o bs)
folded_next None b bs = refl
folded_next (Some x) b bs = refl

mapped_some : (o : Option Bounds) (f : Bounds → Bounds) (c : Bounds) → option_map f o ≡ Some c
    → (b : Bounds) × (o ≡ Some b) × (f b ≡ c)
mapped_some None f c h = absurd (none-some c h)
mapped_some (Some b) f c h = (b, refl, same_Some (f b) c h)

pub bounds_more : (p : Parts) (n : ℕ) (m : Monitor) (table more : List Bounds) → AreBoundsFrom p n table
    → slice_get p.monitors n ≡ Some m → AreNarrowed p m table more → AreBoundsFrom p (n + 1) more
unfolding narrowed_by
bounds_more p n m table more w at a = record {
  many = a.many ∙ w.many;
  each = λ e event c there k.
      (let x = mapped_some (slice_get table e) (narrowed_by p e m) c (sym (a.each e) ∙ k) in
      let rest = filter_map (set_by p e) (drop (n + 1) p.monitors) in
      ap (λ d. fold narrowed d rest) (sym x.2) ∙ folded_next (set_by p e m) x.0 rest
      ∙ ap (λ ms. fold narrowed x.0 (filter_map (set_by p e) ms)) (sym (drop-there p.monitors n m at))
      ∙ w.each e event x.0 there x.1);
}

-- after all monitors
pub bounds_done : (p : Parts) (n e : ℕ) (event : EventInfo) (table : List Bounds) (b : Bounds) → AreBoundsFrom p n table
    → length p.monitors ≤ n → slice_get p.events e ≡ Some event → e < length table → b ≡ get_or table e b
    → b ≡ bounds_of p e event.duration
bounds_done p n e event table b w l at within is =
    sym (ap (λ ms. fold narrowed b (filter_map (set_by p e) ms)) (drop_past p.monitors n l))
    ∙ w.each e event b at (slice_get-get_or table e b within ∙ ap Some (sym is))
  where
    drop_past : (ms : List Monitor) (n : ℕ) → length ms ≤ n → drop n ms ≡ []
    drop_past [] zero l = refl
    drop_past [] (suc n) l = refl
    drop_past (m ∷ ms) zero l = absurd (omega (arith, l))
    drop_past (m ∷ ms) (suc n) l = drop_past ms n (omega (arith, l))

-- one more amount
pub amounts_start : (p : Parts) (amounts : List ℕ) → amounts ≡ [] → AreAmounts p 0 amounts
amounts_start p amounts h = record {
  many = ap length h;
  each = λ e event k at there. absurd (none-some k (ap (λ t. slice_get t e) (sym h) ∙ there));
}

pub amounts_more : (p : Parts) (n : ℕ) (amounts more : List ℕ) (k : ℕ) → AreAmounts p n amounts
    → ((event : EventInfo) → slice_get p.events n ≡ Some event → k ≡ amount_of p n event) → more ≡ amounts ++ k ∷ []
    → AreAmounts p (n + 1) more
amounts_more p n amounts more k w is m = record {
  many = ap length m ∙ long-push amounts k n w.many;
  each = λ e x j there h.
      elim (get-push amounts k j e (ap (λ t. slice_get t e) (sym m) ∙ h)) [
        | inl a ↦ w.each e x j there a
        | inr a ↦
            let same : n ≡ e = sym w.many ∙ sym a.0 in
            sym a.1 ∙ is x (ap (slice_get p.events) same ∙ there) ∙ ap (λ i. amount_of p i x) same
      ];
}

-- a table that a monitor leaves
narrowed_none : (p : Parts) (e : ℕ) (m : Monitor) (b : Bounds) → set_by p e m ≡ None → narrowed_by p e m b ≡ b
unfolding narrowed_by
narrowed_none p e m b h = ap (λ o. option_map_or (narrowed b) o b) h

unset : (p : Parts) (e : ℕ) (m : Monitor) (o : Option Bounds) → set_by p e m ≡ None
    → o ≡ option_map (narrowed_by p e m) o
unset p e m None h = refl
unset p e m (Some b) h = ap Some (sym (narrowed_none p e m b h))

left_as_is : (p : Parts) (m : Monitor) (table : List Bounds) → ((e : ℕ) → set_by p e m ≡ None)
    → AreNarrowed p m table table
left_as_is p m table h = record { many = refl; each = λ e. unset p e m (slice_get table e) (h e) }

pub at_no_event : (p : Parts) (m : Monitor) (table : List Bounds) → ((e : ℕ) → is_event e m.point ≡ false)
    → AreNarrowed p m table table
unfolding set_by
at_no_event p m table h = left_as_is p m table (λ e. ap (λ b. cond b (option_and_then (λ (c : Constraint). bounds_in c.rule)
    (slice_get p.constraints m.constraint)) None) (h e))

none_either : (b : Bool) (o : Option Constraint) (c : Constraint) → o ≡ Some c → bounds_in c.rule ≡ None
    → cond b (option_and_then (λ (x : Constraint). bounds_in x.rule) o) None ≡ None
none_either true o c at h = ap (option_and_then (λ (x : Constraint). bounds_in x.rule)) at ∙ h
none_either false o c at h = refl

pub of_no_split : (p : Parts) (m : Monitor) (c : Constraint) (table : List Bounds)
    → slice_get p.constraints m.constraint ≡ Some c → bounds_in c.rule ≡ None → AreNarrowed p m table table
unfolding set_by
of_no_split p m c table at h = left_as_is p m table
    (λ e. none_either (is_event e m.point) (slice_get p.constraints m.constraint) c at h)

-- and one whose bounds it narrows
set_here : (p : Parts) (m : Monitor) (own : EventId) (c : Constraint) (b : Bounds) → m.point ≡ Event own
    → slice_get p.constraints m.constraint ≡ Some c → bounds_in c.rule ≡ Some b → set_by p own.0 m ≡ Some b
unfolding set_by
set_here p m own c b point at is =
    let test : is_event own.0 m.point ≡ true = ap (is_event own.0) point ∙ eq-eqb own.0 own.0 refl in
    ap (λ t. cond t (option_and_then (λ (x : Constraint). bounds_in x.rule) (slice_get p.constraints m.constraint)) None) test
    ∙ ap (option_and_then (λ (x : Constraint). bounds_in x.rule)) at ∙ is

set_nowhere : (p : Parts) (m : Monitor) (own : EventId) (e : ℕ) → m.point ≡ Event own → (own.0 ≡ e → ⊥)
    → set_by p e m ≡ None
unfolding set_by
set_nowhere p m own e point other =
    let test : is_event e m.point ≡ false = ap (is_event e) point ∙ ne_eqb own.0 e other in
    ap (λ t. cond t (option_and_then (λ (x : Constraint). bounds_in x.rule) (slice_get p.constraints m.constraint)) None) test

narrowed_some : (p : Parts) (e : ℕ) (m : Monitor) (b x : Bounds) → set_by p e m ≡ Some x
    → narrowed_by p e m b ≡ narrowed b x
unfolding narrowed_by
narrowed_some p e m b x h = ap (λ o. option_map_or (narrowed b) o b) h

pub narrowed_at : (p : Parts) (m : Monitor) (own : EventId) (c : Constraint) (b : Bounds) (table more : List Bounds)
    → m.point ≡ Event own → slice_get p.constraints m.constraint ≡ Some c → bounds_in c.rule ≡ Some b
    → own.0 < length table → more ≡ set table own.0 (narrowed (get_or table own.0 b) b) → AreNarrowed p m table more
narrowed_at p m own c b table more point at is within e = record {
  many = ap length e ∙ length-set table own.0 (narrowed (get_or table own.0 b) b);
  each = λ k. ap (λ t. slice_get t k) e ∙ elim (cases_eq own.0 k) [
    | inl same ↦
        ap (slice_get (set table own.0 (narrowed (get_or table own.0 b) b))) (sym same)
        ∙ get-set table own.0 (narrowed (get_or table own.0 b) b) within
        ∙ ap Some (sym (narrowed_some p own.0 m (get_or table own.0 b) b (set_here p m own c b point at is)))
        ∙ ap (option_map (narrowed_by p own.0 m)) (sym (slice_get-get_or table own.0 b within))
        ∙ ap (λ j. option_map (narrowed_by p j m) (slice_get table j)) same
    | inr other ↦
        get-other table own.0 k (narrowed (get_or table own.0 b) b) other
        ∙ unset p k m (slice_get table k) (set_nowhere p m own k point other)
  ];
}

-- a monitor at an event is at one of the instance
point_there : (p : Parts) (r : Rule) (own : EventId) → IsPointOf p r (Event own) → own.0 < length p.events
point_there p AssignTime own h = h
point_there p (AssignResource role) own h = absurd h
point_there p (SplitEvents a b c d) own h = h
point_there p (DistributeSplitEvents d x y) own h = h
point_there p (PreferTimes t d) own h = h
point_there p (PreferResources x r) own h = absurd h
point_there p (AvoidSplitAssignments r) own h = absurd h
point_there p (SpreadEvents x) own h = absurd h
point_there p LinkEvents own h = absurd h
point_there p (OrderEvents x) own h = absurd h
point_there p AvoidClashes own h = absurd h
point_there p (AvoidUnavailableTimes t) own h = absurd h
point_there p (LimitIdleTimes g x y) own h = absurd h
point_there p (ClusterBusyTimes g x y) own h = absurd h
point_there p (LimitBusyTimes g x y) own h = absurd h
point_there p (LimitWorkload x y) own h = absurd h

pub event_there : (p : Parts) (m : Monitor) (own : EventId) → IsMonitor p m → m.point ≡ Event own
    → own.0 < length p.events
event_there p m own h point = point_there p h.0.rule own (subst (IsPointOf p h.0.rule) point h.3)

pub constraint_there : (p : Parts) (m : Monitor) → IsMonitor p m → m.constraint < length p.constraints
constraint_there p m h = slice_get_within p.constraints m.constraint h.0 h.1
