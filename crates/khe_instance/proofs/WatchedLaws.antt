-- Monitors of well made parts watch exactly what the sizes of their sets say: each set is of all events
-- or of all times, and what is named is there.
use Rattle.std.proofs.Common.{ℕ, ◌≡◌, ◌+◌, ◌<◌, ◌≤◌, ◌==◌, ◌∙◌, ◌⊎◌, inl, inr, zero, suc, Bool, true, false, ◌||◌}
use Rattle.std.proofs.Common.{Option, Some, None, List, [], ◌∷◌, length, refl, sym, ap, subst, arith, add-one}
use Rattle.std.proofs.Common.{slice_get, get_or, All, count_by, sum_by}
use Rattle.std.specs.List.{range_with_len}
use Rattle.std.specs.Option.{option_map_or, option_and_then}
use Rattle.std.proofs.lemmas.Bool.{cases_eq, eq-eqb, eqb-true, ne_eqb}
use Rattle.std.proofs.lemmas.List.Elements.{All-head, All-tail}
use Rattle.std.proofs.lemmas.List.FromFn.{length-range_with_len}
use Rattle.std.proofs.lemmas.List.Sums.{sum_by-cons}
use Rattle.std.proofs.lemmas.Option.{none-some, slice_get_cases, slice_get_within}
use Rattle.khe_base.specs.IdSet.{has_member, member_count}
use Rattle.khe_base.specs.declared.numbers.EventId.{EventId}
use Rattle.khe_base.specs.declared.numbers.ResourceId.{ResourceId}
use Rattle.khe_instance.specs.Lookups.{role_at}
use Rattle.khe_instance.specs.WatchedSizes.{named, pair_size, group_size, listed_times, watched_size, size_watched}
use Rattle.khe_instance.specs.Watching.{pair_names, times_watched, watches_at, watches}
use Rattle.khe_instance.specs.WellMade.{AreWellMade, IsMonitor, IsPointOf, IsRule}
use Rattle.khe_instance.specs.declared.parts.EventInfo.{EventInfo}
use Rattle.khe_instance.specs.declared.parts.GroupInfo.{GroupInfo}
use Rattle.khe_instance.specs.declared.parts.Parts.{Parts}
use Rattle.khe_instance.specs.declared.points.Monitor.{Monitor}
use Rattle.khe_instance.specs.declared.points.Point.{Point}
use Rattle.khe_instance.specs.declared.points.Point.TheVariants.{Event, EventResource, EventGroup, EventPair as Pair}
use Rattle.khe_instance.specs.declared.points.Point.TheVariants.{Resource}
use Rattle.khe_instance.specs.declared.rules.Constraint.{Constraint}
use Rattle.khe_instance.specs.declared.rules.EventPair.{EventPair}
use Rattle.khe_instance.specs.declared.rules.Rule.{Rule}
use Rattle.khe_instance.specs.declared.rules.Rule.TheVariants.{AssignTime, AssignResource, SplitEvents}
use Rattle.khe_instance.specs.declared.rules.Rule.TheVariants.{DistributeSplitEvents, PreferTimes, PreferResources}
use Rattle.khe_instance.specs.declared.rules.Rule.TheVariants.{OrderEvents, AvoidClashes, AvoidUnavailableTimes}
use Rattle.khe_instance.specs.declared.rules.Rule.TheVariants.{LimitIdleTimes, ClusterBusyTimes, LimitBusyTimes}
use Rattle.khe_instance.specs.declared.rules.Rule.TheVariants.{LimitWorkload}
use Rattle.khe_instance.proofs.MadeLemmas.{constraint_made}
use Rattle.khe_instance.proofs.WatchingLaws.{bit, shift, none, past, plus, nothing, ones}

-- all members of a set of these numbers are among them
members-are : (g : List Bool) (n : ℕ) → length g ≤ n → count_by (has_member g) (range_with_len 0 n) ≡ member_count g
members-are [] n l = none 0 n
members-are (b ∷ bs) zero l = absurd (omega (arith, l))
members-are (b ∷ bs) (suc n) l =
    let here = sum_by-cons (λ t. bit (has_member (b ∷ bs) t)) 0 (range_with_len 1 n) in
    let later : count_by (has_member (b ∷ bs)) (range_with_len 1 n) ≡ count_by (has_member bs) (range_with_len 0 n) =
    shift (has_member (b ∷ bs)) 0 n ∙ (λ i. count_by (λ t. get_or (b ∷ bs) (add-one t i) false) (range_with_len 0 n)) in
    let rest : count_by (has_member bs) (range_with_len 0 n) ≡ member_count bs = members-are bs n (omega arith) in
    omega (arith, here, later, rest, sum_by-cons bit b bs)

-- a number of a range stands there once
once-at : (a from n : ℕ) → from ≤ a → a < from + n → count_by (λ e. a == e) (range_with_len from n) ≡ 1
once-at a from zero low high = absurd (omega arith)
once-at a from (suc n) low high = by (cases_eq a from) (λ above. once-at a (from + 1) n above (omega arith))
  where
    by : (a ≡ from) ⊎ (a ≡ from → ⊥) → (from + 1 ≤ a → count_by (λ e. a == e) (range_with_len (from + 1) n) ≡ 1)
        → count_by (λ e. a == e) (range_with_len from (suc n)) ≡ 1
    by (inl e) later =
        let z : bit (a == from) ≡ 1 = ap bit (eq-eqb a from e) in
        omega (
          arith,
          sum_by-cons (λ e. bit (a == e)) from (range_with_len (from + 1) n),
          z,
          past a (from + 1) n
              (omega (arith, e)),
        )
    by (inr d) later =
        let z : bit (a == from) ≡ 0 = ap bit (ne_eqb a from d) in
        let above : from + 1 ≤ a = omega (arith, d) in
        omega (arith, sum_by-cons (λ e. bit (a == e)) from (range_with_len (from + 1) n), z, later above)

-- what passes one of two tests that nothing passes both
apart : (p q : ℕ → Bool) → ((e : ℕ) → p e ≡ true → q e ≡ true → ⊥) → (ns : List ℕ)
    → count_by (λ e. p e || q e) ns ≡ count_by p ns + count_by q ns
apart p q h [] = refl
apart p q h (n ∷ ns) =
    omega (
      arith,
      sum_by-cons (λ e. bit (p e || q e)) n ns,
      sum_by-cons (λ e. bit (p e)) n ns,
      sum_by-cons
          (λ e. bit (q e)) n ns,
      one (p n) (q n) (h n),
      apart p q h ns,
    )
  where
    one : (a b : Bool) → (a ≡ true → b ≡ true → ⊥) → bit (a || b) ≡ bit a + bit b
    one true true d = absurd (d refl refl)
    one true false d = refl
    one false true d = refl
    one false false d = refl

pair-is : (a b n : ℕ) → a < n → b < n → count_by (λ e. (a == e) || (b == e)) (range_with_len 0 n) ≡ named (a == b)
pair-is a b n la lb = by (cases_eq a b)
  where
    same : (c : Bool) → (c || c) ≡ c
    same true = refl
    same false = refl

    by : (a ≡ b) ⊎ (a ≡ b → ⊥) → count_by (λ e. (a == e) || (b == e)) (range_with_len 0 n) ≡ named (a == b)
    by (inl e) =
        (λ i. count_by (λ k. (e i == k) || (b == k)) (range_with_len 0 n))
        ∙ (λ i. count_by (λ k. same (b == k) i) (range_with_len 0 n))
        ∙ once-at b 0 n (omega arith) (omega arith) ∙ sym (ap named (eq-eqb a b e))
    by (inr d) =
        let two = apart (λ e. a == e) (λ e. b == e) (λ e p q. d (eqb-true a e p ∙ sym (eqb-true b e q)))
        (range_with_len 0 n) in
        let z : named (a == b) ≡ 2 = ap named (ne_eqb a b d) in
        let one : count_by (λ e. a == e) (range_with_len 0 n) ≡ 1 = once-at a 0 n (omega arith) (omega arith) in
        let other : count_by (λ e. b == e) (range_with_len 0 n) ≡ 1 = once-at b 0 n (omega arith) (omega arith) in
        omega (arith, two, z, one, other)

-- added up over all times, how often groups list them is what their members are together
groups-are : (groups : List (List Bool)) (n : ℕ) → All (λ g. length g ≡ n) groups
    → sum_by (λ t. count_by (λ g. has_member g t) groups) (range_with_len 0 n) ≡ sum_by member_count groups
groups-are [] n sizes = nothing (range_with_len 0 n)
groups-are (g ∷ gs) n sizes =
    let split : sum_by (λ t. count_by (λ x. has_member x t) (g ∷ gs)) (range_with_len 0 n)
    ≡ sum_by (λ t. bit (has_member g t) + count_by (λ x. has_member x t) gs) (range_with_len 0 n) =
    λ i. sum_by (λ t. sum_by-cons (λ (x : List Bool). bit (has_member x t)) g gs i) (range_with_len 0 n) in
    let size : length g ≡ n = All-head (λ x. length x ≡ n) g gs sizes in
    let first : count_by (has_member g) (range_with_len 0 n) ≡ member_count g = members-are g n (omega arith) in
    omega (
      arith,
      split,
      plus (λ t. bit (has_member g t)) (λ t. count_by (λ x. has_member x t) gs) (range_with_len 0 n),
      first,
      groups-are gs n (All-tail (λ x. length x ≡ n) g gs sizes),
      sum_by-cons member_count g gs,
    )

times-are : (p : Parts) (rule : Rule) (r : ResourceId) → IsRule p rule → IsPointOf p rule (Resource r)
    → times_watched p rule ≡ listed_times p rule
times-are p AvoidClashes r made h = omega (
  arith,
  ones (range_with_len 0 (length p.times)),
  length-range_with_len 0
      (length p.times),
)
times-are p (AvoidUnavailableTimes times) r made h = omega (arith, members-are times (length p.times) (omega arith))
times-are p (LimitIdleTimes groups least greatest) r made h = omega (arith, groups-are groups (length p.times) made.0.0)
times-are p (ClusterBusyTimes groups least greatest) r made h =
    omega (arith, groups-are groups (length p.times) made.0.0)
times-are p (LimitBusyTimes groups least greatest) r made h = omega (arith, groups-are groups (length p.times) made.0.0)
times-are p (LimitWorkload least greatest) r made h = omega (arith, nothing (range_with_len 0 (length p.times)))
times-are p _ r made h = absurd h

-- what a point names is there
event-there : (p : Parts) (rule : Rule) (e : EventId) → IsPointOf p rule (Event e) → e.0 < length p.events
event-there p AssignTime e h = h
event-there p (SplitEvents a b c d) e h = h
event-there p (DistributeSplitEvents d least greatest) e h = h
event-there p (PreferTimes times duration) e h = h
event-there p _ e h = absurd h

pub with-role : (events : List EventInfo) (e place : ℕ) (role : List ℕ) → role_at events e place ≡ Some role
    → e < length events
with-role events e place role h = by (slice_get events e) refl
  where
    by : (o : Option EventInfo) → slice_get events e ≡ o → e < length events
    by None is = absurd (none-some role (sym (ap (λ (o : Option EventInfo). option_and_then
        (λ event. option_and_then (λ x. x.role) (slice_get event.places place)) o) is) ∙ h))
    by (Some event) is = slice_get_within events e event is

pub place-there : (p : Parts) (rule : Rule) (e : EventId) (place : ℕ) → IsPointOf p rule (EventResource e place)
    → e.0 < length p.events
place-there p (AssignResource role) e place h = with-role p.events e.0 place role h
place-there p (PreferResources resources role) e place h = with-role p.events e.0 place role h
place-there p _ e place h = absurd h

group-is : (p : Parts) → AreWellMade p → (g : ℕ)
    → count_by (λ e. option_map_or (λ group. has_member group.events e) (slice_get p.groups g) false)
    (range_with_len 0 (length p.events)) ≡ group_size p g
group-is p made g = elim (slice_get_cases p.groups g).1 [
  | inl found ↦
      let group : GroupInfo = found.0 in
      let size : length group.events ≡ length p.events =
      subst (λ (x : GroupInfo). length x.events ≡ length p.events) found.3 (made.groups g group found.1) in
      subst (λ (o : Option GroupInfo). count_by (λ e. option_map_or (λ x. has_member x.events e) o false)
      (range_with_len 0 (length p.events)) ≡ option_map_or (λ x. member_count x.events) o 0) (sym found.2)
      (members-are group.events (length p.events) (omega arith))
  | inr past ↦
      subst (λ (o : Option GroupInfo). count_by (λ e. option_map_or (λ x. has_member x.events e) o false)
      (range_with_len 0 (length p.events)) ≡ option_map_or (λ x. member_count x.events) o 0) (sym past.1)
      (none 0 (length p.events))
]

pairs-are : (p : Parts) (rule : Rule) (k : ℕ) → IsRule p rule → IsPointOf p rule (Pair k)
    → count_by (pair_names rule k) (range_with_len 0 (length p.events)) ≡ pair_size rule k
pairs-are p (OrderEvents pairs) k made h = elim (slice_get_cases pairs k).1 [
  | inl found ↦
      let q : EventPair = found.0 in
      let there : (q.first.0 < length p.events) × (q.second.0 < length p.events) =
      subst (λ (x : EventPair). (x.first.0 < length p.events) × (x.second.0 < length p.events)) found.3
      ((made k q found.1).0, (made k q found.1).1) in
      subst (λ (o : Option EventPair). count_by (λ e. option_map_or (λ x. (x.first.0 == e) || (x.second.0 == e)) o
      false) (range_with_len 0 (length p.events)) ≡ option_map_or (λ x. named (x.first.0 == x.second.0)) o 0)
      (sym found.2)
      (pair-is q.first.0 q.second.0 (length p.events) there.0 there.1)
  | inr past ↦
      subst (λ (o : Option EventPair). count_by (λ e. option_map_or (λ x. (x.first.0 == e) || (x.second.0 == e)) o
      false) (range_with_len 0 (length p.events)) ≡ option_map_or (λ x. named (x.first.0 == x.second.0)) o 0)
      (sym past.1)
      (none 0 (length p.events))
]
pairs-are p _ k made h = absurd h

watches-at : (p : Parts) → AreWellMade p → (rule : Rule) → IsRule p rule → (point : Point) → IsPointOf p rule point
    → watches_at p rule point ≡ watched_size p rule point
watches-at p made rule is (Event e) h = once-at e.0 0 (length p.events) (omega arith)
    (let l : e.0 < length p.events = event-there p rule e h in omega arith)
watches-at p made rule is (EventResource e place) h =
    once-at e.0 0 (length p.events) (omega arith)
    (let l : e.0 < length p.events = place-there p rule e place h in omega arith)
watches-at p made rule is (EventGroup g) h = group-is p made g
watches-at p made rule is (Pair k) h = pairs-are p rule k is h
watches-at p made rule is (Resource r) h = times-are p rule r is h

pub watches_are : (p : Parts) (m : Monitor) → AreWellMade p → IsMonitor p m → watches p m ≡ size_watched p m
watches_are p m made (c, there, kind, point) =
    subst (λ (o : Option Constraint). option_map_or (λ x. watches_at p x.rule m.point) o 0
    ≡ option_map_or (λ x. watched_size p x.rule m.point) o 0) (sym there)
    (watches-at p made c.rule (constraint_made p made m.constraint c there).rule m.point point)
