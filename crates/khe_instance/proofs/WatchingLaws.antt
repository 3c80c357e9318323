-- How much is watched, by the sizes of sets: what a monitor names is counted over all events and all
-- times, which comes to the members of its sets.
use Rattle.std.proofs.Common.{ℕ, ◌≡◌, ◌+◌, ◌<◌, ◌≤◌, ◌==◌, ◌∙◌, ◌⊎◌, inl, inr, zero, suc, Bool, true, false, cond, ◌||◌}
use Rattle.std.proofs.Common.{Option, Some, None, List, [], ◌∷◌, length, refl, sym, ap, arith, add-one, slice_get}
use Rattle.std.proofs.Common.{get_or, count_by, sum_by}
use Rattle.std.specs.List.{range_with_len}
use Rattle.std.specs.Option.{option_map_or}
use Rattle.std.proofs.lemmas.Bool.{cases_eq, eq-eqb, ne_eqb}
use Rattle.std.proofs.lemmas.List.FromFn.{length-range_with_len}
use Rattle.std.proofs.lemmas.List.Sums.{sum_by-cons}
use Rattle.khe_base.specs.IdSet.{has_member, member_count}
use Rattle.khe_instance.specs.Watching.{pair_names, times_watched, watches_at}
pub use Rattle.khe_instance.specs.WatchedSizes.{named, pair_size, group_size, listed_times, watched_size}
use Rattle.khe_instance.specs.declared.parts.GroupInfo.{GroupInfo}
use Rattle.khe_instance.specs.declared.parts.Parts.{Parts}
use Rattle.khe_instance.specs.declared.points.Point.{Point}
use Rattle.khe_instance.specs.declared.points.Point.TheVariants.{Event, EventResource, EventGroup, EventPair as Pair}
use Rattle.khe_instance.specs.declared.points.Point.TheVariants.{Resource}
use Rattle.khe_instance.specs.declared.rules.EventPair.{EventPair}
use Rattle.khe_instance.specs.declared.rules.Rule.{Rule}
use Rattle.khe_instance.specs.declared.rules.Rule.TheVariants.{OrderEvents, AvoidClashes, AvoidUnavailableTimes}
use Rattle.khe_instance.specs.declared.rules.Rule.TheVariants.{LimitIdleTimes, ClusterBusyTimes, LimitBusyTimes}
use Rattle.khe_instance.specs.declared.rules.Rule.TheVariants.{LimitWorkload}

abbrev pub bit : Bool → ℕ
bit b = cond b 1 0

-- counts over a range that begins one later
pub shift : (p : ℕ → Bool) (from n : ℕ) → count_by p (range_with_len (from + 1) n)
    ≡ count_by (λ t. p (t + 1)) (range_with_len from n)
shift p from zero = refl
shift p from (suc n) =
    sum_by-cons (λ t. bit (p t)) (from + 1) (range_with_len (from + 1 + 1) n)
    ∙ ap (λ k. bit (p (from + 1)) + k) (shift p (from + 1) n)
    ∙ sym (sum_by-cons (λ t. bit (p (t + 1))) from (range_with_len (from + 1) n))

pub none : (from n : ℕ) → count_by (λ t. false) (range_with_len from n) ≡ 0
none from zero = refl
none from (suc n) = sum_by-cons (λ t. 0) from (range_with_len (from + 1) n)
    ∙ (let z : 0 + count_by (λ t. false) (range_with_len (from + 1) n)
    ≡ count_by (λ t. false) (range_with_len (from + 1) n) = omega arith in z) ∙ none (from + 1) n

-- the members of a set among the first numbers are members
pub members_within : (g : List Bool) (n : ℕ) → count_by (has_member g) (range_with_len 0 n) ≤ member_count g
members_within [] n = omega (arith, none 0 n)
members_within (b ∷ bs) zero = omega arith
members_within (b ∷ bs) (suc n) =
    let here = sum_by-cons (λ t. bit (has_member (b ∷ bs) t)) 0 (range_with_len 1 n) in
    let later : count_by (has_member (b ∷ bs)) (range_with_len 1 n) ≡ count_by (has_member bs) (range_with_len 0 n) =
    shift (has_member (b ∷ bs)) 0 n ∙ (λ i. count_by (λ t. get_or (b ∷ bs) (add-one t i) false) (range_with_len 0 n)) in
    omega (arith, here, later, members_within bs n, sum_by-cons bit b bs)

-- one number stands in a range once at most
pub past : (a from n : ℕ) → a < from → count_by (λ e. a == e) (range_with_len from n) ≡ 0
past a from zero l = refl
past a from (suc n) l =
    let z : bit (a == from) ≡ 0 = ap bit (ne_eqb a from (λ e. omega (arith, e, l))) in
    omega (
      arith,
      sum_by-cons (λ e. bit (a == e)) from (range_with_len (from + 1) n),
      z,
      past a (from + 1) n
          (omega arith),
    )

pub once : (a from n : ℕ) → count_by (λ e. a == e) (range_with_len from n) ≤ 1
once a from zero = omega arith
once a from (suc n) = by (cases_eq a from) (once a (from + 1) n)
  where
    by : (a ≡ from) ⊎ (a ≡ from → ⊥) → count_by (λ e. a == e) (range_with_len (from + 1) n) ≤ 1
        → count_by (λ e. a == e) (range_with_len from (suc n)) ≤ 1
    by (inl e) later =
        let z : bit (a == from) ≡ 1 = ap bit (eq-eqb a from e) in
        omega (
          arith,
          sum_by-cons (λ e. bit (a == e)) from (range_with_len (from + 1) n),
          z,
          past a (from + 1) n
              (omega (arith, e)),
        )
    by (inr d) later =
        let z : bit (a == from) ≡ 0 = ap bit (ne_eqb a from d) in
        omega (arith, sum_by-cons (λ e. bit (a == e)) from (range_with_len (from + 1) n), z, later)

either : (p q : ℕ → Bool) (ns : List ℕ) → count_by (λ e. p e || q e) ns ≤ count_by p ns + count_by q ns
either p q [] = omega arith
either p q (n ∷ ns) =
    omega (
      arith,
      sum_by-cons (λ e. bit (p e || q e)) n ns,
      sum_by-cons (λ e. bit (p e)) n ns,
      sum_by-cons
          (λ e. bit (q e)) n ns,
      one (p n) (q n),
      either p q ns,
    )
  where
    one : (a b : Bool) → bit (a || b) ≤ bit a + bit b
    one true b = omega arith
    one false true = omega arith
    one false false = omega arith

pair_within : (a b n : ℕ) → count_by (λ e. (a == e) || (b == e)) (range_with_len 0 n) ≤ named (a == b)
pair_within a b n = by (cases_eq a b)
  where
    same : (c : Bool) → (c || c) ≡ c
    same true = refl
    same false = refl

    by : (a ≡ b) ⊎ (a ≡ b → ⊥) → count_by (λ e. (a == e) || (b == e)) (range_with_len 0 n) ≤ named (a == b)
    by (inl e) =
        let z : named (a == b) ≡ 1 = ap named (eq-eqb a b e) in
        let one : count_by (λ k. (a == k) || (b == k)) (range_with_len 0 n)
        ≡ count_by (λ k. b == k) (range_with_len 0 n) =
        (λ i. count_by (λ k. (e i == k) || (b == k)) (range_with_len 0 n))
        ∙ (λ i. count_by (λ k. same (b == k) i) (range_with_len 0 n)) in
        omega (arith, z, one, once b 0 n)
    by (inr d) =
        let z : named (a == b) ≡ 2 = ap named (ne_eqb a b d) in
        omega (arith, z, either (λ e. a == e) (λ e. b == e) (range_with_len 0 n), once a 0 n, once b 0 n)

group_within : (o : Option GroupInfo) (n : ℕ)
    → count_by (λ e. option_map_or (λ (group : GroupInfo). has_member group.events e) o false)
    (range_with_len 0 n) ≤ option_map_or (λ (group : GroupInfo). member_count group.events) o 0
group_within None n = omega (arith, none 0 n)
group_within (Some g) n = members_within g.events n

listed_pair : (o : Option EventPair) (n : ℕ) → count_by
    (λ e. option_map_or (λ (q : EventPair). (q.first.0 == e) || (q.second.0 == e)) o false)
    (range_with_len 0 n) ≤ option_map_or (λ (q : EventPair). named (q.first.0 == q.second.0)) o 0
listed_pair None n = omega (arith, none 0 n)
listed_pair (Some q) n = pair_within q.first.0 q.second.0 n

pairs_within : (rule : Rule) (k n : ℕ) → count_by (λ e. pair_names rule k e) (range_with_len 0 n) ≤ pair_size rule k
pairs_within (OrderEvents pairs) k n = listed_pair (slice_get pairs k) n
pairs_within _ k n = omega (arith, none 0 n)

pub plus : (f g : ℕ → ℕ) (ns : List ℕ) → sum_by (λ t. f t + g t) ns ≡ sum_by f ns + sum_by g ns
plus f g [] = refl
plus f g (n ∷ ns) = omega (
  arith,
  sum_by-cons (λ t. f t + g t) n ns,
  sum_by-cons f n ns,
  sum_by-cons g n ns,
  plus f g
      ns,
)

pub nothing : (ns : List ℕ) → sum_by (λ t. 0) ns ≡ 0
nothing [] = refl
nothing (n ∷ ns) = omega (arith, sum_by-cons (λ t. 0) n ns, nothing ns)

pub ones : (ns : List ℕ) → sum_by (λ t. 1) ns ≡ length ns
ones [] = refl
ones (n ∷ ns) = omega (arith, sum_by-cons (λ t. 1) n ns, ones ns)

-- added up over times, how often groups list them is what their members are together
groups_within : (groups : List (List Bool)) (n : ℕ)
    → sum_by (λ t. count_by (λ g. has_member g t) groups) (range_with_len 0 n) ≤ sum_by member_count groups
groups_within [] n = omega (arith, nothing (range_with_len 0 n))
groups_within (g ∷ gs) n =
    let split : sum_by (λ t. count_by (λ x. has_member x t) (g ∷ gs)) (range_with_len 0 n)
    ≡ sum_by (λ t. bit (has_member g t) + count_by (λ x. has_member x t) gs) (range_with_len 0 n) =
    λ i. sum_by (λ t. sum_by-cons (λ (x : List Bool). bit (has_member x t)) g gs i) (range_with_len 0 n) in
    omega (
      arith,
      split,
      plus (λ t. bit (has_member g t)) (λ t. count_by (λ x. has_member x t) gs) (range_with_len 0 n),
      members_within g n,
      groups_within gs n,
      sum_by-cons member_count g gs,
    )

times_within : (p : Parts) (rule : Rule) → times_watched p rule ≤ listed_times p rule
times_within p AvoidClashes = omega (
  arith,
  ones (range_with_len 0 (length p.times)),
  length-range_with_len 0
      (length p.times),
)
times_within p (AvoidUnavailableTimes times) = omega (arith, members_within times (length p.times))
times_within p (LimitIdleTimes groups least greatest) = omega (arith, groups_within groups (length p.times))
times_within p (ClusterBusyTimes groups least greatest) = omega (arith, groups_within groups (length p.times))
times_within p (LimitBusyTimes groups least greatest) = omega (arith, groups_within groups (length p.times))
times_within p (LimitWorkload least greatest) = omega (arith, nothing (range_with_len 0 (length p.times)))
times_within p _ = omega (arith, nothing (range_with_len 0 (length p.times)))

pub watches_within : (p : Parts) (rule : Rule) (point : Point) → watches_at p rule point ≤ watched_size p rule point
watches_within p rule (Event e) = once e.0 0 (length p.events)
watches_within p rule (EventResource e place) = once e.0 0 (length p.events)
watches_within p rule (EventGroup g) = group_within (slice_get p.groups g) (length p.events)
watches_within p rule (Pair k) = pairs_within rule k (length p.events)
watches_within p rule (Resource r) = times_within p rule
