-- No deviation at an event, a place, an event group or a pair of events is above the greatest one
-- that the limits allow.
use Rattle.std.proofs.Common.{◌≡◌, sym, subst, ℕ, ◌+◌, ◌-◌, ◌*◌, ◌≤◌, ◌==◌, Bool, true, false, cond, ◌&&◌, Option, Some}
use Rattle.std.proofs.Common.{None, List, [], ◌∷◌, length, get_or, All, IfSome, arith, count_by, sum_by, filter}
use Rattle.std.proofs.Common.{option_map, le_trans, inl, inr}
use Rattle.std.specs.Prelude.{is_none, int_lt, unsigned_abs, min, max, pos, ◌-ℤ◌}
use Rattle.std.specs.List.{cons_option, filter_map, fold, list_any, range_with_len}
use Rattle.std.specs.Option.{option_map_or}
use Rattle.std.proofs.Math.Nat.{min-le_left}
use Rattle.std.proofs.lemmas.Bool.{cond_both}
use Rattle.std.proofs.lemmas.Int.{ints}
use Rattle.std.proofs.lemmas.List.Elements.{All-cons, All-filter, All-head, All-nil, All-tail}
use Rattle.std.proofs.lemmas.List.Sums.{sum_by-le, count_by-le-length, length-filter}
use Rattle.std.proofs.lemmas.Nat.{mul-le}
use Rattle.std.proofs.lemmas.Option.{slice_get_cases}
use Rattle.khe_base.specs.Bounds.{outside, count_outside}
use Rattle.khe_base.specs.BoundsLaws.{count_outside_small}
use Rattle.khe_base.specs.IdSet.{has_member}
use Rattle.khe_base.specs.declared.limits.TheConstants.{DURATION, GREATEST_DEVIATION, NUMBER, TASKS, TIMES}
use Rattle.khe_base.specs.declared.numbers.TimeId.{TimeId}
use Rattle.khe_instance.specs.Deviation.{event_deviation, place_deviation, group_deviation, pair_deviation}
use Rattle.khe_instance.specs.EventDeviation.{allows, duties_at, starts_in, starts_outside, given_outside, is_unfit}
use Rattle.khe_instance.specs.EventDeviation.{runs_apart, starts_of, ends_of, order_of, order_events}
use Rattle.khe_instance.specs.Lookups.{is_role, role_at}
use Rattle.khe_instance.specs.Running.{event_runs, is_resource, meets_of}
use Rattle.khe_instance.specs.WellMade.{AreWithinLimits, IsRule}
use Rattle.khe_instance.specs.declared.parts.Parts.{Parts}
use Rattle.khe_instance.specs.declared.rules.EventPair.{EventPair}
use Rattle.khe_instance.specs.declared.rules.Rule.{Rule}
use Rattle.khe_instance.specs.declared.rules.Rule.TheVariants.{AssignTime, AssignResource, SplitEvents}
use Rattle.khe_instance.specs.declared.rules.Rule.TheVariants.{DistributeSplitEvents, PreferTimes, PreferResources}
use Rattle.khe_instance.specs.declared.rules.Rule.TheVariants.{AvoidSplitAssignments, SpreadEvents, LinkEvents}
use Rattle.khe_instance.specs.declared.rules.Rule.TheVariants.{OrderEvents}
use Rattle.khe_instance.specs.declared.rules.Spread.{Spread}
use Rattle.khe_instance.specs.declared.states.Duty.{Duty}
use Rattle.khe_instance.specs.declared.states.Meet.{Meet}
use Rattle.khe_instance.proofs.ResourceBounds.{counted}

-- a number or nothing
part : (b : Bool) (n : ℕ) → cond b n 0 ≤ n
part true n = omega arith
part false n = omega arith

-- a sum over some elements of a list
part_sum : {X : Type 0} (f : X → ℕ) (most many : ℕ) (keep : X → Bool) (xs : List X) → length xs ≤ many
    → All (λ x. f x ≤ most) xs → sum_by f (filter keep xs) ≤ many * most
part_sum f most many keep xs few small =
    let total : sum_by f (filter keep xs) ≤ length (filter keep xs) * most =
    sum_by-le f most (filter keep xs) (All-filter keep (λ x. f x ≤ most) xs small) in
    let less : length (filter keep xs) ≤ many = omega (arith, length-filter keep xs, count_by-le-length keep xs) in
    let product : length (filter keep xs) * most ≤ many * most =
    mul-le (length (filter keep xs)) most many most less (omega arith) in
    omega arith

-- the difference of two numbers lies outside two bounds by no more than them and the least
pub difference_small : (a b least greatest : ℕ) → outside (pos a -ℤ pos b) (pos least) (pos greatest) ≤ a + b + least
difference_small a b least greatest =
    let n = pos a -ℤ pos b in
    let below : unsigned_abs (pos least -ℤ n) ≤ a + b + least = omega (arith, ints) in
    let above : int_lt (pos greatest) n ≡ true → unsigned_abs (n -ℤ pos greatest) ≤ a + b + least =
    λ e. (grind (arith, ints)) in
    cond_both (int_lt n (pos least)) (unsigned_abs (pos least -ℤ n))
    (cond (int_lt (pos greatest) n) (unsigned_abs (n -ℤ pos greatest)) 0) (λ k. k ≤ a + b + least)
    (λ _. below)
    (λ _. cond_both (int_lt (pos greatest) n) (unsigned_abs (n -ℤ pos greatest)) 0 (λ k. k ≤ a + b + least) above
    (λ _. omega arith))

-- the least of some numbers, and the greatest
pub least_small : (a : ℕ) (ns : List ℕ) → fold min a ns ≤ a
least_small a [] = omega arith
least_small a (n ∷ ns) = le_trans (least_small (min a n) ns) (min-le_left a n)

greatest_small : (most a : ℕ) (ns : List ℕ) → a ≤ most → All (λ n. n ≤ most) ns → fold max a ns ≤ most
greatest_small most a [] h all = h
greatest_small most a (n ∷ ns) h all =
    let first : n ≤ most = All-head (λ k. k ≤ most) n ns all in
    greatest_small most (max a n) ns (omega arith) (All-tail (λ k. k ≤ most) n ns all)

-- what is kept of a list
All-filter_map : {X Y : Type 0} (P : Y → Type 0) (f : X → Option Y) (xs : List X) → All (λ x. IfSome (f x) P) xs
    → All P (filter_map f xs)
All-filter_map P f [] all = All-nil P
All-filter_map {X} {Y} P f (x ∷ xs) all =
    by (f x) (All-head (λ y. IfSome (f y) P) x xs all) (All-filter_map P f xs (All-tail (λ y. IfSome (f y) P) x xs all))
  where
    by : (o : Option Y) → IfSome o P → All P (filter_map f xs) → All P (cons_option o (filter_map f xs))
    by None h rest = rest
    by (Some y) h rest = All-cons P y (filter_map f xs) h rest

-- at an event
module _ (ms : List Meet) (few : length ms ≤ DURATION) (short : All (λ m. m.duration ≤ NUMBER) ms) (e : ℕ) where
  abbrev own : List Meet
  own = meets_of e ms

  own-few : length own ≤ DURATION
  own-few = omega (
    arith,
    length-filter (λ (m : Meet). m.event.0 == e) ms,
    count_by-le-length
        (λ (m : Meet). m.event.0 == e) ms,
  )

  durations-small : (test : Meet → Bool) → sum_by (λ m. cond (test m) m.duration 0) own ≤ GREATEST_DEVIATION
  durations-small test =
      let each : All (λ m. cond (test m) m.duration 0 ≤ NUMBER) ms =
      λ k d l. le_trans (part (test (get_or ms k d)) ((get_or ms k d).duration)) (short k d l) in
      let total = part_sum (λ (m : Meet). cond (test m) m.duration 0) NUMBER DURATION (λ (m : Meet). m.event.0 == e) ms
      few each in
      omega arith

  split-small : (a b c d : ℕ) → c ≤ NUMBER → event_deviation ms (SplitEvents a b c d) e ≤ GREATEST_DEVIATION
  split-small a b c d low =
      let unfit = count_by-le-length (λ (m : Meet). is_unfit a b m.duration) own in
      let many : sum_by (λ m. 1) own ≤ length own * 1 = sum_by-le (λ m. 1) 1 own (λ k d l. omega arith) in
      let out = count_outside_small (sum_by (λ m. 1) own) c d in
      omega (arith, own-few)

  distribute-small : (duration least greatest : ℕ) → least ≤ NUMBER
      → event_deviation ms (DistributeSplitEvents duration least greatest) e ≤ GREATEST_DEVIATION
  distribute-small duration least greatest low =
      let fit = count_by-le-length (λ (m : Meet). m.duration == duration) own in
      let out = count_outside_small (count_by (λ (m : Meet). m.duration == duration) own) least greatest in
      omega (arith, own-few)

  pub event-small : (p : Parts) (rule : Rule) → IsRule p rule → event_deviation ms rule e ≤ GREATEST_DEVIATION
  event-small p AssignTime h = durations-small (λ m. is_none m.start)
  event-small p (SplitEvents a b c d) h = split-small a b c d h.1.0
  event-small p (DistributeSplitEvents duration least greatest) h = distribute-small duration least greatest h.1.0
  event-small p (PreferTimes times duration) h =
      durations-small (λ m. starts_outside times m.start && allows duration m.duration)
  event-small p _ h = omega arith

-- at a place
module _ (ds : List Duty) (few : length ds ≤ TASKS) (short : All (λ d. d.meet.duration ≤ NUMBER) ds) (e place : ℕ) where
  filled-small : (test : Duty → Bool) → sum_by (λ d. cond (test d) d.meet.duration 0)
      (duties_at e place ds) ≤ GREATEST_DEVIATION
  filled-small test =
      let each : All (λ d. cond (test d) d.meet.duration 0 ≤ NUMBER) ds =
      λ k d l. le_trans (part (test (get_or ds k d)) ((get_or ds k d).meet.duration)) (short k d l) in
      let total = part_sum (λ (d : Duty). cond (test d) d.meet.duration 0) NUMBER TASKS
      (λ (d : Duty). (d.meet.event.0 == e) && (d.place == place)) ds few each in
      omega arith

  pub place-small : (rule : Rule) → place_deviation ds rule e place ≤ GREATEST_DEVIATION
  place-small (AssignResource role) = filled-small (λ d. is_none d.resource)
  place-small (PreferResources resources role) = filled-small (λ d. given_outside resources d.resource)
  place-small _ = omega arith

-- at an event group
module _ (p : Parts) (limits : AreWithinLimits p) (ms : List Meet) (ds : List Duty) (few : length ms ≤ DURATION) where
  split_resources-small : (test : ℕ → Bool) → count_by test
      (range_with_len 0 (length p.resources)) - 1 ≤ GREATEST_DEVIATION
  split_resources-small test =
      let limit = limits.resources in
      omega (arith, counted test (length p.resources))

  unlinked-small : (test : ℕ → Bool) → count_by test (range_with_len 0 (length p.times)) ≤ GREATEST_DEVIATION
  unlinked-small test =
      let limit = limits.times in
      omega (arith, counted test (length p.times))

  spread-small : (group : List Bool) (spreads : List Spread) → IsRule p (SpreadEvents spreads)
      → group_deviation p ms ds (SpreadEvents spreads) group ≤ GREATEST_DEVIATION
  spread-small group spreads (each, listed) =
      let starting : Spread → ℕ = λ s. count_by (λ m. has_member group m.event.0 && starts_in s.group m.start) ms in
      let small : All (λ s. count_outside (starting s) s.min s.max ≤ DURATION + NUMBER) spreads =
      λ k d l. (let s = get_or spreads k d in
      let low : s.min ≤ NUMBER = (each k d l).1.0 in
      omega (
        arith,
        count_outside_small (starting s) s.min s.max,
        count_by-le-length
            (λ (m : Meet). has_member group m.event.0 && starts_in s.group m.start) ms,
      ))
      in
      let total = sum_by-le (λ s. count_outside (starting s) s.min s.max) (DURATION + NUMBER) spreads small in
      omega arith

  pub group-small : (group : List Bool) (rule : Rule) → IsRule p rule
      → group_deviation p ms ds rule group ≤ GREATEST_DEVIATION
  group-small group (AvoidSplitAssignments role) h =
      split_resources-small
      (λ r. list_any (λ (d : Duty). is_resource r d.resource)
      (filter (λ (d : Duty). has_member group d.meet.event.0 && is_role role
      (role_at p.events d.meet.event.0 d.place)) ds))
  group-small group (SpreadEvents spreads) h = spread-small group spreads h
  group-small group LinkEvents h = unlinked-small (λ t. runs_apart (event_runs ms t) group)
  group-small group _ h = omega arith

-- at a pair of events
module _ (p : Parts) (limits : AreWithinLimits p) (ms : List Meet)
    (within : All (λ m. IfSome m.start (λ s. s.0 + m.duration ≤ length p.times)) ms) where
  start_small : (m : Meet) → IfSome m.start (λ s. s.0 + m.duration ≤ length p.times)
      → IfSome (option_map (λ s. s.0) m.start) (λ n. n ≤ TIMES)
  start_small m h = by m.start h
    where
      by : (o : Option TimeId) → IfSome o (λ s. s.0 + m.duration ≤ length p.times)
          → IfSome (option_map (λ s. s.0) o) (λ n. n ≤ TIMES)
      by None h = tt
      by (Some s) h = let limit = limits.times in omega arith

  end_small : (m : Meet) → IfSome m.start (λ s. s.0 + m.duration ≤ length p.times)
      → IfSome (option_map (λ s. s.0 + m.duration) m.start) (λ n. n ≤ TIMES)
  end_small m h = by m.start h
    where
      by : (o : Option TimeId) → IfSome o (λ s. s.0 + m.duration ≤ length p.times)
          → IfSome (option_map (λ s. s.0 + m.duration) o) (λ n. n ≤ TIMES)
      by None h = tt
      by (Some s) h = let limit = limits.times in omega arith

  starts-small : (e : ℕ) → All (λ n. n ≤ TIMES) (starts_of ms e)
  starts-small e =
      All-filter_map (λ n. n ≤ TIMES) (λ (m : Meet). option_map (λ s. s.0) m.start) (meets_of e ms)
      (All-filter (λ (m : Meet). m.event.0 == e) (λ m. IfSome (option_map (λ s. s.0) m.start) (λ n. n ≤ TIMES)) ms
      (λ k d l. start_small (get_or ms k d) (within k d l)))

  ends-small : (e : ℕ) → All (λ n. n ≤ TIMES) (ends_of ms e)
  ends-small e =
      All-filter_map (λ n. n ≤ TIMES) (λ (m : Meet). option_map (λ s. s.0 + m.duration) m.start) (meets_of e ms)
      (All-filter (λ (m : Meet). m.event.0 == e) (λ m. IfSome (option_map (λ s. s.0 + m.duration) m.start)
      (λ n. n ≤ TIMES)) ms (λ k d l. end_small (get_or ms k d) (within k d l)))

  gap-small : (ends starts : List ℕ) (least greatest : ℕ) → All (λ n. n ≤ TIMES) ends → All (λ n. n ≤ TIMES) starts
      → least ≤ NUMBER → order_of ends starts least greatest ≤ GREATEST_DEVIATION
  gap-small [] starts least greatest he hs low = omega arith
  gap-small (f ∷ ends) [] least greatest he hs low = omega arith
  gap-small (f ∷ ends) (s ∷ starts) least greatest he hs low =
      let end : fold max f ends ≤ TIMES = greatest_small TIMES f ends (All-head (λ n. n ≤ TIMES) f ends he)
      (All-tail (λ n. n ≤ TIMES) f ends he) in
      let start : s ≤ TIMES = All-head (λ n. n ≤ TIMES) s starts hs in
      omega (arith, difference_small (fold min s starts) (fold max f ends) least greatest, least_small s starts)

  pub pair-small : (k : ℕ) (rule : Rule) → IsRule p rule → pair_deviation ms rule k ≤ GREATEST_DEVIATION
  pair-small k (OrderEvents pairs) h = elim (slice_get_cases pairs k).1 [
    | inl found ↦
        let q : EventPair = found.0 in
        let low : q.min ≤ NUMBER = subst (λ (x : EventPair). x.min ≤ NUMBER) found.3 ((h k q found.1).2.0) in
        subst (λ (o : Option EventPair). option_map_or (λ x. order_events ms x.first.0 x.second.0 x.min x.max) o
        0 ≤ GREATEST_DEVIATION) (sym found.2)
        (gap-small (ends_of ms q.first.0) (starts_of ms q.second.0) q.min q.max (ends-small q.first.0)
        (starts-small q.second.0) low)
    | inr past ↦ subst (λ (o : Option EventPair). option_map_or (λ x. order_events ms x.first.0 x.second.0 x.min x.max)
        o 0 ≤ GREATEST_DEVIATION) (sym past.1) (omega arith)
  ]
  pair-small k _ h = omega arith
