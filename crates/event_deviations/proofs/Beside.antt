-- Meets in the order of their numbers, with their tasks beside them.
use Rattle.std.proofs.Common.{◌≡◌, ◌∙◌, sym, ap, ap₂, subst, refl, ℕ, suc, ◌+◌, ◌*◌, ◌<◌, ◌≤◌, ◌==◌, Bool, true, false}
use Rattle.std.proofs.Common.{cond, ◌&&◌, ◌||◌, nat_lt, Some, List, [], ◌∷◌, ◌++◌, map, length, get_or, take, drop}
use Rattle.std.proofs.Common.{arith, All, AllPairs, filter, flat_map, sum_by, count_by, slice_get, append_assoc}
use Rattle.std.specs.Option.{option_map_or}
use Rattle.khe_instance.specs.declared.parts.EventInfo.{EventInfo}
use Rattle.std.specs.List.{list_any, list_all, range_with_len}
use Rattle.std.proofs.lemmas.Bool.{and_parts, eq-eqb, lt-ltb}
use Rattle.std.proofs.lemmas.Bool.Decides.{nat_tests}
use Rattle.std.proofs.lemmas.List.{length-map, get_or-map, length-append, take_at, drop_at, take-map, drop-map}
use Rattle.std.proofs.lemmas.List.{take-append-drop, append-nil}
use Rattle.std.proofs.Math.Nat.{mul-le-mul_right}
use Rattle.std.proofs.lemmas.List.Elements.{All-append, All-map, All-nil, filter-append}
use Rattle.std.proofs.lemmas.List.Folds.{list_any-append, list_all-map, fold-map}
use Rattle.std.proofs.lemmas.List.FromFn.{length-range_with_len, get_or-range_with_len}
use Rattle.std.proofs.lemmas.List.Kept.{AllPairs-from_increasing}
use Rattle.std.proofs.lemmas.List.Sums.{sum_by-cons, sum_by-append, list_all-from_AllPass}
use Rattle.khe_base.specs.declared.numbers.TaskId.{TaskId}
use Rattle.khe_instance.specs.EventDeviation.{duties_at}
use Rattle.khe_instance.specs.Lookups.{places_at}
use Rattle.khe_instance.specs.Running.{duties, meets_of}
use Rattle.khe_instance.specs.States.{IsTold, tasks_of}
use Rattle.khe_instance.specs.declared.parts.Parts.{Parts}
use Rattle.khe_instance.specs.declared.states.Duty.{Duty}
use Rattle.khe_instance.specs.declared.states.Meet.{Meet}
use Rattle.khe_instance.specs.declared.states.Task.{Task}
use Rattle.event_deviations.proofs.Kit.{filter_none, filter_every, any_false, all_true, count_one, All-from_map}

-- each meet has a lower number than all later ones
abbrev pub Rising : List Meet → Type 0
Rising [] = Unit {0}
Rising (m ∷ ms) = (list_all (λ x. nat_lt m.meet.0 x.meet.0) ms ≡ true) × Rising ms

pub record Beside (p : Parts) (ms : List Meet) (ts : List Task) : Type 0 where
  pub rising : Rising ms
  pub tasks : map (λ t. t.task) ts ≡ flat_map (tasks_of p) ms

Rising-from_pairs : (ms : List Meet) → AllPairs (λ x y. x < y) (map (λ m. m.meet.0) ms) → Rising ms
Rising-from_pairs [] h = tt
Rising-from_pairs (m ∷ ms) h = (
  list_all-from_AllPass (λ x. nat_lt m.meet.0 x.meet.0) ms
      (λ k d l. lt-ltb m.meet.0 (get_or ms k d).meet.0 (first k d l)),
  Rising-from_pairs ms (λ i j d l b. h (suc i) (suc j) d (omega arith) (omega arith)),
)
  where
    first : (k : ℕ) (d : Meet) → k < length ms → m.meet.0 < (get_or ms k d).meet.0
    first k d l =
        let long : length (map (λ x. x.meet.0) ms) ≡ length ms = length-map ms (λ x. x.meet.0) in
        subst (λ n. m.meet.0 < n) (get_or-map (λ x. x.meet.0) ms k d d.meet.0 l)
        (h 0 (suc k) d.meet.0 (omega arith) (omega arith))

pub Beside-from_told : (p : Parts) (ms : List Meet) (ts : List Task) → IsTold p ms ts → Beside p ms ts
Beside-from_told p ms ts told = record {
  rising = Rising-from_pairs ms (AllPairs-from_increasing _ told.ascending);
  tasks = told.tasks;
}

list_any-map : {X Y : Type 0} (p : Y → Bool) (h : X → Y) (xs : List X)
    → list_any p (map h xs) ≡ list_any (λ x. p (h x)) xs
list_any-map p h [] = refl
list_any-map p h (x ∷ xs) = ap (λ r. p (h x) || r) (list_any-map p h xs)

-- the tasks of a meet with its tasks
abbrev pub duty_of : Meet → Task → Duty
duty_of m t = record { meet = m; place = t.task.place; resource = t.resource }

abbrev pub is_of : ℕ → Task → Bool
is_of n t = t.task.meet.0 == n

module _ (p : Parts) where
  length-tasks_of : (m : Meet) → length (tasks_of p m) ≡ places_at p.events m.event.0
  length-tasks_of m = length-map (range_with_len 0 (places_at p.events m.event.0))
      (λ k. record { meet = m.meet; place = k }) ∙ length-range_with_len 0 (places_at p.events m.event.0)

  own_tasks : (n : ℕ) (m : Meet) → (m.meet.0 == n) ≡ false → list_any (λ x. x.meet.0 == n) (tasks_of p m) ≡ false
  own_tasks n m e =
      list_any-map (λ x. x.meet.0 == n) (λ k. record { meet = m.meet; place = k })
      (range_with_len 0 (places_at p.events m.event.0))
      ∙ any_false (m.meet.0 == n) (range_with_len 0 (places_at p.events m.event.0)) e

  later_tasks : (n : ℕ) (ms : List Meet) → list_all (λ x. nat_lt n x.meet.0) ms ≡ true
      → list_any (λ x. x.meet.0 == n) (flat_map (tasks_of p) ms) ≡ false
  later_tasks n [] e = refl
  later_tasks n (m ∷ ms) e =
      let b = and_parts (nat_lt n m.meet.0) (list_all (λ x. nat_lt n x.meet.0) ms) e in
      let other : (m.meet.0 == n) ≡ false = let f = b.0 in grind (arith, nat_tests) in
      list_any-append (λ x. x.meet.0 == n) (tasks_of p m) (flat_map (tasks_of p) ms)
      ∙ ap₂ (λ x y. x || y) (own_tasks n m other) (later_tasks n ms b.1)

  module _ (m : Meet) (ms : List Meet) (ts : List Task) (is : Beside p (m ∷ ms) ts) where
    abbrev n : ℕ
    n = places_at p.events m.event.0

    long : length (tasks_of p m) ≡ n
    long = length-tasks_of m

    pub enough : places_at p.events m.event.0 ≤ length ts
    enough =
        let e : length ts ≡ length (tasks_of p m) + length (flat_map (tasks_of p) ms) =
        sym (length-map ts (λ t. t.task)) ∙ ap length is.tasks
        ∙ length-append (tasks_of p m) (flat_map (tasks_of p) ms) in
        omega (arith, long)

    own : map (λ t. t.task) (take n ts) ≡ tasks_of p m
    own = sym (take-map (λ t. t.task) n ts) ∙ ap (take n) is.tasks
        ∙ take_at (tasks_of p m) (flat_map (tasks_of p) ms) n long

    later : map (λ t. t.task) (drop n ts) ≡ flat_map (tasks_of p) ms
    later = sym (drop-map (λ t. t.task) n ts) ∙ ap (drop n) is.tasks
        ∙ drop_at (tasks_of p m) (flat_map (tasks_of p) ms) n long

    pub Beside-more : Beside p ms (drop (places_at p.events m.event.0) ts)
    Beside-more = record { rising = is.rising.1; tasks = later }

    parts_of : (k : ℕ) → filter (is_of k) ts ≡ filter (is_of k) (take n ts) ++ filter (is_of k) (drop n ts)
    parts_of k = ap (filter (is_of k)) (sym (take-append-drop n ts)) ∙ filter-append (is_of k) (take n ts) (drop n ts)

    own_kept : filter (is_of m.meet.0) (take n ts) ≡ take n ts
    own_kept =
        filter_every (is_of m.meet.0) (take n ts)
        (sym (list_all-map (λ x. x.meet.0 == m.meet.0) (λ t. t.task) (take n ts))
        ∙ ap (list_all (λ x. x.meet.0 == m.meet.0)) own
        ∙ list_all-map (λ x. x.meet.0 == m.meet.0) (λ k. record { meet = m.meet; place = k }) (range_with_len 0 n)
        ∙ all_true (m.meet.0 == m.meet.0) (range_with_len 0 n) (eq-eqb m.meet.0 m.meet.0 refl))

    later_left : filter (is_of m.meet.0) (drop n ts) ≡ []
    later_left =
        filter_none (is_of m.meet.0) (drop n ts)
        (sym (list_any-map (λ x. x.meet.0 == m.meet.0) (λ t. t.task) (drop n ts))
        ∙ ap (list_any (λ x. x.meet.0 == m.meet.0)) later ∙ later_tasks m.meet.0 ms is.rising.0)

    first : filter (is_of m.meet.0) ts ≡ take n ts
    first = parts_of m.meet.0 ∙ ap₂ (λ x y. x ++ y) own_kept later_left ∙ append-nil (take n ts)

    others : (x : Meet) → nat_lt m.meet.0 x.meet.0 ≡ true
        → filter (is_of x.meet.0) ts ≡ filter (is_of x.meet.0) (drop n ts)
    others x e =
        let apart : (m.meet.0 == x.meet.0) ≡ false = grind (arith, nat_tests) in
        parts_of x.meet.0
        ∙ ap (λ l. l ++ filter (is_of x.meet.0) (drop n ts))
        (filter_none (is_of x.meet.0) (take n ts)
        (sym (list_any-map (λ y. y.meet.0 == x.meet.0) (λ t. t.task) (take n ts))
        ∙ ap (list_any (λ y. y.meet.0 == x.meet.0)) own ∙ own_tasks x.meet.0 m apart))

    rest : (xs : List Meet) → list_all (λ x. nat_lt m.meet.0 x.meet.0) xs ≡ true → duties xs ts ≡ duties xs (drop n ts)
    rest [] e = refl
    rest (x ∷ xs) e =
        let b = and_parts (nat_lt m.meet.0 x.meet.0) (list_all (λ y. nat_lt m.meet.0 y.meet.0) xs) e in
        ap₂ (λ a b. map (duty_of x) a ++ b) (others x b.0) (rest xs b.1)

    -- the duties of the first meet stand first, and those of the later ones after them
    pub duties-more : duties (m ∷ ms) ts ≡ map (duty_of m) (take (places_at p.events m.event.0) ts)
        ++ duties ms (drop (places_at p.events m.event.0) ts)
    duties-more = ap₂ (λ a b. map (duty_of m) a ++ b) first (rest ms is.rising.0)

    -- the places of the first meet's duties
    own_places : All (λ d. d.place < places_at p.events d.meet.event.0) (map (duty_of m) (take n ts))
    own_places =
        All-map (λ d. d.place < places_at p.events d.meet.event.0) (duty_of m) (take n ts)
        (All-from_map (λ x. x.place < n) (λ t. t.task) (take n ts)
        (subst (All (λ x. x.place < n)) (sym own)
        (All-map (λ x. x.place < n) (λ k. record { meet = m.meet; place = k }) (range_with_len 0 n)
        (λ k d l.
        let below : k < n = subst (λ j. k < j) (length-range_with_len 0 n) l in
        subst (λ j. j < n) (sym (get_or-range_with_len 0 n k d below ∙ (let z : 0 + k ≡ k = omega arith in z)))
        below))))

    -- how many of them are at a place
    one_place : (k : ℕ) → count_by (λ t. t.task.place == k) (take n ts) ≤ 1
    one_place k =
        let e : count_by (λ t. t.task.place == k) (take n ts) ≡ count_by (λ j. j == k) (range_with_len 0 n) =
        sym (fold-map (λ (c : ℕ) (x : TaskId). c + cond (x.place == k) 1 0) (λ t. t.task) 0 (take n ts))
        ∙ ap (count_by (λ (x : TaskId). x.place == k)) own
        ∙ fold-map (λ (c : ℕ) (x : TaskId). c + cond (x.place == k) 1 0) (λ j. record { meet = m.meet; place = j }) 0
        (range_with_len 0 n) in
        omega (arith, e, count_one k n)

-- durations of one meet, once for each of some of its duties
same_durations : (m : Meet) (q : Duty → Bool) (ts : List Task)
    → sum_by (λ d. d.meet.duration) (filter q (map (duty_of m) ts)) ≡ count_by (λ t. q (duty_of m t)) ts * m.duration
same_durations m q [] = let z : 0 ≡ 0 * m.duration = omega arith in z
same_durations m q (t ∷ ts) =
    by (q (duty_of m t)) (same_durations m q ts) ∙ ap (λ c. c * m.duration)
    (sym (sum_by-cons (λ t. cond (q (duty_of m t)) 1 0) t ts))
  where
    by : (b : Bool) → sum_by (λ d. d.meet.duration) (filter q (map (duty_of m) ts))
        ≡ count_by (λ t. q (duty_of m t)) ts * m.duration
        → sum_by (λ d. d.meet.duration) (cond b (duty_of m t ∷ filter q (map (duty_of m) ts))
        (filter q (map (duty_of m) ts)))
        ≡ (cond b 1 0 + count_by (λ t. q (duty_of m t)) ts) * m.duration
    by true rest =
        let e : sum_by (λ d. d.meet.duration) (duty_of m t ∷ filter q (map (duty_of m) ts))
        ≡ m.duration + sum_by (λ d. d.meet.duration) (filter q (map (duty_of m) ts)) =
        sum_by-cons (λ d. d.meet.duration) (duty_of m t) (filter q (map (duty_of m) ts)) in
        omega arith
    by false rest = omega arith

module _ (p : Parts) where
  -- each duty fills a place of its event
  pub duties_within : (ms : List Meet) (ts : List Task) → Beside p ms ts
      → All (λ d. d.place < places_at p.events d.meet.event.0) (duties ms ts)
  duties_within [] ts is = All-nil (λ d. d.place < places_at p.events d.meet.event.0)
  duties_within (m ∷ ms) ts is =
      subst (All (λ d. d.place < places_at p.events d.meet.event.0)) (sym (duties-more p m ms ts is))
      (All-append (λ d. d.place < places_at p.events d.meet.event.0)
      (map (duty_of m) (take (places_at p.events m.event.0) ts))
      (duties ms (drop (places_at p.events m.event.0) ts))
      (own_places p m ms ts is) (duties_within ms (drop (places_at p.events m.event.0) ts) (Beside-more p m ms ts is)))

  -- a place of an event has one duty for each of its meets
  pub place_durations : (e k : ℕ) (ms : List Meet) (ts : List Task) → Beside p ms ts
      → sum_by (λ d. d.meet.duration) (duties_at e k (duties ms ts)) ≤ sum_by (λ m. m.duration) (meets_of e ms)
  place_durations e k [] ts is = omega arith
  place_durations e k (m ∷ ms) ts is =
      let n = places_at p.events m.event.0 in
      let q = λ (d : Duty). (d.meet.event.0 == e) && (d.place == k) in
      let own = map (duty_of m) (take n ts) in
      let later = duties ms (drop n ts) in
      let split : sum_by (λ d. d.meet.duration) (duties_at e k (duties (m ∷ ms) ts))
      ≡ sum_by (λ d. d.meet.duration) (filter q own) + sum_by (λ d. d.meet.duration) (filter q later) =
      ap (λ ds. sum_by (λ d. d.meet.duration) (filter q ds)) (duties-more p m ms ts is)
      ∙ ap (sum_by (λ d. d.meet.duration)) (filter-append q own later)
      ∙ sum_by-append (λ d. d.meet.duration) (filter q own) (filter q later) in
      let here = same_durations m q (take n ts) in
      let rest = place_durations e k ms (drop n ts) (Beside-more p m ms ts is) in
      by (m.event.0 == e) (subst (λ x. x ≤ sum_by (λ d. d.meet.duration) (filter q own) + sum_by (λ m. m.duration)
      (meets_of e ms)) (sym split) (omega arith)) here
    where
      by : (b : Bool)
          → sum_by (λ d. d.meet.duration) (duties_at e k (duties (m ∷ ms) ts)) ≤ sum_by (λ d. d.meet.duration)
          (filter (λ (d : Duty). (d.meet.event.0 == e) && (d.place == k))
          (map (duty_of m) (take (places_at p.events m.event.0) ts))) + sum_by (λ m. m.duration) (meets_of e ms)
          → sum_by (λ d. d.meet.duration) (filter (λ (d : Duty). (d.meet.event.0 == e) && (d.place == k))
          (map (duty_of m) (take (places_at p.events m.event.0) ts)))
          ≡ count_by (λ t. b && (t.task.place == k)) (take (places_at p.events m.event.0) ts) * m.duration
          → sum_by (λ d. d.meet.duration) (duties_at e k (duties (m ∷ ms) ts)) ≤ sum_by (λ m. m.duration)
          (cond b (m ∷ meets_of e ms) (meets_of e ms))
      by true le here =
          let one = one_place p m ms ts is k in
          let times : count_by (λ t. t.task.place == k)
          (take (places_at p.events m.event.0) ts) * m.duration ≤ 1 * m.duration =
          mul-le-mul_right m.duration one in
          let sum : sum_by (λ m. m.duration) (m ∷ meets_of e ms)
          ≡ m.duration + sum_by (λ m. m.duration) (meets_of e ms) =
          sum_by-cons (λ m. m.duration) m (meets_of e ms) in
          omega arith
      by false le here =
          let z : count_by (λ (t : Task). false) (take (places_at p.events m.event.0) ts) ≡ 0 =
          none_counted (take (places_at p.events m.event.0) ts) in
          let y : count_by (λ (t : Task). false) (take (places_at p.events m.event.0) ts) * m.duration ≡ 0 =
          ap (λ c. c * m.duration) z ∙ (let w : 0 * m.duration ≡ 0 = omega arith in w) in
          omega arith
        where
          none_counted : (ts : List Task) → count_by (λ (t : Task). false) ts ≡ 0
          none_counted [] = refl
          none_counted (t ∷ ts) = sum_by-cons (λ (t : Task). cond false 1 0) t ts
              ∙ (let z : 0 + count_by (λ (t : Task). false) ts ≡ count_by (λ (t : Task). false) ts = omega arith in z)
              ∙ none_counted ts

-- how many places an event has that is there
pub places_there : (events : List EventInfo) (e n : ℕ) (event : EventInfo) → slice_get events e ≡ Some event
    → n ≡ length event.places → places_at events e ≡ n
places_there events e n event there is = ap (λ o. option_map_or (λ event. length event.places) o 0) there ∙ sym is

module _ (p : Parts) (xs : List Meet) (i : ℕ) (m : Meet) (ts : List Task) (here : drop i xs ≡ m ∷ drop (i + 1) xs)
    (is : Beside p (drop i xs) ts) where
  abbrev goes_on : Beside p (m ∷ drop (i + 1) xs) ts
  goes_on = subst (λ l. Beside p l ts) here is

  -- one step over meets and tasks side by side
  pub enough-step : (n : ℕ) → places_at p.events m.event.0 ≡ n → n ≤ length ts
  enough-step n e = subst (λ k. k ≤ length ts) e (enough p m (drop (i + 1) xs) ts goes_on)

  pub Beside-step : (n : ℕ) → places_at p.events m.event.0 ≡ n → Beside p (drop (i + 1) xs) (drop n ts)
  Beside-step n e = subst (λ k. Beside p (drop (i + 1) xs) (drop k ts)) e (Beside-more p m (drop (i + 1) xs) ts goes_on)

  pub duties-step : (n : ℕ) → places_at p.events m.event.0 ≡ n → (made whole : List Duty)
      → made ++ duties (drop i xs) ts ≡ whole
      → (made ++ map (duty_of m) (take n ts)) ++ duties (drop (i + 1) xs) (drop n ts) ≡ whole
  duties-step n e made whole h =
      append_assoc made (map (duty_of m) (take n ts)) (duties (drop (i + 1) xs) (drop n ts))
      ∙ ap (λ l. made ++ l)
      (sym (subst (λ k. duties (m ∷ drop (i + 1) xs) ts ≡ map (duty_of m) (take k ts)
      ++ duties (drop (i + 1) xs) (drop k ts)) e (duties-more p m (drop (i + 1) xs) ts goes_on))
      ∙ ap (λ l. duties l ts) (sym here))
      ∙ h
