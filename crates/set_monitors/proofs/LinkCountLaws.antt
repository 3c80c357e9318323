-- How many events run at each time, and at how many times some but not all do, with one count changed.
use Rattle.std.proofs.Common.{ℕ, ◌≡◌, ◌≤◌, ◌<◌, ◌+◌, ◌-◌, ◌∙◌, zero, suc, Bool, true, false, List, [], ◌∷◌, get_or, set}
use Rattle.std.proofs.Common.{length, zero-add, refl, sym, ap, ap₂, subst, arith, count_by, ◌⊎◌, inl, inr, slice_index}
use Rattle.std.proofs.Common.{get_or-set_same, replicate}
use Rattle.std.specs.Prelude.{nat_lt}
use Rattle.std.specs.List.{range_with_len}
use Rattle.std.proofs.lemmas.Bool.{cases_eq, lt-ltb}
use Rattle.std.proofs.lemmas.List.{get_or-set_other, length-set, get_or-replicate, length-replicate}
use Rattle.std.proofs.lemmas.List.FromFn.{length-range_with_len, get_or-range_with_len}
use Rattle.std.proofs.lemmas.List.Sums.{sum_by-cons, sum_by-set, get_or-le-sum_by, count_by-le-length}
use Rattle.std.proofs.lemmas.Option.{get_or_from_slice_get, slice_get-get_or}
use Rattle.khe_base.specs.declared.limits.TheConstants.{TIMES}
use Rattle.timetables.specs.Counts.{row_of, count_at, with_count, is_busy, no_counts}
use Rattle.set_monitors.specs.LinkCounts.{AreLinked, apart_times, is_apart, one_if, running_at}

-- how many numbers of a range pass two tests that differ at one number
module _ (p q : ℕ → Bool) (t : ℕ) (same : (u : ℕ) → (u ≡ t → ⊥) → p u ≡ q u) where
  past : (a n : ℕ) → t < a → count_by q (range_with_len a n) ≡ count_by p (range_with_len a n)
  past a zero l = refl
  past a (suc n) l =
      let x = sum_by-cons (λ u. one_if (q u)) a (range_with_len (a + 1) n) in
      let y = sum_by-cons (λ u. one_if (p u)) a (range_with_len (a + 1) n) in
      let here = ap one_if (same a (λ e. absurd (omega (arith, e, l)))) in
      let rest = past (a + 1) n (omega (arith, l)) in
      omega (arith, x, y, here, rest)

  pub count_turned : (a n : ℕ) → a ≤ t → t < a + n
      → count_by q (range_with_len a n) + one_if (p t) ≡ count_by p (range_with_len a n) + one_if (q t)
  count_turned a zero l m = absurd (omega (arith, l, m))
  count_turned a (suc n) l m = by (cases_eq a t) (λ k. count_turned (a + 1) n k (omega (arith, m)))
    where
      x : count_by q (range_with_len a (suc n)) ≡ one_if (q a) + count_by q (range_with_len (a + 1) n)
      x = sum_by-cons (λ u. one_if (q u)) a (range_with_len (a + 1) n)

      y : count_by p (range_with_len a (suc n)) ≡ one_if (p a) + count_by p (range_with_len (a + 1) n)
      y = sum_by-cons (λ u. one_if (p u)) a (range_with_len (a + 1) n)

      by : (a ≡ t) ⊎ (a ≡ t → ⊥) → (a + 1 ≤ t → count_by q (range_with_len (a + 1) n) + one_if (p t)
          ≡ count_by p (range_with_len (a + 1) n) + one_if (q t))
          → count_by q (range_with_len a (suc n)) + one_if (p t) ≡ count_by p (range_with_len a (suc n)) + one_if (q t)
      by (inl e) r =
          let rest = past (a + 1) n (omega (arith, e)) in
          let b = ap (λ u. one_if (q u)) e in
          let d = ap (λ u. one_if (p u)) e in
          omega (arith, x, y, rest, b, d)
      by (inr apart) r =
          let rest = r (omega (arith, l, apart)) in
          let here = ap one_if (same a apart) in
          omega (arith, x, y, rest, here)

-- a number that passes is one of those
pub count_part : (p : ℕ → Bool) (t n : ℕ) → t < n → one_if (p t) ≤ count_by p (range_with_len 0 n)
count_part p t n l =
    let at : get_or (range_with_len 0 n) t 0 ≡ t = get_or-range_with_len 0 n t 0 l ∙ zero-add t in
    let long : t < length (range_with_len 0 n) = let k = length-range_with_len 0 n in omega (arith, k, l) in
    subst (λ u. one_if (p u) ≤ count_by p (range_with_len 0 n)) at
    (get_or-le-sum_by (λ u. one_if (p u)) (range_with_len 0 n) t 0 long)

-- at a time of which it counts for one it counts for one in all, and no time counts twice
pub apart_part : (rows : List (List ℕ)) (events : ℕ) (running : List ℕ) (apart t : ℕ)
    → AreLinked rows events running apart → t < length running
    → one_if (is_apart (slice_index running t) events) ≤ apart
apart_part rows events running apart t k l =
    let is : one_if (is_apart (slice_index running t) events) ≡ one_if (is_apart (running_at rows t) (length rows)) =
    λ i. one_if (is_apart (k.each t l i) (k.all i)) in
    let part = count_part (λ u. is_apart (running_at rows u) (length rows)) t (length running) l in
    let total = k.total in
    omega (arith, is, part, total)

pub apart_few : (rows : List (List ℕ)) (events : ℕ) (running : List ℕ) (apart : ℕ) → AreLinked rows events running apart
    → apart ≤ TIMES
apart_few rows events running apart k =
    let a = count_by-le-length (λ u. is_apart (running_at rows u) (length rows)) (range_with_len 0 (length running)) in
    let b = length-range_with_len 0 (length running) in
    let total = k.total in
    let few = k.few in
    omega (arith, a, b, total, few)

-- one count changed
module _ (rows : List (List ℕ)) (r t c : ℕ) (l : r < length rows) where
  abbrev row : List ℕ
  row = row_of rows r

  abbrev then : List (List ℕ)
  then = with_count rows r t c

  pub running_then : (u : ℕ) → running_at then u + one_if (is_busy row u)
      ≡ running_at rows u + one_if (is_busy (set row t c) u)
  running_then u = sum_by-set (λ x. one_if (is_busy x u)) rows r (set row t c) [] l

  busy_other : (u : ℕ) → (u ≡ t → ⊥) → is_busy (set row t c) u ≡ is_busy row u
  busy_other u n = ap (nat_lt 0) (get_or-set_other row t u c 0 n)

  pub busy_here : t < length row → is_busy (set row t c) t ≡ nat_lt 0 c
  busy_here m = ap (nat_lt 0) (get_or-set_same row t c 0 m)

  running_other : (u : ℕ) → (u ≡ t → ⊥) → running_at rows u ≡ running_at then u
  running_other u n = let a = running_then u in let b = ap one_if (busy_other u n) in omega (arith, a, b)

  long_then : (n : ℕ) → ((i : ℕ) → i < length rows → length (row_of rows i) ≡ n) → (i : ℕ) → i < length then
      → length (row_of then i) ≡ n
  long_then n long i m = by (cases_eq i r)
    where
      within : i < length rows
      within = let a = length-set rows r (set row t c) in omega (arith, a, m)

      by : (i ≡ r) ⊎ (i ≡ r → ⊥) → length (row_of then i) ≡ n
      by (inl e) = ap (λ k. length (row_of then k)) e ∙ ap length (get_or-set_same rows r (set row t c) [] l)
          ∙ length-set row t c ∙ long r l
      by (inr a) = ap length (get_or-set_other rows r i (set row t c) [] a) ∙ long i within

  -- where it is above 0 as before, nothing else changes
  pub linked_still : (events : ℕ) (running : List ℕ) (apart : ℕ) → AreLinked rows events running apart
      → t < length running → nat_lt 0 c ≡ is_busy row t → AreLinked then events running apart
  linked_still events running apart k m same = record {
    all = k.all ∙ sym (length-set rows r (set row t c));
    long = long_then (length running) k.long;
    each = λ u n. k.each u n ∙ alike u;
    total = k.total ∙ (λ j. count_by (λ u. is_apart (alike u j) (sym (length-set rows r (set row t c)) j))
        (range_with_len 0 (length running)));
    few = k.few;
  }
    where
      within : t < length row
      within = let a = k.long r l in omega (arith, a, m)

      alike : (u : ℕ) → running_at rows u ≡ running_at then u
      alike u = by (cases_eq u t)
        where
          by : (u ≡ t) ⊎ (u ≡ t → ⊥) → running_at rows u ≡ running_at then u
          by (inl e) =
              let a = running_then t in
              let b = ap one_if (busy_here within ∙ same) in
              let d : running_at rows t ≡ running_at then t = omega (arith, a, b) in
              ap (running_at rows) e ∙ d ∙ sym (ap (running_at then) e)
          by (inr n) = running_other u n

  -- else the event's time is counted anew
  pub linked_anew : (events : ℕ) (running : List ℕ) (apart now apart' : ℕ) → AreLinked rows events running apart
      → t < length running → now ≡ running_at then t
      → apart' ≡ apart - one_if (is_apart (slice_index running t) events) + one_if (is_apart now events)
      → AreLinked then events (set running t now) apart'
  linked_anew events running apart now apart' k m is are = record {
    all = all;
    long = λ i n. long_then (length running) k.long i n ∙ sym (length-set running t now);
    each = λ u n. by u n (cases_eq u t);
    total = total ∙ sym (ap (apart_times then) (length-set running t now));
    few = subst (λ n. n ≤ TIMES) (sym (length-set running t now)) k.few;
  }
    where
      all : events ≡ length then
      all = k.all ∙ sym (length-set rows r (set row t c))

      by : (u : ℕ) → u < length (set running t now) → (u ≡ t) ⊎ (u ≡ t → ⊥)
          → slice_index (set running t now) u ≡ running_at then u
      by u n (inl e) = ap (slice_index (set running t now)) e ∙ get_or-set_same running t now 0 m ∙ is
          ∙ sym (ap (running_at then) e)
      by u n (inr a) = get_or-set_other running t u now 0 a
          ∙ k.each u (let b = length-set running t now in omega (arith, b, n)) ∙ running_other u a

      total : apart' ≡ apart_times then (length running)
      total =
          let before : ℕ → Bool = λ u. is_apart (running_at rows u) (length rows) in
          let later : ℕ → Bool = λ u. is_apart (running_at then u) (length then) in
          let turned = count_turned before later t (λ u n. ap₂ is_apart (running_other u n)
          (sym (length-set rows r (set row t c)))) 0 (length running) (omega arith) (omega (arith, m)) in
          let old = ap₂ (λ x y. one_if (is_apart x y)) (k.each t m) k.all in
          let new = ap₂ (λ x y. one_if (is_apart x y)) is all in
          let part = apart_part rows events running apart t k m in
          let sum = k.total in
          omega (arith, turned, old, new, part, sum, are)

-- nothing runs yet
pub none_linked : (events times : ℕ) → times ≤ TIMES → AreLinked (no_counts events times) events (replicate times 0) 0
none_linked events times few = record {
  all = sym (length-replicate events (replicate times 0));
  long = λ i l. ap length (get_or-replicate events i (replicate times 0) []
      (let a = length-replicate events (replicate {A = ℕ} times 0) in omega (arith, a, l)))
      ∙ (length-replicate times 0 ∙ sym (length-replicate times 0));
  each = λ t l. get_or-replicate times t 0 0 (let a = length-replicate {A = ℕ} times 0 in omega (arith, a, l))
      ∙ sym (none events t);
  total = sym ((λ j. count_by (λ u. is_apart (none events u j) (length (no_counts events times)))
      (range_with_len 0 (length (replicate {A = ℕ} times 0))))
      ∙ zeros (range_with_len 0 (length (replicate {A = ℕ} times 0))));
  few = subst (λ n. n ≤ TIMES) (sym (length-replicate {A = ℕ} times 0)) few;
}
  where
    at : (n t : ℕ) → get_or (replicate {A = ℕ} n 0) t 0 ≡ 0
    at zero t = refl
    at (suc n) zero = refl
    at (suc n) (suc t) = at n t

    none : (n t : ℕ) → running_at (replicate n (replicate times 0)) t ≡ 0
    none zero t = refl
    none (suc n) t =
        let a = sum_by-cons (λ x. one_if (is_busy x t)) (replicate times 0) (replicate n (replicate times 0)) in
        let b = ap (λ x. one_if (nat_lt 0 x)) (at times t) in
        let d = none n t in
        omega (arith, a, b, d)

    zeros : (xs : List ℕ) → count_by (λ u. false) xs ≡ 0
    zeros [] = refl
    zeros (x ∷ xs) = let a = sum_by-cons {X = ℕ} (λ u. 0) x xs in let b = zeros xs in omega (arith, a, b)

-- what a count that rises or falls leaves of how many events run
pub is_above : (n : ℕ) → 0 < n → nat_lt 0 n ≡ true
is_above n l = lt-ltb 0 n l

module _ (rows : List (List ℕ)) (r t : ℕ) (l : r < length rows) (events : ℕ) (running : List ℕ) (apart : ℕ)
    (k : AreLinked rows events running apart) (m : t < length running) where
  abbrev count : ℕ
  count = count_at rows r t

  within : t < length (row_of rows r)
  within = let a = k.long r l in omega (arith, a, m)

  -- an event that does not run is not counted, so there is room for it
  pub room_for : is_busy (row_of rows r) t ≡ false → slice_index running t + 1 ≤ events
  room_for quiet =
      let a = running_then rows r t 1 l t in
      let b = ap one_if quiet in
      let d = ap one_if (busy_here rows r t 1 l within) in
      let e = count_by-le-length (λ x. is_busy x t) (with_count rows r t 1) in
      let f = length-set rows r (set (row_of rows r) t 1) in
      let each = k.each t m in
      let all = k.all in
      omega (arith, a, b, d, e, f, each, all)

  pub starts : is_busy (row_of rows r) t ≡ false
      → slice_index running t + 1 ≡ running_at (with_count rows r t (count + 1)) t
  starts quiet =
      let a = running_then rows r t (count + 1) l t in
      let b = ap one_if quiet in
      let d = ap one_if (busy_here rows r t (count + 1) l within ∙ is_above (count + 1) (omega arith)) in
      let each = k.each t m in
      omega (arith, a, b, d, each)

  pub ends : is_busy (row_of rows r) t ≡ true → is_busy (set (row_of rows r) t (count - 1)) t ≡ false
      → (1 ≤ slice_index running t) × (slice_index running t - 1 ≡ running_at (with_count rows r t (count - 1)) t)
  ends busy quiet =
      let a = running_then rows r t (count - 1) l t in
      let b = ap one_if busy in
      let d = ap one_if quiet in
      let each = k.each t m in
      (omega (arith, a, b, d, each), omega (arith, a, b, d, each))

  -- one that runs after as before changes nothing
  pub raised_still : is_busy (row_of rows r) t ≡ true → AreLinked (with_count rows r t (count + 1)) events running apart
  raised_still busy = linked_still rows r t (count + 1) l events running apart k m
      (is_above (count + 1) (omega arith) ∙ sym busy)

  pub lowered_still : 0 < count → is_busy (row_of (with_count rows r t (count - 1)) r) t ≡ true
      → AreLinked (with_count rows r t (count - 1)) events running apart
  lowered_still some busy =
      linked_still rows r t (count - 1) l events running apart k m
      (sym (busy_here rows r t (count - 1) l within)
      ∙ ap (λ x. is_busy x t) (sym (get_or-set_same rows r (set (row_of rows r) t (count - 1)) [] l)) ∙ busy
      ∙ sym (is_above count some))

  -- the rows after it
  pub row_then : (c : ℕ) → row_of (with_count rows r t c) r ≡ set (row_of rows r) t c
  row_then c = get_or-set_same rows r (set (row_of rows r) t c) [] l

-- what stands at a place, whatever stands for one beyond the last
pub there_is : (xs : List ℕ) (t d : ℕ) → t < length xs → get_or xs t d ≡ slice_index xs t
there_is xs t d l = sym (get_or_from_slice_get xs t (get_or xs t d) 0 (slice_get-get_or xs t d l))
