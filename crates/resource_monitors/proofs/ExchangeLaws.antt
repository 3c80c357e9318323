-- Places that are given something else, one after the other.
use Rattle.std.proofs.Common.{ℕ, ◌≡◌, ◌≤◌, ◌<◌, ◌+◌, ◌-◌, ◌∙◌, ◌⊎◌, inl, inr, zero, suc, Bool, true, false, cond}
use Rattle.std.proofs.Common.{Option}
use Rattle.std.proofs.Common.{Some, None, List, [], ◌∷◌, take, get_or, length, slice_get, refl, sym, ap, subst, arith}
use Rattle.std.proofs.Common.{zero-add}
use Rattle.std.proofs.lemmas.Bool.{cases_lt}
use Rattle.std.proofs.lemmas.List.{take_all}
use Rattle.std.proofs.lemmas.List.Sums.{count_by-le-length, sum_by-cons, sum_by-take-le, sum_by_more}
use Rattle.std.proofs.lemmas.Option.{same_Some, slice_get-get_or}
use Rattle.khe_base.specs.declared.limits.TheConstants.{GREATEST_COUNT}
use Rattle.khe_base.specs.declared.numbers.ResourceId.{ResourceId}
use Rattle.khe_instance.specs.Running.{is_resource}
use Rattle.khe_instance.specs.declared.parts.Parts.{Parts}
use Rattle.resource_monitors.specs.Cells.{given_to, in_run}
use Rattle.resource_monitors.specs.Runs.{AreAtEither, AreAtMoved, AreAtRun, AreExchanged, CanTurn, IsAtMoved, IsAtRun}
use Rattle.resource_monitors.specs.Runs.{Turned, cells_of}
use Rattle.resource_monitors.specs.declared.runs.Run.{Run}
use Rattle.resource_monitors.proofs.OverLaws.{passed_on}

-- one place more
given_more : (given : List (Option ResourceId)) (i q : ℕ) → i < length given
    → given_to q (take (i + 1) given) ≡ given_to q (take i given) + given_to q (get_or given i None ∷ [])
given_more given i q l = sum_by_more (λ (x : Option ResourceId). cond {A = ℕ} (is_resource q x) 1 0) given i None l
    ∙ ap (λ n. given_to q (take i given) + n) (sym (zero-add (cond {A = ℕ} (is_resource q (get_or given i None)) 1 0)))

given_few : (q : ℕ) (given : List (Option ResourceId)) (i : ℕ) → given_to q (take i given) ≤ i
given_few q [] zero = omega arith
given_few q [] (suc i) = omega arith
given_few q (o ∷ given) zero = omega arith
given_few q (o ∷ given) (suc i) =
    let a = sum_by-cons (λ (x : Option ResourceId). cond {A = ℕ} (is_resource q x) 1 0) o (take i given) in
    let b = one (is_resource q o) in
    let r = given_few q given i in
    omega (arith, a, b, r)
  where
    one : (b : Bool) → cond {A = ℕ} b 1 0 ≤ 1
    one true = omega arith
    one false = omega arith

given_rest : (q : ℕ) (given : List (Option ResourceId)) (i : ℕ)
    → given_to q given ≤ given_to q (take i given) + (length given - i)
given_rest q [] zero = omega arith
given_rest q [] (suc i) = omega arith
given_rest q (o ∷ given) zero = let l = count_by-le-length (is_resource q) (o ∷ given) in omega (arith, l)
given_rest q (o ∷ given) (suc i) =
    let a = sum_by-cons (λ (x : Option ResourceId). cond {A = ℕ} (is_resource q x) 1 0) o (take i given) in
    let b = sum_by-cons (λ (x : Option ResourceId). cond {A = ℕ} (is_resource q x) 1 0) o given in
    let r = given_rest q given i in
    omega (arith, a, b, r)

pub cells_more : (run : Option Run) (given : List (Option ResourceId)) (i q t : ℕ) → i < length given
    → cells_of run (take (i + 1) given) q t ≡ cells_of run (take i given) q t
    + cells_of run (get_or given i None ∷ []) q t
cells_more None given i q t l = refl
cells_more (Some run) given i q t l = by (in_run run.start run.end t) _ _ _ (given_more given i q l)
  where
    by : (b : Bool) (n m k : ℕ) → n ≡ m + k → cond b n 0 ≡ cond b m 0 + cond b k 0
    by true n m k e = e
    by false n m k e = refl

cells_few : (run : Option Run) (given : List (Option ResourceId)) (i q t : ℕ) → cells_of run (take i given) q t ≤ i
cells_few None given i q t = omega arith
cells_few (Some run) given i q t = by (in_run run.start run.end t) (given_to q (take i given)) (given_few q given i)
  where
    by : (b : Bool) (n : ℕ) → n ≤ i → cond b n 0 ≤ i
    by true n l = l
    by false n l = omega arith

cells_rest : (run : Option Run) (given : List (Option ResourceId)) (i q t : ℕ)
    → cells_of run given q t ≤ cells_of run (take i given) q t + (length given - i)
cells_rest None given i q t = omega arith
cells_rest (Some run) given i q t = by (in_run run.start run.end t) (given_to q given) (given_to q (take i given))
    (given_rest q given i)
  where
    by : (b : Bool) (n m : ℕ) → n ≤ m + (length given - i) → cond b n 0 ≤ cond b m 0 + (length given - i)
    by true n m l = l
    by false n m l = omega arith

cells_less : (run : Option Run) (given : List (Option ResourceId)) (i q t : ℕ)
    → cells_of run (take i given) q t ≤ cells_of run given q t
cells_less None given i q t = omega arith
cells_less (Some run) given i q t = by (in_run run.start run.end t) _ _
    (sum_by-take-le (λ (x : Option ResourceId). cond {A = ℕ} (is_resource q x) 1 0) given i)
  where
    by : (b : Bool) (n m : ℕ) → n ≤ m → cond b n 0 ≤ cond b m 0
    by true n m l = l
    by false n m l = omega arith

-- the resources of one place
pub room_then : (place : Option ResourceId) (run : Option Run) (before : Option ResourceId) (emptied : Option Run)
    (old mid : ℕ → ℕ → ℕ)
    → ((q t : ℕ) → old q t + cells_of run (place ∷ []) q t ≤ GREATEST_COUNT + cells_of emptied (before ∷ []) q t)
    → Turned false before emptied old mid → CanTurn true place run mid
room_then place run before emptied old mid room fell q t =
    let a = room q t in
    let b : old q t ≡ mid q t + cells_of emptied (before ∷ []) q t = fell q t in
    omega (arith, a, b)

pub exchanged_both : (before later : Option ResourceId) (emptied filled : Option Run) (old mid new : ℕ → ℕ → ℕ)
    → Turned false before emptied old mid → Turned true later filled mid new
    → AreExchanged emptied filled (before ∷ []) (later ∷ []) old new
exchanged_both before later emptied filled old mid new fell rose q t =
    let a : old q t ≡ mid q t + cells_of emptied (before ∷ []) q t = fell q t in
    let b : new q t ≡ mid q t + cells_of filled (later ∷ []) q t = rose q t in
    omega (arith, a, b)

pub at_either : (p : Parts) (before later : Option ResourceId) (emptied filled : Option Run)
    (old mid new : ℕ → Bool) → (before ≡ later → emptied ≡ filled → ⊥)
    → AreAtRun p before emptied old mid → AreAtRun p later filled mid new
    → AreAtEither p before later emptied filled old new
at_either p before later emptied filled old mid new moved first second i e = by (second i e)
  where
    earlier : (old i ≡ true) ⊎ IsAtRun p before emptied i → (old i ≡ true)
        ⊎ ((before ≡ later → emptied ≡ filled → ⊥) × (IsAtRun p before emptied i ⊎ IsAtRun p later filled i))
    earlier (inl w) = inl w
    earlier (inr w) = inr (moved, inl w)

    by : (mid i ≡ true) ⊎ IsAtRun p later filled i → (old i ≡ true)
        ⊎ ((before ≡ later → emptied ≡ filled → ⊥) × (IsAtRun p before emptied i ⊎ IsAtRun p later filled i))
    by (inl w) = earlier (first i w)
    by (inr w) = inr (moved, inr w)

-- a place that is passed over
pub passed_over : (emptied filled : Option Run) (o n : Option ResourceId) (f : ℕ → ℕ → ℕ) → emptied ≡ filled → o ≡ n
    → AreExchanged emptied filled (o ∷ []) (n ∷ []) f f
passed_over emptied filled o n f e s q t = λ i. f q t + cells_of (e i) (s i ∷ []) q t

-- no place
pub cells_none : (run : Option Run) (q t : ℕ) → cells_of run [] q t ≡ 0
cells_none None q t = refl
cells_none (Some run) q t = by (in_run run.start run.end t)
  where
    by : (b : Bool) → cond {A = ℕ} b 0 0 ≡ 0
    by true = refl
    by false = refl

pub exchanged_none : (emptied filled : Option Run) (f : ℕ → ℕ → ℕ) → AreExchanged emptied filled [] [] f f
exchanged_none emptied filled f q t = ap (λ n. f q t + n) (cells_none emptied q t ∙ sym (cells_none filled q t))

-- all places
module _ (emptied filled : Option Run) (before later : List (Option ResourceId)) where
  pub exchanged_last : (n : ℕ) (old new : ℕ → ℕ → ℕ) → length before ≤ n → length later ≡ length before
      → AreExchanged emptied filled (take n before) (take n later) old new
      → AreExchanged emptied filled before later old new
  exchanged_last n old new l same h = subst (λ xs. AreExchanged emptied filled xs later old new) (take_all n before l)
      (subst (λ xs. AreExchanged emptied filled (take n before) xs old new) (take_all n later (omega (arith, l, same)))
      h)

  module _ (i : ℕ) (l : i < length before) (same : length later ≡ length before) where
    abbrev o : Option ResourceId
    o = get_or before i None

    abbrev n : Option ResourceId
    n = get_or later i None

    within : i < length later
    within = omega (arith, l, same)

    pub exchanged_more : (old mid new : ℕ → ℕ → ℕ)
        → AreExchanged emptied filled (take i before) (take i later) old mid
        → AreExchanged emptied filled (o ∷ []) (n ∷ []) mid new
        → AreExchanged emptied filled (take (i + 1) before) (take (i + 1) later) old new
    exchanged_more old mid new first second q t =
        let a = cells_more emptied before i q t l in
        let b = cells_more filled later i q t within in
        let c : mid q t + cells_of emptied (take i before) q t ≡ old q t + cells_of filled (take i later) q t =
        first q t in
        let d : new q t + cells_of emptied (o ∷ []) q t ≡ mid q t + cells_of filled (n ∷ []) q t = second q t in
        omega (arith, a, b, c, d)

    pub some_here : (old mid : ℕ → ℕ → ℕ) → ((q t : ℕ) → cells_of emptied before q t ≤ old q t)
        → AreExchanged emptied filled (take i before) (take i later) old mid
        → (q t : ℕ) → cells_of emptied (o ∷ []) q t ≤ mid q t
    some_here old mid some first q t =
        let a = cells_more emptied before i q t l in
        let b = cells_less emptied before (i + 1) q t in
        let c : mid q t + cells_of emptied (take i before) q t ≡ old q t + cells_of filled (take i later) q t =
        first q t in
        let d = some q t in
        omega (arith, a, b, c, d)

    pub room_here : (old mid : ℕ → ℕ → ℕ) → ((q t : ℕ) → old q t ≤ GREATEST_COUNT)
        → ((y : Run) (q t : ℕ) → filled ≡ Some y
        → old q t + length before ≤ GREATEST_COUNT + cells_of emptied before q t)
        → AreExchanged emptied filled (take i before) (take i later) old mid
        → (q t : ℕ) → mid q t + cells_of filled (n ∷ []) q t ≤ GREATEST_COUNT + cells_of emptied (o ∷ []) q t
    room_here old mid few room first q t = by filled refl
      where
        by : (r : Option Run) → filled ≡ r
            → mid q t + cells_of filled (n ∷ []) q t ≤ GREATEST_COUNT + cells_of emptied (o ∷ []) q t
        by None e =
            let a : mid q t + cells_of emptied (take i before) q t ≡ old q t + cells_of filled (take i later) q t =
            first q t in
            let b : cells_of filled (take i later) q t ≡ 0 = ap (λ r. cells_of r (take i later) q t) e in
            let c : cells_of filled (n ∷ []) q t ≡ 0 = ap (λ r. cells_of r (n ∷ []) q t) e in
            let d = few q t in
            omega (arith, a, b, c, d)
        by (Some y) e =
            let a = cells_more emptied before i q t l in
            let b = cells_more filled later i q t within in
            let c : mid q t + cells_of emptied (take i before) q t ≡ old q t + cells_of filled (take i later) q t =
            first q t in
            let d = room y q t e in
            let f = cells_few filled later (i + 1) q t in
            let g = cells_rest emptied before (i + 1) q t in
            omega (arith, a, b, c, d, f, g, l)

    pub moved_here : (p : Parts) (old mid new : ℕ → Bool) → AreAtMoved p emptied filled before later old mid
        → AreAtEither p o n emptied filled mid new → AreAtMoved p emptied filled before later old new
    moved_here p old mid new first second j e = by (second j e)
      where
        by : (mid j ≡ true) ⊎ ((o ≡ n → emptied ≡ filled → ⊥) × (IsAtRun p o emptied j ⊎ IsAtRun p n filled j))
            → (old j ≡ true) ⊎ IsAtMoved p emptied filled before later j
        by (inl w) = first j w
        by (inr w) = inr (record {
          number = i;
          old_place = o;
          new_place = n;
          old_there = slice_get-get_or before i None l;
          new_there = slice_get-get_or later i None within;
          moved = λ e. w.0 (same_Some o n (sym (slice_get-get_or before i None l) ∙ e
              ∙ slice_get-get_or later i None within));
          own = w.1;
        })

  -- up to the next place that is altered
  pub exchanged_over : (i next : ℕ) → i ≤ next → length later ≡ length before
      → ((j : ℕ) → i ≤ j → j < next → (slice_get before j ≡ slice_get later j) × (emptied ≡ filled))
      → (old new : ℕ → ℕ → ℕ) → AreExchanged emptied filled (take i before) (take i later) old new
      → AreExchanged emptied filled (take next before) (take next later) old new
  exchanged_over i next l same still old new h =
      passed_on (λ n. AreExchanged emptied filled (take n before) (take n later) old new) i next l step h
    where
      step : (j : ℕ) → i ≤ j → j < next → AreExchanged emptied filled (take j before) (take j later) old new
          → AreExchanged emptied filled (take (j + 1) before) (take (j + 1) later) old new
      step j a b first = by (cases_lt j (length before))
        where
          by : (j < length before) ⊎ (length before ≤ j)
              → AreExchanged emptied filled (take (j + 1) before) (take (j + 1) later) old new
          by (inl c) = exchanged_more j c same old new new first
              (passed_over emptied filled (get_or before j None) (get_or later j None) new (still j a b).1
              (same_Some (get_or before j None) (get_or later j None) (sym (slice_get-get_or before j None c)
              ∙ (still j a b).0 ∙ slice_get-get_or later j None (omega (arith, c, same)))))
          by (inr c) = subst (λ xs. AreExchanged emptied filled xs (take (j + 1) later) old new)
              (take_all j before c ∙ sym (take_all (j + 1) before (omega (arith, c))))
              (subst (λ xs. AreExchanged emptied filled (take j before) xs old new)
              (take_all j later (omega (arith, c, same)) ∙ sym (take_all (j + 1) later (omega (arith, c, same)))) first)
