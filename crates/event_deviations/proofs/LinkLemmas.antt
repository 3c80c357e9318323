-- Marks of times, and the times at which the events of a group run.
use Rattle.std.proofs.Common.{◌≡◌, ◌∙◌, sym, ap, ap₂, subst, refl, ℕ, ◌+◌, ◌-◌, ◌<◌, ◌≤◌, ◌==◌, Bool, true, false, cond}
use Rattle.std.proofs.Common.{if◌then◌else◌, not, ◌&&◌, ◌||◌, List, [], ◌∷◌, length, get_or, take, replicate}
use Rattle.std.proofs.Common.{slice_index, arith, zero-add, count_by}
use Rattle.std.specs.List.{list_any, range_with_len}
use Rattle.std.proofs.lemmas.Bool.{eq-eqb, ne_eqb}
use Rattle.std.proofs.lemmas.List.{length-take-le}
use Rattle.std.proofs.lemmas.List.Folds.{list_any_more, list_all_more}
use Rattle.std.proofs.lemmas.List.Sums.{sum_by-cons}
use Rattle.khe_instance.specs.Running.{runs, event_runs, meets_of}
use Rattle.khe_instance.specs.declared.states.Meet.{Meet}
use Rattle.event_deviations.specs.Groups.{some_run, all_run, apart_at}
use Rattle.event_deviations.specs.Links.{Joins, Advances, count_at}
use Rattle.event_deviations.specs.Marked.{is_marked, marked_count}
use Rattle.event_deviations.proofs.Kit.{count_by-agree, count_by-places}
use Rattle.event_deviations.proofs.MarkLemmas.{is_marked-zeros, get_or-zeros, marked_count-by}

-- a rank that goes up where a test passes
abbrev raised : ℕ → ℕ → Bool → ℕ
raised rank v b = if v == rank && b then rank + 1 else v

raised_le : (rank v : ℕ) (b : Bool) → v ≤ rank → raised rank v b ≤ rank + 1
raised_le rank v b l = by (v == rank && b)
  where
    by : (c : Bool) → (if c then rank + 1 else v) ≤ rank + 1
    by true = omega arith
    by false = omega arith

-- a rank is the next one exactly where it was this one and the test passes
raised_is : (rank v : ℕ) (b : Bool) → v ≤ rank → (raised rank v b == (rank + 1)) ≡ ((v == rank) && b)
raised_is rank v b l = by (v == rank && b)
  where
    by : (c : Bool) → ((if c then rank + 1 else v) == (rank + 1)) ≡ c
    by true = eq-eqb (rank + 1) (rank + 1) refl
    by false = ne_eqb v (rank + 1) (λ e. absurd (omega (arith, e)))

-- counts of a range
count_none : (p : ℕ → Bool) (n : ℕ) → ((k : ℕ) → k < n → p k ≡ false) → count_by p (range_with_len 0 n) ≡ 0
count_none p n h = count_by-agree p (λ _. false) n h ∙ zeros (range_with_len 0 n)
  where
    zeros : (ks : List ℕ) → count_by (λ _. false) ks ≡ 0
    zeros [] = refl
    zeros (k ∷ ks) = sum_by-cons (λ _. 0) k ks ∙ zero-add (count_by (λ _. false) ks) ∙ zeros ks

count_split : (p q : ℕ → Bool) (ks : List ℕ) → count_by (λ t. p t && not (q t)) ks + count_by (λ t. p t && q t) ks
    ≡ count_by p ks
count_split p q [] = refl
count_split p q (k ∷ ks) =
    let rest = count_split p q ks in
    let a = sum_by-cons (λ t. cond (p t && not (q t)) 1 0) k ks in
    let b = sum_by-cons (λ t. cond (p t && q t) 1 0) k ks in
    let c = sum_by-cons (λ t. cond (p t) 1 0) k ks in
    let here : cond {A = ℕ} (p k && not (q k)) 1 0 + cond {A = ℕ} (p k && q k) 1 0 ≡ cond {A = ℕ} (p k) 1 0 =
    both (p k) (q k) in
    omega arith
  where
    both : (x y : Bool) → cond {A = ℕ} (x && not y) 1 0 + cond {A = ℕ} (x && y) 1 0 ≡ cond {A = ℕ} x 1 0
    both true true = refl
    both true false = refl
    both false y = refl

-- the times at which some and all of the events so far run
pub record IsLinked (meets : List Meet) (es : List ℕ) (some leading : List ℕ) (whole : ℕ) : Type 0 where
  pub some_are : (t : ℕ) → is_marked some t ≡ some_run meets es t
  pub ranks : (t : ℕ) → slice_index leading t ≤ length es
  pub leading_are : (t : ℕ) → t < length leading → (slice_index leading t == length es) ≡ all_run meets es t
  pub whole_is : whole ≡ count_by (λ t. some_run meets es t && all_run meets es t) (range_with_len 0 (length leading))

pub IsLinked-none : (meets : List Meet) (n m : ℕ) → IsLinked meets [] (replicate n 0) (replicate m 0) 0
IsLinked-none meets n m = record {
  some_are = is_marked-zeros n;
  ranks = λ t. let z : get_or (replicate {A = ℕ} m 0) t 0 ≡ 0 = get_or-zeros m t in omega arith;
  leading_are = λ t l. eq-eqb (get_or (replicate {A = ℕ} m 0) t 0) 0 (get_or-zeros m t);
  whole_is = sym (count_none (λ t. some_run meets [] t && all_run meets [] t) (length (replicate {A = ℕ} m 0))
      (λ k l. refl));
}

module _ (meets : List Meet) (es : List ℕ) (i : ℕ) (l : i < length es) (some leading : List ℕ) (whole : ℕ)
    (is : IsLinked meets (take i es) some leading whole) where
  long : length (take i es) ≡ i
  long = length-take-le i es (omega arith)

  long_more : length (take (i + 1) es) ≡ i + 1
  long_more = length-take-le (i + 1) es (omega arith)

  below : (t : ℕ) → slice_index leading t ≤ i
  below t = subst (λ n. slice_index leading t ≤ n) long (is.ranks t)

  -- none has the next rank yet
  pub none_yet : count_at (i + 1) leading ≡ 0
  none_yet =
      count_by-places (λ v. v == (i + 1)) leading 0
      ∙ count_none (λ t. get_or leading t 0 == (i + 1)) (length leading)
      (λ t h. ne_eqb (get_or leading t 0) (i + 1) (λ e. absurd (omega (arith, below t, e))))

  pub IsLinked-more : (some' leading' : List ℕ) (whole' : ℕ) (own : List Meet) → own ≡ meets_of (get_or es i 0) meets
      → Joins some some' (λ t. list_any (λ m. runs m t) own)
      → Advances i leading leading' (λ t. list_any (λ m. runs m t) own)
      → length leading' ≡ length leading → whole' ≡ count_at (i + 1) leading'
      → IsLinked meets (take (i + 1) es) some' leading' whole'
  IsLinked-more some' leading' whole' own own_is joins advances same counted = record {
    some_are = some_then;
    ranks = λ t. subst (λ n. slice_index leading' t ≤ n) (sym long_more)
        (subst (λ v. v ≤ i + 1) (sym (advances t)) (raised_le i (slice_index leading t) (list_any (λ m. runs m t) own)
        (below t)));
    leading_are = leading_then;
    whole_is = counted ∙ count_by-places (λ v. v == (i + 1)) leading' 0
        ∙ count_by-agree (λ t. get_or leading' t 0 == (i + 1))
        (λ t. some_run meets (take (i + 1) es) t && all_run meets (take (i + 1) es) t) (length leading')
        (λ t h. ap (λ n. get_or leading' t 0 == n) (sym long_more) ∙ leading_then t h ∙ all_are t);
  }
    where
      e : ℕ
      e = get_or es i 0

      runs_then : (t : ℕ) → list_any (λ m. runs m t) own ≡ event_runs meets t (get_or es i 0)
      runs_then t = ap (list_any (λ m. runs m t)) own_is

      some_then : (t : ℕ) → is_marked some' t ≡ some_run meets (take (i + 1) es) t
      some_then t = joins t ∙ ap₂ (λ a b. a || b) (is.some_are t) (runs_then t)
          ∙ sym (list_any_more (event_runs meets t) es i 0 l)

      leading_then : (t : ℕ) → t < length leading' → (slice_index leading' t == length (take (i + 1) es))
          ≡ all_run meets (take (i + 1) es) t
      leading_then t h =
          ap₂ (λ a b. a == b) (advances t) long_more
          ∙ raised_is i (slice_index leading t) (list_any (λ m. runs m t) own) (below t)
          ∙ ap₂ (λ a b. a && b) (ap (λ n. slice_index leading t == n) (sym long)
          ∙ is.leading_are t (subst (λ n. t < n) same h)) (runs_then t)
          ∙ sym (list_all_more (event_runs meets t) es i 0 l)

      -- where all run, some do
      all_are : (t : ℕ) → all_run meets (take (i + 1) es) t
          ≡ (some_run meets (take (i + 1) es) t && all_run meets (take (i + 1) es) t)
      all_are t =
          list_all_more (event_runs meets t) es i 0 l
          ∙ both (some_run meets (take i es) t) (all_run meets (take i es) t) (event_runs meets t (get_or es i 0))
          ∙ sym (ap₂ (λ a b. a && b) (list_any_more (event_runs meets t) es i 0 l)
          (list_all_more (event_runs meets t) es i 0 l))
        where
          both : (s a r : Bool) → (a && r) ≡ ((s || r) && (a && r))
          both true a r = refl
          both false true true = refl
          both false true false = refl
          both false false true = refl
          both false false false = refl

-- how many times are marked but not whole
pub record Apart (meets : List Meet) (es : List ℕ) (times marked whole : ℕ) : Type 0 where
  pub whole_le : whole ≤ marked
  pub apart : marked - whole ≡ apart_at meets es times

pub apart-is : (meets : List Meet) (es some leading : List ℕ) (times whole : ℕ) → length some ≡ times
    → length leading ≡ times → IsLinked meets es some leading whole
    → Apart meets es times (marked_count some) whole
apart-is meets es some leading times whole some_long leading_long is =
    let marked : marked_count some ≡ count_by (some_run meets es) (range_with_len 0 times) =
    marked_count-by some (some_run meets es) times some_long is.some_are in
    let whole_is : whole ≡ count_by (λ t. some_run meets es t && all_run meets es t) (range_with_len 0 times) =
    is.whole_is ∙ ap (λ n. count_by (λ t. some_run meets es t && all_run meets es t) (range_with_len 0 n))
    leading_long in
    let split : apart_at meets es times + count_by (λ t. some_run meets es t && all_run meets es t)
    (range_with_len 0 times) ≡ count_by (some_run meets es) (range_with_len 0 times) =
    count_split (some_run meets es) (all_run meets es) (range_with_len 0 times) in
    record { whole_le = omega arith; apart = omega arith }
