-- Values of numbers, and which of them are above 0.
use Rattle.std.proofs.Common.{◌≡◌, ◌∙◌, sym, ap, ap₂, subst, refl, ℕ, zero, suc, ◌+◌, ◌*◌, ◌<◌, ◌≤◌, ◌==◌, Bool, true, false, cond}
use Rattle.std.proofs.Common.{if◌then◌else◌, ◌||◌, nat_lt, List, [], ◌∷◌, ◌++◌, All, length, get_or, set, replicate}
use Rattle.std.proofs.Common.{arith, zero-add, ◌⊎◌, inl, inr, count_by, sum_by}
use Rattle.std.specs.List.{list_any, range_with_len}
use Rattle.std.proofs.lemmas.Bool.{false≢true, eq-eqb, ne_eqb, cases_eq, cases_lt, lt-ltb}
use Rattle.std.proofs.lemmas.Bool.Decides.{nat_tests}
use Rattle.std.proofs.lemmas.Grind.{same_number_lists}
use Rattle.std.proofs.lemmas.List.{length-append, length-replicate, get_or-replicate, get_or_past, get_or-set_same}
use Rattle.std.proofs.lemmas.List.{get_or-set_other, length-set}
use Rattle.std.proofs.lemmas.List.Elements.{All-nil, All-cons, All-append}
use Rattle.std.proofs.lemmas.List.Folds.{list_any-append, sum_by-replicate}
use Rattle.std.proofs.lemmas.List.Sums.{sum_by-set, sum_by_push, count_by-le-length}
use Rattle.khe_base.specs.IdSet.{has_member}
use Rattle.event_deviations.specs.Marked.{is_marked, marked_count, sum_in, AreListed}
use Rattle.event_deviations.proofs.Kit.{count_by-places, count_by-agree, false_by, sum_one, sum_changed}

pub or_false : (b : Bool) → (b || false) ≡ b
or_false true = refl
or_false false = refl

pub or_true : (b : Bool) → (b || true) ≡ true
or_true true = refl
or_true false = refl

pub or_assoc : (a b c : Bool) → ((a || b) || c) ≡ (a || (b || c))
or_assoc true b c = refl
or_assoc false b c = refl

-- no number of zeros has another value
pub get_or-zeros : (n k : ℕ) → get_or (replicate {A = ℕ} n 0) k 0 ≡ 0
get_or-zeros n k = by (cases_lt k n)
  where
    by : (k < n) ⊎ (n ≤ k) → get_or (replicate {A = ℕ} n 0) k 0 ≡ 0
    by (inl l) = get_or-replicate n k 0 0 l
    by (inr l) = get_or_past (replicate {A = ℕ} n 0) k 0
        (subst (λ (m : ℕ). m ≤ k) (sym (length-replicate {A = ℕ} n 0)) l)

pub is_marked-zeros : (n k : ℕ) → is_marked (replicate n 0) k ≡ false
is_marked-zeros n k = ap (nat_lt 0) (get_or-zeros n k)

-- a sum of nothing but 0
pub sum_zeros : (n : ℕ) → sum_by (λ (k : ℕ). 0) (range_with_len 0 n) ≡ 0
sum_zeros n = sum_one (λ k. 0) 0 (λ k other. refl) n (λ le. refl)

pub AreListed-none : (n : ℕ) → AreListed (replicate n 0) []
AreListed-none n = record {
  known = λ k e. absurd (false≢true (sym (is_marked-zeros n k) ∙ e));
  within = All-nil (λ k. k < length (replicate n 0));
  counted = sym (sum_by-replicate (λ (v : ℕ). cond (nat_lt 0 v) 1 0) n 0 ∙ (let z : n * 0 ≡ 0 = omega arith in z));
  summed = λ g. sym ((λ i. sum_by (λ k. cond (is_marked-zeros n k i) (g k) 0)
      (range_with_len 0 (length (replicate {A = ℕ} n 0)))) ∙ sum_zeros (length (replicate {A = ℕ} n 0)));
}

-- where a value is 0, fewer are marked than there are numbers
pub marked_count_lt : (vs : List ℕ) (n : ℕ) → n < length vs → get_or vs n 0 ≡ 0 → marked_count vs < length vs
marked_count_lt vs n l is =
    let more = sum_by-set (λ (v : ℕ). cond (nat_lt 0 v) 1 0) vs n 1 0 l in
    let here : cond {A = ℕ} (nat_lt 0 (get_or vs n 0)) 1 0 ≡ 0 = ap (λ v. cond {A = ℕ} (nat_lt 0 v) 1 0) is in
    omega (arith, count_by-le-length (nat_lt 0) (set vs n 1), length-set vs n 1)

-- values of which the marked ones were given 0 are all 0
pub all_zero : (old new marked : List ℕ) → AreListed old marked → length new ≡ length old
    → ((n : ℕ) → get_or new n 0 ≡ (if list_any (λ m. m == n) marked then 0 else get_or old n 0))
    → new ≡ replicate (length old) 0
all_zero old new marked listed long values =
    same_number_lists new (replicate (length old) 0) (long ∙ sym (length-replicate (length old) 0))
    (λ k l. values k ∙ by k (list_any (λ m. m == k) marked) refl ∙ sym (get_or-zeros (length old) k))
  where
    unmarked : (k : ℕ) → list_any (λ m. m == k) marked ≡ false → is_marked old k ≡ false
    unmarked k e = false_by (is_marked old k) (λ t. false≢true (sym e ∙ listed.known k t))

    by : (k : ℕ) (b : Bool) → list_any (λ m. m == k) marked ≡ b → (if b then 0 else get_or old k 0) ≡ 0
    by k true e = refl
    by k false e = let u : nat_lt 0 (get_or old k 0) ≡ false = unmarked k e in grind (arith, nat_tests)

-- one more number with a value
pub is_marked-set : (vs : List ℕ) (n v k : ℕ) → n < length vs → 0 < v
    → is_marked (set vs n v) k ≡ (is_marked vs k || (n == k))
is_marked-set vs n v k l pos = by (cases_eq n k)
  where
    by : (n ≡ k) ⊎ (n ≡ k → ⊥) → is_marked (set vs n v) k ≡ (is_marked vs k || (n == k))
    by (inl e) =
        ap (nat_lt 0) (ap (λ j. get_or (set vs n v) j 0) (sym e) ∙ get_or-set_same vs n v 0 l) ∙ lt-ltb 0 v pos
        ∙ sym (ap (λ b. is_marked vs k || b) (eq-eqb n k e) ∙ or_true (is_marked vs k))
    by (inr ne) =
        ap (nat_lt 0) (get_or-set_other vs n k v 0 (λ e. ne (sym e)))
        ∙ sym (ap (λ b. is_marked vs k || b) (ne_eqb n k ne) ∙ or_false (is_marked vs k))

-- a number that was listed has another value
pub AreListed-old : (vs ms : List ℕ) (n v : ℕ) → n < length vs → 0 < v → (get_or vs n 0 ≡ 0 → ⊥) → AreListed vs ms
    → AreListed (set vs n v) ms
AreListed-old vs ms n v l pos was is = record {
  known = λ k e. is.known k (sym (same k) ∙ e);
  within = subst (λ m. All (λ k. k < m) ms) (sym (length-set vs n v)) is.within;
  counted = is.counted ∙ count;
  summed = λ g. is.summed g ∙ (λ i. sum_by (λ k. cond (sym (same k) i) (g k) 0)
      (range_with_len 0 (sym (length-set vs n v) i)));
}
  where
    marked : is_marked vs n ≡ true
    marked = lt-ltb 0 (get_or vs n 0) (let z = was in grind arith)

    same : (k : ℕ) → is_marked (set vs n v) k ≡ is_marked vs k
    same k = is_marked-set vs n v k l pos ∙ at (cases_eq n k)
      where
        at : (n ≡ k) ⊎ (n ≡ k → ⊥) → (is_marked vs k || (n == k)) ≡ is_marked vs k
        at (inl e) =
            let here : is_marked vs k ≡ true = ap (is_marked vs) (sym e) ∙ marked in
            ap (λ b. b || (n == k)) here ∙ sym here
        at (inr ne) = ap (λ b. is_marked vs k || b) (ne_eqb n k ne) ∙ or_false (is_marked vs k)

    count : marked_count vs ≡ marked_count (set vs n v)
    count =
        let more = sum_by-set (λ (v : ℕ). cond (nat_lt 0 v) 1 0) vs n v 0 l in
        let here : cond {A = ℕ} (nat_lt 0 (get_or vs n 0)) 1 0 ≡ 1 = ap (λ b. cond {A = ℕ} b 1 0) marked in
        let there : cond {A = ℕ} (nat_lt 0 v) 1 0 ≡ 1 = ap (λ b. cond {A = ℕ} b 1 0) (lt-ltb 0 v pos) in
        omega arith

-- a number is listed with its value
pub AreListed-new : (vs ms : List ℕ) (n v : ℕ) → n < length vs → 0 < v → get_or vs n 0 ≡ 0 → AreListed vs ms
    → AreListed (set vs n v) (ms ++ n ∷ [])
AreListed-new vs ms n v l pos was is = record {
  known = λ k e. list_any-append (λ m. m == k) ms (n ∷ [])
      ∙ found k (is_marked vs k) refl (sym (is_marked-set vs n v k l pos) ∙ e);
  within = subst (λ m. All (λ k. k < m) (ms ++ n ∷ [])) (sym (length-set vs n v))
      (All-append (λ k. k < length vs) ms (n ∷ []) is.within (All-one n l));
  counted = length-append ms (n ∷ []) ∙ count;
  summed = λ g. sum_by_push g ms n ∙ ap (λ y. y + g n) (is.summed g) ∙ sym (more g);
}
  where
    All-one : (n : ℕ) → n < length vs → All (λ k. k < length vs) (n ∷ [])
    All-one n l = All-cons (λ k. k < length vs) n [] l (All-nil (λ k. k < length vs))

    found : (k : ℕ) (b : Bool) → is_marked vs k ≡ b → (is_marked vs k || (n == k)) ≡ true
        → (list_any (λ m. m == k) ms || list_any (λ m. m == k) (n ∷ [])) ≡ true
    found k true h e = ap (λ b. b || list_any (λ m. m == k) (n ∷ [])) (is.known k h)
    found k false h e = ap (λ b. list_any (λ m. m == k) ms || (b || false)) (sym (ap (λ b. b || (n == k)) h) ∙ e)
        ∙ or_true (list_any (λ m. m == k) ms)

    more : (g : ℕ → ℕ) → sum_by (λ k. cond (is_marked (set vs n v) k) (g k) 0) (range_with_len 0 (length (set vs n v)))
        ≡ sum_by (λ k. cond (is_marked vs k) (g k) 0) (range_with_len 0 (length vs)) + g n
    more g =
        ap (λ m. sum_by (λ k. cond (is_marked (set vs n v) k) (g k) 0) (range_with_len 0 m)) (length-set vs n v)
        ∙ sum_changed (λ k. cond (is_marked vs k) (g k) 0) (λ k. cond (is_marked (set vs n v) k) (g k) 0) n (g n)
        (length vs) l here others
      where
        here : cond (is_marked (set vs n v) n) (g n) 0 ≡ cond (is_marked vs n) (g n) 0 + g n
        here =
            ap (λ b. cond b (g n) 0) (is_marked-set vs n v n l pos ∙ ap (λ b. is_marked vs n || b) (eq-eqb n n refl)
            ∙ or_true (is_marked vs n))
            ∙ sym (ap (λ y. cond (nat_lt 0 y) (g n) 0 + g n) was ∙ zero-add (g n))

        others : (k : ℕ) → (k ≡ n → ⊥) → cond (is_marked (set vs n v) k) (g k) 0 ≡ cond (is_marked vs k) (g k) 0
        others k ne = ap (λ b. cond b (g k) 0) (is_marked-set vs n v k l pos
            ∙ ap (λ b. is_marked vs k || b) (ne_eqb n k (λ e. ne (sym e))) ∙ or_false (is_marked vs k))

    count : length ms + 1 ≡ marked_count (set vs n v)
    count =
        let more = sum_by-set (λ (v : ℕ). cond (nat_lt 0 v) 1 0) vs n v 0 l in
        let here : cond {A = ℕ} (nat_lt 0 (get_or vs n 0)) 1 0 ≡ 0 = ap (λ v. cond {A = ℕ} (nat_lt 0 v) 1 0) was in
        let there : cond {A = ℕ} (nat_lt 0 v) 1 0 ≡ 1 = ap (λ b. cond {A = ℕ} b 1 0) (lt-ltb 0 v pos) in
        omega (arith, is.counted)

-- how many are marked, where it is known which
pub marked_count-by : (vs : List ℕ) (holds : ℕ → Bool) (n : ℕ) → length vs ≡ n → ((k : ℕ) → is_marked vs k ≡ holds k)
    → marked_count vs ≡ count_by holds (range_with_len 0 n)
marked_count-by vs holds n long is =
    count_by-places (nat_lt 0) vs 0 ∙ ap (λ m. count_by (is_marked vs) (range_with_len 0 m)) long
    ∙ count_by-agree (is_marked vs) holds n (λ k l. is k)

-- the sum of the values in a set: of zeros, with one more at a number, and over the numbers that are
-- listed
module _ (members : List Bool) where
  pub sum_in-zeros : (n : ℕ) → sum_in (replicate n 0) members ≡ 0
  sum_in-zeros n =
      (λ i. sum_by (λ k. same k i) (range_with_len 0 (length (replicate {A = ℕ} n 0))))
      ∙ sum_zeros (length (replicate {A = ℕ} n 0))
    where
      same : (k : ℕ) → cond (has_member members k) (get_or (replicate {A = ℕ} n 0) k 0) 0 ≡ 0
      same k = ap (λ v. cond (has_member members k) v 0) (get_or-zeros n k) ∙ either (has_member members k)
        where
          either : (b : Bool) → cond {A = ℕ} b 0 0 ≡ 0
          either true = refl
          either false = refl

  pub sum_in-more : (vs : List ℕ) (n : ℕ) → n < length vs
      → sum_in (set vs n (get_or vs n 0 + 1)) members ≡ sum_in vs members + cond (has_member members n) 1 0
  sum_in-more vs n l =
      ap (λ m. sum_by after (range_with_len 0 m)) (length-set vs n (get_or vs n 0 + 1))
      ∙ sum_changed before after n (cond (has_member members n) 1 0) (length vs) l
      (ap (λ v. cond (has_member members n) v 0) (get_or-set_same vs n (get_or vs n 0 + 1) 0 l)
      ∙ either (has_member members n) (get_or vs n 0))
      (λ k ne. ap (λ v. cond (has_member members k) v 0) (get_or-set_other vs n k (get_or vs n 0 + 1) 0 ne))
    where
      before : ℕ → ℕ
      before k = cond (has_member members k) (get_or vs k 0) 0

      after : ℕ → ℕ
      after k = cond (has_member members k) (get_or (set vs n (get_or vs n 0 + 1)) k 0) 0

      either : (b : Bool) (v : ℕ) → cond b (v + 1) 0 ≡ cond b v 0 + cond b 1 0
      either true v = refl
      either false v = refl

  pub sum_in-listed : (vs ms : List ℕ) → AreListed vs ms
      → sum_by (λ n. cond (has_member members n) (get_or vs n 0) 0) ms ≡ sum_in vs members
  sum_in-listed vs ms listed =
      listed.summed (λ n. cond (has_member members n) (get_or vs n 0) 0)
      ∙ (λ i. sum_by (λ k. point (get_or vs k 0) (has_member members k) i) (range_with_len 0 (length vs)))
    where
      point : (v : ℕ) (b : Bool) → cond (nat_lt 0 v) (cond b v 0) 0 ≡ cond b v 0
      point zero true = refl
      point zero false = refl
      point (suc v) b = ap (λ a. cond a (cond b (suc v) 0) 0) (lt-ltb 0 (suc v) (omega arith))
