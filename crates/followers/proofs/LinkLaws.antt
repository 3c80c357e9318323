-- The links of followers where a meet is tied or untied.
use Rattle.std.proofs.Common.{ℕ, zero, suc, [], ◌∷◌, ◌≡◌, ◌≢◌, ◌+◌, ◌-◌, ◌<◌, ◌≤◌, ◌⊎◌, inl, inr, true, false, Bool, cond, Option, Some, None, List, length, refl, sym}
use Rattle.std.proofs.Common.{ap, subst, ◌∙◌, arith, set, get_or, get_or-set_same, get_or-set_other, set-set}
use Rattle.std.specs.Prelude.{replicate, ◌||◌}
use Rattle.std.proofs.lemmas.Bool.{eqb-true, eq-eqb, lt-ltb, ltb-false, ne_eqb}
use Rattle.std.proofs.lemmas.List.{get_or_default, length-replicate, length-set, set-get_or}
use Rattle.std.proofs.lemmas.List.Folds.{list_any_none}
use Rattle.std.proofs.Math.Dec.{ltb}
use Rattle.khe_solution.proofs.Basics.{cases_eq, true-false}
use Rattle.followers.specs.Links.{AreLinked, HasRow, IsRow, count_of, occurs, without}
use Rattle.followers.specs.Ties.{is_to, leads, tie_at}
use Rattle.followers.specs.declared.edits.Tie.{Tie}
use Rattle.followers.proofs.RowLaws.{AreApart, IsTaken, before_in, next_in, occurs_here, occurs_not, row_below, row_first, row_pushed, row_same, row_taken, skip, taken_first}
use Rattle.followers.proofs.RowLaws.{without_long, without_other, without_own}

-- a tie is to one meet
pub one_leader : (m n : ℕ) (tie : Option Tie) → is_to m tie ≡ true → is_to n tie ≡ true → m ≡ n
one_leader m n None h k = absurd (true-false (sym h))
one_leader m n (Some t) h k = sym (eqb-true t.leader.0 m h) ∙ eqb-true t.leader.0 n k

-- the tie of a meet that was given another, and of any other meet
pub tie_here : (ties : List (Option Tie)) (m : ℕ) (o : Option Tie) → m < length ties → tie_at (set ties m o) m ≡ o
tie_here ties m o l = get_or-set_same ties m o None l

pub tie_other : (ties : List (Option Tie)) (m j : ℕ) (o : Option Tie) → j ≢ m → tie_at (set ties m o) j ≡ tie_at ties j
tie_other ties m j o d = get_or-set_other ties m j o None d

-- without ties no meet has a follower
pub no_tie : (n j : ℕ) → tie_at (replicate n None) j ≡ None
no_tie zero j = refl
no_tie (suc n) zero = refl
no_tie (suc n) (suc j) = no_tie n j

read_same : (n x j : ℕ) → j < n → get_or (replicate n x) j 0 ≡ x
read_same zero x j l = absurd (omega (arith, l))
read_same (suc n) x zero l = refl
read_same (suc n) x (suc j) l = let k : j < n = omega (arith, l) in read_same n x j k

abbrev one_if : Bool → ℕ
one_if b = cond b 1 0

-- how many followers a meet has after another tie of one
count_set : (ties : List (Option Tie)) (m q : ℕ) (o : Option Tie) → m < length ties
    → count_of (set ties m o) q + one_if (is_to q (tie_at ties m)) ≡ count_of ties q + one_if (is_to q o)
count_set [] m q o l = absurd (omega (arith, l))
count_set (x ∷ ties) zero q o l = by (is_to q x) (is_to q o)
  where
    by : (a b : Bool)
        → cond b (1 + count_of ties q) (count_of ties q) + one_if a
        ≡ cond a (1 + count_of ties q) (count_of ties q) + one_if b
    by true true = refl
    by true false = omega arith
    by false true = omega arith
    by false false = refl
count_set (x ∷ ties) (suc m) q o l = by (is_to q x) (count_set ties m q o (omega (arith, l)))
  where
    by : (a : Bool)
        → count_of (set ties m o) q + one_if (is_to q (tie_at ties m)) ≡ count_of ties q + one_if (is_to q o)
        → cond a (1 + count_of (set ties m o) q) (count_of (set ties m o) q) + one_if (is_to q (tie_at ties m))
        ≡ cond a (1 + count_of ties q) (count_of ties q) + one_if (is_to q o)
    by true h = omega (arith, h)
    by false h = h

count_none : (n q : ℕ) → count_of (replicate n None) q ≡ 0
count_none zero q = refl
count_none (suc n) q = count_none n q

pub open_linked : (n : ℕ)
    → AreLinked (replicate n None) (replicate n n) (replicate n n) (replicate n n) (replicate n 0)
open_linked n =
    let long : length (replicate {A = Option Tie} n None) ≡ n = length-replicate n None in
    record {
      long_first = length-replicate n n ∙ sym long;
      long_next = length-replicate n n ∙ sym long;
      long_prev = length-replicate n n ∙ sym long;
      long_counts = length-replicate n 0 ∙ sym long;
      leaders = λ m f h. absurd (true-false (sym h ∙ ap (is_to m) (no_tie n f)));
      rows = λ m l. record {
        list = [];
        row = read_same n n m (subst (λ x. m < x) long l) ∙ sym long;
        each = λ f. sym (ap (λ o. one_if (is_to m o)) (no_tie n f));
        size = sym (count_none n m);
      };
      many = λ m l. read_same n 0 m (subst (λ x. m < x) long l) ∙ sym (count_none n m);
    }

-- a follower is within the list
pub follower_there : (ties : List (Option Tie)) (m f : ℕ) → is_to m (tie_at ties f) ≡ true → f < length ties
follower_there [] m f h = absurd (true-false (sym h))
follower_there (t ∷ ties) m zero h = omega arith
follower_there (t ∷ ties) m (suc f) h = let k = follower_there ties m f h in omega (arith, k)

-- what stands in the list of a meet's followers
pub row_apart : (ties : List (Option Tie)) (next prev : List ℕ) (m at : ℕ) (h : HasRow ties next prev m at)
    → AreApart h.list
row_apart ties next prev m at h k = by (is_to m (tie_at ties k)) (h.each k)
  where
    by : (b : Bool) → occurs k h.list ≡ one_if b → occurs k h.list ≤ 1
    by true e = omega (arith, e)
    by false e = omega (arith, e)

pub in_row : (ties : List (Option Tie)) (next prev : List ℕ) (m at : ℕ) (h : HasRow ties next prev m at) (f : ℕ)
    → occurs f h.list ≢ 0 → is_to m (tie_at ties f) ≡ true
in_row ties next prev m at h f o = by (is_to m (tie_at ties f)) refl
  where
    by : (b : Bool) → is_to m (tie_at ties f) ≡ b → is_to m (tie_at ties f) ≡ true
    by true e = e
    by false e = absurd (o (h.each f ∙ ap one_if e))

row_in : (ties : List (Option Tie)) (next prev : List ℕ) (m at : ℕ) (h : HasRow ties next prev m at) (f : ℕ)
    → is_to m (tie_at ties f) ≡ true → occurs f h.list ≡ 1
row_in ties next prev m at h f e = h.each f ∙ ap one_if e

row_out : (ties : List (Option Tie)) (next prev : List ℕ) (m at : ℕ) (h : HasRow ties next prev m at) (f : ℕ)
    → is_to m (tie_at ties f) ≡ false → occurs f h.list ≡ 0
row_out ties next prev m at h f e = h.each f ∙ ap one_if e

-- a row whose ends are written otherwise
row_of : (next prev : List ℕ) (n k at : ℕ) (xs : List ℕ) → k ≡ n → IsRow next prev n n at xs → IsRow next prev k k at xs
row_of next prev n k at xs e r = subst (λ x. IsRow next prev x x at xs) (sym e) r

-- a meet that is tied, of its leader and of another
tied_row : (ties : List (Option Tie)) (first next prev counts : List ℕ) (m : ℕ) (t : Tie)
    → AreLinked ties first next prev counts → m < length ties → t.leader.0 < length ties → tie_at ties m ≡ None
    → HasRow (set ties m (Some t)) (set next m (get_or first t.leader.0 0))
    (set (set prev m (length ties)) (get_or first t.leader.0 0) m) t.leader.0 m
tied_row ties first next prev counts m t a i l free =
    let h = a.rows t.leader.0 l in
    let at = get_or first t.leader.0 0 in
    let gone : is_to t.leader.0 (tie_at ties m) ≡ false = ap (is_to t.leader.0) free in
    let out = row_out ties next prev t.leader.0 at h m gone in
    let own : is_to t.leader.0 (Some t) ≡ true = eq-eqb t.leader.0 t.leader.0 refl in
    record {
      list = m ∷ h.list;
      row = row_of (set next m at) (set (set prev m (length ties)) at m) (length ties) (length (set ties m (Some t))) m
          (m ∷ h.list) (length-set ties m (Some t))
          (row_pushed next prev (length ties) at m h.list i a.long_next a.long_prev out
          (row_apart ties next prev t.leader.0 at h) h.row);
      each = λ f. by h.list out h.each f (cases_eq m f);
      size =
          let c = count_set ties m t.leader.0 (Some t) i in
          let x : one_if (is_to t.leader.0 (tie_at ties m)) ≡ 0 = ap one_if gone in
          let y : one_if (is_to t.leader.0 (Some t)) ≡ 1 = ap one_if own in
          let z = h.size in
          omega (arith, c, x, y, z);
    }
  where
    by : (xs : List ℕ) → occurs m xs ≡ 0 → ((f : ℕ) → occurs f xs ≡ one_if (is_to t.leader.0 (tie_at ties f)))
        → (f : ℕ) → (m ≡ f) ⊎ (m ≡ f → ⊥)
        → occurs f (m ∷ xs) ≡ one_if (is_to t.leader.0 (tie_at (set ties m (Some t)) f))
    by xs o each f (inl e) =
        let h = occurs_here f m xs e in
        let z : occurs f xs ≡ 0 = ap (λ k. occurs k xs) (sym e) ∙ o in
        let y : occurs f (m ∷ xs) ≡ 1 = omega (arith, h, z) in
        y ∙ sym (ap one_if (ap (is_to t.leader.0) (ap (tie_at (set ties m (Some t))) (sym e) ∙ tie_here ties m (Some t) i)
        ∙ eq-eqb t.leader.0 t.leader.0 refl))
    by xs o each f (inr d) = occurs_not f m xs d ∙ each f
        ∙ ap (λ x. one_if (is_to t.leader.0 x)) (sym (tie_other ties m f (Some t) (λ e. d (sym e))))

-- of another meet, whose followers' links are not among those that changed
same_row : (ties : List (Option Tie)) (next prev next2 prev2 : List ℕ) (m q at at2 : ℕ) (o : Option Tie)
    → m < length ties → is_to q (tie_at ties m) ≡ false → is_to q o ≡ false → at2 ≡ at
    → (h : HasRow ties next prev q at) → ((k : ℕ) → occurs k h.list ≢ 0 → get_or next2 k 0 ≡ get_or next k 0)
    → ((k : ℕ) → occurs k h.list ≢ 0 → get_or prev2 k 0 ≡ get_or prev k 0) → HasRow (set ties m o) next2 prev2 q at2
same_row ties next prev next2 prev2 m q at at2 o i gone new e h f g = record {
  list = h.list;
  row = row_of next2 prev2 (length ties) (length (set ties m o)) at2 h.list (length-set ties m o)
      (subst (λ x. IsRow next2 prev2 (length ties) (length ties) x h.list) (sym e)
      (row_same next prev next2 prev2 (length ties) (length ties) at h.list f g h.row));
  each = λ k. h.each k ∙ ap one_if (by k (cases_eq k m));
  size =
      let c = count_set ties m q o i in
      let x : one_if (is_to q (tie_at ties m)) ≡ 0 = ap one_if gone in
      let y : one_if (is_to q o) ≡ 0 = ap one_if new in
      let z = h.size in
      omega (arith, c, x, y, z);
}
  where
    by : (k : ℕ) → (k ≡ m) ⊎ (k ≡ m → ⊥) → is_to q (tie_at ties k) ≡ is_to q (tie_at (set ties m o) k)
    by k (inl z) = ap (λ j. is_to q (tie_at ties j)) z ∙ gone ∙ sym new
        ∙ ap (is_to q) (sym (ap (tie_at (set ties m o)) z ∙ tie_here ties m o i))
    by k (inr d) = ap (is_to q) (sym (tie_other ties m k o d))

-- a meet that another is not tied to
not_to : (q : ℕ) (t : Tie) → q ≢ t.leader.0 → is_to q (Some t) ≡ false
not_to q t d = ne_eqb t.leader.0 q (λ e. d (sym e))

-- the first follower of one meet is none of another's
apart_from : (ties : List (Option Tie)) (next prev : List ℕ) (l q at at2 : ℕ) (h : HasRow ties next prev l at)
    (j : HasRow ties next prev q at2) → q ≢ l → (k g : ℕ) → (g ≡ length ties) ⊎ (occurs g h.list ≢ 0)
    → occurs k j.list ≢ 0 → k ≢ g
apart_from ties next prev l q at at2 h j d k g (inl e) o z =
    let b = row_below next prev (length ties) (length ties) at2 j.list k j.row o in omega (arith, b, e, z)
apart_from ties next prev l q at at2 h j d k g (inr p) o z = d
    (one_leader q l (tie_at ties k) (in_row ties next prev q at2 j k o)
    (ap (λ x. is_to l (tie_at ties x)) z ∙ in_row ties next prev l at h g p))

pub linked_tied : (ties : List (Option Tie)) (first next prev counts : List ℕ) (m : ℕ) (t : Tie)
    → AreLinked ties first next prev counts → m < length ties → t.leader.0 < length ties → tie_at ties m ≡ None
    → AreLinked (set ties m (Some t)) (set first t.leader.0 m) (set next m (get_or first t.leader.0 0))
    (set (set prev m (length ties)) (get_or first t.leader.0 0) m)
    (set counts t.leader.0 (get_or counts t.leader.0 0 + 1))
linked_tied ties first next prev counts m t a i l free = record {
  long_first = length-set first t.leader.0 m ∙ a.long_first ∙ long;
  long_next = length-set next m at ∙ a.long_next ∙ long;
  long_prev = length-set (set prev m (length ties)) at m ∙ length-set prev m (length ties) ∙ a.long_prev ∙ long;
  long_counts = length-set counts t.leader.0 (get_or counts t.leader.0 0 + 1) ∙ a.long_counts ∙ long;
  leaders = λ q f h. subst (λ n. q < n) long (leads_to q f h (cases_eq f m));
  rows = λ q k. rows q (subst (λ n. q < n) (sym long) k) (cases_eq q t.leader.0);
  many = λ q k. many q (subst (λ n. q < n) (sym long) k) (cases_eq q t.leader.0);
}
  where
    long : length ties ≡ length (set ties m (Some t))
    long = sym (length-set ties m (Some t))

    at : ℕ
    at = get_or first t.leader.0 0

    gone : (q : ℕ) → is_to q (tie_at ties m) ≡ false
    gone q = ap (is_to q) free

    leads_to : (q f : ℕ) → is_to q (tie_at (set ties m (Some t)) f) ≡ true → (f ≡ m) ⊎ (f ≡ m → ⊥) → q < length ties
    leads_to q f h (inl e) = subst (λ x. x < length ties)
        (eqb-true t.leader.0 q (ap (is_to q) (sym (ap (tie_at (set ties m (Some t))) e ∙ tie_here ties m (Some t) i)) ∙ h)) l
    leads_to q f h (inr d) = a.leaders q f (ap (is_to q) (sym (tie_other ties m f (Some t) d)) ∙ h)

    rows : (q : ℕ) → q < length ties → (q ≡ t.leader.0) ⊎ (q ≡ t.leader.0 → ⊥)
        → HasRow (set ties m (Some t)) (set next m at) (set (set prev m (length ties)) at m) q
        (get_or (set first t.leader.0 m) q 0)
    rows q k (inl e) =
        let j = a.long_first in
        subst (λ x. HasRow (set ties m (Some t)) (set next m at) (set (set prev m (length ties)) at m) x
        (get_or (set first t.leader.0 m) x 0)) (sym e)
        (subst (HasRow (set ties m (Some t)) (set next m at) (set (set prev m (length ties)) at m) t.leader.0)
        (sym (get_or-set_same first t.leader.0 m 0 (omega (arith, l, j))))
        (tied_row ties first next prev counts m t a i l free))
    rows q k (inr d) =
        let h = a.rows t.leader.0 l in
        let j = a.rows q k in
        let own : (x : ℕ) → occurs x j.list ≢ 0 → x ≢ m = λ x o e. o (ap (λ y. occurs y j.list) e
        ∙ row_out ties next prev q (get_or first q 0) j m (gone q)) in
        same_row ties next prev (set next m at) (set (set prev m (length ties)) at m) m q (get_or first q 0)
        (get_or (set first t.leader.0 m) q 0) (Some t) i (gone q) (not_to q t d)
        (get_or-set_other first t.leader.0 q m 0 d) j
        (λ x o. get_or-set_other next m x at 0 (own x o))
        (λ x o. get_or-set_other (set prev m (length ties)) at x m 0
        (apart_from ties next prev t.leader.0 q at (get_or first q 0) h j d x at
        (row_first next prev (length ties) (length ties) at h.list h.row) o)
        ∙ get_or-set_other prev m x (length ties) 0 (own x o))

    many : (q : ℕ) → q < length ties → (q ≡ t.leader.0) ⊎ (q ≡ t.leader.0 → ⊥)
        → get_or (set counts t.leader.0 (get_or counts t.leader.0 0 + 1)) q 0 ≡ count_of (set ties m (Some t)) q
    many q k (inl e) =
        let c = count_set ties m q (Some t) i in
        let x : one_if (is_to q (tie_at ties m)) ≡ 0 = ap one_if (gone q) in
        let y : one_if (is_to q (Some t)) ≡ 1 = ap one_if (eq-eqb t.leader.0 q (sym e)) in
        let z = a.many q k in
        let j = a.long_counts in
        let u : get_or (set counts t.leader.0 (get_or counts t.leader.0 0 + 1)) q 0 ≡ get_or counts q 0 + 1
        = ap (λ n. get_or (set counts t.leader.0 (get_or counts t.leader.0 0 + 1)) n 0) e
        ∙ get_or-set_same counts t.leader.0 (get_or counts t.leader.0 0 + 1) 0 (omega (arith, l, j))
        ∙ ap (λ n. get_or counts n 0 + 1) (sym e) in
        omega (arith, c, x, y, z, u)
    many q k (inr d) =
        let c = count_set ties m q (Some t) i in
        let x : one_if (is_to q (tie_at ties m)) ≡ 0 = ap one_if (gone q) in
        let y : one_if (is_to q (Some t)) ≡ 0 = ap one_if (not_to q t d) in
        let z = a.many q k in
        let u = get_or-set_other counts t.leader.0 q (get_or counts t.leader.0 0 + 1) 0 d in
        omega (arith, c, x, y, z, u)

-- a meet that is untied, of its leader
untied_row : (ties : List (Option Tie)) (first next prev counts next2 prev2 : List ℕ) (m l : ℕ)
    → AreLinked ties first next prev counts → m < length ties → l < length ties → is_to l (tie_at ties m) ≡ true
    → IsTaken next prev next2 prev2 (length ties) m
    → HasRow (set ties m None) next2 prev2 l (skip next m (get_or first l 0))
untied_row ties first next prev counts next2 prev2 m l a i k to taken =
    let h = a.rows l k in
    let at = get_or first l 0 in
    let in_ : occurs m h.list ≢ 0 = λ e. let f = row_in ties next prev l at h m to in omega (arith, e, f) in
    let last : occurs (length ties) h.list ≡ 0 = by h.list (row_below next prev (length ties) (length ties) at h.list
    (length ties) h.row) in
    record {
      list = without m h.list;
      row = row_of next2 prev2 (length ties) (length (set ties m None)) (skip next m at) (without m h.list)
          (length-set ties m None)
          (row_taken next prev next2 prev2 (length ties) m (length ties) at h.list taken
          (row_apart ties next prev l at h) in_ last h.row);
      each = λ f. step h.list (row_in ties next prev l at h m to) h.each f (cases_eq f m);
      size =
          let c = count_set ties m l None i in
          let x : one_if (is_to l (tie_at ties m)) ≡ 1 = ap one_if to in
          let z = h.size in
          let w = without_long m h.list in_ in
          omega (arith, c, x, z, w);
    }
  where
    by : (xs : List ℕ) → (occurs (length ties) xs ≢ 0 → length ties < length ties) → occurs (length ties) xs ≡ 0
    by xs f = elim (cases_eq (occurs (length ties) xs) 0) [
      | inl e ↦ e
      | inr d ↦ let g = f d in absurd (omega (arith, g))
    ]

    step : (xs : List ℕ) → occurs m xs ≡ 1 → ((f : ℕ) → occurs f xs ≡ one_if (is_to l (tie_at ties f)))
        → (f : ℕ) → (f ≡ m) ⊎ (f ≡ m → ⊥)
        → occurs f (without m xs) ≡ one_if (is_to l (tie_at (set ties m None) f))
    step xs o each f (inl e) =
        let h = without_own m xs (λ z. omega (arith, o, z)) in
        let z : occurs f (without m xs) ≡ occurs m (without m xs) = ap (λ k. occurs k (without m xs)) e in
        let y : occurs f (without m xs) ≡ 0 = omega (arith, h, o, z) in
        y ∙ sym (ap (λ x. one_if (is_to l x)) (ap (tie_at (set ties m None)) e ∙ tie_here ties m None i))
    step xs o each f (inr d) = without_other m f xs d ∙ each f
        ∙ ap (λ x. one_if (is_to l x)) (sym (tie_other ties m f None d))

-- where its leader's row begins then
abbrev pub first_after : List ℕ → ℕ → ℕ → ℕ → ℕ → List ℕ
first_after first n l before after = cond (ltb before n) first (set first l after)

-- the links of those before and after it
taken_links : (next prev : List ℕ) (n m : ℕ) → length next ≡ n → length prev ≡ n
    → IsTaken next prev (set next (get_or prev m 0) (get_or next m 0)) (set prev (get_or next m 0) (get_or prev m 0)) n m
taken_links next prev n m ln lp = record {
  next_other = λ k d. get_or-set_other next (get_or prev m 0) k (get_or next m 0) 0 d;
  next_here = λ l. get_or-set_same next (get_or prev m 0) (get_or next m 0) 0 (omega (arith, l, ln));
  prev_other = λ k d. get_or-set_other prev (get_or next m 0) k (get_or prev m 0) 0 d;
  prev_here = λ l. get_or-set_same prev (get_or next m 0) (get_or prev m 0) 0 (omega (arith, l, lp));
}

pub linked_untied : (ties : List (Option Tie)) (first next prev counts : List ℕ) (m l : ℕ)
    → AreLinked ties first next prev counts → m < length ties → is_to l (tie_at ties m) ≡ true
    → AreLinked (set ties m None) (first_after first (length ties) l (get_or prev m 0) (get_or next m 0))
    (set next (get_or prev m 0) (get_or next m 0)) (set prev (get_or next m 0) (get_or prev m 0))
    (set counts l (get_or counts l 0 - 1))
linked_untied ties first next prev counts m l a i to = record {
  long_first = by (ltb before (length ties)) ∙ long;
  long_next = length-set next before after ∙ a.long_next ∙ long;
  long_prev = length-set prev after before ∙ a.long_prev ∙ long;
  long_counts = length-set counts l (get_or counts l 0 - 1) ∙ a.long_counts ∙ long;
  leaders = λ q f h. subst (λ n. q < n) long (leads_to q f h (cases_eq f m));
  rows = λ q k. rows q (subst (λ n. q < n) (sym long) k) (cases_eq q l);
  many = λ q k. many q (subst (λ n. q < n) (sym long) k) (cases_eq q l);
}
  where
    long : length ties ≡ length (set ties m None)
    long = sym (length-set ties m None)

    before : ℕ
    before = get_or prev m 0

    after : ℕ
    after = get_or next m 0

    there : l < length ties
    there = a.leaders l m to

    by : (b : Bool) → length (cond b first (set first l after)) ≡ length ties
    by true = a.long_first
    by false = length-set first l after ∙ a.long_first

    leads_to : (q f : ℕ) → is_to q (tie_at (set ties m None) f) ≡ true → (f ≡ m) ⊎ (f ≡ m → ⊥) → q < length ties
    leads_to q f h (inl e) = absurd (true-false (sym h
        ∙ ap (is_to q) (ap (tie_at (set ties m None)) e ∙ tie_here ties m None i)))
    leads_to q f h (inr d) = a.leaders q f (ap (is_to q) (sym (tie_other ties m f None d)) ∙ h)

    own : HasRow ties next prev l (get_or first l 0)
    own = a.rows l there

    in_own : occurs m own.list ≢ 0
    in_own e = let f = row_in ties next prev l (get_or first l 0) own m to in omega (arith, e, f)

    begins : (b : Bool) → ltb before (length ties) ≡ b → skip next m (get_or first l 0)
        ≡ get_or (cond b first (set first l after)) l 0
    begins b e = taken_first next prev (length ties) m l first own.list b e own.row in_own
        (let x = a.long_first in omega (arith, x, there))

    rows : (q : ℕ) → q < length ties → (q ≡ l) ⊎ (q ≡ l → ⊥)
        → HasRow (set ties m None) (set next before after) (set prev after before) q
        (get_or (first_after first (length ties) l before after) q 0)
    rows q k (inl e) =
        subst (λ x. HasRow (set ties m None) (set next before after) (set prev after before) x
        (get_or (first_after first (length ties) l before after) x 0)) (sym e)
        (subst (HasRow (set ties m None) (set next before after) (set prev after before) l)
        (begins (ltb before (length ties)) refl)
        (untied_row ties first next prev counts (set next before after) (set prev after before) m l a i there to
        (taken_links next prev (length ties) m a.long_next a.long_prev)))
    rows q k (inr d) =
        let j = a.rows q k in
        same_row ties next prev (set next before after) (set prev after before) m q (get_or first q 0)
        (get_or (first_after first (length ties) l before after) q 0) None i (away q d) refl
        (kept q d (ltb before (length ties))) j
        (λ x o. get_or-set_other next before x after 0
        (apart_from ties next prev l q (get_or first l 0) (get_or first q 0) own j d x before
        (before_in next prev (length ties) (length ties) (get_or first l 0) own.list m own.row in_own) o))
        (λ x o. get_or-set_other prev after x before 0
        (apart_from ties next prev l q (get_or first l 0) (get_or first q 0) own j d x after
        (next_in next prev (length ties) (length ties) (get_or first l 0) own.list m own.row in_own) o))
      where
        away : (q : ℕ) → (q ≡ l → ⊥) → is_to q (tie_at ties m) ≡ false
        away q d = step (is_to q (tie_at ties m)) refl
          where
            step : (b : Bool) → is_to q (tie_at ties m) ≡ b → is_to q (tie_at ties m) ≡ false
            step false e = e
            step true e = absurd (d (one_leader q l (tie_at ties m) e to))

        kept : (q : ℕ) → (q ≡ l → ⊥) → (b : Bool) → get_or (cond b first (set first l after)) q 0 ≡ get_or first q 0
        kept q d true = refl
        kept q d false = get_or-set_other first l q after 0 d

    many : (q : ℕ) → q < length ties → (q ≡ l) ⊎ (q ≡ l → ⊥)
        → get_or (set counts l (get_or counts l 0 - 1)) q 0 ≡ count_of (set ties m None) q
    many q k (inl e) =
        let c = count_set ties m q None i in
        let x : one_if (is_to q (tie_at ties m)) ≡ 1
        = ap one_if (ap (λ n. is_to n (tie_at ties m)) e ∙ to) in
        let z = a.many q k in
        let j = a.long_counts in
        let u : get_or (set counts l (get_or counts l 0 - 1)) q 0 ≡ get_or counts q 0 - 1
        = ap (λ n. get_or (set counts l (get_or counts l 0 - 1)) n 0) e
        ∙ get_or-set_same counts l (get_or counts l 0 - 1) 0 (omega (arith, there, j))
        ∙ ap (λ n. get_or counts n 0 - 1) (sym e) in
        omega (arith, c, x, z, u)
    many q k (inr d) =
        let c = count_set ties m q None i in
        let x : one_if (is_to q (tie_at ties m)) ≡ 0 = ap one_if (other (is_to q (tie_at ties m)) refl) in
        let z = a.many q k in
        let u = get_or-set_other counts l q (get_or counts l 0 - 1) 0 d in
        omega (arith, c, x, z, u)
      where
        other : (b : Bool) → is_to q (tie_at ties m) ≡ b → is_to q (tie_at ties m) ≡ false
        other false e = e
        other true e = absurd (d (one_leader q l (tie_at ties m) e to))

-- a tie is to its leader
pub to_leader : (ties : List (Option Tie)) (m : ℕ) (t : Tie) → tie_at ties m ≡ Some t
    → is_to t.leader.0 (tie_at ties m) ≡ true
to_leader ties m t e = ap (is_to t.leader.0) e ∙ eq-eqb t.leader.0 t.leader.0 refl

pub untied_none : (ties : List (Option Tie)) (m : ℕ) → tie_at ties m ≡ None → ties ≡ set ties m None
untied_none ties m e = sym (ap (set ties m) (sym e) ∙ set-get_or ties m None)

pub tied_again : (ties more : List (Option Tie)) (m : ℕ) (o : Option Tie) → more ≡ set ties m None
    → set more m o ≡ set ties m o
tied_again ties more m o e = ap (λ x. set x m o) e ∙ set-set ties m None o

pub tie_gone : (ties more : List (Option Tie)) (m : ℕ) → m < length ties → more ≡ set ties m None → tie_at more m ≡ None
tie_gone ties more m l e = ap (λ x. tie_at x m) e ∙ tie_here ties m None l

pub same_long : (ties more : List (Option Tie)) (m : ℕ) (o : Option Tie) → more ≡ set ties m o → length more ≡ length ties
same_long ties more m o e = ap length e ∙ length-set ties m o

-- whether a meet has followers, by how many
any_counted : (m : ℕ) (ties : List (Option Tie)) → ltb 0 (count_of ties m) ≡ leads ties m
any_counted m [] = refl
any_counted m (x ∷ ties) = by (is_to m x) (any_counted m ties)
  where
    by : (b : Bool) → ltb 0 (count_of ties m) ≡ leads ties m
        → ltb 0 (cond b (1 + count_of ties m) (count_of ties m)) ≡ (b || leads ties m)
    by true e = lt-ltb 0 (1 + count_of ties m) (omega arith)
    by false e = e

pub leads_many : (ties : List (Option Tie)) (m n : ℕ) → n ≡ count_of ties m → ltb 0 n ≡ leads ties m
leads_many ties m n e = ap (ltb 0) e ∙ any_counted m ties

pub leads_past : (ties : List (Option Tie)) (m : ℕ) (first next prev counts : List ℕ)
    → AreLinked ties first next prev counts → length ties ≤ m → leads ties m ≡ false
leads_past ties m first next prev counts a l = list_any_none (is_to m) ties
    (λ k d i. by k d i (is_to m (get_or ties k d)) refl)
  where
    by : (k : ℕ) (d : Option Tie) → k < length ties → (b : Bool) → is_to m (get_or ties k d) ≡ b
        → is_to m (get_or ties k d) ≡ false
    by k d i false e = e
    by k d i true e = let h = a.leaders m k (ap (is_to m) (get_or_default ties k None d i) ∙ e) in
        absurd (omega (arith, h, l))

-- a count is a small number, and that of a leader is not 0
pub count_most : (m : ℕ) (ties : List (Option Tie)) → count_of ties m ≤ length ties
count_most m [] = omega arith
count_most m (x ∷ ties) = by (is_to m x) (count_most m ties)
  where
    by : (b : Bool) → count_of ties m ≤ length ties
        → cond b (1 + count_of ties m) (count_of ties m) ≤ length (x ∷ ties)
    by true h = omega (arith, h)
    by false h = omega (arith, h)

pub count_small : (ties : List (Option Tie)) (first next prev counts : List ℕ) (m : ℕ)
    → AreLinked ties first next prev counts → m < length ties → get_or counts m 0 ≤ length ties
count_small ties first next prev counts m a l =
    let e = a.many m l in let h = count_most m ties in omega (arith, e, h)

pub count_some : (ties : List (Option Tie)) (first next prev counts : List ℕ) (m l : ℕ)
    → AreLinked ties first next prev counts → m < length ties → is_to l (tie_at ties m) ≡ true
    → 1 ≤ get_or counts l 0
count_some ties first next prev counts m l a i to =
    let c = count_set ties m l None i in
    let x : one_if (is_to l (tie_at ties m)) ≡ 1 = ap one_if to in
    let z = a.many l (a.leaders l m to) in
    omega (arith, c, x, z)

pub count_past : (ties : List (Option Tie)) (first next prev counts : List ℕ) (m : ℕ)
    → AreLinked ties first next prev counts → length ties ≤ m → count_of ties m ≡ 0
count_past ties first next prev counts m a l =
    let h = ltb-false 0 (count_of ties m) (any_counted m ties ∙ leads_past ties m first next prev counts a l) in
    omega (arith, h)

-- a number that is written beyond the end is not written
pub set_past : (xs : List ℕ) (k x : ℕ) → length xs ≤ k → set xs k x ≡ xs
set_past [] k x l = refl
set_past (y ∷ ys) zero x l = absurd (omega (arith, l))
set_past (y ∷ ys) (suc k) x l = let j : length ys ≤ k = omega (arith, l) in ap (λ zs. y ∷ zs) (set_past ys k x j)

pub untied_linked : (ties : List (Option Tie)) (first next prev counts first2 next2 prev2 : List ℕ) (m l : ℕ)
    → AreLinked ties first next prev counts → m < length ties → is_to l (tie_at ties m) ≡ true
    → first_after first (length ties) l (get_or prev m 0) (get_or next m 0) ≡ first2
    → next2 ≡ set next (get_or prev m 0) (get_or next m 0) → prev2 ≡ set prev (get_or next m 0) (get_or prev m 0)
    → AreLinked (set ties m None) first2 next2 prev2 (set counts l (get_or counts l 0 - 1))
untied_linked ties first next prev counts first2 next2 prev2 m l a i to e f g =
    subst (λ x. AreLinked (set ties m None) x next2 prev2 (set counts l (get_or counts l 0 - 1))) e
    (subst (λ x. AreLinked (set ties m None) (first_after first (length ties) l (get_or prev m 0) (get_or next m 0)) x
    prev2 (set counts l (get_or counts l 0 - 1))) (sym f)
    (subst (λ x. AreLinked (set ties m None) (first_after first (length ties) l (get_or prev m 0) (get_or next m 0))
    (set next (get_or prev m 0) (get_or next m 0)) x (set counts l (get_or counts l 0 - 1))) (sym g)
    (linked_untied ties first next prev counts m l a i to)))
