-- Items join their groups one after another.
use Rattle.std.proofs.Common.{◌≡◌, ◌∙◌, sym, ap, ℕ, ◌+◌, ◌-◌, ◌<◌, ◌≤◌, suc, zero, arith, Bool, true, false, cond, not}
use Rattle.std.proofs.Common.{◌||◌, List, [], ◌∷◌, ◌++◌, map, length, get_or, set, replicate, Option, Some, None, refl}
use Rattle.std.proofs.Common.{if◌then◌else◌, eqb}
use Rattle.std.specs.List.{list_any, position_from, slice_get}
use Rattle.std.specs.Str.{bytes_eq}
use Rattle.std.proofs.lemmas.Bool.{true≢false, false≢true, not-true, and_parts, or_parts, eq-eqb, ne_eqb}
use Rattle.std.proofs.lemmas.Bool.{false_from_ne_true}
use Rattle.std.proofs.lemmas.Iterator.Adapters.{position_from-zero}
use Rattle.std.proofs.lemmas.List.{append-nil, append_assoc}
use Rattle.std.proofs.lemmas.List.Folds.{list_any-append, list_any_at}
use Rattle.std.proofs.lemmas.List.Quantifiers.{position-Some}
use Rattle.std.proofs.lemmas.Option.{none-some}
use Rattle.std.proofs.lemmas.Slice.Eq.{bytes_eq-Decides}
use Rattle.khe_base.specs.Names.{is_among_names, number_of, are_distinct}
use Rattle.xhstt_resolve.specs.Joined.{ends_with, with_last, joined}
use Rattle.xhstt_resolve.specs.Members.{numbers_from, numbers_where, members}

-- a test of names goes both ways
pub bytes_eq_comm : (a b : List ℕ) → bytes_eq a b ≡ false → bytes_eq b a ≡ false
bytes_eq_comm a b h = false_from_ne_true (bytes_eq b a)
    (λ e. false≢true (sym h ∙ (bytes_eq-Decides a b).1 (sym ((bytes_eq-Decides b a).0 e))))

bytes_eq_self : (a : List ℕ) → bytes_eq a a ≡ true
bytes_eq_self a = (bytes_eq-Decides a a).1 refl

-- the end of a list, as the code reads it
pub ends_with_at : (k n : ℕ) (ns : List ℕ) → Some n ≡ slice_get ns (length ns - 1) → eqb n k ≡ ends_with k ns
ends_with_at k n [] h = cc
ends_with_at k n (m ∷ []) h = let e : n ≡ m = cc in ap (λ x. eqb x k) e
ends_with_at k n (m ∷ x ∷ ns) h =
    let e : suc (suc (length ns)) - 1 ≡ suc (length ns) = omega arith in
    let r : suc (length ns) - 1 ≡ length ns = omega arith in
    ends_with_at k n (x ∷ ns) (h ∙ ap (slice_get (m ∷ x ∷ ns)) e ∙ sym (ap (slice_get (x ∷ ns)) r))

pub ends_with_none : (k : ℕ) (ns : List ℕ) → None ≡ slice_get ns (length ns - 1) → false ≡ ends_with k ns
ends_with_none k [] h = refl
ends_with_none k (m ∷ []) h = cc
ends_with_none k (m ∷ x ∷ ns) h =
    let e : suc (suc (length ns)) - 1 ≡ suc (length ns) = omega arith in
    let r : suc (length ns) - 1 ≡ length ns = omega arith in
    ends_with_none k (x ∷ ns) (h ∙ ap (slice_get (m ∷ x ∷ ns)) e ∙ sym (ap (slice_get (x ∷ ns)) r))

ends_with_push : (k : ℕ) (ns : List ℕ) → ends_with k (ns ++ k ∷ []) ≡ true
ends_with_push k [] = eq-eqb k k refl
ends_with_push k (n ∷ []) = eq-eqb k k refl
ends_with_push k (n ∷ m ∷ ns) = ends_with_push k (m ∷ ns)

-- a number that is last stays last
with_last_twice : (k : ℕ) (ns : List ℕ) → with_last k (with_last k ns) ≡ with_last k ns
with_last_twice k ns = by (ends_with k ns) refl
  where
    by : (b : Bool) → ends_with k ns ≡ b → with_last k (if b then ns else ns ++ k ∷ [])
        ≡ (if b then ns else ns ++ k ∷ [])
    by true e = ap (λ b. if b then ns else ns ++ k ∷ []) e
    by false e = ap (λ b. if b then ns ++ k ∷ [] else (ns ++ k ∷ []) ++ k ∷ []) (ends_with_push k ns)

pub length-joined : (k : ℕ) (names ids lists : List (List ℕ)) → length ids ≡ length lists
    → length (joined k names ids lists) ≡ length lists
length-joined k names [] lists h = refl
length-joined k names (id ∷ ids) [] h = refl
length-joined k names (id ∷ ids) (ns ∷ lists) h = let e : length ids ≡ length lists = omega arith in
    ap suc (length-joined k names ids lists e)

-- an item that names no group joins none
pub joined-nil : (k : ℕ) (ids lists : List (List ℕ)) → joined k [] ids lists ≡ lists
joined-nil k [] lists = refl
joined-nil k (id ∷ ids) [] = refl
joined-nil k (id ∷ ids) (ns ∷ lists) = ap (λ r. ns ∷ r) (joined-nil k ids lists)

-- what an item names can be taken in two parts
pub joined-append : (k : ℕ) (a b ids lists : List (List ℕ))
    → joined k b ids (joined k a ids lists) ≡ joined k (a ++ b) ids lists
joined-append k a b [] lists = refl
joined-append k a b (id ∷ ids) [] = refl
joined-append k a b (id ∷ ids) (ns ∷ lists) =
    (λ i. both (is_among_names id a) (is_among_names id b) i ∷ joined-append k a b ids lists i)
    ∙ ap (λ t. (if t then with_last k ns else ns) ∷ joined k (a ++ b) ids lists)
    (sym (list_any-append (λ n. bytes_eq id n) a b))
  where
    both : (x y : Bool) → (if y then with_last k (if x then with_last k ns else ns) else
        (if x then with_last k ns else ns)) ≡ (if x || y then with_last k ns else ns)
    both true true = with_last_twice k ns
    both true false = refl
    both false true = refl
    both false false = refl

-- and in three
pub joined-three : (k : ℕ) (x y z ids ls one two three : List (List ℕ)) → one ≡ joined k x ids ls
    → two ≡ joined k y ids one → three ≡ joined k z ids two → three ≡ joined k (x ++ (y ++ z)) ids ls
joined-three k x y z ids ls one two three a b c =
    c ∙ ap (joined k z ids) b ∙ joined-append k y z ids one ∙ ap (joined k (y ++ z) ids) a
    ∙ joined-append k x (y ++ z) ids ls

-- every list stays
pub length_after : (k : ℕ) (names ids ls ms : List (List ℕ)) → length ids ≡ length ls → ms ≡ joined k names ids ls
    → length ids ≡ length ms
length_after k names ids ls ms s e = s ∙ sym (ap length e ∙ length-joined k names ids ls s)

-- a name that no group has changes nothing
pub joined-absent : (k : ℕ) (id : List ℕ) (ids lists : List (List ℕ)) → is_among_names id ids ≡ false
    → joined k (id ∷ []) ids lists ≡ lists
joined-absent k id [] lists h = refl
joined-absent k id (x ∷ xs) [] h = refl
joined-absent k id (x ∷ xs) (ns ∷ lists) h =
    let parts = or_parts (bytes_eq id x) (is_among_names id xs) h in
    λ i. (if (bytes_eq_comm id x parts.0 i || false) then with_last k ns else ns) ∷ joined-absent k id xs lists parts.1
    i

-- the name of one group adds the number to its list
pub joined-at : (k g : ℕ) (id : List ℕ) (ids lists : List (List ℕ)) → g < length ids → id ≡ get_or ids g id
    → are_distinct ids ≡ true → length ids ≡ length lists
    → joined k (id ∷ []) ids lists ≡ set lists g (with_last k (get_or lists g []))
joined-at k g id [] lists l at d s = absurd (omega arith)
joined-at k g id (x ∷ xs) [] l at d s = absurd (omega arith)
joined-at k zero id (x ∷ xs) (ns ∷ lists) l at d s =
    let apart : is_among_names x xs ≡ false = not-true _
    (and_parts (not (is_among_names x xs)) (are_distinct xs) d).0 in
    let here : bytes_eq x id ≡ true = ap (bytes_eq x) at ∙ bytes_eq_self x in
    λ i. (if (here i || false) then with_last k ns else ns) ∷ joined-absent k id xs lists
    (ap (λ n. is_among_names n xs) at ∙ apart) i
joined-at k (suc g) id (x ∷ xs) (ns ∷ lists) l at d s =
    let parts = and_parts (not (is_among_names x xs)) (are_distinct xs) d in
    let below : g < length xs = omega arith in
    let same : length xs ≡ length lists = omega arith in
    let here : is_among_names id xs ≡ true = list_any_at (λ n. bytes_eq id n) xs g id below
    (ap (bytes_eq id) (sym at) ∙ bytes_eq_self id) in
    let other : bytes_eq x id ≡ false =
    false_from_ne_true _ (λ e. true≢false (sym here ∙ ap (λ n. is_among_names n xs) (sym ((bytes_eq-Decides x id).0 e))
    ∙ not-true _ parts.0))
    in
    λ i. (if (other i || false) then with_last k ns else ns) ∷ joined-at k g id xs lists below at parts.1 same i

-- a name with no number is no name of the list
absent_from : (test : List ℕ → Bool) (n : ℕ) (ids : List (List ℕ)) → position_from test n ids ≡ None
    → list_any test ids ≡ false
absent_from test n [] h = refl
absent_from test n (x ∷ xs) h = by (test x) (position_from test (n + 1) xs) (list_any test xs)
    (absent_from test (n + 1) xs) h
  where
    by : (b : Bool) (later : Option ℕ) (found : Bool) → (later ≡ None → found ≡ false) → cond b (Some n) later ≡ None
        → (b || found) ≡ false
    by true later found f e = absurd (none-some n (sym e))
    by false later found f e = f e

pub joined-unnumbered : (k : ℕ) (id : List ℕ) (ids lists : List (List ℕ)) → number_of id ids ≡ None
    → joined k (id ∷ []) ids lists ≡ lists
joined-unnumbered k id ids lists h =
    let test = λ (n : List ℕ). bytes_eq id n in
    joined-absent k id ids lists (absent_from test 0 ids (sym (position_from-zero test ids) ∙ h))

-- the number of a name is its place
pub number_of_place : (id : List ℕ) (ids : List (List ℕ)) (g : ℕ) → number_of id ids ≡ Some g
    → (g < length ids) × (id ≡ get_or ids g id)
number_of_place id ids g h =
    let p = position-Some (λ n. bytes_eq id n) ids g id h in
    (p.0, (bytes_eq-Decides id (get_or ids g id)).0 p.1)

-- whether a name is among names, by its number
pub is_among_at : (id : List ℕ) (ids : List (List ℕ)) (g : ℕ) → g < length ids → id ≡ get_or ids g id
    → is_among_names id ids ≡ true
is_among_at id ids g l at = list_any_at (λ n. bytes_eq id n) ids g id l (ap (bytes_eq id) (sym at) ∙ bytes_eq_self id)

pub is_among_none : (id : List ℕ) (ids : List (List ℕ)) → number_of id ids ≡ None → is_among_names id ids ≡ false
is_among_none id ids h = let test = λ (n : List ℕ). bytes_eq id n in
    absent_from test 0 ids (sym (position_from-zero test ids) ∙ h)

pub joined-numbered : (k g : ℕ) (id : List ℕ) (ids lists : List (List ℕ)) → number_of id ids ≡ Some g
    → are_distinct ids ≡ true → length ids ≡ length lists
    → joined k (id ∷ []) ids lists ≡ set lists g (with_last k (get_or lists g []))
joined-numbered k g id ids lists h d s = let p = number_of_place id ids g h in joined-at k g id ids lists p.0 p.1 d s

-- the numbers of one item more
module _ {X : Type 0} (test : X → Bool) where
  pub numbers_from-append : (k : ℕ) (xs ys : List X)
      → numbers_from test k (xs ++ ys) ≡ numbers_from test k xs ++ numbers_from test (k + length xs) ys
  numbers_from-append k [] ys = let e : k ≡ k + 0 = omega arith in ap (λ n. numbers_from test n ys) e
  numbers_from-append k (x ∷ xs) ys =
      let here = if test x then k ∷ [] else [] in
      let e : k + 1 + length xs ≡ k + suc (length xs) = omega arith in
      ap (λ r. here ++ r) (numbers_from-append (k + 1) xs ys)
      ∙ sym (append_assoc here (numbers_from test (k + 1) xs) (numbers_from test (k + 1 + length xs) ys))
      ∙ ap (λ n. (here ++ numbers_from test (k + 1) xs) ++ numbers_from test n ys) e

  -- all numbers are below the end
  ends_below : (j k : ℕ) (xs : List X) → k + length xs ≤ j → ends_with j (numbers_from test k xs) ≡ false
  ends_below j k [] h = refl
  ends_below j k (x ∷ xs) h = by (test x) (numbers_from test (k + 1) xs) (ends_below j (k + 1) xs (omega arith))
    where
      last : (rest : List ℕ) → ends_with j rest ≡ false → ends_with j (k ∷ rest) ≡ false
      last [] e = ne_eqb k j (λ q. omega arith)
      last (n ∷ ns) e = e

      by : (b : Bool) (rest : List ℕ) → ends_with j rest ≡ false
          → ends_with j ((if b then k ∷ [] else []) ++ rest) ≡ false
      by true rest e = last rest e
      by false rest e = e

  pub numbers_where_push : (xs : List X) (x : X)
      → numbers_where test (xs ++ x ∷ []) ≡ (if test x then with_last (length xs) (numbers_where test xs) else
      numbers_where test xs)
  numbers_where_push xs x =
      let e : 0 + length xs ≡ length xs = omega arith in
      numbers_from-append 0 xs (x ∷ [])
      ∙ ap (λ n. numbers_where test xs ++ ((if test x then n ∷ [] else []) ++ [])) e
      ∙ by (test x)
    where
      by : (b : Bool) → numbers_where test xs ++ ((if b then length xs ∷ [] else []) ++ [])
          ≡ (if b then with_last (length xs) (numbers_where test xs) else numbers_where test xs)
      by true = ap (λ b. if b then numbers_where test xs else numbers_where test xs ++ length xs ∷ [])
          (sym (ends_below (length xs) 0 xs (omega arith)))
      by false = append-nil (numbers_where test xs)

module _ {X : Type 0} (groups : X → List (List ℕ)) where
  -- the members of one item more
  pub joined-members : (xs : List X) (x : X) (ids : List (List ℕ))
      → joined (length xs) (groups x) ids (map (members groups xs) ids) ≡ map (members groups (xs ++ x ∷ [])) ids
  joined-members xs x [] = refl
  joined-members xs x (id ∷ ids) =
      λ i. sym (numbers_where_push (λ y. is_among_names id (groups y)) xs x) i ∷ joined-members xs x ids i

  -- without items no group has members
  pub members-nil : (ids : List (List ℕ)) → replicate (length ids) [] ≡ map (members groups []) ids
  members-nil [] = refl
  members-nil (id ∷ ids) = ap (λ r. [] ∷ r) (members-nil ids)
