-- Tables of roles: the first place of each role, among roles and one more.
use Rattle.std.proofs.Common.{ℕ, ◌≡◌, ◌∙◌, ◌+◌, ◌<◌, ◌≤◌, Bool, true, false, not, cond, ◌||◌, if◌then◌else◌, Option, Some, None}
use Rattle.std.proofs.Common.{List, [], ◌∷◌, ◌++◌, length, map, take, slice_get, get_or, refl, sym, ap, arith, zero, suc, ltb}
use Rattle.std.proofs.Common.{position, encode_utf8_all, max, zero-add, ◌⊎◌, inl, inr, subst, length-append}
use Rattle.std.specs.Prelude.{find, is_some}
use Rattle.std.specs.List.{list_any, position_from, position_or_len}
use Rattle.std.specs.Option.{option_or, option_map_or, option_and_then}
use Rattle.std.specs.Str.{bytes_eq}
use Rattle.std.proofs.lemmas.Bool.{true≢false, cases_Bool, lt-ltb, le-ltb, ltb-false, or_cases}
use Rattle.std.proofs.lemmas.Bool.Decides.{nat_tests}
use Rattle.std.proofs.lemmas.Iterator.Adapters.{position_from-zero}
use Rattle.std.proofs.lemmas.List.{length-map, length-take-le, map-append}
use Rattle.std.proofs.lemmas.List.Folds.{find_at, list_any-append}
use Rattle.std.proofs.lemmas.List.Quantifiers.{position-Some}
use Rattle.std.proofs.lemmas.Option.{slice_get_past, slice_get-get_or}
use Rattle.std.proofs.lemmas.Slice.Eq.{bytes_eq-Decides}
use Rattle.khe_base.proofs.ListLemmas.{get-last}
use Rattle.khe_base.specs.Names.{is_among_names, number_of, with_name}
use Rattle.khe_instance.specs.Lookups.{is_role}
use Rattle.xhstt_references.proofs.UnknownLemmas.{is_some_position}
use Rattle.xhstt_completion.specs.Tables.{Finds}
use Rattle.xhstt_completion.specs.declared.tables.RoleTable.{RoleTable}
use Rattle.xhstt_completion.proofs.CausesLemmas.{take-next}
use Rattle.xhstt_completion.proofs.PartsLemmas.{slice_get-append_left}

-- ---- first places

-- the first place in a list, and in one with one element more
from-push : {X : Type 0} (p : X → Bool) (i : ℕ) (xs : List X) (x : X)
    → position_from p i (xs ++ x ∷ [])
    ≡ option_or (position_from p i xs) (if p x then Some (i + length xs) else None)
from-push p i [] x = ap (λ k. if p x then Some k else None) (let e : i ≡ i + 0 = omega arith in e)
from-push {X} p i (y ∷ ys) x = by (p y) (from-push p (i + 1) ys x)
  where
    far : i + 1 + length ys ≡ i + length (y ∷ ys)
    far = omega arith

    by : (b : Bool) → position_from p (i + 1) (ys ++ x ∷ [])
        ≡ option_or (position_from p (i + 1) ys) (if p x then Some (i + 1 + length ys) else None)
        → cond b (Some i) (position_from p (i + 1) (ys ++ x ∷ []))
        ≡ option_or (cond b (Some i) (position_from p (i + 1) ys)) (if p x then Some (i + length (y ∷ ys)) else None)
    by true rest = refl
    by false rest = rest ∙ ap (λ k. option_or (position_from p (i + 1) ys) (if p x then Some k else None)) far

pub place-push : {X : Type 0} (p : X → Bool) (xs : List X) (x : X)
    → position p (xs ++ x ∷ []) ≡ option_or (position p xs) (if p x then Some (length xs) else None)
place-push p xs x =
    position_from-zero p (xs ++ x ∷ []) ∙ from-push p 0 xs x
    ∙ ap (λ o. option_or o (if p x then Some (0 + length xs) else None)) (sym (position_from-zero p xs))
    ∙ ap (λ k. option_or (position p xs) (if p x then Some k else None)) (zero-add (length xs))

-- the first place in a mapped list
from-map : {X Y : Type 0} (p : Y → Bool) (f : X → Y) (i : ℕ) (xs : List X)
    → position_from p i (map f xs) ≡ position_from (λ x. p (f x)) i xs
from-map p f i [] = refl
from-map p f i (x ∷ xs) = ap (cond (p (f x)) (Some i)) (from-map p f (i + 1) xs)

pub place-map : {X Y : Type 0} (p : Y → Bool) (f : X → Y) (xs : List X)
    → position p (map f xs) ≡ position (λ x. p (f x)) xs
place-map p f xs =
    position_from-zero p (map f xs) ∙ from-map p f 0 xs ∙ sym (position_from-zero (λ x. p (f x)) xs)

-- two tests that agree on all elements
from-same : {X : Type 0} (p q : X → Bool) (i : ℕ) (xs : List X) → ((x : X) → p x ≡ q x)
    → position_from p i xs ≡ position_from q i xs
from-same p q i [] h = refl
from-same p q i (x ∷ xs) h = λ j. cond (h x j) (Some i) (from-same p q (i + 1) xs h j)

pub place-same : {X : Type 0} (p q : X → Bool) (xs : List X) → ((x : X) → p x ≡ q x) → position p xs ≡ position q xs
place-same p q xs h = position_from-zero p xs ∙ from-same p q 0 xs h ∙ sym (position_from-zero q xs)

-- the element that is found stands at the first place
pub find-place : {X : Type 0} (p : X → Bool) (xs : List X)
    → find p xs ≡ option_and_then (λ k. slice_get xs k) (position p xs)
find-place {X} p xs = find_at p xs ∙ by (cases_Bool (ltb (position_or_len p xs) (length xs)))
  where
    n : ℕ
    n = position_or_len p xs

    by : (ltb n (length xs) ≡ true) ⊎ (ltb n (length xs) ≡ false)
        → slice_get xs n ≡ option_and_then (λ k. slice_get xs k) (cond (ltb n (length xs)) (Some n) None)
    by (inl e) = sym (ap (λ b. option_and_then (λ k. slice_get xs k) (cond b (Some n) None)) e)
    by (inr e) = slice_get_past xs n (ltb-false n (length xs) e)
        ∙ sym (ap (λ b. option_and_then (λ k. slice_get xs k) (cond b (Some n) None)) e)

-- an element passes among the first ones where the first place is one of theirs
any-before : {X : Type 0} (p : X → Bool) (xs : List X) (i : ℕ) → i ≤ length xs
    → list_any p (take i xs) ≡ ltb (position_or_len p xs) i
any-before p [] zero l = refl
any-before p [] (suc i) l = absurd (omega arith)
any-before p (x ∷ xs) zero l = sym (le-ltb (position_or_len p (x ∷ xs)) 0 (omega arith))
any-before {X} p (x ∷ xs) (suc i) l = by (p x) (any-before p xs i (omega arith))
  where
    by : (b : Bool) → list_any p (take i xs) ≡ ltb (position_or_len p xs) i
        → (b || list_any p (take i xs)) ≡ ltb (cond (not b) (1 + position_or_len p xs) 0) (suc i)
    by true rest = sym (lt-ltb 0 (suc i) (omega arith))
    by false rest = grind (arith, nat_tests)

pub any-early : {X : Type 0} (p : X → Bool) (xs : List X) (i : ℕ) → i ≤ length xs
    → option_map_or (λ k. ltb k i) (position p xs) false ≡ list_any p (take i xs)
any-early {X} p xs i l = by (cases_Bool (ltb n (length xs))) ∙ sym (any-before p xs i l)
  where
    n : ℕ
    n = position_or_len p xs

    by : (ltb n (length xs) ≡ true) ⊎ (ltb n (length xs) ≡ false)
        → option_map_or (λ k. ltb k i) (cond (ltb n (length xs)) (Some n) None) false ≡ ltb n i
    by (inl e) = ap (λ b. option_map_or (λ k. ltb k i) (cond b (Some n) None) false) e
    by (inr e) =
        let past : i ≤ n = omega (arith, ltb-false n (length xs) e, l) in
        ap (λ b. option_map_or (λ k. ltb k i) (cond b (Some n) None) false) e ∙ sym (le-ltb n i past)

-- one more element of a mapped list
pub mapped-next : {A B : Type 0} (f : A → B) (xs : List A) (i : ℕ) (x : A) → i < length xs → x ≡ get_or xs i x
    → map f (take (i + 1) xs) ≡ map f (take i xs) ++ f x ∷ []
mapped-next f xs i x l at = ap (map f) (take-next xs i x l at) ∙ map-append f (take i xs) (x ∷ [])

pub mapped-long : {A B : Type 0} (f : A → B) (xs : List A) (i : ℕ) → i < length xs → length (map f (take i xs)) ≡ i
mapped-long f xs i l = length-map (take i xs) f ∙ length-take-le i xs (omega (arith, l))

-- ---- tables

-- a role is found where it is among the names
number-there : (role : List ℕ) (names : List (List ℕ)) → is_some (number_of role names) ≡ is_among_names role names
number-there role names = is_some_position (λ n. bytes_eq role n) names

-- the firsts of names, as a table has them
abbrev pub AreFirsts : List ℕ → List (List ℕ) → List (Option (List ℕ)) → Type 0
AreFirsts firsts names roles = (role : List ℕ)
    → option_and_then (λ n. slice_get firsts n) (number_of role names) ≡ position (is_role role) roles

-- nothing else is chosen where there is nothing else
pub or-none : {X : Type 0} (o : Option X) → option_or o None ≡ o
or-none None = refl
or-none (Some x) = refl

-- no role more
pub firsts-none : (firsts : List ℕ) (names : List (List ℕ)) (roles : List (Option (List ℕ))) → AreFirsts firsts names roles
    → AreFirsts firsts names (roles ++ None ∷ [])
firsts-none firsts names roles h role =
    h role ∙ sym (or-none (position (is_role role) roles)) ∙ sym (place-push (is_role role) roles None)

-- a role that is among the names already
pub firsts-old : (firsts : List ℕ) (names : List (List ℕ)) (roles : List (Option (List ℕ))) (x : List ℕ)
    → length firsts ≡ length names → AreFirsts firsts names roles → is_among_names x names ≡ true
    → AreFirsts firsts names (roles ++ Some x ∷ [])
firsts-old firsts names roles x many h among role =
    h role ∙ sym (by (bytes_eq role x) refl) ∙ sym (place-push (is_role role) roles (Some x))
  where
    place : Option ℕ
    place = position (is_role role) roles

    some : (o : Option ℕ) → is_some o ≡ true → (q : Option ℕ) → option_or o q ≡ o
    some None e q = absurd (true≢false (sym e))
    some (Some k) e q = refl

    found : (o : Option ℕ) → number_of role names ≡ o → is_some o ≡ true → is_some place ≡ true
    found None at e = absurd (true≢false (sym e))
    found (Some n) at e =
        let within : n < length firsts =
        omega (arith, (position-Some (λ (m : List ℕ). bytes_eq role m) names n [] at).0, many) in
        let first : place ≡ Some (get_or firsts n 0) =
        sym (h role) ∙ ap (option_and_then (λ k. slice_get firsts k)) at ∙ slice_get-get_or firsts n 0 within in
        ap is_some first

    by : (b : Bool) → bytes_eq role x ≡ b → option_or place (if b then Some (length roles) else None) ≡ place
    by false e = or-none place
    by true e =
        let same : role ≡ x = (bytes_eq-Decides role x).0 e in
        let there : is_some (number_of role names) ≡ true =
        number-there role names ∙ ap (λ r. is_among_names r names) same ∙ among in
        some place (found (number_of role names) refl there) (Some (length roles))

-- a role that goes last
pub firsts-new : (firsts : List ℕ) (names : List (List ℕ)) (roles : List (Option (List ℕ))) (x : List ℕ)
    → length firsts ≡ length names → AreFirsts firsts names roles
    → AreFirsts (firsts ++ length roles ∷ []) (names ++ x ∷ []) (roles ++ Some x ∷ [])
firsts-new firsts names roles x many h role =
    ap (option_and_then (λ n. slice_get later n)) (place-push (λ n. bytes_eq role n) names x)
    ∙ by (number_of role names) refl (bytes_eq role x)
    ∙ sym (place-push (is_role role) roles (Some x))
  where
    later : List ℕ
    later = firsts ++ length roles ∷ []

    place : Option ℕ
    place = position (is_role role) roles

    last : slice_get later (length names) ≡ Some (length roles)
    last = ap (slice_get later) (sym many) ∙ get-last firsts (length roles)

    by : (o : Option ℕ) → number_of role names ≡ o → (b : Bool)
        → option_and_then (λ n. slice_get later n) (option_or o (if b then Some (length names) else None))
        ≡ option_or place (if b then Some (length roles) else None)
    by None at b =
        let none : place ≡ None = sym (h role) ∙ ap (option_and_then (λ k. slice_get firsts k)) at in
        new b ∙ ap (λ o. option_or o (if b then Some (length roles) else None)) (sym none)
      where
        new : (b : Bool) → option_and_then (λ n. slice_get later n) (if b then Some (length names) else None)
            ≡ (if b then Some (length roles) else None)
        new true = last
        new false = refl
    by (Some n) at b =
        let within : n < length firsts =
        omega (arith, (position-Some (λ (m : List ℕ). bytes_eq role m) names n [] at).0, many) in
        let first : place ≡ Some (get_or firsts n 0) =
        sym (h role) ∙ ap (option_and_then (λ k. slice_get firsts k)) at ∙ slice_get-get_or firsts n 0 within in
        slice_get-append_left firsts (length roles ∷ []) n within
        ∙ slice_get-get_or firsts n 0 within
        ∙ sym (ap (λ o. option_or o (if b then Some (length roles) else None)) first)

-- the longest name
abbrev pub AreShort : ℕ → List (List ℕ) → Type 0
AreShort longest names = (role : List ℕ) → is_among_names role names ≡ true
    → length (encode_utf8_all role) ≤ longest

pub short-more : (longest : ℕ) (names : List (List ℕ)) (x : List ℕ) → AreShort longest names
    → AreShort (max longest (length (encode_utf8_all x))) (with_name x names)
short-more longest names x h role among = by (is_among_names x names) among
  where
    size : ℕ
    size = length (encode_utf8_all x)

    old : is_among_names role names ≡ true → length (encode_utf8_all role) ≤ max longest size
    old e = omega (arith, h role e)

    own : (b : Bool) → bytes_eq role x ≡ b → (b || false) ≡ true → length (encode_utf8_all role) ≤ max longest size
    own false at e = absurd (true≢false (sym e))
    own true at e =
        let same : length (encode_utf8_all role) ≡ size =
        ap (λ r. length (encode_utf8_all r)) ((bytes_eq-Decides role x).0 at) in
        omega (arith, same)

    by : (b : Bool) → is_among_names role (if b then names else names ++ x ∷ []) ≡ true
        → length (encode_utf8_all role) ≤ max longest size
    by true e = old e
    by false e = elim (or_cases (is_among_names role names) (bytes_eq role x || false)
        (sym (list_any-append (λ n. bytes_eq role n) names (x ∷ [])) ∙ e)) [
          | inl mine ↦ old mine
          | inr last ↦ own (bytes_eq role x) refl last
        ]

-- a name that is longer than all is none
pub long-none : (longest : ℕ) (names : List (List ℕ)) (role : List ℕ) → AreShort longest names
    → longest < length (encode_utf8_all role) → number_of role names ≡ None
long-none longest names role h l = by (number_of role names) (number-there role names)
  where
    by : (o : Option ℕ) → is_some o ≡ is_among_names role names → o ≡ None
    by None e = refl
    by (Some n) e = absurd (let short = h role (sym e) in omega (arith, short, l))

-- a table of none, one with a role more, and one with none more
pub finds-nothing : (t : RoleTable) → t.names ≡ [] → t.firsts.items ≡ [] → Finds t []
finds-nothing t names firsts = record {
  many = ap length firsts ∙ sym (ap length names);
  first = λ role. ap (λ ns. option_and_then (λ n. slice_get t.firsts.items n) (number_of role ns)) names;
  short = λ role among. absurd (true≢false (sym (sym (ap (is_among_names role) names) ∙ among)));
}

pub finds-none : (t : RoleTable) (roles : List (Option (List ℕ))) → Finds t roles → Finds t (roles ++ None ∷ [])
finds-none t roles h = record {
  many = h.many;
  first = firsts-none t.firsts.items t.names roles h.first;
  short = h.short;
}

pub finds-old : (t u : RoleTable) (roles : List (Option (List ℕ))) (x : List ℕ) → Finds t roles
    → is_among_names x t.names ≡ true → u.names ≡ with_name x t.names → u.firsts.items ≡ t.firsts.items
    → u.longest ≡ max t.longest (length (encode_utf8_all x)) → Finds u (roles ++ Some x ∷ [])
finds-old t u roles x h among names firsts longest =
    let same : t.names ≡ u.names = sym (ap (λ b. if b then t.names else t.names ++ x ∷ []) among) ∙ sym names in
    record {
      many = ap length firsts ∙ h.many ∙ ap length same;
      first = subst (λ ns. AreFirsts u.firsts.items ns (roles ++ Some x ∷ [])) same
          (subst (λ fs. AreFirsts fs t.names (roles ++ Some x ∷ [])) (sym firsts)
          (firsts-old t.firsts.items t.names roles x h.many h.first among));
      short = subst (λ n. AreShort n u.names) (sym longest)
          (subst (AreShort (max t.longest (length (encode_utf8_all x)))) (sym names)
          (short-more t.longest t.names x h.short));
    }

pub finds-new : (t u : RoleTable) (roles : List (Option (List ℕ))) (x : List ℕ) → Finds t roles
    → is_among_names x t.names ≡ false → u.names ≡ with_name x t.names
    → u.firsts.items ≡ t.firsts.items ++ length roles ∷ []
    → u.longest ≡ max t.longest (length (encode_utf8_all x)) → Finds u (roles ++ Some x ∷ [])
finds-new t u roles x h fresh names firsts longest =
    let more : t.names ++ x ∷ [] ≡ u.names =
    sym (ap (λ b. if b then t.names else t.names ++ x ∷ []) fresh) ∙ sym names in
    record {
      many = ap length firsts ∙ length-append t.firsts.items (length roles ∷ []) ∙ ap (λ n. n + 1) h.many
          ∙ sym (length-append t.names (x ∷ [])) ∙ ap length more;
      first = subst (λ ns. AreFirsts u.firsts.items ns (roles ++ Some x ∷ [])) more
          (subst (λ fs. AreFirsts fs (t.names ++ x ∷ []) (roles ++ Some x ∷ [])) (sym firsts)
          (firsts-new t.firsts.items t.names roles x h.many h.first));
      short = subst (λ n. AreShort n u.names) (sym longest)
          (subst (AreShort (max t.longest (length (encode_utf8_all x)))) (sym names)
          (short-more t.longest t.names x h.short));
    }

-- a role that is longer than all of a table has no place
pub finds-long : (t : RoleTable) (roles : List (Option (List ℕ))) (role : List ℕ) → Finds t roles
    → t.longest < length (encode_utf8_all role) → None ≡ position (is_role role) roles
finds-long t roles role h l =
    sym (ap (option_and_then (λ n. slice_get t.firsts.items n)) (long-none t.longest t.names role h.short l))
    ∙ h.first role
