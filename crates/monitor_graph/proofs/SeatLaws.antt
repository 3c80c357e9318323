-- What is kept of groups when one of them changes.
use Rattle.std.proofs.Common.{ℕ, ◌≡◌, ◌+◌, ◌-◌, ◌*◌, ◌<◌, ◌≤◌, zero, suc, nat_eq, nat_lt, Bool, true, false, cond, Option, Some}
use Rattle.std.proofs.Common.{None, List, [], ◌∷◌, length, map, get_or, set, slice_get, refl, sym, ap, ◌∙◌, arith}
use Rattle.std.proofs.Common.{subst, inl, inr}
use Rattle.std.specs.Prelude.{◌==◌, ◌||◌, not, is_none, is_some}
use Rattle.std.specs.List.{AllByRecursion, IsDistinct, insert, list_any, remove, position_or_len}
use Rattle.std.specs.Option.{option_and_then, option_map_or}
use Rattle.std.proofs.lemmas.Bool.{eqb-true, eqb-false, eq-eqb, ne_eqb, both_ways, lt-ltb, ltb-true, cases_lt}
use Rattle.std.proofs.lemmas.List.{length-map, length-set}
use Rattle.std.proofs.lemmas.List.Edits.{length-insert, length-remove}
use Rattle.std.proofs.lemmas.List.Sums.{get_or-le-sum_by, sum_by-cons, sum_by-insert, sum_by-le, sum_by-remove, sum_by-set, passes_at_first}
use Rattle.std.proofs.Math.Dec.{eqb}
use Rattle.std.proofs.lemmas.List.Folds.{list_any_at}
use Rattle.std.proofs.lemmas.Map.Steps.{length-le_from_distinct_below}
use Rattle.std.proofs.lemmas.Option.{slice_get-get_or, slice_get_past, slice_get_within}
use Rattle.khe_base.proofs.ListLemmas.{below_length, get-set}
use Rattle.khe_base.specs.Bits.{is_set}
use Rattle.khe_base.specs.declared.limits.TheConstants.{GROUPS, MONITORS}
use Rattle.khe_base.specs.declared.numbers.MonitorId.{MonitorId}
use Rattle.monitor_graph.proofs.ListLaws.{get-set_other}
use Rattle.monitor_graph.specs.Groups.{Groups, AreGroups, children_at, has_group, has_child, is_among, occurs}
use Rattle.monitor_graph.specs.Groups.{place_of, free_number, seated, seats_at, HaveRoom}
use Rattle.monitor_graph.specs.Seating.{bit_of, AreSeated}

-- how often a monitor is among children
pub among-occurs : (m : ℕ) (xs : List MonitorId) → is_among m xs ≡ nat_lt 0 (occurs m xs)
among-occurs m [] = refl
among-occurs m (x ∷ xs) =
    go (x.0 == m) (among-occurs m xs) ∙ ap (nat_lt 0) (sym (sum_by-cons (λ (c : MonitorId). cond (c.0 == m) 1 0) x xs))
  where
    go : (t : Bool) → is_among m xs ≡ nat_lt 0 (occurs m xs)
        → (t || is_among m xs) ≡ nat_lt 0 (cond t 1 0 + occurs m xs)
    go true h = sym (lt-ltb 0 (1 + occurs m xs) (omega arith))
    go false h = h ∙ ap (nat_lt 0) (let e : occurs m xs ≡ 0 + occurs m xs = omega arith in e)

pub among_yes : (m : ℕ) (xs : List MonitorId) → is_among m xs ≡ true → 0 < occurs m xs
among_yes m xs h = ltb-true 0 (occurs m xs) (sym (among-occurs m xs) ∙ h)

pub yes_among : (m : ℕ) (xs : List MonitorId) → 0 < occurs m xs → is_among m xs ≡ true
yes_among m xs h = among-occurs m xs ∙ lt-ltb 0 (occurs m xs) h

pub among_no : (m : ℕ) (xs : List MonitorId) → is_among m xs ≡ false → occurs m xs ≡ 0
among_no m xs h = elim (cases_lt 0 (occurs m xs))
    [ inl l ↦ absurd (both_ways (is_among m xs) h (yes_among m xs l)) | inr g ↦ omega (arith, g) ]

pub no_among : (m : ℕ) (xs : List MonitorId) → occurs m xs ≡ 0 → is_among m xs ≡ false
no_among m xs h = among-occurs m xs ∙ ap (nat_lt 0) h

-- a group that is there
abbrev pub listed : Option (Option (List MonitorId)) → List MonitorId
listed o = option_map_or (λ x. x) (option_and_then (λ x. x) o) []

there_is : (o : Option (Option (List MonitorId))) → is_some (option_and_then (λ x. x) o) ≡ true
    → o ≡ Some (Some (listed o))
there_is None h = absurd (both_ways false refl h)
there_is (Some None) h = absurd (both_ways false refl h)
there_is (Some (Some xs)) h = refl

pub group_is : (gs : Groups) (g : ℕ) → has_group gs g ≡ true → slice_get gs g ≡ Some (Some (children_at gs g))
group_is gs g h = there_is (slice_get gs g) h

pub child_in_group : (gs : Groups) (g m : ℕ) → has_child gs g m ≡ true → has_group gs g ≡ true
child_in_group gs g m h = go (slice_get gs g) h
  where
    go : (o : Option (Option (List MonitorId))) → is_among m (listed o) ≡ true
        → is_some (option_and_then (λ x. x) o) ≡ true
    go None h = absurd (both_ways false refl h)
    go (Some None) h = absurd (both_ways false refl h)
    go (Some (Some xs)) h = refl

-- the bits of two monitors and groups are two
same_bit : (m g n k : ℕ) → g < 256 → k < 256 → bit_of m g ≡ bit_of n k → (m ≡ n) × (g ≡ k)
same_bit m g n k l h e = (omega (arith, e), omega (arith, e))

-- one group has other children, where how often each is among them differs for one monitor alone
bits_set : (gs : Groups) (held held2 : List ℕ) (g v : ℕ) (o : Option (List MonitorId)) (b : Bool) → g < length gs
    → g < 256
    → ((k m : ℕ) → k < 256 → occurs m (children_at gs k) ≡ cond (is_set held (bit_of m k)) 1 0)
    → occurs v (listed (Some o)) ≡ cond b 1 0
    → ((m : ℕ) → (m ≡ v → ⊥) → occurs m (listed (Some o)) ≡ occurs m (children_at gs g))
    → ((n : ℕ) → is_set held2 n ≡ cond (nat_eq n (bit_of v g)) b (is_set held n))
    → (k m : ℕ) → k < 256 → occurs m (children_at (set gs g o) k) ≡ cond (is_set held2 (bit_of m k)) 1 0
bits_set gs held held2 g v o b there small old mine others new k m l = at_bit (nat_eq (bit_of m k) (bit_of v g)) refl
  where
    at_bit : (t : Bool) → nat_eq (bit_of m k) (bit_of v g) ≡ t
        → occurs m (children_at (set gs g o) k) ≡ cond (is_set held2 (bit_of m k)) 1 0
    at_bit true e =
        let s = same_bit m k v g l small (eqb-true (bit_of m k) (bit_of v g) e) in
        (λ i. occurs (s.0 i) (children_at (set gs g o) (s.1 i))) ∙ ap (λ x. occurs v (listed x)) (get-set gs g o there)
        ∙ mine
        ∙ ap (λ t. cond t 1 0) (sym (new (bit_of m k) ∙ ap (λ t. cond t b (is_set held (bit_of m k))) e))
    at_bit false e = at_group (nat_eq k g) refl ∙ ap (λ t. cond t 1 0)
        (sym (new (bit_of m k) ∙ ap (λ t. cond t b (is_set held (bit_of m k))) e))
      where
        at_group : (t : Bool) → nat_eq k g ≡ t → occurs m (children_at (set gs g o) k)
            ≡ cond (is_set held (bit_of m k)) 1 0
        at_group true f =
            let same = eqb-true k g f in
            let other : (m ≡ v → ⊥) = λ q. both_ways (nat_eq (bit_of m k) (bit_of v g)) e
            (eq-eqb (bit_of m k) (bit_of v g) (λ i. bit_of (q i) (same i))) in
            ap (λ j. occurs m (children_at (set gs g o) j)) same ∙ ap (λ x. occurs m (listed x)) (get-set gs g o there)
            ∙ others m other
            ∙ ap (λ j. occurs m (children_at gs j)) (sym same) ∙ old k m l
        at_group false f = ap (λ x. occurs m (listed x)) (get-set_other gs g k o (eqb-false k g f)) ∙ old k m l

known_set : (gs : Groups) (g monitors : ℕ) (o : Option (List MonitorId)) → g < length gs
    → ((k m : ℕ) → has_child gs k m ≡ true → m < monitors)
    → ((m : ℕ) → is_among m (listed (Some o)) ≡ true → m < monitors)
    → (k m : ℕ) → has_child (set gs g o) k m ≡ true → m < monitors
known_set gs g monitors o there old new k m h = at_group (nat_eq k g) refl
  where
    at_group : (t : Bool) → nat_eq k g ≡ t → m < monitors
    at_group true f = new m (sym (ap (λ j. is_among m (children_at (set gs g o) j)) (eqb-true k g f)
        ∙ ap (λ x. is_among m (listed x)) (get-set gs g o there)) ∙ h)
    at_group false f = old k m (sym (ap (λ x. is_among m (listed x)) (get-set_other gs g k o (eqb-false k g f))) ∙ h)

-- how many children there are when one group changes
pub size_of : (o : Option (List MonitorId)) → option_map_or length o 0 ≡ length (listed (Some o))
size_of None = refl
size_of (Some xs) = refl

pub seated_set : (gs : Groups) (g : ℕ) (o : Option (List MonitorId)) → g < length gs
    → seated (set gs g o) + length (children_at gs g) ≡ seated gs + length (listed (Some o))
seated_set gs g o l =
    let size : Option (List MonitorId) → ℕ = λ o. option_map_or length o 0 in
    let a = sum_by-set size gs g o None l in
    let b = size_of (get_or gs g None) ∙ ap (λ x. length (listed x)) (sym (slice_get-get_or gs g None l)) in
    let c = size_of o in
    omega (arith, a, b, c)

-- and whether there is room for them
pub room_set : (gs : Groups) (seats : List ℕ) (g : ℕ) (o : Option (List MonitorId)) → g < length gs
    → HaveRoom gs seats → length (listed (Some o)) ≤ seats_at seats g → HaveRoom (set gs g o) seats
room_set gs seats g o there old new k = go (nat_eq k g) refl
  where
    go : (t : Bool) → nat_eq k g ≡ t → length (children_at (set gs g o) k) ≤ seats_at seats k
    go true f =
        let same = eqb-true k g f in
        let a = ap (λ j. length (children_at (set gs g o) j)) same ∙ ap (λ x. length (listed x)) (get-set gs g o there) in
        let b = ap (seats_at seats) same in
        omega (arith, a, b, new)
    go false f =
        let a = ap (λ x. length (listed x)) (get-set_other gs g k o (eqb-false k g f)) in
        let b = old k in
        omega (arith, a, b)

-- a child more
pub inserted : (gs : Groups) (monitors many : ℕ) (held held2 : List ℕ) (g k : ℕ) (v : MonitorId) (xs : List MonitorId)
    → AreSeated gs monitors many held → slice_get gs g ≡ Some (Some xs) → k ≤ length xs → v.0 < monitors
    → is_among v.0 xs ≡ false → length held2 ≡ length held
    → ((n : ℕ) → is_set held2 n ≡ cond (nat_eq n (bit_of v.0 g)) true (is_set held n))
    → AreSeated (set gs g (Some (insert xs k v))) monitors (many + 1) held2
inserted gs monitors many held held2 g k v xs s h l low fresh long new =
    let there : g < length gs = slice_get_within gs g (Some xs) h in
    let small : g < 256 = (let e = s.numbers in omega (arith, there, e)) in
    let none = among_no v.0 xs fresh in
    let count : (m : ℕ) → occurs m (insert xs k v) ≡ occurs m xs + cond (v.0 == m) 1 0 =
    λ m. sum_by-insert (λ (c : MonitorId). cond (c.0 == m) 1 0) xs k v in
    let at_group = ap listed h in
    record {
      few = s.few;
      numbers = length-set gs g (Some (insert xs k v)) ∙ s.numbers;
      known = known_set gs g monitors (Some (insert xs k v)) there s.known
          (λ m a. low_or m (v.0 == m) refl (among_yes m (insert xs k v) a) (count m));
      bits = bits_set gs held held2 g v.0 (Some (insert xs k v)) true there small s.bits
          (count v.0 ∙ ap (λ t. occurs v.0 xs + cond t 1 0) (eq-eqb v.0 v.0 refl) ∙ ap (λ n. n + 1) none)
          (λ m n. count m ∙ ap (λ t. occurs m xs + cond t 1 0) (ne_eqb v.0 m (λ q. n (sym q)))
          ∙ (let z : occurs m xs + 0 ≡ occurs m xs = omega arith in z) ∙ ap (occurs m) (sym at_group))
          new;
      room = (let r = s.room in omega (arith, r, long));
      counted =
          (let a = seated_set gs g (Some (insert xs k v)) there in let b = length-insert xs k v l in
          let c = ap length at_group in let n = s.counted in omega (arith, a, b, c, n));
    }
  where
    low_or : (m : ℕ) (t : Bool) → (v.0 == m) ≡ t → 0 < occurs m (insert xs k v)
        → occurs m (insert xs k v) ≡ occurs m xs + cond (v.0 == m) 1 0 → m < monitors
    low_or m true e a c = subst (λ x. x < monitors) (eqb-true v.0 m e) low
    low_or m false e a c =
        let d : occurs m (insert xs k v) ≡ occurs m xs + 0 = c ∙ ap (λ t. occurs m xs + cond t 1 0) e in
        s.known g m (ap (λ x. is_among m (listed x)) h ∙ yes_among m xs (omega (arith, a, d)))

-- a child fewer
pub removed : (gs : Groups) (monitors many : ℕ) (held held2 : List ℕ) (g k v : ℕ) (d : MonitorId) (xs : List MonitorId)
    → AreSeated gs monitors many held → slice_get gs g ≡ Some (Some xs) → k < length xs
    → (get_or xs k d).0 ≡ v → length held2 ≡ length held
    → ((n : ℕ) → is_set held2 n ≡ cond (nat_eq n (bit_of v g)) false (is_set held n))
    → AreSeated (set gs g (Some (remove xs k))) monitors (many - 1) held2
removed gs monitors many held held2 g k v d xs s h l at_place long new =
    let there : g < length gs = slice_get_within gs g (Some xs) h in
    let small : g < 256 = (let e = s.numbers in omega (arith, there, e)) in
    let count : (m : ℕ) → occurs m (remove xs k) + cond (v == m) 1 0 ≡ occurs m xs =
    λ m. ap (λ x. occurs m (remove xs k) + cond (x == m) 1 0) (sym at_place)
    ∙ sum_by-remove (λ (c : MonitorId). cond (c.0 == m) 1 0) xs k d l in
    let at_group = ap listed h in
    let once : occurs v xs ≤ 1 = subst (λ x. occurs v x ≤ 1) at_group
    (subst (λ n. n ≤ 1) (sym (s.bits g v small)) (bit_small (is_set held (bit_of v g)))) in
    let mine : occurs v (remove xs k) ≡ 0 = (let c : occurs v (remove xs k) + 1 ≡ occurs v xs =
    ap (λ t. occurs v (remove xs k) + cond t 1 0) (sym (eq-eqb v v refl)) ∙ count v in omega (arith, c, once)) in
    record {
      few = s.few;
      numbers = length-set gs g (Some (remove xs k)) ∙ s.numbers;
      known = known_set gs g monitors (Some (remove xs k)) there s.known
          (λ m a. s.known g m (ap (λ x. is_among m (listed x)) h
          ∙ yes_among m xs (let p = among_yes m (remove xs k) a in let c = count m in omega (arith, p, c))));
      bits = bits_set gs held held2 g v (Some (remove xs k)) false there small s.bits mine
          (λ m n. (let z : occurs m (remove xs k) ≡ occurs m (remove xs k) + 0 = omega arith in z)
          ∙ ap (λ t. occurs m (remove xs k) + cond t 1 0) (sym (ne_eqb v m (λ q. n (sym q)))) ∙ count m
          ∙ ap (occurs m) (sym at_group))
          new;
      room = (let r = s.room in omega (arith, r, long));
      counted =
          (let a = seated_set gs g (Some (remove xs k)) there in let b = length-remove xs k l in
          let c = ap length at_group in let n = s.counted in omega (arith, a, b, c, n, l));
    }
  where
    bit_small : (t : Bool) → cond t 1 0 ≤ 1
    bit_small true = omega arith
    bit_small false = omega arith

-- a group without children that comes, and one that goes
pub same_children : (gs : Groups) (g : ℕ) (o : Option (List MonitorId)) → listed (Some o) ≡ [] → children_at gs g ≡ []
    → g < length gs → (k : ℕ) → children_at (set gs g o) k ≡ children_at gs k
same_children gs g o a b there k = go (nat_eq k g) refl
  where
    go : (t : Bool) → nat_eq k g ≡ t → children_at (set gs g o) k ≡ children_at gs k
    go true f = let same = eqb-true k g f in
        ap (children_at (set gs g o)) same ∙ ap listed (get-set gs g o there) ∙ a ∙ sym b
        ∙ ap (children_at gs) (sym same)
    go false f = ap listed (get-set_other gs g k o (eqb-false k g f))

pub turned : (gs : Groups) (monitors many : ℕ) (held : List ℕ) (g : ℕ) (o : Option (List MonitorId))
    → AreSeated gs monitors many held → g < length gs → listed (Some o) ≡ [] → children_at gs g ≡ []
    → AreSeated (set gs g o) monitors many held
turned gs monitors many held g o s there a b =
    let same = same_children gs g o a b there in
    record {
      few = s.few;
      numbers = length-set gs g o ∙ s.numbers;
      known = λ k m h. s.known k m (ap (is_among m) (sym (same k)) ∙ h);
      bits = λ k m l. ap (occurs m) (same k) ∙ s.bits k m l;
      room = s.room;
      counted =
          (let e = seated_set gs g o there in let c = ap length a in let d = ap length b in let n = s.counted in
          omega (arith, e, c, d, n));
    }

pub made : (gs : Groups) (monitors many : ℕ) (held : List ℕ) (g : ℕ) → AreSeated gs monitors many held
    → slice_get gs g ≡ Some None → AreSeated (set gs g (Some [])) monitors many held
made gs monitors many held g s h = turned gs monitors many held g (Some []) s (slice_get_within gs g None h) refl
    (ap listed h)

pub dropped : (gs : Groups) (monitors many : ℕ) (held : List ℕ) (g : ℕ) → AreSeated gs monitors many held
    → slice_get gs g ≡ Some (Some []) → AreSeated (set gs g None) monitors many held
dropped gs monitors many held g s h = turned gs monitors many held g None s (slice_get_within gs g (Some []) h) refl
    (ap listed h)

-- whether it has a child, by its bit; beyond the numbers of groups there are no children
pub bit_tells : (gs : Groups) (monitors many : ℕ) (held : List ℕ) (g m : ℕ) → AreSeated gs monitors many held
    → g < length gs → is_set held (bit_of m g) ≡ has_child gs g m
bit_tells gs monitors many held g m s l =
    go (is_set held (bit_of m g)) ∙ ap (nat_lt 0) (sym (s.bits g m (let f = s.numbers in omega (arith, l, f))))
    ∙ sym (among-occurs m (children_at gs g))
  where
    go : (t : Bool) → t ≡ nat_lt 0 (cond t 1 0)
    go true = refl
    go false = refl

pub no_child : (gs : Groups) (g m : ℕ) → length gs ≤ g → has_child gs g m ≡ false
no_child gs g m l = ap (λ x. is_among m (listed x)) (slice_get_past gs g l)

-- the first number of no group
pub free_is : (gs : Groups) (g : ℕ) → g ≡ free_number gs → g < length gs
    → (g ≡ free_number gs) × (slice_get gs g ≡ Some None)
free_is gs g same low = (
  same,
  (let there : position_or_len is_none gs < length gs = subst (λ n. n < length gs) same low in
      slice_get-get_or gs g None low ∙ ap Some (at_none (get_or gs g None)
      (ap (λ n. is_none (get_or gs n None)) same ∙ passes_at_first is_none gs None there))),
)
  where
    at_none : (o : Option (List MonitorId)) → is_none o ≡ true → o ≡ None
    at_none None h = refl
    at_none (Some xs) h = absurd (both_ways false refl h)

-- the place of a child
pub child_place : (xs : List MonitorId) (m : ℕ) (d : MonitorId) → is_among m xs ≡ true
    → (place_of m xs < length xs) × ((get_or xs (place_of m xs) d).0 ≡ m)
child_place xs m d h =
    let p : MonitorId → Bool = λ c. c.0 == m in
    let low : place_of m xs < length xs = ltb-true (place_of m xs) (length xs) (below_length p xs ∙ h) in
    (low, eqb-true (get_or xs (place_of m xs) d).0 m (passes_at_first p xs d low))

-- and where it stands is its place, as it stands once
pub only_place : (xs : List MonitorId) (m k : ℕ) (d : MonitorId) → k < length xs → (get_or xs k d).0 ≡ m
    → occurs m xs ≤ 1 → k ≡ place_of m xs
only_place [] m k d l e h = absurd (omega (arith, l))
only_place (x ∷ xs) m zero d l e h = sym (ap (λ t. cond (not t) (1 + place_of m xs) 0) (eq-eqb x.0 m e))
only_place (x ∷ xs) m (suc k) d l e h =
    go (x.0 == m) refl (sum_by-cons (λ (c : MonitorId). cond (c.0 == m) 1 0) x xs)
    (λ q. only_place xs m k d (omega (arith, l)) e q)
  where
    there : 0 < occurs m xs
    there = among_yes m xs (list_any_at (λ (c : MonitorId). c.0 == m) xs k d (omega (arith, l))
        (eq-eqb (get_or xs k d).0 m e))

    go : (t : Bool) → (x.0 == m) ≡ t → occurs m (x ∷ xs) ≡ cond t 1 0 + occurs m xs
        → (occurs m xs ≤ 1 → k ≡ place_of m xs)
        → suc k ≡ cond (not t) (1 + place_of m xs) 0
    go true f c r = let t = there in absurd (omega (arith, h, c, t))
    go false f c r = let q = r (omega (arith, h, c)) in omega (arith, q)

-- what callers may know
pub valid_is : (gs : Groups) (monitors many : ℕ) (held : List ℕ) → AreSeated gs monitors many held
    → AreGroups monitors gs
valid_is gs monitors many held s = record { numbers = s.numbers; known = s.known; once = once }
  where
    small : (t : Bool) → cond t 1 0 ≤ 1
    small true = omega arith
    small false = omega arith

    once : (g m : ℕ) → occurs m (children_at gs g) ≤ 1
    once g m = elim (cases_lt g 256) [
      | inl l ↦ subst (λ n. n ≤ 1) (sym (s.bits g m l)) (small (is_set held (bit_of m g)))
      | inr h ↦ subst (λ (x : List MonitorId). occurs m x ≤ 1)
          (sym (ap listed (slice_get_past gs g (let e = s.numbers in omega (arith, h, e))))) (omega arith)
    ]

-- children that stand once each are no more than there are monitors
apart_each : (m : ℕ) (xs : List MonitorId) → occurs m xs ≡ 0
    → AllByRecursion (λ y. eqb m y ≡ false) (map (λ (c : MonitorId). c.0) xs)
apart_each m [] h = tt
apart_each m (x ∷ xs) h =
    let none = sym (sum_by-cons (λ (c : MonitorId). cond (c.0 == m) 1 0) x xs) ∙ h in
    (first (x.0 == m) refl none, apart_each m xs (omega (arith, none)))
  where
    first : (t : Bool) → (x.0 == m) ≡ t → cond t 1 0 + occurs m xs ≡ 0 → eqb m x.0 ≡ false
    first true e z = absurd (omega (arith, z))
    first false e z = ne_eqb m x.0 (λ q. eqb-false x.0 m e (sym q))

distinct_each : (xs : List MonitorId) → ((m : ℕ) → occurs m xs ≤ 1) → IsDistinct eqb (map (λ (c : MonitorId). c.0) xs)
unfolding IsDistinct
distinct_each [] h = tt
distinct_each (x ∷ xs) h =
    let count : (m : ℕ) → occurs m (x ∷ xs) ≡ cond (x.0 == m) 1 0 + occurs m xs =
    λ m. sum_by-cons (λ (c : MonitorId). cond (c.0 == m) 1 0) x xs in
    let mine : occurs x.0 xs ≡ 0 = (let a = count x.0 ∙ ap (λ t. cond t 1 0 + occurs x.0 xs) (eq-eqb x.0 x.0 refl) in
    let b = h x.0 in omega (arith, a, b)) in
    (apart_each x.0 xs mine, distinct_each xs (λ m. let a = count m in let b = h m in omega (arith, a, b)))

among_mapped : (m : ℕ) (xs : List MonitorId) → list_any (eqb m) (map (λ (c : MonitorId). c.0) xs) ≡ true
    → is_among m xs ≡ true
among_mapped m [] h = h
among_mapped m (x ∷ xs) h = go (x.0 == m) refl (eqb m x.0) refl h (among_mapped m xs)
  where
    go : (t : Bool) → (x.0 == m) ≡ t → (u : Bool) → eqb m x.0 ≡ u
        → (u || list_any (eqb m) (map (λ (c : MonitorId). c.0) xs)) ≡ true
        → (list_any (eqb m) (map (λ (c : MonitorId). c.0) xs) ≡ true → is_among m xs ≡ true)
        → (t || is_among m xs) ≡ true
    go true e u f h r = refl
    go false e true f h r = absurd (eqb-false x.0 m e (sym (eqb-true m x.0 f)))
    go false e false f h r = r h

pub few_is : (gs : Groups) (monitors g : ℕ) → AreGroups monitors gs → length (children_at gs g) ≤ monitors
few_is gs monitors g v =
    let xs = children_at gs g in
    let e = length-map xs (λ (c : MonitorId). c.0) in
    let l = length-le_from_distinct_below (map (λ (c : MonitorId). c.0) xs) monitors
    (distinct_each xs (λ m. v.once g m)) (λ m h. v.known g m (among_mapped m xs h)) in
    omega (arith, e, l)

-- each child is a monitor
pub child_known : (gs : Groups) (monitors g k : ℕ) (d : MonitorId) → AreGroups monitors gs
    → k < length (children_at gs g) → (get_or (children_at gs g) k d).0 < monitors
child_known gs monitors g k d v l =
    let xs = children_at gs g in
    let x = get_or xs k d in
    v.known g x.0 (list_any_at (λ (c : MonitorId). c.0 == x.0) xs k d l (eq-eqb x.0 x.0 refl))

-- all groups together have no more children than each monitor can be one of
pub seated_few : (gs : Groups) (n : ℕ) → ((g : ℕ) → length (children_at gs g) ≤ n) → seated gs ≤ length gs * n
seated_few gs n h = sum_by-le (λ (o : Option (List MonitorId)). option_map_or length o 0) n gs each
  where
    each : (k : ℕ) (d : Option (List MonitorId)) → k < length gs → option_map_or length (get_or gs k d) 0 ≤ n
    each k d l =
        let a = size_of (get_or gs k d) ∙ ap (λ x. length (listed x)) (sym (slice_get-get_or gs k d l)) in
        let b = h k in
        omega (arith, a, b)

pub many_few : (gs : Groups) (monitors many : ℕ) (held : List ℕ) → AreSeated gs monitors many held
    → many ≤ GROUPS * MONITORS
many_few gs monitors many held s =
    let few = s.few in
    let a = seated_few gs MONITORS (λ g. let b = few_is gs monitors g (valid_is gs monitors many held s) in
    omega (arith, b, few)) in
    let b : seated gs ≤ GROUPS * MONITORS = subst (λ n. seated gs ≤ n * MONITORS) s.numbers a in
    let c = s.counted in
    omega (arith, b, c)

pub seated_at : (gs : Groups) (g : ℕ) → length (children_at gs g) ≤ seated gs
seated_at gs g = elim (cases_lt g (length gs)) [
  | inl l ↦
      (let size : Option (List MonitorId) → ℕ = λ o. option_map_or length o 0 in
      let a = get_or-le-sum_by size gs g None l in
      let b = size_of (get_or gs g None) ∙ ap (λ x. length (listed x)) (sym (slice_get-get_or gs g None l)) in
      omega (arith, a, b))
  | inr past ↦ (let e = ap (λ x. length (listed x)) (slice_get_past gs g past) in omega (arith, e))
]
