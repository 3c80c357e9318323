-- A state has one valid timetable alone: its lists are in order, so they are what the state lists.
use Rattle.std.proofs.Common.{ℕ, zero, suc, ◌≡◌, ◌≢◌, ◌+◌, ◌<◌, ◌≤◌, Bool, true, false, cond, Option, Some, None, List}
use Rattle.std.proofs.Common.{[]}
use Rattle.std.proofs.Common.{◌∷◌, length, map, refl, sym, ap, ◌∙◌, subst, arith}
use Rattle.std.specs.Prelude.{◌==◌, ◌||◌, not, All, slice_index}
use Rattle.std.specs.List.{find, list_any, range_with_len}
use Rattle.std.specs.List.Sorted.{IsStrictlyIncreasing}
use Rattle.std.specs.Option.{option_map}
use Rattle.std.proofs.lemmas.Bool.{eq-eqb, ne_eqb}
use Rattle.std.proofs.lemmas.List.Elements.{All-nil, All-head, All-tail, All-weaker}
use native.Mathlib.Decide.{ℕ_discrete}
use Rattle.khe_base.specs.declared.limits.TheConstants.{GROUPS}
use Rattle.khe_base.specs.declared.numbers.MonitorId.{MonitorId}
use Rattle.khe_engine.specs.Openings.{IsStateOf}
use Rattle.khe_engine.specs.States.{State}
use Rattle.khe_instance.specs.Evaluated.{is_detached}
use Rattle.khe_instance.specs.States.{IsGroup, IsValid}
use Rattle.khe_instance.specs.declared.parts.Parts.{Parts}
use Rattle.khe_instance.specs.declared.states.Group.{Group}
use Rattle.khe_instance.specs.declared.states.Plain.{Plain}
use Rattle.khe_told.proofs.ListingLaws.{AreRising}
use Rattle.monitor_graph.proofs.OpenLaws.{group_of}
use Rattle.monitor_graph.specs.Boards.{Grouping}
use Rattle.monitor_graph.specs.Listed.{detached_from, groups_from}
use Rattle.monitor_graph.specs.Opened.{numbered_groups}
use Rattle.parallel_repair.specs.Listed.{listed}

-- numbers that increase, from the first on
rising_at : (low n : ℕ) (ns : List ℕ) → low ≤ n → IsStrictlyIncreasing (n ∷ ns) → AreRising low (n ∷ ns)
rising_at low n [] l h = (l, tt)
rising_at low n (m ∷ ns) l h =
    let above : n < m = h 0 (omega arith) in (
      l,
      rising_at (n + 1) m ns (omega (arith, above))
          (λ k r. let next : suc k + 1 ≡ suc (k + 1) = omega arith in
          subst (λ j. slice_index (m ∷ ns) k < slice_index (n ∷ (m ∷ ns)) j) next (h (suc k) (omega (arith, r)))),
    )

rising : (ns : List ℕ) → IsStrictlyIncreasing ns → AreRising 0 ns
rising [] h = tt
rising (n ∷ ns) h = rising_at 0 n ns (omega arith) h

abbrev monitor_number : MonitorId → ℕ
monitor_number x = x.0

abbrev group_number : Group → ℕ
group_number x = x.group.0

-- whether a monitor is among others
abbrev is_in : ℕ → List MonitorId → Bool
is_in n xs = list_any (λ (x : MonitorId). x.0 == n) xs

not_in : (n low : ℕ) (xs : List MonitorId) → n < low → AreRising low (map monitor_number xs) → is_in n xs ≡ false
not_in n low [] l r = refl
not_in n low (x ∷ xs) l r =
    let from : low ≤ x.0 = r.0 in
    ap (λ b. b || is_in n xs) (ne_eqb x.0 n (λ e. omega (arith, e, l, from)))
    ∙ not_in n (x.0 + 1) xs (omega (arith, l, from)) r.1

detached_back : (low n : ℕ) (f : ℕ → Bool) (xs : List MonitorId) → AreRising low (map monitor_number xs)
    → All (λ (x : MonitorId). x.0 < low + n) xs → ((k : ℕ) → low ≤ k → f k ≡ is_in k xs)
    → detached_from low (map (λ k. not (f k)) (range_with_len low n)) ≡ xs
detached_back low zero f [] r a h = refl
detached_back low zero f (x ∷ xs) r a h = absurd (let from : low ≤ x.0 = r.0 in
    let below = All-head (λ (y : MonitorId). y.0 < low + zero) x xs a in omega (arith, from, below))
detached_back low (suc n) f [] r a h =
    let more : List Bool = map (λ k. not (f k)) (range_with_len (low + 1) n) in
    ap (λ b. detached_from low (not b ∷ more)) (h low (omega arith))
    ∙ detached_back (low + 1) n f [] tt (All-nil (λ (y : MonitorId). y.0 < low + 1 + n))
    (λ k l. h k (omega (arith, l)))
detached_back low (suc n) f (x ∷ xs) r a h =
    by (λ ys r' a' h'. detached_back (low + 1) n f ys r' a' h') (ℕ_discrete x.0 low)
  where
    more : List Bool
    more = map (λ k. not (f k)) (range_with_len (low + 1) n)

    bound : low + suc n ≡ low + 1 + n
    bound = omega arith

    all : All (λ (y : MonitorId). y.0 < low + 1 + n) (x ∷ xs)
    all = subst (λ b. All (λ (y : MonitorId). y.0 < b) (x ∷ xs)) bound a

    rest : (e : x.0 ≡ low) (back : detached_from (low + 1) more ≡ xs)
        → detached_from low (not (f low) ∷ more) ≡ x ∷ xs
    rest e back =
        ap (λ b. detached_from low (not b ∷ more))
        (h low (omega arith) ∙ ap (λ b. b || is_in low xs) (eq-eqb x.0 low e))
        ∙ (λ i. record { 0 = sym e i } ∷ back i)

    later : (d : x.0 ≢ low) (back : detached_from (low + 1) more ≡ x ∷ xs)
        → detached_from low (not (f low) ∷ more) ≡ x ∷ xs
    later d back =
        let from : low ≤ x.0 = r.0 in
        ap (λ b. detached_from low (not b ∷ more))
        (h low (omega arith) ∙ not_in low (low + 1) (x ∷ xs) (omega arith) (omega (arith, from, d), r.1)) ∙ back

    by : ((ys : List MonitorId) → AreRising (low + 1) (map monitor_number ys)
        → All (λ (y : MonitorId). y.0 < low + 1 + n) ys → ((k : ℕ) → low + 1 ≤ k → f k ≡ is_in k ys)
        → detached_from (low + 1) more ≡ ys)
        → Dec (x.0 ≡ low) → detached_from low (not (f low) ∷ more) ≡ x ∷ xs
    by back (yes e) = rest e (back xs
        (subst (λ k. AreRising (k + 1) (map monitor_number xs)) e r.1)
        (All-tail (λ (y : MonitorId). y.0 < low + 1 + n) x xs all)
        (λ k l. h k (omega (arith, l)) ∙ ap (λ b. b || is_in k xs) (ne_eqb x.0 k (λ q. omega (arith, q, e, l)))))
    by back (no d) = later d (back (x ∷ xs) (let from : low ≤ x.0 = r.0 in omega (arith, from, d), r.1) all
        (λ k l. h k (omega (arith, l))))

-- the same of groups
not_of : (n low : ℕ) (xs : List Group) → n < low → AreRising low (map group_number xs) → group_of n xs ≡ None
not_of n low [] l r = refl
not_of n low (x ∷ xs) l r =
    let from : low ≤ x.group.0 = r.0 in
    ap (λ b. option_map (λ (y : Group). y.children) (cond b (Some x) (find (λ y. y.group.0 == n) xs)))
    (ne_eqb x.group.0 n (λ e. omega (arith, e, l, from)))
    ∙ not_of n (x.group.0 + 1) xs (omega (arith, l, from)) r.1

groups_back : (low n : ℕ) (f : ℕ → Option (List MonitorId)) (xs : List Group) → AreRising low (map group_number xs)
    → All (λ (x : Group). x.group.0 < low + n) xs → ((k : ℕ) → low ≤ k → f k ≡ group_of k xs)
    → groups_from low (map f (range_with_len low n)) ≡ xs
groups_back low zero f [] r a h = refl
groups_back low zero f (x ∷ xs) r a h = absurd (let from : low ≤ x.group.0 = r.0 in
    let below = All-head (λ (y : Group). y.group.0 < low + zero) x xs a in omega (arith, from, below))
groups_back low (suc n) f [] r a h =
    ap (λ o. groups_from low (o ∷ map f (range_with_len (low + 1) n))) (h low (omega arith))
    ∙ groups_back (low + 1) n f [] tt (All-nil (λ (y : Group). y.group.0 < low + 1 + n))
    (λ k l. h k (omega (arith, l)))
groups_back low (suc n) f (x ∷ xs) r a h =
    by (λ ys r' a' h'. groups_back (low + 1) n f ys r' a' h') (ℕ_discrete x.group.0 low)
  where
    more : List (Option (List MonitorId))
    more = map f (range_with_len (low + 1) n)

    bound : low + suc n ≡ low + 1 + n
    bound = omega arith

    all : All (λ (y : Group). y.group.0 < low + 1 + n) (x ∷ xs)
    all = subst (λ b. All (λ (y : Group). y.group.0 < b) (x ∷ xs)) bound a

    chosen : (k : ℕ) (b : Bool) → option_map (λ (y : Group). y.children)
        (cond b (Some x) (find (λ y. y.group.0 == k) xs))
        ≡ cond b (Some x.children) (group_of k xs)
    chosen k true = refl
    chosen k false = refl

    here : (k : ℕ) (b : Bool) → (x.group.0 == k) ≡ b
        → group_of k (x ∷ xs) ≡ cond b (Some x.children) (group_of k xs)
    here k b e =
        ap (λ c. option_map (λ (y : Group). y.children) (cond c (Some x) (find (λ y. y.group.0 == k) xs))) e
        ∙ chosen k b

    rest : (e : x.group.0 ≡ low) (back : groups_from (low + 1) more ≡ xs) → groups_from low (f low ∷ more) ≡ x ∷ xs
    rest e back =
        ap (λ o. groups_from low (o ∷ more)) (h low (omega arith) ∙ here low true (eq-eqb x.group.0 low e))
        ∙ (λ i. record { group = record { 0 = sym e i }; children = x.children } ∷ back i)

    later : (d : x.group.0 ≢ low) (back : groups_from (low + 1) more ≡ x ∷ xs)
        → groups_from low (f low ∷ more) ≡ x ∷ xs
    later d back =
        let from : low ≤ x.group.0 = r.0 in
        ap (λ o. groups_from low (o ∷ more))
        (h low (omega arith) ∙ not_of low (low + 1) (x ∷ xs) (omega arith) (omega (arith, from, d), r.1)) ∙ back

    by : ((ys : List Group) → AreRising (low + 1) (map group_number ys)
        → All (λ (y : Group). y.group.0 < low + 1 + n) ys → ((k : ℕ) → low + 1 ≤ k → f k ≡ group_of k ys)
        → groups_from (low + 1) more ≡ ys)
        → Dec (x.group.0 ≡ low) → groups_from low (f low ∷ more) ≡ x ∷ xs
    by back (yes e) = rest e (back xs
        (subst (λ k. AreRising (k + 1) (map group_number xs)) e r.1)
        (All-tail (λ (y : Group). y.group.0 < low + 1 + n) x xs all)
        (λ k l. h k (omega (arith, l)) ∙ here k false (ne_eqb x.group.0 k (λ q. omega (arith, q, e, l)))))
    by back (no d) = later d (back (x ∷ xs) (let from : low ≤ x.group.0 = r.0 in omega (arith, from, d), r.1) all
        (λ k l. h k (omega (arith, l))))

groups_are : (n : ℕ) (xs : List Group) → AreRising 0 (map group_number xs) → All (λ (x : Group). x.group.0 < 0 + n) xs
    → groups_from 0 (numbered_groups n xs) ≡ xs
unfolding numbered_groups
groups_are n xs r a = groups_back 0 n (λ k. group_of k xs) xs r a (λ k l. refl)

detached_are : (n : ℕ) (plain : Plain) → AreRising 0 (map monitor_number plain.detached)
    → All (λ (x : MonitorId). x.0 < 0 + n) plain.detached
    → detached_from 0 (map (λ k. not (is_detached plain k)) (range_with_len 0 n)) ≡ plain.detached
detached_are n plain r a = detached_back 0 n (is_detached plain) plain.detached r a (λ k l. refl)

below_all : (n : ℕ) → n ≡ 0 + n
below_all n = omega arith

pub listed_is : (p : Parts) (plain : Plain) (s : State) → IsValid p plain → IsStateOf p plain s → plain ≡ listed s
unfolding listed
listed_is p plain s v is =
    let detached : detached_from 0 s.grouping.attached ≡ plain.detached =
    ap (λ (g : Grouping). detached_from 0 g.attached) is.grouping
    ∙ detached_are (length p.monitors) plain (rising (map monitor_number plain.detached) v.detached_once)
    (subst (λ n. All (λ (x : MonitorId). x.0 < n) plain.detached) (below_all (length p.monitors)) v.detached) in
    let groups : groups_from 0 s.grouping.groups ≡ plain.groups =
    ap (λ (g : Grouping). groups_from 0 g.groups) is.grouping
    ∙ groups_are GROUPS plain.groups (rising (map group_number plain.groups) v.groups_once)
    (subst (λ n. All (λ (x : Group). x.group.0 < n) plain.groups) (below_all GROUPS)
    (All-weaker (IsGroup p) (λ (x : Group). x.group.0 < GROUPS) (λ x g. g.number) plain.groups v.groups)) in
    λ i. record { meets = sym is.meets i; tasks = sym is.tasks i; detached = sym detached i; groups = sym groups i }
