-- A grouping is given back by its plain lists, which are in order.
use Rattle.std.proofs.Common.{ℕ, zero, suc, ◌≡◌, ◌≢◌, ◌+◌, ◌<◌, ◌≤◌, Bool, true, false, cond, Option, Some, None, List}
use Rattle.std.proofs.Common.{[], ◌∷◌, ◌++◌, length, map, get_or, drop, drop-cons, refl, sym, ap, ◌∙◌, subst, arith}
use Rattle.std.specs.Prelude.{◌==◌, ◌||◌, not, All, AllPairs}
use Rattle.std.specs.List.{find, list_any, range_with_len}
use Rattle.std.specs.List.Sorted.{IsStrictlyIncreasing}
use Rattle.std.specs.Option.{option_and_then, option_map}
use Rattle.std.proofs.lemmas.Bool.{eq-eqb, ne_eqb}
use Rattle.std.proofs.lemmas.List.{append_assoc, ext_get_or, length-map}
use Rattle.std.proofs.lemmas.List.Elements.{All-nil, All-cons, All-from_get_or, All-weaker}
use Rattle.std.proofs.lemmas.List.Folds.{list_any_at}
use Rattle.std.proofs.lemmas.List.FromFn.{get_or-map-range_with_len, length-map-range_with_len}
use Rattle.std.proofs.lemmas.List.Sums.{sum_by-cons}
use Rattle.std.proofs.lemmas.Option.{slice_get-get_or}
use Rattle.khe_base.specs.declared.limits.TheConstants.{GROUPS}
use Rattle.khe_base.specs.declared.numbers.MonitorId.{MonitorId}
use Rattle.khe_instance.specs.States.{IsGroup}
use Rattle.khe_instance.specs.declared.parts.Parts.{Parts}
use Rattle.khe_instance.specs.declared.states.Group.{Group}
use Rattle.khe_instance.specs.declared.states.Plain.{Plain}
use Rattle.khe_told.specs.Valid.{AreMonitorsKept}
use Rattle.monitor_graph.proofs.OpenLaws.{at_number, group_of, long_numbered}
use Rattle.monitor_graph.proofs.SeatLaws.{among_yes}
use Rattle.monitor_graph.specs.Boards.{Board, grouping_of}
use Rattle.monitor_graph.specs.Groups.{Groups, AreGroups, children_at, group_at, has_child, is_among, occurs}
use Rattle.monitor_graph.specs.Listed.{detached_from, groups_from}
use Rattle.monitor_graph.specs.Opened.{IsGroupOf, attached_in, groups_in, numbered_groups}
use Rattle.monitor_graph.specs.declared.lines.Line.{Line}
use Rattle.khe_told.proofs.ListingLaws.{AreRising, increasing}

abbrev attached_of : Line → Bool
attached_of x = x.attached

-- one more group
groups_more : (g : ℕ) (o : Option (List MonitorId)) (rest : Groups)
    → groups_from g (o ∷ []) ++ groups_from (g + 1) rest ≡ groups_from g (o ∷ rest)
groups_more g None rest = refl
groups_more g (Some children) rest = refl

pub groups_next : (made more whole : List Group) (i : ℕ) (groups : Groups) → i < length groups
    → more ≡ made ++ groups_from i (group_at groups i ∷ [])
    → made ++ groups_from i (drop i groups) ≡ whole → more ++ groups_from (i + 1) (drop (i + 1) groups) ≡ whole
groups_next made more whole i groups l m w =
    let o = get_or groups i None in
    let rest = drop (i + 1) groups in
    let next : suc i ≡ i + 1 = omega arith in
    let left : drop i groups ≡ o ∷ rest = drop-cons groups i None l ∙ ap (λ k. o ∷ drop k groups) next in
    let here : group_at groups i ≡ o = ap (option_and_then (λ x. x)) (slice_get-get_or groups i None l) in
    ap (λ gs. gs ++ groups_from (i + 1) rest) m
    ∙ append_assoc made (groups_from i (group_at groups i ∷ [])) (groups_from (i + 1) rest)
    ∙ ap (λ gs. made ++ gs) (groups_more i (group_at groups i) rest ∙ ap (λ x. groups_from i (x ∷ rest)) here
    ∙ ap (groups_from i) (sym left))
    ∙ w

-- a monitor is in the list where it is not attached
abbrev is_in : ℕ → List MonitorId → Bool
is_in n detached = list_any (λ (d : MonitorId). d.0 == n) detached

not_below : (n low : ℕ) (attached : List Bool) → n < low → is_in n (detached_from low attached) ≡ false
not_below n low [] l = refl
not_below n low (true ∷ attached) l = not_below n (low + 1) attached (omega (arith, l))
not_below n low (false ∷ attached) l =
    ap (λ b. b || is_in n (detached_from (low + 1) attached)) (ne_eqb low n (λ e. omega (arith, e, l)))
    ∙ not_below n (low + 1) attached (omega (arith, l))

detached_at : (low k : ℕ) (attached : List Bool)
    → not (is_in (low + k) (detached_from low attached)) ≡ get_or attached k true
detached_at low k [] = refl
detached_at low zero (true ∷ attached) = ap not (not_below (low + 0) (low + 1) attached (omega arith))
detached_at low zero (false ∷ attached) =
    let same : low ≡ low + 0 = omega arith in
    ap (λ b. not (b || is_in (low + 0) (detached_from (low + 1) attached))) (eq-eqb low (low + 0) same)
detached_at low (suc k) (true ∷ attached) =
    let next : low + suc k ≡ low + 1 + k = omega arith in
    ap (λ n. not (is_in n (detached_from (low + 1) attached))) next ∙ detached_at (low + 1) k attached
detached_at low (suc k) (false ∷ attached) =
    let next : low + suc k ≡ low + 1 + k = omega arith in
    ap (λ b. not (b || is_in (low + suc k) (detached_from (low + 1) attached)))
    (ne_eqb low (low + suc k) (λ e. omega (arith, e)))
    ∙ ap (λ n. not (is_in n (detached_from (low + 1) attached))) next ∙ detached_at (low + 1) k attached

attached_back : (n : ℕ) (attached : List Bool) → n ≡ length attached
    → attached ≡ map (λ k. not (is_in k (detached_from 0 attached))) (range_with_len 0 n)
attached_back n attached all =
    let f : ℕ → Bool = λ k. not (is_in k (detached_from 0 attached)) in
    let long = length-map-range_with_len f 0 n in
    ext_get_or true attached (map f (range_with_len 0 n)) (sym (long ∙ all))
    (λ k l. let low : k < n = omega (arith, l, all) in
    let z : 0 + k ≡ k = omega arith in
    sym (get_or-map-range_with_len f 0 n k k true low z ∙ ap f (sym z) ∙ detached_at 0 k attached))

-- a group stands at its number
no_group : (n low : ℕ) (groups : Groups) → n < low → group_of n (groups_from low groups) ≡ None
no_group n low [] l = refl
no_group n low (None ∷ groups) l = no_group n (low + 1) groups (omega (arith, l))
no_group n low (Some children ∷ groups) l =
    ap (λ b. option_map (λ (x : Group). x.children)
    (cond b (Some (record { group = record { 0 = low }; children = children }))
    (find (λ x. x.group.0 == n) (groups_from (low + 1) groups))))
    (ne_eqb low n (λ e. omega (arith, e, l)))
    ∙ no_group n (low + 1) groups (omega (arith, l))

group_there : (low k : ℕ) (groups : Groups) → group_of (low + k) (groups_from low groups) ≡ get_or groups k None
group_there low k [] = refl
group_there low zero (None ∷ groups) = no_group (low + 0) (low + 1) groups (omega arith)
group_there low zero (Some children ∷ groups) =
    let same : low ≡ low + 0 = omega arith in
    ap (λ b. option_map (λ (x : Group). x.children)
    (cond b (Some (record { group = record { 0 = low }; children = children }))
    (find (λ x. x.group.0 == low + 0) (groups_from (low + 1) groups))))
    (eq-eqb low (low + 0) same)
group_there low (suc k) (None ∷ groups) =
    let next : low + suc k ≡ low + 1 + k = omega arith in
    ap (λ n. group_of n (groups_from (low + 1) groups)) next ∙ group_there (low + 1) k groups
group_there low (suc k) (Some children ∷ groups) =
    let next : low + suc k ≡ low + 1 + k = omega arith in
    ap (λ b. option_map (λ (x : Group). x.children)
    (cond b (Some (record { group = record { 0 = low }; children = children }))
    (find (λ x. x.group.0 == low + suc k) (groups_from (low + 1) groups))))
    (ne_eqb low (low + suc k) (λ e. omega (arith, e)))
    ∙ ap (λ n. group_of n (groups_from (low + 1) groups)) next ∙ group_there (low + 1) k groups

numbered_back : (n : ℕ) (groups : Groups) → n ≡ length groups → groups ≡ numbered_groups n (groups_from 0 groups)
numbered_back n groups all =
    let long = long_numbered n (groups_from 0 groups) in
    ext_get_or None groups (numbered_groups n (groups_from 0 groups)) (sym (long ∙ all))
    (λ k l. let low : k < n = omega (arith, l, all) in
    let z : 0 + k ≡ k = omega arith in
    sym (at_number n (groups_from 0 groups) k None low ∙ ap (λ j. group_of j (groups_from 0 groups)) (sym z)
    ∙ group_there 0 k groups))

-- the numbers of a list ascend, from this one on
rising_more : (low : ℕ) (ns : List ℕ) → AreRising (low + 1) ns → AreRising low ns
rising_more low [] h = tt
rising_more low (n ∷ ns) h = (let k = h.0 in omega (arith, k), h.1)

detached_rise : (low : ℕ) (attached : List Bool)
    → AreRising low (map (λ (m : MonitorId). m.0) (detached_from low attached))
detached_rise low [] = tt
detached_rise low (true ∷ attached) = rising_more low (map (λ (m : MonitorId). m.0) (detached_from (low + 1) attached))
    (detached_rise (low + 1) attached)
detached_rise low (false ∷ attached) = (omega arith, detached_rise (low + 1) attached)

groups_rise : (low : ℕ) (groups : Groups) → AreRising low (map (λ (g : Group). g.group.0) (groups_from low groups))
groups_rise low [] = tt
groups_rise low (None ∷ groups) = rising_more low (map (λ (g : Group). g.group.0) (groups_from (low + 1) groups))
    (groups_rise (low + 1) groups)
groups_rise low (Some children ∷ groups) = (omega arith, groups_rise (low + 1) groups)

-- each is a monitor, or a group of monitors
detached_known : (low many : ℕ) (attached : List Bool) → low + length attached ≤ many
    → All (λ (m : MonitorId). m.0 < many) (detached_from low attached)
detached_known low many [] l = All-nil (λ (m : MonitorId). m.0 < many)
detached_known low many (true ∷ attached) l = detached_known (low + 1) many attached (omega (arith, l))
detached_known low many (false ∷ attached) l =
    All-cons (λ (m : MonitorId). m.0 < many) (record { 0 = low }) (detached_from (low + 1) attached) (omega (arith, l))
    (detached_known (low + 1) many attached (omega (arith, l)))

children_known : (monitors : ℕ) (children : List MonitorId) → ((m : ℕ) → is_among m children ≡ true → m < monitors)
    → All (λ (m : MonitorId). m.0 < monitors) children
children_known monitors children h =
    All-from_get_or (λ (m : MonitorId). m.0 < monitors) children (record { 0 = 0 })
    (λ k l. let x = get_or children k (record { 0 = 0 }) in
    h x.0 (list_any_at (λ (c : MonitorId). c.0 == x.0) children k (record { 0 = 0 }) l (eq-eqb x.0 x.0 refl)))

children_once : (children : List MonitorId) → ((m : ℕ) → occurs m children ≤ 1) → AllPairs (λ x y. x ≢ y) children
children_once [] h i j d l r = absurd (omega (arith, r))
children_once (x ∷ xs) h i zero d l r = absurd (omega (arith, l))
children_once (x ∷ xs) h zero (suc j) d l r =
    λ e. (let below : j < length xs = omega (arith, r) in
    let there = among_yes x.0 xs (list_any_at (λ (c : MonitorId). c.0 == x.0) xs j d below
    (eq-eqb (get_or xs j d).0 x.0 (ap (λ (c : MonitorId). c.0) (sym e)))) in
    let count = sum_by-cons (λ (c : MonitorId). cond (c.0 == x.0) 1 0) x xs
    ∙ ap (λ b. cond b 1 0 + occurs x.0 xs) (eq-eqb x.0 x.0 refl) in
    let most = h x.0 in
    omega (arith, there, count, most))
children_once (x ∷ xs) h (suc i) (suc j) d l r =
    children_once xs (λ m. let count = sum_by-cons (λ (c : MonitorId). cond (c.0 == m) 1 0) x xs in let most = h m in
    omega (arith, count, most)) i j d (omega (arith, l)) (omega (arith, r))

groups_known : (low monitors : ℕ) (groups : Groups) → low + length groups ≤ GROUPS
    → ((g m : ℕ) → has_child groups g m ≡ true → m < monitors)
    → ((g m : ℕ) → occurs m (children_at groups g) ≤ 1) → All (IsGroupOf monitors) (groups_from low groups)
groups_known low monitors [] l known once = All-nil (IsGroupOf monitors)
groups_known low monitors (None ∷ groups) l known once =
    groups_known (low + 1) monitors groups (omega (arith, l)) (λ g. known (suc g)) (λ g. once (suc g))
groups_known low monitors (Some children ∷ groups) l known once =
    All-cons (IsGroupOf monitors) (record { group = record { 0 = low }; children = children })
    (groups_from (low + 1) groups)
    (record {
      number = omega (arith, l);
      children = children_known monitors children (known 0);
      once =
          children_once children (once 0);
    })
    (groups_known (low + 1) monitors groups (omega (arith, l)) (λ g. known (suc g)) (λ g. once (suc g)))

-- lists of a graph of an instance are those of a timetable
pub listed_kept : (p : Parts) (b : Board) (s : Plain) → length b.lines ≡ length p.monitors
    → AreGroups (length b.lines) b.groups
    → s.detached ≡ detached_from 0 (grouping_of b).attached → s.groups ≡ groups_from 0 b.groups → AreMonitorsKept p s
listed_kept p b s many g d e =
    let attached = (grouping_of b).attached in
    let long : 0 + length attached ≤ length p.monitors = let n = length-map b.lines attached_of in
    omega (arith, n, many) in
    let numbers : 0 + length b.groups ≤ GROUPS = let n = g.numbers in omega (arith, n) in
    record {
      detached = subst (All (λ (m : MonitorId). m.0 < length p.monitors)) (sym d)
          (detached_known 0 (length p.monitors) attached long);
      detached_once = subst (λ xs. IsStrictlyIncreasing (map (λ (m : MonitorId). m.0) xs)) (sym d)
          (increasing 0 (map (λ (m : MonitorId). m.0) (detached_from 0 attached)) (detached_rise 0 attached));
      groups = subst (All (IsGroup p)) (sym e) (All-weaker (IsGroupOf (length b.lines)) (IsGroup p)
          (λ x v. record {
            number = v.number;
            children =
                subst (λ n. All (λ (m : MonitorId). m.0 < n) x.children) many v.children;
            once = v.once;
          })
          (groups_from 0 b.groups) (groups_known 0 (length b.lines) b.groups numbers g.known g.once));
      groups_once = subst (λ xs. IsStrictlyIncreasing (map (λ (x : Group). x.group.0) xs)) (sym e)
          (increasing 0 (map (λ (x : Group). x.group.0) (groups_from 0 b.groups)) (groups_rise 0 b.groups));
    }

-- and they give back which monitors are attached, and the groups
pub listed_attached : (p : Parts) (b : Board) (s : Plain) → length b.lines ≡ length p.monitors
    → s.detached ≡ detached_from 0 (grouping_of b).attached → (grouping_of b).attached ≡ attached_in p s
listed_attached p b s many d =
    let attached = (grouping_of b).attached in
    let all : length p.monitors ≡ length attached = sym (length-map b.lines attached_of ∙ many) in
    attached_back (length p.monitors) attached all
    ∙ ap (λ xs. map (λ k. not (is_in k xs)) (range_with_len 0 (length p.monitors))) (sym d)

pub listed_groups : (b : Board) (s : Plain) → length b.groups ≡ GROUPS → s.groups ≡ groups_from 0 b.groups
    → b.groups ≡ groups_in s.groups
listed_groups b s many e = numbered_back GROUPS b.groups (sym many) ∙ ap (numbered_groups GROUPS) (sym e)
