-- What stands when a graph is opened.
use Rattle.std.proofs.Common.{ℕ, zero, suc, ◌≡◌, ◌≢◌, ◌+◌, ◌*◌, ◌/◌, ◌<◌, ◌≤◌, nat_lt, Bool, true, false, cond, Option}
use Rattle.std.proofs.Common.{Some, None, List, [], ◌∷◌, length, map, get_or, set, set-set, slice_get, take, replicate}
use Rattle.std.proofs.Common.{sum, refl, sym, ap, ◌∙◌, subst, arith, inl, inr}
use Rattle.std.specs.Prelude.{◌==◌, not, All, AllPairs}
use Rattle.std.specs.List.{find, insert, list_any, range_with_len, sum_by}
use Rattle.std.specs.List.Sorted.{IsStrictlyIncreasing}
use Rattle.std.specs.Option.{option_map, option_map_or, option_or}
use Rattle.std.proofs.lemmas.Bool.{eqb-true, eqb-false, eq-eqb, ne_eqb, both_ways, cases_lt}
use Rattle.std.proofs.lemmas.List.{ext_get_or, get_or-take, length-map, length-replicate, length-set, length-take}
use Rattle.std.proofs.lemmas.List.{take_more, get_or-map, get_or-set_same, get_or-set_other, set-get_or}
use Rattle.std.proofs.lemmas.List.Edits.{insert_end}
use Rattle.std.proofs.lemmas.List.Elements.{All-get_or, All-cons, All-from_get_or, All-tail, All-weaker}
use Rattle.std.proofs.lemmas.List.Folds.{find-append, list_any_none}
use Rattle.std.proofs.lemmas.List.FromFn.{get_or-map-range_with_len, length-map-range_with_len}
use Rattle.std.proofs.lemmas.List.Kept.{AllPairs-from_increasing}
use Rattle.std.proofs.lemmas.List.Sums.{sum_by-cons, sum-map}
use Rattle.std.proofs.lemmas.Option.{get_or_from_slice_get, slice_get-get_or, slice_get_past, slice_get_within}
use Rattle.khe_base.proofs.BitsLemmas.{is_set-zeros}
use Rattle.khe_base.proofs.ListLemmas.{all-there, get-set}
use Rattle.khe_base.specs.Bits.{is_set}
use Rattle.khe_base.specs.Costs.{cost_of}
use Rattle.khe_base.specs.declared.costs.CostFn.{CostFn}
use Rattle.khe_base.specs.declared.costs.CostFn.TheVariants.{Linear, Quadratic, Step}
use Rattle.khe_base.specs.declared.limits.TheConstants.{GROUPS, MONITORS}
use Rattle.khe_base.specs.declared.numbers.MonitorId.{MonitorId}
use Rattle.khe_instance.specs.Evaluated.{is_detached}
use Rattle.khe_instance.specs.States.{IsGroup}
use Rattle.khe_instance.specs.WellMade.{AreWellMade, IsConstraint, IsMonitor}
use Rattle.khe_instance.specs.declared.parts.Parts.{Parts}
use Rattle.khe_instance.specs.declared.points.Monitor.{Monitor}
use Rattle.khe_instance.specs.declared.rules.Constraint.{Constraint}
use Rattle.khe_instance.specs.declared.states.Group.{Group}
use Rattle.khe_instance.specs.declared.states.Plain.{Plain}
use Rattle.monitor_graph.proofs.DearerLaws.{marked_now}
use Rattle.monitor_graph.proofs.SeatLaws.{listed}
use Rattle.monitor_graph.specs.Boards.{rate_of}
use Rattle.monitor_graph.specs.Dearer.{AreCompared}
use Rattle.monitor_graph.specs.Defects.{AreDefects}
use Rattle.monitor_graph.specs.Groups.{Groups, children_at, is_among, occurs, seated, HaveRoom}
use Rattle.monitor_graph.specs.Lines.{line_cost, hard_cost, soft_cost, line_costs, is_defect_at, IsLine, AreTotalled}
use Rattle.monitor_graph.specs.Opened.{IsFresh, IsGroupOf, attached_in, line_for, line_of, lines_in, no_line}
use Rattle.monitor_graph.specs.Opened.{numbered_groups, rates_in}
use Rattle.monitor_graph.specs.Seating.{Sitting, groups_on, bit_of, AreSeated}
use Rattle.monitor_graph.specs.declared.lines.Line.{Line}

-- no groups
pub none_at : (n g : ℕ) → children_at (replicate n None) g ≡ []
none_at zero g = refl
none_at (suc n) zero = refl
none_at (suc n) (suc g) = none_at n g

none_from : (a n : ℕ) → map (λ (g : ℕ). option_map (λ (x : Group). x.children) (find (λ x. x.group.0 == g) []))
    (range_with_len a n) ≡ replicate n None
none_from a zero = refl
none_from a (suc n) = ap (λ xs. None ∷ xs) (none_from (a + 1) n)

pub none_numbered : (n : ℕ) → numbered_groups n [] ≡ replicate n None
unfolding numbered_groups
none_numbered n = none_from 0 n

none_benches : (n : ℕ) → groups_on (replicate n (record { group = None; seats = 0 })) ≡ replicate n None
none_benches zero = refl
none_benches (suc n) = ap (λ xs. None ∷ xs) (none_benches n)

none_seated : (n : ℕ) → seated (replicate n None) ≡ 0
none_seated zero = refl
none_seated (suc n) =
    let e = none_seated n in
    let a = sum_by-cons (λ (o : Option (List MonitorId)). option_map_or length o 0) None (replicate n None) in
    omega (arith, a, e)

-- benches that no one sits on are seen as no groups
pub opened_groups : (n : ℕ) (benches : List Sitting) → benches ≡ replicate n (record { group = None; seats = 0 })
    → groups_on benches ≡ numbered_groups n []
opened_groups n benches e = ap groups_on e ∙ none_benches n ∙ sym (none_numbered n)

pub opened : (n monitors : ℕ) (benches : List Sitting) (held : List ℕ) → n ≡ GROUPS → monitors ≤ MONITORS
    → benches ≡ replicate n (record { group = None; seats = 0 }) → held ≡ replicate (4 * monitors) 0
    → AreSeated (groups_on benches) monitors 0 held
opened n monitors benches held all few a c =
    subst (λ gs. AreSeated gs monitors 0 held) (sym (ap groups_on a ∙ none_benches n))
    record {
      few = few;
      numbers = length-replicate n None ∙ all;
      known = λ g m h. absurd (both_ways false refl (sym (ap (is_among m) (none_at n g)) ∙ h));
      bits = λ g m l. ap (occurs m) (none_at n g) ∙ ap (λ t. cond t 1 0)
          (sym (ap (λ w. is_set w (bit_of m g)) c ∙ is_set-zeros (4 * monitors) (bit_of m g)));
      room = (let l = ap length c ∙ length-replicate (4 * monitors) 0 in omega (arith, l));
      counted = sym (none_seated n);
    }

pub opened_room : (n : ℕ) (benches : List Sitting) (seats : List ℕ)
    → benches ≡ replicate n (record { group = None; seats = 0 }) → HaveRoom (groups_on benches) seats
opened_room n benches seats a g =
    let e = ap (λ gs. length (children_at gs g)) (ap groups_on a ∙ none_benches n) ∙ ap length (none_at n g) in
    omega (arith, e)

-- fresh lines cost nothing
no_cost : (f : CostFn) (w : ℕ) → cost_of f w 0 ≡ 0
no_cost Linear w = omega arith
no_cost Quadratic w = omega arith
no_cost Step w = refl

fresh_cost : (x : Line) → IsFresh x → line_cost x ≡ 0
fresh_cost x h = go x.attached (ap (cost_of x.function x.weight) h.1 ∙ no_cost x.function x.weight)
  where
    go : (t : Bool) → cost_of x.function x.weight x.deviation ≡ 0
        → cond t (cost_of x.function x.weight x.deviation) 0 ≡ 0
    go true e = e
    go false e = refl

fresh_hard : (x : Line) → IsFresh x → hard_cost x ≡ 0
fresh_hard x h = go x.required (fresh_cost x h)
  where
    go : (t : Bool) → line_cost x ≡ 0 → cond t (line_cost x) 0 ≡ 0
    go true e = e
    go false e = refl

fresh_soft : (x : Line) → IsFresh x → soft_cost x ≡ 0
fresh_soft x h = go x.required (fresh_cost x h)
  where
    go : (t : Bool) → line_cost x ≡ 0 → cond t 0 (line_cost x) ≡ 0
    go true e = refl
    go false e = e

zeros_of : (f : Line → ℕ) → ((x : Line) → IsFresh x → f x ≡ 0) → (lines : List Line) → All IsFresh lines
    → map f lines ≡ replicate (length lines) 0
zeros_of f z [] h = refl
zeros_of f z (x ∷ xs) h = λ i. z x (All-get_or IsFresh (x ∷ xs) 0 x (omega arith) h) i ∷ zeros_of f z xs
    (All-tail IsFresh x xs h) i

sum_zeros : (n : ℕ) → sum (replicate n 0) ≡ 0
sum_zeros zero = refl
sum_zeros (suc n) = sum_by-cons (λ (x : ℕ). x) 0 (replicate n 0) ∙ (let e = sum_zeros n in omega (arith, e))

sum_none : (f : Line → ℕ) → ((x : Line) → IsFresh x → f x ≡ 0) → (lines : List Line) → All IsFresh lines
    → sum_by f lines ≡ 0
sum_none f z lines h = sym (sum-map f lines) ∙ ap sum (zeros_of f z lines h) ∙ sum_zeros (length lines)

pub fresh_totalled : (lines : List Line) → length lines ≤ MONITORS → All IsFresh lines → AreTotalled lines 0 0
fresh_totalled lines few h = record {
  few = few;
  each = All-weaker IsFresh IsLine (λ x f. (f.0, (let e = f.1 in omega (arith, e)))) lines h;
  hard = sym (sum_none hard_cost fresh_hard lines h);
  soft = sym (sum_none soft_cost fresh_soft lines h);
}

no_defect : (lines : List Line) (m : ℕ) → All IsFresh lines → is_defect_at lines m ≡ false
no_defect lines m h = elim (cases_lt m (length lines)) [
  | inl l ↦ ap (λ x. option_map_or (λ (y : Line). nat_lt 0 (line_cost y)) x false) (slice_get-get_or lines m first l)
      ∙ ap (nat_lt 0) (fresh_cost (get_or lines m first) (All-get_or IsFresh lines m first l h))
  | inr g ↦ ap (λ x. option_map_or (λ (y : Line). nat_lt 0 (line_cost y)) x false) (slice_get_past lines m g)
]
  where
    first : Line
    first = record { function = Linear; weight = 0; required = false; attached = false; deviation = 0 }

pub fresh_defects : (lines : List Line) (words summary : List ℕ) → length lines ≤ MONITORS → All IsFresh lines
    → words ≡ replicate (length lines / 64 + 1) 0 → summary ≡ replicate ((length lines / 64 + 1) / 64 + 1) 0
    → AreDefects lines words summary
fresh_defects lines words summary few h w s =
    let clear = λ (m : ℕ). ap (λ xs. is_set xs m) w ∙ is_set-zeros (length lines / 64 + 1) m in
    let long = ap length w ∙ length-replicate (length lines / 64 + 1) 0 in
    let short = ap length s ∙ length-replicate ((length lines / 64 + 1) / 64 + 1) 0 in
    record {
      summed = λ m t. absurd (both_ways (is_set words m) (clear m) t);
      bits = λ m. clear m ∙ sym (no_defect lines m h);
      room = omega (arith, long);
      summary_room = omega (arith, long, short);
      few = omega (arith, long, few);
      summary_few = omega (arith, short, few);
    }

pub fresh_marked : (lines : List Line) (marked : List ℕ) → All IsFresh lines → marked ≡ replicate (length lines) 0
    → marked ≡ line_costs lines
fresh_marked lines marked h m = m ∙ sym (zeros_of line_cost fresh_cost lines h)

pub fresh_compared : (lines : List Line) (marked : List ℕ) → length lines ≤ MONITORS → All IsFresh lines
    → marked ≡ replicate (length lines) 0 → AreCompared (line_costs lines) marked 0 0
fresh_compared lines marked few h m =
    let long = length-map lines line_cost in
    marked_now (line_costs lines) marked (omega (arith, few, long)) (m ∙ sym (zeros_of line_cost fresh_cost lines h))

-- children that are put into a group one by one
pub put_none : (gs : Groups) (g : ℕ) → slice_get gs g ≡ Some (Some []) → gs ≡ set gs g (Some [])
put_none gs g h = sym (ap (set gs g) (sym (get_or_from_slice_get gs g (Some []) (Some []) h))
    ∙ set-get_or gs g (Some []))

pub put_at : (gs : Groups) (g : ℕ) (xs : List MonitorId) → slice_get gs g ≡ Some (Some [])
    → slice_get (set gs g (Some xs)) g ≡ Some (Some xs)
put_at gs g xs h = get-set gs g (Some xs) (slice_get_within gs g (Some []) h)

pub put_children : (gs : Groups) (g : ℕ) (xs : List MonitorId) → slice_get gs g ≡ Some (Some [])
    → children_at (set gs g (Some xs)) g ≡ xs
put_children gs g xs h = ap listed (put_at gs g xs h)

pub put_fresh : (xs : List MonitorId) (i : ℕ) (d : MonitorId) → AllPairs (λ x y. x ≢ y) xs → i < length xs
    → is_among (get_or xs i d).0 (take i xs) ≡ false
put_fresh xs i d h l = list_any_none (λ (c : MonitorId). c.0 == (get_or xs i d).0) (take i xs)
    (All-from_get_or (λ (c : MonitorId). (c.0 == (get_or xs i d).0) ≡ false) (take i xs) d
    (λ k m. let low : k < i = (let t = length-take i xs in omega (arith, m, t, l)) in
    ne_eqb (get_or (take i xs) k d).0 (get_or xs i d).0
    (λ q. h k i d low l (same (get_or xs k d) (get_or xs i d)
    (ap (λ (c : MonitorId). c.0) (sym (get_or-take i xs k d low)) ∙ q)))))
  where
    same : (x y : MonitorId) → x.0 ≡ y.0 → x ≡ y
    same x y e = λ i. record { 0 = e i }

pub put_more : (gs : Groups) (g i : ℕ) (xs : List MonitorId) (d : MonitorId) → slice_get gs g ≡ Some (Some [])
    → i < length xs
    → set (set gs g (Some (take i xs))) g (Some (insert (children_at (set gs g (Some (take i xs))) g) i
    (get_or xs i d))) ≡ set gs g (Some (take (i + 1) xs))
put_more gs g i xs d h l =
    let e = length-take i xs in
    let long : length (take i xs) ≡ i = omega (arith, e, l) in
    set-set gs g (Some (take i xs)) (Some (insert (children_at (set gs g (Some (take i xs))) g) i (get_or xs i d)))
    ∙ ap (λ ys. set gs g (Some (insert ys i (get_or xs i d)))) (put_children gs g (take i xs) h)
    ∙ ap (λ n. set gs g (Some (insert (take i xs) n (get_or xs i d)))) (sym long)
    ∙ ap (λ ys. set gs g (Some ys)) (insert_end (take i xs) (get_or xs i d) ∙ sym (take_more xs i d l))

-- groups that are made one by one
abbrev pub group_of : ℕ → List Group → Option (List MonitorId)
group_of n groups = option_map (λ (x : Group). x.children) (find (λ x. x.group.0 == n) groups)

pub at_number : (many : ℕ) (groups : List Group) (n : ℕ) (d : Option (List MonitorId)) → n < many
    → get_or (numbered_groups many groups) n d ≡ group_of n groups
unfolding numbered_groups
at_number many groups n d l = get_or-map-range_with_len (λ k. group_of k groups) 0 many n n d l (omega arith)

pub long_numbered : (many : ℕ) (groups : List Group) → length (numbered_groups many groups) ≡ many
unfolding numbered_groups
long_numbered many groups = length-map-range_with_len (λ k. group_of k groups) 0 many

no_find : (p : Group → Bool) (xs : List Group) (d : Group) → ((k : ℕ) → k < length xs → p (get_or xs k d) ≡ false)
    → find p xs ≡ None
no_find p [] d f = refl
no_find p (x ∷ xs) d f = ap (λ t. cond t (Some x) (find p xs)) (f 0 (omega arith))
    ∙ no_find p xs d (λ k l. f (suc k) (omega arith))

-- no group before has the number
not_before : (groups : List Group) (i : ℕ) (d : Group) → IsStrictlyIncreasing (map (λ (g : Group). g.group.0) groups)
    → i < length groups
    → find (λ (x : Group). x.group.0 == (get_or groups i d).group.0) (take i groups) ≡ None
not_before groups i d h l = no_find (λ (x : Group). x.group.0 == (get_or groups i d).group.0) (take i groups) d
    (λ k m. let e = length-take i groups in let low : k < i = omega (arith, m, e, l) in
    ne_eqb (get_or (take i groups) k d).group.0 (get_or groups i d).group.0
    (λ q. let r = below k low in let t = ap (λ (x : Group). x.group.0) (get_or-take i groups k d low) in
    omega (arith, q, r, t)))
  where
    below : (k : ℕ) → k < i → (get_or groups k d).group.0 < (get_or groups i d).group.0
    below k low =
        let n : Group → ℕ = λ g. g.group.0 in
        let long = length-map groups n in
        let b = AllPairs-from_increasing (map n groups) h k i 0 low (omega (arith, l, long)) in
        let x = get_or-map n groups k d 0 (omega (arith, low, l)) in
        let y = get_or-map n groups i d 0 l in
        omega (arith, b, x, y)

-- the next group is free, and then it is there
pub next_free : (many : ℕ) (groups : List Group) (i : ℕ) (d : Group)
    → IsStrictlyIncreasing (map (λ (g : Group). g.group.0) groups) → i < length groups
    → (get_or groups i d).group.0 < many
    → slice_get (numbered_groups many (take i groups)) (get_or groups i d).group.0 ≡ Some None
next_free many groups i d h l low =
    let g = (get_or groups i d).group.0 in
    let long = long_numbered many (take i groups) in
    slice_get-get_or (numbered_groups many (take i groups)) g None (omega (arith, low, long))
    ∙ ap Some (at_number many (take i groups) g None low
    ∙ ap (option_map (λ (x : Group). x.children)) (not_before groups i d h l))

pub next_made : (many : ℕ) (groups : List Group) (i : ℕ) (d : Group)
    → IsStrictlyIncreasing (map (λ (g : Group). g.group.0) groups) → i < length groups
    → (get_or groups i d).group.0 < many
    → set (numbered_groups many (take i groups)) (get_or groups i d).group.0 (Some (get_or groups i d).children)
    ≡ numbered_groups many (take (i + 1) groups)
next_made many groups i d h l low =
    let x = get_or groups i d in
    let g = x.group.0 in
    let gs = numbered_groups many (take i groups) in
    let long = long_numbered many (take i groups) in
    let longer = long_numbered many (take (i + 1) groups) in
    let same = length-set gs g (Some x.children) in
    ext_get_or None (set gs g (Some x.children)) (numbered_groups many (take (i + 1) groups)) (same ∙ long ∙ sym longer)
    (λ k m. let below : k < many = omega (arith, m, same, long) in
    at k (k == g) refl below ∙ sym (at_number many (take (i + 1) groups) k None below
    ∙ ap (group_of k) (take_more groups i d l) ∙ ap (option_map (λ (y : Group). y.children))
    (find-append (λ (y : Group). y.group.0 == k) (take i groups) (x ∷ []))))
  where
    at : (k : ℕ) (t : Bool) → (k == (get_or groups i d).group.0) ≡ t → k < many
        → get_or (set (numbered_groups many (take i groups)) (get_or groups i d).group.0
        (Some (get_or groups i d).children)) k None
        ≡ option_map (λ (y : Group). y.children) (option_or (find (λ (y : Group). y.group.0 == k) (take i groups))
        (find (λ (y : Group). y.group.0 == k) (get_or groups i d ∷ [])))
    at k true e below =
        let q = eqb-true k (get_or groups i d).group.0 e in
        ap (λ n. get_or (set (numbered_groups many (take i groups)) (get_or groups i d).group.0
        (Some (get_or groups i d).children)) n None) q
        ∙ get_or-set_same (numbered_groups many (take i groups)) (get_or groups i d).group.0
        (Some (get_or groups i d).children) None (let z = long_numbered many (take i groups) in
        omega (arith, z, low))
        ∙ sym (ap (λ n. option_map (λ (y : Group). y.children)
        (option_or (find (λ (y : Group). y.group.0 == n) (take i groups))
        (find (λ (y : Group). y.group.0 == n) (get_or groups i d ∷ [])))) q
        ∙ ap (λ o. option_map (λ (y : Group). y.children)
        (option_or o (find (λ (y : Group). y.group.0 == (get_or groups i d).group.0) (get_or groups i d ∷ []))))
        (not_before groups i d h l)
        ∙ ap (λ t. option_map (λ (y : Group). y.children) (cond t (Some (get_or groups i d)) None))
        (eq-eqb (get_or groups i d).group.0 (get_or groups i d).group.0 refl))
    at k false e below =
        get_or-set_other (numbered_groups many (take i groups)) (get_or groups i d).group.0 k
        (Some (get_or groups i d).children) None (eqb-false k (get_or groups i d).group.0 e)
        ∙ at_number many (take i groups) k None below
        ∙ sym (ap (λ t. option_map (λ (y : Group). y.children)
        (option_or (find (λ (y : Group). y.group.0 == k) (take i groups)) (cond t (Some (get_or groups i d)) None)))
        (ne_eqb (get_or groups i d).group.0 k (λ q. eqb-false k (get_or groups i d).group.0 e (sym q)))
        ∙ ap (option_map (λ (y : Group). y.children))
        (or_none (find (λ (y : Group). y.group.0 == k) (take i groups))))
      where
        or_none : (o : Option Group) → option_or o None ≡ o
        or_none None = refl
        or_none (Some y) = refl

-- the line of a monitor whose constraint is there
pub line_there : (p : Parts) (t : Bool) (m : Monitor) (c : Constraint) → slice_get p.constraints m.constraint ≡ Some c
    → line_of p t m ≡ line_for t c
line_there p t m c h = ap (λ o. option_map_or (line_for t) o (no_line t)) h

pub constraint_known : (p : Parts) (m : Monitor) (n : ℕ) → AreWellMade p → slice_get p.monitors n ≡ Some m
    → m.constraint < length p.constraints
constraint_known p m n w h = let c = all-there (IsMonitor p) p.monitors n m w.monitors.each h in
    slice_get_within p.constraints m.constraint c.0 c.1

-- the lines of an instance are fresh, and are its rates
line_fresh : (p : Parts) (m : Monitor) → AreWellMade p → IsFresh (line_of p true m)
line_fresh p m w = go (slice_get p.constraints m.constraint) refl
  where
    go : (o : Option Constraint) → slice_get p.constraints m.constraint ≡ o
        → IsFresh (option_map_or (line_for true) o (no_line true))
    go None e = (omega arith, refl)
    go (Some c) e = ((all-there (IsConstraint p) p.constraints m.constraint c w.constraints e).weight, refl)

pub lines_fresh : (p : Parts) → AreWellMade p → All IsFresh (lines_in p)
lines_fresh p w = go p.monitors
  where
    go : (ms : List Monitor) → All IsFresh (map (line_of p true) ms)
    go [] = λ k d l. absurd (omega (arith, l))
    go (m ∷ ms) = All-cons IsFresh (line_of p true m) (map (line_of p true) ms) (line_fresh p m w) (go ms)

pub lines_rates : (p : Parts) → map rate_of (lines_in p) ≡ rates_in p
lines_rates p = go p.monitors
  where
    each : (o : Option Constraint) → rate_of (option_map_or (line_for true) o (no_line true))
        ≡ option_map_or (line_for false) o (no_line false)
    each None = refl
    each (Some c) = refl

    go : (ms : List Monitor) → map rate_of (map (line_of p true) ms) ≡ map (line_of p false) ms
    go [] = refl
    go (m ∷ ms) = λ i. each (slice_get p.constraints m.constraint) i ∷ go ms i

pub lines_deviations : (p : Parts) → map (λ (x : Line). x.deviation) (lines_in p) ≡ replicate (length p.monitors) 0
lines_deviations p = go p.monitors
  where
    each : (o : Option Constraint) → (option_map_or (line_for true) o (no_line true)).deviation ≡ 0
    each None = refl
    each (Some c) = refl

    go : (ms : List Monitor) → map (λ (x : Line). x.deviation) (map (line_of p true) ms) ≡ replicate (length ms) 0
    go [] = refl
    go (m ∷ ms) = λ i. each (slice_get p.constraints m.constraint) i ∷ go ms i

lines_attached : (p : Parts) (n : ℕ) → n < length p.monitors
    → get_or (map (λ (x : Line). x.attached) (lines_in p)) n false ≡ true
lines_attached p n l = go p.monitors n l
  where
    each : (o : Option Constraint) → (option_map_or (line_for true) o (no_line true)).attached ≡ true
    each None = refl
    each (Some c) = refl

    go : (ms : List Monitor) (n : ℕ) → n < length ms
        → get_or (map (λ (x : Line). x.attached) (map (line_of p true) ms)) n false ≡ true
    go [] n l = absurd (omega (arith, l))
    go (m ∷ ms) zero l = each (slice_get p.constraints m.constraint)
    go (m ∷ ms) (suc n) l = go ms n (omega (arith, l))

pub attached_are : (p : Parts) (s : Plain) (lines : List Line) → length lines ≡ length (lines_in p)
    → ((n : ℕ) → get_or (map (λ (x : Line). x.attached) lines) n false
    ≡ cond (list_any (λ (d : MonitorId). d.0 == n) s.detached) false
    (get_or (map (λ (x : Line). x.attached) (lines_in p)) n false))
    → map (λ (x : Line). x.attached) lines ≡ attached_in p s
attached_are p s lines long h =
    let many : length (attached_in p s) ≡ length p.monitors =
    length-map-range_with_len (λ n. not (is_detached s n)) 0 (length p.monitors) in
    let mine : length (map (λ (x : Line). x.attached) lines) ≡ length p.monitors =
    length-map lines (λ (x : Line). x.attached) ∙ long ∙ length-map p.monitors (line_of p true) in
    ext_get_or false (map (λ (x : Line). x.attached) lines) (attached_in p s) (mine ∙ sym many)
    (λ k l. let low : k < length p.monitors = omega (arith, l, mine) in
    h k ∙ ap (cond (list_any (λ (d : MonitorId). d.0 == k) s.detached) false) (lines_attached p k low)
    ∙ turned (list_any (λ (d : MonitorId). d.0 == k) s.detached)
    ∙ sym (get_or-map-range_with_len (λ n. not (is_detached s n)) 0 (length p.monitors) k k false low (omega arith)))
  where
    turned : (t : Bool) → cond t false true ≡ not t
    turned true = refl
    turned false = refl

-- the groups of a valid timetable
pub groups_valid : (p : Parts) (groups : List Group) (monitors : ℕ) → length p.monitors ≡ monitors
    → All (IsGroup p) groups → All (IsGroupOf monitors) groups
groups_valid p groups monitors e h = All-weaker (IsGroup p) (IsGroupOf monitors)
    (λ g v. record {
      number = v.number;
      children =
          subst (λ n. All (λ (m : MonitorId). m.0 < n) g.children) e v.children;
      once = v.once;
    }) groups h
