-- What groups cost when a line or a group changes.
use Rattle.std.proofs.Common.{ℕ, zero, suc, ◌≡◌, ◌+◌, ◌-◌, ◌*◌, ◌<◌, ◌≤◌, Bool, true, false, cond, Option, Some}
use Rattle.std.proofs.Common.{None, List, [], ◌∷◌, length, get_or, set, slice_get, replicate, refl, sym, subst, ap, ◌∙◌}
use Rattle.std.proofs.Common.{arith, inl, inr}
use Rattle.std.specs.Prelude.{◌==◌, All, is_some}
use Rattle.std.specs.List.{insert, sum_by}
use Rattle.std.specs.Option.{option_and_then, option_map_or}
use Rattle.std.proofs.lemmas.Bool.{eqb-true, eqb-false, cases_lt}
use Rattle.std.proofs.lemmas.List.{length-set, get_or-set_same, get_or-set_other}
use Rattle.std.proofs.lemmas.List.Elements.{All-get_or}
use Rattle.std.proofs.lemmas.List.Sums.{sum_by-cons, sum_by-insert, sum_by-remove, sum_by-le}
use Rattle.std.proofs.lemmas.Option.{slice_get_past, slice_get_within}
use Rattle.khe_base.proofs.ListLemmas.{get-set}
use Rattle.khe_base.specs.declared.limits.TheConstants.{GREATEST_COST, GROUPS, MONITORS}
use Rattle.khe_base.specs.declared.numbers.MonitorId.{MonitorId}
use Rattle.monitor_graph.proofs.LineLaws.{hard_small, soft_small}
use Rattle.monitor_graph.proofs.ListLaws.{get-set_other}
use Rattle.monitor_graph.proofs.OpenLaws.{none_at, none_numbered}
use Rattle.monitor_graph.proofs.SeatLaws.{among_yes, among_no, child_place, few_is, listed, same_children}
use Rattle.monitor_graph.proofs.ValueLaws.{at_line}
use Rattle.monitor_graph.specs.GroupCosts.{AreChangedBy, AreChangedTo, AreCostsBy, AreGroupCosts, CanExchange}
use Rattle.monitor_graph.specs.GroupCosts.{child_cost}
use Rattle.monitor_graph.specs.Groups.{AreGroups, Groups, children_at, has_child, has_group, occurs, place_of, without}
use Rattle.monitor_graph.specs.Lines.{IsLine, hard_cost, soft_cost}
use Rattle.monitor_graph.specs.Opened.{groups_in, no_line, numbered_groups}
use Rattle.monitor_graph.specs.declared.lines.Line.{Line}

pub zeros_at : (n g : ℕ) → ◌≡◌ {A = ℕ} (get_or (replicate n 0) g 0) 0
zeros_at zero g = refl
zeros_at (suc n) zero = refl
zeros_at (suc n) (suc g) = zeros_at n g

-- a line of one child is another
child_new : (f : Line → ℕ) (lines : List Line) (m : ℕ) (y : Line) (x : MonitorId) → x.0 ≡ m → m < length lines
    → child_cost f (set lines m y) x ≡ f y
child_new f lines m y x e l = ap (λ n. option_map_or f (slice_get (set lines m y) n) 0) e
    ∙ ap (λ o. option_map_or f o 0) (get-set lines m y l)

child_old : (f : Line → ℕ) (lines : List Line) (m : ℕ) (d : Line) (x : MonitorId) → x.0 ≡ m → m < length lines
    → child_cost f lines x ≡ f (get_or lines m d)
child_old f lines m d x e l = ap (λ n. option_map_or f (slice_get lines n) 0) e ∙ at_line f lines m d l

child_other : (f : Line → ℕ) (lines : List Line) (m : ℕ) (y : Line) (x : MonitorId) → (x.0 ≡ m → ⊥)
    → child_cost f (set lines m y) x ≡ child_cost f lines x
child_other f lines m y x ne = ap (λ o. option_map_or f o 0) (get-set_other lines m x.0 y ne)

-- children without the monitor cost what they did
swapped_none : (f : Line → ℕ) (lines : List Line) (m : ℕ) (y : Line) (xs : List MonitorId) → occurs m xs ≡ 0
    → sum_by (child_cost f (set lines m y)) xs ≡ sum_by (child_cost f lines) xs
swapped_none f lines m y [] h = refl
swapped_none f lines m y (x ∷ xs) h = by (x.0 == m) refl (swapped_none f lines m y xs)
  where
    cons : occurs m (x ∷ xs) ≡ cond (x.0 == m) 1 0 + occurs m xs
    cons = sum_by-cons (λ (c : MonitorId). cond (c.0 == m) 1 0) x xs

    by : (t : Bool) → (x.0 == m) ≡ t
        → (occurs m xs ≡ 0 → sum_by (child_cost f (set lines m y)) xs ≡ sum_by (child_cost f lines) xs)
        → sum_by (child_cost f (set lines m y)) (x ∷ xs) ≡ sum_by (child_cost f lines) (x ∷ xs)
    by true e ih =
        let c : 0 ≡ 1 + occurs m xs = sym h ∙ cons ∙ ap (λ t. cond t 1 0 + occurs m xs) e in absurd (omega (arith, c))
    by false e ih =
        let c : 0 ≡ 0 + occurs m xs = sym h ∙ cons ∙ ap (λ t. cond t 1 0 + occurs m xs) e in
        let none : occurs m xs ≡ 0 = omega (arith, c) in
        let a = sum_by-cons (child_cost f (set lines m y)) x xs in
        let b = sum_by-cons (child_cost f lines) x xs in
        let o = child_other f lines m y x (eqb-false x.0 m e) in
        let r = ih none in
        omega (arith, a, b, o, r)

-- children with it cost the difference more, and no less than it
swapped_once : (f : Line → ℕ) (lines : List Line) (m : ℕ) (y d : Line) (xs : List MonitorId) → m < length lines
    → occurs m xs ≡ 1
    → (sum_by (child_cost f (set lines m y)) xs + f (get_or lines m d) ≡ sum_by (child_cost f lines) xs + f y)
    × (f (get_or lines m d) ≤ sum_by (child_cost f lines) xs)
swapped_once f lines m y d [] l h = absurd (let c : 0 ≡ 1 = h in omega (arith, c))
swapped_once f lines m y d (x ∷ xs) l h = by (x.0 == m) refl (swapped_once f lines m y d xs l)
  where
    cons : occurs m (x ∷ xs) ≡ cond (x.0 == m) 1 0 + occurs m xs
    cons = sum_by-cons (λ (c : MonitorId). cond (c.0 == m) 1 0) x xs

    by : (t : Bool) → (x.0 == m) ≡ t
        → (occurs m xs ≡ 1
        → (sum_by (child_cost f (set lines m y)) xs + f (get_or lines m d) ≡ sum_by (child_cost f lines) xs + f y)
        × (f (get_or lines m d) ≤ sum_by (child_cost f lines) xs))
        → (sum_by (child_cost f (set lines m y)) (x ∷ xs) + f (get_or lines m d)
        ≡ sum_by (child_cost f lines) (x ∷ xs) + f y)
        × (f (get_or lines m d) ≤ sum_by (child_cost f lines) (x ∷ xs))
    by true e ih =
        let c : 1 ≡ 1 + occurs m xs = sym h ∙ cons ∙ ap (λ t. cond t 1 0 + occurs m xs) e in
        let none : occurs m xs ≡ 0 = omega (arith, c) in
        let r = swapped_none f lines m y xs none in
        let a = sum_by-cons (child_cost f (set lines m y)) x xs in
        let b = sum_by-cons (child_cost f lines) x xs in
        let n = child_new f lines m y x (eqb-true x.0 m e) l in
        let o = child_old f lines m d x (eqb-true x.0 m e) l in
        (omega (arith, a, b, n, o, r), omega (arith, b, o))
    by false e ih =
        let c : 1 ≡ 0 + occurs m xs = sym h ∙ cons ∙ ap (λ t. cond t 1 0 + occurs m xs) e in
        let once : occurs m xs ≡ 1 = omega (arith, c) in
        let r = (ih once).0 in
        let s = (ih once).1 in
        let a = sum_by-cons (child_cost f (set lines m y)) x xs in
        let b = sum_by-cons (child_cost f lines) x xs in
        let o = child_other f lines m y x (eqb-false x.0 m e) in
        (omega (arith, a, b, o, r), omega (arith, b, s))

-- no group costs more than all monitors may
part_small : (f : Line → ℕ) → ((x : Line) → IsLine x → f x ≤ GREATEST_COST) → (lines : List Line) → All IsLine lines
    → (c : MonitorId) → child_cost f lines c ≤ GREATEST_COST
part_small f small lines each c = elim (cases_lt c.0 (length lines)) [
  | inl l ↦ subst (λ v. v ≤ GREATEST_COST) (sym (at_line f lines c.0 (no_line false) l))
      (small (get_or lines c.0 (no_line false)) (All-get_or IsLine lines c.0 (no_line false) l each))
  | inr g ↦ subst (λ v. v ≤ GREATEST_COST) (sym (ap (λ o. option_map_or f o 0) (slice_get_past lines c.0 g))) (omega arith)
]

small_sum : (f : Line → ℕ) → ((x : Line) → IsLine x → f x ≤ GREATEST_COST) → (lines : List Line) → All IsLine lines
    → (xs : List MonitorId) → length xs ≤ MONITORS → sum_by (child_cost f lines) xs ≤ MONITORS * GREATEST_COST
small_sum f small lines each xs few =
    let h = sum_by-le (child_cost f lines) GREATEST_COST xs (λ k d l. part_small f small lines each (get_or xs k d)) in
    omega (arith, h, few)

module _ (lines : List Line) (gs : Groups) (valid : AreGroups (length lines) gs) (few : length lines ≤ MONITORS)
    (each : All IsLine lines) where
  -- a child is in its group once
  pub once_there : (g m : ℕ) → has_child gs g m ≡ true → occurs m (children_at gs g) ≡ 1
  once_there g m h = let a = among_yes m (children_at gs g) h in let b = valid.once g m in omega (arith, a, b)

  pub group_below : (g m : ℕ) → has_child gs g m ≡ true → g < GROUPS
  group_below g m h = elim (cases_lt g GROUPS) [
    | inl l ↦ l
    | inr past ↦ absurd (
        let e = ap listed (slice_get_past gs g (let n = valid.numbers in omega (arith, n, past))) in
        let a = among_yes m (children_at gs g) h in
        let b : occurs m (children_at gs g) ≡ 0 = ap (occurs m) e in
        omega (arith, a, b))
  ]

  group_small : (f : Line → ℕ) → ((x : Line) → IsLine x → f x ≤ GREATEST_COST) → (g : ℕ)
      → sum_by (child_cost f lines) (children_at gs g) ≤ MONITORS * GREATEST_COST
  group_small f small g = let l = few_is gs (length lines) g valid in
      small_sum f small lines each (children_at gs g) (omega (arith, l, few))

  -- what a child costs may be taken out of what its group costs
  can_out : (f : Line → ℕ) → ((x : Line) → IsLine x → f x ≤ GREATEST_COST) → (g m : ℕ) (d : Line) (t : ℕ)
      → has_child gs g m ≡ true → t ≡ sum_by (child_cost f lines) (children_at gs g)
      → CanExchange (f (get_or lines m d)) t
  can_out f small g m d t h e =
      let s = (swapped_once f lines m d d (children_at gs g) (valid.known g m h) (once_there g m h)).1 in
      let b = group_small f small g in
      (omega (arith, s, e), omega (arith, b, e))

  pub hard_out : (g m : ℕ) (d : Line) (t : ℕ) → has_child gs g m ≡ true
      → t ≡ sum_by (child_cost hard_cost lines) (children_at gs g) → CanExchange (hard_cost (get_or lines m d)) t
  hard_out = can_out hard_cost hard_small

  pub soft_out : (g m : ℕ) (d : Line) (t : ℕ) → has_child gs g m ≡ true
      → t ≡ sum_by (child_cost soft_cost lines) (children_at gs g) → CanExchange (soft_cost (get_or lines m d)) t
  soft_out = can_out soft_cost soft_small

  -- and so may nothing
  pub hard_in : (g c t : ℕ) → c ≡ 0 → t ≡ sum_by (child_cost hard_cost lines) (children_at gs g) → CanExchange c t
  hard_in g c t z e = let b = group_small hard_cost hard_small g in (omega (arith, z), omega (arith, b, e))

  pub soft_in : (g c t : ℕ) → c ≡ 0 → t ≡ sum_by (child_cost soft_cost lines) (children_at gs g) → CanExchange c t
  soft_in g c t z e = let b = group_small soft_cost soft_small g in (omega (arith, z), omega (arith, b, e))

-- another line for a monitor, group by group
module _ (f : Line → ℕ) (lines : List Line) (gs : Groups) (m : ℕ) (y : Line) where
  pub changed_none : (row : List ℕ) → AreCostsBy f lines gs row → AreChangedBy f 0 lines (set lines m y) gs row
  changed_none row h = (λ g l. absurd (omega (arith, l)), λ g l. h g)

  pub changed_all : (row : List ℕ) (k : ℕ) → AreChangedBy f k lines (set lines m y) gs row → length gs ≤ k
      → AreCostsBy f (set lines m y) gs row
  changed_all row k h long g = elim (cases_lt g k) [
    | inl l ↦ h.0 g l
    | inr past ↦
        let e : children_at gs g ≡ [] = ap listed (slice_get_past gs g (omega (arith, long, past))) in
        h.1 g past ∙ ap (sum_by (child_cost f lines)) e ∙ sym (ap (sum_by (child_cost f (set lines m y))) e)
  ]

  -- a group without the monitor
  pub changed_over : (row : List ℕ) (k : ℕ) → AreChangedBy f k lines (set lines m y) gs row
      → has_child gs k m ≡ false → AreChangedBy f (k + 1) lines (set lines m y) gs row
  changed_over row k h none = (
    λ g l. elim (cases_lt g k) [
      | inl low ↦ h.0 g low
      | inr high ↦
          let e : k ≡ g = omega (arith, l, high) in
          subst (λ n. get_or row n 0 ≡ sum_by (child_cost f (set lines m y)) (children_at gs n)) e
          (h.1 k (omega arith)
          ∙ sym (swapped_none f lines m y (children_at gs k) (among_no m (children_at gs k) none)))
    ],
    λ g l. h.1 g (omega (arith, l)),
  )

  -- a group with it
  pub changed_in : (row : List ℕ) (k : ℕ) (d : Line) → AreChangedBy f k lines (set lines m y) gs row
      → occurs m (children_at gs k) ≡ 1 → m < length lines → k < length row
      → AreChangedBy f (k + 1) lines (set lines m y) gs (set row k (get_or row k 0 - f (get_or lines m d) + f y))
  changed_in row k d h once l low =
      let v : ℕ = get_or row k 0 - f (get_or lines m d) + f y in
      let old = h.1 k (omega arith) in
      let s = (swapped_once f lines m y d (children_at gs k) l once).0 in
      let r = (swapped_once f lines m y d (children_at gs k) l once).1 in
      let here : v ≡ sum_by (child_cost f (set lines m y)) (children_at gs k) = omega (arith, old, s, r) in (
        λ g below. elim (cases_lt g k) [
          | inl less ↦ get_or-set_other row k g v 0 (λ e. omega (arith, e, less)) ∙ h.0 g less
          | inr high ↦
              let e : k ≡ g = omega (arith, below, high) in
              subst (λ n. get_or (set row k v) n 0 ≡ sum_by (child_cost f (set lines m y)) (children_at gs n)) e
              (get_or-set_same row k v 0 low ∙ here)
        ],
        λ g above. get_or-set_other row k g v 0 (λ e. omega (arith, e, above)) ∙ h.1 g (omega (arith, above)),
      )

  -- a monitor in no group
  pub alone : (row : List ℕ) → AreCostsBy f lines gs row → ((g : ℕ) → has_child gs g m ≡ false)
      → AreCostsBy f (set lines m y) gs row
  alone row h none g = h g
      ∙ sym (swapped_none f lines m y (children_at gs g) (among_no m (children_at gs g) (none g)))

-- both kinds at once
module _ (lines : List Line) (gs : Groups) (m : ℕ) (y : Line) where
  pub follow_none : (hards softs : List ℕ) → AreGroupCosts lines gs hards softs
      → AreChangedTo 0 lines (set lines m y) gs hards softs
  follow_none hards softs h = record {
    hard_long = h.hard_long;
    soft_long = h.soft_long;
    hard = changed_none hard_cost lines gs m y hards h.hard;
    soft = changed_none soft_cost lines gs m y softs h.soft;
  }

  pub follow_all : (hards softs : List ℕ) (k : ℕ) → AreChangedTo k lines (set lines m y) gs hards softs
      → length gs ≤ k → AreGroupCosts (set lines m y) gs hards softs
  follow_all hards softs k h l = record {
    hard_long = h.hard_long;
    soft_long = h.soft_long;
    hard = changed_all hard_cost lines gs m y hards k h.hard l;
    soft = changed_all soft_cost lines gs m y softs k h.soft l;
  }

  pub follow_over : (hards softs : List ℕ) (k : ℕ) → AreChangedTo k lines (set lines m y) gs hards softs
      → has_child gs k m ≡ false → AreChangedTo (k + 1) lines (set lines m y) gs hards softs
  follow_over hards softs k h n = record {
    hard_long = h.hard_long;
    soft_long = h.soft_long;
    hard = changed_over hard_cost lines gs m y hards k h.hard n;
    soft = changed_over soft_cost lines gs m y softs k h.soft n;
  }

  pub follow_within : (hards softs hards2 softs2 : List ℕ) (k : ℕ) (d : Line)
      → AreChangedTo k lines (set lines m y) gs hards softs → occurs m (children_at gs k) ≡ 1
      → m < length lines → k < GROUPS
      → hards2 ≡ set hards k (get_or hards k 0 - hard_cost (get_or lines m d) + hard_cost y)
      → softs2 ≡ set softs k (get_or softs k 0 - soft_cost (get_or lines m d) + soft_cost y)
      → AreChangedTo (k + 1) lines (set lines m y) gs hards2 softs2
  follow_within hards softs hards2 softs2 k d h once l low e q = record {
    hard_long = ap length e ∙ length-set hards k (get_or hards k 0 - hard_cost (get_or lines m d) + hard_cost y)
        ∙ h.hard_long;
    soft_long = ap length q ∙ length-set softs k (get_or softs k 0 - soft_cost (get_or lines m d) + soft_cost y)
        ∙ h.soft_long;
    hard = subst (AreChangedBy hard_cost (k + 1) lines (set lines m y) gs) (sym e)
        (changed_in hard_cost lines gs m y hards k d h.hard once l (let n = h.hard_long in omega (arith, n, low)));
    soft = subst (AreChangedBy soft_cost (k + 1) lines (set lines m y) gs) (sym q)
        (changed_in soft_cost lines gs m y softs k d h.soft once l (let n = h.soft_long in omega (arith, n, low)));
  }

  pub follow_alone : (hards softs : List ℕ) → AreGroupCosts lines gs hards softs
      → ((g : ℕ) → has_child gs g m ≡ false) → AreGroupCosts (set lines m y) gs hards softs
  follow_alone hards softs h n = record {
    hard_long = h.hard_long;
    soft_long = h.soft_long;
    hard = alone hard_cost lines gs m y hards h.hard n;
    soft = alone soft_cost lines gs m y softs h.soft n;
  }

-- other children of one group
regrouped_by : (f : Line → ℕ) (lines : List Line) (gs : Groups) (row : List ℕ) (g v : ℕ) (o : Option (List MonitorId))
    → AreCostsBy f lines gs row → g < length gs → g < length row
    → v ≡ sum_by (child_cost f lines) (listed (Some o)) → AreCostsBy f lines (set gs g o) (set row g v)
regrouped_by f lines gs row g v o h there low e k = by (k == g) refl
  where
    by : (t : Bool) → (k == g) ≡ t
        → get_or (set row g v) k 0 ≡ sum_by (child_cost f lines) (children_at (set gs g o) k)
    by true q =
        let same = eqb-true k g q in
        ap (λ n. get_or (set row g v) n 0) same ∙ get_or-set_same row g v 0 low ∙ e
        ∙ sym (ap (λ n. sum_by (child_cost f lines) (children_at (set gs g o) n)) same
        ∙ ap (λ x. sum_by (child_cost f lines) (listed x)) (get-set gs g o there))
    by false q =
        let ne = eqb-false k g q in
        get_or-set_other row g k v 0 ne ∙ h k
        ∙ sym (ap (λ x. sum_by (child_cost f lines) (listed x)) (get-set_other gs g k o ne))

module _ (lines : List Line) (gs : Groups) (hards softs : List ℕ) (costs : AreGroupCosts lines gs hards softs) where
  pub regrouped_costs : (hards2 softs2 : List ℕ) (g v w : ℕ) (o : Option (List MonitorId)) → g < length gs → g < GROUPS
      → v ≡ sum_by (child_cost hard_cost lines) (listed (Some o))
      → w ≡ sum_by (child_cost soft_cost lines) (listed (Some o))
      → hards2 ≡ set hards g v → softs2 ≡ set softs g w → AreGroupCosts lines (set gs g o) hards2 softs2
  regrouped_costs hards2 softs2 g v w o there low e q a b = record {
    hard_long = ap length a ∙ length-set hards g v ∙ costs.hard_long;
    soft_long = ap length b ∙ length-set softs g w ∙ costs.soft_long;
    hard = subst (AreCostsBy hard_cost lines (set gs g o)) (sym a)
        (regrouped_by hard_cost lines gs hards g v o costs.hard there
        (let n = costs.hard_long in omega (arith, n, low)) e);
    soft = subst (AreCostsBy soft_cost lines (set gs g o)) (sym b)
        (regrouped_by soft_cost lines gs softs g w o costs.soft there
        (let n = costs.soft_long in omega (arith, n, low)) q);
  }

  -- a group without children that comes or goes
  pub emptied_costs : (g : ℕ) (o : Option (List MonitorId)) → listed (Some o) ≡ [] → children_at gs g ≡ []
      → g < length gs → AreGroupCosts lines (set gs g o) hards softs
  emptied_costs g o a b there = record {
    hard_long = costs.hard_long;
    soft_long = costs.soft_long;
    hard = λ k. costs.hard k ∙ sym (ap (sum_by (child_cost hard_cost lines)) (same_children gs g o a b there k));
    soft = λ k. costs.soft k ∙ sym (ap (sum_by (child_cost soft_cost lines)) (same_children gs g o a b there k));
  }

  pub made_costs : (g : ℕ) → slice_get gs g ≡ Some None → AreGroupCosts lines (set gs g (Some [])) hards softs
  made_costs g h = emptied_costs g (Some []) refl (ap listed h) (slice_get_within gs g None h)

  pub dropped_costs : (g : ℕ) → slice_get gs g ≡ Some (Some []) → AreGroupCosts lines (set gs g None) hards softs
  dropped_costs g h = emptied_costs g None refl (ap listed h) (slice_get_within gs g (Some []) h)

  -- a child more, and one fewer
  pub added_costs : (hards2 softs2 : List ℕ) (g k hz sz : ℕ) (d : Line) (v : MonitorId) → g < length gs → g < GROUPS
      → v.0 < length lines → hz ≡ 0 → sz ≡ 0
      → hards2 ≡ set hards g (get_or hards g 0 - hz + hard_cost (get_or lines v.0 d))
      → softs2 ≡ set softs g (get_or softs g 0 - sz + soft_cost (get_or lines v.0 d))
      → AreGroupCosts lines (set gs g (Some (insert (children_at gs g) k v))) hards2 softs2
  added_costs hards2 softs2 g k hz sz d v there low l z y e q =
      let hs = sum_by-insert (child_cost hard_cost lines) (children_at gs g) k v in
      let ss = sum_by-insert (child_cost soft_cost lines) (children_at gs g) k v in
      let hv = at_line hard_cost lines v.0 d l in
      let sv = at_line soft_cost lines v.0 d l in
      let ho = costs.hard g in
      let so = costs.soft g in
      regrouped_costs hards2 softs2 g (get_or hards g 0 - hz + hard_cost (get_or lines v.0 d))
      (get_or softs g 0 - sz + soft_cost (get_or lines v.0 d)) (Some (insert (children_at gs g) k v)) there low
      (omega (arith, hs, hv, ho, z)) (omega (arith, ss, sv, so, y)) e q

  pub removed_costs : (hards2 softs2 : List ℕ) (g m hz sz : ℕ) (d : Line) (v : MonitorId) → has_child gs g m ≡ true
      → g < length gs → g < GROUPS → m < length lines → hz ≡ 0 → sz ≡ 0
      → hards2 ≡ set hards g (get_or hards g 0 - hard_cost (get_or lines m d) + hz)
      → softs2 ≡ set softs g (get_or softs g 0 - soft_cost (get_or lines m d) + sz)
      → AreGroupCosts lines (set gs g (Some (without m (children_at gs g)))) hards2 softs2
  removed_costs hards2 softs2 g m hz sz d v child there low l z y e q =
      let xs = children_at gs g in
      let at = child_place xs m v child in
      let hs = sum_by-remove (child_cost hard_cost lines) xs (place_of m xs) v at.0 in
      let ss = sum_by-remove (child_cost soft_cost lines) xs (place_of m xs) v at.0 in
      let hv = child_old hard_cost lines m d (get_or xs (place_of m xs) v) at.1 l in
      let sv = child_old soft_cost lines m d (get_or xs (place_of m xs) v) at.1 l in
      let ho = costs.hard g in
      let so = costs.soft g in
      regrouped_costs hards2 softs2 g (get_or hards g 0 - hard_cost (get_or lines m d) + hz)
      (get_or softs g 0 - soft_cost (get_or lines m d) + sz) (Some (without m xs)) there low
      (omega (arith, hs, hv, ho, z)) (omega (arith, ss, sv, so, y)) e q

-- where there are no groups yet
fresh_by : (n : ℕ) (lines : List Line) (gs : Groups) (hards softs : List ℕ) → gs ≡ numbered_groups n []
    → length hards ≡ GROUPS → length softs ≡ GROUPS → ((g : ℕ) → get_or hards g 0 ≡ 0)
    → ((g : ℕ) → get_or softs g 0 ≡ 0) → AreGroupCosts lines gs hards softs
fresh_by n lines gs hards softs e hl sl h s =
    let none : (g : ℕ) → children_at gs g ≡ [] =
    λ g. ap (λ (x : Groups). children_at x g) (e ∙ none_numbered n) ∙ none_at n g in
    record {
      hard_long = hl;
      soft_long = sl;
      hard = λ g. h g ∙ sym (ap (sum_by (child_cost hard_cost lines)) (none g));
      soft = λ g. s g ∙ sym (ap (sum_by (child_cost soft_cost lines)) (none g));
    }

pub fresh_costs : (lines : List Line) (gs : Groups) (hards softs : List ℕ) → gs ≡ groups_in []
    → length hards ≡ GROUPS → length softs ≡ GROUPS → ((g : ℕ) → get_or hards g 0 ≡ 0)
    → ((g : ℕ) → get_or softs g 0 ≡ 0) → AreGroupCosts lines gs hards softs
fresh_costs = fresh_by GROUPS

-- one group added up anew
pub renewed_costs : (lines : List Line) (gs groups : Groups) (hards softs hards2 softs2 : List ℕ) (g v w : ℕ)
    (o : Option (List MonitorId))
    → AreGroupCosts lines gs hards softs → groups ≡ set gs g o → g < length groups → g < GROUPS
    → v ≡ sum_by (child_cost hard_cost lines) (children_at groups g)
    → w ≡ sum_by (child_cost soft_cost lines) (children_at groups g)
    → hards2 ≡ set hards g v → softs2 ≡ set softs g w → AreGroupCosts lines groups hards2 softs2
renewed_costs lines gs groups hards softs hards2 softs2 g v w o costs e there low p q a b =
    let below : g < length gs = (let n = ap length e ∙ length-set gs g o in omega (arith, n, there)) in
    let here : children_at groups g ≡ listed (Some o) = ap (λ x. children_at x g) e ∙ ap listed (get-set gs g o below) in
    subst (λ x. AreGroupCosts lines x hards2 softs2) (sym e)
    (regrouped_costs lines gs hards softs costs hards2 softs2 g v w o below low
    (p ∙ ap (sum_by (child_cost hard_cost lines)) here) (q ∙ ap (sum_by (child_cost soft_cost lines)) here) a b)

-- a group that was put at a number is there
pub set_there : (gs : Groups) (g : ℕ) (xs : List MonitorId) (n : ℕ) → length gs ≡ n → g < n
    → has_group (set gs g (Some xs)) g ≡ true
set_there gs g xs n e l = ap (λ o. is_some (option_and_then (λ x. x) o)) (get-set gs g (Some xs) (omega (arith, e, l)))
