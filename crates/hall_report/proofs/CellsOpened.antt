-- The cells that are to be free, marked monitor by monitor, and their demands.
use Rattle.std.proofs.Common.{ℕ, zero, suc, ◌+◌, ◌-◌, ◌*◌, ◌/◌, ◌%◌, ◌<◌, ◌≤◌, ◌≡◌, ◌≢◌, ◌⊎◌, inl, inr, cond, Bool}
use Rattle.std.proofs.Common.{true, false, ◌&&◌, ◌||◌, Some, None, List, [], ◌∷◌, ◌++◌, map, take, length, slice_get}
use Rattle.std.proofs.Common.{refl, sym, ap, ◌∙◌, arith, get_or-set_same, get_or-set_other, length-set}
use Rattle.std.specs.Prelude.{◌==◌}
use Rattle.std.specs.List.{filter, flat_map, list_any, range_with_len}
use Rattle.std.specs.Option.{option_map_or}
use Rattle.std.proofs.lemmas.Bool.{cases_lt, eq-eqb, ne_eqb}
use Rattle.std.proofs.lemmas.List.Folds.{list_any_more}
use Rattle.std.proofs.lemmas.Nat.{div-mul-add}
use Rattle.std.proofs.Math.Nat.{mod-eq-sub-div-mul}
use Rattle.std.proofs.lemmas.List.{length-replicate, map-append, take_all}
use Rattle.std.proofs.lemmas.List.Elements.{All-filter, All-from_get_or, filter-append}
use Rattle.std.proofs.lemmas.List.FromFn.{get_or-range_with_len, length-range_with_len}
use Rattle.std.proofs.lemmas.Option.{slice_get_within, get_or_from_slice_get}
use Rattle.khe_base.specs.IdSet.{has_member, with_member, no_members, members_of}
use Rattle.khe_base.specs.declared.numbers.ResourceId.{ResourceId}
use Rattle.khe_instance.specs.WellMade.{AreWellMade}
use Rattle.khe_instance.specs.declared.parts.Parts.{Parts}
use Rattle.khe_instance.specs.declared.points.Monitor.{Monitor}
use Rattle.khe_instance.specs.declared.points.Point.{Point}
use Rattle.khe_instance.specs.declared.rules.Constraint.{Constraint}
use Rattle.demand_matching.proofs.Counting.{cases_eqb}
use Rattle.hall_report.proofs.SetsOpened.{strict_is}
use Rattle.hall_report.specs.Demands.{times_demands}
use Rattle.hall_report.specs.Kept.{cell_demand}
use Rattle.hall_report.specs.Opening.{AreCells, AreCellsTo, AreMarkedTo, resource_of}
use Rattle.hall_report.specs.Strict.{is_resource, is_strict, is_unavailable, monitor_wants_free, strict_rule}
use Rattle.hall_report.specs.Strict.{wants_free}
use Rattle.hall_report.specs.declared.demand.Demand.{Demand}
use Rattle.hall_report.specs.declared.demand.Demand.TheVariants.{Unavailable}

or_false : (a b : Bool) → b ≡ false → a ≡ a || b
or_false true b h = refl
or_false false b h = sym h

any_more : {A : Type 0} (test : A → Bool) (xs : List A) (n : ℕ) (x : A) → slice_get xs n ≡ Some x
    → list_any test (take (n + 1) xs) ≡ list_any test (take n xs) || test x
any_more test xs n x at = list_any_more test xs n x (slice_get_within xs n x at)
    ∙ ap (λ y. list_any test (take n xs) || test y) (get_or_from_slice_get xs n x x at)

-- one cell more
pub marked_none : (first : ℕ) (times cells : List Bool) → AreMarkedTo first 0 times cells cells
marked_none first times cells = record {
  size = refl;
  members = λ t l. absurd (omega (arith, l));
  others =
      λ c away. refl;
}

pub marked_on : (first n : ℕ) (times old mid cells : List Bool) (b : Bool) → AreMarkedTo first n times old mid
    → first + n < length old → has_member times n ≡ b → cells ≡ cond b (with_member mid (first + n)) mid
    → AreMarkedTo first (n + 1) times old cells
marked_on first n times old mid cells b is room h made = record {
  size = sizes;
  members = λ t l. elim (cases_eqb t n) [
    | inl eq ↦
        ap (λ k. has_member cells (first + k)) eq ∙ here b made h
        ∙ ap (λ z. z || has_member times n) (is.others (first + n) (inr (omega arith)))
        ∙ ap (λ k. has_member old (first + k) || has_member times k) (sym eq)
    | inr ne ↦ away (first + t) (λ q. ne (omega (arith, q))) b made ∙ is.members t (omega (arith, l, ne))
  ];
  others = λ c far. away c (apart c far) b made ∙ is.others c (near c far);
}
  where
    either_way : (b : Bool) → cells ≡ cond b (with_member mid (first + n)) mid
        → (cells ≡ with_member mid (first + n)) ⊎ (cells ≡ mid)
    either_way true e = inl e
    either_way false e = inr e

    sizes : length cells ≡ length old
    sizes = elim (either_way b made) [
      | inl e ↦ ap length e ∙ length-set mid (first + n) true ∙ is.size
      | inr e ↦
          ap length e ∙ is.size
    ]

    or_true : (a b : Bool) → b ≡ true → a || b ≡ true
    or_true true b h = refl
    or_true false b h = h

    here : (b : Bool) → cells ≡ cond b (with_member mid (first + n)) mid → has_member times n ≡ b
        → has_member cells (first + n) ≡ has_member mid (first + n) || has_member times n
    here true e g = ap (λ z. has_member z (first + n)) e
        ∙ get_or-set_same mid (first + n) true false (let s = is.size in omega (arith, s, room))
        ∙ sym (or_true (has_member mid (first + n)) (has_member times n) g)
    here false e g = ap (λ z. has_member z (first + n)) e ∙ or_false (has_member mid (first + n)) (has_member times n) g

    away : (c : ℕ) → c ≢ first + n → (b : Bool) → cells ≡ cond b (with_member mid (first + n)) mid
        → has_member cells c ≡ has_member mid c
    away c ne true e = ap (λ z. has_member z c) e ∙ get_or-set_other mid (first + n) c true false ne
    away c ne false e = ap (λ z. has_member z c) e

    apart : (c : ℕ) → (c < first) ⊎ (first + (n + 1) ≤ c) → c ≢ first + n
    apart c far eq = elim far [ inl a ↦ omega (arith, a, eq) | inr b ↦ omega (arith, b, eq) ]

    near : (c : ℕ) → (c < first) ⊎ (first + (n + 1) ≤ c) → (c < first) ⊎ (first + n ≤ c)
    near c far = elim far [ inl a ↦ inl a | inr b ↦ inr (omega (arith, b)) ]

-- one monitor more
pub cells_same : (p : Parts) (n : ℕ) (cells : List Bool) (m : Monitor) → AreCellsTo p n cells
    → slice_get p.monitors n ≡ Some m → ((r t : ℕ) → monitor_wants_free p r t m ≡ false) → AreCellsTo p (n + 1) cells
cells_same p n cells m are at none = record {
  size = are.size;
  members = λ r t a b. are.members r t a b ∙ or_false (list_any (monitor_wants_free p r t) (take n p.monitors))
      (monitor_wants_free p r t m) (none r t) ∙ sym (any_more (monitor_wants_free p r t) p.monitors n m at);
}

never : (a : Bool) {b : Bool} → b ≡ false → a && b ≡ false
never true h = h
never false h = refl

pub wants_loose : (p : Parts) (m : Monitor) (c : Constraint) → slice_get p.constraints m.constraint ≡ Some c
    → is_strict c ≡ false → (r t : ℕ) → monitor_wants_free p r t m ≡ false
wants_loose p m c at h r t = never (is_resource m.point r)
    (ap (λ o. option_map_or (λ rule. wants_free rule t) o false) (strict_is p m c false at h))

pub wants_rule : (p : Parts) (m : Monitor) (c : Constraint) → slice_get p.constraints m.constraint ≡ Some c
    → is_strict c ≡ true → ((t : ℕ) → wants_free c.rule t ≡ false) → (r t : ℕ) → monitor_wants_free p r t m ≡ false
wants_rule p m c at h loose r t = never (is_resource m.point r)
    (ap (λ o. option_map_or (λ rule. wants_free rule t) o false) (strict_is p m c true at h) ∙ loose t)

resource_none : (m : Point) (r : ℕ) → resource_of m ≡ None → is_resource m r ≡ false
resource_none m r h = grind arith

resource_some : (m : Point) (r : ℕ) (x : ResourceId) → resource_of m ≡ Some x → is_resource m r ≡ (x.0 == r)
resource_some m r x h = grind arith

pub wants_point : (p : Parts) (m : Monitor) → resource_of m.point ≡ None → (r t : ℕ)
    → monitor_wants_free p r t m ≡ false
wants_point p m h r t = ap (λ b. b && option_map_or (λ rule. wants_free rule t) (strict_rule p m) false)
    (resource_none m.point r h)

one_row : (last r : ℕ) → (r + 1) * last ≡ r * last + last
one_row last r = grind arith

row_le : (last a b : ℕ) → a ≤ b → a * last ≤ b * last
row_le last a b l = grind (arith, l)

-- where a cell of one resource is, of another it is not
row_away : (last x r t : ℕ) → t < last → x ≢ r → (r * last + t < x * last) ⊎ (x * last + last ≤ r * last + t)
row_away last x r t l ne =
    elim (cases_lt r x) [
      | inl less ↦ inl (let q = row_le last (r + 1) x (omega (arith, less)) in let e = one_row last r in
          omega (arith, q, e, l))
      | inr more ↦ inr (let q = row_le last (x + 1) r (omega (arith, more, ne)) in let e = one_row last x in
          omega (arith, q, e))
    ]

pub cells_marked : (p : Parts) (n : ℕ) (old cells : List Bool) (m : Monitor) (c : Constraint) (x : ResourceId)
    → AreCellsTo p n old → slice_get p.monitors n ≡ Some m → slice_get p.constraints m.constraint ≡ Some c
    → is_strict c ≡ true → resource_of m.point ≡ Some x → (times : List Bool)
    → ((t : ℕ) → wants_free c.rule t ≡ has_member times t)
    → AreMarkedTo (x.0 * length p.times) (length p.times) times old cells → AreCellsTo p (n + 1) cells
cells_marked p n old cells m c x are at has strict point times wants by = record {
  size = by.size ∙ are.size;
  members = λ r t a b. elim (cases_eqb x.0 r) [
    | inl eq ↦
        ap (λ k. has_member cells (k * length p.times + t)) (sym eq)
        ∙ by.members t b
        ∙ ap (λ k. has_member old (k * length p.times + t) || has_member times t) eq
        ∙ ap (λ z. z || has_member times t) (are.members r t a b)
        ∙ ap (λ z. list_any (monitor_wants_free p r t) (take n p.monitors) || z)
        (sym (wants t) ∙ sym (own r t (eq-eqb x.0 r eq)))
        ∙ sym (any_more (monitor_wants_free p r t) p.monitors n m at)
    | inr ne ↦
        by.others (r * length p.times + t) (row_away (length p.times) x.0 r t b ne)
        ∙ are.members r t a b
        ∙ or_false (list_any (monitor_wants_free p r t) (take n p.monitors)) (monitor_wants_free p r t m)
        (other r t (ne_eqb x.0 r ne))
        ∙ sym (any_more (monitor_wants_free p r t) p.monitors n m at)
  ];
}
  where
    own : (r t : ℕ) → (x.0 == r) ≡ true → monitor_wants_free p r t m ≡ wants_free c.rule t
    own r t h =
        ap (λ b. b && option_map_or (λ rule. wants_free rule t) (strict_rule p m) false)
        (resource_some m.point r x point ∙ h)
        ∙ ap (λ o. option_map_or (λ rule. wants_free rule t) o false) (strict_is p m c true has strict)

    other : (r t : ℕ) → (x.0 == r) ≡ false → monitor_wants_free p r t m ≡ false
    other r t h = ap (λ b. b && option_map_or (λ rule. wants_free rule t) (strict_rule p m) false)
        (resource_some m.point r x point ∙ h)

-- before any monitor
pub cells_none : (p : Parts) (size : ℕ) → size ≡ length p.resources * length p.times → AreCellsTo p 0 (no_members size)
cells_none p size h = record {
  size = length-replicate size false ∙ h;
  members =
      λ r t a b. nothing size (r * length p.times + t);
}
  where
    nothing : (n k : ℕ) → has_member (no_members n) k ≡ false
    nothing zero k = refl
    nothing (suc n) zero = refl
    nothing (suc n) (suc k) = nothing n k

-- the cell of a resource and a time
quotient : (last r t : ℕ) → t < last → (r * last + t) / last ≡ r
quotient last r t l = div-mul-add r last t l

rest_of : (last r t : ℕ) → t < last → (r * last + t) % last ≡ t
rest_of last r t l = mod-eq-sub-div-mul (r * last + t) last ∙ ap (λ q. r * last + t - q * last) (quotient last r t l)
    ∙ (let e : r * last + t - r * last ≡ t = omega arith in e)

cell_is : (last r t c : ℕ) → t < last → c ≡ r * last + t
    → cell_demand last c ≡ Unavailable (record { 0 = r }) (record { 0 = t })
cell_is last r t c l e =
    ap (cell_demand last) e
    ∙ ap (λ (q : ℕ). Unavailable (record { 0 = q }) (record { 0 = (r * last + t) % last })) (quotient last r t l)
    ∙ ap (λ (q : ℕ). Unavailable (record { 0 = r }) (record { 0 = q })) (rest_of last r t l)

-- one element more of two lists that are filtered and mapped
next_both : (f g : ℕ → Demand) (b : Bool) (x y : ℕ) (xs ys : List ℕ) → f x ≡ g y → map f xs ≡ map g ys
    → map f (cond b (x ∷ xs) xs) ≡ map g (cond b (y ∷ ys) ys)
next_both f g true x y xs ys e h = ap (λ d. d ∷ map f xs) e ∙ ap (λ ds. g y ∷ ds) h
next_both f g false x y xs ys e h = h

rows : (f g : ℕ → Demand) (here there : ℕ → Bool) (n a b : ℕ) → ((i : ℕ) → i < n → here (b + i) ≡ there (a + i))
    → ((i : ℕ) → i < n → f (b + i) ≡ g (a + i)) → map f (filter here (range_with_len b n))
    ≡ map g (filter there (range_with_len a n))
rows f g here there zero a b same like = refl
rows f g here there (suc n) a b same like =
    let b0 : b + 0 ≡ b = omega arith in
    let a0 : a + 0 ≡ a = omega arith in
    ap (λ k. map f (cond k (b ∷ filter here (range_with_len (b + 1) n)) (filter here (range_with_len (b + 1) n))))
    (sym (ap here b0) ∙ same 0 (omega arith) ∙ ap there a0)
    ∙ next_both f g (there a) b a (filter here (range_with_len (b + 1) n)) (filter there (range_with_len (a + 1) n))
    (sym (ap f b0) ∙ like 0 (omega arith) ∙ ap g a0)
    (rows f g here there n (a + 1) (b + 1)
    (λ i l. let x : b + 1 + i ≡ b + (i + 1) = omega arith in let y : a + (i + 1) ≡ a + 1 + i = omega arith in
    ap here x ∙ same (i + 1) (omega (arith, l)) ∙ ap there y)
    (λ i l. let x : b + 1 + i ≡ b + (i + 1) = omega arith in let y : a + (i + 1) ≡ a + 1 + i = omega arith in
    ap f x ∙ like (i + 1) (omega (arith, l)) ∙ ap g y))

split : (b m n : ℕ) → range_with_len b (m + n) ≡ range_with_len b m ++ range_with_len (b + m) n
split b zero n = let e : b ≡ b + 0 = omega arith in let z : 0 + n ≡ n = omega arith in
    ap (range_with_len b) z ∙ ap (λ k. range_with_len k n) e
split b (suc m) n =
    let e : b + 1 + m ≡ b + suc m = omega arith in
    let z : suc m + n ≡ suc (m + n) = omega arith in
    ap (range_with_len b) z ∙ ap (λ xs. b ∷ xs) (split (b + 1) m n
    ∙ ap (λ k. range_with_len (b + 1) m ++ range_with_len k n) e)

-- the demands of the cells, resource by resource
row : (p : Parts) (cells : List Bool) (a b : ℕ) → AreCellsTo p (length p.monitors) cells → b ≡ a * length p.times
    → a < length p.resources
    → map (cell_demand (length p.times)) (filter (has_member cells) (range_with_len b (length p.times)))
    ≡ times_demands p a
row p cells a b are e l =
    rows (cell_demand (length p.times)) (λ t. Unavailable (record { 0 = a }) (record { 0 = t })) (has_member cells)
    (is_unavailable p a) (length p.times) 0 b
    (λ i near. ap (λ q. has_member cells (q + i)) e ∙ are.members a i l near
    ∙ ap (list_any (monitor_wants_free p a i)) (take_all (length p.monitors) p.monitors (omega arith))
    ∙ (let z : i ≡ 0 + i = omega arith in ap (is_unavailable p a) z))
    (λ i near. cell_is (length p.times) a i (b + i) near (ap (λ q. q + i) e)
    ∙ (let z : i ≡ 0 + i = omega arith in ap (λ (q : ℕ). Unavailable (record { 0 = a }) (record { 0 = q })) z))

all_rows : (p : Parts) (cells : List Bool) (k a b : ℕ) → AreCellsTo p (length p.monitors) cells → b ≡ a * length p.times
    → a + k ≤ length p.resources
    → map (cell_demand (length p.times)) (filter (has_member cells) (range_with_len b (k * length p.times)))
    ≡ flat_map (times_demands p) (range_with_len a k)
all_rows p cells zero a b are e l = let z : zero * length p.times ≡ 0 = omega arith in
    ap (λ n. map (cell_demand (length p.times)) (filter (has_member cells) (range_with_len b n))) z
all_rows p cells (suc k) a b are e l =
    let last = length p.times in
    let f = cell_demand last in
    let test = has_member cells in
    let many : suc k * length p.times ≡ length p.times + k * length p.times = grind arith in
    let next : b + length p.times ≡ (a + 1) * length p.times = let o = one_row (length p.times) a in
    omega (arith, o, e) in
    ap (λ n. map f (filter test (range_with_len b n))) many
    ∙ ap (λ xs. map f (filter test xs)) (split b last (k * last))
    ∙ ap (map f) (filter-append test (range_with_len b last) (range_with_len (b + last) (k * last)))
    ∙ map-append f (filter test (range_with_len b last)) (filter test (range_with_len (b + last) (k * last)))
    ∙ ap (λ xs. xs ++ map f (filter test (range_with_len (b + last) (k * last))))
    (row p cells a b are e (omega (arith, l)))
    ∙ ap (λ xs. times_demands p a ++ xs) (all_rows p cells k (a + 1) (b + last) are next (omega (arith, l)))

fewer : (test : ℕ → Bool) (xs : List ℕ) → length (filter test xs) ≤ length xs
fewer test [] = omega arith
fewer test (x ∷ xs) = step (test x) (fewer test xs)
  where
    step : (b : Bool) → length (filter test xs) ≤ length xs
        → length (cond b (x ∷ filter test xs) (filter test xs)) ≤ suc (length xs)
    step true h = omega (arith, h)
    step false h = omega (arith, h)

-- after all monitors
pub cells_done : (p : Parts) (cells : List Bool) → AreWellMade p → AreCellsTo p (length p.monitors) cells
    → AreCells p (members_of cells)
cells_done p cells made are = record {
  few = (let s = are.size in let c = made.limits.cells in let l =
      fewer (has_member cells) (range_with_len 0 (length cells)) in let r = length-range_with_len 0 (length cells) in
      omega (arith, s, c, l, r));
  below = All-filter (has_member cells) (λ c. c < length p.resources * length p.times) (range_with_len 0 (length cells))
      (All-from_get_or (λ c. c < length p.resources * length p.times) (range_with_len 0 (length cells)) 0
      (λ i l. let r = length-range_with_len 0 (length cells) in let g =
      get_or-range_with_len 0 (length cells) i 0 (omega (arith, l, r)) in let s = are.size in
      omega (arith, l, r, g, s)));
  listed = ap (λ n. map (cell_demand (length p.times)) (filter (has_member cells) (range_with_len 0 n))) are.size
      ∙ all_rows p cells (length p.resources) 0 0 are (omega arith) (omega arith);
}

-- the cells of a resource are within all
pub row_room : (p : Parts) (r t u : ℕ) → r < length p.resources → t ≡ length p.times → u ≡ length p.times
    → r * t + u ≤ length p.resources * length p.times
row_room p r t u l a b =
    let q = row_le (length p.times) (r + 1) (length p.resources) (omega (arith, l)) in
    let e = one_row (length p.times) r in
    let f = ap (λ n. r * n) a in
    omega (arith, q, e, f, b)
