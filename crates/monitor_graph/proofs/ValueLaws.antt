-- What lines cost is what the definitions of evaluation say of a graph of an instance.
use Rattle.std.proofs.Common.{ℕ, zero, suc, ◌≡◌, ◌+◌, ◌*◌, ◌<◌, nat_lt, Bool, true, false, cond, Option, Some, None}
use Rattle.std.proofs.Common.{List, [], ◌∷◌, length, map, get_or, slice_get, refl, sym, ap, ◌∙◌, subst, arith, sum}
use Rattle.std.specs.Prelude.{not}
use Rattle.std.specs.List.{range_with_len, sum_by}
use Rattle.std.specs.Option.{option_map, option_map_or}
use Rattle.std.proofs.lemmas.Grind.{same_number_lists}
use Rattle.std.proofs.lemmas.List.{length-map}
use Rattle.std.proofs.lemmas.List.FromFn.{get_or-map-range_with_len, length-map-range_with_len}
use Rattle.std.proofs.lemmas.List.Sums.{sum-map, sum_by-cons}
use Rattle.std.proofs.lemmas.Option.{slice_get-get_or, slice_get-map}
use Rattle.khe_base.specs.Costs.{cost_of}
use Rattle.khe_base.specs.declared.numbers.MonitorId.{MonitorId}
use Rattle.khe_base.specs.declared.sums.Totals.{Totals}
use Rattle.khe_instance.specs.Costs.{monitor_cost, cost_at, is_hard, is_hard_at, is_defect, totals_among, totals_of}
use Rattle.khe_instance.specs.declared.parts.Parts.{Parts}
use Rattle.khe_instance.specs.declared.points.Monitor.{Monitor}
use Rattle.khe_instance.specs.declared.rules.Constraint.{Constraint}
use Rattle.monitor_graph.specs.Boards.{Board, rate_of, deviations_of}
use Rattle.monitor_graph.specs.Lines.{line_cost, hard_cost, soft_cost, line_costs, is_defect_at}
use Rattle.monitor_graph.specs.Opened.{line_for, no_line, line_of}
use Rattle.monitor_graph.specs.Values.{IsOf, is_detached, costs_in}
use Rattle.monitor_graph.specs.declared.lines.Line.{Line}
use Rattle.khe_base.proofs.ListLemmas.{get-map, sum-mapped}

get-flags : {A : Type 0} (f : A → Bool) (xs : List A) (n : ℕ)
    → get_or (map f xs) n false ≡ option_map_or f (slice_get xs n) false
get-flags f [] n = refl
get-flags f (x ∷ xs) zero = refl
get-flags f (x ∷ xs) (suc n) = get-flags f xs n

-- a line is that of its monitor
abbrev IsRate : Parts → Option Line → Option Monitor → Type 0
IsRate p x m = option_map rate_of x ≡ option_map (line_of p false) m

rate_at : (b : Board) (p : Parts) (n : ℕ) → IsOf b p → IsRate p (slice_get b.lines n) (slice_get p.monitors n)
rate_at b p n e = sym (slice_get-map rate_of b.lines n) ∙ ap (λ xs. slice_get xs n) e
    ∙ slice_get-map (line_of p false) p.monitors n

held : Line → Option Line → Line
held d None = d
held d (Some x) = x

abbrev IsThere : {A : Type 0} → Option A → Type 0
IsThere None = ⊥
IsThere (Some a) = Unit {0}

same : (a b : Line) → Some a ≡ Some b → a ≡ b
unfolding held
same a b h = ap (held a) h

some-none : {A : Type 0} (a : A) → Some a ≡ None → ⊥
some-none a h = subst IsThere h tt

-- its cost
turn : (t : Bool) (v w : ℕ) → v ≡ w → cond (not t) 0 v ≡ cond t w 0
turn true v w h = h
turn false v w h = refl

cost_by : (o : Option Constraint) (x : Line) → rate_of x ≡ option_map_or (line_for false) o (no_line false)
    → cond (not x.attached) 0 (option_map_or (λ (c : Constraint). cost_of c.cost c.weight x.deviation) o 0)
    ≡ line_cost x
cost_by (Some c) x e = turn x.attached (cost_of c.cost c.weight x.deviation) (cost_of x.function x.weight x.deviation)
    (sym (λ i. cost_of (e i).function (e i).weight x.deviation))
cost_by None x e =
    let nothing : 0 * x.deviation ≡ 0 = omega arith in
    turn x.attached 0 (cost_of x.function x.weight x.deviation)
    (sym ((λ i. cost_of (e i).function (e i).weight x.deviation) ∙ nothing))

cost_there : (p : Parts) (n : ℕ) (x : Option Line) (m : Option Monitor) → IsRate p x m
    → option_map_or (λ y. monitor_cost p (not (option_map_or (λ (z : Line). z.attached) x false)) y
    (option_map_or (λ (z : Line). z.deviation) x 0)) m 0 ≡ option_map_or line_cost x 0
cost_there p n None None e = refl
cost_there p n None (Some m) e = absurd (some-none (line_of p false m) (sym e))
cost_there p n (Some x) None e = absurd (some-none (rate_of x) e)
cost_there p n (Some x) (Some m) e = cost_by (slice_get p.constraints m.constraint) x
    (same (rate_of x) (line_of p false m) e)

pub cost_is : (b : Board) (p : Parts) (n : ℕ) → IsOf b p
    → cost_at p (is_detached b) (deviations_of b) n ≡ option_map_or line_cost (slice_get b.lines n) 0
cost_is b p n e =
    (λ i. option_map_or (λ y. monitor_cost p (not (get_flags i)) y (get_devs i)) (slice_get p.monitors n) 0)
    ∙ cost_there p n (slice_get b.lines n) (slice_get p.monitors n) (rate_at b p n e)
  where
    get_flags : get_or (map (λ (z : Line). z.attached) b.lines) n false
        ≡ option_map_or (λ (z : Line). z.attached) (slice_get b.lines n) false
    get_flags = get-flags (λ (z : Line). z.attached) b.lines n

    get_devs : get_or (map (λ (z : Line). z.deviation) b.lines) n 0
        ≡ option_map_or (λ (z : Line). z.deviation) (slice_get b.lines n) 0
    get_devs = get-map (λ (z : Line). z.deviation) b.lines n

pub as_many : (b : Board) (p : Parts) → IsOf b p → length b.lines ≡ length p.monitors
as_many b p e = sym (length-map b.lines rate_of) ∙ ap length e ∙ length-map p.monitors (line_of p false)

-- the costs of all
pub costs_are : (b : Board) (p : Parts) → IsOf b p → costs_in p b ≡ line_costs b.lines
costs_are b p e =
    let many = as_many b p e in
    let long : length (costs_in p b) ≡ length p.monitors =
    length-map-range_with_len (cost_at p (is_detached b) (deviations_of b)) 0 (length p.monitors) in
    same_number_lists (costs_in p b) (line_costs b.lines) (long ∙ sym many ∙ sym (length-map b.lines line_cost))
    (λ k l. get_or-map-range_with_len (cost_at p (is_detached b) (deviations_of b)) 0 (length p.monitors) k k 0
    (omega (arith, l, long)) (omega arith)
    ∙ cost_is b p k e ∙ sym (get-map line_cost b.lines k))

pub cost_in : (b : Board) (p : Parts) (n : ℕ) → IsOf b p
    → get_or (costs_in p b) n 0 ≡ option_map_or line_cost (slice_get b.lines n) 0
cost_in b p n e = ap (λ xs. get_or xs n 0) (costs_are b p e) ∙ get-map line_cost b.lines n

-- a defect
pub defect_is : (b : Board) (p : Parts) (n : ℕ) → IsOf b p → is_defect (costs_in p b) n ≡ is_defect_at b.lines n
defect_is b p n e = ap (nat_lt 0) (cost_in b p n e) ∙ go (slice_get b.lines n)
  where
    go : (x : Option Line) → nat_lt 0 (option_map_or line_cost x 0)
        ≡ option_map_or (λ (y : Line). nat_lt 0 (line_cost y)) x false
    go None = refl
    go (Some x) = refl

-- what of its cost is hard, and what is soft
required_by : (o : Option Constraint) (x : Line) → rate_of x ≡ option_map_or (line_for false) o (no_line false)
    → option_map_or (λ (c : Constraint). c.required) o false ≡ x.required
required_by (Some c) x e = sym (λ i. (e i).required)
required_by None x e = sym (λ i. (e i).required)

hard_there : (p : Parts) (x : Option Line) (m : Option Monitor) → IsRate p x m
    → cond (option_map_or (is_hard p) m false) (option_map_or line_cost x 0) 0 ≡ option_map_or hard_cost x 0
hard_there p None None e = refl
hard_there p None (Some m) e = absurd (some-none (line_of p false m) (sym e))
hard_there p (Some x) None e = absurd (some-none (rate_of x) e)
hard_there p (Some x) (Some m) e = ap (λ t. cond t (line_cost x) 0)
    (required_by (slice_get p.constraints m.constraint) x (same (rate_of x) (line_of p false m) e))

soft_there : (p : Parts) (x : Option Line) (m : Option Monitor) → IsRate p x m
    → cond (option_map_or (is_hard p) m false) 0 (option_map_or line_cost x 0) ≡ option_map_or soft_cost x 0
soft_there p None None e = refl
soft_there p None (Some m) e = absurd (some-none (line_of p false m) (sym e))
soft_there p (Some x) None e = absurd (some-none (rate_of x) e)
soft_there p (Some x) (Some m) e = ap (λ t. cond t 0 (line_cost x))
    (required_by (slice_get p.constraints m.constraint) x (same (rate_of x) (line_of p false m) e))

hard_is : (b : Board) (p : Parts) (n : ℕ) → IsOf b p
    → cond (is_hard_at p n) (get_or (costs_in p b) n 0) 0 ≡ option_map_or hard_cost (slice_get b.lines n) 0
hard_is b p n e = ap (λ v. cond (is_hard_at p n) v 0) (cost_in b p n e)
    ∙ hard_there p (slice_get b.lines n) (slice_get p.monitors n) (rate_at b p n e)

soft_is : (b : Board) (p : Parts) (n : ℕ) → IsOf b p
    → cond (is_hard_at p n) 0 (get_or (costs_in p b) n 0) ≡ option_map_or soft_cost (slice_get b.lines n) 0
soft_is b p n e = ap (λ v. cond (is_hard_at p n) 0 v) (cost_in b p n e)
    ∙ soft_there p (slice_get b.lines n) (slice_get p.monitors n) (rate_at b p n e)

-- sums of equal terms
sum_same : {A : Type 0} (f g : A → ℕ) → ((x : A) → f x ≡ g x) → (xs : List A) → sum_by f xs ≡ sum_by g xs
sum_same f g h [] = refl
sum_same f g h (x ∷ xs) = sum_by-cons f x xs ∙ (λ i. h x i + sum_same f g h xs i) ∙ sym (sum_by-cons g x xs)

sum_range : (f : Line → ℕ) (lines : List Line)
    → sum_by (λ n. option_map_or f (slice_get lines n) 0) (range_with_len 0 (length lines)) ≡ sum_by f lines
sum_range f lines =
    let g : ℕ → ℕ = λ n. option_map_or f (slice_get lines n) 0 in
    let long = length-map-range_with_len g 0 (length lines) in
    let each = same_number_lists (map g (range_with_len 0 (length lines))) (map f lines)
    (long ∙ sym (length-map lines f))
    (λ k l. get_or-map-range_with_len g 0 (length lines) k k 0 (omega (arith, l, long)) (omega arith)
    ∙ sym (get-map f lines k)) in
    sym (sum-map g (range_with_len 0 (length lines))) ∙ ap sum each ∙ sum-map f lines

-- the totals
pub totals_are : (b : Board) (p : Parts) → IsOf b p → (t : Totals) → t.hard ≡ sum_by hard_cost b.lines
    → t.soft ≡ sum_by soft_cost b.lines → t ≡ totals_of p (costs_in p b)
totals_are b p e t h k = λ i. record { hard = hard_sum i; soft = soft_sum i }
  where
    hard_sum : t.hard ≡ (totals_of p (costs_in p b)).hard
    hard_sum = h ∙ sym (sum_same (λ n. cond (is_hard_at p n) (get_or (costs_in p b) n 0) 0)
        (λ n. option_map_or hard_cost (slice_get b.lines n) 0) (λ n. hard_is b p n e)
        (range_with_len 0 (length p.monitors))
        ∙ ap (λ n. sum_by (λ m. option_map_or hard_cost (slice_get b.lines m) 0) (range_with_len 0 n))
        (sym (as_many b p e)) ∙ sum_range hard_cost b.lines)

    soft_sum : t.soft ≡ (totals_of p (costs_in p b)).soft
    soft_sum = k ∙ sym (sum_same (λ n. cond (is_hard_at p n) 0 (get_or (costs_in p b) n 0))
        (λ n. option_map_or soft_cost (slice_get b.lines n) 0) (λ n. soft_is b p n e)
        (range_with_len 0 (length p.monitors))
        ∙ ap (λ n. sum_by (λ m. option_map_or soft_cost (slice_get b.lines m) 0) (range_with_len 0 n))
        (sym (as_many b p e)) ∙ sum_range soft_cost b.lines)

pub group_is : (b : Board) (p : Parts) (children : List MonitorId) → IsOf b p → (t : Totals)
    → t.hard ≡ sum_by (λ (c : MonitorId). option_map_or hard_cost (slice_get b.lines c.0) 0) children
    → t.soft ≡ sum_by (λ (c : MonitorId). option_map_or soft_cost (slice_get b.lines c.0) 0) children
    → t ≡ totals_among p (costs_in p b) (map (λ (c : MonitorId). c.0) children)
group_is b p children e t h k = λ i. record { hard = hard_sum i; soft = soft_sum i }
  where
    hard_sum : t.hard ≡ (totals_among p (costs_in p b) (map (λ (c : MonitorId). c.0) children)).hard
    hard_sum = h ∙ sym (sum-mapped (λ n. cond (is_hard_at p n) (get_or (costs_in p b) n 0) 0) (λ (c : MonitorId). c.0)
        children
        ∙ sum_same (λ (c : MonitorId). cond (is_hard_at p c.0) (get_or (costs_in p b) c.0 0) 0)
        (λ (c : MonitorId). option_map_or hard_cost (slice_get b.lines c.0) 0) (λ c. hard_is b p c.0 e) children)

    soft_sum : t.soft ≡ (totals_among p (costs_in p b) (map (λ (c : MonitorId). c.0) children)).soft
    soft_sum = k ∙ sym (sum-mapped (λ n. cond (is_hard_at p n) 0 (get_or (costs_in p b) n 0)) (λ (c : MonitorId). c.0)
        children
        ∙ sum_same (λ (c : MonitorId). cond (is_hard_at p c.0) 0 (get_or (costs_in p b) c.0 0))
        (λ (c : MonitorId). option_map_or soft_cost (slice_get b.lines c.0) 0) (λ c. soft_is b p c.0 e) children)

-- a line that is there
pub at_line : (f : Line → ℕ) (lines : List Line) (m : ℕ) (d : Line) → m < length lines
    → option_map_or f (slice_get lines m) 0 ≡ f (get_or lines m d)
at_line f lines m d l = ap (λ x. option_map_or f x 0) (slice_get-get_or lines m d l)
