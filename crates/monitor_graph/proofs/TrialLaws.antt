-- Totals with other deviations: where they begin, how one deviation more changes them, and what they are.
use Rattle.std.proofs.Common.{ℕ, ◌≡◌, ◌+◌, ◌-◌, ◌*◌, ◌<◌, ◌≤◌, false, List, map, length, get_or, set, refl, sym, ap, ◌∙◌, subst, arith}
use Rattle.std.specs.Prelude.{not}
use Rattle.std.proofs.lemmas.List.{length-map, get_or-map}
use Rattle.std.proofs.lemmas.List.Elements.{All-get_or}
use Rattle.std.proofs.lemmas.List.Sums.{get_or-le-sum_by}
use Rattle.std.proofs.lemmas.Simd.{map-map}
use Rattle.khe_base.specs.declared.limits.TheConstants.{GREATEST_DEVIATION, GREATEST_COST, MONITORS}
use Rattle.khe_base.specs.declared.sums.Totals.{Totals}
use Rattle.khe_instance.specs.Costs.{costs_of, totals_of}
use Rattle.khe_instance.specs.declared.parts.Parts.{Parts}
use Rattle.monitor_graph.specs.Boards.{Board, fixed_of, rate_of, deviations_of}
use Rattle.monitor_graph.specs.Lines.{hard_cost, soft_cost, IsLine, AreTotalled}
use Rattle.monitor_graph.specs.Trials.{AreTotalsWith, IsStill}
use Rattle.monitor_graph.specs.Values.{IsOf, is_detached}
use Rattle.monitor_graph.specs.declared.lines.Line.{Line}
use Rattle.monitor_graph.proofs.LineLaws.{totalled_set, totals_small, deviations_set, rest_set}
use Rattle.monitor_graph.proofs.ValueLaws.{totals_are}

with_deviation : Line → ℕ → Line
with_deviation x n = record x { deviation = n }

-- a line is known by its fixed part and its deviation
line_is : (x : Line) → x ≡ with_deviation (fixed_of x) x.deviation
unfolding with_deviation
line_is x = refl

same_line : (x y : Line) → fixed_of x ≡ fixed_of y → x.deviation ≡ y.deviation → x ≡ y
same_line x y f e = line_is x ∙ (λ i. with_deviation (f i) (e i)) ∙ sym (line_is y)

as_many : (xs ys : List Line) → map fixed_of xs ≡ map fixed_of ys → length ys ≡ length xs
as_many xs ys e = sym (length-map ys fixed_of) ∙ sym (ap length e) ∙ length-map xs fixed_of

-- where the deviation is still the line's, the line is
still : (lines : List Line) (ds : List ℕ) (t : Totals) (m : ℕ) (d : Line) → m < length lines
    → (h : AreTotalsWith lines ds t) → IsStill lines ds m → get_or h.others m d ≡ get_or lines m d
still lines ds t m d l h s =
    let many = as_many lines h.others h.rest in
    let there : m < length h.others = omega (arith, l, many) in
    let devs : (get_or h.others m d).deviation ≡ (get_or lines m d).deviation =
    sym (get_or-map (λ (x : Line). x.deviation) h.others m d 0 there) ∙ ap (λ xs. get_or xs m 0) h.deviations_ ∙ s
    ∙ get_or-map (λ (x : Line). x.deviation) lines m d 0 l in
    let fixed : fixed_of (get_or h.others m d) ≡ fixed_of (get_or lines m d) =
    sym (get_or-map fixed_of h.others m d d there) ∙ ap (λ xs. get_or xs m d) (sym h.rest)
    ∙ get_or-map fixed_of lines m d d l in
    same_line (get_or h.others m d) (get_or lines m d) fixed devs

-- what a line costs is part of the totals, which are small
pub record IsPart (x : Line) (t : Totals) : Type 0 where
  pub hard : hard_cost x ≤ t.hard
  pub soft : soft_cost x ≤ t.soft
  pub hard_small : t.hard ≤ MONITORS * GREATEST_COST
  pub soft_small : t.soft ≤ MONITORS * GREATEST_COST

pub is_part : (lines : List Line) (ds : List ℕ) (t : Totals) (m : ℕ) (d : Line) → m < length lines
    → AreTotalsWith lines ds t → IsStill lines ds m → IsPart (get_or lines m d) t
is_part lines ds t m d l h s =
    let many = as_many lines h.others h.rest in
    let there : m < length h.others = omega (arith, l, many) in
    let same = still lines ds t m d l h s in
    let a = get_or-le-sum_by hard_cost h.others m d there in
    let b = get_or-le-sum_by soft_cost h.others m d there in
    let e : hard_cost (get_or h.others m d) ≡ hard_cost (get_or lines m d) = ap hard_cost same in
    let f : soft_cost (get_or h.others m d) ≡ soft_cost (get_or lines m d) = ap soft_cost same in
    let hard = h.totals.hard in
    let soft = h.totals.soft in
    let small = totals_small h.others t.hard t.soft h.totals in
    record {
      hard = omega (arith, a, e, hard);
      soft = omega (arith, b, f, soft);
      hard_small = small.0;
      soft_small = small.1;
    }

-- a line with another deviation in the place of a monitor's
pub shifted : (lines : List Line) (ds : List ℕ) (t u : Totals) (m n : ℕ) (d : Line) → m < length lines
    → n ≤ GREATEST_DEVIATION → AreTotalsWith lines ds t → IsStill lines ds m
    → u.hard ≡ t.hard - hard_cost (get_or lines m d) + hard_cost (record (get_or lines m d) { deviation = n })
    → u.soft ≡ t.soft - soft_cost (get_or lines m d) + soft_cost (record (get_or lines m d) { deviation = n })
    → AreTotalsWith lines (set ds m n) u
shifted lines ds t u m n d l small h s hard soft =
    let x = get_or lines m d in
    let y : Line = record x { deviation = n } in
    let many = as_many lines h.others h.rest in
    let there : m < length h.others = omega (arith, l, many) in
    let same = still lines ds t m d l h s in
    let line : IsLine (get_or h.others m d) = All-get_or IsLine h.others m d there h.totals.each in
    let light : IsLine x = subst IsLine same line in
    let k = totalled_set h.others t.hard t.soft m y d h.totals there (light.0, small) in
    record {
      others = set h.others m y;
      rest = h.rest ∙ rest_set h.others m y d (ap fixed_of (sym same));
      deviations_ = deviations_set h.others m y ∙ ap (λ xs. set xs m n) h.deviations_;
      totals =
          record {
            few = k.few;
            each = k.each;
            hard = hard ∙ ap (λ z. t.hard - hard_cost z + hard_cost y) (sym same) ∙ k.hard;
            soft = soft ∙ ap (λ z. t.soft - soft_cost z + soft_cost y) (sym same) ∙ k.soft;
          };
    }

-- the totals of a graph of an instance, with other deviations, are the definitions'
pub totals_with : (b : Board) (p : Parts) (ds : List ℕ) (t : Totals) → IsOf b p → AreTotalsWith b.lines ds t
    → t ≡ totals_of p (costs_of p (is_detached b) ds)
totals_with b p ds t e h =
    let c : Board = record b { lines = h.others } in
    let rates : IsOf c p =
    sym (map-map rate_of fixed_of h.others) ∙ ap (map rate_of) (sym h.rest) ∙ map-map rate_of fixed_of b.lines ∙ e in
    let flags : map (λ (x : Line). x.attached) h.others ≡ map (λ (x : Line). x.attached) b.lines =
    sym (map-map (λ (x : Line). x.attached) fixed_of h.others) ∙ ap (map (λ (x : Line). x.attached)) (sym h.rest)
    ∙ map-map (λ (x : Line). x.attached) fixed_of b.lines in
    totals_are c p rates t h.totals.hard h.totals.soft
    ∙ (λ i. totals_of p (costs_of p (λ n. not (get_or (flags i) n false)) (h.deviations_ i)))

-- the totals of lines are theirs with their own deviations
pub own_totals : (lines : List Line) (t : Totals) → AreTotalled lines t.hard t.soft
    → AreTotalsWith lines (map (λ (x : Line). x.deviation) lines) t
own_totals lines t h = record { others = lines; rest = refl; deviations_ = refl; totals = h }
