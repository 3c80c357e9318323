-- The row of defects under a change of one line.
use Rattle.std.proofs.Common.{ℕ, ◌≡◌, ◌^◌, ◌<◌, nat_lt, nat_eq, Bool, true, false, cond, List, length, set, refl, sym}
use Rattle.std.proofs.Common.{ap, ◌∙◌, arith, inl, inr}
use Rattle.std.specs.Option.{option_map_or}
use Rattle.std.proofs.lemmas.Bool.{eqb-true, eqb-false, both_ways, cases_lt}
use Rattle.std.proofs.lemmas.List.{length-set}
use Rattle.std.proofs.lemmas.Option.{slice_get_past}
use Rattle.khe_base.specs.Bits.{is_set}
use Rattle.monitor_graph.proofs.ListLaws.{get-set_other}
use Rattle.khe_instance.specs.Costs.{is_defect}
use Rattle.khe_instance.specs.declared.parts.Parts.{Parts}
use Rattle.monitor_graph.proofs.ValueLaws.{defect_is}
use Rattle.monitor_graph.specs.Boards.{Board}
use Rattle.monitor_graph.specs.Rows.{AreSummed}
use Rattle.monitor_graph.specs.Values.{IsOf, costs_in}
use Rattle.monitor_graph.specs.Defects.{AreDefects}
use Rattle.monitor_graph.specs.Lines.{line_cost, is_defect_at, AreTotalled}
use Rattle.monitor_graph.specs.declared.lines.Line.{Line}
use Rattle.khe_base.proofs.ListLemmas.{get-set}

one_bit : (lines : List Line) (words words2 : List ℕ) (i m : ℕ) (y : Line) (t : Bool) → nat_eq m i ≡ t
    → i < length lines → is_set words m ≡ is_defect_at lines m
    → is_set words2 m ≡ cond (nat_eq m i) (nat_lt 0 (line_cost y)) (is_set words m)
    → is_set words2 m ≡ is_defect_at (set lines i y) m
one_bit lines words words2 i m y true e l old new =
    new ∙ ap (λ b. cond b (nat_lt 0 (line_cost y)) (is_set words m)) e
    ∙ sym (ap (λ n. is_defect_at (set lines i y) n) (eqb-true m i e)
    ∙ ap (λ o. option_map_or (λ (x : Line). nat_lt 0 (line_cost x)) o false) (get-set lines i y l))
one_bit lines words words2 i m y false e l old new =
    new ∙ ap (λ b. cond b (nat_lt 0 (line_cost y)) (is_set words m)) e ∙ old
    ∙ sym (ap (λ o. option_map_or (λ (x : Line). nat_lt 0 (line_cost x)) o false)
    (get-set_other lines i m y (eqb-false m i e)))

pub defects_set : (lines : List Line) (words summary words2 summary2 : List ℕ) (i : ℕ) (y : Line)
    → AreDefects lines words summary → i < length lines → length words2 ≡ length words
    → length summary2 ≡ length summary
    → ((m : ℕ) → is_set words2 m ≡ cond (nat_eq m i) (nat_lt 0 (line_cost y)) (is_set words m))
    → AreSummed words2 summary2 → AreDefects (set lines i y) words2 summary2
defects_set lines words summary words2 summary2 i y d l a b new w = record {
  summed = w;
  bits = λ m. one_bit lines words words2 i m y (nat_eq m i) refl l (d.bits m) (new m);
  room = let k = length-set lines i y in let r = d.room in omega (arith, k, r, a);
  summary_room = let r = d.summary_room in omega (arith, r, a, b);
  few = let r = d.few in omega (arith, r, a);
  summary_few = let r = d.summary_few in omega (arith, r, b);
}

pub defect_known : (lines : List Line) (hard soft m : ℕ) → AreTotalled lines hard soft → is_defect_at lines m ≡ true
    → m < 2 ^ 32
defect_known lines hard soft m k h = elim (cases_lt m (length lines)) [
  | inl l ↦ let f = k.few in omega (arith, l, f)
  | inr g ↦ absurd (both_ways false refl (sym (ap (λ o. option_map_or (λ (x : Line). nat_lt 0 (line_cost x)) o false)
      (slice_get_past lines m g)) ∙ h))
]

-- the bit of a monitor tells whether it is a defect
pub defect_bit : (b : Board) (p : Parts) (words summary : List ℕ) (m : ℕ) → IsOf b p → AreDefects b.lines words summary
    → is_defect (costs_in p b) m ≡ is_set words m
defect_bit b p words summary m e d = defect_is b p m e ∙ sym (d.bits m)
