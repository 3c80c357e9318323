-- Totals with the deviations of those that were measured so far.
use Rattle.std.proofs.Common.{ℕ, ◌≡◌, ◌<◌, Bool, true, false, List, length, get_or, set, slice_get, Some}
use Rattle.std.proofs.Common.{ap, ◌∙◌}
use Rattle.std.specs.Option.{option_map}
use Rattle.std.proofs.lemmas.List.{get_or-set_other, length-map, length-set}
use Rattle.khe_base.specs.declared.sums.Totals.{Totals}
use Rattle.khe_instance.specs.Costs.{costs_of, totals_of}
use Rattle.khe_instance.specs.declared.parts.Parts.{Parts}
use Rattle.khe_told.specs.Agreement.{deviation_in}
use Rattle.khe_told.specs.declared.slots.Slot.{Slot}
use Rattle.monitor_graph.specs.Boards.{Board, deviations_of}
use Rattle.monitor_graph.specs.Trials.{AreTotalsWith, IsStill}
use Rattle.monitor_graph.specs.Values.{IsOf, is_detached}
use Rattle.monitor_graph.specs.declared.lines.Line.{Line}
use Rattle.monitor_graph.proofs.TrialLaws.{totals_with}
use Rattle.monitor_graph.proofs.ValueLaws.{as_many}
use Rattle.khe_engine.specs.Settled.{AreMeasured}
use Rattle.khe_engine.specs.States.{state_of}
use Rattle.khe_engine.specs.Values.{totals}
use Rattle.khe_engine.proofs.SettleLaws.{another_waits, measured_one}
use Rattle.khe_engine.proofs.ValueLaws.{values_all}

-- n were measured: the monitors that wait have the graph's deviation still
pub record AreUnderWay (p : Parts) (waits : ℕ → Bool) (s : List Slot) (b : Board) (t : Totals) : Type 0 where
  pub ds : List ℕ
  pub long : length ds ≡ length p.monitors
  pub measured : AreMeasured p waits s ds
  pub still : (k : ℕ) → waits k ≡ true → IsStill b.lines ds k
  pub totals_ : AreTotalsWith b.lines ds t

pub as_long : (p : Parts) (b : Board) → IsOf b p → length (deviations_of b) ≡ length p.monitors
as_long p b of = length-map b.lines (λ (x : Line). x.deviation) ∙ as_many b p of

pub measure_more : (p : Parts) (s : List Slot) (b : Board) (t u : Totals) (flags : List Bool) (k r : ℕ)
    → k < length flags → k < length p.monitors
    → option_map (deviation_in p s) (slice_get p.monitors k) ≡ Some r → get_or flags k false ≡ true
    → ((ds : List ℕ) → AreTotalsWith b.lines ds t → IsStill b.lines ds k → AreTotalsWith b.lines (set ds k r) u)
    → AreUnderWay p (λ i. get_or flags i false) s b t
    → AreUnderWay p (λ i. get_or (set flags k false) i false) s b u
measure_more p s b t u flags k r l known e w shifted h = record {
  ds = set h.ds k r;
  long = length-set h.ds k r ∙ h.long;
  measured = measured_one p s h.ds flags k r h.long known e h.measured;
  still = λ i v.
      let a = another_waits flags k i l v in
      get_or-set_other h.ds k i r 0 a.0 ∙ h.still i a.1;
  totals_ = shifted h.ds h.totals_ (h.still k w);
}

pub all_measured : (p : Parts) (waits : ℕ → Bool) (s : List Slot) (b : Board) (t : Totals) → IsOf b p
    → ((k : ℕ) → waits k ≡ false) → AreUnderWay p waits s b t → t ≡ totals p (state_of s b)
all_measured p waits s b t of none h = totals_with b p h.ds t of h.totals_
    ∙ ap (λ ds. totals_of p (costs_of p (is_detached b) ds))
    (values_all p s h.ds h.long (λ i m at. h.measured i m at (none i)))
