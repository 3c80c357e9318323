-- A list of the Hall set is that of the demands that compete.
use Rattle.std.proofs.Common.{ℕ, ◌+◌, ◌≡◌, List, length, ap, ◌∙◌, sym, arith}
use Rattle.khe_instance.specs.declared.parts.Parts.{Parts}
use Rattle.khe_told.specs.declared.slots.Slot.{Slot}
use Rattle.demand_matching.specs.Domains.{Domains}
use Rattle.hall_report.specs.Demands.{IsDeficitOf, IsHallOf, demands}
use Rattle.hall_report.specs.Kept.{AreOf}
use Rattle.hall_report.specs.declared.demand.Demand.{Demand}
use Rattle.hall_report.specs.declared.renewing.Picks.{Picks}
use Rattle.hall_report.specs.declared.units.Units.{Units}
use Rattle.hall_report.specs.Shortages.{AreCompeting, deficit_of, hall_of, supplies_of}
use Rattle.hall_report.proofs.Outnumbering.{outnumber}
use Rattle.hall_report.proofs.ShortageLaws.{chosen_few, few_demands, hall_told}

module _ (p : Parts) (s : List Slot) (u : Units) (picks : Picks) (w : Domains) (cells : List ℕ) (tasks times : ℕ)
    (are : AreOf p s u picks w cells tasks times) where
  pub hall_kept : (deficit : ℕ) (hall : List Demand) → IsDeficitOf p s deficit → IsHallOf p s hall
      → AreCompeting p s hall
  hall_kept deficit hall is own =
      let same : hall ≡ hall_of p s = hall_told p s deficit hall is own in
      record {
        are = same;
        outnumber = ap length same ∙ outnumber p s ∙ ap (λ h. supplies_of p s h + deficit_of p s) (sym same);
        few = (let l = chosen_few p s u picks w cells tasks times are own.0 0 (demands p s) in
            let e = ap length own.2 in let f = few_demands p s u picks w cells tasks times are in
            omega (arith, l, e, f));
      }
