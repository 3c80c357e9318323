-- Demands that were opened can be listed.
use Rattle.std.proofs.Common.{ℕ, List, length, sym, ap, ◌∙◌, arith}
use Rattle.std.proofs.Props.{props}
use Rattle.std.proofs.Math.Logic.{∥∥₁_elim}
use Rattle.std.proofs.lemmas.List.{length-map}
use Rattle.khe_instance.specs.declared.parts.Parts.{Parts}
use Rattle.khe_told.proofs.OpeningLaws.{slots_amount}
use Rattle.khe_told.specs.Slots.{emptied}
use Rattle.khe_told.specs.declared.slots.Slot.{Slot}
use Rattle.demand_matching.specs.Domains.{Domains}
use Rattle.hall_report.proofs.Noting.{readable_is}
use Rattle.hall_report.proofs.Numbers.{slot_is}
use Rattle.hall_report.specs.Kept.{AreOf, AreOfSome}
use Rattle.hall_report.specs.Listing.{IsSafe}
use Rattle.hall_report.specs.declared.renewing.Picks.{Picks}
use Rattle.hall_report.specs.declared.units.Units.{Units}

safe_of : (p : Parts) (s : List Slot) (u : Units) (picks : Picks) (w : Domains) (cells : List ℕ) (tasks times : ℕ)
    → AreOf p s u picks w cells tasks times → IsSafe s u w cells tasks times
safe_of p s u picks w cells tasks times are =
    let a = are.task_count in
    let b = are.opened.made.limits.tasks in
    let d = are.opened.few in
    let e = are.opened.amount in
    record {
      total = omega (arith, a, b, d);
      size = omega (arith, a, e);
      timed = λ l. let f = are.opened.timed l in let g = are.time_count in omega (arith, f, g);
      few = (let f = sym (length-map s emptied) ∙ ap length are.told.whose ∙ slots_amount 0 p.events in let g =
          are.opened.made.limits.duration in omega (arith, f, g));
      readable = λ m l. (
        readable_is p s u m are.opened.made are.told are.units are.opened.firsts l,
        (let x = slot_is p s m are.opened.made.first_meets are.told.whose l in x.slot.meet),
      );
    }

pub safe : (s : List Slot) (u : Units) (picks : Picks) (w : Domains) (cells : List ℕ) (tasks times : ℕ)
    → AreOfSome s u picks w cells tasks times → IsSafe s u w cells tasks times
safe s u picks w cells tasks times h = ∥∥₁_elim h (hlevel props) (λ x. safe_of x.0 s u picks w cells tasks times x.1)

-- the numbers of a Hall set are those of demands
