-- The Hall set of a told state from the numbers that are marked.
use Rattle.std.proofs.Common.{ℕ, ◌+◌, ◌<◌, ◌≤◌, ◌≡◌, Bool, true, ◌&&◌, List, [], ◌∷◌, ◌++◌, map, length, refl, sym}
use Rattle.std.proofs.Common.{ap, ◌∙◌, arith}
use Rattle.std.specs.List.{filter}
use Rattle.std.proofs.lemmas.Bool.{and_parts, false≢true}
use Rattle.std.proofs.lemmas.List.{length-map}
use Rattle.std.proofs.lemmas.Option.{slice_get_within}
use Rattle.khe_base.specs.IdSet.{has_member}
use Rattle.khe_instance.specs.declared.parts.Parts.{Parts}
use Rattle.khe_told.specs.declared.slots.Slot.{Slot}
use Rattle.demand_matching.specs.Domains.{Domains, is_present}
use Rattle.demand_matching.specs.Excess.{IsDeficit, IsHallSet}
use Rattle.hall_report.proofs.ExcessLaws.{none_near}
use Rattle.hall_report.proofs.ListingLaws.{chosen_both, chosen_filter, chosen_moved}
use Rattle.hall_report.proofs.Renaming.{hall_renamed}
use Rattle.hall_report.proofs.Stated.{is_own, kept_number, kept_place, later_number, many, number_of_task, renamed}
use Rattle.hall_report.specs.Demands.{IsHallOf, chosen, demands, domains, task_demands, unavailable_demands}
use Rattle.hall_report.specs.Kept.{AreOf, cell_demand}
use Rattle.hall_report.specs.Listing.{is_marked}
use Rattle.hall_report.specs.declared.demand.Demand.{Demand}
use Rattle.hall_report.specs.declared.renewing.Picks.{Picks}
use Rattle.hall_report.specs.declared.units.Units.{Units}

and_same : (a b : Bool) → a ≡ true → a && b ≡ b
and_same a b h = ap (λ v. v && b) h

-- nothing is listed where nothing is marked
unmarked_tasks : (u : Units) (ds : List Demand) → filter (is_marked u []) ds ≡ []
unmarked_tasks u [] = refl
unmarked_tasks u (d ∷ ds) = unmarked_tasks u ds

unmarked_cells : (tasks n : ℕ) (ds : List Demand) → chosen (λ i. has_member [] (tasks + i)) n ds ≡ []
unmarked_cells tasks n [] = refl
unmarked_cells tasks n (d ∷ ds) = unmarked_cells tasks (n + 1) ds

-- no demands are the least set where the deficit is 0
none_least : (w : Domains) → IsDeficit w 0 → IsHallSet w (has_member [])
none_least w is = record {
  present = λ d h. absurd (false≢true h);
  greatest = λ other. let a = is.bound other in let b = none_near w in omega (arith, a, b);
  least = λ other great d h. absurd (false≢true h);
}

module _ (p : Parts) (s : List Slot) (u : Units) (picks : Picks) (w : Domains) (cells : List ℕ) (tasks times : ℕ)
    (are : AreOf p s u picks w cells tasks times) where
  pub hall_is : (marks : List Bool) (hall : List Demand) → IsHallSet w (has_member marks)
      → hall ≡ filter (is_marked u marks) (task_demands s)
      ++ chosen (λ i. has_member marks (tasks + i)) 0 (map (cell_demand times) cells) → IsHallOf p s hall
  hall_is marks hall least listed =
      let f : ℕ → ℕ = kept_number p s u picks w cells are.told are.units are.opened are.numbered in
      let g : ℕ → ℕ = kept_place p s u picks w cells are.told are.units are.opened are.numbered in
      let set : ℕ → Bool = has_member marks in
      let test : ℕ → Bool = λ k. is_present (domains p s) k && set (f k) in
      let ts : List Demand = task_demands s in
      let total = many p s u picks w cells are.told are.units are.opened are.numbered in
      let present : (k : ℕ) → k < length (demands p s)
      → is_present (domains p s) k ≡ true = λ k l. is_own p s u picks w cells are.told are.units are.opened
      are.numbered k l in
      let one : filter (is_marked u marks) ts ≡ chosen test 0 ts =
      chosen_filter test (is_marked u marks) 0 ts
      (λ i d h.
      let l = slice_get_within ts i d h in
      let z : i ≡ 0 + i = omega arith in
      ap set (sym (number_of_task p s u picks w cells are.told are.units are.opened
      are.numbered i d h)) ∙ sym (and_same (is_present (domains p s) i) (set (f i))
      (present i (omega (arith, l, total)))) ∙ ap test z) in
      let two : chosen (λ i. has_member marks (tasks + i)) 0 (map (cell_demand times) cells)
      ≡ chosen test (0 + length ts) (map (cell_demand times) cells) =
      chosen_moved (λ i. has_member marks (tasks + i)) test 0 (0 + length ts) (map (cell_demand times) cells)
      (λ i l.
      let n = length-map cells (cell_demand times) in
      let k : ℕ = 0 + length ts + i in
      let low : length ts ≤ k = omega arith in
      let e : tasks + (0 + i) ≡ f k = let a = later_number p s u picks w cells are.told are.units are.opened
      are.numbered k low in let b = are.task_count in omega (arith, a, b) in
      ap set e ∙ sym (and_same (is_present (domains p s) k) (set (f k))
      (present k (omega (arith, l, n, total))))) in
      let three : map (cell_demand times) cells ≡ unavailable_demands p =
      ap (λ t. map (cell_demand t) cells) are.time_count ∙ are.opened.listed in (
        test,
        hall_renamed (domains p s) w f g set test (renamed p s u picks w cells are.told are.units are.opened
            are.numbered) least (λ k h. and_same (is_present (domains p s) k) (set (f k)) h)
            (λ k h. (and_parts (is_present (domains p s) k) (set (f k)) h).0),
        listed ∙ ap (λ xs. xs ++ chosen (λ i. has_member marks (tasks + i)) 0 (map (cell_demand times) cells)) one
            ∙ ap (λ xs. chosen test 0 ts ++ xs) two
            ∙ sym (chosen_both test 0 ts (map (cell_demand times) cells)) ∙ ap (λ xs. chosen test 0 (ts ++ xs)) three,
      )

  -- where the deficit is 0, the empty list has the demands of the Hall set
  pub hall_none : (hall : List Demand) → IsDeficit w 0 → hall ≡ [] → IsHallOf p s hall
  hall_none hall is empty =
      let ts : List Demand = task_demands s in
      let cs : List Demand = map (cell_demand times) cells in
      hall_is [] hall (none_least w is)
      (empty ∙ sym (ap (λ xs. xs ++ chosen (λ i. has_member [] (tasks + i)) 0 cs) (unmarked_tasks u ts)
      ∙ unmarked_cells tasks 0 cs))
