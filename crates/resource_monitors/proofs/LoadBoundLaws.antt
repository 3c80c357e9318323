-- No workload is above the greatest deviation, in parts of one over the unit.
use Rattle.std.proofs.Common.{◌≡◌, sym, subst, refl, ℕ, ◌*◌, ◌/◌, ◌≤◌, cond, inl, inr, Option, Some, None, List, length}
use Rattle.std.proofs.Common.{get_or, All, arith, slice_get}
use Rattle.std.specs.Option.{option_map_or}
use Rattle.std.proofs.lemmas.Bool.{cond_both}
use Rattle.std.proofs.lemmas.List.Sums.{sum_by-le}
use Rattle.std.proofs.lemmas.Nat.{mul-le}
use Rattle.std.proofs.lemmas.Option.{slice_get_cases}
use Rattle.khe_base.specs.declared.limits.TheConstants.{GREATEST_DEVIATION, NUMBER, TASKS}
use Rattle.khe_instance.specs.ResourceDeviation.{workload_in, workload_of}
use Rattle.khe_instance.specs.Running.{is_resource}
use Rattle.khe_instance.specs.States.{AreDuties, AreOfState, IsDuty}
use Rattle.khe_instance.specs.WellMade.{AreWellMade}
use Rattle.khe_instance.specs.declared.parts.EventInfo.{EventInfo}
use Rattle.khe_instance.specs.declared.parts.Parts.{Parts}
use Rattle.khe_instance.specs.declared.parts.Place.{Place}
use Rattle.khe_instance.specs.declared.states.Duty.{Duty}
use Rattle.khe_instance.proofs.DutiesLemmas.{are-duties}
use Rattle.khe_instance.proofs.MadeLemmas.{worth_small}
use Rattle.khe_told.specs.Fits.{AreTold}
use Rattle.khe_told.specs.Lists.{duties_in, meets_in, tasks_in}
use Rattle.khe_told.specs.declared.slots.Slot.{Slot}
use Rattle.khe_told.proofs.DutyLaws.{duties_listed}
use Rattle.khe_told.proofs.FrameLaws.{told_from}
use Rattle.khe_told.proofs.ValidLaws.{listed_told}

module _ (p : Parts) (made : AreWellMade p) where
  abbrev worth : Duty → ℕ → ℕ → Option Place → ℕ
  worth d unit duration o = option_map_or (λ place. place.workload * d.meet.duration * (unit / duration)) o 0

  duty_small : (d : Duty) → IsDuty p d → workload_of p.events p.unit d ≤ NUMBER * p.unit
  duty_small d duty = by_event (slice_get p.events d.meet.event.0) refl
    where
      by_place : (event : EventInfo) → slice_get p.events d.meet.event.0 ≡ Some event
          → worth d p.unit event.duration (slice_get event.places d.place) ≤ NUMBER * p.unit
      by_place event there = elim (slice_get_cases event.places d.place).1 [
        | inl found ↦
            let place : Place = found.0 in
            subst (λ (o : Option Place). worth d p.unit event.duration o ≤ NUMBER * p.unit) (sym found.2)
            (worth_small p made d duty event there event.places refl d.place place found.1 (sym found.3))
        | inr past ↦ subst (λ (o : Option Place). worth d p.unit event.duration o ≤ NUMBER * p.unit) (sym past.1)
            (omega arith)
      ]

      by_event : (o : Option EventInfo) → slice_get p.events d.meet.event.0 ≡ o
          → option_map_or (λ event. worth d p.unit event.duration (slice_get event.places d.place)) o
          0 ≤ NUMBER * p.unit
      by_event None there = omega arith
      by_event (Some event) there = by_place event there

  pub load_small : (s : List Slot) → AreTold p s → (r : ℕ)
      → workload_in p.events p.unit (duties_in s) r ≤ GREATEST_DEVIATION * p.unit
  load_small s told r =
      let ds = duties_in s in
      let of : AreOfState p (meets_in s) ds = record {
        tasks = tasks_in s;
        told = listed_told p s made.first_meets told;
        same =
            sym (duties_listed 0 s (told_from p s made.first_meets told.whose));
      } in
      let are : AreDuties p ds = are-duties p (meets_in s) ds made of in
      let most = NUMBER * p.unit in
      let each : All (λ d. cond (is_resource r d.resource) (workload_of p.events p.unit d) 0 ≤ most) ds =
      λ k d l. (let x = get_or ds k d in
      cond_both (is_resource r x.resource) (workload_of p.events p.unit x) 0 (λ n. n ≤ most)
      (λ _. duty_small x (are.each k d l)) (λ _. omega arith))
      in
      let total : workload_in p.events p.unit ds r ≤ length ds * most =
      sum_by-le (λ d. cond (is_resource r d.resource) (workload_of p.events p.unit d) 0) most ds each in
      let few : length ds * most ≤ TASKS * most = mul-le (length ds) most TASKS most are.few (omega arith) in
      omega arith
