-- A matching by its lists of tasks and of resources.
use Rattle.std.proofs.Common.{ℕ, ◌≡◌, ◌≤◌, cond, List, length, Result, Ok, sym, ap, subst, ◌∙◌, arith}
use Rattle.std.specs.Prelude.{All, AllPairs, IfOk}
use Rattle.khe_base.proofs.ResultLemmas.{if_ok}
use Rattle.khe_base.specs.Totals.{is_lower}
use Rattle.khe_base.specs.declared.limits.TheConstants.{RESOURCES}
use Rattle.khe_base.specs.declared.numbers.ResourceId.{ResourceId}
use Rattle.khe_base.specs.declared.numbers.TaskId.{TaskId}
use Rattle.khe_engine.specs.States.{State}
use Rattle.khe_engine.specs.Values.{totals}
use Rattle.khe_instance.specs.WellMade.{AreWellMade}
use Rattle.khe_instance.specs.declared.parts.Parts.{Parts}
use Rattle.khe_told.specs.Valid.{AreValid}
use Rattle.khe_told.specs.declared.slots.Slot.{Slot}
use Rattle.resource_match.specs.Choices.{IsCertified, choice_sum}
use Rattle.time_match.specs.Costs.{bare, chosen, costs_in}
use Rattle.time_match.specs.Matching.{IsMatched, left_by}
use Rattle.time_match.specs.Open.{AreApart, IsOpenFor}
use Rattle.time_match.specs.Tasks.{matched, resources_of}
use Rattle.time_match.specs.declared.outcomes.Matched.{Matched}
use Rattle.time_match.proofs.TaskLaws.{few_resources, matched_apart, matched_open}

-- the lists of an instance and a timetable
pub record AreLists (p : Parts) (s : State) (time rtype : ℕ) (ts : List TaskId) (rs : List ResourceId) : Type 0 where
  pub tasks : ts ≡ matched p s.slots time rtype
  pub resources : rs ≡ resources_of p rtype

pub lists_open : (p : Parts) (s : State) (time rtype : ℕ) (ts : List TaskId) (rs : List ResourceId)
    → AreLists p s time rtype ts rs → AreWellMade p → AreValid p s.slots → All (IsOpenFor p rs s.slots) ts
lists_open p s time rtype ts rs h made valid =
    subst (λ xs. All (IsOpenFor p xs s.slots) ts) (sym h.resources)
    (subst (All (IsOpenFor p (resources_of p rtype) s.slots)) (sym h.tasks)
    (matched_open p s.slots time rtype made valid.told))

pub lists_apart : (p : Parts) (s : State) (time rtype : ℕ) (ts : List TaskId) (rs : List ResourceId)
    → AreLists p s time rtype ts rs → AreWellMade p → AreValid p s.slots → AllPairs AreApart ts
lists_apart p s time rtype ts rs h made valid =
    subst (AllPairs AreApart) (sym h.tasks) (matched_apart p s.slots time rtype made valid.told)

pub lists_few : (p : Parts) (s : State) (time rtype : ℕ) (ts : List TaskId) (rs : List ResourceId)
    → AreLists p s time rtype ts rs → AreWellMade p → length rs ≤ RESOURCES
lists_few p s time rtype ts rs h made =
    let a = ap length h.resources in
    let b = few_resources p rtype in
    let c = made.limits.resources in
    omega (arith, a, b, c)

-- what was found for the lists
pub matched_by : (p : Parts) (s : State) (time rtype : ℕ) (m : Matched) (ts : List TaskId) (rs : List ResourceId)
    → AreLists p s time rtype ts rs → ts ≡ m.tasks → rs ≡ m.resources
    → IsCertified (costs_in p (bare s ts) ts rs) m.cheapest
    → m.sum ≡ choice_sum (costs_in p (bare s ts) ts rs) m.cheapest.chosen
    → m.taken ≡ is_lower (totals p (chosen (bare s ts) rs ts m.cheapest.chosen)) (totals p s)
    → IsMatched p s time rtype m
matched_by p s time rtype m ts rs h te re certified sum taken = record {
  tasks = sym te ∙ h.tasks;
  resources = sym re ∙ h.resources;
  certified = subst (λ (xs : List ResourceId). IsCertified (costs_in p (bare s (matched p s.slots time rtype))
      (matched p s.slots time rtype) xs) m.cheapest) h.resources
      (subst (λ (xs : List TaskId). IsCertified (costs_in p (bare s xs) xs rs) m.cheapest) h.tasks certified);
  sum = sum ∙ (λ i. choice_sum (costs_in p (bare s (h.tasks i)) (h.tasks i) (h.resources i)) m.cheapest.chosen);
  taken = taken ∙ (λ i. is_lower (totals p (chosen (bare s (h.tasks i)) (h.resources i) (h.tasks i) m.cheapest.chosen))
      (totals p s));
}

pub left_of : (p : Parts) (s u : State) (time rtype : ℕ) (m : Matched) (ts : List TaskId) (rs : List ResourceId)
    → AreLists p s time rtype ts rs → u ≡ cond m.taken (chosen (bare s ts) rs ts m.cheapest.chosen) s
    → u ≡ left_by p s time rtype m
left_of p s u time rtype m ts rs h e =
    e ∙ (λ i. cond m.taken (chosen (bare s (h.tasks i)) (h.resources i) (h.tasks i) m.cheapest.chosen) s)

-- the lists as they were made, and as they are lent
pub lists_of : {E : Type 0} (p q : Parts) (slots : List Slot) (s : State) (time rtype : ℕ)
    (made_tasks : Result (List TaskId) E) (made_resources : Result (List ResourceId) E) (ts : List TaskId)
    (rs : List ResourceId) (ts2 : List TaskId) (rs2 : List ResourceId) → q ≡ p → slots ≡ s.slots
    → made_tasks ≡ Ok ts → made_resources ≡ Ok rs
    → IfOk made_tasks (λ xs. xs ≡ matched q slots time rtype) → IfOk made_resources (λ xs. xs ≡ resources_of q rtype)
    → ts2 ≡ ts → rs2 ≡ rs → AreLists p s time rtype ts2 rs2
lists_of p q slots s time rtype mt mr ts rs ts2 rs2 qp ss te re th rh t2 r2 = record {
  tasks = t2 ∙ if_ok mt ts (λ xs. xs ≡ matched q slots time rtype) te th ∙ (λ i. matched (qp i) (ss i) time rtype);
  resources = r2 ∙ if_ok mr rs (λ xs. xs ≡ resources_of q rtype) re rh ∙ (λ i. resources_of (qp i) rtype);
}
