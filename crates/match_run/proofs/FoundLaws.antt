-- What is left by a matching on an engine that was opened on a timetable.
use Rattle.std.proofs.Common.{ℕ, ◌≡◌, ◌<◌, ◌≤◌, refl, subst, Result, Ok, Err, length}
use Rattle.std.specs.Prelude.{IfErr, IfOk}
use Rattle.khe_engine.specs.Openings.{IsStateOf}
use Rattle.khe_engine.specs.States.{State}
use Rattle.khe_engine.specs.Values.{totals}
use Rattle.khe_instance.specs.States.{IsValid}
use Rattle.khe_instance.specs.declared.parts.Parts.{Parts}
use Rattle.khe_instance.specs.declared.states.Plain.{Plain}
use Rattle.resource_match.specs.declared.choices.TheConstants.{MATCHED_TASKS}
use Rattle.time_match.specs.Matching.{IsMatched, left_by}
use Rattle.time_match.specs.Tasks.{matched}
use Rattle.time_match.specs.declared.outcomes.MatchFault.{MatchFault}
use Rattle.time_match.specs.declared.outcomes.MatchFault.TheVariants.{TooManyTasks, NoMemory}
use Rattle.match_run.specs.Found.{IsFaultOf, IsFound}
use Rattle.match_run.specs.declared.finding.Found.{Found}

pub found_by : {E : Type 0} (p q : Parts) (plain : Plain) (s : State) (time rtype : ℕ) (r : Result Found E)
    → q ≡ p → IsStateOf p plain s
    → IfOk r (λ f. length (matched q s.slots time rtype) ≤ MATCHED_TASKS)
    → IfOk r (λ f. IsMatched q s time rtype f.matched)
    → IfOk r (λ f. IsStateOf q f.plain (left_by q s time rtype f.matched))
    → IfOk r (λ f. IsValid q f.plain)
    → IfOk r (λ f. f.totals ≡ totals q (left_by q s time rtype f.matched))
    → IfOk r (IsFound p plain time rtype)
found_by p q plain s time rtype (Ok f) e is few is_matched listed valid costs = record {
  state = s;
  begins = is;
  few = subst (λ (x : Parts). length (matched x s.slots time rtype) ≤ MATCHED_TASKS) e few;
  matched_is = subst (λ (x : Parts). IsMatched x s time rtype f.matched) e is_matched;
  listed = subst (λ (x : Parts). IsStateOf x f.plain (left_by x s time rtype f.matched)) e listed;
  valid = subst (λ (x : Parts). IsValid x f.plain) e valid;
  totals_are = subst (λ (x : Parts). f.totals ≡ totals x (left_by x s time rtype f.matched)) e costs;
}
found_by p q plain s time rtype (Err f) e is few is_matched listed valid costs = tt

by_fault : (p q : Parts) (plain : Plain) (s : State) (time rtype : ℕ) (f : MatchFault) → q ≡ p → IsStateOf p plain s
    → ((n : ℕ) → f ≡ TooManyTasks n → (n ≡ length (matched q s.slots time rtype)) × (MATCHED_TASKS < n))
    → IsFaultOf p plain time rtype f
by_fault p q plain s time rtype (TooManyTasks n) e is h =
    let g = h n refl in
    record {
      state = s;
      begins = is;
      many = subst (λ (x : Parts). n ≡ length (matched x s.slots time rtype)) e g.0;
      more = g.1;
    }
by_fault p q plain s time rtype NoMemory e is h = tt

pub fault_by : {X : Type 0} (p q : Parts) (plain : Plain) (s : State) (time rtype : ℕ) (r : Result X MatchFault)
    → q ≡ p → IsStateOf p plain s
    → IfErr r (λ f. (n : ℕ) → f ≡ TooManyTasks n → (n ≡ length (matched q s.slots time rtype)) × (MATCHED_TASKS < n))
    → IfErr r (IsFaultOf p plain time rtype)
fault_by p q plain s time rtype (Ok x) e is h = tt
fault_by p q plain s time rtype (Err f) e is h = by_fault p q plain s time rtype f e is h
