-- A job on an engine, from its mark and back.
use Rattle.std.proofs.Common.{ℕ, ◌≡◌, ◌<◌, List, [], ◌∷◌, refl, length, ◌∙◌, subst, Result, IfOk, arith}
use Rattle.ejection_repair.specs.Kept.{states}
use Rattle.ejection_repair.specs.Repaired.{repaired}
use Rattle.khe_base.specs.declared.sums.Totals.{Totals}
use Rattle.khe_engine.specs.Openings.{IsStateOf}
use Rattle.khe_engine.specs.States.{State}
use Rattle.khe_engine.specs.Values.{totals}
use Rattle.khe_engine.specs.Worlds.{Saved, World, fresh}
use Rattle.khe_instance.specs.States.{IsValid}
use Rattle.khe_instance.specs.WellMade.{AreWellMade}
use Rattle.khe_instance.specs.declared.parts.Parts.{Parts}
use Rattle.khe_instance.specs.declared.states.Plain.{Plain}
use Rattle.parallel_repair.specs.Jobs.{IsDesk, IsMarkedAt, answer_at, job_answer, job_from}
use Rattle.parallel_repair.specs.Listed.{state_in}
use Rattle.parallel_repair.specs.declared.answers.Answer.{Answer}
use Rattle.parallel_repair.proofs.FillLemmas.{state_is}
use Rattle.parallel_repair.proofs.ListedLemmas.{listed_is}

no_saved : (s : State) → [] ≡ s ∷ [] → ⊥
no_saved s e = cc

some_saved : (s : State) (xs : List State) → s ∷ xs ≡ [] → ⊥
some_saved s xs e = cc

one_saved : (x : Saved) (xs : List Saved) (s : State) → x.state ∷ states xs ≡ s ∷ [] → (x.state ≡ s) × (states xs ≡ [])
one_saved x xs s e = (cc, cc)

no_more : (xs : List Saved) → states xs ≡ [] → xs ≡ []
no_more [] e = refl
no_more (x ∷ xs) e = absurd (some_saved x.state (states xs) e)

-- an undo leads back to the only mark
pub back_at : (saved : List Saved) (s : State) (w : World) → states saved ≡ s ∷ []
    → ((x : Saved) (xs : List Saved) → saved ≡ x ∷ xs → (w.state ≡ x.state) × (w.saved ≡ fresh x.state ∷ xs))
    → IsMarkedAt s w
back_at [] s w e undo = absurd (no_saved s e)
back_at (x ∷ xs) s w e undo =
    let one = one_saved x xs s e in
    let none = no_more xs one.1 in
    let back = undo x xs refl in
    record { state = back.0 ∙ one.0; saved = back.1 ∙ (λ i. fresh (one.0 i) ∷ none i) }

-- so there is one
pub one_left : (saved : List Saved) (s : State) → states saved ≡ s ∷ [] → 0 < length saved
one_left [] s e = absurd (no_saved s e)
one_left (x ∷ xs) s e = omega arith

-- an engine that was opened and marked is at its timetable
pub opened_at : (p : Parts) (plain : Plain) (e w : World) → AreWellMade p → IsStateOf p plain e.state → e.saved ≡ []
    → w.state ≡ e.state → w.saved ≡ fresh e.state ∷ e.saved → IsMarkedAt (state_in p plain) w
opened_at p plain e w made is none state saved =
    let same : e.state ≡ state_in p plain = state_is p plain e.state made is in
    record { state = state ∙ same; saved = saved ∙ (λ i. fresh (same i) ∷ none i) }

-- what is told of a state is its answer
pub answer_is : (p : Parts) (s : State) (t : Totals) (plain : Plain) → t ≡ totals p s → IsStateOf p plain s
    → IsValid p plain → ◌≡◌ {A = Answer} (record { totals = t; plain = plain }) (answer_at p s)
unfolding answer_at
answer_is p s t plain e is v = λ i. record { totals = e i; plain = listed_is p plain s v is i }

pub job_is : (p q : Parts) (s u : State) (depth budget n : ℕ) (a : Answer) → q ≡ p
    → u ≡ (repaired p s depth budget n).state → a ≡ answer_at q u → a ≡ job_from p s depth budget n
unfolding job_from
job_is p q s u depth budget n a e f is = is ∙ (λ i. answer_at (e i) (f i))

-- and from a desk it is that of its timetable
pub from_desk : {E : Type 0} (p : Parts) (start : Plain) (w : World) (depth budget n : ℕ) (r : Result Answer E)
    → IsDesk p start w → IfOk r (λ a. a ≡ job_from w.parts w.state depth budget n)
    → IfOk r (λ a. a ≡ job_answer p start depth budget n)
unfolding job_answer
from_desk p start w depth budget n r d h =
    subst (λ (x : Parts × State). IfOk r (λ a. a ≡ job_from x.0 x.1 depth budget n))
    (λ i. (d.parts i, d.marked.state i)) h
