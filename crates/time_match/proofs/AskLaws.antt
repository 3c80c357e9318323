-- Costs that are asked one after the other.
use Rattle.std.proofs.Common.{ℕ, ◌≡◌, ◌+◌, ◌*◌, ◌<◌, ◌≤◌, ◌++◌, List, [], ◌∷◌, length, map, take, get_or, sym, ap}
use Rattle.std.proofs.Common.{subst, ◌∙◌, arith, inl, inr, append_assoc, length-append}
use Rattle.std.specs.Prelude.{All, replicate}
use Rattle.std.specs.List.{flat_map}
use Rattle.std.proofs.lemmas.Bool.{cases_lt}
use Rattle.std.proofs.lemmas.Grind.{flat_map-append}
use Rattle.std.proofs.lemmas.List.{append-nil, get_or_past, length-map, length-replicate, map-append, take_more}
use Rattle.std.proofs.lemmas.List.Concat.{flat_map-cons}
use Rattle.std.proofs.lemmas.List.Elements.{All-push, All-replicate}
use Rattle.khe_base.specs.declared.limits.TheConstants.{RESOURCES}
use Rattle.khe_base.specs.declared.numbers.ResourceId.{ResourceId}
use Rattle.khe_base.specs.declared.numbers.TaskId.{TaskId}
use Rattle.khe_base.specs.declared.sums.Totals.{Totals}
use Rattle.khe_engine.specs.States.{State}
use Rattle.khe_engine.specs.Values.{totals}
use Rattle.khe_instance.specs.declared.parts.Parts.{Parts}
use Rattle.resource_match.specs.Choices.{AreCosts, no_cost}
use Rattle.resource_match.specs.Smallness.{IsSmall}
use Rattle.resource_match.specs.declared.choices.Costs.{Costs}
use Rattle.resource_match.specs.declared.choices.TheConstants.{MATCHED_TASKS}
use Rattle.time_match.specs.Costs.{cost_with, costs_in, row}

-- one more resource of a row
pub row_next : (p : Parts) (b : State) (t : TaskId) (rs : List ResourceId) (k : ℕ) (d : ResourceId)
    (old pairs new : List Totals) (x : Totals) → k < length rs → pairs ≡ old ++ map (cost_with p b t) (take k rs)
    → x ≡ cost_with p b t (get_or rs k d) → new ≡ pairs ++ x ∷ []
    → new ≡ old ++ map (cost_with p b t) (take (k + 1) rs)
row_next p b t rs k d old pairs new x l h is made =
    let f = cost_with p b t in
    made ∙ (λ i. h i ++ is i ∷ []) ∙ append_assoc old (map f (take k rs)) (f (get_or rs k d) ∷ [])
    ∙ ap (λ ys. old ++ ys)
    (sym (map-append f (take k rs) (get_or rs k d ∷ [])) ∙ ap (map f) (sym (take_more rs k d l)))

pub small_next : (xs ys : List Totals) (x : Totals) → All IsSmall xs → IsSmall x → ys ≡ xs ++ x ∷ [] → All IsSmall ys
small_next xs ys x all one e = subst (All IsSmall) (sym e) (All-push IsSmall xs x all one)

-- one more row
pub rows_next : (p : Parts) (b : State) (rs : List ResourceId) (ts : List TaskId) (k : ℕ) (d : TaskId)
    (pairs new : List Totals) → k < length ts → pairs ≡ flat_map (row p b rs) (take k ts)
    → new ≡ pairs ++ row p b rs (get_or ts k d) → new ≡ flat_map (row p b rs) (take (k + 1) ts)
rows_next p b rs ts k d pairs new l h made =
    let f = row p b rs in
    let t = get_or ts k d in
    made ∙ ap (λ xs. xs ++ f t) h
    ∙ ap (λ ys. flat_map f (take k ts) ++ ys) (sym (flat_map-cons f t [] ∙ append-nil (f t)))
    ∙ sym (flat_map-append f (take k ts) (t ∷ []))
    ∙ ap (flat_map f) (sym (take_more ts k d l))

-- a table is as long as its rows together
pub table_length : (p : Parts) (b : State) (rs : List ResourceId) (ts : List TaskId)
    → length (flat_map (row p b rs) ts) ≡ length ts * length rs
table_length p b rs [] = let e : 0 ≡ 0 * length rs = omega arith in e
table_length p b rs (t ∷ ts) =
    let a = ap length (flat_map-cons (row p b rs) t ts) in
    let c = length-append (row p b rs t) (flat_map (row p b rs) ts) in
    let m = length-map rs (cost_with p b t) in
    let h = table_length p b rs ts in
    omega (arith, a, c, m, h)

small_at : (xs : List Totals) → All IsSmall xs → (i : ℕ) → IsSmall (get_or xs i no_cost)
small_at xs h i = elim (cases_lt i (length xs)) [
  | inl l ↦ h i no_cost l
  | inr g ↦ subst IsSmall (sym (get_or_past xs i no_cost g)) (record { hard = omega arith; soft = omega arith })
]

pub are_costs : (p : Parts) (b : State) (ts : List TaskId) (rs : List ResourceId) (none pairs : List Totals)
    (x : Totals) → none ≡ replicate (length ts) x → IsSmall x → pairs ≡ flat_map (row p b rs) ts → All IsSmall pairs
    → length ts ≤ MATCHED_TASKS → length rs ≤ RESOURCES
    → AreCosts (record { tasks = length ts; resources = length rs; none = none; pairs = pairs })
are_costs p b ts rs none pairs x n one q all few_tasks few_resources = record {
  few_tasks = few_tasks;
  few_resources = few_resources;
  none_length = ap length n ∙ length-replicate (length ts) x;
  pairs_length = ap length q ∙ table_length p b rs ts;
  small_none = small_at none (subst (All IsSmall) (sym n) (All-replicate IsSmall (length ts) x one));
  small_pairs = small_at pairs all;
}

pub same_costs : (p : Parts) (b : State) (ts : List TaskId) (rs : List ResourceId) (none pairs : List Totals)
    (x : Totals) → none ≡ replicate (length ts) x → x ≡ totals p b → pairs ≡ flat_map (row p b rs) ts
    → (let c : Costs = record { tasks = length ts; resources = length rs; none = none; pairs = pairs } in c)
    ≡ costs_in p b ts rs
unfolding costs_in
same_costs p b ts rs none pairs x n e q = λ i. record {
  tasks = length ts;
  resources = length rs;
  none = (n ∙ ap (replicate (length ts)) e) i;
  pairs = q i;
}
