-- Lines one after the other.
use Rattle.std.proofs.Common.{ℕ, ◌≡◌, ◌+◌, ◌<◌, ◌≤◌, ◌++◌, Option, None, List, length, drop, drop-cons, get_or}
use Rattle.std.proofs.Common.{add-one}
use Rattle.std.proofs.Common.{OnOk, Result, Ok, Err, sym, ap, ◌∙◌, arith, append_assoc}
use Rattle.std.proofs.lemmas.List.{append-nil, drop_all}
use Rattle.khe_base.specs.declared.numbers.ResourceId.{ResourceId}
use Rattle.khe_base.specs.declared.numbers.TaskId.{TaskId}
use Rattle.resource_match.specs.declared.prices.Price.{Price}
use Rattle.match_run.specs.Lines.{resource_line, resource_lines, task_line, task_lines}

-- the next line of a task
pub tasks_next : (rs : List ResourceId) (ts : List TaskId) (cs : List (Option ℕ)) (ps : List Price) (k : ℕ)
    (d : TaskId) (e : Price) (line line2 whole : List ℕ) → k < length ts → length cs ≡ length ts
    → length ps ≡ length ts
    → line ++ task_lines rs (drop k ts) (drop k cs) (drop k ps) ≡ whole
    → line2 ≡ line ++ task_line rs (get_or ts k d) (get_or cs k None) (get_or ps k e)
    → line2 ++ task_lines rs (drop (k + 1) ts) (drop (k + 1) cs) (drop (k + 1) ps) ≡ whole
unfolding task_lines
tasks_next rs ts cs ps k d e line line2 whole l long priced h made =
    let b : k < length cs = omega (arith, l, long) in
    let p : k < length ps = omega (arith, l, priced) in
    let rest = task_lines rs (drop (k + 1) ts) (drop (k + 1) cs) (drop (k + 1) ps) in
    ap (λ xs. xs ++ rest) made
    ∙ append_assoc line (task_line rs (get_or ts k d) (get_or cs k None) (get_or ps k e)) rest
    ∙ (λ i. line ++ (task_line rs (get_or ts k d) (get_or cs k None) (get_or ps k e)
    ++ task_lines rs (drop (add-one k i) ts) (drop (add-one k i) cs) (drop (add-one k i) ps)))
    ∙ (λ i. line ++ task_lines rs (sym (drop-cons ts k d l) i) (sym (drop-cons cs k None b) i)
    (sym (drop-cons ps k e p) i))
    ∙ h

pub tasks_done : (rs : List ResourceId) (ts : List TaskId) (cs : List (Option ℕ)) (ps : List Price) (k : ℕ)
    (line whole : List ℕ) → length ts ≤ k
    → line ++ task_lines rs (drop k ts) (drop k cs) (drop k ps) ≡ whole → line ≡ whole
unfolding task_lines
tasks_done rs ts cs ps k line whole l h =
    sym (append-nil line) ∙ ap (λ xs. line ++ task_lines rs xs (drop k cs) (drop k ps)) (sym (drop_all k ts l)) ∙ h

-- and of a resource
pub resources_next : (rs : List ResourceId) (ps : List Price) (k : ℕ) (d : ResourceId) (e : Price)
    (line line2 whole : List ℕ) → k < length rs → length ps ≡ length rs
    → line ++ resource_lines (drop k rs) (drop k ps) ≡ whole
    → line2 ≡ line ++ resource_line (get_or rs k d) (get_or ps k e)
    → line2 ++ resource_lines (drop (k + 1) rs) (drop (k + 1) ps) ≡ whole
unfolding resource_lines
resources_next rs ps k d e line line2 whole l priced h made =
    let p : k < length ps = omega (arith, l, priced) in
    let own = resource_line (get_or rs k d) (get_or ps k e) in
    ap (λ xs. xs ++ resource_lines (drop (k + 1) rs) (drop (k + 1) ps)) made
    ∙ append_assoc line own (resource_lines (drop (k + 1) rs) (drop (k + 1) ps))
    ∙ (λ i. line ++ (own ++ resource_lines (drop (add-one k i) rs) (drop (add-one k i) ps)))
    ∙ (λ i. line ++ resource_lines (sym (drop-cons rs k d l) i) (sym (drop-cons ps k e p) i))
    ∙ h

pub resources_done : (rs : List ResourceId) (ps : List Price) (k : ℕ) (line whole : List ℕ) → length rs ≤ k
    → line ++ resource_lines (drop k rs) (drop k ps) ≡ whole → line ≡ whole
unfolding resource_lines
resources_done rs ps k line whole l h =
    sym (append-nil line) ∙ ap (λ xs. line ++ resource_lines xs (drop k ps)) (sym (drop_all k rs l)) ∙ h

-- one piece after another
pub then_ok : {X E : Type 0} (r : Result X E) (old mid new a b : List ℕ) → mid ≡ old ++ a
    → OnOk r (new ≡ mid ++ b) → OnOk r (new ≡ old ++ (a ++ b))
then_ok (Ok x) old mid new a b e h = h ∙ ap (λ z. z ++ b) e ∙ append_assoc old a b
then_ok (Err f) old mid new a b e h = tt
