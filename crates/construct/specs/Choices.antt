-- The first of some accepted edits that leaves the least totals, if these are lower than the present ones.
use Rattle.std.specs.Prelude.{ℕ, ◌≡◌, Bool, true, is_none, if◌then◌else◌, Option, Some, None, List, [], ◌∷◌, map, length}
use Rattle.std.specs.List.{filter, range_with_len}
use Rattle.std.specs.Option.{option_and_then, option_map_or}
use Rattle.khe_base.specs.Totals.{is_lower}
use Rattle.khe_base.specs.declared.numbers.TaskId.{TaskId}
use Rattle.khe_base.specs.declared.sums.Totals.{Totals}
use Rattle.khe_engine.specs.States.{State, edited}
use Rattle.khe_engine.specs.Values.{totals}
use Rattle.khe_instance.specs.declared.parts.Parts.{Parts}
use Rattle.khe_solution.specs.Refusing.{is_of_meets, refusal}
use Rattle.khe_told.specs.declared.edits.Edit.{Edit}
use Rattle.khe_told.specs.declared.edits.Edit.TheVariants.{Assign, Give}

-- the totals of a state, and the totals that an edit leaves
unfoldable pub totals_at : Parts → State → Totals
totals_at p s = totals p s

unfoldable pub totals_after : Parts → State → Edit → Totals
totals_after p s e = totals p (edited s e)

-- whether the first totals are lower than the second: by hard, then by soft
unfoldable pub are_lower : Totals → Totals → Bool
are_lower a b = is_lower a b

-- whether the table of edits accepts an edit
unfoldable pub is_accepted : Parts → State → Edit → Bool
is_accepted p s e = is_none (refusal p s.slots e)

-- of an edit and the least of those after it the one that leaves lower totals, the first where they are equal
unfoldable pub lesser : Parts → State → Edit → Option Edit → Edit
lesser p s e None = e
lesser p s e (Some f) = if are_lower (totals_after p s f) (totals_after p s e) then f else e

-- the first of some edits that leave the least totals of all of them
unfoldable pub least : Parts → State → List Edit → Option Edit
least p s [] = None
least p s (e ∷ es) = Some (lesser p s e (least p s es))

-- an edit, if it leaves lower totals than there are
unfoldable pub if_lower : Parts → State → Edit → Option Edit
if_lower p s e = if are_lower (totals_after p s e) (totals_at p s) then Some e else None

-- of some edits, the one that is accepted and leaves the least totals, if these are lower than the present ones
unfoldable pub lowering : Parts → State → List Edit → Option Edit
lowering p s es = option_and_then (if_lower p s) (least p s (filter (is_accepted p s) es))

-- the state that it leaves
unfoldable pub lowered : Parts → State → List Edit → State
lowered p s es = option_map_or (edited s) (lowering p s es) s

-- a meet is assigned to a time, and a task is given a resource, each in order
unfoldable pub assigns : Parts → ℕ → List Edit
assigns p m = map (λ t. Assign (record { 0 = m }) (record { 0 = t })) (range_with_len 0 (length p.times))

unfoldable pub gives : Parts → TaskId → List Edit
gives p k = map (λ r. Give k (record { 0 = r })) (range_with_len 0 (length p.resources))

-- an edit of meets and tasks that the table accepts
pub record IsMove (p : Parts) (s : State) (e : Edit) : Type 0 where
  pub ours : is_of_meets e ≡ true
  pub accepted : refusal p s.slots e ≡ None
