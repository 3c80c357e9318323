-- How a list of moves is walked by one.
use Rattle.std.specs.Prelude.{ℕ, ◌≡◌, true, Option, Some, None, List, [], ◌∷◌, MatchOption}
use Rattle.khe_instance.specs.declared.parts.Parts.{Parts}
use Rattle.khe_instance.specs.declared.points.Point.{Point}
use Rattle.khe_instance.specs.declared.rules.Rule.{Rule}
use Rattle.khe_told.specs.declared.edits.Edit.{Edit}
use Rattle.khe_told.specs.declared.slots.Slot.{Slot}
use Rattle.khe_solution.specs.Refusing.{is_of_meets, refusal}
use Rattle.repair_moves.specs.Cursors.{left_of_part}
use Rattle.repair_moves.specs.Moves.{choices_from}
use Rattle.repair_moves.specs.declared.parts.Part.{Part}
use Rattle.repair_moves.specs.declared.walking.Found.{Found}

-- an edit of meets and tasks that is not refused
abbrev pub IsMove : Parts → List Slot → Edit → Type 0
IsMove p s e = (refusal p s e ≡ None) × (is_of_meets e ≡ true)

-- the first move of a meet or task from a choice on
pub record IsFoundOf (p : Parts) (s : List Slot) (point : Point) (part : Part) (n from : ℕ) (f : Found) : Type 0 where
  pub choice : ℕ
  pub spot : f.spot ≡ record { item = n; choice = Some choice }
  pub next : choices_from p s point part n from ≡ f.edit ∷ choices_from p s point part n choice

abbrev pub IsNextOf : Parts → List Slot → Point → Part → ℕ → ℕ → Option Found → Type 0
IsNextOf p s point part n from result = MatchOption result (choices_from p s point part n from ≡ [])
    (IsFoundOf p s point part n from)

-- the first of these moves of a part
abbrev pub IsNextIn : Parts → List Slot → Rule → Point → Part → List Edit → Option Found → Type 0
IsNextIn p s rule point part moves result = MatchOption result (moves ≡ [])
    (λ f. moves ≡ f.edit ∷ left_of_part p s rule point part f.spot)
