-- What is true of the edit that is taken.
use Rattle.std.specs.Prelude.{◌≡◌, true, false, List, ◌∷◌, ◌++◌, All}
use Rattle.construct.specs.Choices.{are_lower, is_accepted, totals_after, totals_at}
use Rattle.khe_engine.specs.States.{State}
use Rattle.khe_instance.specs.declared.parts.Parts.{Parts}
use Rattle.khe_told.specs.declared.edits.Edit.{Edit}

-- of some edits, this one is the first that leaves the least totals: all that are accepted before it leave
-- higher ones, and none that is accepted after it leaves lower ones
pub record IsFirstLeast (p : Parts) (s : State) (es : List Edit) (e : Edit) : Type 0 where
  pub accepted : is_accepted p s e ≡ true
  pub earlier : List Edit
  pub later : List Edit
  pub place : es ≡ earlier ++ e ∷ later
  pub higher : All (λ f. is_accepted p s f ≡ true → are_lower (totals_after p s e) (totals_after p s f) ≡ true) earlier
  pub no_lower : All (λ f. is_accepted p s f ≡ true → are_lower (totals_after p s f) (totals_after p s e) ≡ false) later

-- and the totals that it leaves are lower than the present ones
pub record IsTaken (p : Parts) (s : State) (es : List Edit) (e : Edit) : Type 0 where
  pub least : IsFirstLeast p s es e
  pub lower : are_lower (totals_after p s e) (totals_at p s) ≡ true

-- no edit that is accepted lowers the totals
abbrev pub NoneLowers : Parts → State → List Edit → Type 0
NoneLowers p s es = All (λ e. is_accepted p s e ≡ true → are_lower (totals_after p s e) (totals_at p s) ≡ false) es
