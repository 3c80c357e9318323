-- What a caller knows of an engine on a timetable: the totals of the state that it lists, and that others are no
-- lower.
use Rattle.std.specs.Prelude.{◌≡◌, ◌∷◌, List, false}
use Rattle.khe_base.specs.Totals.{is_lower}
use Rattle.khe_base.specs.declared.sums.Totals.{Totals}
use Rattle.khe_engine.specs.Openings.{IsStateOf}
use Rattle.khe_engine.specs.States.{State}
use Rattle.khe_engine.specs.Values.{totals}
use Rattle.khe_engine.specs.Worlds.{Saved, World, fresh}
use Rattle.khe_instance.specs.declared.parts.Parts.{Parts}
use Rattle.khe_instance.specs.declared.states.Plain.{Plain}

-- the totals of the state that a timetable lists
abbrev pub IsTotalOf : Parts → Plain → Totals → Type 0
IsTotalOf p plain t = (s : State) × IsStateOf p plain s × (t ≡ totals p s)

-- the state that a timetable lists costs no less
abbrev pub IsNoDearer : Parts → Plain → Totals → Type 0
IsNoDearer p plain t = (s : State) × IsStateOf p plain s × (is_lower (totals p s) t ≡ false)

-- the innermost mark was just opened
abbrev pub HasJustBegun : World → Type 0
HasJustBegun w = (others : List Saved) × (w.saved ≡ fresh w.state ∷ others)
