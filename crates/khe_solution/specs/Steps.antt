-- Edits one after the other, each accepted.
use Rattle.std.specs.Prelude.{◌≡◌, None, List, [], ◌∷◌}
use Rattle.khe_instance.specs.declared.parts.Parts.{Parts}
use Rattle.khe_told.specs.declared.slots.Slot.{Slot}
use Rattle.khe_told.specs.declared.edits.Edit.{Edit}
use Rattle.khe_solution.specs.Refusing.{refusal}
use Rattle.khe_solution.specs.Editing.{edited}

-- each of these edits is accepted after those before it, and the last one leaves these slots
abbrev pub IsDone : Parts → List Slot → List Slot → List Edit → Type 0
IsDone p s s2 [] = s ≡ s2
IsDone p s s2 (e ∷ es) = (refusal p s e ≡ None) × IsDone p (edited s e) s2 es
