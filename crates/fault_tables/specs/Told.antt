-- An error says exactly what is the case, unless it says only that memory was refused.
use Rattle.std.specs.Prelude.{Option, IfSome}

-- exact unless memory ran out: what an error tells stands, and it tells nothing where memory was refused
abbrev pub Tells : {E F : Type 0} → (E → Option F) → (F → Type 0) → E → Type 0
Tells told Stands error = IfSome (told error) Stands
