-- The three edits that give one meet another start, or take it away.
use Rattle.std.specs.Prelude.{◌≡◌, Option, Some, None, Result, Ok, Err}
use Rattle.khe_base.specs.declared.numbers.MeetId.{MeetId}
use Rattle.khe_base.specs.declared.numbers.TimeId.{TimeId}
use Rattle.khe_told.specs.declared.edits.Edit.{Edit}
use Rattle.khe_told.specs.declared.edits.Edit.TheVariants.{Assign, Unassign, MoveTo}
use Rattle.followers.specs.declared.edits.TiedRefusal.{TiedRefusal}

abbrev pub IsStart : Edit → MeetId → Option TimeId → Type 0
IsStart (Assign m t) meet start = (m ≡ meet) × (start ≡ Some t)
IsStart (Unassign m) meet start = (m ≡ meet) × (start ≡ None)
IsStart (MoveTo m t) meet start = (m ≡ meet) × (start ≡ Some t)
IsStart _ meet start = ⊥

-- how a check answers: with the refusal, if there is one
abbrev pub IsCheck : Option TiedRefusal → Result (Unit {0}) TiedRefusal → Type 0
IsCheck o (Ok u) = o ≡ None
IsCheck o (Err r) = o ≡ Some r
