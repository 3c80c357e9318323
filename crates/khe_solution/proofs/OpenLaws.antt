-- The slots of a valid state are valid.
use Rattle.std.proofs.Common.{◌≡◌, List, sym}
use Rattle.std.proofs.lemmas.List.Elements.{All-weaker}
use Rattle.khe_instance.specs.States.{IsValid}
use Rattle.khe_instance.specs.WellMade.{AreWellMade}
use Rattle.khe_instance.specs.declared.parts.Parts.{Parts}
use Rattle.khe_instance.specs.declared.states.Plain.{Plain}
use Rattle.khe_told.proofs.PlainLaws.{valid_listed}
use Rattle.khe_told.specs.Fits.{AreTold, IsSlot}
use Rattle.khe_told.specs.Lists.{meets_in, tasks_in}
use Rattle.khe_told.specs.Slots.{IsBareIfFree}
use Rattle.khe_told.specs.Valid.{AreValid}
use Rattle.khe_told.specs.declared.slots.Slot.{Slot}

pub open_valid : (p : Parts) (s : List Slot) (plain : Plain) → AreWellMade p → AreTold p s → meets_in s ≡ plain.meets
    → tasks_in s ≡ plain.tasks → IsValid p plain → AreValid p s
open_valid p s plain w t m k v =
    valid_listed p s plain w.first_meets t.whose (All-weaker (IsSlot p) IsBareIfFree (λ x i. i.empty) s t.slots) (sym m)
    (sym k) v
