-- What is read of a slot.
use Rattle.std.proofs.Common.{◌≡◌, false, Option, Some, None, refl, sym, subst}
use Rattle.std.specs.Prelude.{MatchOption}
use Rattle.khe_instance.specs.declared.states.Meet.{Meet}
use Rattle.khe_told.specs.Lists.{meet_in}
use Rattle.khe_told.specs.declared.slots.Slot.{Slot}
use Rattle.khe_told.specs.declared.slots.Span.{Span}
use Rattle.khe_told.specs.Slots.{is_live}
use Rattle.khe_solution.specs.Reading.{Shows}

-- a meet that is told of a slot is the one that it has
pub meet_shown : (x : Slot) (r : Option Meet) → r ≡ meet_in x → MatchOption r (is_live x ≡ false) (Shows x)
meet_shown x r e = subst (λ o. MatchOption o (is_live x ≡ false) (Shows x)) (sym e) (at_span x.span)
  where
    at_span : (o : Option Span) → MatchOption (meet_in (record x { span = o }))
        (is_live (record x { span = o }) ≡ false) (Shows (record x { span = o }))
    at_span None = refl
    at_span (Some y) = record { live = refl; event = refl; start = refl; duration = refl }
