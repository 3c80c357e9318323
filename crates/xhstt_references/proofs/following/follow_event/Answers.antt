-- The number of the reference is that of its name.
use Rattle.std.proofs.Common.{◌∙◌, ap}
use Rattle.std.specs.Prelude.{unwrap_or}
use Rattle.xhstt_references.proofs.following.follow_event.Goals as goal

pub returns-clause-event : goal.returns-clause-event
returns-clause-event c = λ j. record { 0 = (c.number_or_noted.ensures.number ∙ ap (λ o. unwrap_or o 0) c.event.ensures) j }

pub returns-clause-first : goal.returns-clause-first
returns-clause-first c = c.number_or_noted.ensures.first c.args.names.now.events c.event.ensures
