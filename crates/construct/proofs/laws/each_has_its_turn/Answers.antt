-- Turns are a fold.
use Rattle.std.proofs.Common.{ℕ, ◌∷◌}
use Rattle.std.proofs.lemmas.List.Sums.{fold-append}
use Rattle.khe_base.specs.declared.numbers.TaskId.{TaskId}
use Rattle.khe_engine.specs.States.{State}
use Rattle.construct.specs.Choices.{assigns, gives, lowered}
use Rattle.construct.specs.Constructed.{staffed, timed}
use Rattle.construct.proofs.laws.each_has_its_turn.Goals as goal

pub returns-clause-meet : goal.returns-clause-meet
unfolding timed
returns-clause-meet c = λ p s earlier later m.
    fold-append (λ (u : State) (n : ℕ). lowered p u (assigns p n)) s earlier (m ∷ later)

pub returns-clause-task : goal.returns-clause-task
unfolding staffed
returns-clause-task c = λ p s earlier later k.
    fold-append (λ (u : State) (t : TaskId). lowered p u (gives p t)) s earlier (k ∷ later)
