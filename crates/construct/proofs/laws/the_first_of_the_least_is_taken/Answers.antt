-- The laws of the edit that is taken.
use Rattle.std.proofs.Common.{ap}
use Rattle.std.specs.Option.{option_map_or}
use Rattle.khe_engine.specs.States.{edited}
use Rattle.construct.proofs.TakenLaws.{none_taken, taken_is}
use Rattle.construct.specs.Choices.{lowered}
use Rattle.construct.proofs.laws.the_first_of_the_least_is_taken.Goals as goal

pub returns-clause-taken : goal.returns-clause-taken
returns-clause-taken c = taken_is

pub returns-clause-none : goal.returns-clause-none
returns-clause-none c = none_taken

pub returns-clause-left : goal.returns-clause-left
unfolding lowered
returns-clause-left c = λ p s es h. ap (λ o. option_map_or (edited s) o s) h

pub returns-clause-made : goal.returns-clause-made
unfolding lowered
returns-clause-made c = λ p s es e h. ap (λ o. option_map_or (edited s) o s) h
