-- A matching whose lists are as long as its costs.
use Rattle.std.specs.Prelude.{◌≡◌, length}
use Rattle.resource_match.specs.declared.choices.Costs.{Costs}
use Rattle.time_match.specs.declared.outcomes.Matched.{Matched}

pub record FitsLists (m : Matched) (c : Costs) : Type 0 where
  pub tasks : c.tasks ≡ length m.tasks
  pub resources : c.resources ≡ length m.resources
