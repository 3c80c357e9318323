use Rattle.demand_matching.proofs.Keeps.{none_clone}
use Rattle.demand_matching.proofs.empty.no_numbers.Goals as goal

pub returns : goal.returns
returns c = c.in_ok-vec.ensures.items_if_clones_equal (none_clone _ (λ x h. h))
