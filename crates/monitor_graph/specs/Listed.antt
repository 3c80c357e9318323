-- The detached monitors and the groups as plain lists, each in the order of its numbers.
use Rattle.std.specs.Prelude.{ℕ, ◌+◌, Bool, true, false, Some, None, List, [], ◌∷◌}
use Rattle.khe_base.specs.declared.numbers.MonitorId.{MonitorId}
use Rattle.khe_instance.specs.declared.states.Group.{Group}
use Rattle.monitor_graph.specs.Groups.{Groups}

-- the detached ones of monitors that are numbered on from this number, by whether each is attached
abbrev pub detached_from : ℕ → List Bool → List MonitorId
detached_from n [] = []
detached_from n (true ∷ attached) = detached_from (n + 1) attached
detached_from n (false ∷ attached) = record { 0 = n } ∷ detached_from (n + 1) attached

-- the groups that are there, of numbers from this one on
abbrev pub groups_from : ℕ → Groups → List Group
groups_from g [] = []
groups_from g (None ∷ groups) = groups_from (g + 1) groups
groups_from g (Some children ∷ groups) = record { group = record { 0 = g }; children = children } ∷ groups_from (g + 1)
    groups
