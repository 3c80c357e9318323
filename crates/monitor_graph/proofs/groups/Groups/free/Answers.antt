use Rattle.std.proofs.Common.{◌≡◌, ◌<◌, ◌≤◌, Some, None, true, List, length, slice_get, subst}
use Rattle.std.specs.List.{position_or_len}
use Rattle.std.specs.Prelude.{is_none, MatchOption, nat_le}
use Rattle.monitor_graph.specs.Groups.{free_number}
use Rattle.monitor_graph.specs.Seating.{Seating, Sitting, groups_on}
use Rattle.monitor_graph.proofs.BenchLaws.{free_answer}
use Rattle.monitor_graph.proofs.groups.Groups.free.Goals as goal

pub returns : goal.returns
returns c =
    let P : List Sitting → Type 0 = λ z. MatchOption c.first_none.result
    (length z ≤ position_or_len is_none (groups_on z))
    (λ g. (g.0 ≡ position_or_len is_none (groups_on z)) × (g.0 < length z)) in
    subst (λ (v : Seating). MatchOption c.first_none.result (nat_le (length v.groups) (free_number v.groups) ≡ true)
    (λ g. (g.0 ≡ free_number v.groups) × (slice_get v.groups g.0 ≡ Some None))) c.self.view_is
    (free_answer c.self.inside.benches.items c.first_none.result
    (subst P c.as_slice.ensures.value c.first_none.ensures))
