-- The pair of events that a monitor watches, and its deviation by when the meets of both start and
-- end.
use Rattle.std.specs.Prelude.{ℕ, ◌-◌, ◌==◌, ◌||◌, pos, ◌-ℤ◌, Bool, if◌then◌else◌, fold, min, Option, None, List, []}
use Rattle.std.specs.Prelude.{slice_get, slice_index_or}
use Rattle.std.specs.Option.{option_and_then, option_map_or}
use Rattle.khe_base.specs.Bounds.{outside}
use Rattle.khe_instance.specs.KindLaws.{is_kind}
use Rattle.khe_instance.specs.declared.parts.Parts.{Parts}
use Rattle.khe_instance.specs.declared.points.Monitor.{Monitor}
use Rattle.khe_instance.specs.declared.points.Point.{Point}
use Rattle.khe_instance.specs.declared.points.Point.TheVariants.{EventPair as Pair}
use Rattle.khe_instance.specs.declared.rules.EventPair.{EventPair}
use Rattle.khe_instance.specs.declared.rules.Kind.{Kind}
use Rattle.khe_instance.specs.declared.rules.Kind.TheVariants as kind
use Rattle.khe_instance.specs.declared.rules.Rule.{Rule}
use Rattle.khe_instance.specs.declared.rules.Rule.TheVariants.{OrderEvents}
use Rattle.set_monitors.specs.declared.meet_edges.Edges.{Edges}
use Rattle.set_monitors.specs.declared.least_trees.TheConstants.{NOTHING}

abbrev pub is_order : Kind → Bool
is_order k = is_kind k kind.OrderEvents

abbrev pub pairs_of : Rule → List EventPair
pairs_of (OrderEvents pairs) = pairs
pairs_of _ = []

abbrev pub pair_in : List EventPair → Point → Option EventPair
pair_in pairs (Pair k) = slice_get pairs k
pair_in pairs _ = None

abbrev pub pair_at : Parts → Monitor → Option EventPair
pair_at p m = option_and_then (λ c. pair_in (pairs_of c.rule) m.point) (slice_get p.constraints m.constraint)

-- how far the times between lie outside the bounds, by the key of the last end and the first start
abbrev pub between : ℕ → ℕ → ℕ → ℕ → ℕ
between last first least greatest =
    if (last == NOTHING) || (first == NOTHING) then 0 else outside (pos first -ℤ pos (NOTHING - last)) (pos least)
    (pos greatest)

-- of events with such starts and ends
abbrev pub gap : Edges → Edges → EventPair → ℕ
gap a b q = between (fold min NOTHING a.ends) (fold min NOTHING b.starts) q.min q.max

abbrev pub no_edges : Edges
no_edges = record { starts = []; ends = [] }

abbrev pub value_of : Parts → List Edges → Monitor → ℕ
value_of p edges m = option_map_or (λ q. gap (slice_index_or edges q.first.0 no_edges)
    (slice_index_or edges q.second.0 no_edges) q) (pair_at p m) 0
