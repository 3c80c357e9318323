-- Effects that leave what some kinds are read from: a cut, and those that leave each slot's meet.
use Rattle.std.specs.Prelude.{ℕ, ◌≡◌, ◌⊎◌, Bool, true, false, List, [], ◌∷◌, slice_get}
use Rattle.std.specs.Option.{option_map_or}
use Rattle.khe_base.specs.IdSet.{has_member}
use Rattle.khe_instance.specs.declared.parts.Parts.{Parts}
use Rattle.khe_instance.specs.declared.points.Monitor.{Monitor}
use Rattle.khe_instance.specs.declared.points.Point.{Point}
use Rattle.khe_instance.specs.declared.points.Point.TheVariants.{EventGroup}
use Rattle.khe_told.specs.Effects.{AreCut}
use Rattle.khe_told.specs.Turns.{SlotTurn}
use Rattle.event_monitors.specs.Posts.{names}
use Rattle.event_monitors.specs.Shares.{KeepsMeet}

-- each of some turns leaves it
abbrev pub AllKeep : (SlotTurn → Type 0) → List SlotTurn → Type 0
AllKeep kept [] = Unit {0}
AllKeep kept (t ∷ ts) = kept t × AllKeep kept ts

-- a meet is cut, or each turn leaves it
abbrev pub AreCutOrKeep : (SlotTurn → Type 0) → List SlotTurn → Type 0
AreCutOrKeep kept ts = AreCut ts ⊎ AllKeep kept ts

-- whether a point is a group that has an event
abbrev pub group_has : Parts → Point → ℕ → Bool
group_has p (EventGroup g) e = option_map_or (λ group. has_member group.events e) (slice_get p.groups g) false
group_has p _ e = true

-- a turn keeps its slot's meet, or is of an event that the monitor does not name
abbrev pub KeepsOrElsewhere : Parts → Monitor → SlotTurn → Type 0
KeepsOrElsewhere p m t = KeepsMeet t ⊎ (names p t.before.event.0 m ≡ false)
