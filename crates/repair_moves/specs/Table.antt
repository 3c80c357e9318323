-- The parts of the list of moves of each kind, in order: times and swaps, cuts and joins, gives and trades, and the
-- gives of a resource.
use Rattle.std.specs.Prelude.{List, [], ◌∷◌}
use Rattle.khe_instance.specs.declared.rules.Kind.{Kind}
use Rattle.khe_instance.specs.declared.rules.Kind.TheVariants.{AssignTime, AssignResource, SplitEvents}
use Rattle.khe_instance.specs.declared.rules.Kind.TheVariants.{DistributeSplitEvents, PreferTimes, PreferResources}
use Rattle.khe_instance.specs.declared.rules.Kind.TheVariants.{AvoidSplitAssignments, SpreadEvents, LinkEvents}
use Rattle.khe_instance.specs.declared.rules.Kind.TheVariants.{OrderEvents, AvoidClashes, AvoidUnavailableTimes}
use Rattle.khe_instance.specs.declared.rules.Kind.TheVariants.{LimitIdleTimes, ClusterBusyTimes, LimitBusyTimes}
use Rattle.khe_instance.specs.declared.rules.Kind.TheVariants.{LimitWorkload}
use Rattle.repair_moves.specs.declared.parts.Part.{Part}
use Rattle.repair_moves.specs.declared.parts.Part.TheVariants.{TimeMoves, SwapMoves, Cuts, Joins, TaskMoves, TradeMoves}
use Rattle.repair_moves.specs.declared.parts.Part.TheVariants.{Gives}

unfoldable pub parts_of : Kind → List Part
parts_of AssignTime = TimeMoves ∷ []
parts_of PreferTimes = TimeMoves ∷ SwapMoves ∷ []
parts_of SplitEvents = Cuts ∷ Joins ∷ []
parts_of DistributeSplitEvents = Cuts ∷ Joins ∷ []
parts_of SpreadEvents = TimeMoves ∷ SwapMoves ∷ []
parts_of LinkEvents = TimeMoves ∷ SwapMoves ∷ []
parts_of OrderEvents = TimeMoves ∷ SwapMoves ∷ []
parts_of AssignResource = TaskMoves ∷ []
parts_of PreferResources = TaskMoves ∷ TradeMoves ∷ []
parts_of AvoidSplitAssignments = TaskMoves ∷ TradeMoves ∷ []
parts_of AvoidClashes = TimeMoves ∷ SwapMoves ∷ TaskMoves ∷ TradeMoves ∷ Gives ∷ []
parts_of AvoidUnavailableTimes = TimeMoves ∷ SwapMoves ∷ TaskMoves ∷ TradeMoves ∷ Gives ∷ []
parts_of LimitIdleTimes = TimeMoves ∷ SwapMoves ∷ TaskMoves ∷ TradeMoves ∷ Gives ∷ []
parts_of ClusterBusyTimes = TimeMoves ∷ SwapMoves ∷ TaskMoves ∷ TradeMoves ∷ Gives ∷ []
parts_of LimitBusyTimes = TimeMoves ∷ SwapMoves ∷ TaskMoves ∷ TradeMoves ∷ Gives ∷ []
parts_of LimitWorkload = TaskMoves ∷ TradeMoves ∷ Gives ∷ []
