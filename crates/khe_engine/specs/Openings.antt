-- The state that a timetable lists, which an engine on it begins with; and the slots while listeners are told of its
-- meets one after the other.
use Rattle.std.specs.Prelude.{ℕ, zero, suc, ◌≡◌, Option, None, List, [], ◌∷◌, map, length, replicate}
use Rattle.std.specs.Option.{option_map}
use Rattle.khe_base.specs.declared.numbers.ResourceId.{ResourceId}
use Rattle.khe_instance.specs.declared.parts.Parts.{Parts}
use Rattle.khe_instance.specs.declared.states.Plain.{Plain}
use Rattle.khe_told.specs.Fits.{AreTold}
use Rattle.khe_told.specs.Lists.{meets_in, tasks_in}
use Rattle.khe_told.specs.Slots.{emptied}
use Rattle.khe_told.specs.declared.slots.Slot.{Slot}
use Rattle.khe_told.specs.declared.slots.Span.{Span}
use Rattle.monitor_graph.specs.Boards.{Grouping}
use Rattle.monitor_graph.specs.Opened.{attached_in, groups_in}
use Rattle.khe_engine.specs.States.{State}

-- which monitors of a timetable are attached, and its groups
abbrev pub grouping_in : Parts → Plain → Grouping
grouping_in p s = record { attached = attached_in p s; groups = groups_in s.groups }

-- a state is the one that a timetable lists
pub record IsStateOf (p : Parts) (plain : Plain) (s : State) : Type 0 where
  pub told : AreTold p s.slots
  pub meets : meets_in s.slots ≡ plain.meets
  pub tasks : tasks_in s.slots ≡ plain.tasks
  pub grouping : s.grouping ≡ grouping_in p plain

-- n places have what they are given, and the others nothing yet
abbrev pub given_to : ℕ → List (Option ResourceId) → List (Option ResourceId)
given_to zero g = replicate (length g) None
given_to (suc k) [] = []
given_to (suc k) (o ∷ g) = o ∷ given_to k g

-- a slot whose meet was told without its start, and n of its places with what they are given
abbrev pub coming : ℕ → Slot → Slot
coming k x = record x { span = option_map (λ (y : Span). record y { start = None }) x.span; given = given_to k x.given }

-- n slots are told, and the others have no meets yet
abbrev pub told_to : ℕ → List Slot → List Slot
told_to zero s = map emptied s
told_to (suc k) [] = []
told_to (suc k) (x ∷ s) = x ∷ told_to k s
