-- What a keeper of cells has: the counts of a told state, sets of times as masks, and its monitors.
use Rattle.std.specs.Prelude.{ℕ, ◌≡◌, Bool, List, length}
use Rattle.khe_instance.specs.Running.{running_tasks}
use Rattle.khe_instance.specs.declared.parts.Parts.{Parts}
use Rattle.khe_instance.specs.declared.rules.Kind.{Kind}
use Rattle.khe_told.specs.Fits.{AreTold}
use Rattle.khe_told.specs.Lists.{duties_in}
use Rattle.khe_told.specs.declared.slots.Slot.{Slot}
use Rattle.timetables.specs.Counts.{count_at}
use Rattle.resource_monitors.specs.Cells.{HasRows}
use Rattle.resource_monitors.specs.Posts.{AreLists}
use Rattle.resource_monitors.specs.Sets.{room_for}
use Rattle.resource_monitors.specs.declared.posts.Post.{Post}

-- the counts of a told state of the instance, the instance's sets of times and served monitors
pub record AreKept (served : Kind → Bool) (p : Parts) (s : List Slot) (rows : List (List ℕ))
    (sets : List (List (List Bool))) (lists : List (List Post)) : Type 0 where
  pub told : AreTold p s
  pub rows_all : HasRows p rows
  pub counts : (r t : ℕ) → count_at rows r t ≡ running_tasks (duties_in s) r t
  pub sets_all : sets ≡ room_for p
  pub lists_all : AreLists served (length p.resources) p.monitors lists
