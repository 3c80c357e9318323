-- Monitors at a list of places that are queued one by one.
use Rattle.std.specs.Prelude.{ℕ, ◌≡◌, Bool, false, true, Some, List, slice_get}
use Rattle.khe_instance.specs.declared.parts.Parts.{Parts}
use Rattle.event_monitors.specs.Posts.{names}
use Rattle.event_monitors.specs.Turns.{has}
use Rattle.event_monitors.specs.declared.posts.Post.{Post}

-- all monitors that name the event wait, but for those at the places of the rest
abbrev pub NamedWait : Parts → List Post → ℕ → (ℕ → Bool) → List ℕ → Type 0
NamedWait p posts event waits rest = (k : ℕ) (a : Post) → slice_get posts k ≡ Some a → names p event a.monitor ≡ true
    → has rest k ≡ false → waits a.number.0 ≡ true
