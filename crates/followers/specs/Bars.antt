-- What ties alone refuse of an edit, whatever else would refuse it.
use Rattle.std.specs.Prelude.{◌&&◌, Bool, if◌then◌else◌, Option, None, List, [], ◌∷◌}
use Rattle.khe_base.specs.declared.numbers.MeetId.{MeetId}
use Rattle.khe_told.specs.Slots.{is_live, slot_at}
use Rattle.khe_told.specs.declared.edits.Edit.{Edit}
use Rattle.khe_told.specs.declared.edits.Edit.TheVariants.{Assign, Unassign, MoveTo, Split, Merge, SwapMeets}
use Rattle.khe_told.specs.declared.slots.Slot.{Slot}
use Rattle.followers.specs.Tables.{Row, first_of}
use Rattle.followers.specs.Ties.{follows, leads}
use Rattle.followers.specs.declared.edits.Tie.{Tie}
use Rattle.followers.specs.declared.edits.TiedRefusal.{TiedRefusal}
use Rattle.followers.specs.declared.edits.TiedRefusal.TheVariants.{Follower, Leader}

-- the first of these tests that holds, where the meets are live
abbrev pub barred_by : Bool → Row → Option TiedRefusal
barred_by live row = if live then first_of row else None

abbrev pub live_at : List Slot → MeetId → Bool
live_at s m = is_live (slot_at s m.0)

unfoldable pub bar : List Slot → List (Option Tie) → Edit → Option TiedRefusal
bar s ties (Assign m t) = barred_by (live_at s m) ((follows ties m.0, Follower) ∷ [])
bar s ties (Unassign m) = barred_by (live_at s m) ((follows ties m.0, Follower) ∷ [])
bar s ties (MoveTo m t) = barred_by (live_at s m) ((follows ties m.0, Follower) ∷ [])
bar s ties (Split m cut) = barred_by (live_at s m) ((follows ties m.0, Follower) ∷ (leads ties m.0, Leader) ∷ [])
bar s ties (Merge a b) = barred_by (live_at s a && live_at s b)
    ((follows ties a.0, Follower) ∷ (follows ties b.0, Follower) ∷ (leads ties a.0, Leader) ∷ (leads ties b.0, Leader)
    ∷ [])
bar s ties (SwapMeets a b) = barred_by (live_at s a && live_at s b)
    ((follows ties a.0, Follower) ∷ (follows ties b.0, Follower) ∷ [])
bar s ties _ = None
