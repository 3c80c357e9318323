-- The changes that an edit of meets and tasks is made of: what is lifted and taken, then what is dropped and added,
-- then what is given and placed.
use Rattle.std.specs.Prelude.{ℕ, ◌+◌, ◌-◌, Option, Some, None, List, [], ◌∷◌, ◌++◌}
use Rattle.std.specs.Option.{option_map_or}
use Rattle.khe_base.specs.declared.numbers.MeetId.{MeetId}
use Rattle.khe_base.specs.declared.numbers.ResourceId.{ResourceId}
use Rattle.khe_base.specs.declared.numbers.TaskId.{TaskId}
use Rattle.khe_base.specs.declared.numbers.TimeId.{TimeId}
use Rattle.khe_told.specs.Slots.{slot_at, length_of, start_of}
use Rattle.khe_told.specs.declared.slots.Slot.{Slot}
use Rattle.khe_told.specs.declared.changes.Change.{Change}
use Rattle.khe_told.specs.declared.changes.Change.TheVariants as change
use Rattle.khe_told.specs.declared.edits.Edit.{Edit}
use Rattle.khe_told.specs.declared.edits.Edit.TheVariants.{Assign, Unassign, MoveTo, Split, Merge, SwapMeets, Give}
use Rattle.khe_told.specs.declared.edits.Edit.TheVariants.{Take, Regive, SwapTasks}
use Rattle.khe_solution.specs.Reading.{resource_at, free_slot}
use Rattle.khe_solution.specs.Editing.{later}
use Rattle.khe_solution.specs.declared.lists.Part.{Part}

-- the Lift of a meet that has this start, and the Place of one that gets it
abbrev pub lifts : MeetId → Option TimeId → List Change
lifts m t = option_map_or (λ (x : TimeId). change.Lift m x ∷ []) t []

abbrev pub places : MeetId → Option TimeId → List Change
places m t = option_map_or (λ (x : TimeId). change.Place m x ∷ []) t []

-- the Take of a task that has this resource, and the Give of one that gets it
abbrev pub takes : TaskId → Option ResourceId → List Change
takes t r = option_map_or (λ (x : ResourceId). change.Take t x ∷ []) r []

abbrev pub gives : TaskId → Option ResourceId → List Change
gives t r = option_map_or (λ (x : ResourceId). change.Give t x ∷ []) r []

-- the same for the places of a meet from this one on, in ascending order
abbrev pub takes_from : MeetId → ℕ → List (Option ResourceId) → List Change
takes_from m k [] = []
takes_from m k (None ∷ rs) = takes_from m (k + 1) rs
takes_from m k (Some r ∷ rs) = change.Take (record { meet = m; place = k }) r ∷ takes_from m (k + 1) rs

abbrev pub gives_from : MeetId → ℕ → List (Option ResourceId) → List Change
gives_from m k [] = []
gives_from m k (None ∷ rs) = gives_from m (k + 1) rs
gives_from m k (Some r ∷ rs) = change.Give (record { meet = m; place = k }) r ∷ gives_from m (k + 1) rs

-- two meets come into free slots, with the same resources
abbrev pub entering : List (Option ResourceId) → Part → Part → List Change
entering given a b =
    change.Add a.meet a.duration ∷ (change.Add b.meet b.duration
    ∷ (gives_from a.meet 0 given ++ (gives_from b.meet 0 given ++ (places a.meet a.start ++ places b.meet b.start))))

-- one meet becomes two
abbrev pub cutting : List (Option ResourceId) → Part → Part → Part → List Change
cutting given x a b = lifts x.meet x.start ++ (takes_from x.meet 0 given
    ++ (change.Drop x.meet x.duration ∷ entering given a b))

-- two meets become one
abbrev pub joining : List (Option ResourceId) → Part → Part → Part → List Change
joining given a b x =
    lifts a.meet a.start ++ (lifts b.meet b.start
    ++ (takes_from a.meet 0 given ++ (takes_from b.meet 0 given
    ++ (change.Drop a.meet a.duration ∷ (change.Drop b.meet b.duration
    ∷ (change.Add x.meet x.duration ∷ (gives_from x.meet 0 given ++ places x.meet x.start)))))))

-- a slot's meet, the two parts of one that is cut, and the one of two that are joined
abbrev pub whole : MeetId → Slot → Part
whole m x = record { meet = m; duration = length_of x; start = start_of x }

abbrev pub first_part : MeetId → Slot → ℕ → Part
first_part m x cut = record { meet = m; duration = cut; start = start_of x }

abbrev pub second_part : MeetId → Slot → ℕ → Part
second_part n x cut = record { meet = n; duration = length_of x - cut; start = later cut (start_of x) }

abbrev pub joined : MeetId → Slot → Slot → Part
joined m x y = record { meet = m; duration = length_of x + length_of y; start = start_of x }

abbrev pub cut_changes : List Slot → MeetId → ℕ → MeetId → List Change
cut_changes s m cut n = let x = slot_at s m.0 in cutting x.given (whole m x) (first_part m x cut) (second_part n x cut)

abbrev pub join_changes : List Slot → MeetId → MeetId → List Change
join_changes s a b = let x = slot_at s a.0 in let y = slot_at s b.0 in
    joining x.given (whole a x) (whole b y) (joined a x y)

unfoldable pub changes : List Slot → Edit → List Change
changes s (Assign m t) = places m (Some t)
changes s (Unassign m) = lifts m (start_of (slot_at s m.0))
changes s (MoveTo m t) = lifts m (start_of (slot_at s m.0)) ++ places m (Some t)
changes s (Split m cut) = cut_changes s m cut (record { 0 = free_slot s (slot_at s m.0).event.0 })
changes s (Merge a b) = join_changes s a b
changes s (SwapMeets a b) =
    let t = start_of (slot_at s a.0) in
    let u = start_of (slot_at s b.0) in
    lifts a t ++ (lifts b u ++ (places a u ++ places b t))
changes s (Give t r) = gives t (Some r)
changes s (Take t) = takes t (resource_at s t)
changes s (Regive t r) = takes t (resource_at s t) ++ gives t (Some r)
changes s (SwapTasks a b) =
    let q = resource_at s a in
    let r = resource_at s b in
    takes a q ++ (takes b r ++ (gives a r ++ gives b q))
changes s _ = []
