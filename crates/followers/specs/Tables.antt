-- Edits of a tied state: why each is refused, by the engine's row with the tests of ties put in, and the state after
-- it, which is the engine's with each follower then at its place.
use Rattle.std.specs.Prelude.{ℕ, ◌+◌, ◌==◌, Bool, not, nat_lt, if◌then◌else◌, Option, Some, None, List, [], ◌∷◌, ◌++◌}
use Rattle.std.specs.Prelude.{drop, map, slice_set, take}
use Rattle.std.specs.Option.{option_map}
use Rattle.khe_base.specs.declared.numbers.MeetId.{MeetId}
use Rattle.khe_instance.specs.declared.parts.Parts.{Parts}
use Rattle.khe_told.specs.Slots.{is_live, length_of, slot_at}
use Rattle.khe_told.specs.declared.edits.Edit.{Edit}
use Rattle.khe_told.specs.declared.edits.Edit.TheVariants.{Assign, Unassign, MoveTo, Split, Merge, SwapMeets}
use Rattle.khe_told.specs.declared.refusals.Refusal.{Refusal}
use Rattle.khe_told.specs.declared.refusals.Refusal.TheVariants.{NoSuchMeet, Same, Fixed}
use Rattle.khe_solution.specs.Reading.{is_fixed_event}
use Rattle.khe_solution.specs.Refusing.{assign_row, unassign_row, move_row, split_row, merge_row, swap_meets_row}
use Rattle.khe_engine.specs.States as engine
use Rattle.followers.specs.Ties.{TiedState, follows, in_place, leads}
use Rattle.followers.specs.declared.edits.Tie.{Tie}
use Rattle.followers.specs.declared.edits.TiedEdit.{TiedEdit}
use Rattle.followers.specs.declared.edits.TiedEdit.TheVariants as edit
use Rattle.followers.specs.declared.edits.TiedRefusal.{TiedRefusal}
use Rattle.followers.specs.declared.edits.TiedRefusal.TheVariants.{Base, Follower, Leader, BadOffset, NotFollower}

abbrev pub Row : Type 0
Row = List (Bool × TiedRefusal)

-- the first refusal of a row whose test holds
abbrev pub first_of : Row → Option TiedRefusal
first_of [] = None
first_of ((test, r) ∷ rest) = if test then Some r else first_of rest

-- a row of the engine's table, and one with these tests after its first ones
abbrev pub based : List (Bool × Refusal) → Row
based row = map (λ (x : Bool × Refusal). (x.0, Base x.1)) row

abbrev pub spliced : ℕ → Row → List (Bool × Refusal) → Row
spliced n tests row = based (take n row) ++ tests ++ based (drop n row)

-- a meet follows another, and has followers
abbrev pub follower : TiedState → MeetId → Bool × TiedRefusal
follower t m = (follows t.ties m.0, Follower)

abbrev pub leader : TiedState → MeetId → Bool × TiedRefusal
leader t m = (leads t.ties m.0, Leader)

-- the rows of the six edits of starts and durations; all others are refused as by the engine
unfoldable pub base_refusal : Parts → TiedState → Edit → Option TiedRefusal
base_refusal p t (Assign m u) = first_of (spliced 1 (follower t m ∷ []) (assign_row p t.state.slots m u))
base_refusal p t (Unassign m) = first_of (spliced 1 (follower t m ∷ []) (unassign_row p t.state.slots m))
base_refusal p t (MoveTo m u) = first_of (spliced 1 (follower t m ∷ []) (move_row p t.state.slots m u))
base_refusal p t (Split m cut) =
    first_of (spliced 1 (follower t m ∷ leader t m ∷ []) (split_row p t.state.slots m cut))
base_refusal p t (Merge a b) =
    first_of (spliced 2 (follower t a ∷ follower t b ∷ leader t a ∷ leader t b ∷ []) (merge_row t.state.slots a b))
base_refusal p t (SwapMeets a b) =
    first_of (spliced 2 (follower t a ∷ follower t b ∷ []) (swap_meets_row p t.state.slots a b))
base_refusal p t e = option_map Base (engine.refusal p t.state e)

-- the rows of Tie and Untie
abbrev pub tie_row : Parts → TiedState → MeetId → MeetId → ℕ → Row
tie_row p t m n offset =
    let x = slot_at t.state.slots m.0 in
    let y = slot_at t.state.slots n.0 in
    (not (is_live x), Base NoSuchMeet) ∷ (not (is_live y), Base NoSuchMeet) ∷ (m.0 == n.0, Base Same)
    ∷ (is_fixed_event p x.event.0, Base Fixed) ∷ follower t m ∷ follower t n ∷ leader t m
    ∷ (nat_lt (length_of y) (offset + length_of x), BadOffset) ∷ []

abbrev pub untie_row : TiedState → MeetId → Row
untie_row t m = (not (is_live (slot_at t.state.slots m.0)), Base NoSuchMeet) ∷ (not (follows t.ties m.0), NotFollower)
    ∷ []

unfoldable pub refusal : Parts → TiedState → TiedEdit → Option TiedRefusal
refusal p t (edit.Base e) = base_refusal p t e
refusal p t (edit.Tie m n offset) = first_of (tie_row p t m n offset)
refusal p t (edit.Untie m) = first_of (untie_row t m)

-- each follower at its place
abbrev pub settled : TiedState → TiedState
settled t = record t { state = record t.state { slots = in_place t.ties t.state.slots } }

-- with another tie of a meet
abbrev pub with_tie : TiedState → MeetId → Option Tie → TiedState
with_tie t m tie = record t { ties = slice_set t.ties m.0 tie }

-- the tied state that an accepted edit leaves
unfoldable pub edited : TiedState → TiedEdit → TiedState
edited t (edit.Base e) = settled (record t { state = engine.edited t.state e })
edited t (edit.Tie m n offset) = settled (with_tie t m (Some (record { leader = n; offset = offset })))
edited t (edit.Untie m) = with_tie t m None

-- the number of the meet or the group that it makes, if any
unfoldable pub made : TiedState → TiedEdit → Option ℕ
made t (edit.Base e) = engine.made t.state e
made t _ = None
