-- The six edits of monitors and groups: the causes for which each is refused, what it leaves, the number that it
-- makes, and the record that leads back.
use Rattle.std.specs.Prelude.{ℕ, ◌≡◌, ◌<◌, ◌≤◌, Bool, true, false, not, nat_lt, nat_le, if◌then◌else◌, Option, Some}
use Rattle.std.specs.Prelude.{None, Result, Ok, Err, List, [], ◌∷◌, ◌++◌, length, slice_get, slice_set, slice_index_or}
use Rattle.std.specs.List.{insert}
use Rattle.khe_told.specs.declared.edits.Back.{Back}
use Rattle.khe_told.specs.declared.edits.Back.TheVariants.{By, Make, Insert}
use Rattle.khe_told.specs.declared.edits.Edit.{Edit}
use Rattle.khe_told.specs.declared.edits.Edit.TheVariants.{Attach, Detach, MakeGroup, DropGroup, AddChild, RemoveChild}
use Rattle.khe_told.specs.declared.refusals.Refusal.{Refusal}
use Rattle.khe_told.specs.declared.refusals.Refusal.TheVariants.{NoSuchMonitor, NoSuchGroup, Attached, Detached}
use Rattle.khe_told.specs.declared.refusals.Refusal.TheVariants.{IsChild, NotChild, GroupsFull, NotEmpty}
use Rattle.monitor_graph.specs.Boards.{Grouping}
use Rattle.monitor_graph.specs.Groups.{has_group, children_at, has_child, place_of, without, free_number}

-- the edit is one of monitors and groups
abbrev pub is_of_groups : Edit → Bool
is_of_groups (Attach m) = true
is_of_groups (Detach m) = true
is_of_groups MakeGroup = true
is_of_groups (DropGroup g) = true
is_of_groups (AddChild g m) = true
is_of_groups (RemoveChild g m) = true
is_of_groups _ = false

-- it needs a seat, and in which group
abbrev pub adds_child : Edit → Bool
adds_child (AddChild g m) = true
adds_child _ = false

abbrev pub adds_to : Edit → ℕ
adds_to (AddChild g m) = g.0
adds_to _ = 0

abbrev pub inserts_child : Back → Bool
inserts_child (Insert g m k) = true
inserts_child _ = false

abbrev pub inserts_to : Back → ℕ
inserts_to (Insert g m k) = g.0
inserts_to _ = 0

abbrev pub is_attached : Grouping → ℕ → Bool
is_attached s m = slice_index_or s.attached m false

-- the first refusal whose test holds
abbrev pub first_refusal : List (Bool × Refusal) → Option Refusal
first_refusal [] = None
first_refusal ((test, r) ∷ rest) = if test then Some r else first_refusal rest

abbrev pub no_monitor : Grouping → ℕ → Bool × Refusal
no_monitor s m = (nat_le (length s.attached) m, NoSuchMonitor)

abbrev pub no_group : Grouping → ℕ → Bool × Refusal
no_group s g = (not (has_group s.groups g), NoSuchGroup)

-- the first refusal of an edit: a row for each, in its order
abbrev pub refusal : Grouping → Edit → Option Refusal
refusal s (Attach m) = first_refusal (no_monitor s m.0 ∷ (is_attached s m.0, Attached) ∷ [])
refusal s (Detach m) = first_refusal (no_monitor s m.0 ∷ (not (is_attached s m.0), Detached) ∷ [])
refusal s MakeGroup = first_refusal ((nat_le (length s.groups) (free_number s.groups), GroupsFull) ∷ [])
refusal s (DropGroup g) = first_refusal (no_group s g.0 ∷ (nat_lt 0 (length (children_at s.groups g.0)), NotEmpty) ∷ [])
refusal s (AddChild g m) = first_refusal (no_group s g.0 ∷ no_monitor s
    m.0 ∷ (has_child s.groups g.0 m.0, IsChild) ∷ [])
refusal s (RemoveChild g m) = first_refusal (no_group s g.0 ∷ no_monitor s
    m.0 ∷ (not (has_child s.groups g.0 m.0), NotChild) ∷ [])
refusal s _ = None

-- what it leaves
abbrev pub edited : Grouping → Edit → Grouping
edited s (Attach m) = record s { attached = slice_set s.attached m.0 true }
edited s (Detach m) = record s { attached = slice_set s.attached m.0 false }
edited s MakeGroup = record s { groups = slice_set s.groups (free_number s.groups) (Some []) }
edited s (DropGroup g) = record s { groups = slice_set s.groups g.0 None }
edited s (AddChild g m) = record s { groups = slice_set s.groups g.0 (Some (children_at s.groups g.0 ++ m ∷ [])) }
edited s (RemoveChild g m) = record s {
  groups =
      slice_set s.groups g.0 (Some (without m.0 (children_at s.groups g.0)));
}
edited s _ = s

-- the number that it makes
abbrev pub made : Grouping → Edit → Option ℕ
made s MakeGroup = Some (free_number s.groups)
made s _ = None

-- the record that leads back
abbrev pub back_of : Grouping → Edit → Back
back_of s (Attach m) = By (Detach m)
back_of s (Detach m) = By (Attach m)
back_of s MakeGroup = By (DropGroup (record { 0 = free_number s.groups }))
back_of s (DropGroup g) = Make g
back_of s (AddChild g m) = By (RemoveChild g m)
back_of s (RemoveChild g m) = Insert g m (place_of m.0 (children_at s.groups g.0))
back_of s e = By e

-- what a record leaves
abbrev pub undone : Grouping → Back → Grouping
undone s (By e) = edited s e
undone s (Make g) = record s { groups = slice_set s.groups g.0 (Some []) }
undone s (Insert g m k) = record s { groups = slice_set s.groups g.0 (Some (insert (children_at s.groups g.0) k m)) }
undone s _ = s

-- a record can lead back: what it undoes is there
pub record CanInsert (s : Grouping) (g m k : ℕ) : Type 0 where
  pub there : has_group s.groups g ≡ true
  pub known : m < length s.attached
  pub place : k ≤ length (children_at s.groups g)
  pub fresh : has_child s.groups g m ≡ false

abbrev pub CanUndo : Grouping → Back → Type 0
CanUndo s (By (Attach m)) = m.0 < length s.attached
CanUndo s (By (Detach m)) = m.0 < length s.attached
CanUndo s (By (DropGroup g)) = slice_get s.groups g.0 ≡ Some (Some [])
CanUndo s (By (RemoveChild g m)) = has_child s.groups g.0 m.0 ≡ true
CanUndo s (Make g) = slice_get s.groups g.0 ≡ Some None
CanUndo s (Insert g m k) = CanInsert s g.0 m.0 k
CanUndo s _ = ⊥

-- how a check and an edit answer
abbrev pub checked : Option Refusal → Result (Unit {0}) Refusal
checked None = Ok tt
checked (Some r) = Err r

abbrev pub answer : Option Refusal → Option ℕ → Result (Option ℕ) Refusal
answer None made = Ok made
answer (Some r) made = Err r
