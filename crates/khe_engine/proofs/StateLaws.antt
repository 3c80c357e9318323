-- Edits and records by their two sorts: those of monitors and groups, and those of meets and tasks.
use Rattle.std.proofs.Common.{ℕ, ◌≡◌, true, false, cond, Option, Some, None, List, [], length, map, refl, sym}
use Rattle.std.proofs.Common.{ap, subst, ◌∙◌, arith}
use Rattle.std.specs.Option.{option_map_or}
use Rattle.std.specs.Prelude.{Result}
use Rattle.std.proofs.lemmas.Bool.{both_ways}
use Rattle.std.proofs.lemmas.List.Edits.{length-remove}
use Rattle.std.proofs.lemmas.Option.{slice_get_within}
use Rattle.khe_base.proofs.ListLemmas.{get-set}
use Rattle.khe_base.specs.declared.numbers.ResourceId.{ResourceId}
use Rattle.khe_base.specs.declared.numbers.TimeId.{TimeId}
use Rattle.khe_instance.specs.declared.parts.Parts.{Parts}
use Rattle.khe_told.specs.Effects.{turned_all}
use Rattle.khe_told.specs.Slots.{slot_at, start_of}
use Rattle.khe_told.specs.Turns.{SlotTurn}
use Rattle.khe_told.specs.declared.edits.Back.{Back}
use Rattle.khe_told.specs.declared.edits.Back.TheVariants.{By}
use Rattle.khe_told.specs.declared.edits.Edit.{Edit}
use Rattle.khe_told.specs.declared.edits.Edit.TheVariants.{Assign, Unassign, MoveTo, Split, Merge, SwapMeets, Give}
use Rattle.khe_told.specs.declared.edits.Edit.TheVariants.{Take, Regive, SwapTasks, Attach, Detach, MakeGroup}
use Rattle.khe_told.specs.declared.edits.Edit.TheVariants.{DropGroup, AddChild, RemoveChild}
use Rattle.khe_told.specs.declared.refusals.Refusal.{Refusal}
use Rattle.khe_told.specs.declared.slots.Slot.{Slot}
use Rattle.khe_solution.specs.Backs as backs
use Rattle.khe_solution.specs.Changing as changing
use Rattle.khe_solution.specs.Editing as editing
use Rattle.khe_solution.specs.Reading.{resource_at}
use Rattle.khe_solution.specs.Refusing as refusing
use Rattle.monitor_graph.specs.Boards.{Board, Grouping}
use Rattle.monitor_graph.specs.Edits as groups
use Rattle.monitor_graph.specs.Groups.{children_at, place_of, without, HasSeat, HaveRoom}
use Rattle.monitor_graph.proofs.EditLaws.{remove_known}
use Rattle.monitor_graph.proofs.SeatLaws.{child_in_group, child_place, group_is, listed}
use Rattle.monitor_graph.specs.declared.lines.Line.{Line}
use Rattle.undo_paths.specs.Stack.{with_record}
use Rattle.khe_engine.specs.States.{State, attaches, state_of, refusal, edited, made, changes, is_back_of_groups, undone}
use Rattle.khe_engine.specs.States.{undone_changes}
use Rattle.khe_engine.specs.Worlds.{IsCheck}
use Rattle.khe_engine.specs.Records.{Leads, LeadsBy, IsRecorded}

-- the state of a graph with these lines and groups
pub same_state : (slots : List Slot) (a b : Board) → b.lines ≡ a.lines → b.groups ≡ a.groups
    → state_of slots b ≡ state_of slots a
same_state slots a b l g = λ i. record {
  slots = slots;
  grouping =
      record { attached = map (λ (x : Line). x.attached) (l i); groups = g i };
}

-- an edit is of the one sort or of the other
pub other_sort : (e : Edit) → groups.is_of_groups e ≡ false → refusing.is_of_meets e ≡ true
other_sort (Attach m) h = absurd (both_ways true h refl)
other_sort (Detach m) h = absurd (both_ways true h refl)
other_sort MakeGroup h = absurd (both_ways true h refl)
other_sort (DropGroup g) h = absurd (both_ways true h refl)
other_sort (AddChild g m) h = absurd (both_ways true h refl)
other_sort (RemoveChild g m) h = absurd (both_ways true h refl)
other_sort (Assign a b) h = refl
other_sort (Unassign a) h = refl
other_sort (MoveTo a b) h = refl
other_sort (Split a b) h = refl
other_sort (Merge a b) h = refl
other_sort (SwapMeets a b) h = refl
other_sort (Give a b) h = refl
other_sort (Take a) h = refl
other_sort (Regive a b) h = refl
other_sort (SwapTasks a b) h = refl

-- and not of both
pub one_sort : (e : Edit) → refusing.is_of_meets e ≡ true → groups.is_of_groups e ≡ false
one_sort (Attach m) h = absurd (both_ways false refl h)
one_sort (Detach m) h = absurd (both_ways false refl h)
one_sort MakeGroup h = absurd (both_ways false refl h)
one_sort (DropGroup g) h = absurd (both_ways false refl h)
one_sort (AddChild g m) h = absurd (both_ways false refl h)
one_sort (RemoveChild g m) h = absurd (both_ways false refl h)
one_sort (Assign a b) h = refl
one_sort (Unassign a) h = refl
one_sort (MoveTo a b) h = refl
one_sort (Split a b) h = refl
one_sort (Merge a b) h = refl
one_sort (SwapMeets a b) h = refl
one_sort (Give a b) h = refl
one_sort (Take a) h = refl
one_sort (Regive a b) h = refl
one_sort (SwapTasks a b) h = refl

-- an edit of monitors and groups
pub refusal_groups : (p : Parts) (s : State) (e : Edit) → groups.is_of_groups e ≡ true
    → refusal p s e ≡ groups.refusal s.grouping e
unfolding refusal
refusal_groups p s e h = ap (λ t. cond t (groups.refusal s.grouping e) (refusing.refusal p s.slots e)) h

pub edited_groups : (s : State) (e : Edit) → groups.is_of_groups e ≡ true
    → edited s e ≡ record s { grouping = groups.edited s.grouping e }
unfolding edited
edited_groups s e h = ap (λ t. cond t (record s { grouping = groups.edited s.grouping e })
    (record s { slots = editing.edited s.slots e })) h

pub made_groups : (s : State) (e : Edit) → groups.is_of_groups e ≡ true → made s e ≡ groups.made s.grouping e
unfolding made
made_groups s e h = ap (λ t. cond t (groups.made s.grouping e) (editing.made s.slots e)) h

pub changes_groups : (s : State) (e : Edit) → groups.is_of_groups e ≡ true → changes s e ≡ []
unfolding changes
changes_groups s e h = ap (λ t. cond t [] (changing.changes s.slots e)) h

-- one that attaches or detaches a monitor, and one that leaves all monitors as they are
pub attaches_groups : (e : Edit) → attaches e ≡ true → groups.is_of_groups e ≡ true
attaches_groups (Attach m) h = refl
attaches_groups (Detach m) h = refl
attaches_groups MakeGroup h = refl
attaches_groups (DropGroup g) h = refl
attaches_groups (AddChild g m) h = refl
attaches_groups (RemoveChild g m) h = refl
attaches_groups (Assign a b) h = h
attaches_groups (Unassign a) h = h
attaches_groups (MoveTo a b) h = h
attaches_groups (Split a b) h = h
attaches_groups (Merge a b) h = h
attaches_groups (SwapMeets a b) h = h
attaches_groups (Give a b) h = h
attaches_groups (Take a) h = h
attaches_groups (Regive a b) h = h
attaches_groups (SwapTasks a b) h = h

pub same_attached : (s : Grouping) (e : Edit) → attaches e ≡ false → (groups.edited s e).attached ≡ s.attached
same_attached s (Attach m) h = absurd (both_ways true h refl)
same_attached s (Detach m) h = absurd (both_ways true h refl)
same_attached s MakeGroup h = refl
same_attached s (DropGroup g) h = refl
same_attached s (AddChild g m) h = refl
same_attached s (RemoveChild g m) h = refl
same_attached s (Assign a b) h = refl
same_attached s (Unassign a) h = refl
same_attached s (MoveTo a b) h = refl
same_attached s (Split a b) h = refl
same_attached s (Merge a b) h = refl
same_attached s (SwapMeets a b) h = refl
same_attached s (Give a b) h = refl
same_attached s (Take a) h = refl
same_attached s (Regive a b) h = refl
same_attached s (SwapTasks a b) h = refl

-- an edit of meets and tasks
pub refusal_meets : (p : Parts) (s : State) (e : Edit) → groups.is_of_groups e ≡ false
    → refusal p s e ≡ refusing.refusal p s.slots e
unfolding refusal
refusal_meets p s e h = ap (λ t. cond t (groups.refusal s.grouping e) (refusing.refusal p s.slots e)) h

pub edited_meets : (s : State) (e : Edit) → groups.is_of_groups e ≡ false
    → edited s e ≡ record s { slots = editing.edited s.slots e }
unfolding edited
edited_meets s e h = ap (λ t. cond t (record s { grouping = groups.edited s.grouping e })
    (record s { slots = editing.edited s.slots e })) h

-- effects that lead to the slots after an edit lead to its state
pub foreseen_state : (s told : List Slot) (b : Board) (e : Edit) (ts : List SlotTurn) → refusing.is_of_meets e ≡ true
    → told ≡ s → turned_all s ts ≡ editing.edited s e → state_of (turned_all told ts) b ≡ edited (state_of s b) e
foreseen_state s told b e ts ours same leads =
    ap (λ (x : List Slot). state_of x b) (ap (λ (x : List Slot). turned_all x ts) same ∙ leads)
    ∙ sym (edited_meets (state_of s b) e (one_sort e ours))

pub made_meets : (s : State) (e : Edit) → groups.is_of_groups e ≡ false → made s e ≡ editing.made s.slots e
unfolding made
made_meets s e h = ap (λ t. cond t (groups.made s.grouping e) (editing.made s.slots e)) h

pub changes_meets : (s : State) (e : Edit) → groups.is_of_groups e ≡ false → changes s e ≡ changing.changes s.slots e
unfolding changes
changes_meets s e h = ap (λ t. cond t [] (changing.changes s.slots e)) h

-- how the checks of both sorts answer
is_check : (o q : Option Refusal) (r : Result (Unit {0}) Refusal) → q ≡ o → r ≡ refusing.checked o → IsCheck q r
is_check None q r e h = subst (IsCheck q) (sym h) e
is_check (Some x) q r e h = subst (IsCheck q) (sym h) e

is_check_too : (o q : Option Refusal) (r : Result (Unit {0}) Refusal) → q ≡ o → r ≡ groups.checked o → IsCheck q r
is_check_too None q r e h = subst (IsCheck q) (sym h) e
is_check_too (Some x) q r e h = subst (IsCheck q) (sym h) e

pub checked_groups : (p : Parts) (s : State) (e : Edit) (r : Result (Unit {0}) Refusal) → groups.is_of_groups e ≡ true
    → r ≡ groups.checked (groups.refusal s.grouping e) → IsCheck (refusal p s e) r
checked_groups p s e r o h = is_check_too (groups.refusal s.grouping e) (refusal p s e) r (refusal_groups p s e o) h

pub checked_meets : (p : Parts) (s : State) (e : Edit) (r : Result (Unit {0}) Refusal) → groups.is_of_groups e ≡ false
    → r ≡ refusing.checked (refusing.refusal p s.slots e) → IsCheck (refusal p s e) r
checked_meets p s e r o h = is_check (refusing.refusal p s.slots e) (refusal p s e) r (refusal_meets p s e o) h

-- records of both sorts
pub undone_groups : (s : State) (b : Back) → is_back_of_groups b ≡ true
    → undone s b ≡ record s { grouping = groups.undone s.grouping b }
unfolding undone
undone_groups s b h = ap (λ t. cond t (record s { grouping = groups.undone s.grouping b })
    (record s { slots = backs.undone s.slots b })) h

pub undone_meets : (s : State) (b : Back) → is_back_of_groups b ≡ false
    → undone s b ≡ record s { slots = backs.undone s.slots b }
unfolding undone
undone_meets s b h = ap (λ t. cond t (record s { grouping = groups.undone s.grouping b })
    (record s { slots = backs.undone s.slots b })) h

pub list_groups : (s : State) (b : Back) → is_back_of_groups b ≡ true → undone_changes s b ≡ []
unfolding undone_changes
list_groups s b h = ap (λ t. cond t [] (backs.undone_changes s.slots b)) h

pub list_meets : (s : State) (b : Back) → is_back_of_groups b ≡ false
    → undone_changes s b ≡ backs.undone_changes s.slots b
unfolding undone_changes
list_meets s b h = ap (λ t. cond t [] (backs.undone_changes s.slots b)) h

pub leads_groups : (p : Parts) (seats : List ℕ) (s : State) (b : Back) → is_back_of_groups b ≡ true → Leads p seats s b
    → LeadsBy true p seats s b
leads_groups p seats s b h l = subst (λ t. LeadsBy t p seats s b) h l

pub leads_meets : (p : Parts) (seats : List ℕ) (s : State) (b : Back) → is_back_of_groups b ≡ false → Leads p seats s b
    → LeadsBy false p seats s b
leads_meets p seats s b h l = subst (λ t. LeadsBy t p seats s b) h l

-- the record of an edit is of the edit's sort
back_of_groups : (s : Grouping) (e : Edit) → groups.is_of_groups e ≡ true
    → is_back_of_groups (groups.back_of s e) ≡ true
back_of_groups s (Attach m) h = refl
back_of_groups s (Detach m) h = refl
back_of_groups s MakeGroup h = refl
back_of_groups s (DropGroup g) h = refl
back_of_groups s (AddChild g m) h = refl
back_of_groups s (RemoveChild g m) h = refl
back_of_groups s (Assign a b) h = h
back_of_groups s (Unassign a) h = h
back_of_groups s (MoveTo a b) h = h
back_of_groups s (Split a b) h = h
back_of_groups s (Merge a b) h = h
back_of_groups s (SwapMeets a b) h = h
back_of_groups s (Give a b) h = h
back_of_groups s (Take a) h = h
back_of_groups s (Regive a b) h = h
back_of_groups s (SwapTasks a b) h = h

by_held : {A : Type 0} (f : A → Edit) (e : Edit) (o : Option A) → ((a : A) → groups.is_of_groups (f a) ≡ false)
    → groups.is_of_groups e ≡ false → is_back_of_groups (option_map_or (λ a. By (f a)) o (By e)) ≡ false
by_held f e None h k = k
by_held f e (Some a) h k = h a

back_of_meets : (s : List Slot) (e : Edit) → groups.is_of_groups e ≡ false
    → is_back_of_groups (backs.back_of s e) ≡ false
unfolding backs.back_of
back_of_meets s (Assign m t) h = refl
back_of_meets s (Unassign m) h = by_held (λ (t : TimeId). Assign m t) (Unassign m) (start_of (slot_at s m.0))
    (λ t. refl) refl
back_of_meets s (MoveTo m t) h = by_held (λ (u : TimeId). MoveTo m u) (MoveTo m t) (start_of (slot_at s m.0))
    (λ u. refl) refl
back_of_meets s (Split a b) h = refl
back_of_meets s (Merge a b) h = refl
back_of_meets s (SwapMeets a b) h = refl
back_of_meets s (Give a b) h = refl
back_of_meets s (Take t) h = by_held (λ (r : ResourceId). Give t r) (Take t) (resource_at s t) (λ r. refl) refl
back_of_meets s (Regive t r) h = by_held (λ (q : ResourceId). Regive t q) (Regive t r) (resource_at s t) (λ q. refl)
    refl
back_of_meets s (SwapTasks a b) h = refl
back_of_meets s (Attach m) h = h
back_of_meets s (Detach m) h = h
back_of_meets s MakeGroup h = h
back_of_meets s (DropGroup g) h = h
back_of_meets s (AddChild g m) h = h
back_of_meets s (RemoveChild g m) h = h

-- a child that was removed leaves a seat
seat_left : (s : Grouping) (e : Edit) (seats : List ℕ) → groups.refusal s e ≡ None → HaveRoom s.groups seats
    → groups.inserts_child (groups.back_of s e) ≡ true
    → HasSeat (groups.edited s e).groups seats (groups.inserts_to (groups.back_of s e))
seat_left s (RemoveChild g m) seats h l i =
    let k = remove_known s g m h in
    let cs = children_at s.groups g.0 in
    let at = group_is s.groups g.0 (child_in_group s.groups g.0 m.0 k.1) in
    let shorter = length-remove cs (place_of m.0 cs) (child_place cs m.0 m k.1).0 in
    let left = ap (λ x. length (listed x)) (get-set s.groups g.0 (Some (without m.0 cs))
    (slice_get_within s.groups g.0 (Some cs) at)) in
    let room = l g.0 in
    λ number. omega (arith, left, shorter, room)
seat_left s (Attach m) seats h l i = absurd (both_ways false refl i)
seat_left s (Detach m) seats h l i = absurd (both_ways false refl i)
seat_left s MakeGroup seats h l i = absurd (both_ways false refl i)
seat_left s (DropGroup g) seats h l i = absurd (both_ways false refl i)
seat_left s (AddChild g m) seats h l i = absurd (both_ways false refl i)
seat_left s (Assign a b) seats h l i = absurd (both_ways false refl i)
seat_left s (Unassign a) seats h l i = absurd (both_ways false refl i)
seat_left s (MoveTo a b) seats h l i = absurd (both_ways false refl i)
seat_left s (Split a b) seats h l i = absurd (both_ways false refl i)
seat_left s (Merge a b) seats h l i = absurd (both_ways false refl i)
seat_left s (SwapMeets a b) seats h l i = absurd (both_ways false refl i)
seat_left s (Give a b) seats h l i = absurd (both_ways false refl i)
seat_left s (Take a) seats h l i = absurd (both_ways false refl i)
seat_left s (Regive a b) seats h l i = absurd (both_ways false refl i)
seat_left s (SwapTasks a b) seats h l i = absurd (both_ways false refl i)

-- an edit of each sort is recorded
pub recorded_groups : (p : Parts) (seats : List ℕ) (s s2 : State) (e : Edit) (b : Back) (since since2 : List (List Back))
    → groups.is_of_groups e ≡ true → groups.refusal s.grouping e ≡ None
    → b ≡ groups.back_of s.grouping e → groups.CanUndo (groups.edited s.grouping e) b
    → groups.undone (groups.edited s.grouping e) b ≡ s.grouping
    → HaveRoom s.grouping.groups seats → s2 ≡ record s { grouping = groups.edited s.grouping e }
    → since2 ≡ with_record b since → IsRecorded p seats (changes s e) s s2 since since2
recorded_groups p seats s s2 e b since since2 o h r l u n t k =
    let a : State = record s { grouping = groups.edited s.grouping e } in
    let sort : is_back_of_groups b ≡ true = ap is_back_of_groups r ∙ back_of_groups s.grouping e o in
    record {
      back = b;
      kept = k;
      leads = subst (λ x. Leads p seats x b) (sym t)
          (subst (λ x. LeadsBy x p seats a b) (sym sort) (
            l,
            λ i. subst (λ x. HasSeat a.grouping.groups seats (groups.inserts_to x)) (sym r)
                (seat_left s.grouping e seats h n (ap groups.inserts_child (sym r) ∙ i)),
          ));
      before = ap (λ x. undone x b) t ∙ undone_groups a b sort ∙ (λ i. record s { grouping = u i });
      list = list_groups s2 b sort ∙ sym (changes_groups s e o);
    }

pub recorded_meets : (p : Parts) (seats : List ℕ) (s s2 : State) (e : Edit) (b : Back) (since since2 : List (List Back))
    → groups.is_of_groups e ≡ false
    → b ≡ backs.back_of s.slots e → backs.LeadsBack p (editing.edited s.slots e) b
    → backs.undone (editing.edited s.slots e) b ≡ s.slots
    → backs.undone_changes (editing.edited s.slots e) b ≡ changing.changes s.slots e
    → s2 ≡ record s { slots = editing.edited s.slots e } → since2 ≡ with_record b since
    → IsRecorded p seats (changes s e) s s2 since since2
recorded_meets p seats s s2 e b since since2 o r l u c t k =
    let a : State = record s { slots = editing.edited s.slots e } in
    let sort : is_back_of_groups b ≡ false = ap is_back_of_groups r ∙ back_of_meets s.slots e o in
    record {
      back = b;
      kept = k;
      leads = subst (λ x. Leads p seats x b) (sym t) (subst (λ x. LeadsBy x p seats a b) (sym sort) l);
      before = ap (λ x. undone x b) t ∙ undone_meets a b sort ∙ (λ i. record s { slots = u i });
      list = ap (λ x. undone_changes x b) t ∙ list_meets a b sort ∙ c ∙ sym (changes_meets s e o);
    }
