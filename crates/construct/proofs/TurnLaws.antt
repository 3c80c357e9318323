-- Meets and tasks that have their turn one after the other.
use Rattle.std.proofs.Common.{ℕ, zero, suc, ◌≡◌, ◌+◌, ◌-◌, ◌<◌, ◌≤◌, true, false, Option, Some, None, List, [], ◌∷◌, ◌++◌}
use Rattle.std.proofs.Common.{length, map, drop, drop-cons, get_or, add-one, refl, sym, ap, ◌∙◌, arith, subst}
use Rattle.std.specs.Prelude.{All}
use Rattle.std.specs.List.{flat_map, fold, range_with_len}
use Rattle.std.specs.Option.{option_map_or}
use Rattle.std.proofs.lemmas.Bool.{both_ways}
use Rattle.std.proofs.lemmas.List.{length-map, length-replicate}
use Rattle.std.proofs.lemmas.List.Concat.{flat_map-cons}
use Rattle.std.proofs.lemmas.List.Sums.{fold-append}
use Rattle.construct.specs.Choices.{IsMove, assigns, gives, lowered, lowering}
use Rattle.construct.specs.Constructed.{constructed, staffed, timed}
use Rattle.construct.specs.Orders.{order, tasks_of}
use Rattle.khe_base.specs.declared.numbers.TaskId.{TaskId}
use Rattle.khe_engine.proofs.StateLaws.{one_sort, refusal_meets}
use Rattle.khe_engine.specs.States.{State, edited, refusal}
use Rattle.khe_engine.specs.Worlds.{Saved, World, grown}
use Rattle.khe_instance.specs.Slots.{slot_tasks}
use Rattle.khe_instance.specs.declared.parts.Parts.{Parts}
use Rattle.khe_told.specs.Changes.{after}
use Rattle.khe_told.specs.Fits.{AreTold}
use Rattle.khe_told.specs.Slots.{emptied, no_meets, no_slot, slot_at}
use Rattle.khe_told.specs.declared.changes.Change.{Change}
use Rattle.khe_told.specs.declared.edits.Edit.{Edit}
use Rattle.khe_told.specs.declared.edits.Edit.TheVariants.{Assign, Unassign, MoveTo, Split, Merge, SwapMeets, Give}
use Rattle.khe_told.specs.declared.edits.Edit.TheVariants.{Take, Regive, SwapTasks, Attach, Detach, MakeGroup}
use Rattle.khe_told.specs.declared.edits.Edit.TheVariants.{DropGroup, AddChild, RemoveChild}
use Rattle.khe_told.specs.declared.slots.Slot.{Slot}
use Rattle.khe_solution.specs.Refusing as refusing
use Rattle.monitor_graph.specs.Edits.{adds_child}

-- the engine accepts a move, which adds no child
pub move_accepted : (p : Parts) (s : State) (e : Edit) → IsMove p s e → refusal p s e ≡ None
move_accepted p s e h = refusal_meets p s e (one_sort e h.ours) ∙ h.accepted

no_child : (e : Edit) → refusing.is_of_meets e ≡ true → adds_child e ≡ false
no_child (AddChild g m) h = absurd (both_ways false refl h)
no_child (Attach m) h = refl
no_child (Detach m) h = refl
no_child MakeGroup h = refl
no_child (DropGroup g) h = refl
no_child (RemoveChild g m) h = refl
no_child (Assign a b) h = refl
no_child (Unassign a) h = refl
no_child (MoveTo a b) h = refl
no_child (Split a b) h = refl
no_child (Merge a b) h = refl
no_child (SwapMeets a b) h = refl
no_child (Give a b) h = refl
no_child (Take a) h = refl
no_child (Regive a b) h = refl
no_child (SwapTasks a b) h = refl

pub move_childless : (p : Parts) (s : State) (e : Edit) → IsMove p s e → adds_child e ≡ false
move_childless p s e h = no_child e h.ours

-- no mark is open after it
pub none_saved : (cs : List Change) (old new : List Saved) → old ≡ [] → new ≡ grown cs old → new ≡ []
none_saved cs old new none e = e ∙ ap (grown cs) none

-- what an edit that is made, or none, leaves
pub made_is : (p : Parts) (s u : State) (es : List Edit) (o : Option Edit) → o ≡ lowering p s es
    → u ≡ option_map_or (edited s) o s → u ≡ lowered p s es
unfolding lowered
made_is p s u es o e h = h ∙ ap (λ x. option_map_or (edited s) x s) e

-- an edit is found and made on an engine
pub turn : (p : Parts) (w v : World) (f : Parts → List Edit) (o : Option Edit) (u : State) → w.parts ≡ p → v ≡ w
    → o ≡ lowering w.parts w.state (f w.parts) → u ≡ option_map_or (edited v.state) o v.state
    → u ≡ lowered p w.state (f p)
turn p w v f o u parts same found e =
    made_is p w.state u (f p) o (found ∙ ap (λ r. lowering r w.state (f r)) parts)
    (e ∙ ap (λ (x : World). option_map_or (edited x.state) o x.state) same)

-- one more meet
drop_at : (ms : List ℕ) (k : ℕ) → k < length ms → drop k ms ≡ get_or ms k 0 ∷ drop (k + 1) ms
drop_at ms k l = drop-cons ms k 0 l ∙ ap (λ j. get_or ms k 0 ∷ drop j ms) (sym (add-one k))

pub timed_next : (p : Parts) (s u whole : State) (ms : List ℕ) (k : ℕ) → k < length ms
    → timed p s (drop k ms) ≡ whole → u ≡ lowered p s (assigns p (get_or ms k 0))
    → timed p u (drop (k + 1) ms) ≡ whole
unfolding timed
timed_next p s u whole ms k l w e =
    let step : State → ℕ → State = λ x n. lowered p x (assigns p n) in
    ap (λ v. fold step v (drop (k + 1) ms)) e ∙ ap (fold step s) (sym (drop_at ms k l)) ∙ w

pub timed_end : (p : Parts) (s whole : State) (ms : List ℕ) (k : ℕ) → length ms ≤ k → timed p s (drop k ms) ≡ whole
    → s ≡ whole
unfolding timed
timed_end p s whole ms k l w =
    ap (fold (λ (x : State) (n : ℕ). lowered p x (assigns p n)) s) (sym (drop_past ms k l)) ∙ w
  where
    drop_past : (xs : List ℕ) (n : ℕ) → length xs ≤ n → drop n xs ≡ []
    drop_past [] zero l = refl
    drop_past [] (suc n) l = refl
    drop_past (x ∷ xs) zero l = absurd (omega (arith, l))
    drop_past (x ∷ xs) (suc n) l = drop_past xs n (omega (arith, l))

-- one more task of a meet
abbrev pub task_in : ℕ → ℕ → TaskId
task_in m k = record { meet = record { 0 = m }; place = k }

abbrev pub tasks_on : ℕ → ℕ → ℕ → List TaskId
tasks_on m k n = map (task_in m) (range_with_len k (n - k))

pub tasks_start : (m n : ℕ) → tasks_on m 0 n ≡ slot_tasks m n
tasks_start m n =
    let z : n - 0 ≡ n = omega arith in
    ap (λ j. map (task_in m) (range_with_len 0 j)) z

pub staffed_next : (p : Parts) (s u whole : State) (m k n : ℕ) → k < n → staffed p s (tasks_on m k n) ≡ whole
    → u ≡ lowered p s (gives p (task_in m k)) → staffed p u (tasks_on m (k + 1) n) ≡ whole
unfolding staffed
staffed_next p s u whole m k n l w e =
    let step : State → TaskId → State = λ x t. lowered p x (gives p t) in
    let z : n - k ≡ suc (n - (k + 1)) = omega arith in
    ap (λ v. fold step v (tasks_on m (k + 1) n)) e
    ∙ ap (λ j. fold step s (map (task_in m) (range_with_len k j))) (sym z) ∙ w

pub staffed_end : (p : Parts) (s whole : State) (m k n : ℕ) → n ≤ k → staffed p s (tasks_on m k n) ≡ whole → s ≡ whole
unfolding staffed
staffed_end p s whole m k n l w =
    let step : State → TaskId → State = λ x t. lowered p x (gives p t) in
    let z : n - k ≡ 0 = omega arith in
    ap (λ j. fold step s (map (task_in m) (range_with_len k j))) (sym z) ∙ w

-- all tasks of one more meet; the slots have the places that they had
pub meet_next : (p : Parts) (slots : List Slot) (s u whole : State) (ms : List ℕ) (k : ℕ) → k < length ms
    → length (slot_at s.slots (get_or ms k 0)).given ≡ length (slot_at slots (get_or ms k 0)).given
    → staffed p s (tasks_of slots (drop k ms)) ≡ whole
    → u ≡ staffed p s (slot_tasks (get_or ms k 0) (length (slot_at s.slots (get_or ms k 0)).given))
    → staffed p u (tasks_of slots (drop (k + 1) ms)) ≡ whole
unfolding staffed tasks_of
meet_next p slots s u whole ms k l places w e =
    let m = get_or ms k 0 in
    let step : State → TaskId → State = λ x t. lowered p x (gives p t) in
    let own : ℕ → List TaskId = λ j. slot_tasks j (length (slot_at slots j).given) in
    let rest = flat_map own (drop (k + 1) ms) in
    ap (λ v. fold step v rest) (e ∙ ap (λ j. fold step s (slot_tasks m j)) places)
    ∙ sym (fold-append step s (own m) rest)
    ∙ ap (fold step s) (sym (flat_map-cons own m (drop (k + 1) ms)))
    ∙ ap (λ xs. fold step s (flat_map own xs)) (sym (drop_at ms k l)) ∙ w

pub meets_end : (p : Parts) (slots : List Slot) (s whole : State) (ms : List ℕ) (k : ℕ) → length ms ≤ k
    → staffed p s (tasks_of slots (drop k ms)) ≡ whole → s ≡ whole
unfolding staffed tasks_of
meets_end p slots s whole ms k l w =
    let step : State → TaskId → State = λ x t. lowered p x (gives p t) in
    let own : ℕ → List TaskId = λ j. slot_tasks j (length (slot_at slots j).given) in
    ap (λ xs. fold step s (flat_map own xs)) (sym (drop_past ms k l)) ∙ w
  where
    drop_past : (xs : List ℕ) (n : ℕ) → length xs ≤ n → drop n xs ≡ []
    drop_past [] zero l = refl
    drop_past [] (suc n) l = refl
    drop_past (x ∷ xs) zero l = absurd (omega (arith, l))
    drop_past (x ∷ xs) (suc n) l = drop_past xs n (omega (arith, l))

-- slots of one instance have the same places
given_in : (x : Slot) → length (emptied x).given ≡ length x.given
given_in x = length-replicate (length x.given) None

slot_in : (s : List Slot) (m : ℕ) → length (slot_at (map emptied s) m).given ≡ length (slot_at s m).given
slot_in [] m = refl
slot_in (x ∷ s) zero = given_in x
slot_in (x ∷ s) (suc m) = slot_in s m

pub same_places : (p : Parts) (s u : List Slot) (m : ℕ) → AreTold p s → AreTold p u
    → length (slot_at s m).given ≡ length (slot_at u m).given
same_places p s u m a b =
    sym (slot_in s m) ∙ ap (λ t. length (slot_at t m).given) (a.whose ∙ sym b.whose) ∙ slot_in u m

pub same_many : (p : Parts) (s u : List Slot) → AreTold p s → AreTold p u → length s ≡ length u
same_many p s u a b = sym (length-map s emptied) ∙ ap length (a.whose ∙ sym b.whose) ∙ length-map u emptied

-- all of it
tasks_same : (s u : List Slot) (ms : List ℕ) → ((m : ℕ) → length (slot_at s m).given ≡ length (slot_at u m).given)
    → tasks_of s ms ≡ tasks_of u ms
unfolding tasks_of
tasks_same s u ms h = λ i. flat_map (λ m. slot_tasks m (h m i)) ms

pub all_done : (p : Parts) (s t u : State) (ms : List ℕ) → ms ≡ order s.slots → t ≡ timed p s ms
    → ((m : ℕ) → length (slot_at t.slots m).given ≡ length (slot_at s.slots m).given)
    → u ≡ staffed p t (tasks_of t.slots ms) → u ≡ constructed p s
unfolding constructed
all_done p s t u ms e f same g =
    g ∙ (λ i. staffed p (f i) (tasks_same t.slots s.slots ms same i))
    ∙ (λ i. staffed p (timed p s (e i)) (tasks_of s.slots (e i)))
