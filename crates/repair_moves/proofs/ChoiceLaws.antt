-- What the table of edits asks of each choice of a part.
use Rattle.std.proofs.Common.{ℕ, ◌≡◌, ◌+◌, ◌<◌, ◌≤◌, Bool, true, false, not, cond, Option, Some, None, List, [], ◌∷◌}
use Rattle.std.proofs.Common.{length, slice_get, refl, sym, ap, ◌∙◌, subst, arith}
use Rattle.std.specs.Prelude.{is_none, is_some, ◌==◌}
use Rattle.std.specs.Option.{option_map_or}
use Rattle.std.proofs.lemmas.Bool.{ltb-false, leb-false, le-ltb, lt-leb}
use Rattle.std.proofs.lemmas.Bool.Decides.{nat_tests}
use Rattle.std.proofs.lemmas.Option.{same_Some, slice_get_within}
use Rattle.khe_base.specs.declared.numbers.EventId.{EventId}
use Rattle.khe_base.specs.declared.numbers.ResourceId.{ResourceId}
use Rattle.khe_base.specs.declared.numbers.TaskId.{TaskId}
use Rattle.khe_base.specs.declared.numbers.TimeId.{TimeId}
use Rattle.khe_instance.specs.Lookups.{place_at}
use Rattle.khe_instance.specs.Slots.{HasSlot}
use Rattle.khe_instance.specs.WellMade.{AreWellMade}
use Rattle.khe_instance.specs.declared.parts.EventInfo.{EventInfo}
use Rattle.khe_instance.specs.declared.parts.Parts.{Parts}
use Rattle.khe_instance.specs.declared.points.Point.{Point}
use Rattle.khe_told.specs.Fits.{AreTold}
use Rattle.khe_told.specs.Slots.{is_live, length_of, slot_at, start_of, given_at}
use Rattle.khe_told.specs.declared.edits.Edit.{Edit}
use Rattle.khe_told.specs.declared.edits.Edit.TheVariants.{Assign, MoveTo, Split, Merge, SwapMeets, Give, Regive}
use Rattle.khe_told.specs.declared.edits.Edit.TheVariants.{SwapTasks}
use Rattle.khe_told.specs.declared.refusals.Refusal.{Refusal}
use Rattle.khe_told.specs.declared.slots.Slot.{Slot}
use Rattle.khe_solution.specs.Reading.{has_place, has_type, is_fixed_event, is_fixed_place, is_placed, is_time}
use Rattle.khe_solution.specs.Reading.{may_have, resource_at}
use Rattle.khe_solution.specs.Refusing.{assign_row, first_refusal, give_row, merge_row, move_row, refusal, regive_row}
use Rattle.khe_solution.specs.Refusing.{split_row, swap_meets_row, swap_tasks_row}
use Rattle.khe_solution.proofs.Basics.{AllPass, no_value, not-false, not_none, passed, true-false}
use Rattle.repair_moves.specs.Items.{is_live_at, task_at}
use Rattle.repair_moves.specs.Moves.{choices, edit_of, is_accepted, is_choice, resource_of, task_move}
use Rattle.repair_moves.specs.declared.parts.Part.TheVariants.{TimeMoves, SwapMoves, Cuts, Joins, TaskMoves, TradeMoves}
use Rattle.repair_moves.specs.declared.parts.Part.TheVariants.{Gives}
use Rattle.repair_moves.proofs.PickedLaws.{false_unless}
use Rattle.repair_moves.proofs.SlotLaws.{live_event}
use Rattle.repair_moves.proofs.TaskLaws.{place_there}

pub none_is : {A : Type 0} (o : Option A) → is_none o ≡ true → o ≡ None
none_is None h = refl
none_is (Some a) h = absurd (true-false (sym h))

-- an accepted edit is not refused
pub accepted_is : (p : Parts) (s : List Slot) (e : Edit) → is_accepted p s e ≡ true → refusal p s e ≡ None
unfolding is_accepted
accepted_is p s e h = none_is (refusal p s e) h

-- a row of which no test holds
pub passing : (row : List (Bool × Refusal)) → AllPass row → is_none (first_refusal row) ≡ true
passing [] a = refl
passing ((test, r) ∷ rest) a = ap (λ b. is_none (cond b (Some r) (first_refusal rest))) a.0 ∙ passing rest a.1

pub yes : (b : Bool) → b ≡ true → not b ≡ false
yes b h = ap not h

-- a time move
pub record IsTimeMove (p : Parts) (s : List Slot) (n k : ℕ) : Type 0 where
  pub live : is_live (slot_at s n) ≡ true
  pub free : is_fixed_event p (slot_at s n).event.0 ≡ false
  pub within : k < length p.times
  pub other : is_time k (start_of (slot_at s n)) ≡ false
  pub ends : k + length_of (slot_at s n) ≤ length p.times

pub time_move_is : (p : Parts) (s : List Slot) (point : Point) (n k : ℕ) → is_choice p s point TimeMoves n k ≡ true
    → IsTimeMove p s n k
unfolding is_accepted edit_of refusal
time_move_is p s point n k h = by_placed (is_placed (slot_at s n)) refl h
  where
    by_placed : (b : Bool) → is_placed (slot_at s n) ≡ b
        → is_accepted p s (cond b (MoveTo (record { 0 = n }) (record { 0 = k }))
        (Assign (record { 0 = n }) (record { 0 = k }))) ≡ true → IsTimeMove p s n k
    by_placed true e h =
        let a = passed (move_row p s (record { 0 = n }) (record { 0 = k }))
        (none_is (refusal p s (MoveTo (record { 0 = n }) (record { 0 = k }))) h) in
        record {
          live = not-false _ a.0;
          free = a.1.1.0;
          within = leb-false _ _ a.1.0;
          other = a.1.1.1.1.0;
          ends = ltb-false _ _ a.1.1.1.1.1.0;
        }
    by_placed false e h =
        let a = passed (assign_row p s (record { 0 = n }) (record { 0 = k }))
        (none_is (refusal p s (Assign (record { 0 = n }) (record { 0 = k }))) h) in
        record {
          live = not-false _ a.0;
          free = a.1.1.0;
          within = leb-false _ _ a.1.0;
          other = ap (λ (o : Option TimeId). option_map_or (λ (x : TimeId). x.0 == k) o false)
              (no_value (start_of (slot_at s n)) e);
          ends = ltb-false _ _ a.1.1.1.1.0;
        }

pub time_move_may : (p : Parts) (s : List Slot) (point : Point) (n k : ℕ) → IsTimeMove p s n k
    → is_choice p s point TimeMoves n k ≡ true
unfolding is_accepted edit_of refusal
time_move_may p s point n k h = by_placed (is_placed (slot_at s n)) refl
  where
    by_placed : (b : Bool) → is_placed (slot_at s n) ≡ b
        → is_accepted p s (cond b (MoveTo (record { 0 = n }) (record { 0 = k }))
        (Assign (record { 0 = n }) (record { 0 = k }))) ≡ true
    by_placed true e =
        passing (move_row p s (record { 0 = n }) (record { 0 = k }))
        (yes _ h.live, (lt-leb _ _ h.within, (h.free, (yes _ e, (h.other, (le-ltb _ _ h.ends, tt))))))
    by_placed false e =
        passing (assign_row p s (record { 0 = n }) (record { 0 = k }))
        (yes _ h.live, (lt-leb _ _ h.within, (h.free, (e, (le-ltb _ _ h.ends, tt)))))

-- a swap
pub record IsSwapMove (p : Parts) (s : List Slot) (n k : ℕ) : Type 0 where
  pub live : is_live (slot_at s n) ≡ true
  pub free : is_fixed_event p (slot_at s n).event.0 ≡ false
  pub placed : is_placed (slot_at s n) ≡ true
  pub other : is_live (slot_at s k) ≡ true

pub swap_move_is : (p : Parts) (s : List Slot) (point : Point) (n k : ℕ) → is_choice p s point SwapMoves n k ≡ true
    → IsSwapMove p s n k
unfolding is_accepted edit_of refusal
swap_move_is p s point n k h =
    let a = passed (swap_meets_row p s (record { 0 = n }) (record { 0 = k }))
    (none_is (refusal p s (SwapMeets (record { 0 = n }) (record { 0 = k }))) h) in
    record { live = not-false _ a.0; free = a.1.1.0; placed = not-false _ a.1.1.1.1.0; other = not-false _ a.1.0 }

-- a cut
pub record IsCut (p : Parts) (s : List Slot) (n k : ℕ) : Type 0 where
  pub live : is_live (slot_at s n) ≡ true
  pub free : is_fixed_event p (slot_at s n).event.0 ≡ false
  pub shorter : k + 1 < length_of (slot_at s n)

pub cut_is : (p : Parts) (s : List Slot) (point : Point) (n k : ℕ) → is_choice p s point Cuts n k ≡ true → IsCut p s n k
unfolding is_accepted edit_of refusal
cut_is p s point n k h =
    let a = passed (split_row p s (record { 0 = n }) (k + 1))
    (none_is (refusal p s (Split (record { 0 = n }) (k + 1))) h) in
    record { live = not-false _ a.0; free = a.1.0; shorter = leb-false _ _ a.1.1.1.0 }

above_zero : (k : ℕ) → (k + 1 == 0) ≡ false
above_zero k = grind (arith, nat_tests)

pub cut_may : (p : Parts) (s : List Slot) (point : Point) (n k : ℕ) → IsCut p s n k
    → is_choice p s point Cuts n k ≡ true
unfolding is_accepted edit_of refusal
cut_may p s point n k h =
    passing (split_row p s (record { 0 = n }) (k + 1))
    (yes _ h.live, (h.free, (above_zero k, (lt-leb _ _ h.shorter, tt))))

-- a join: the other meet is of the same event
pub join_is : (p : Parts) (s : List Slot) (point : Point) (n k : ℕ) → AreWellMade p → AreTold p s
    → is_choice p s point Joins n k ≡ true
    → (is_live (slot_at s n) ≡ true) × HasSlot p.events (slot_at s n).event.0 k
unfolding is_accepted edit_of refusal
join_is p s point n k made told h =
    let a = passed (merge_row s (record { 0 = n }) (record { 0 = k }))
    (none_is (refusal p s (Merge (record { 0 = n }) (record { 0 = k }))) h) in
    let e : (slot_at s n).event.0 ≡ (slot_at s k).event.0 = same _ _ (not-false _ a.1.1.1.0) in
    (not-false _ a.0, subst (λ j. HasSlot p.events j k) (sym e) (live_event p s k made told (not-false _ a.1.0)))
  where
    same : (a b : ℕ) → (a == b) ≡ true → a ≡ b
    same a b h = let e : a ≡ b = grind (arith, nat_tests) in e

-- a task move
pub record IsTaskMove (p : Parts) (s : List Slot) (t : TaskId) (k : ℕ) : Type 0 where
  pub there : has_place (slot_at s t.meet.0) t.place ≡ true
  pub free : is_fixed_place p (slot_at s t.meet.0).event.0 t.place ≡ false
  pub typed : has_type p k (place_at p.events (slot_at s t.meet.0).event.0 t.place) ≡ true

pub task_move_is : (p : Parts) (s : List Slot) (point : Point) (n k : ℕ) → is_choice p s point TaskMoves n k ≡ true
    → IsTaskMove p s (task_at p n) k
unfolding is_accepted edit_of refusal
task_move_is p s point n k h = by_given (is_some (resource_at s (task_at p n))) h
  where
    by_given : (b : Bool) → is_accepted p s (cond b (Regive (task_at p n) (record { 0 = k }))
        (Give (task_at p n) (record { 0 = k }))) ≡ true → IsTaskMove p s (task_at p n) k
    by_given true h =
        let a = passed (regive_row p s (task_at p n) (record { 0 = k }))
        (none_is (refusal p s (Regive (task_at p n) (record { 0 = k }))) h) in
        record { there = not-false _ a.0; free = a.1.1.0; typed = not-false _ a.1.1.1.1.1.0 }
    by_given false h =
        let a = passed (give_row p s (task_at p n) (record { 0 = k }))
        (none_is (refusal p s (Give (task_at p n) (record { 0 = k }))) h) in
        record { there = not-false _ a.0; free = a.1.1.0; typed = not-false _ a.1.1.1.1.0 }

-- a trade
pub record IsTradeMove (p : Parts) (s : List Slot) (t : TaskId) : Type 0 where
  pub there : has_place (slot_at s t.meet.0) t.place ≡ true
  pub free : is_fixed_place p (slot_at s t.meet.0).event.0 t.place ≡ false
  pub given : is_none (given_at (slot_at s t.meet.0) t.place) ≡ false

pub trade_move_is : (p : Parts) (s : List Slot) (point : Point) (n k : ℕ) → is_choice p s point TradeMoves n k ≡ true
    → IsTradeMove p s (task_at p n)
unfolding is_accepted edit_of refusal
trade_move_is p s point n k h =
    let a = passed (swap_tasks_row p s (task_at p n) (task_at p k))
    (none_is (refusal p s (SwapTasks (task_at p n) (task_at p k))) h) in
    record { there = not-false _ a.0; free = a.1.1.0; given = a.1.1.1.1.0 }

trade_other : (p : Parts) (s : List Slot) (point : Point) (n k : ℕ) → is_choice p s point TradeMoves n k ≡ true
    → has_place (slot_at s (task_at p k).meet.0) (task_at p k).place ≡ true
unfolding is_accepted edit_of refusal
trade_other p s point n k h =
    let a = passed (swap_tasks_row p s (task_at p n) (task_at p k))
    (none_is (refusal p s (SwapTasks (task_at p n) (task_at p k))) h) in
    not-false _ a.1.0

-- a task can only be given what another has where that has the type of its place
trade_first : (p : Parts) (s : List Slot) (point : Point) (n k : ℕ) → is_choice p s point TradeMoves n k ≡ true
    → (r : ResourceId) × (has_type p r.0 (place_at p.events (slot_at s (task_at p n).meet.0).event.0
    (task_at p n).place) ≡ true)
unfolding is_accepted edit_of refusal
trade_first p s point n k h =
    let a = passed (swap_tasks_row p s (task_at p n) (task_at p k))
    (none_is (refusal p s (SwapTasks (task_at p n) (task_at p k))) h) in
    let given = not_none (given_at (slot_at s (task_at p k).meet.0) (task_at p k).place) a.1.1.1.1.1.0 in
    let here = place_at p.events (slot_at s (task_at p n).meet.0).event.0 (task_at p n).place in (
      given.0,
      ap (λ o. may_have p o here) (sym given.1) ∙ not-false _ a.1.1.1.1.1.1.1.1.0,
    )

pub trade_typed : (p : Parts) (s : List Slot) (point : Point) (n k : ℕ)
    → ((r : ℕ) → has_type p r (place_at p.events (slot_at s (task_at p n).meet.0).event.0 (task_at p n).place) ≡ false)
    → is_choice p s point TradeMoves n k ≡ false
trade_typed p s point n k h = false_unless _ (λ t.
    (let first = trade_first p s point n k t in true-false (sym first.1 ∙ h first.0.0)))

-- why a choice is no move
pub time_dead : (p : Parts) (s : List Slot) (point : Point) (n k : ℕ) → is_live (slot_at s n) ≡ false
    → is_choice p s point TimeMoves n k ≡ false
time_dead p s point n k h = false_unless _ (λ t. true-false (sym (time_move_is p s point n k t).live ∙ h))

pub time_fixed : (p : Parts) (s : List Slot) (point : Point) (n k : ℕ) → is_fixed_event p (slot_at s n).event.0 ≡ true
    → is_choice p s point TimeMoves n k ≡ false
time_fixed p s point n k h = false_unless _ (λ t. true-false (sym h ∙ (time_move_is p s point n k t).free))

pub time_start : (p : Parts) (s : List Slot) (point : Point) (n k : ℕ) → is_time k (start_of (slot_at s n)) ≡ true
    → is_choice p s point TimeMoves n k ≡ false
time_start p s point n k h = false_unless _ (λ t. true-false (sym h ∙ (time_move_is p s point n k t).other))

pub swap_dead : (p : Parts) (s : List Slot) (point : Point) (n k : ℕ) → is_live (slot_at s n) ≡ false
    → is_choice p s point SwapMoves n k ≡ false
swap_dead p s point n k h = false_unless _ (λ t. true-false (sym (swap_move_is p s point n k t).live ∙ h))

pub swap_apart : (p : Parts) (s : List Slot) (point : Point) (n k : ℕ) → is_live (slot_at s k) ≡ false
    → is_choice p s point SwapMoves n k ≡ false
swap_apart p s point n k h = false_unless _ (λ t. true-false (sym (swap_move_is p s point n k t).other ∙ h))

pub swap_fixed : (p : Parts) (s : List Slot) (point : Point) (n k : ℕ) → is_fixed_event p (slot_at s n).event.0 ≡ true
    → is_choice p s point SwapMoves n k ≡ false
swap_fixed p s point n k h = false_unless _ (λ t. true-false (sym h ∙ (swap_move_is p s point n k t).free))

pub swap_unplaced : (p : Parts) (s : List Slot) (point : Point) (n k : ℕ) → is_placed (slot_at s n) ≡ false
    → is_choice p s point SwapMoves n k ≡ false
swap_unplaced p s point n k h = false_unless _ (λ t. true-false (sym (swap_move_is p s point n k t).placed ∙ h))

pub cut_dead : (p : Parts) (s : List Slot) (point : Point) (n k : ℕ) → is_live (slot_at s n) ≡ false
    → is_choice p s point Cuts n k ≡ false
cut_dead p s point n k h = false_unless _ (λ t. true-false (sym (cut_is p s point n k t).live ∙ h))

pub cut_fixed : (p : Parts) (s : List Slot) (point : Point) (n k : ℕ) → is_fixed_event p (slot_at s n).event.0 ≡ true
    → is_choice p s point Cuts n k ≡ false
cut_fixed p s point n k h = false_unless _ (λ t. true-false (sym h ∙ (cut_is p s point n k t).free))

pub resource_fixed : (p : Parts) (s : List Slot) (point : Point) (n k : ℕ)
    → is_fixed_place p (slot_at s (task_at p n).meet.0).event.0 (task_at p n).place ≡ true
    → is_choice p s point TaskMoves n k ≡ false
resource_fixed p s point n k h = false_unless _ (λ t. true-false (sym h ∙ (task_move_is p s point n k t).free))

pub resource_typed : (p : Parts) (s : List Slot) (point : Point) (n k : ℕ)
    → has_type p k (place_at p.events (slot_at s (task_at p n).meet.0).event.0 (task_at p n).place) ≡ false
    → is_choice p s point TaskMoves n k ≡ false
resource_typed p s point n k h = false_unless _ (λ t. true-false (sym (task_move_is p s point n k t).typed ∙ h))

pub trade_fixed : (p : Parts) (s : List Slot) (point : Point) (n k : ℕ)
    → is_fixed_place p (slot_at s (task_at p n).meet.0).event.0 (task_at p n).place ≡ true
    → is_choice p s point TradeMoves n k ≡ false
trade_fixed p s point n k h = false_unless _ (λ t. true-false (sym h ∙ (trade_move_is p s point n k t).free))

pub trade_bare : (p : Parts) (s : List Slot) (point : Point) (n k : ℕ)
    → is_none (given_at (slot_at s (task_at p n).meet.0) (task_at p n).place) ≡ true
    → is_choice p s point TradeMoves n k ≡ false
trade_bare p s point n k h = false_unless _ (λ t. true-false (sym h ∙ (trade_move_is p s point n k t).given))

pub time_late : (p : Parts) (s : List Slot) (point : Point) (n k : ℕ) → length p.times < k + length_of (slot_at s n)
    → is_choice p s point TimeMoves n k ≡ false
time_late p s point n k l = false_unless _ (λ t. let e = (time_move_is p s point n k t).ends in omega (arith, e, l))

pub cut_long : (p : Parts) (s : List Slot) (point : Point) (n k : ℕ) → length_of (slot_at s n) ≤ k + 1
    → is_choice p s point Cuts n k ≡ false
cut_long p s point n k l = false_unless _ (λ t. let e = (cut_is p s point n k t).shorter in omega (arith, e, l))

pub join_dead : (p : Parts) (s : List Slot) (point : Point) (n k : ℕ) → AreWellMade p → AreTold p s
    → is_live (slot_at s n) ≡ false → is_choice p s point Joins n k ≡ false
join_dead p s point n k made told h = false_unless _ (λ t. true-false (sym (join_is p s point n k made told t).0 ∙ h))

join_second : (p : Parts) (s : List Slot) (point : Point) (n k : ℕ) → is_choice p s point Joins n k ≡ true
    → is_live (slot_at s k) ≡ true
unfolding is_accepted edit_of refusal
join_second p s point n k h =
    let a = passed (merge_row s (record { 0 = n }) (record { 0 = k }))
    (none_is (refusal p s (Merge (record { 0 = n }) (record { 0 = k }))) h) in
    not-false _ a.1.0

pub join_apart : (p : Parts) (s : List Slot) (point : Point) (n k : ℕ) → is_live (slot_at s k) ≡ false
    → is_choice p s point Joins n k ≡ false
join_apart p s point n k h = false_unless _ (λ t. true-false (sym (join_second p s point n k t) ∙ h))

-- a meet of another event is none to be joined
pub join_outside : (p : Parts) (s : List Slot) (point : Point) (n k : ℕ) (event : EventInfo) → AreWellMade p
    → AreTold p s → slice_get p.events (slot_at s n).event.0 ≡ Some event
    → (event.first_meet ≤ k → k < event.first_meet + event.duration → ⊥) → is_choice p s point Joins n k ≡ false
join_outside p s point n k event made told at out = false_unless _ (λ t.
    (let has = (join_is p s point n k made told t).1 in
    let same : has.0 ≡ event = same_Some has.0 event (sym has.1 ∙ at) in
    let a = ap (λ (x : EventInfo). x.first_meet) same in
    let b = ap (λ (x : EventInfo). x.duration) same in
    let from = has.2 in
    let to = has.3 in
    out (omega (arith, a, from)) (omega (arith, a, b, to))))

-- a task that is not there is given nothing
pub place_dead : (p : Parts) (s : List Slot) (point : Point) (n k : ℕ)
    → is_live (slot_at s (task_at p n).meet.0) ≡ false → is_choice p s point TaskMoves n k ≡ false
place_dead p s point n k h = false_unless _ (λ t. true-false
    (sym (place_there (slot_at s (task_at p n).meet.0) (task_at p n).place (task_move_is p s point n k t).there).0 ∙ h))

pub trade_dead : (p : Parts) (s : List Slot) (point : Point) (n k : ℕ)
    → is_live (slot_at s (task_at p n).meet.0) ≡ false → is_choice p s point TradeMoves n k ≡ false
trade_dead p s point n k h = false_unless _ (λ t. true-false
    (sym (place_there (slot_at s (task_at p n).meet.0) (task_at p n).place (trade_move_is p s point n k t).there).0
    ∙ h))

pub trade_apart : (p : Parts) (s : List Slot) (point : Point) (n k : ℕ) → is_live_at p s k ≡ false
    → is_choice p s point TradeMoves n k ≡ false
unfolding is_live_at
trade_apart p s point n k h = false_unless _ (λ t. true-false
    (sym (place_there (slot_at s (task_at p k).meet.0) (task_at p k).place (trade_other p s point n k t)).0 ∙ h))

pub none_unless : {A : Type 0} (o : Option A) → is_some o ≡ false → is_none o ≡ true
none_unless None h = refl
none_unless (Some a) h = absurd (true-false h)

pub some_unless : {A : Type 0} (o : Option A) → is_none o ≡ true → is_some o ≡ false
some_unless None h = refl
some_unless (Some a) h = absurd (true-false (sym h))

-- a choice by the edit that it is
pub SwapMoves_is : (p : Parts) (s : List Slot) (point : Point) (n k : ℕ)
    → is_choice p s point SwapMoves n k ≡ is_accepted p s (SwapMeets (record { 0 = n }) (record { 0 = k }))
unfolding edit_of
SwapMoves_is p s point n k = refl

pub Joins_is : (p : Parts) (s : List Slot) (point : Point) (n k : ℕ)
    → is_choice p s point Joins n k ≡ is_accepted p s (Merge (record { 0 = n }) (record { 0 = k }))
unfolding edit_of
Joins_is p s point n k = refl

pub TaskMoves_is : (p : Parts) (s : List Slot) (point : Point) (n k : ℕ)
    → is_choice p s point TaskMoves n k ≡ is_accepted p s (task_move s (task_at p n) k)
unfolding edit_of
TaskMoves_is p s point n k = refl

pub TradeMoves_is : (p : Parts) (s : List Slot) (point : Point) (n k : ℕ)
    → is_choice p s point TradeMoves n k ≡ is_accepted p s (SwapTasks (task_at p n) (task_at p k))
unfolding edit_of
TradeMoves_is p s point n k = refl

pub Gives_is : (p : Parts) (s : List Slot) (point : Point) (n k : ℕ)
    → is_choice p s point Gives n k ≡ is_accepted p s (Give (task_at p n) (resource_of point))
unfolding edit_of
Gives_is p s point n k = refl

pub cut_within : (p : Parts) (s : List Slot) (point : Point) (n k : ℕ) → k + 1 < length_of (slot_at s n)
    → k < choices p s Cuts n
unfolding choices
cut_within p s point n k l = omega (arith, l)

pub event_there : (p : Parts) (s : List Slot) (n : ℕ) (e : EventId) → AreWellMade p → AreTold p s
    → is_live (slot_at s n) ≡ true → (slot_at s n).event ≡ e → e.0 < length p.events
event_there p s n e made told live same =
    let has = live_event p s n made told live in
    subst (λ (e : EventId). e.0 < length p.events) same (slice_get_within p.events (slot_at s n).event.0 has.0 has.1)

-- what is read of the task of a task slot
pub dead_at : (p : Parts) (s : List Slot) (n : ℕ) (t : TaskId) → t ≡ task_at p n → is_live (slot_at s t.meet.0) ≡ false
    → is_live (slot_at s (task_at p n).meet.0) ≡ false
dead_at p s n t e h = subst (λ (u : TaskId). is_live (slot_at s u.meet.0) ≡ false) e h

pub fixed_at : (p : Parts) (s : List Slot) (n : ℕ) (t : TaskId) (e : EventId) (b : Bool) → t ≡ task_at p n
    → (slot_at s t.meet.0).event ≡ e → is_fixed_place p e.0 t.place ≡ b
    → is_fixed_place p (slot_at s (task_at p n).meet.0).event.0 (task_at p n).place ≡ b
fixed_at p s n t e b is own h =
    subst (λ (u : TaskId). is_fixed_place p (slot_at s u.meet.0).event.0 u.place ≡ b) is
    (ap (λ (x : EventId). is_fixed_place p x.0 t.place) own ∙ h)

pub typed_at : (p : Parts) (s : List Slot) (n k : ℕ) (t : TaskId) (e : EventId) (b : Bool) → t ≡ task_at p n
    → (slot_at s t.meet.0).event ≡ e → has_type p k (place_at p.events e.0 t.place) ≡ b
    → has_type p k (place_at p.events (slot_at s (task_at p n).meet.0).event.0 (task_at p n).place) ≡ b
typed_at p s n k t e b is own h =
    subst (λ (u : TaskId). has_type p k (place_at p.events (slot_at s u.meet.0).event.0 u.place) ≡ b) is
    (ap (λ (x : EventId). has_type p k (place_at p.events x.0 t.place)) own ∙ h)

pub bare_at : (p : Parts) (s : List Slot) (n : ℕ) (t : TaskId) (r : Option ResourceId) → t ≡ task_at p n
    → r ≡ resource_at s t → is_none r ≡ true
    → is_none (given_at (slot_at s (task_at p n).meet.0) (task_at p n).place) ≡ true
bare_at p s n t r is own h = subst (λ (u : TaskId). is_none (given_at (slot_at s u.meet.0) u.place) ≡ true) is
    (ap is_none (sym own) ∙ h)
