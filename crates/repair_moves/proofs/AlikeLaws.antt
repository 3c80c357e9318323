-- Where one meet or task has no choice, another one that is alike has none.
use Rattle.std.proofs.Common.{ℕ, ◌≡◌, ◌+◌, ◌-◌, ◌<◌, true, false, not, Option, Some, None, List, []}
use Rattle.std.proofs.Common.{◌∷◌, length, map, refl, ap, ◌∙◌, sym, arith, inl, inr, slice_get}
use Rattle.std.specs.Prelude.{◌==◌, is_none, is_some}
use Rattle.std.specs.Option.{option_map_or}
use Rattle.std.proofs.lemmas.Bool.{cases_lt}
use Rattle.std.proofs.lemmas.Bool.Decides.{nat_tests}
use Rattle.std.proofs.lemmas.List.{ext_get_or}
use Rattle.khe_base.specs.declared.numbers.EventId.{EventId}
use Rattle.khe_base.specs.declared.numbers.ResourceId.{ResourceId}
use Rattle.khe_base.specs.declared.numbers.TaskId.{TaskId}
use Rattle.khe_instance.specs.Lookups.{place_at}
use Rattle.khe_instance.specs.declared.parts.EventInfo.{EventInfo}
use Rattle.khe_instance.specs.declared.parts.Parts.{Parts}
use Rattle.khe_instance.specs.declared.parts.Place.{Place}
use Rattle.khe_instance.specs.declared.points.Point.{Point}
use Rattle.khe_instance.specs.declared.states.Meet.{Meet}
use Rattle.khe_told.specs.Fits.{AreTold}
use Rattle.khe_told.specs.Slots.{given_at, is_live, length_of, slot_at, start_of}
use Rattle.khe_told.specs.declared.edits.Edit.TheVariants.{Merge, SwapTasks}
use Rattle.khe_told.specs.declared.slots.Slot.{Slot}
use Rattle.khe_solution.specs.Reading.{follows, has_type, may_have, resource_at, same_given}
use Rattle.khe_solution.specs.Reading.{Shows, same_resource}
use Rattle.khe_solution.specs.Refusing.{merge_row, refusal, same_task, swap_tasks_row}
use Rattle.khe_solution.proofs.Basics.{not-false, passed, true-false}
use Rattle.repair_moves.specs.Alike.{AreJoinsAlike, AreMeetsAlike, AreTasksAlike, IsFreeTask}
use Rattle.repair_moves.specs.Items.{task_at}
use Rattle.repair_moves.specs.Moves.{choices, choices_from, edit_of, is_accepted, is_choice}
use Rattle.repair_moves.specs.Picked.{picked}
use Rattle.repair_moves.specs.declared.parts.Part.{Part}
use Rattle.repair_moves.specs.declared.parts.Part.TheVariants.{Joins, TradeMoves}
use Rattle.repair_moves.proofs.ChoiceLaws.{none_is, passing, yes}
use Rattle.repair_moves.proofs.ItemLaws.{place_some, same_true}
use Rattle.repair_moves.proofs.PickedLaws.{false_unless}
use Rattle.repair_moves.proofs.SlotLaws.{live_long, live_owner}
use Rattle.repair_moves.proofs.StuckLaws.{none_of}
use Rattle.repair_moves.proofs.TaskLaws.{both_true}
use Rattle.repair_moves.proofs.WalkLaws.{choice_none}

-- a join
apart : (s : List Slot) (a b k : ℕ) → (h : AreJoinsAlike s a b)
    → follows (start_of (slot_at s b)) (length_of (slot_at s b)) (start_of (slot_at s k)) ≡ true → (a == k) ≡ false
apart s a b k h f = false_unless (a == k) (λ e.
    (let same = same_true a k e in
    let long = length_of (slot_at s b) in
    let here = ap (λ j. start_of (slot_at s j)) same ∙ h.first in
    let g : (h.time.0 + long == h.time.0) ≡ true =
    sym (ap (λ o. follows o long (start_of (slot_at s k))) h.second ∙ ap (follows (Some h.time) long) here) ∙ f in
    let late = same_true (h.time.0 + long) h.time.0 g in
    let some = h.some in let equal = h.duration in omega (arith, late, some, equal)))

join_alike : (p : Parts) (s : List Slot) (point : Point) (a b k : ℕ) → AreJoinsAlike s a b
    → is_choice p s point Joins b k ≡ true → is_choice p s point Joins a k ≡ true
unfolding is_accepted edit_of refusal
join_alike p s point a b k h t =
    let r = passed (merge_row s (record { 0 = b }) (record { 0 = k }))
    (none_is (refusal p s (Merge (record { 0 = b }) (record { 0 = k }))) t) in
    let y = slot_at s k in
    passing (merge_row s (record { 0 = a }) (record { 0 = k })) (
      yes _ h.live,
      (
        r.1.0,
        (
          apart s a b k h (not-false _ r.1.1.1.1.0),
          (
            ap (λ e. not (e == y.event.0)) h.event ∙ r.1.1.1.0,
            (
              ap (λ o. not (follows o (length_of (slot_at s a)) (start_of y))) (h.first ∙ sym h.second)
                  ∙ ap (λ n. not (follows (start_of (slot_at s b)) n (start_of y))) h.duration ∙ r.1.1.1.1.0,
              (ap (λ xs. not (same_given xs y.given)) h.given ∙ r.1.1.1.1.1.0, tt),
            ),
          ),
        ),
      ),
    )

-- a trade
same_itself : (x : ℕ) → (x == x) ≡ true
same_itself x = grind (arith, nat_tests)

no_trade_with : (o q : Option ResourceId) → is_none o ≡ false → q ≡ o → same_resource o q ≡ false → ⊥
no_trade_with None q h e f = true-false h
no_trade_with (Some x) q h e f =
    true-false (sym (ap (same_resource (Some x)) e ∙ same_itself x.0) ∙ f)

typed_alike : (p : Parts) (a b : Option Place) (o : Option ResourceId) → ((r : ℕ) → has_type p r a ≡ has_type p r b)
    → may_have p o a ≡ may_have p o b
typed_alike p a b None h = refl
typed_alike p a b (Some x) h = h x.0

trade_alike : (p : Parts) (s : List Slot) (point : Point) (n m k : ℕ)
    → AreTasksAlike p s (task_at p n) (task_at p m)
    → is_choice p s point TradeMoves m k ≡ true → is_choice p s point TradeMoves n k ≡ true
unfolding is_accepted edit_of refusal
trade_alike p s point n m k h t =
    let a = task_at p n in let b = task_at p m in let c = task_at p k in
    let r = passed (swap_tasks_row p s b c) (none_is (refusal p s (SwapTasks b c)) t) in
    let y = given_at (slot_at s c.meet.0) c.place in
    let at = place_at p.events (slot_at s c.meet.0).event.0 c.place in
    let A = place_at p.events (slot_at s a.meet.0).event.0 a.place in
    let B = place_at p.events (slot_at s b.meet.0).event.0 b.place in
    let other : same_resource (resource_at s a) y ≡ false =
    ap (λ o. same_resource o y) h.given ∙ r.1.1.1.1.1.1.1.0 in
    let apart : same_task a c ≡ false = false_unless (same_task a c) (λ e.
    (let both = both_true (a.meet.0 == c.meet.0) (a.place == c.place) e in
    no_trade_with (resource_at s a) y h.some
    (ap (λ j. given_at (slot_at s j) c.place) (same_true a.meet.0 c.meet.0 both.0)
    ∙ ap (given_at (slot_at s a.meet.0)) (same_true a.place c.place both.1)) other)) in
    passing (swap_tasks_row p s a c) (
      yes _ h.there,
      (
        r.1.0,
        (
          h.free,
          (
            r.1.1.1.0,
            (
              h.some,
              (
                r.1.1.1.1.1.0,
                (
                  apart,
                  (
                    other,
                    (
                      ap not (typed_alike p A B y h.typed) ∙ r.1.1.1.1.1.1.1.1.0,
                      (ap (λ o. not (may_have p o at)) h.given ∙ r.1.1.1.1.1.1.1.1.1.0, tt),
                    ),
                  ),
                ),
              ),
            ),
          ),
        ),
      ),
    )

-- no choices
mapped_none : {A B : Type 0} (f : A → B) (xs : List A) → map f xs ≡ [] → xs ≡ []
mapped_none f [] h = refl
mapped_none f (x ∷ xs) h = absurd (let g : ⊥ = cc in g)

none_at : (p : Parts) (s : List Slot) (point : Point) (part : Part) (a k : ℕ) → k < choices p s part a
    → choices_from p s point part a 0 ≡ [] → is_choice p s point part a k ≡ false
unfolding choices_from picked
none_at p s point part a k l none = none_of (is_choice p s point part a) 0 (choices p s part a - 0) k
    (mapped_none (edit_of p s point part a) _ none) (omega arith) (omega (arith, l))

bare_alike : (p : Parts) (s : List Slot) (point : Point) (part : Part) (a b : ℕ)
    → choices p s part a ≡ choices p s part b
    → ((k : ℕ) → is_choice p s point part b k ≡ true → is_choice p s point part a k ≡ true)
    → choices_from p s point part a 0 ≡ [] → choices_from p s point part b 0 ≡ []
bare_alike p s point part a b many h none = choice_none p s point part b 0
    (λ k lo hi. false_unless _ (λ t. true-false (sym (h k t)
    ∙ (none_at p s point part a k (let l : k < choices p s part a = omega (arith, hi, many) in l) none))))

pub alike_joins : (p : Parts) (s : List Slot) (point : Point) (a b : ℕ) → AreJoinsAlike s a b
    → choices_from p s point Joins a 0 ≡ [] → choices_from p s point Joins b 0 ≡ []
unfolding choices
alike_joins p s point a b h = bare_alike p s point Joins a b refl (λ k. join_alike p s point a b k h)

pub alike_trades : (p : Parts) (s : List Slot) (point : Point) (a b : ℕ)
    → AreTasksAlike p s (task_at p a) (task_at p b)
    → choices_from p s point TradeMoves a 0 ≡ [] → choices_from p s point TradeMoves b 0 ≡ []
unfolding choices
alike_trades p s point a b h = bare_alike p s point TradeMoves a b refl (λ k. trade_alike p s point a b k h)

-- what the code reads
pub free_task : (p : Parts) (s : List Slot) (t : TaskId) (e : EventId) (q : Place) → AreTold p s
    → is_live (slot_at s t.meet.0) ≡ true → (slot_at s t.meet.0).event ≡ e
    → place_at p.events e.0 t.place ≡ Some q → q.fixed ≡ None → IsFreeTask p s t q.rtype
free_task p s t e q told live event at fixed =
    let here = ap (λ (x : EventId). place_at p.events x.0 t.place) event ∙ at in
    record {
      there = place_some p s t.meet.0 t.place e q told live event at;
      free = ap (λ o. option_map_or (λ (x : Place). is_some x.fixed) o false) here ∙ ap is_some fixed;
      own = q;
      at = here;
      typed = refl;
    }

pub tasks_alike : (p : Parts) (s : List Slot) (a b : TaskId) (x y : ℕ) (o : Option ResourceId)
    → o ≡ resource_at s a → is_none o ≡ false → o ≡ resource_at s b → IsFreeTask p s a x → IsFreeTask p s b y → x ≡ y
    → AreTasksAlike p s a b
tasks_alike p s a b x y o given some other first second same = record {
  there = first.there;
  free = first.free;
  some = ap is_none (sym given) ∙ some;
  given = sym given ∙ other;
  typed = λ r.
      ap (has_type p r) first.at
      ∙ ap (λ n. option_map_or (λ x. x.rtype == n) (slice_get p.resources r) false)
      (first.typed ∙ same ∙ sym second.typed)
      ∙ sym (ap (has_type p r) second.at);
}

pub given_alike : (p : Parts) (s : List Slot) (a b : ℕ) (e : EventInfo) → AreTold p s
    → is_live (slot_at s a) ≡ true → is_live (slot_at s b) ≡ true
    → (slot_at s a).event.0 ≡ (slot_at s b).event.0 → slice_get p.events (slot_at s a).event.0 ≡ Some e
    → ((k : ℕ) → k < length e.places → given_at (slot_at s a) k ≡ given_at (slot_at s b) k)
    → (slot_at s a).given ≡ (slot_at s b).given
given_alike p s a b e told first second same at h =
    let x = live_owner p s a told first in
    let y = live_owner p s b told second in
    let one = same_event _ _ (sym x.there ∙ at) in
    let two = same_event _ _ (sym y.there ∙ ap (slice_get p.events) (sym same) ∙ at) in
    let n = x.places in let m = y.places in
    ext_get_or None (slot_at s a).given (slot_at s b).given (omega (arith, n, m, one, two))
    (λ k l. h k (omega (arith, l, n, one)))
  where
    same_event : (x e : EventInfo) → Some x ≡ Some e → length x.places ≡ length e.places
    same_event x e h = ap (λ o. option_map_or (λ (y : EventInfo). length y.places) o 0) h

pub given_more : (s : List Slot) (a b n k : ℕ) → ((k : ℕ) → k < n → given_at (slot_at s a) k ≡ given_at (slot_at s b) k)
    → given_at (slot_at s a) n ≡ given_at (slot_at s b) n → k < n + 1
    → given_at (slot_at s a) k ≡ given_at (slot_at s b) k
given_more s a b n k h one l = elim (cases_lt k n) [
  | inl m ↦ h k m
  | inr g ↦
      let same : k ≡ n = omega (arith, l, g) in
      ap (given_at (slot_at s a)) same ∙ one ∙ ap (given_at (slot_at s b)) (sym same)
]

pub joins_alike : (p : Parts) (s : List Slot) (a b : ℕ) (m n : Meet) (e : EventInfo) → AreTold p s
    → Shows (slot_at s a) m → Shows (slot_at s b) n → AreMeetsAlike m n → slice_get p.events m.event.0 ≡ Some e
    → ((k : ℕ) → k < length e.places → given_at (slot_at s a) k ≡ given_at (slot_at s b) k)
    → AreJoinsAlike s a b
joins_alike p s a b m n e told first second h at given =
    let id : EventId → ℕ = λ x. x.0 in
    let own = ap id first.event in
    let same = own ∙ h.event ∙ sym (ap id second.event) in
    record {
      live = first.live;
      event = same;
      time = h.time;
      first = first.start ∙ h.first;
      second = second.start ∙ h.second;
      duration = first.duration ∙ h.duration ∙ sym second.duration;
      some = live_long p s a told first.live;
      given = given_alike p s a b e told first.live second.live same (ap (slice_get p.events) own ∙ at) given;
    }
