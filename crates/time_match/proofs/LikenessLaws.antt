-- What is read of tasks, and the monitors that are listed for it.
use Rattle.std.proofs.Common.{ℕ, ◌≡◌, ◌+◌, ◌<◌, ◌≤◌, ◌++◌, Bool, true, false, cond, Option, Some, None, List, [], ◌∷◌}
use Rattle.std.proofs.Common.{length, map, take, get_or, slice_get, refl, sym, ap, ◌∙◌, arith, zero-add}
use Rattle.std.specs.Prelude.{not}
use Rattle.std.specs.List.{filter, list_any, range_with_len}
use Rattle.std.specs.Option.{option_map_or}
use Rattle.std.proofs.lemmas.Bool.{and_parts, true≢false}
use Rattle.std.proofs.lemmas.List.{length-map, map-append}
use Rattle.std.proofs.lemmas.List.Elements.{filter-append, filter_more}
use Rattle.std.proofs.lemmas.List.Folds.{list_any_at}
use Rattle.std.proofs.lemmas.List.FromFn.{get_or-range_with_len, length-range_with_len}
use Rattle.std.proofs.lemmas.List.Sums.{count_by-le-length, length-filter}
use Rattle.std.proofs.lemmas.Map.Views.{any-filter_same}
use Rattle.std.proofs.lemmas.Option.{slice_get_within}
use Rattle.khe_base.proofs.ListLemmas.{range_more}
use Rattle.khe_base.specs.declared.limits.TheConstants.{MONITORS}
use Rattle.khe_base.specs.declared.numbers.EventId.{EventId}
use Rattle.khe_base.specs.declared.numbers.TaskId.{TaskId}
use Rattle.khe_engine.specs.States.{State}
use Rattle.khe_instance.specs.WellMade.{AreWellMade}
use Rattle.khe_instance.specs.declared.parts.Parts.{Parts}
use Rattle.khe_instance.specs.declared.points.Monitor.{Monitor}
use Rattle.khe_instance.specs.declared.points.Point.{Point}
use Rattle.khe_instance.specs.declared.points.Point.TheVariants.{Event, EventResource, EventGroup, EventPair, Resource}
use Rattle.khe_instance.specs.declared.rules.Constraint.{Constraint}
use Rattle.khe_instance.specs.declared.rules.Rule.{Rule}
use Rattle.khe_instance.specs.declared.states.Meet.{Meet}
use Rattle.khe_solution.specs.Reading.{Shows}
use Rattle.khe_told.specs.Slots.{slot_at}
use Rattle.khe_told.specs.declared.slots.Slot.{Slot}
use Rattle.time_match.specs.Alike.{is_avoiding_splits, unites, unites_at}
use Rattle.time_match.specs.Leaders.{IsReadFrom, avoidances, is_avoidance_at, is_preference_at, preferences}
use Rattle.time_match.specs.Leaders.{unites_event, worth_at}
use Rattle.time_match.specs.Parted.{IsSingle, all_numbers}
use Rattle.time_match.specs.Wishes.{prefers_place, wish_at, wishes_among}
use Rattle.time_match.specs.declared.likenesses.Likeness.{Likeness}
use Rattle.time_match.specs.declared.wishes.Wish.{Wish}

-- one more number of a list of those that pass a test
pub numbers_more : (test : ℕ → Bool) (i : ℕ) → filter test (range_with_len 0 (i + 1))
    ≡ filter test (range_with_len 0 i) ++ cond (test i) (i ∷ []) []
numbers_more test i = ap (filter test) (range_more i) ∙ filter-append test (range_with_len 0 i) (i ∷ [])

-- what is on the resources of a group with an event is on those of a group
is_one : (p : Parts) (e n : ℕ) → unites_event p e n ≡ true → is_avoidance_at p n ≡ true
is_one p e n h = at_monitor (slice_get p.monitors n) h
  where
    at_point : (rule : Rule) (point : Point) → unites_at p rule point e ≡ true → is_avoiding_splits rule ≡ true
    at_point rule (Event x) g = absurd (true≢false (sym g))
    at_point rule (EventGroup x) g = (and_parts _ _ g).0
    at_point rule (EventPair x) g = absurd (true≢false (sym g))
    at_point rule (Resource x) g = absurd (true≢false (sym g))
    at_point rule (EventResource x place) g = absurd (true≢false (sym g))

    at_constraint : (point : Point) (o : Option Constraint)
        → option_map_or (λ (c : Constraint). unites_at p c.rule point e) o false ≡ true
        → option_map_or (λ (c : Constraint). is_avoiding_splits c.rule) o false ≡ true
    at_constraint point None g = absurd (true≢false (sym g))
    at_constraint point (Some c) g = at_point c.rule point g

    at_monitor : (o : Option Monitor)
        → option_map_or (λ (m : Monitor). option_map_or (λ (c : Constraint). unites_at p c.rule m.point e)
        (slice_get p.constraints m.constraint) false) o false ≡ true
        → option_map_or (λ (m : Monitor). option_map_or (λ (c : Constraint). is_avoiding_splits c.rule)
        (slice_get p.constraints m.constraint) false) o false ≡ true
    at_monitor None g = absurd (true≢false (sym g))
    at_monitor (Some m) g = at_constraint m.point (slice_get p.constraints m.constraint) g

is_false : (b : Bool) → (b ≡ true → ⊥) → b ≡ false
is_false true h = absurd (h refl)
is_false false h = refl

-- a task whose event none of the listed monitors has in a group
single_is : (p : Parts) (s : List Slot) (t : TaskId) (e : EventId) → (slot_at s t.meet.0).event ≡ e
    → list_any (unites_event p e.0) (avoidances p) ≡ false → IsSingle p s t
single_is p s t e own none n m at = is_false (unites p s t m) (λ h. true≢false (sym (found h) ∙ no_other))
  where
    no_other : list_any (unites_event p e.0) (all_numbers p) ≡ false
    no_other = sym (any-filter_same (unites_event p e.0) (is_avoidance_at p) true (is_one p e.0) (all_numbers p)) ∙ none

    found : unites p s t m ≡ true → list_any (unites_event p e.0) (all_numbers p) ≡ true
    found h =
        let l = slice_get_within p.monitors n m at in
        let many = length-range_with_len 0 (length p.monitors) in
        let here : get_or (all_numbers p) n 0 ≡ n =
        get_or-range_with_len 0 (length p.monitors) n 0 l ∙ zero-add n in
        list_any_at (unites_event p e.0) (all_numbers p) n 0 (omega (arith, l, many))
        (ap (unites_event p e.0) here
        ∙ ap (λ o. option_map_or (λ (q : Monitor). option_map_or (λ (c : Constraint). unites_at p c.rule q.point e.0)
        (slice_get p.constraints q.constraint) false) o false) at
        ∙ ap (λ (x : EventId). option_map_or (λ (c : Constraint). unites_at p c.rule m.point x.0)
        (slice_get p.constraints m.constraint) false) (sym own) ∙ h)

not_true : (b : Bool) → not b ≡ true → b ≡ false
not_true true h = absurd (true≢false (sym h))
not_true false h = refl

-- what is read of a task by its meet, and where it has none
pub read_is : (p : Parts) (s : List Slot) (t : TaskId) (own : Meet) (worth : ℕ) (single : Bool) (ns : List ℕ)
    → ns ≡ avoidances p → Shows (slot_at s t.meet.0) own → worth ≡ worth_at p own.event.0 t.place own.duration
    → single ≡ not (list_any (unites_event p own.event.0) ns)
    → IsReadFrom p s (record {
      task = t;
      event = own.event;
      start = own.start;
      duration = own.duration;
      worth = worth;
      single = single;
    })
read_is p s t own worth single ns all shows is none h = record {
  event = shows.event;
  start = shows.start;
  duration = shows.duration;
  worth = (λ i. worth_at p (shows.event i).0 t.place (shows.duration i)) ∙ sym is;
  single = single_is p s t own.event shows.event
      (ap (list_any (unites_event p own.event.0)) (sym all) ∙ not_true _ (sym none ∙ h));
}

pub unread : (p : Parts) (s : List Slot) (x : Likeness) → x.single ≡ false → IsReadFrom p s x
unread p s x e h = absurd (true≢false (sym h ∙ e))

-- one more monitor among which wishes are sought
pub wishes_more : (p : Parts) (b : State) (e k more : ℕ) (ns : List ℕ) (i d : ℕ) → i < length ns
    → wishes_among p b e k more (take (i + 1) ns)
    ≡ wishes_among p b e k more (take i ns)
    ++ cond (prefers_place p e k (get_or ns i d)) (wish_at p b more (get_or ns i d) ∷ []) []
wishes_more p b e k more ns i d l =
    let f = wish_at p b more in
    let test = prefers_place p e k in
    ap (map f) (filter_more test ns i d l) ∙ map-append f (filter test (take i ns)) _
    ∙ ap (λ ws. wishes_among p b e k more (take i ns) ++ ws) (by (test (get_or ns i d)) (get_or ns i d))
  where
    by : (c : Bool) (n : ℕ) → map (wish_at p b more) (cond c (n ∷ []) []) ≡ cond c (wish_at p b more n ∷ []) []
    by true n = refl
    by false n = refl

pub few_wishes : (p : Parts) (b : State) (e k more : ℕ) (ns : List ℕ) (ws : List Wish) → AreWellMade p
    → ns ≡ preferences p → ws ≡ wishes_among p b e k more ns → length ws ≤ MONITORS
few_wishes p b e k more ns ws made all are =
    let test = prefers_place p e k in
    let own = ap length are in
    let a = length-map (filter test ns) (wish_at p b more) in
    let c = length-filter test ns in
    let d = count_by-le-length test ns in
    let f = ap length all in
    let g = length-filter (is_preference_at p) (all_numbers p) in
    let h = count_by-le-length (is_preference_at p) (all_numbers p) in
    let many = length-range_with_len 0 (length p.monitors) in
    let few = made.limits.monitors in
    omega (arith, own, a, c, d, f, g, h, many, few)
