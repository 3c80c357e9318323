-- The tasks of one time: each may be given any resource of the type, and no two are the same.
use Rattle.std.proofs.Common.{ℕ, ◌≡◌, ◌+◌, ◌*◌, ◌<◌, ◌≤◌, ◌==◌, ◌&&◌, ◌++◌, Bool, true, false, cond, Option, Some, None}
use Rattle.std.proofs.Common.{List, []}
use Rattle.std.proofs.Common.{◌∷◌, length, map, take, get_or, slice_get, refl, sym, ap, ◌∙◌, arith, append-nil}
use Rattle.std.specs.Prelude.{All, AllPairs, is_none, is_some}
use Rattle.std.specs.List.{filter, range_with_len, sum_by}
use Rattle.std.specs.Option.{option_and_then, option_map, option_map_or}
use Rattle.std.proofs.lemmas.Bool.{and_parts, eqb-true, lt-ltb}
use Rattle.std.proofs.lemmas.List.{length-map, map-append, take_all}
use Rattle.std.proofs.lemmas.List.Elements.{All-filter, All-map, All-weaker, filter-append, filter_more, filter_passes}
use Rattle.std.proofs.lemmas.List.Filters.{length-filter_more}
use Rattle.std.proofs.lemmas.List.FromFn.{length-range_with_len}
use Rattle.std.proofs.lemmas.List.Kept.{AllPairs-filter}
use Rattle.std.proofs.lemmas.List.Sums.{count_by-le-length, length-filter}
use Rattle.std.proofs.lemmas.Option.{get_or_from_slice_get, same_Some, slice_get-get_or, slice_get_within}
use Rattle.khe_base.proofs.ListLemmas.{range_more}
use Rattle.khe_base.specs.declared.numbers.ResourceId.{ResourceId}
use Rattle.khe_base.specs.declared.numbers.TaskId.{TaskId}
use Rattle.khe_instance.specs.Lookups.{place_at}
use Rattle.khe_instance.specs.Running.{covers}
use Rattle.khe_instance.specs.Slots.{all_tasks}
use Rattle.khe_instance.specs.WellMade.{AreWellMade}
use Rattle.khe_instance.specs.declared.parts.EventInfo.{EventInfo}
use Rattle.khe_instance.specs.declared.parts.Parts.{Parts}
use Rattle.khe_instance.specs.declared.parts.Place.{Place}
use Rattle.khe_instance.specs.declared.parts.ResourceInfo.{ResourceInfo}
use Rattle.khe_instance.specs.declared.states.Meet.{Meet}
use Rattle.khe_instance.proofs.TasksLemmas.{length-all_tasks}
use Rattle.khe_told.specs.Fits.{AreTold}
use Rattle.khe_told.specs.Slots.{is_live, slot_at}
use Rattle.khe_told.specs.declared.slots.Slot.{Slot}
use Rattle.khe_told.specs.declared.slots.Span.{Span}
use Rattle.khe_solution.specs.Reading.{Shows, has_place, has_type}
use Rattle.khe_solution.specs.TaskRows.{first_in, places}
use Rattle.khe_solution.proofs.Basics.{no_value, there-none, true-false}
use Rattle.khe_solution.proofs.NumberLaws.{task_of}
use Rattle.time_match.specs.Open.{AreApart, IsOpenFor}
use Rattle.time_match.specs.Tasks.{is_matched, is_of_type, matched, resources_of, runs_at, wants}

-- each task of an instance is a place of its slot, and no two are the same
tasks_there : (p : Parts) (s : List Slot) → AreWellMade p → AreTold p s
    → All (λ (t : TaskId). t.place < places (slot_at s t.meet.0)) (all_tasks p.events)
tasks_there p s made told k d l =
    let ts = all_tasks p.events in
    (task_of p s k (get_or ts k d) made.first_meets told (slice_get-get_or ts k d l)).there

tasks_apart : (p : Parts) (s : List Slot) → AreWellMade p → AreTold p s → AllPairs AreApart (all_tasks p.events)
tasks_apart p s made told i j d l b m k =
    let ts = all_tasks p.events in
    let x = task_of p s i (get_or ts i d) made.first_meets told (slice_get-get_or ts i d (omega (arith, l, b))) in
    let y = task_of p s j (get_or ts j d) made.first_meets told (slice_get-get_or ts j d b) in
    let e = x.number in
    let f = y.number in
    let g = ap (first_in s) m in
    omega (arith, e, f, g, k, l)

pub matched_apart : (p : Parts) (s : List Slot) (time rtype : ℕ) → AreWellMade p → AreTold p s
    → AllPairs AreApart (matched p s time rtype)
unfolding matched
matched_apart p s time rtype made told =
    AllPairs-filter AreApart (is_matched p s time rtype) (all_tasks p.events) (tasks_apart p s made told)

-- a place that is for a resource of a type
record Wanted (rtype : ℕ) (o : Option Place) : Type 0 where
  value : Place
  there : o ≡ Some value
  typed : value.rtype ≡ rtype
  free : is_none value.fixed ≡ true

wanted : (rtype : ℕ) (o : Option Place) → option_map_or (wants rtype) o false ≡ true → Wanted rtype o
wanted rtype None h = absurd (true-false (sym h))
wanted rtype (Some q) h =
    let b = and_parts (q.rtype == rtype) (is_none q.fixed) h in
    record { value = q; there = refl; typed = eqb-true q.rtype rtype b.0; free = b.1 }

not_some : (o : Option ResourceId) → is_none o ≡ true → is_some o ≡ false
not_some None h = refl
not_some (Some r) h = absurd (true-false (sym h))

same_type : (p : Parts) (r rtype : ℕ) (o : Option Place) → Wanted rtype o → is_of_type p rtype r ≡ true
    → has_type p r o ≡ true
same_type p r rtype o w h = ap (has_type p r) w.there ∙ ap (λ n. is_of_type p n r) w.typed ∙ h

resources_typed : (p : Parts) (rtype : ℕ)
    → All (λ (r : ResourceId). is_of_type p rtype r.0 ≡ true) (resources_of p rtype)
unfolding resources_of
resources_typed p rtype =
    let numbers = range_with_len 0 (length p.resources) in
    All-map (λ (r : ResourceId). is_of_type p rtype r.0 ≡ true) (λ n. record { 0 = n })
    (filter (is_of_type p rtype) numbers)
    (filter_passes (is_of_type p rtype) numbers)

-- a meet that runs is live
live_if : (o : Option Span) (time : ℕ)
    → covers (option_map_or (λ (y : Span). y.duration) o 0) (option_and_then (λ (y : Span). y.start) o) time ≡ true
    → is_some o ≡ true
live_if None time h = absurd (true-false (sym h))
live_if (Some y) time h = refl

place_has : (x : Slot) (k : ℕ) → is_live x ≡ true → k < places x → has_place x k ≡ true
place_has x k h l = λ i. h i && lt-ltb k (places x) l i

open_task : (p : Parts) (s : List Slot) (time rtype : ℕ) (t : TaskId) → is_matched p s time rtype t ≡ true
    → t.place < places (slot_at s t.meet.0) → IsOpenFor p (resources_of p rtype) s t
open_task p s time rtype t h l =
    let x = slot_at s t.meet.0 in
    let o = place_at p.events x.event.0 t.place in
    let b = and_parts (runs_at time x) (option_map_or (wants rtype) o false) h in
    let w = wanted rtype o b.1 in
    record {
      there = place_has x t.place (live_if x.span time b.0) l;
      free = ap (λ q. option_map_or (λ (place : Place). is_some place.fixed) q false) w.there
          ∙ not_some w.value.fixed w.free;
      typed = All-weaker (λ (r : ResourceId). is_of_type p rtype r.0 ≡ true)
          (λ (r : ResourceId). has_type p r.0 o ≡ true) (λ r e. same_type p r.0 rtype o w e) (resources_of p rtype)
          (resources_typed p rtype);
    }

pub matched_open : (p : Parts) (s : List Slot) (time rtype : ℕ) → AreWellMade p → AreTold p s
    → All (IsOpenFor p (resources_of p rtype) s) (matched p s time rtype)
unfolding matched
matched_open p s time rtype made told =
    let test = is_matched p s time rtype in
    let all = all_tasks p.events in
    let there = All-filter test (λ (t : TaskId). t.place < places (slot_at s t.meet.0)) all
    (tasks_there p s made told) in
    let passes = filter_passes test all in
    λ k d l. open_task p s time rtype (get_or (filter test all) k d) (passes k d l) (there k d l)

-- whether a task is matched, by its live meet, and where it has none
pub unmatched : (p : Parts) (s : List Slot) (time rtype : ℕ) (t : TaskId) → is_live (slot_at s t.meet.0) ≡ false
    → is_matched p s time rtype t ≡ false
unmatched p s time rtype t h =
    let x = slot_at s t.meet.0 in
    ap (λ (o : Option Span). covers (option_map_or (λ (y : Span). y.duration) o 0)
    (option_and_then (λ (y : Span). y.start) o) time && option_map_or (wants rtype)
    (place_at p.events x.event.0 t.place) false)
    (no_value x.span h)

pub shown : (p : Parts) (s : List Slot) (time rtype : ℕ) (t : TaskId) (m : Meet) → Shows (slot_at s t.meet.0) m
    → is_matched p s time rtype t
    ≡ (covers m.duration m.start time && option_map_or (wants rtype) (place_at p.events m.event.0 t.place) false)
shown p s time rtype t m h = λ i. covers (h.duration i) (h.start i) time && option_map_or (wants rtype)
    (place_at p.events (h.event i).0 t.place) false

-- one task more
pub list_more : (p : Parts) (s : List Slot) (time rtype i : ℕ) (t : TaskId) → slice_get (all_tasks p.events) i ≡ Some t
    → filter (is_matched p s time rtype) (take (i + 1) (all_tasks p.events))
    ≡ filter (is_matched p s time rtype) (take i (all_tasks p.events))
    ++ cond (is_matched p s time rtype t) (t ∷ []) []
list_more p s time rtype i t h =
    let all = all_tasks p.events in
    let test = is_matched p s time rtype in
    filter_more test all i t (slice_get_within all i t h)
    ∙ ap (λ (u : TaskId). filter test (take i all) ++ cond (test u) (u ∷ []) []) (get_or_from_slice_get all i t t h)

pub count_more : (p : Parts) (s : List Slot) (time rtype i : ℕ) (t : TaskId) → slice_get (all_tasks p.events) i ≡ Some t
    → length (filter (is_matched p s time rtype) (take (i + 1) (all_tasks p.events)))
    ≡ length (filter (is_matched p s time rtype) (take i (all_tasks p.events)))
    + cond (is_matched p s time rtype t) 1 0
count_more p s time rtype i t h =
    let all = all_tasks p.events in
    let test = is_matched p s time rtype in
    length-filter_more test all i t (slice_get_within all i t h)
    ∙ ap (λ (u : TaskId). length (filter test (take i all)) + cond (test u) 1 0) (get_or_from_slice_get all i t t h)

-- and all of them
pub list_whole : (p : Parts) (s : List Slot) (time rtype n : ℕ)
    → n ≡ sum_by (λ (e : EventInfo). e.duration * length e.places) p.events
    → filter (is_matched p s time rtype) (take n (all_tasks p.events)) ≡ matched p s time rtype
unfolding matched
list_whole p s time rtype n h =
    let all = all_tasks p.events in
    let many = length-all_tasks p.events in
    ap (filter (is_matched p s time rtype)) (take_all n all (omega (arith, many, h)))

-- no more resources have a type than there are
pub few_resources : (p : Parts) (rtype : ℕ) → length (resources_of p rtype) ≤ length p.resources
unfolding resources_of
few_resources p rtype =
    let numbers = range_with_len 0 (length p.resources) in
    let test = is_of_type p rtype in
    let named : ℕ → ResourceId = λ n. record { 0 = n } in
    let a = length-map (filter test numbers) named in
    let b = length-filter test numbers in
    let c = count_by-le-length test numbers in
    let d = length-range_with_len 0 (length p.resources) in
    omega (arith, a, b, c, d)

-- one resource more
type_read : (o : Option ResourceInfo) (k rtype : ℕ) → option_map (λ (r : ResourceInfo). r.rtype) o ≡ Some k
    → option_map_or (λ (r : ResourceInfo). r.rtype == rtype) o false ≡ (k == rtype)
type_read None k rtype h = absurd (there-none k (sym h))
type_read (Some r) k rtype h = ap (λ n. n == rtype) (sym (same_Some k r.rtype (sym h)))

pub resources_more : (p : Parts) (rtype i k : ℕ)
    → option_map (λ (r : ResourceInfo). r.rtype) (slice_get p.resources i) ≡ Some k
    → map (λ n. let r : ResourceId = record { 0 = n } in r) (filter (is_of_type p rtype) (range_with_len 0 (i + 1)))
    ≡ map (λ n. let r : ResourceId = record { 0 = n } in r) (filter (is_of_type p rtype) (range_with_len 0 i))
    ++ cond (k == rtype) ((record { 0 = i }) ∷ []) []
resources_more p rtype i k h =
    let f : ℕ → ResourceId = λ n. record { 0 = n } in
    let test = is_of_type p rtype in
    let numbers = range_with_len 0 i in
    ap (λ xs. map f (filter test xs)) (range_more i)
    ∙ ap (map f) (filter-append test numbers (i ∷ []))
    ∙ map-append f (filter test numbers) (filter test (i ∷ []))
    ∙ ap (λ ys. map f (filter test numbers) ++ ys)
    (last (test i) (k == rtype) i (type_read (slice_get p.resources i) k rtype h))
  where
    last : (b c : Bool) (n : ℕ) → b ≡ c
        → map (λ n. let r : ResourceId = record { 0 = n } in r) (cond b (n ∷ []) [])
        ≡ cond c ((record { 0 = n }) ∷ []) []
    last true c n e = ap (λ d. cond d (let r : ResourceId = record { 0 = n } in r ∷ []) []) e
    last false c n e = ap (λ d. cond d (let r : ResourceId = record { 0 = n } in r ∷ []) []) e

-- a list, or a count, with one more element that passes a test or not
pub more_yes : {X : Type 0} (x : X) (test result : Bool) (old xs ys whole : List X) → result ≡ test → result ≡ true
    → xs ≡ old → ys ≡ xs ++ x ∷ [] → whole ≡ old ++ cond test (x ∷ []) [] → ys ≡ whole
more_yes x test result old xs ys whole e h a b w =
    b ∙ ap (λ z. z ++ x ∷ []) a ∙ ap (λ t. old ++ cond t (x ∷ []) []) (sym h ∙ e) ∙ sym w

pub more_no : {X : Type 0} (x : X) (test result : Bool) (old xs whole : List X) → result ≡ test → result ≡ false
    → xs ≡ old → whole ≡ old ++ cond test (x ∷ []) [] → xs ≡ whole
more_no x test result old xs whole e h a w =
    a ∙ sym (append-nil old) ∙ ap (λ t. old ++ cond t (x ∷ []) []) (sym h ∙ e) ∙ sym w

pub count_yes : (test result : Bool) (old k whole : ℕ) → result ≡ test → result ≡ true → k ≡ old
    → whole ≡ old + cond test 1 0 → k + 1 ≡ whole
count_yes test result old k whole e h a w = ap (λ n. n + 1) a ∙ ap (λ t. old + cond t 1 0) (sym h ∙ e) ∙ sym w

pub count_no : (test result : Bool) (old k whole : ℕ) → result ≡ test → result ≡ false → k ≡ old
    → whole ≡ old + cond test 1 0 → k ≡ whole
count_no test result old k whole e h a w =
    let z : old ≡ old + 0 = omega arith in a ∙ z ∙ ap (λ t. old + cond t 1 0) (sym h ∙ e) ∙ sym w
