-- Filling the slots of an instance, meet by meet.
use Rattle.std.proofs.Common.{ℕ, ◌≡◌, ◌+◌, ◌-◌, ◌<◌, ◌≤◌, ◌∙◌, zero, suc, Option, Some, None, List, [], ◌∷◌, ◌++◌}
use Rattle.std.proofs.Common.{length, take, drop, get_or, set, map, slice_get, refl, sym, ap, subst, arith}
use Rattle.std.proofs.Common.{append_assoc}
use Rattle.std.specs.Prelude.{All, replicate}
use Rattle.std.specs.List.{cons_option, filter_map, flat_map, range_with_len}
use Rattle.std.specs.List.Sorted.{IsStrictlyIncreasing}
use Rattle.std.specs.Option.{option_map_or}
use Rattle.std.proofs.Math.Seq.{map-set_same, take-add}
use Rattle.std.proofs.lemmas.List.{append-nil, drop_all, drop-drop, drop-map, length-append, length-drop, length-map}
use Rattle.std.proofs.lemmas.List.{length-replicate, length-take-le, map-append, take_all, take-map, take_more, take_at}
use Rattle.std.proofs.lemmas.List.{drop_at}
use Rattle.std.proofs.lemmas.List.Concat.{flat_map-cons}
use Rattle.std.proofs.lemmas.List.Elements.{All-nil, All-cons, All-set}
use Rattle.std.proofs.lemmas.List.FromFn.{length-map-range_with_len}
use Rattle.std.proofs.lemmas.Option.{get_or_from_slice_get, same_Some, slice_get-get_or, slice_get_within}
use Rattle.khe_base.proofs.ListLemmas.{all-there, drop-there, mapped-there}
use Rattle.khe_base.specs.declared.numbers.ResourceId.{ResourceId}
use Rattle.khe_instance.specs.Lookups.{places_at}
use Rattle.khe_instance.specs.Slots.{HasSlot, slot_tasks}
use Rattle.khe_instance.specs.States.{IsMeet, IsTold, tasks_of as tasks_wanted}
use Rattle.khe_instance.specs.WellMade.{AreFirstMeets}
use Rattle.khe_instance.specs.declared.parts.EventInfo.{EventInfo}
use Rattle.khe_instance.specs.declared.parts.Parts.{Parts}
use Rattle.khe_instance.specs.declared.states.Meet.{Meet}
use Rattle.khe_instance.specs.declared.states.Task.{Task}
use Rattle.khe_told.proofs.FrameLaws.{standing}
use Rattle.khe_told.proofs.PlainLaws.{IsLive}
use Rattle.khe_told.specs.Filled.{AreFilled, filled}
use Rattle.khe_told.specs.Lists.{meet_in, meets_in, tasks_in, tasks_of, tasks_with}
use Rattle.khe_told.specs.Slots.{IsBareIfFree, emptied, empty_slot, no_meets, no_slot, slot_at, slots_from}
use Rattle.khe_told.specs.Slots.{slots_of_event}
use Rattle.khe_told.specs.declared.slots.Slot.{Slot}
use Rattle.khe_told.specs.declared.slots.Span.{Span}

-- the slot of an event's slot number, whatever its meet
pub record IsSlotOf (s : List Slot) (e k places : ℕ) : Type 0 where
  pub there : k < length s
  pub meet : (slot_at s k).meet.0 ≡ k
  pub event : (slot_at s k).event.0 ≡ e
  pub many : length (slot_at s k).given ≡ places

pub slot_of : (p : Parts) (s : List Slot) (e k : ℕ) → AreFirstMeets 0 p.events → map emptied s ≡ no_meets p
    → HasSlot p.events e k → IsSlotOf s e k (places_at p.events e)
slot_of p s e k first whose has =
    let event = has.0 in
    let r = standing 0 0 k e event p.events first has.1 has.2 has.3 in
    let w = r.within in
    let l : k < length s = let a = length-map s emptied in let b = ap length whose in omega (arith, w, a, b) in
    let z : 0 + e ≡ e = omega arith in
    let back : k ≡ k - 0 = omega arith in
    let shown : emptied (slot_at s k) ≡ empty_slot k e event =
    sym (slot_mapped s k l) ∙ ap (λ t. slot_at t k) whose ∙ ap (slot_at (no_meets p)) back ∙ r.value
    ∙ ap (λ j. empty_slot k j event) z in
    record {
      there = l;
      meet = ap (λ (x : Slot). x.meet.0) shown;
      event = ap (λ (x : Slot). x.event.0) shown;
      many = sym (length-replicate (length (slot_at s k).given) None) ∙ ap (λ (x : Slot). length x.given) shown
          ∙ length-replicate (length event.places) None
          ∙ sym (ap (λ o. option_map_or (λ (x : EventInfo). length x.places) o 0) has.1);
    }
  where
    slot_mapped : (s : List Slot) (k : ℕ) → k < length s → slot_at (map emptied s) k ≡ emptied (slot_at s k)
    slot_mapped [] k l = absurd (omega (arith, l))
    slot_mapped (x ∷ s) zero l = refl
    slot_mapped (x ∷ s) (suc k) l = slot_mapped s k (omega (arith, l))

-- what a list of lists gains where all from a place on give nothing
none_all : {A B : Type 0} (f : A → List B) (s : List A) → ((j : ℕ) (x : A) → slice_get s j ≡ Some x → f x ≡ [])
    → flat_map f s ≡ []
none_all f [] h = refl
none_all f (x ∷ s) h = flat_map-cons f x s ∙ (λ i. h 0 x refl i ++ none_all f s (λ j y at. h (suc j) y at) i)

flat_more : {A B : Type 0} (f : A → List B) (s : List A) (k : ℕ) (y : A) → k < length s
    → ((j : ℕ) (x : A) → slice_get s j ≡ Some x → k ≤ j → f x ≡ [])
    → flat_map f (set s k y) ≡ flat_map f s ++ f y
flat_more f [] k y l h = absurd (omega (arith, l))
flat_more f (x ∷ s) zero y l h =
    let rest = none_all f s (λ j z at. h (suc j) z at (omega arith)) in
    flat_map-cons f y s ∙ ap (λ t. f y ++ t) rest ∙ append-nil (f y)
    ∙ sym (ap (λ t. t ++ f y) (flat_map-cons f x s ∙ (λ i. h 0 x refl (omega arith) i ++ rest i)))
flat_more f (x ∷ s) (suc k) y l h =
    flat_map-cons f x (set s k y)
    ∙ ap (λ t. f x ++ t) (flat_more f s k y (omega (arith, l)) (λ j z at m. h (suc j) z at (omega (arith, m))))
    ∙ sym (append_assoc (f x) (flat_map f s) (f y))
    ∙ sym (ap (λ t. t ++ f y) (flat_map-cons f x s))

as_flat : {A B : Type 0} (h : A → Option B) (s : List A) → filter_map h s ≡ flat_map (λ x. cons_option (h x) []) s
as_flat h [] = refl
as_flat {A} {B} h (x ∷ s) = by (h x) (as_flat h s) ∙ sym (flat_map-cons (λ x. cons_option (h x) []) x s)
  where
    by : (o : Option B) → filter_map h s ≡ flat_map (λ x. cons_option (h x) []) s
        → cons_option o (filter_map h s) ≡ cons_option o [] ++ flat_map (λ x. cons_option (h x) []) s
    by None e = e
    by (Some b) e = ap (λ t. b ∷ t) e

-- slots from a number on are free
abbrev pub AreFreeFrom : ℕ → List Slot → Type 0
AreFreeFrom k s = (j : ℕ) (x : Slot) → slice_get s j ≡ Some x → k ≤ j → x.span ≡ None

pub meets_more : (s : List Slot) (k : ℕ) (y : Slot) → k < length s → AreFreeFrom k s
    → meets_in (set s k y) ≡ meets_in s ++ cons_option (meet_in y) []
meets_more s k y l free =
    as_flat meet_in (set s k y)
    ∙ flat_more (λ x. cons_option (meet_in x) []) s k y l (λ j x at m. none x x.span (free j x at m))
    ∙ ap (λ t. t ++ cons_option (meet_in y) []) (sym (as_flat meet_in s))
  where
    none : (x : Slot) (o : Option Span) → o ≡ None → cons_option (meet_in (record x { span = o })) [] ≡ []
    none x o h = ap (λ q. cons_option (meet_in (record x { span = q })) []) h

pub tasks_more : (s : List Slot) (k : ℕ) (y : Slot) → k < length s → AreFreeFrom k s
    → tasks_in (set s k y) ≡ tasks_in s ++ tasks_of y
tasks_more s k y l free = flat_more tasks_of s k y l
    (λ j x at m. ap (λ o. tasks_of (record x { span = o })) (free j x at m))

-- the tasks of a meet by what they are given are the tasks
pub tasks_back : (m : Meet) (k : ℕ) (ts : List Task)
    → map (λ (t : Task). t.task) ts ≡ map (λ j. record { meet = record { 0 = m.meet.0 }; place = j })
    (range_with_len k (length ts))
    → tasks_with m k (map (λ (t : Task). t.resource) ts) ≡ ts
tasks_back m k [] h = refl
tasks_back m k (t ∷ ts) h =
    let front : t.task ≡ record { meet = m.meet; place = k } = ap (λ xs. get_or xs 0 t.task) h in
    let rest = tasks_back m (k + 1) ts (ap (drop 1) h) in
    λ i. record { task = sym front i; resource = t.resource } ∷ rest i

-- the slots without meets
emptied_event : (e : ℕ) (event : EventInfo) (ks : List ℕ)
    → map emptied (map (λ k. empty_slot k e event) ks) ≡ map (λ k. empty_slot k e event) ks
emptied_event e event [] = refl
emptied_event e event (k ∷ ks) = λ i. record (empty_slot k e event)
    { given = replicate (length-replicate {A = Option ResourceId} (length event.places) None i) None } ∷ emptied_event e
    event ks i

emptied_from : (e : ℕ) (events : List EventInfo) → map emptied (slots_from e events) ≡ slots_from e events
emptied_from e [] = refl
emptied_from e (x ∷ events) =
    map-append emptied (slots_of_event e x) (slots_from (e + 1) events)
    ∙ (λ i. emptied_event e x (range_with_len x.first_meet x.duration) i ++ emptied_from (e + 1) events i)

bare_emptied : (s : List Slot) → All IsBareIfFree (map emptied s)
bare_emptied [] = All-nil IsBareIfFree
bare_emptied (x ∷ s) =
    All-cons IsBareIfFree (emptied x) (map emptied s)
    (λ h. ap (λ n. replicate n None) (sym (length-replicate (length x.given) None)))
    (bare_emptied s)

free_emptied : (s : List Slot) (j : ℕ) (x : Slot) → slice_get (map emptied s) j ≡ Some x → x.span ≡ None
free_emptied [] j x at = absurd (let l = slice_get_within [] j x at in omega (arith, l))
free_emptied (y ∷ s) zero x at = sym (ap (λ (z : Slot). z.span) (same_Some (emptied y) x at))
free_emptied (y ∷ s) (suc j) x at = free_emptied s j x at

-- the slots so far list n of the meets and tasks, and those from the next meet on are free
pub record IsAmid (p : Parts) (ms : List Meet) (ts : List Task) (s : List Slot) (i next : ℕ) : Type 0 where
  pub whose : map emptied s ≡ no_meets p
  pub bare : All IsBareIfFree s
  pub meets : meets_in s ≡ take i ms
  pub tasks : tasks_in s ≡ take next ts
  pub free : (m : Meet) → slice_get ms i ≡ Some m → AreFreeFrom m.meet.0 s
  pub within : next ≤ length ts
  pub left : map (λ (t : Task). t.task) (drop next ts) ≡ flat_map (tasks_wanted p) (drop i ms)

pub amid_start : (p : Parts) (ms : List Meet) (ts : List Task) (s : List Slot) → s ≡ no_meets p → IsTold p ms ts
    → IsAmid p ms ts s 0 0
amid_start p ms ts s is told =
    let whose : map emptied s ≡ s = ap (map emptied) is ∙ emptied_from 0 p.events ∙ sym is in
    let free : (j : ℕ) (x : Slot) → slice_get s j ≡ Some x
    → x.span ≡ None = λ j x at. free_emptied s j x (ap (λ t. slice_get t j) whose ∙ at) in
    record {
      whose = whose ∙ is;
      bare = subst (All IsBareIfFree) whose (bare_emptied s);
      meets = as_flat meet_in s ∙ none_all (λ x. cons_option (meet_in x) []) s
          (λ j x at. ap (λ q. cons_option (meet_in (record x { span = q })) []) (free j x at));
      tasks = none_all tasks_of s (λ j x at. ap (λ o. tasks_of (record x { span = o })) (free j x at));
      free = λ m at j x there l. free j x there;
      within = omega arith;
      left = told.tasks;
    }

-- the next meet has its slot, and its tasks are the next ones
pub record IsReady (p : Parts) (ms : List Meet) (ts : List Task) (s : List Slot) (i next : ℕ) (m : Meet)
    (places : ℕ) : Type 0 where
  pub slot : IsSlotOf s m.event.0 m.meet.0 places
  pub room : next + places ≤ length ts
  pub own : map (λ (t : Task). t.task) (take places (drop next ts)) ≡ slot_tasks m.meet.0 places
  pub left : map (λ (t : Task). t.task) (drop (next + places) ts) ≡ flat_map (tasks_wanted p) (drop (i + 1) ms)

pub ready : (p : Parts) (ms : List Meet) (ts : List Task) (s : List Slot) (i next : ℕ) (m : Meet)
    → AreFirstMeets 0 p.events → IsTold p ms ts → IsAmid p ms ts s i next → slice_get ms i ≡ Some m
    → IsReady p ms ts s i next m (places_at p.events m.event.0)
ready p ms ts s i next m first told h at =
    let is = all-there (IsMeet p) ms i m told.meets at in
    let places = places_at p.events m.event.0 in
    let mine = slot_tasks m.meet.0 places in
    let rest = flat_map (tasks_wanted p) (drop (i + 1) ms) in
    let names = map (λ (t : Task). t.task) (drop next ts) in
    let split : names ≡ mine ++ rest = h.left ∙ ap (flat_map (tasks_wanted p)) (drop-there ms i m at)
    ∙ flat_map-cons (tasks_wanted p) m (drop (i + 1) ms) in
    let many : length mine ≡ places = length-map-range_with_len
    (λ k. record { meet = record { 0 = m.meet.0 }; place = k }) 0 places in
    record {
      slot = slot_of p s m.event.0 m.meet.0 first h.whose is.slot;
      room =
          let a = length-map (drop next ts) (λ (t : Task). t.task) in
          let b = length-drop next ts in
          let c = ap length split in
          let d = length-append mine rest in
          let e : places ≤ length ts - next = omega (arith, a, b, c, d, many) in
          let f = h.within in
          omega (arith, e, f);
      own = sym (take-map (λ (t : Task). t.task) places (drop next ts)) ∙ ap (take places) split
          ∙ take_at mine rest places many;
      left = ap (map (λ (t : Task). t.task)) (sym (drop-drop places next ts))
          ∙ sym (drop-map (λ (t : Task). t.task) places (drop next ts)) ∙ ap (drop places) split
          ∙ drop_at mine rest places many;
    }

get_elsewhere : {A : Type 0} (s : List A) (k j : ℕ) (y : A) → k < j → slice_get (set s k y) j ≡ slice_get s j
get_elsewhere [] k j y l = refl
get_elsewhere (x ∷ s) k zero y l = absurd (omega (arith, l))
get_elsewhere (x ∷ s) zero (suc j) y l = refl
get_elsewhere (x ∷ s) (suc k) (suc j) y l = get_elsewhere s k j y (omega (arith, l))

meet_above : (ms : List Meet) (i : ℕ) (m n : Meet) → IsStrictlyIncreasing (map (λ (m : Meet). m.meet.0) ms)
    → slice_get ms i ≡ Some m → slice_get ms (i + 1) ≡ Some n → m.meet.0 < n.meet.0
meet_above ms i m n rise at next =
    let l = slice_get_within ms (i + 1) n next in
    let k = length-map ms (λ (m : Meet). m.meet.0) in
    let h = rise i (omega (arith, l, k)) in
    let a = mapped-there (λ (m : Meet). m.meet.0) ms i m 0 at in
    let b = mapped-there (λ (m : Meet). m.meet.0) ms (i + 1) n 0 next in
    omega (arith, h, a, b)

-- one more meet with its tasks
pub amid_more : (p : Parts) (ms : List Meet) (ts : List Task) (s more : List Slot) (i next places : ℕ) (m : Meet)
    → IsTold p ms ts → IsAmid p ms ts s i next → slice_get ms i ≡ Some m
    → IsReady p ms ts s i next m places → more ≡ set s m.meet.0
    (filled (slot_at s m.meet.0) m (take places (drop next ts))) → IsAmid p ms ts more (i + 1) (next + places)
amid_more p ms ts s more i next places m told h at r is =
    subst (λ t. IsAmid p ms ts t (i + 1) (next + places)) (sym is) record {
      whose = map-set_same emptied s k y no_slot (λ j. record x { span = None; given = replicate (many j) None })
          ∙ h.whose;
      bare = All-set IsBareIfFree s k y (λ none. absurd (subst IsLive none tt)) h.bare;
      meets = meets_more s k y r.slot.there (h.free m at)
          ∙ (λ j. h.meets j ++ meet_is j ∷ [])
          ∙ sym (take_more ms i m (slice_get_within ms i m at)
          ∙ ap (λ n. take i ms ++ n ∷ []) (get_or_from_slice_get ms i m m at));
      tasks = tasks_more s k y r.slot.there (h.free m at)
          ∙ (λ j. h.tasks j ++ tasks_with (meet_is j) 0 (map (λ (t : Task). t.resource) own))
          ∙ ap (λ t. take next ts ++ t) (tasks_back m 0 own (r.own ∙ ap (slot_tasks k) (sym own_many)))
          ∙ sym (take-add next places ts);
      free = λ n there j z found l.
          (let above = meet_above ms i m n told.ascending at there in
          let past : k < j = omega (arith, above, l) in
          h.free m at j z (sym (get_elsewhere s k j y past) ∙ found) (omega (arith, past)));
      within = r.room;
      left = r.left;
    }
  where
    k : ℕ
    k = m.meet.0

    x : Slot
    x = slot_at s k

    own : List Task
    own = take places (drop next ts)

    y : Slot
    y = filled x m own

    own_many : length own ≡ places
    own_many = length-take-le places (drop next ts)
        (let a = length-drop next ts in let b = r.room in omega (arith, a, b))

    many : length (map (λ (t : Task). t.resource) own) ≡ length x.given
    many = length-map own (λ (t : Task). t.resource) ∙ own_many ∙ sym r.slot.many

    meet_is : (record { meet = x.meet; event = x.event; duration = m.duration; start = m.start }) ≡ m
    meet_is = λ j. record {
      meet = record { 0 = r.slot.meet j };
      event = record { 0 = r.slot.event j };
      duration =
          m.duration;
      start = m.start;
    }

-- all meets are there with their tasks
pub amid_done : (p : Parts) (ms : List Meet) (ts : List Task) (s : List Slot) (i next : ℕ) → length ms ≤ i
    → IsAmid p ms ts s i next → AreFilled p ms ts s
amid_done p ms ts s i next l h =
    let none : map (λ (t : Task). t.task) (drop next ts) ≡ [] =
    h.left ∙ ap (flat_map (tasks_wanted p)) (drop_all i ms l) in
    let end : length ts ≤ next =
    let a : length (map (λ (t : Task). t.task) (drop next ts)) ≡ 0 = ap length none in
    let b = length-map (drop next ts) (λ (t : Task). t.task) in
    let c = length-drop next ts in
    omega (arith, a, b, c) in
    record {
      whose = h.whose;
      bare = h.bare;
      meets = h.meets ∙ take_all i ms l;
      tasks = h.tasks ∙ take_all next ts end;
    }

-- what the next meet asks of the rows
pub record IsNext (p : Parts) (ms : List Meet) (ts : List Task) (s : List Slot) (i next : ℕ) (m : Meet) : Type 0 where
  pub event : m.event.0 < length p.events
  pub there : m.meet.0 < length s
  pub room : next + places_at p.events m.event.0 ≤ length ts
  pub many : length (take (places_at p.events m.event.0) (drop next ts)) ≡ length (slot_at s m.meet.0).given

pub next_ready : (p : Parts) (ms : List Meet) (ts : List Task) (s : List Slot) (i next : ℕ) (m : Meet)
    → AreFirstMeets 0 p.events → IsTold p ms ts → IsAmid p ms ts s i next → slice_get ms i ≡ Some m
    → IsNext p ms ts s i next m
next_ready p ms ts s i next m first told h at =
    let is = all-there (IsMeet p) ms i m told.meets at in
    let r = ready p ms ts s i next m first told h at in
    record {
      event = slice_get_within p.events m.event.0 is.slot.0 is.slot.1;
      there = r.slot.there;
      room = r.room;
      many = length-take-le (places_at p.events m.event.0) (drop next ts)
          (let a = length-drop next ts in let b = r.room in omega (arith, a, b)) ∙ sym r.slot.many;
    }

-- the same where the meet is read from the list
pub meet_read : (ms xs : List Meet) (i : ℕ) (none : Meet) → xs ≡ ms → i < length xs
    → slice_get ms i ≡ Some (get_or xs i none)
meet_read ms xs i none is l = ap (λ ys. slice_get ys i) (sym is) ∙ slice_get-get_or xs i none l

pub places_read : (events : List EventInfo) (e places : ℕ) (event : EventInfo) → slice_get events e ≡ Some event
    → places ≡ length event.places → places_at events e ≡ places
places_read events e places event at is = ap (λ o. option_map_or (λ (x : EventInfo). length x.places) o 0) at ∙ sym is
