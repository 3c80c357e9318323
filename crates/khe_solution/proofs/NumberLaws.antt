-- The numbers of task slots: they ascend by meet and then by place, and are those of the instance.
use Rattle.std.proofs.Common.{ℕ, ◌≡◌, ◌+◌, ◌-◌, ◌<◌, ◌≤◌, zero, suc, Bool, true, false, cond, Option, Some, None, List}
use Rattle.std.proofs.Common.{[], ◌∷◌, ◌++◌, length, map, take, get_or, slice_get, sum, ◌*◌, refl, sym, ap, ◌∙◌, arith}
use Rattle.std.proofs.Common.{inl, inr, ◌⊎◌, length-append}
use Rattle.std.specs.Prelude.{◌&&◌, All, MatchOption}
use Rattle.std.specs.List.{sum_by}
use Rattle.std.proofs.Math.ListN.{get_or-append}
use Rattle.std.proofs.Math.Seq.{get_or-append_right}
use Rattle.std.proofs.lemmas.Bool.{cases_lt, lt-ltb, le-ltb}
use Rattle.std.proofs.lemmas.List.{get_or-map, take-map, take_all, get_or_past, length-map, length-replicate}
use Rattle.std.proofs.lemmas.List.Elements.{All-head, All-tail}
use Rattle.std.proofs.lemmas.List.FromFn.{get_or-map-range_with_len, length-map-range_with_len}
use Rattle.std.proofs.lemmas.List.Sums.{sum-map, sum_by-cons, sum_by_more, sum_by_more_le}
use Rattle.std.proofs.lemmas.Option.{slice_get_within, slice_get-get_or, same_Some}
use Rattle.khe_base.specs.declared.numbers.ResourceId.{ResourceId}
use Rattle.khe_base.specs.declared.numbers.TaskId.{TaskId}
use Rattle.khe_instance.specs.Lookups.{places_at}
use Rattle.khe_instance.specs.Slots.{all_tasks, first_task, slot_tasks, tasks_from, slots_from as events_from}
use Rattle.khe_instance.specs.WellMade.{AreFirstMeets}
use Rattle.khe_instance.specs.declared.parts.EventInfo.{EventInfo}
use Rattle.khe_instance.specs.declared.parts.Parts.{Parts}
use Rattle.khe_instance.proofs.SlotsLemmas.{length-slots_from}
use Rattle.khe_instance.proofs.TasksLemmas.{length-all_tasks, length-tasks_from}
use Rattle.khe_told.proofs.FrameLaws.{IsFrame, frames}
use Rattle.khe_told.specs.Fits.{AreTold}
use Rattle.khe_told.specs.Slots.{emptied, no_slot, slot_at}
use Rattle.khe_told.specs.declared.slots.Slot.{Slot}
use Rattle.khe_solution.specs.NextTask.{IsBefore, IsFrom, IsNextTask, has_task}
use Rattle.khe_solution.specs.TaskRows.{AreUnwanted, IsFirstWanted, first_in, number_from, places, tasks_of_all}
use Rattle.khe_told.proofs.OpeningLaws.{events_of}

-- a sum over the front of a list goes by what each element counts
pub sum_same : {X Y : Type 0} (f : X → ℕ) (g : Y → ℕ) (xs : List X) (ys : List Y) (m : ℕ) → map f xs ≡ map g ys
    → sum_by f (take m xs) ≡ sum_by g (take m ys)
sum_same f g xs ys m e =
    sym (sum-map f (take m xs)) ∙ ap sum (sym (take-map f m xs) ∙ ap (take m) e ∙ take-map g m ys)
    ∙ sum-map g (take m ys)

pub sum_all : {X Y : Type 0} (f : X → ℕ) (g : Y → ℕ) (xs : List X) (ys : List Y) → map f xs ≡ map g ys
    → sum_by f xs ≡ sum_by g ys
sum_all f g xs ys e = sym (sum-map f xs) ∙ ap sum e ∙ sum-map g ys

-- one more slot
first_more : (s : List Slot) (m : ℕ) → first_in s (m + 1) ≡ first_in s m + places (slot_at s m)
first_more s m = elim (cases_lt m (length s)) [
  | inl l ↦ sum_by_more places s m no_slot l
  | inr g ↦
      let all = ap (sum_by places) (take_all (m + 1) s (omega (arith, g)) ∙ sym (take_all m s g)) in
      let none : places (slot_at s m) ≡ 0 = ap places (get_or_past s m no_slot g) in
      omega (arith, all, none)
]

pub first_next : (s : List Slot) (m n : ℕ) → m < n → first_in s m + places (slot_at s m) ≤ first_in s n
first_next s m zero l = absurd (omega (arith, l))
first_next s m (suc n) l =
    let more = first_more s n in
    let same : first_in s (suc n) ≡ first_in s (n + 1) = let k : suc n ≡ n + 1 = omega arith in ap (first_in s) k in
    elim (cases_lt m n) [
      | inl b ↦ let h = first_next s m n b in omega (arith, more, same, h)
      | inr g ↦ let e : n ≡ m = omega (arith, l, g) in let f = ap (λ k. first_in s k + places (slot_at s k)) e in
          omega (arith, more, same, f)
    ]

-- the number of a task is among all
pub number_below : (s : List Slot) (m k : ℕ) → k < places (slot_at s m) → first_in s m + k < tasks_of_all s
number_below s m k l = elim (cases_lt m (length s)) [
  | inl b ↦ let h = sum_by_more_le places s m no_slot b in omega (arith, h, l)
  | inr g ↦ let none : places (slot_at s m) ≡ 0 = ap places (get_or_past s m no_slot g) in
      absurd (omega (arith, none, l))
]

pub first_room : (s : List Slot) (m : ℕ) → first_in s m + places (slot_at s m) ≤ tasks_of_all s
first_room s m = elim (cases_lt m (length s)) [
  | inl b ↦ sum_by_more_le places s m no_slot b
  | inr g ↦
      let none : places (slot_at s m) ≡ 0 = ap places (get_or_past s m no_slot g) in
      let all = ap (sum_by places) (take_all m s g) in
      omega (arith, none, all)
]

-- a task that comes before another has a lower number, and the other way round
pub number_before : (s : List Slot) (t u : TaskId) → t.place < places (slot_at s t.meet.0) → IsBefore t u
    → first_in s t.meet.0 + t.place < first_in s u.meet.0 + u.place
number_before s t u l h = elim h [
  | inl b ↦ let n = first_next s t.meet.0 u.meet.0 b in omega (arith, n, l)
  | inr p ↦ let e = ap (first_in s) p.0 in let k = p.1 in omega (arith, e, k)
]

pub order_of : (t u : TaskId) → IsBefore t u ⊎ IsFrom u t
order_of t u = elim (cases_lt t.meet.0 u.meet.0) [
  | inl l ↦ inl (inl l)
  | inr g ↦ elim (cases_lt u.meet.0 t.meet.0) [
    | inl m ↦ inr (inl m)
    | inr f ↦
        let e : t.meet.0 ≡ u.meet.0 = omega (arith, g, f) in
        elim (cases_lt t.place u.place) [ inl l ↦ inl (inr (e, l)) | inr k ↦ inr (inr (sym e, k)) ]
  ]
]

-- the number that tasks from one on have
capped : (s : List Slot) (t : TaskId) → number_from s t ≤ first_in s t.meet.0 + places (slot_at s t.meet.0)
capped s t = elim (cases_lt t.place (places (slot_at s t.meet.0))) [
  | inl l ↦ let e = ap (λ b. first_in s t.meet.0 + cond b t.place (places (slot_at s t.meet.0))) (lt-ltb _ _ l) in
      omega (arith, e, l)
  | inr g ↦ let e = ap (λ b. first_in s t.meet.0 + cond b t.place (places (slot_at s t.meet.0))) (le-ltb _ _ g) in
      omega (arith, e)
]

capped_place : (s : List Slot) (t : TaskId) → number_from s t ≤ first_in s t.meet.0 + t.place
capped_place s t = elim (cases_lt t.place (places (slot_at s t.meet.0))) [
  | inl l ↦ let e = ap (λ b. first_in s t.meet.0 + cond b t.place (places (slot_at s t.meet.0))) (lt-ltb _ _ l) in
      omega (arith, e)
  | inr g ↦ let e = ap (λ b. first_in s t.meet.0 + cond b t.place (places (slot_at s t.meet.0))) (le-ltb _ _ g) in
      omega (arith, e, g)
]

pub number_past : (s : List Slot) (t : TaskId) → length s ≤ t.meet.0 → number_from s t ≡ tasks_of_all s
number_past s t g =
    let c = capped s t in
    let none : places (slot_at s t.meet.0) ≡ 0 = ap places (get_or_past s t.meet.0 no_slot g) in
    let all = ap (sum_by places) (take_all t.meet.0 s g) in
    let low : first_in s t.meet.0 ≤ number_from s t = omega arith in
    omega (arith, c, none, all, low)

pub from_number : (s : List Slot) (t u : TaskId) → IsFrom t u → number_from s t ≤ first_in s u.meet.0 + u.place
from_number s t u h = elim h [
  | inl b ↦ let n = first_next s t.meet.0 u.meet.0 b in let c = capped s t in omega (arith, n, c)
  | inr p ↦ let e = ap (first_in s) p.0 in let k = p.1 in let c = capped_place s t in omega (arith, e, k, c)
]

pub number_from_is : (s : List Slot) (t u : TaskId) → u.place < places (slot_at s u.meet.0)
    → number_from s t ≤ first_in s u.meet.0 + u.place → IsFrom t u
number_from_is s t u l h = elim (order_of u t) [
  | inr f ↦ f
  | inl b ↦ elim b [
    | inl m ↦
        let n = first_next s u.meet.0 t.meet.0 m in
        let low : first_in s t.meet.0 ≤ number_from s t = omega arith in
        absurd (omega (arith, n, l, h, low))
    | inr p ↦
        let e = ap (first_in s) p.0 in
        let many = ap (λ m. places (slot_at s m)) p.0 in
        let k = p.1 in
        elim (cases_lt t.place (places (slot_at s t.meet.0))) [
          | inl i ↦ let c = ap (λ b. first_in s t.meet.0 + cond b t.place (places (slot_at s t.meet.0)))
              (lt-ltb _ _ i) in absurd (omega (arith, e, k, c, h))
          | inr g ↦ let c = ap (λ b. first_in s t.meet.0 + cond b t.place (places (slot_at s t.meet.0)))
              (le-ltb _ _ g) in absurd (omega (arith, e, c, h, l, many))
        ]
  ]
]

-- a task that is not there is not wanted
neither : (a b c : Bool) → b ≡ false → ((a && b) && c) ≡ false
neither true b c h = ap (λ x. x && c) h
neither false b c h = refl

not_there : (s : List Slot) (wanted : Option ResourceId) (u : TaskId) → places (slot_at s u.meet.0) ≤ u.place
    → has_task s wanted u ≡ false
not_there s wanted u g = neither _ _ _ (le-ltb u.place (places (slot_at s u.meet.0)) g)

-- the first wanted task by numbers is the next one
pub next_is : (s : List Slot) (wanted : Option ResourceId) (from : TaskId) (result : Option TaskId)
    → MatchOption result (AreUnwanted s wanted (number_from s from) (tasks_of_all s))
    (λ t. IsFirstWanted s wanted (number_from s from) t) → IsNextTask s wanted from result
next_is s wanted from None h = λ u f. elim (cases_lt u.place (places (slot_at s u.meet.0))) [
  | inl l ↦ h u l (from_number s from u f) (number_below s u.meet.0 u.place l)
  | inr g ↦ not_there s wanted u g
]
next_is s wanted from (Some t) h =
    (number_from_is s from t h.there h.from_, h.wanted_, earlier)
  where
    earlier : (u : TaskId) → IsFrom from u → IsBefore u t → has_task s wanted u ≡ false
    earlier u f b = elim (cases_lt u.place (places (slot_at s u.meet.0))) [
      | inl l ↦ h.before u l (from_number s from u f) (number_before s u t l b)
      | inr g ↦ not_there s wanted u g
    ]

-- the slots have the places of their events
places_emptied : (s : List Slot) → map places (map emptied s) ≡ map places s
places_emptied [] = refl
places_emptied (x ∷ s) = λ i. length-replicate {A = Option ResourceId} (length x.given) None i ∷ places_emptied s i

framed : (events : List EventInfo) (s : List Slot) → All (IsFrame events) s
    → map places s ≡ map (places_at events) (map (λ (x : Slot). x.event.0) s)
framed events [] h = refl
framed events (x ∷ s) h =
    let mine = (All-head (IsFrame events) x s h).places in
    let more = framed events s (All-tail (IsFrame events) x s h) in
    λ i. mine i ∷ more i

events_emptied : (s : List Slot) → map (λ (x : Slot). x.event.0) (map emptied s) ≡ map (λ (x : Slot). x.event.0) s
events_emptied [] = refl
events_emptied (x ∷ s) = ap (λ es. x.event.0 ∷ es) (events_emptied s)

-- the events of told slots
told_events : (p : Parts) (s : List Slot) → AreTold p s → map (λ (x : Slot). x.event.0) s ≡ events_from 0 p.events
told_events p s t = sym (events_emptied s) ∙ ap (map (λ (x : Slot). x.event.0)) t.whose ∙ events_of 0 p.events

told_places : (p : Parts) (s : List Slot) → AreFirstMeets 0 p.events → AreTold p s
    → map places s ≡ map (places_at p.events) (events_from 0 p.events)
told_places p s f t = framed p.events s (frames p s f t.whose) ∙ ap (map (places_at p.events)) (told_events p s t)

pub first_told : (p : Parts) (s : List Slot) (m : ℕ) → AreFirstMeets 0 p.events → AreTold p s
    → first_task p.events m ≡ first_in s m
first_told p s m f t = sym (sum_same places (places_at p.events) s (events_from 0 p.events) m (told_places p s f t))

pub tasks_told : (p : Parts) (s : List Slot) → AreFirstMeets 0 p.events → AreTold p s
    → sum_by (λ (e : EventInfo). e.duration * length e.places) p.events ≡ tasks_of_all s
tasks_told p s f t =
    sym (length-all_tasks p.events) ∙ length-tasks_from p.events 0 (events_from 0 p.events)
    ∙ sym (sum_all places (places_at p.events) s (events_from 0 p.events) (told_places p s f t))

-- the task that has a number
record IsNumbered (f : ℕ → ℕ) (m : ℕ) (es : List ℕ) (n : ℕ) (t : TaskId) : Type 0 where
  from_ : m ≤ t.meet.0
  there : t.meet.0 - m < length es
  place : t.place < f (get_or es (t.meet.0 - m) 0)
  number : n ≡ sum_by f (take (t.meet.0 - m) es) + t.place

get_of : {A : Type 0} (xs : List A) (n : ℕ) (t : A) → slice_get xs n ≡ Some t → get_or xs n t ≡ t
get_of xs n t h = same_Some (get_or xs n t) t (sym (slice_get-get_or xs n t (slice_get_within xs n t h)) ∙ h)

number_here : (events : List EventInfo) (m e : ℕ) (es : List ℕ) (n : ℕ) (t : TaskId) → n < places_at events e
    → slice_get (tasks_from events m (e ∷ es)) n ≡ Some t
    → IsNumbered (places_at events) m (e ∷ es) n t
number_here events m e es n t l h =
    let f = places_at events in
    let own = slot_tasks m (f e) in
    let many = length-map-range_with_len {X = TaskId} (λ k. record { meet = record { 0 = m }; place = k }) 0 (f e) in
    let is : t ≡ record { meet = record { 0 = m }; place = n } =
    sym (get_of (tasks_from events m (e ∷ es)) n t h)
    ∙ get_or-append own (tasks_from events (m + 1) es) t n (omega (arith, many, l))
    ∙ get_or-map-range_with_len {X = TaskId} (λ k. record { meet = record { 0 = m }; place = k }) 0 (f e) n n t l
    (omega arith) in
    let a = ap (λ (u : TaskId). u.meet.0) is in
    let b = ap (λ (u : TaskId). u.place) is in
    let z : t.meet.0 - m ≡ 0 = omega (arith, a) in
    let x = ap (λ j. f (get_or (e ∷ es) j 0)) z in
    let y = ap (λ j. sum_by f (take j (e ∷ es))) z in
    record {
      from_ = omega (arith, a);
      there = omega (arith, z);
      place = omega (arith, x, b, l);
      number = omega (arith, y, b);
    }

number_later : (events : List EventInfo) (m e : ℕ) (es : List ℕ) (n : ℕ) (t : TaskId) → places_at events e ≤ n
    → IsNumbered (places_at events) (m + 1) es (n - places_at events e) t
    → IsNumbered (places_at events) m (e ∷ es) n t
number_later events m e es n t g h =
    let f = places_at events in
    let low = h.from_ in
    let k : t.meet.0 - m ≡ suc (t.meet.0 - (m + 1)) = omega (arith, low) in
    let x = ap (λ j. f (get_or (e ∷ es) j 0)) k in
    let y = ap (λ j. sum_by f (take j (e ∷ es))) k ∙ sum_by-cons f e (take (t.meet.0 - (m + 1)) es) in
    let a = h.there in
    let b = h.place in
    let c = h.number in
    record {
      from_ = omega (arith, low);
      there = omega (arith, k, a);
      place = omega (arith, x, b);
      number = omega (arith, y, c, g);
    }

numbered : (events : List EventInfo) (m : ℕ) (es : List ℕ) (n : ℕ) (t : TaskId)
    → slice_get (tasks_from events m es) n ≡ Some t → IsNumbered (places_at events) m es n t
numbered events m [] n t h = absurd (let l = slice_get_within [] n t h in omega (arith, l))
numbered events m (e ∷ es) n t h = elim (cases_lt n (places_at events e)) [
  | inl l ↦ number_here events m e es n t l h
  | inr g ↦
      let own = slot_tasks m (places_at events e) in
      let rest = tasks_from events (m + 1) es in
      let many = length-map-range_with_len {X = TaskId} (λ k. record { meet = record { 0 = m }; place = k }) 0
      (places_at events e) in
      let all = length-append own rest in
      let within = slice_get_within (own ++ rest) n t h in
      let back : n - length own ≡ n - places_at events e = ap (λ k. n - k) many in
      let there : slice_get rest (n - places_at events e) ≡ Some t =
      slice_get-get_or rest (n - places_at events e) t (omega (arith, all, many, within, g))
      ∙ ap Some (ap (λ k. get_or rest k t) (sym back) ∙ sym (get_or-append_right own rest n t (omega (arith, many, g)))
      ∙ get_of (own ++ rest) n t h) in
      number_later events m e es n t g (numbered events (m + 1) es (n - places_at events e) t there)
]

-- the task with a number is there and has that number
pub record IsTaskOf (s : List Slot) (n : ℕ) (t : TaskId) : Type 0 where
  pub there : t.place < places (slot_at s t.meet.0)
  pub number : n ≡ first_in s t.meet.0 + t.place

pub task_of : (p : Parts) (s : List Slot) (n : ℕ) (t : TaskId) → AreFirstMeets 0 p.events → AreTold p s
    → slice_get (all_tasks p.events) n ≡ Some t → IsTaskOf s n t
task_of p s n t f told h =
    let r = numbered p.events 0 (events_from 0 p.events) n t h in
    let m = t.meet.0 in
    let z : m - 0 ≡ m = omega arith in
    let same = told_places p s f told in
    let long : length s ≡ length (events_from 0 p.events) =
    sym (length-map s places) ∙ ap length same ∙ length-map (events_from 0 p.events) (places_at p.events) in
    let within = r.there in
    let l : m < length s = omega (arith, within, long, z) in
    let own : places (slot_at s m) ≡ places_at p.events (get_or (events_from 0 p.events) m 0) =
    sym (get_or-map places s m no_slot 0 l) ∙ ap (λ xs. get_or xs m 0) same
    ∙ get_or-map (places_at p.events) (events_from 0 p.events) m 0 0 (omega (arith, within, z)) in
    let a = r.place in
    let b = ap (λ j. places_at p.events (get_or (events_from 0 p.events) j 0)) z in
    let c = r.number in
    let d = ap (λ j. sum_by (places_at p.events) (take j (events_from 0 p.events))) z in
    let e = first_told p s m f told in
    record { there = omega (arith, own, a, b); number = omega (arith, c, d, e) }

-- how many slots there are
pub slots_told : (p : Parts) (s : List Slot) → AreFirstMeets 0 p.events → AreTold p s
    → length s ≡ sum_by (λ (e : EventInfo). e.duration) p.events
slots_told p s f t =
    sym (length-map s places) ∙ ap length (told_places p s f t)
    ∙ length-map (events_from 0 p.events) (places_at p.events) ∙ length-slots_from 0 p.events
