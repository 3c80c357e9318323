-- How many tasks there are, and where those of an event stand.
use Rattle.std.proofs.Common.{ℕ, ◌≡◌, ◌+◌, ◌*◌, ◌-◌, ◌/◌, ◌%◌, ◌<◌, ◌≤◌, ◌++◌, ◌∙◌, Some, List, [], ◌∷◌, length, map, take}
use Rattle.std.proofs.Common.{zero-add, get_or, refl, sym, ap, arith, zero, suc, slice_get, length-append, inl, inr}
use Rattle.std.proofs.Common.{leb, true, false, subst}
use Rattle.std.specs.Prelude.{replicate}
use Rattle.std.specs.List.{sum_by, range_with_len}
use Rattle.std.specs.List.Sorted.{IsNonDecreasing, IsPartitionPoint}
use Rattle.std.specs.Option.{option_map_or}
use Rattle.std.proofs.Math.Nat.{mod-lt}
use Rattle.std.proofs.Math.Seq.{take-append-add, take-length}
use Rattle.std.proofs.lemmas.Bool.{cases_lt, leb-true, leb-false}
use Rattle.std.proofs.lemmas.List.{get_or_append_left, get_or-append-add, get_or-replicate, length-replicate}
use Rattle.std.proofs.lemmas.List.{take-append-le, take-replicate, get_or_read}
use Rattle.std.proofs.lemmas.List.FromFn.{length-map-range_with_len, get_or-map-range_with_len}
use Rattle.std.proofs.lemmas.List.Sums.{sum_by-cons, sum_by-append, sum_by_more, sum_by-take-le}
use Rattle.std.proofs.lemmas.Nat.{div-add-mod', mul-le}
use Rattle.std.proofs.lemmas.Option.{same_Some, slice_get-get_or, get_or_from_slice_get, slice_get_read, slice_get_within}
use Rattle.khe_base.specs.declared.numbers.TaskId.{TaskId}
use Rattle.khe_instance.specs.Lookups.{places_at}
use Rattle.khe_instance.specs.Slots.{slots_from, slot_tasks, tasks_from, all_tasks, first_task, HasSlot}
use Rattle.khe_instance.specs.SlotTables.{IsLastUpTo, IsSlotTable, tasks_before}
use Rattle.khe_instance.specs.WellMade.{AreFirstMeets}
use Rattle.khe_instance.specs.declared.parts.EventInfo.{EventInfo}
use Rattle.khe_instance.specs.declared.slots.SlotTable.{SlotTable}
use Rattle.khe_instance.proofs.SlotsLemmas.{length-slots_from, slot-event}

-- the tasks of slots are as many as their events have places
pub length-tasks_from : (events : List EventInfo) (m : ℕ) (es : List ℕ)
    → length (tasks_from events m es) ≡ sum_by (places_at events) es
length-tasks_from events m [] = refl
length-tasks_from events m (e ∷ es) =
    length-append (slot_tasks m (places_at events e)) (tasks_from events (m + 1) es)
    ∙ (λ i. length-map-range_with_len {X = TaskId} (λ k. record { meet = record { 0 = m }; place = k }) 0
    (places_at events e) i + length-tasks_from events (m + 1) es i)
    ∙ sym (sum_by-cons (places_at events) e es)

sum-replicate : (f : ℕ → ℕ) (n e : ℕ) → sum_by f (replicate n e) ≡ n * f e
sum-replicate f zero e = let z : 0 ≡ 0 * f e = omega arith in z
sum-replicate f (suc n) e = sum_by-cons f e (replicate n e) ∙ ap (λ x. f e + x) (sum-replicate f n e)
    ∙ (let z : f e + n * f e ≡ suc n * f e = omega arith in z)

-- added up over the slots, the places of their events are duration times places of each event
sum-slots : (all : List EventInfo) (e : ℕ) (xs : List EventInfo) → ((i : ℕ) → slice_get all (e + i) ≡ slice_get xs i)
    → sum_by (places_at all) (slots_from e xs) ≡ sum_by (λ (x : EventInfo). x.duration * length x.places) xs
sum-slots all e [] h = refl
sum-slots all e (x ∷ xs) h =
    let at : slice_get all e ≡ Some x = (let z : e ≡ e + 0 = omega arith in ap (slice_get all) z) ∙ h 0 in
    let here : places_at all e ≡ length x.places =
    ap (λ o. option_map_or (λ (y : EventInfo). length y.places) o 0) at in
    let later : sum_by (places_at all) (slots_from (e + 1) xs)
    ≡ sum_by (λ (y : EventInfo). y.duration * length y.places) xs =
    sum-slots all (e + 1) xs (λ i. (let z : e + 1 + i ≡ e + suc i = omega arith in ap (slice_get all) z) ∙ h (suc i)) in
    sum_by-append (places_at all) (replicate x.duration e) (slots_from (e + 1) xs)
    ∙ (λ i. (sum-replicate (places_at all) x.duration e ∙ ap (λ n. x.duration * n) here) i + later i)
    ∙ sym (sum_by-cons (λ (y : EventInfo). y.duration * length y.places) x xs)

pub length-all_tasks : (events : List EventInfo)
    → length (all_tasks events) ≡ sum_by (λ (e : EventInfo). e.duration * length e.places) events
length-all_tasks events = length-tasks_from events 0 (slots_from 0 events)
    ∙ sum-slots events 0 events (λ i. let z : 0 + i ≡ i = omega arith in ap (slice_get events) z)

-- what the tables of slots say
pub table-slots : (events : List EventInfo) (table : SlotTable) → IsSlotTable events table
    → length table.events.items ≡ sum_by (λ (e : EventInfo). e.duration) events
table-slots events table h = ap length h.slots_are ∙ length-slots_from 0 events

-- a slot of an event, counted on from the first of these events, and how many tasks come before it
pub record IsOwnSlot (all : List EventInfo) (e first k j : ℕ) (xs : List EventInfo) (x : EventInfo) : Type 0 where
  pub slot : ℕ
  pub at : first + slot ≡ x.first_meet + j
  pub value : get_or (slots_from e xs) slot 0 ≡ e + k
  pub within : slot < length (slots_from e xs)
  pub before : sum_by (places_at all) (take slot (slots_from e xs)) ≡ tasks_before xs k + j * length x.places

own-slot : (all : List EventInfo) (e first k j : ℕ) (xs : List EventInfo) (x : EventInfo) → AreFirstMeets first xs
    → ((i : ℕ) → slice_get all (e + i) ≡ slice_get xs i) → slice_get xs k ≡ Some x → j < x.duration
    → IsOwnSlot all e first k j xs x
own-slot all e first k j [] x made h there l = absurd (let g : ⊥ = cc in g)
own-slot all e first zero j (y ∷ xs) x made h there l =
    let same : y ≡ x = same_Some y x there in
    let own = replicate y.duration e in
    let later = slots_from (e + 1) xs in
    let many : length own ≡ y.duration = length-replicate y.duration e in
    let long : y.duration ≡ x.duration = ap (λ (z : EventInfo). z.duration) same in
    let starts : y.first_meet ≡ x.first_meet = ap (λ (z : EventInfo). z.first_meet) same in
    let at : slice_get all e ≡ Some x = (let z : e ≡ e + 0 = omega arith in ap (slice_get all) z) ∙ h 0 ∙ there in
    let here : places_at all e ≡ length x.places =
    ap (λ o. option_map_or (λ (y : EventInfo). length y.places) o 0) at in
    let less : j < y.duration = omega (arith, l, long) in
    record {
      slot = j;
      at = omega (arith, made.0, starts);
      value = get_or_append_left own later 0 j (omega (arith, many, less)) ∙ get_or-replicate y.duration j e 0 less
          ∙ (let z : e ≡ e + 0 = omega arith in z);
      within = omega (arith, length-append own later, many, less);
      before = ap (sum_by (places_at all)) (take-append-le j own later (omega (arith, many, less))
          ∙ take-replicate j y.duration e (omega (arith, less)))
          ∙ sum-replicate (places_at all) j e ∙ ap (λ n. j * n) here ∙ sym (zero-add (j * length x.places));
    }
own-slot all e first (suc k) j (y ∷ xs) x made h there l =
    let own = replicate y.duration e in
    let later = slots_from (e + 1) xs in
    let many : length own ≡ y.duration = length-replicate y.duration e in
    let at : slice_get all e ≡ Some y = (let z : e ≡ e + 0 = omega arith in ap (slice_get all) z) ∙ h 0 in
    let here : places_at all e ≡ length y.places =
    ap (λ o. option_map_or (λ (y : EventInfo). length y.places) o 0) at in
    let rest = own-slot all (e + 1) (first + y.duration) k j xs x made.1
    (λ i. (let z : e + 1 + i ≡ e + suc i = omega arith in ap (slice_get all) z) ∙ h (suc i)) there l in
    let mine : sum_by (places_at all) own ≡ y.duration * length y.places =
    sum-replicate (places_at all) y.duration e ∙ ap (λ n. y.duration * n) here in
    let parts : take (y.duration + rest.slot) (own ++ later) ≡ own ++ take rest.slot later =
    ap (λ n. take (n + rest.slot) (own ++ later)) (sym many) ∙ take-append-add own later rest.slot in
    record {
      slot = y.duration + rest.slot;
      at = omega (arith, rest.at);
      value = ap (λ n. get_or (own ++ later) (n + rest.slot) 0) (sym many) ∙ get_or-append-add own later rest.slot 0
          ∙ rest.value ∙ (let z : e + 1 + k ≡ e + suc k = omega arith in z);
      within = omega (arith, length-append own later, many, rest.within);
      before = ap (sum_by (places_at all)) parts ∙ sum_by-append (places_at all) own (take rest.slot later)
          ∙ (let z : sum_by (places_at all) own + sum_by (places_at all) (take rest.slot later)
          ≡ tasks_before (y ∷ xs) (suc k) + j * length x.places =
          omega (
            arith,
            mine,
            rest.before,
            sum_by-cons (λ (z : EventInfo). z.duration * length z.places) y (take k xs),
          ) in z);
    }

-- a slot of an event, of them all
pub record IsSlotIn (events : List EventInfo) (e m : ℕ) (x : EventInfo) : Type 0 where
  pub value : get_or (slots_from 0 events) m 0 ≡ e
  pub within : m < length (slots_from 0 events)
  pub before : first_task events m ≡ tasks_before events e + (m - x.first_meet) * length x.places

pub slot-in : (events : List EventInfo) (e m : ℕ) (x : EventInfo) → AreFirstMeets 0 events → slice_get events e ≡ Some x
    → x.first_meet ≤ m → m < x.first_meet + x.duration → IsSlotIn events e m x
slot-in events e m x made there low high =
    let own = own-slot events 0 0 e (m - x.first_meet) events x made
    (λ i. let z : 0 + i ≡ i = omega arith in ap (slice_get events) z) there (omega (arith, low, high)) in
    let at : own.slot ≡ m = omega (arith, own.at, low) in
    record {
      value = ap (λ n. get_or (slots_from 0 events) n 0) (sym at) ∙ own.value ∙ zero-add e;
      within = omega (arith, own.within, at);
      before = ap (first_task events) (sym at) ∙ own.before;
    }

-- the tasks of a slot follow those of the slots before it
pub task-at : (all : List EventInfo) (m : ℕ) (es : List ℕ) (j p : ℕ) → j < length es → p < places_at all (get_or es j 0)
    → slice_get (tasks_from all m es) (sum_by (places_at all) (take j es) + p)
    ≡ Some (record { meet = record { 0 = m + j }; place = p })
task-at all m es j p l less =
    let d : TaskId = record { meet = record { 0 = m + j }; place = p } in
    let at = get-at all m es j p d l less in
    slice_get-get_or (tasks_from all m es) (sum_by (places_at all) (take j es) + p) d at.0 ∙ ap Some at.1
  where
    get-at : (all : List EventInfo) (m : ℕ) (es : List ℕ) (j p : ℕ) (d : TaskId) → j < length es
        → p < places_at all (get_or es j 0)
        → (sum_by (places_at all) (take j es) + p < length (tasks_from all m es))
        × (get_or (tasks_from all m es) (sum_by (places_at all) (take j es) + p) d
        ≡ record { meet = record { 0 = m + j }; place = p })
    get-at all m [] j p d l less = absurd (omega (arith, l))
    get-at all m (e ∷ es) zero p d l less =
        let task_of : ℕ → TaskId = λ k. record { meet = record { 0 = m }; place = k } in
        let own = slot_tasks m (places_at all e) in
        let later = tasks_from all (m + 1) es in
        let many : length own ≡ places_at all e =
        length-map-range_with_len {X = TaskId} task_of 0 (places_at all e) in
        let within : p < length own = omega (arith, many, less) in
        let none : sum_by (places_at all) (take 0 (e ∷ es)) ≡ 0 = refl in (
          omega (arith, length-append own later, within, none),
          ap (λ i. get_or (own ++ later) i d) (zero-add p) ∙ get_or_append_left own later d p within
              ∙ get_or-map-range_with_len task_of 0 (places_at all e) p p d less (zero-add p)
              ∙ (let z : m ≡ m + 0 = omega arith in ap (λ (n : ℕ). let t : TaskId = record { meet = record { 0 = n }; place = p } in t) z),
        )
    get-at all m (e ∷ es) (suc j) p d l less =
        let own = slot_tasks m (places_at all e) in
        let later = tasks_from all (m + 1) es in
        let many : length own ≡ places_at all e =
        length-map-range_with_len {X = TaskId} (λ k. record { meet = record { 0 = m }; place = k }) 0 (places_at all e) in
        let n = sum_by (places_at all) (take j es) + p in
        let rest = get-at all (m + 1) es j p d (omega (arith, l)) less in
        let whole : sum_by (places_at all) (e ∷ take j es) + p ≡ length own + n =
        omega (arith, many, sum_by-cons (places_at all) e (take j es)) in (
          omega (arith, length-append own later, rest.0, whole),
          ap (λ i. get_or (own ++ later) i d) whole ∙ get_or-append-add own later n d ∙ rest.1
              ∙ (let z : m + 1 + j ≡ m + suc j = omega arith in ap (λ (n : ℕ). let t : TaskId = record { meet = record { 0 = n }; place = p } in t) z),
        )

-- the task with a number, of the event that has it
pub record IsTaskIn (events : List EventInfo) (e n : ℕ) (x : EventInfo) : Type 0 where
  pub some : 0 < length x.places
  pub slot : x.first_meet + (n - tasks_before events e) / length x.places < length (slots_from 0 events)
  pub task : slice_get (all_tasks events) n ≡ Some (record {
    meet = record { 0 = x.first_meet + (n - tasks_before events e) / length x.places };
    place = (n - tasks_before events e) % length x.places;
  })

some-of : (d n k : ℕ) → k < d * n → 0 < n
some-of d zero k l = absurd (omega (arith, l))
some-of d (suc n) k l = omega arith

div-below : (k places d : ℕ) → k < d * places → k / places < d
div-below k places d l =
    elim (cases_lt (k / places) d) [
      | inl less ↦ less
      | inr more ↦ absurd (omega (
        arith,
        l,
        div-add-mod' k places,
        mul-le d places (k / places) places more (omega arith),
      ))
    ]

pub task-in : (events : List EventInfo) (e n : ℕ) (x : EventInfo) → AreFirstMeets 0 events → slice_get events e ≡ Some x
    → tasks_before events e ≤ n → n < tasks_before events e + x.duration * length x.places → IsTaskIn events e n x
task-in events e n x made there low high =
    let k = n - tasks_before events e in
    let places = length x.places in
    let few : k < x.duration * places = omega (arith, low, high) in
    let some : 0 < places = some-of x.duration places k few in
    let j : k / places < x.duration = div-below k places x.duration few in
    let m = x.first_meet + k / places in
    let p = k % places in
    let less : p < places = mod-lt k some in
    let own = slot-in events e m x made there (omega arith) (omega (arith, j)) in
    let here : places_at events (get_or (slots_from 0 events) m 0) ≡ places =
    ap (places_at events) own.value ∙ ap (λ o. option_map_or (λ (y : EventInfo). length y.places) o 0) there in
    let off : m - x.first_meet ≡ k / places = omega arith in
    let number : first_task events m + p ≡ n =
    omega (arith, own.before ∙ ap (λ i. tasks_before events e + i * places) off, div-add-mod' k places, low) in
    record {
      some = some;
      slot = own.within;
      task = ap (slice_get (all_tasks events)) (sym number)
          ∙ task-at events 0 (slots_from 0 events) m p own.within (omega (arith, here, less))
          ∙ ap (λ (i : ℕ). let t : TaskId = record { meet = record { 0 = i }; place = p } in Some t) (zero-add m);
    }

-- where ascending numbers pass n, after the first, which is 0
pub past-first : (xs : List ℕ) (n i : ℕ) → slice_get xs 0 ≡ Some 0
    → IsPartitionPoint (λ y. leb y n ≡ true) (λ y. leb y n ≡ false) xs i → 1 ≤ i
past-first xs n zero some cut =
    let first : get_or xs 0 0 ≡ 0 = get_or_from_slice_get xs 0 0 0 some in
    let more : n < get_or xs 0 0 = leb-false (get_or xs 0 0) n
    (cut.1 0 0 (omega arith) (slice_get_within xs 0 0 some)) in
    absurd (omega (arith, more, first))
past-first xs n (suc i) some cut = omega arith

pub last-up-to : (xs : List ℕ) (n i : ℕ) → i ≤ length xs → 1 ≤ i
    → IsPartitionPoint (λ y. leb y n ≡ true) (λ y. leb y n ≡ false) xs i → IsLastUpTo xs n (i - 1)
last-up-to xs n i within some cut = record {
  within = omega (arith, within, some);
  from = λ d. leb-true (get_or xs (i - 1) d) n (cut.0 (i - 1) d (omega arith) (omega (arith, some)));
  to = λ d l. leb-false (get_or xs (i - 1 + 1) d) n (cut.1 (i - 1 + 1) d (omega (arith, some)) l);
}

-- the first tasks of events ascend
before-ascends : (events : List EventInfo) (i j : ℕ) → i ≤ j → tasks_before events i ≤ tasks_before events j
before-ascends [] zero j h = let z : tasks_before [] 0 ≡ 0 = refl in omega (arith, z)
before-ascends [] (suc i) j h = let z : tasks_before [] (suc i) ≡ 0 = refl in omega (arith, z)
before-ascends (x ∷ xs) zero j h = let z : tasks_before (x ∷ xs) 0 ≡ 0 = refl in omega (arith, z)
before-ascends (x ∷ xs) (suc i) zero h = absurd (omega (arith, h))
before-ascends (x ∷ xs) (suc i) (suc j) h =
    let many : EventInfo → ℕ = λ y. y.duration * length y.places in
    omega (
      arith,
      sum_by-cons many x (take i xs),
      sum_by-cons many x (take j xs),
      before-ascends xs i j (omega (arith, h)),
    )

pub firsts-at : (events : List EventInfo) (firsts : List ℕ)
    → firsts ≡ map (tasks_before events) (range_with_len 0 (length events))
    → (e d : ℕ) → e < length events → get_or firsts e d ≡ tasks_before events e
firsts-at events firsts is e d l = ap (λ xs. get_or xs e d) is
    ∙ get_or-map-range_with_len (tasks_before events) 0 (length events) e e d l (zero-add e)

pub firsts-many : (events : List EventInfo) (firsts : List ℕ)
    → firsts ≡ map (tasks_before events) (range_with_len 0 (length events)) → length firsts ≡ length events
firsts-many events firsts is = ap length is ∙ length-map-range_with_len (tasks_before events) 0 (length events)

pub firsts-ascend : (events : List EventInfo) (firsts : List ℕ)
    → firsts ≡ map (tasks_before events) (range_with_len 0 (length events)) → IsNonDecreasing firsts
firsts-ascend events firsts is i j d le l =
    let many = firsts-many events firsts is in
    let a = firsts-at events firsts is i d (omega (arith, many, le, l)) in
    let b = firsts-at events firsts is j d (omega (arith, many, l)) in
    omega (arith, a, b, before-ascends events i j le)

-- the task with a number, by the event that a search found
pub record IsFound (events : List EventInfo) (n : ℕ) (x : EventInfo) (first places : ℕ) : Type 0 where
  pub some : 0 < places
  pub slot : x.first_meet + (n - first) / places < sum_by (λ (y : EventInfo). y.duration) events
  pub task : slice_get (all_tasks events) n
      ≡ Some (record { meet = record { 0 = x.first_meet + (n - first) / places }; place = (n - first) % places })

pub found-task : (events : List EventInfo) (firsts : List ℕ) (n e : ℕ) (x : EventInfo) (first places : ℕ)
    → AreFirstMeets 0 events → firsts ≡ map (tasks_before events) (range_with_len 0 (length events))
    → n < sum_by (λ (y : EventInfo). y.duration * length y.places) events → IsLastUpTo firsts n e
    → x ≡ get_or events e x → first ≡ get_or firsts e first → places ≡ length x.places
    → IsFound events n x first places
found-task events firsts n e x first places made are l last at start same =
    let many : EventInfo → ℕ = λ y. y.duration * length y.places in
    let long = firsts-many events firsts are in
    let below : e < length events = omega (arith, long, last.within) in
    let there = slice_get_read events (length events) e x (λ i. length events) below at in
    let low : tasks_before events e ≤ n = omega (arith, firsts-at events firsts are e 0 below, last.from 0) in
    let next : tasks_before events (e + 1) ≡ tasks_before events e + many x =
    sum_by_more many events e x below ∙ ap (λ y. tasks_before events e + many y) (sym at) in
    let high : n < tasks_before events (e + 1) =
    elim (cases_lt (e + 1) (length events)) [
      | inl less ↦ omega (arith, firsts-at events firsts are (e + 1) 0 less, last.to 0 (omega (arith, less, long)))
      | inr more ↦
          let end : e + 1 ≡ length events = omega (arith, more, below) in
          omega (arith, l, ap (tasks_before events) end, ap (sum_by many) (take-length events))
    ] in
    let it = task-in events e n x made there low (omega (arith, high, next)) in
    let begins : tasks_before events e ≡ first = sym (start ∙ firsts-at events firsts are e first below) in
    let whole : IsFound events n x (tasks_before events e) (length x.places) = record {
      some = it.some;
      slot = omega (arith, it.slot, length-slots_from 0 events);
      task = it.task;
    } in
    subst (λ (k : ℕ). IsFound events n x k places) begins
    (subst (λ (k : ℕ). IsFound events n x (tasks_before events e) k) (sym same) whole)

-- where the tasks of a slot begin, by its event
pub slot-owner : (events : List EventInfo) (slots : List ℕ) (m e : ℕ) → slots ≡ slots_from 0 events
    → AreFirstMeets 0 events → m < sum_by (λ (y : EventInfo). y.duration) events → e ≡ get_or slots m e
    → HasSlot events e m
slot-owner events slots m e are made l at =
    let within : m < length (slots_from 0 events) = omega (arith, l, length-slots_from 0 events) in
    let is : e ≡ get_or (slots_from 0 events) m 0 =
    get_or_read (slots_from 0 events) m e within (at ∙ ap (λ xs. get_or xs m e) are) 0 in
    subst (λ (k : ℕ). HasSlot events k m) (sym is) (slot-event m events made within)

pub owner-below : (events : List EventInfo) (m e : ℕ) → HasSlot events e m → e < length events
owner-below events m e h = slice_get_within events e h.0 h.1

pub record IsStart (events : List EventInfo) (m e : ℕ) (x : EventInfo) (places : ℕ) : Type 0 where
  pub low : x.first_meet ≤ m
  pub before : tasks_before events e + (m - x.first_meet) * places ≡ first_task events m
  pub few : first_task events m ≤ sum_by (λ (y : EventInfo). y.duration * length y.places) events

pub start-of : (events : List EventInfo) (m e : ℕ) (x : EventInfo) (places : ℕ) → AreFirstMeets 0 events
    → HasSlot events e m → x ≡ get_or events e x → places ≡ length x.places → IsStart events m e x places
start-of events m e x places made (y, there, low, high) at same =
    let is : y ≡ x = sym (at ∙ get_or_from_slice_get events e y x there) in
    let begins : y.first_meet ≡ x.first_meet = ap (λ (z : EventInfo). z.first_meet) is in
    let lasts : y.duration ≡ x.duration = ap (λ (z : EventInfo). z.duration) is in
    let least : x.first_meet ≤ m = omega (arith, low, begins) in
    let own = slot-in events e m x made (there ∙ ap Some is) least (omega (arith, high, begins, lasts)) in
    let all = sum-slots events 0 events (λ i. let z : 0 + i ≡ i = omega arith in ap (slice_get events) z) in
    record {
      low = least;
      before = ap (λ k. tasks_before events e + (m - x.first_meet) * k) same ∙ sym own.before;
      few = omega (arith, all, sum_by-take-le (places_at events) (slots_from 0 events) m);
    }
