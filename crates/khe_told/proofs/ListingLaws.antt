-- A told state as a Plain's lists: what is true of its slots is true of the meets, tasks and duties
-- that it lists, and the other way round.
use Rattle.std.proofs.Common.{ℕ, ◌≡◌, ◌+◌, ◌<◌, ◌≤◌, Bool, true, false, cond, zero, suc, Option, Some, None, List, []}
use Rattle.std.proofs.Common.{◌∷◌, ◌++◌, length, map, slice_get, refl, sym, ap, subst, ◌∙◌, arith, zero-add}
use Rattle.std.specs.Prelude.{All, ◌==◌, IfSome, slice_index}
use Rattle.std.specs.List.{flat_map, range_with_len, sum_by}
use Rattle.std.specs.List.Sorted.{IsStrictlyIncreasing}
use Rattle.std.specs.Option.{option_map_or}
use Rattle.std.proofs.lemmas.List.{map-append}
use Rattle.std.proofs.lemmas.List.Concat.{flat_map-cons}
use Rattle.std.proofs.lemmas.List.Elements.{All-nil, All-cons, All-head, All-tail}
use Rattle.std.proofs.lemmas.List.Sums.{sum_by-cons}
use Rattle.khe_base.specs.declared.numbers.ResourceId.{ResourceId}
use Rattle.khe_base.specs.declared.numbers.TaskId.{TaskId}
use Rattle.khe_instance.specs.Running.{meets_of}
use Rattle.khe_instance.specs.Slots.{slot_tasks}
use Rattle.khe_instance.specs.States.{tasks_of as tasks_wanted}
use Rattle.khe_instance.specs.declared.parts.Parts.{Parts}
use Rattle.khe_instance.specs.declared.states.Duty.{Duty}
use Rattle.khe_instance.specs.declared.states.Meet.{Meet}
use Rattle.khe_instance.specs.declared.states.Task.{Task}
use Rattle.khe_told.proofs.DutyLaws.{AreFrom}
use Rattle.khe_told.proofs.FrameLaws.{IsFrame}
use Rattle.khe_told.specs.Lists.{duties_with, meet_in, meets_in, tasks_in, tasks_of, tasks_with}
use Rattle.khe_told.specs.Slots.{held, held_by}
use Rattle.khe_told.specs.declared.slots.Slot.{Slot}
use Rattle.khe_told.specs.declared.slots.Span.{Span}

-- all meets, from each slot
pub All-meets : (P : Meet → Type 0) (s : List Slot) → All (λ x. IfSome (meet_in x) P) s → All P (meets_in s)
All-meets P [] h = All-nil P
All-meets P (x ∷ s) h = by x.span (All-head (λ x. IfSome (meet_in x) P) x s h)
    (All-meets P s (All-tail (λ x. IfSome (meet_in x) P) x s h))
  where
    by : (o : Option Span) → IfSome (meet_in (record x { span = o })) P → All P (meets_in s)
        → All P (meets_in (record x { span = o } ∷ s))
    by None h rest = rest
    by (Some y) h rest = All-cons P (record { meet = x.meet; event = x.event; duration = y.duration; start = y.start })
        (meets_in s) h rest

-- each slot, from all meets
pub meets-each : (P : Meet → Type 0) (s : List Slot) → All P (meets_in s) → All (λ x. IfSome (meet_in x) P) s
meets-each P [] h = All-nil (λ x. IfSome (meet_in x) P)
meets-each P (x ∷ s) h = by x.span h (meets-each P s)
  where
    by : (o : Option Span) → All P (meets_in (record x { span = o } ∷ s))
        → (All P (meets_in s) → All (λ x. IfSome (meet_in x) P) s)
        → All (λ x. IfSome (meet_in x) P) (record x { span = o } ∷ s)
    by None h rest = All-cons (λ x. IfSome (meet_in x) P) (record x { span = None }) s tt (rest h)
    by (Some y) h rest =
        let m : Meet = record { meet = x.meet; event = x.event; duration = y.duration; start = y.start } in
        All-cons (λ x. IfSome (meet_in x) P) (record x { span = Some y }) s (All-head P m (meets_in s) h)
        (rest (All-tail P m (meets_in s) h))

-- the duties of a meet from a place on, by what each place is given
pub All-duties_with : (P : Duty → Type 0) (m : Meet) (k : ℕ) (given : List (Option ResourceId))
    → ((i : ℕ) (r : Option ResourceId) → slice_get given i ≡ Some r
    → P (record { meet = m; place = k + i; resource = r })) → All P (duties_with m k given)
All-duties_with P m k [] h = All-nil P
All-duties_with P m k (r ∷ given) h =
    All-cons P (record { meet = m; place = k; resource = r }) (duties_with m (k + 1) given)
    (let z : k + 0 ≡ k = omega arith in subst (λ n. P (record { meet = m; place = n; resource = r })) z (h 0 r refl))
    (All-duties_with P m (k + 1) given (λ i o at.
    (let n : k + suc i ≡ k + 1 + i = omega arith in
    subst (λ j. P (record { meet = m; place = j; resource = o })) n (h (suc i) o at))))

pub duties_with-each : (P : Duty → Type 0) (m : Meet) (k : ℕ) (given : List (Option ResourceId))
    → All P (duties_with m k given)
    → (i : ℕ) (r : Option ResourceId) → slice_get given i ≡ Some r
    → P (record { meet = m; place = k + i; resource = r })
duties_with-each P m k [] h i r at = absurd (subst IsThere (sym at) tt)
  where
    IsThere : Option (Option ResourceId) → Type 0
    IsThere None = ⊥
    IsThere (Some a) = Unit {0}
duties_with-each P m k (x ∷ given) h zero r at =
    let z : k ≡ k + 0 = omega arith in
    let e : x ≡ r = ap (λ o. option_map_or (λ a. a) o x) at in
    subst (λ o. P (record { meet = m; place = k + 0; resource = o })) e
    (subst (λ n. P (record { meet = m; place = n; resource = x })) z
    (All-head P (record { meet = m; place = k; resource = x }) (duties_with m (k + 1) given) h))
duties_with-each P m k (x ∷ given) h (suc i) r at =
    let n : k + 1 + i ≡ k + suc i = omega arith in
    subst (λ j. P (record { meet = m; place = j; resource = r })) n
    (duties_with-each P m (k + 1) given (All-tail P (record { meet = m; place = k; resource = x })
    (duties_with m (k + 1) given) h) i r at)

All-front : {A : Type 0} (P : A → Type 0) (xs ys : List A) → All P (xs ++ ys) → All P xs
All-front P [] ys h = All-nil P
All-front P (x ∷ xs) ys h = All-cons P x xs (All-head P x (xs ++ ys) h) (All-front P xs ys (All-tail P x (xs ++ ys) h))

All-back : {A : Type 0} (P : A → Type 0) (xs ys : List A) → All P (xs ++ ys) → All P ys
All-back P [] ys h = h
All-back P (x ∷ xs) ys h = All-back P xs ys (All-tail P x (xs ++ ys) h)

-- what is true of all that is given is true of all that each element gives
pub flat_map-each : {A B : Type 0} (P : B → Type 0) (f : A → List B) (xs : List A) → All P (flat_map f xs)
    → All (λ x. All P (f x)) xs
flat_map-each P f [] h = All-nil (λ x. All P (f x))
flat_map-each P f (x ∷ xs) h =
    let g = subst (All P) (flat_map-cons f x xs) h in
    All-cons (λ x. All P (f x)) x xs (All-front P (f x) (flat_map f xs) g)
    (flat_map-each P f xs (All-back P (f x) (flat_map f xs) g))

-- the durations of an event's meets are what its slots hold
pub held_meets : (e : ℕ) (s : List Slot) → sum_by (λ (m : Meet). m.duration) (meets_of e (meets_in s)) ≡ held e s
held_meets e [] = refl
held_meets e (x ∷ s) = by x.span (held_meets e s) ∙ sym (sum_by-cons (held_by e) x s)
  where
    here : (b : Bool) (m : Meet) (ms : List Meet) (n : ℕ) → sum_by (λ (m : Meet). m.duration) ms ≡ n
        → sum_by (λ (m : Meet). m.duration) (cond b (m ∷ ms) ms) ≡ cond b m.duration 0 + n
    here true m ms n h = sum_by-cons (λ (m : Meet). m.duration) m ms ∙ ap (λ k. m.duration + k) h
    here false m ms n h = h ∙ sym (zero-add n)

    none : (b : Bool) (n : ℕ) → n ≡ cond b 0 0 + n
    none true n = sym (zero-add n)
    none false n = sym (zero-add n)

    by : (o : Option Span) → sum_by (λ (m : Meet). m.duration) (meets_of e (meets_in s)) ≡ held e s
        → sum_by (λ (m : Meet). m.duration) (meets_of e (meets_in (record x { span = o } ∷ s)))
        ≡ held_by e (record x { span = o }) + held e s
    by None h = h ∙ none (x.event.0 == e) (held e s)
    by (Some y) h = here (x.event.0 == e) (record
        { meet = x.meet; event = x.event; duration = y.duration; start = y.start }) (meets_of e (meets_in s)) (held e s)
        h

-- the tasks of a state are those that its meets want
own_tasks : (m : Meet) (k : ℕ) (given : List (Option ResourceId))
    → map (λ (t : Task). t.task) (tasks_with m k given)
    ≡ map (λ j. record { meet = record { 0 = m.meet.0 }; place = j }) (range_with_len k (length given))
own_tasks m k [] = refl
own_tasks m k (r ∷ given) = ap (λ (ts : List TaskId). record { meet = m.meet; place = k } ∷ ts)
    (own_tasks m (k + 1) given)

pub tasks_listed : (p : Parts) (s : List Slot) → All (IsFrame p.events) s
    → map (λ (t : Task). t.task) (tasks_in s) ≡ flat_map (tasks_wanted p) (meets_in s)
tasks_listed p [] h = refl
tasks_listed p (x ∷ s) h =
    ap (map (λ (t : Task). t.task)) (flat_map-cons tasks_of x s)
    ∙ map-append (λ (t : Task). t.task) (tasks_of x) (tasks_in s)
    ∙ ap (λ ts. map (λ (t : Task). t.task) (tasks_of x) ++ ts) (tasks_listed p s (All-tail (IsFrame p.events) x s h))
    ∙ by x.span
  where
    by : (o : Option Span) → map (λ (t : Task). t.task) (tasks_of (record x { span = o }))
        ++ flat_map (tasks_wanted p) (meets_in s) ≡ flat_map (tasks_wanted p) (meets_in (record x { span = o } ∷ s))
    by None = refl
    by (Some y) =
        let m : Meet = record { meet = x.meet; event = x.event; duration = y.duration; start = y.start } in
        ap (λ (ts : List TaskId). ts ++ flat_map (tasks_wanted p) (meets_in s))
        (own_tasks m 0 x.given ∙ ap (slot_tasks x.meet.0) (All-head (IsFrame p.events) x s h).places)
        ∙ sym (flat_map-cons (tasks_wanted p) m (meets_in s))

-- the numbers of its meets ascend
abbrev pub AreRising : ℕ → List ℕ → Type 0
AreRising low [] = Unit {0}
AreRising low (n ∷ ns) = (low ≤ n) × AreRising (n + 1) ns

rising_more : (low high : ℕ) (ns : List ℕ) → low ≤ high → AreRising high ns → AreRising low ns
rising_more low high [] l h = tt
rising_more low high (n ∷ ns) l h = (let k = h.0 in omega (arith, l, k), h.1)

meets_rise : (low : ℕ) (s : List Slot) → AreFrom low s → AreRising low (map (λ (m : Meet). m.meet.0) (meets_in s))
meets_rise low [] h = tt
meets_rise low (x ∷ s) h = by x.span (meets_rise (x.meet.0 + 1) s h.1)
  where
    by : (o : Option Span) → AreRising (x.meet.0 + 1) (map (λ (m : Meet). m.meet.0) (meets_in s))
        → AreRising low (map (λ (m : Meet). m.meet.0) (meets_in (record x { span = o } ∷ s)))
    by None r = rising_more low (x.meet.0 + 1) (map (λ (m : Meet). m.meet.0) (meets_in s))
        (let k = h.0 in omega (arith, k)) r
    by (Some y) r = (h.0, r)

pub increasing : (low : ℕ) (ns : List ℕ) → AreRising low ns → IsStrictlyIncreasing ns
increasing low [] h k l = absurd (omega (arith, l))
increasing low (n ∷ []) h k l = absurd (omega (arith, l))
increasing low (n ∷ (m ∷ ns)) h zero l = let k = h.1.0 in omega (arith, k)
increasing low (n ∷ (m ∷ ns)) h (suc k) l =
    let next : suc (k + 1) ≡ suc k + 1 = omega arith in
    subst (λ j. slice_index (m ∷ ns) k < slice_index (n ∷ (m ∷ ns)) j) next
    (increasing (n + 1) (m ∷ ns) h.1 k (omega (arith, l)))

pub meets_ascend : (low : ℕ) (s : List Slot) → AreFrom low s
    → IsStrictlyIncreasing (map (λ (m : Meet). m.meet.0) (meets_in s))
meets_ascend low s h = increasing low (map (λ (m : Meet). m.meet.0) (meets_in s)) (meets_rise low s h)
