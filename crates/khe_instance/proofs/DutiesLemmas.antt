-- The tasks of a state: each is one of the instance, and there are no more than it may have.
use Rattle.std.proofs.Common.{◌≡◌, ◌∙◌, sym, ap, subst, refl, ℕ, zero, suc, ◌+◌, ◌*◌, ◌<◌, ◌≤◌, ◌==◌, ◌⊎◌, inl, inr}
use Rattle.std.proofs.Common.{Bool, true, false, cond, Option, Some, List, [], ◌∷◌, map, length, get_or, All, Contains}
use Rattle.std.proofs.Common.{arith, add-one, count_by, sum_by, filter, option_map, slice_get, IfSome, eqb-true}
use Rattle.std.proofs.Common.{le_trans, add-mul, zero-add, one-mul, mul-zero, eq-eqb}
use Rattle.std.specs.List.{flat_map, range_with_len, AllPairs}
use Rattle.std.specs.List.Sorted.{IsStrictlyIncreasing}
use Rattle.std.specs.Option.{option_map_or, option_and_then}
use Rattle.std.proofs.lemmas.Bool.{cases_order, cases_Bool, cases_lt, cond_both, eqb-false, ne_eqb}
use Rattle.std.proofs.lemmas.List.{get_or-map, get_or_default, length-map}
use Rattle.std.proofs.lemmas.List.Concat.{length-flat_map}
use Rattle.std.proofs.lemmas.List.Elements.{All-nil, All-cons, All-head, All-tail, All-map, All-same, Contains-get_or}
use Rattle.std.proofs.lemmas.List.FromFn.{length-range_with_len, get_or-range_with_len}
use Rattle.std.proofs.lemmas.List.Kept.{AllPairs-from_increasing}
use Rattle.std.proofs.lemmas.List.Sums.{sum_by-cons, sum_by-le-sum_by, get_or-le-sum_by, length-filter}
use Rattle.std.proofs.lemmas.Nat.{mul-le}
use Rattle.std.proofs.lemmas.Option.{IfSome_then, none-some, slice_get_past, slice_get_cases, slice_get_within}
use Rattle.khe_base.proofs.ListLemmas.{All-flat_map}
use Rattle.khe_base.specs.declared.limits.TheConstants.{TASKS}
use Rattle.khe_base.specs.declared.numbers.ResourceId.{ResourceId}
use Rattle.khe_base.specs.declared.numbers.TaskId.{TaskId}
use Rattle.khe_instance.specs.Running.{duties, meets_of}
use Rattle.khe_instance.specs.Lookups.{places_at}
use Rattle.khe_instance.specs.States.{IsTold, IsMeet, IsGiven, AreOfState, IsDuty, AreDuties, tasks_of, place_of}
use Rattle.khe_instance.specs.WellMade.{AreWellMade, HasType}
use Rattle.khe_instance.specs.declared.parts.EventInfo.{EventInfo}
use Rattle.khe_instance.specs.declared.parts.Parts.{Parts}
use Rattle.khe_instance.specs.declared.parts.Place.{Place}
use Rattle.khe_instance.specs.declared.parts.ResourceInfo.{ResourceInfo}
use Rattle.khe_instance.specs.declared.states.Duty.{Duty}
use Rattle.khe_instance.specs.declared.states.Meet.{Meet}
use Rattle.khe_instance.specs.declared.states.Task.{Task}

All-where : {X : Type 0} (P : X → Type 0) (test : X → Bool) (xs : List X) → All (λ x. test x ≡ true → P x) xs
    → All P (filter test xs)
All-where P test [] h = All-nil P
All-where {X} P test (x ∷ xs) h =
    let rest : All P (filter test xs) = All-where P test xs (All-tail (λ y. test y ≡ true → P y) x xs h) in
    cond_both (test x) (x ∷ filter test xs) (filter test xs) (λ (ys : List X). All P ys)
    (λ e. All-cons P x (filter test xs) (All-head (λ y. test y ≡ true → P y) x xs h e) rest) (λ e. rest)

pub All-of_map : {X Y : Type 0} (P : Y → Type 0) (f : X → Y) (xs : List X) → All P (map f xs) → All (λ x. P (f x)) xs
All-of_map P f xs h k d l = subst P (get_or-map f xs k d (f d) l) (h k (f d) (let e = length-map xs f in omega arith))

abbrev duty_of : Meet → Task → Duty
duty_of m t = record { meet = m; place = t.task.place; resource = t.resource }

abbrev is_of : Meet → Task → Bool
is_of m t = t.task.meet.0 == m.meet.0

all-duties : (Q : Duty → Type 0) (ms : List Meet) (ts : List Task)
    → All (λ m. All (λ t. is_of m t ≡ true → Q (duty_of m t)) ts) ms → All Q (duties ms ts)
all-duties Q ms ts h =
    All-flat_map Q (λ m. map (duty_of m) (filter (is_of m) ts)) ms
    (λ k d l. All-map Q (duty_of (get_or ms k d)) (filter (is_of (get_or ms k d)) ts)
    (All-where (λ t. Q (duty_of (get_or ms k d) t)) (is_of (get_or ms k d)) ts (h k d l)))

abbrev number : Meet → ℕ
number m = m.meet.0

-- meets in ascending order are the same where their numbers are
apart : (ms : List Meet) → IsStrictlyIncreasing (map number ms) → AllPairs (λ a b. number a < number b) ms
apart ms up i j d less l =
    let long : length (map number ms) ≡ length ms = length-map ms number in
    let a : get_or (map number ms) i 0 ≡ number (get_or ms i d) = get_or-map number ms i d 0 (omega arith) in
    let b : get_or (map number ms) j 0 ≡ number (get_or ms j d) = get_or-map number ms j d 0 l in
    let h : get_or (map number ms) i 0 < get_or (map number ms) j 0 =
    AllPairs-from_increasing (map number ms) up i j 0 less (omega arith) in
    omega arith

same_meet : (ms : List Meet) → IsStrictlyIncreasing (map number ms) → (a b : Meet) → Contains ms a → Contains ms b
    → number a ≡ number b → a ≡ b
same_meet ms up a b (i, il, ie) (j, jl, je) e = by (cases_order i j)
  where
    at_a : (d : Meet) → get_or ms i d ≡ a
    at_a d = get_or_default ms i d a il ∙ ie

    at_b : (d : Meet) → get_or ms j d ≡ b
    at_b d = get_or_default ms j d b jl ∙ je

    by : (i ≡ j) ⊎ ((i < j) ⊎ (j < i)) → a ≡ b
    by (inl same) = sym (at_a a) ∙ ap (λ k. get_or ms k a) same ∙ at_b a
    by (inr (inl less)) =
        let h : number (get_or ms i a) < number (get_or ms j a) = apart ms up i j a less jl in
        let ea : number (get_or ms i a) ≡ number a = ap number (at_a a) in
        let eb : number (get_or ms j a) ≡ number b = ap number (at_b a) in
        absurd (omega arith)
    by (inr (inr more)) =
        let h : number (get_or ms j a) < number (get_or ms i a) = apart ms up j i a more il in
        let ea : number (get_or ms i a) ≡ number a = ap number (at_a a) in
        let eb : number (get_or ms j a) ≡ number b = ap number (at_b a) in
        absurd (omega arith)

-- a task of a meet fills a place of the meet's event
abbrev HasPlace : Parts → List Meet → TaskId → Type 0
HasPlace p ms id = (m : Meet) → Contains ms m → (id.meet.0 == number m) ≡ true → id.place < places_at p.events m.event.0

abbrev numbered : Meet → ℕ → TaskId
numbered m k = record { meet = m.meet; place = k }

places_of : (p : Parts) (ms : List Meet) → IsStrictlyIncreasing (map number ms)
    → All (HasPlace p ms) (flat_map (tasks_of p) ms)
places_of p ms up =
    All-flat_map (HasPlace p ms) (tasks_of p) ms
    (λ k d l. (let own = get_or ms k d in
    let n = places_at p.events own.event.0 in
    All-map (HasPlace p ms) (numbered own) (range_with_len 0 n)
    (λ j e h m there same. (let one : own ≡ m = same_meet ms up own m (Contains-get_or ms k d l) there
    (eqb-true (number own) (number m) same) in
    let long : length (range_with_len 0 n) ≡ n = length-range_with_len 0 n in
    let value : get_or (range_with_len 0 n) j e ≡ 0 + j = get_or-range_with_len 0 n j e (omega arith) in
    let places : n ≡ places_at p.events m.event.0 = ap (λ (x : Meet). places_at p.events x.event.0) one in
    omega arith))))

-- a meet is no longer than all meets of its event
pub within : (e : ℕ) (ms : List Meet) → All (λ m. m.event.0 ≡ e → m.duration ≤ sum_by (λ x. x.duration) (meets_of e ms))
    ms
within e [] = All-nil (λ m. m.event.0 ≡ e → m.duration ≤ 0)
within e (x ∷ xs) =
    let there : Meet → Bool = λ m. m.event.0 == e in
    let total : List Meet → ℕ = sum_by (λ m. m.duration) in
    let whole = total (filter there (x ∷ xs)) in
    let grown : total (filter there xs) ≤ whole =
    cond_both (there x) (x ∷ filter there xs) (filter there xs) (λ (ys : List Meet). total (filter there xs) ≤ total ys)
    (λ holds. omega (arith, sum_by-cons (λ (m : Meet). m.duration) x (filter there xs))) (λ differs. omega arith)
    in
    let head : x.event.0 ≡ e → x.duration ≤ whole =
    λ same. cond_both (there x) (x ∷ filter there xs) (filter there xs) (λ (ys : List Meet). x.duration ≤ total ys)
    (λ holds. omega (arith, sum_by-cons (λ (m : Meet). m.duration) x (filter there xs)))
    (λ differs. absurd (eqb-false x.event.0 e differs same))
    in
    All-cons (λ m. m.event.0 ≡ e → m.duration ≤ whole) x xs head (λ k d l same. le_trans (within e xs k d l same) grown)

-- a given resource is one of the instance
pub typed : (p : Parts) (rtype : ℕ) (r : ResourceId) → HasType p rtype r → r.0 < length p.resources
typed p rtype r h = by (cases_lt r.0 (length p.resources))
  where
    by : (r.0 < length p.resources) ⊎ (length p.resources ≤ r.0) → r.0 < length p.resources
    by (inl less) = less
    by (inr more) =
        absurd (none-some rtype (sym (ap (λ (o : Option ResourceInfo). option_map (λ x. x.rtype) o)
        (slice_get_past p.resources r.0 more)) ∙ h))

-- what is known of a task of a state
abbrev Stands : Parts → List Meet → Duty → Type 0
Stands p ms d = IsMeet p d.meet × Contains ms d.meet × (d.place < places_at p.events d.meet.event.0)

standing : (p : Parts) (ms : List Meet) (ts : List Task) → IsTold p ms ts → All (Stands p ms) (duties ms ts)
standing p ms ts told =
    let ids : All (HasPlace p ms) (map (λ t. t.task) ts) =
    All-same (HasPlace p ms) (map (λ t. t.task) ts) (flat_map (tasks_of p) ms) told.tasks
    (places_of p ms told.ascending) in
    let each : All (λ t. HasPlace p ms t.task) ts = All-of_map (HasPlace p ms) (λ t. t.task) ts ids in
    all-duties (Stands p ms) ms ts
    (λ k d l. λ j t h same. (
      told.meets k d l,
      Contains-get_or ms k d l,
      each j t h (get_or ms k d)
          (Contains-get_or ms k d l) same,
    ))

given_place : (p : Parts) (d : Duty) (event : EventInfo) → slice_get p.events d.meet.event.0 ≡ Some event
    → d.place < places_at p.events d.meet.event.0 → (place : Place) × (place_of p d ≡ Some place)
given_place p d event there h =
    let long : places_at p.events d.meet.event.0 ≡ length event.places =
    ap (λ (o : Option EventInfo). option_map_or (λ x. length x.places) o 0) there in
    let at : place_of p d ≡ slice_get event.places d.place =
    ap (λ (o : Option EventInfo). option_and_then (λ x. slice_get x.places d.place) o) there in
    elim (slice_get_cases event.places d.place).1 [
      | inl found ↦ (found.0, at ∙ found.2)
      | inr past ↦ absurd (let l : length event.places ≤ d.place = past.0 in omega arith)
    ]

is-duty : (p : Parts) (ms : List Meet) (ts : List Task) → IsTold p ms ts → (d : Duty) → Stands p ms d → IsGiven p d
    → IsDuty p d
is-duty p ms ts told d (meet, there, filled) given =
    let slot = meet.slot in
    let place = given_place p d slot.0 slot.1 filled in
    let typed_all : IfSome d.resource (HasType p place.0.rtype) =
    subst (λ (o : Option Place). IfSome o (λ x. IfSome d.resource (HasType p x.rtype))) place.1 given in
    record {
      ends = meet.ends;
      given = IfSome_then d.resource typed_all (λ r h. typed p place.0.rtype r h);
      event = slot.0;
      there = slot.1;
      part =
          let own = within d.meet.event.0 ms there.0 d.meet there.1 in
          let same = there.2 in
          let one : d.meet.duration ≤ sum_by (λ x. x.duration) (meets_of d.meet.event.0 ms) =
          subst (λ (m : Meet). m.event.0 ≡ d.meet.event.0
          → m.duration ≤ sum_by (λ x. x.duration) (meets_of d.meet.event.0 ms)) same own refl in
          le_trans one (told.durations d.meet.event.0 slot.0 slot.1);
    }

abbrev one_if : Bool → ℕ
one_if b = cond b 1 0

-- sums over two numberings
pub sum_by-plus : {X : Type 0} (f g : X → ℕ) (xs : List X) → sum_by (λ x. f x + g x) xs ≡ sum_by f xs + sum_by g xs
sum_by-plus f g [] = refl
sum_by-plus f g (x ∷ xs) =
    let e = sum_by-cons (λ y. f y + g y) x xs in
    let ef = sum_by-cons f x xs in
    let eg = sum_by-cons g x xs in
    let rest = sum_by-plus f g xs in
    omega arith

-- no two meets have one number
once : (k : ℕ) (ms : List Meet) → AllPairs (λ a b. number a < number b) ms → count_by (λ m. k == number m) ms ≤ 1
once k [] h = omega arith
once k (m ∷ ms) h =
    let c = sum_by-cons (λ x. cond (k == number x) 1 0) m ms in
    by (cases_Bool (k == number m)) c (once k ms (λ i j d less l. h (suc i) (suc j) d (omega arith) (omega arith)))
  where
    none : k ≡ number m → (xs : List Meet) → All (λ x. number m < number x) xs → count_by (λ x. k == number x) xs ≤ 0
    none e [] later = omega arith
    none e (x ∷ xs) later =
        let c = sum_by-cons (λ y. cond (k == number y) 1 0) x xs in
        let less : number m < number x = All-head (λ y. number m < number y) x xs later in
        let differs : (k == number x) ≡ false = ne_eqb k (number x) (λ same. omega arith) in
        let z : one_if (k == number x) ≡ 0 = ap (λ b. one_if b) differs in
        let rest : count_by (λ y. k == number y) xs ≤ 0 = none e xs (All-tail (λ y. number m < number y) x xs later) in
        omega arith

    by : ((k == number m) ≡ true) ⊎ ((k == number m) ≡ false)
        → count_by (λ x. k == number x) (m ∷ ms) ≡ cond (k == number m) 1 0 + count_by (λ x. k == number x) ms
        → count_by (λ x. k == number x) ms ≤ 1 → count_by (λ x. k == number x) (m ∷ ms) ≤ 1
    by (inl holds) c rest =
        let z : one_if (k == number m) ≡ 1 = ap (λ b. one_if b) holds in
        let l : count_by (λ x. k == number x) ms ≤ 0 =
        none (eqb-true k (number m) holds) ms (λ i d less. h 0 (suc i) d (omega arith) (omega arith)) in
        omega arith
    by (inr differs) c rest =
        let z : one_if (k == number m) ≡ 0 = ap (λ b. one_if b) differs in
        omega arith

sum_zero : {X : Type 0} (xs : List X) → sum_by (λ x. 0) xs ≡ 0
sum_zero [] = refl
sum_zero (x ∷ xs) = sum_by-cons (λ y. 0) x xs ∙ zero-add (sum_by (λ y. 0) xs) ∙ sum_zero xs

-- each task is that of one meet at most
matched : (ms : List Meet) (ts : List Task) → AllPairs (λ a b. number a < number b) ms
    → sum_by (λ m. count_by (is_of m) ts) ms ≤ length ts
matched ms [] h = let e = sum_zero ms in omega arith
matched ms (t ∷ ts) h =
    let e : sum_by (λ m. count_by (is_of m) (t ∷ ts)) ms
    ≡ sum_by (λ m. cond (is_of m t) 1 0 + count_by (is_of m) ts) ms =
    λ i. sum_by (λ m. sum_by-cons (λ x. cond (is_of m x) 1 0) t ts i) ms
    in
    let split = sum_by-plus (λ m. cond (is_of m t) 1 0) (λ m. count_by (is_of m) ts) ms in
    let one : count_by (λ m. t.task.meet.0 == number m) ms ≤ 1 = once t.task.meet.0 ms h in
    let rest = matched ms ts h in
    omega arith

-- a sum over meets by their events
pub by_events : (w : ℕ → ℕ) (n : ℕ) (ms : List Meet) → All (λ m. m.event.0 < n) ms
    → sum_by (λ m. w m.event.0) ms ≤ sum_by (λ e. count_by (λ m. m.event.0 == e) ms * w e) (range_with_len 0 n)
by_events w n [] h = omega arith
by_events w n (m ∷ ms) h =
    let lhs = sum_by-cons (λ x. w x.event.0) m ms in
    let k = m.event.0 in
    let below : k < n = All-head (λ x. x.event.0 < n) m ms h in
    let mine : ℕ → ℕ = λ e. cond (k == e) 1 0 * w e in
    let theirs : ℕ → ℕ = λ e. count_by (λ x. x.event.0 == e) ms * w e in
    let e : sum_by (λ e. count_by (λ x. x.event.0 == e) (m ∷ ms) * w e) (range_with_len 0 n)
    ≡ sum_by (λ e. mine e + theirs e) (range_with_len 0 n) =
    λ i. sum_by (λ e. (ap (λ c. c * w e) (sum_by-cons (λ (x : Meet). cond (x.event.0 == e) 1 0) m ms)
    ∙ add-mul (cond (k == e) 1 0) (count_by (λ x. x.event.0 == e) ms) (w e)) i) (range_with_len 0 n)
    in
    let split = sum_by-plus mine theirs (range_with_len 0 n) in
    let long = length-range_with_len 0 n in
    let place : get_or (range_with_len 0 n) k 0 ≡ k = get_or-range_with_len 0 n k 0 below ∙ zero-add k in
    let here : mine (get_or (range_with_len 0 n) k 0) ≤ sum_by mine (range_with_len 0 n) =
    get_or-le-sum_by mine (range_with_len 0 n) k 0 (omega arith) in
    let own : mine (get_or (range_with_len 0 n) k 0) ≡ w k =
    ap mine place ∙ (λ i. cond (eq-eqb k k refl i) 1 0 * w k) ∙ one-mul (w k) in
    let rest = by_events w n ms (All-tail (λ x. x.event.0 < n) m ms h) in
    omega arith

-- a list is no longer than a sum over it of numbers above 0
pub length-le-sum_by : {X : Type 0} (f : X → ℕ) (xs : List X) → All (λ x. 1 ≤ f x) xs → length xs ≤ sum_by f xs
length-le-sum_by f [] h = omega arith
length-le-sum_by f (x ∷ xs) h =
    let e = sum_by-cons f x xs in
    let one : 1 ≤ f x = All-head (λ y. 1 ≤ f y) x xs h in
    let rest = length-le-sum_by f xs (All-tail (λ y. 1 ≤ f y) x xs h) in
    omega arith

-- no event has more meets than its duration
pub event_meets : (p : Parts) (ms : List Meet) (ts : List Task) → IsTold p ms ts → (e : ℕ) (event : EventInfo)
    → slice_get p.events e ≡ Some event
    → count_by (λ m. m.event.0 == e) ms ≤ event.duration
event_meets p ms ts told e event there =
    let lasting : All (λ m. 1 ≤ m.duration) (meets_of e ms) =
    All-where (λ m. 1 ≤ m.duration) (λ m. m.event.0 == e) ms (λ k d l holds. (told.meets k d l).duration) in
    let many : length (meets_of e ms) ≡ count_by (λ m. m.event.0 == e) ms =
    length-filter (λ (m : Meet). m.event.0 == e) ms in
    let few = length-le-sum_by (λ (m : Meet). m.duration) (meets_of e ms) lasting in
    let whole : sum_by (λ m. m.duration) (meets_of e ms) ≤ event.duration = told.durations e event there in
    omega arith

-- a sum over the numbers of a list is one over the list
shifted : (g : ℕ → ℕ) (a n : ℕ) → sum_by g (range_with_len (a + 1) n) ≡ sum_by (λ i. g (i + 1)) (range_with_len a n)
shifted g a zero = refl
shifted g a (suc n) =
    sum_by-cons g (a + 1) (range_with_len (a + 1 + 1) n) ∙ (λ i. g (a + 1) + shifted g (a + 1) n i)
    ∙ sym (sum_by-cons (λ i. g (i + 1)) a (range_with_len (a + 1) n))

pub numbered-sum : {X : Type 0} (f : X → ℕ) (xs : List X)
    → sum_by (λ i. option_map_or f (slice_get xs i) 0) (range_with_len 0 (length xs)) ≡ sum_by f xs
numbered-sum f [] = refl
numbered-sum f (x ∷ xs) =
    sum_by-cons (λ i. option_map_or f (slice_get (x ∷ xs) i) 0) 0 (range_with_len 1 (length xs))
    ∙ (λ j. f x + (shifted (λ i. option_map_or f (slice_get (x ∷ xs) i) 0) 0 (length xs)
    ∙ (λ k. sum_by (λ i. option_map_or f (slice_get (x ∷ xs) (add-one i k)) 0) (range_with_len 0 (length xs)))
    ∙ numbered-sum f xs) j)
    ∙ sym (sum_by-cons f x xs)

abbrev wanted : EventInfo → ℕ
wanted e = e.duration * length e.places

-- the tasks of the meets of one event
at_event : (p : Parts) (ms : List Meet) (ts : List Task) → IsTold p ms ts → (e : ℕ)
    → count_by (λ m. m.event.0 == e) ms * places_at p.events e ≤ option_map_or wanted (slice_get p.events e) 0
at_event p ms ts told e = elim (slice_get_cases p.events e).1 [
  | inl found ↦
      let event : EventInfo = found.0 in
      let there : slice_get p.events e ≡ Some event = found.2 in
      let few : count_by (λ m. m.event.0 == e) ms ≤ event.duration = event_meets p ms ts told e event there in
      let places : places_at p.events e ≡ length event.places =
      ap (λ (o : Option EventInfo). option_map_or (λ x. length x.places) o 0) there in
      let right : option_map_or wanted (slice_get p.events e) 0 ≡ event.duration * length event.places =
      ap (λ (o : Option EventInfo). option_map_or wanted o 0) there in
      let l : count_by (λ m. m.event.0 == e) ms * places_at p.events e ≤ event.duration * length event.places =
      mul-le (count_by (λ m. m.event.0 == e) ms) (places_at p.events e) event.duration (length event.places)
      (omega arith) (omega arith) in
      omega arith
  | inr past ↦
      let z : places_at p.events e ≡ 0 = ap (λ (o : Option EventInfo). option_map_or (λ x. length x.places) o 0)
      past.1 in
      let e0 : count_by (λ m. m.event.0 == e) ms * places_at p.events e ≡ 0 =
      ap (λ n. count_by (λ m. m.event.0 == e) ms * n) z ∙ mul-zero (count_by (λ m. m.event.0 == e) ms) in
      omega arith
]

few-tasks : (p : Parts) (ms : List Meet) (ts : List Task) → AreWellMade p → IsTold p ms ts → length ts ≤ TASKS
few-tasks p ms ts made told =
    let same : length ts ≡ length (flat_map (tasks_of p) ms) =
    sym (length-map ts (λ t. t.task)) ∙ ap length told.tasks in
    let each : length (flat_map (tasks_of p) ms) ≡ sum_by (λ m. length (tasks_of p m)) ms =
    length-flat_map (tasks_of p) ms in
    let many : sum_by (λ m. length (tasks_of p m)) ms ≡ sum_by (λ m. places_at p.events m.event.0) ms =
    λ i. sum_by (λ m. (length-map (range_with_len 0 (places_at p.events m.event.0)) (numbered m)
    ∙ length-range_with_len 0 (places_at p.events m.event.0)) i) ms
    in
    let n = length p.events in
    let below : All (λ m. m.event.0 < n) ms = λ k d l. slice_get_within p.events (get_or ms k d).event.0
    ((told.meets k d l).slot.0) ((told.meets k d l).slot.1) in
    let sorted = by_events (places_at p.events) n ms below in
    let most : sum_by (λ e. count_by (λ m. m.event.0 == e) ms * places_at p.events e) (range_with_len 0 n) ≤ sum_by
    (λ e. option_map_or wanted (slice_get p.events e) 0) (range_with_len 0 n) =
    sum_by-le-sum_by (λ e. count_by (λ m. m.event.0 == e) ms * places_at p.events e)
    (λ e. option_map_or wanted (slice_get p.events e) 0) (range_with_len 0 n) (at_event p ms ts told)
    in
    let whole : sum_by (λ e. option_map_or wanted (slice_get p.events e) 0) (range_with_len 0 n)
    ≡ sum_by wanted p.events = numbered-sum wanted p.events in
    let limit : sum_by wanted p.events ≤ TASKS = made.limits.tasks in
    omega arith

few-duties : (p : Parts) (ms : List Meet) (ts : List Task) → AreWellMade p → IsTold p ms ts
    → length (duties ms ts) ≤ TASKS
few-duties p ms ts made told =
    let long : length (duties ms ts) ≡ sum_by (λ m. length (map (duty_of m) (filter (is_of m) ts))) ms =
    length-flat_map (λ m. map (duty_of m) (filter (is_of m) ts)) ms
    in
    let counted : sum_by (λ m. length (map (duty_of m) (filter (is_of m) ts))) ms
    ≡ sum_by (λ m. count_by (is_of m) ts) ms =
    λ i. sum_by (λ m. (length-map (filter (is_of m) ts) (duty_of m) ∙ length-filter (is_of m) ts) i) ms
    in
    let few = matched ms ts (apart ms told.ascending) in
    let most = few-tasks p ms ts made told in
    omega arith

-- the tasks of a state are such tasks
pub are-duties : (p : Parts) (ms : List Meet) (ds : List Duty) → AreWellMade p → AreOfState p ms ds → AreDuties p ds
are-duties p ms ds made of =
    let ts = of.tasks in
    let own : AreDuties p (duties ms ts) = record {
      each = λ k d l. is-duty p ms ts of.told (get_or (duties ms ts) k d) (standing p ms ts of.told k d l)
          (of.told.given k d l);
      few = few-duties p ms ts made of.told;
    } in
    subst (AreDuties p) (sym of.same) own
