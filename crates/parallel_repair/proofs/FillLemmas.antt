-- A timetable is that of one state alone: free slots that are filled by its lists are the state's.
use Rattle.std.proofs.Common.{ℕ, ◌≡◌, ◌+◌, ◌<◌, ◌≤◌, cond, Option, Some, None, List, [], ◌∷◌, ◌++◌, length, map, take}
use Rattle.std.proofs.Common.{drop, refl, sym, ap, ◌∙◌, arith}
use Rattle.std.specs.Prelude.{All}
use Rattle.std.proofs.lemmas.Bool.{eq-eqb, ne_eqb}
use Rattle.std.proofs.lemmas.List.{length-replicate}
use Rattle.std.proofs.lemmas.List.Elements.{All-head, All-tail, All-weaker}
use Rattle.khe_base.specs.declared.numbers.ResourceId.{ResourceId}
use Rattle.khe_engine.specs.Openings.{IsStateOf}
use Rattle.khe_engine.specs.States.{State}
use Rattle.khe_instance.specs.WellMade.{AreWellMade}
use Rattle.khe_instance.specs.declared.parts.Parts.{Parts}
use Rattle.khe_instance.specs.declared.states.Meet.{Meet}
use Rattle.khe_instance.specs.declared.states.Plain.{Plain}
use Rattle.khe_instance.specs.declared.states.Task.{Task}
use Rattle.khe_told.proofs.DutyLaws.{AreFrom}
use Rattle.khe_told.proofs.FrameLaws.{told_from}
use Rattle.khe_told.specs.Fits.{IsSlot}
use Rattle.khe_told.specs.Lists.{meets_in, tasks_in, tasks_with}
use Rattle.khe_told.specs.Slots.{IsBareIfFree, emptied, no_meets}
use Rattle.khe_told.specs.declared.slots.Slot.{Slot}
use Rattle.khe_told.specs.declared.slots.Span.{Span}
use Rattle.parallel_repair.specs.Listed.{filled, state_in, with_meet}

same_first : {A : Type 0} (a b : A) (xs ys : List A) → a ∷ xs ≡ b ∷ ys → a ≡ b
same_first a b xs ys e = cc

no_first : {A : Type 0} (a : A) (xs : List A) → [] ≡ a ∷ xs → ⊥
no_first a xs e = cc

-- the tasks of a meet give back what its places are given, and those after them are left
given_back : (m : Meet) (k : ℕ) (g : List (Option ResourceId)) (ts : List Task)
    → map (λ (t : Task). t.resource) (take (length g) (tasks_with m k g ++ ts)) ≡ g
given_back m k [] ts = refl
given_back m k (r ∷ g) ts = ap (λ xs. r ∷ xs) (given_back m (k + 1) g ts)

tasks_left : (m : Meet) (k : ℕ) (g : List (Option ResourceId)) (ts : List Task)
    → drop (length g) (tasks_with m k g ++ ts) ≡ ts
tasks_left m k [] ts = refl
tasks_left m k (r ∷ g) ts = tasks_left m (k + 1) g ts

-- the first meet of slots that are numbered from a number on
first_step : (low : ℕ) (x : Slot) (xs : List Slot) (m : Meet) (ms : List Meet) (o : Option Span) → low ≤ x.meet.0
    → (meets_in xs ≡ m ∷ ms → x.meet.0 + 1 ≤ m.meet.0)
    → meets_in (record x { span = o } ∷ xs) ≡ m ∷ ms → low ≤ m.meet.0
first_step low x xs m ms None l rest e = let y = rest e in omega (arith, l, y)
first_step low x xs m ms (Some d) l rest e =
    let same : x.meet.0 ≡ m.meet.0 = ap (λ (n : Meet). n.meet.0)
    (same_first (record { meet = x.meet; event = x.event; duration = d.duration; start = d.start }) m (meets_in xs)
    ms e) in
    omega (arith, l, same)

first_from : (low : ℕ) (s : List Slot) (m : Meet) (ms : List Meet) → AreFrom low s → meets_in s ≡ m ∷ ms
    → low ≤ m.meet.0
first_from low [] m ms f e = absurd (no_first m ms e)
first_from low (x ∷ xs) m ms f e = first_step low x xs m ms x.span f.0 (λ h. first_from (x.meet.0 + 1) xs m ms f.1 h) e

-- a slot whose meet isn't the first stays free, and one whose meet is the first gets it
passed : (y : Slot) (s : List Slot) (ms : List Meet) (ts : List Task)
    → ((m : Meet) (rest : List Meet) → ms ≡ m ∷ rest → y.meet.0 < m.meet.0)
    → filled (y ∷ s) ms ts ≡ y ∷ filled s ms ts
unfolding filled
passed y s [] ts h = refl
passed y s (m ∷ ms) ts h =
    let below : y.meet.0 < m.meet.0 = h m ms refl in
    ap (λ b. cond b (with_meet y m ts ∷ filled s ms (drop (length y.given) ts)) (y ∷ filled s (m ∷ ms) ts))
    (ne_eqb m.meet.0 y.meet.0 (λ e. omega (arith, e, below)))

met : (y : Slot) (s : List Slot) (m : Meet) (ms : List Meet) (ts : List Task) → m.meet.0 ≡ y.meet.0
    → filled (y ∷ s) (m ∷ ms) ts ≡ with_meet y m ts ∷ filled s ms (drop (length y.given) ts)
unfolding filled
met y s m ms ts e =
    ap (λ b. cond b (with_meet y m ts ∷ filled s ms (drop (length y.given) ts)) (y ∷ filled s (m ∷ ms) ts))
    (eq-eqb m.meet.0 y.meet.0 e)

-- a slot comes back from what it is without its meet
bare_back : (x : Slot) → IsBareIfFree (record x { span = None }) → emptied x ≡ record x { span = None }
bare_back x bare = ap (λ (g : List (Option ResourceId)). record x { span = None; given = g }) (sym (bare refl))

meet_back : (x : Slot) (d : Span) (m : Meet) (ts : List Task) → d ≡ record { duration = m.duration; start = m.start }
    → with_meet (emptied x) m (tasks_with m 0 x.given ++ ts) ≡ record x { span = Some d }
meet_back x d m ts e =
    ap (λ n. record x {
      span = Some (record { duration = m.duration; start = m.start });
      given = map (λ (t : Task). t.resource) (take n (tasks_with m 0 x.given ++ ts));
    }) (length-replicate {A = Option ResourceId} (length x.given) None)
    ∙ ap (λ (g : List (Option ResourceId)). record x
    { span = Some (record { duration = m.duration; start = m.start }); given = g }) (given_back m 0 x.given ts)
    ∙ ap (λ (y : Span). record x { span = Some y }) (sym e)

step : (x : Slot) (xs : List Slot) (o : Option Span) → IsBareIfFree (record x { span = o }) → AreFrom (x.meet.0 + 1) xs
    → filled (map emptied xs) (meets_in xs) (tasks_in xs) ≡ xs
    → filled (emptied x ∷ map emptied xs) (meets_in (record x { span = o } ∷ xs))
    (tasks_in (record x { span = o } ∷ xs)) ≡ record x { span = o } ∷ xs
step x xs None bare from rest =
    passed (emptied x) (map emptied xs) (meets_in xs) (tasks_in xs)
    (λ m ms e. let above = first_from (x.meet.0 + 1) xs m ms from e in omega (arith, above))
    ∙ ap (λ y. y ∷ filled (map emptied xs) (meets_in xs) (tasks_in xs)) (bare_back x bare)
    ∙ ap (λ ys. record x { span = None } ∷ ys) rest
step x xs (Some d) bare from rest =
    let m : Meet = record { meet = x.meet; event = x.event; duration = d.duration; start = d.start } in
    let ts : List Task = tasks_with m 0 x.given ++ tasks_in xs in
    let more : List Slot → List Slot = λ ys. record x { span = Some d } ∷ ys in
    met (emptied x) (map emptied xs) m (meets_in xs) ts refl
    ∙ ap (λ y. y ∷ filled (map emptied xs) (meets_in xs) (drop (length (emptied x).given) ts))
    (meet_back x d m (tasks_in xs) refl)
    ∙ ap (λ n. more (filled (map emptied xs) (meets_in xs) (drop n ts)))
    (length-replicate {A = Option ResourceId} (length x.given) None)
    ∙ ap (λ us. more (filled (map emptied xs) (meets_in xs) us)) (tasks_left m 0 x.given (tasks_in xs))
    ∙ ap more rest

filled_back : (low : ℕ) (s : List Slot) → AreFrom low s → All IsBareIfFree s
    → filled (map emptied s) (meets_in s) (tasks_in s) ≡ s
unfolding filled
filled_back low [] f b = refl
filled_back low (x ∷ xs) f b =
    step x xs x.span (All-head IsBareIfFree x xs b) f.1
    (filled_back (x.meet.0 + 1) xs f.1 (All-tail IsBareIfFree x xs b))

pub state_is : (p : Parts) (plain : Plain) (s : State) → AreWellMade p → IsStateOf p plain s → s ≡ state_in p plain
unfolding state_in
state_is p plain s made is =
    let t = is.told in
    let back = filled_back 0 s.slots (told_from p s.slots made.first_meets t.whose)
    (All-weaker (IsSlot p) IsBareIfFree (λ x z. z.empty) s.slots t.slots) in
    let slots : s.slots ≡ filled (no_meets p) plain.meets plain.tasks =
    sym back ∙ (λ i. filled (t.whose i) (is.meets i) (is.tasks i)) in
    λ i. record { slots = slots i; grouping = is.grouping i }
