-- A told state as plain lists: the duties of its meets and tasks are those of its slots.
use Rattle.std.proofs.Common.{ℕ, ◌≡◌, ◌+◌, ◌<◌, ◌≤◌, Bool, cond, Option, Some, None, List, [], ◌∷◌, ◌++◌, map, refl}
use Rattle.std.proofs.Common.{sym, ap, ◌∙◌, arith, append_assoc}
use Rattle.std.specs.Prelude.{◌==◌}
use Rattle.std.specs.List.{filter}
use Rattle.std.proofs.lemmas.Bool.{ne_eqb, eq-eqb}
use Rattle.std.proofs.lemmas.List.{append-nil}
use Rattle.std.proofs.lemmas.List.Elements.{filter-append}
use Rattle.khe_base.specs.declared.numbers.ResourceId.{ResourceId}
use Rattle.khe_instance.specs.Running.{duties}
use Rattle.khe_instance.specs.declared.states.Duty.{Duty}
use Rattle.khe_instance.specs.declared.states.Meet.{Meet}
use Rattle.khe_instance.specs.declared.states.Task.{Task}
use Rattle.khe_told.specs.Lists.{meets_in, duties_with, duties_in, tasks_with, tasks_of, tasks_in}
use Rattle.khe_told.specs.declared.slots.Slot.{Slot}
use Rattle.khe_told.specs.declared.slots.Span.{Span}

-- slots whose meets have ascending numbers, and tasks of meets with lower and with greater ones
abbrev pub AreFrom : ℕ → List Slot → Type 0
AreFrom low [] = Unit {0}
AreFrom low (x ∷ xs) = (low ≤ x.meet.0) × AreFrom (x.meet.0 + 1) xs

abbrev AreBelow : ℕ → List Task → Type 0
AreBelow high [] = Unit {0}
AreBelow high (t ∷ ts) = (t.task.meet.0 < high) × AreBelow high ts

abbrev AreAbove : ℕ → List Task → Type 0
AreAbove low [] = Unit {0}
AreAbove low (t ∷ ts) = (low < t.task.meet.0) × AreAbove low ts

abbrev is_of : ℕ → Task → Bool
is_of m t = t.task.meet.0 == m

abbrev duty : Meet → Task → Duty
duty m t = record { meet = m; place = t.task.place; resource = t.resource }

none_below : (m : ℕ) (ts : List Task) → AreBelow m ts → filter (is_of m) ts ≡ []
none_below m [] h = refl
none_below m (t ∷ ts) h = let n : t.task.meet.0 ≡ m → ⊥ = λ e. let l = h.0 in omega (arith, l, e) in
    ap (λ b. cond b (t ∷ filter (is_of m) ts) (filter (is_of m) ts)) (ne_eqb t.task.meet.0 m n) ∙ none_below m ts h.1

none_above : (m : ℕ) (ts : List Task) → AreAbove m ts → filter (is_of m) ts ≡ []
none_above m [] h = refl
none_above m (t ∷ ts) h = let n : t.task.meet.0 ≡ m → ⊥ = λ e. let l = h.0 in omega (arith, l, e) in
    ap (λ b. cond b (t ∷ filter (is_of m) ts) (filter (is_of m) ts)) (ne_eqb t.task.meet.0 m n) ∙ none_above m ts h.1

own_tasks : (m : Meet) (k : ℕ) (given : List (Option ResourceId))
    → filter (is_of m.meet.0) (tasks_with m k given) ≡ tasks_with m k given
own_tasks m k [] = refl
own_tasks m k (r ∷ rs) =
    ap (λ b. cond b (record { task = record { meet = m.meet; place = k }; resource = r } ∷ filter (is_of m.meet.0)
    (tasks_with m (k + 1) rs)) (filter (is_of m.meet.0) (tasks_with m (k + 1) rs))) (eq-eqb m.meet.0 m.meet.0 refl)
    ∙ ap (λ ts. record { task = record { meet = m.meet; place = k }; resource = r } ∷ ts) (own_tasks m (k + 1) rs)

own_duties : (m : Meet) (k : ℕ) (given : List (Option ResourceId))
    → map (duty m) (tasks_with m k given) ≡ duties_with m k given
own_duties m k [] = refl
own_duties m k (r ∷ rs) = ap (λ ds. record { meet = m; place = k; resource = r } ∷ ds) (own_duties m (k + 1) rs)

below_more : (a b : ℕ) (ts : List Task) → a ≤ b → AreBelow a ts → AreBelow b ts
below_more a b [] l h = tt
below_more a b (t ∷ ts) l h = (let k = h.0 in omega (arith, k, l), below_more a b ts l h.1)

below_both : (a : ℕ) (ts us : List Task) → AreBelow a ts → AreBelow a us → AreBelow a (ts ++ us)
below_both a [] us h k = k
below_both a (t ∷ ts) us h k = (h.0, below_both a ts us h.1 k)

above_both : (a : ℕ) (ts us : List Task) → AreAbove a ts → AreAbove a us → AreAbove a (ts ++ us)
above_both a [] us h k = k
above_both a (t ∷ ts) us h k = (h.0, above_both a ts us h.1 k)

below_own : (m : Meet) (k : ℕ) (given : List (Option ResourceId)) → AreBelow (m.meet.0 + 1) (tasks_with m k given)
below_own m k [] = tt
below_own m k (r ∷ rs) = (omega arith, below_own m (k + 1) rs)

above_own : (a : ℕ) (m : Meet) (k : ℕ) (given : List (Option ResourceId)) → a < m.meet.0
    → AreAbove a (tasks_with m k given)
above_own a m k [] l = tt
above_own a m k (r ∷ rs) l = (l, above_own a m (k + 1) rs l)

above_slot : (a : ℕ) (x : Slot) (o : Option Span) → a < x.meet.0 → AreAbove a (tasks_of (record x { span = o }))
above_slot a x None l = tt
above_slot a x (Some y) l = above_own a (record
    { meet = x.meet; event = x.event; duration = y.duration; start = y.start }) 0 x.given l

below_slot : (x : Slot) (o : Option Span) → AreBelow (x.meet.0 + 1) (tasks_of (record x { span = o }))
below_slot x None = tt
below_slot x (Some y) = below_own (record { meet = x.meet; event = x.event; duration = y.duration; start = y.start }) 0
    x.given

above_all : (a low : ℕ) (s : List Slot) → a < low → AreFrom low s → AreAbove a (tasks_in s)
above_all a low [] l h = tt
above_all a low (x ∷ xs) l h = above_both a (tasks_of x) (tasks_in xs)
    (above_slot a x x.span (let k = h.0 in omega (arith, l, k)))
    (above_all a (x.meet.0 + 1) xs (let k = h.0 in omega (arith, l, k)) h.1)

step : (low : ℕ) (before : List Task) (x : Slot) (xs : List Slot) (o : Option Span) → AreBelow low before
    → low ≤ x.meet.0 → AreFrom (x.meet.0 + 1) xs
    → duties (meets_in xs) ((before ++ tasks_of (record x { span = o })) ++ tasks_in xs) ≡ duties_in xs
    → duties (meets_in (record x { span = o } ∷ xs)) (before ++ tasks_in (record x { span = o } ∷ xs))
    ≡ duties_in (record x { span = o } ∷ xs)
step low before x xs None b l h rest = ap (λ ts. duties (meets_in xs) (ts ++ tasks_in xs)) (sym (append-nil before))
    ∙ rest
step low before x xs (Some y) b l h rest =
    let m : Meet = record { meet = x.meet; event = x.event; duration = y.duration; start = y.start } in
    let mine = tasks_with m 0 x.given in
    let all = before ++ (mine ++ tasks_in xs) in
    let front : filter (is_of m.meet.0) all ≡ mine =
    filter-append (is_of m.meet.0) before (mine ++ tasks_in xs)
    ∙ ap (λ ts. ts ++ filter (is_of m.meet.0) (mine ++ tasks_in xs))
    (none_below m.meet.0 before (below_more low m.meet.0 before l b))
    ∙ filter-append (is_of m.meet.0) mine (tasks_in xs)
    ∙ ap (λ ts. ts ++ filter (is_of m.meet.0) (tasks_in xs)) (own_tasks m 0 x.given)
    ∙ ap (λ ts. mine ++ ts) (none_above m.meet.0 (tasks_in xs) (above_all m.meet.0 (x.meet.0 + 1) xs (omega arith) h))
    ∙ append-nil mine in
    ap (λ ts. map (duty m) ts ++ duties (meets_in xs) all) front
    ∙ ap (λ ds. ds ++ duties (meets_in xs) all) (own_duties m 0 x.given)
    ∙ ap (λ ds. duties_with m 0 x.given ++ ds) (ap (duties (meets_in xs)) (sym (append_assoc before mine (tasks_in xs)))
    ∙ rest)

bridge : (low : ℕ) (before : List Task) (s : List Slot) → AreBelow low before → AreFrom low s
    → duties (meets_in s) (before ++ tasks_in s) ≡ duties_in s
bridge low before [] b h = refl
bridge low before (x ∷ xs) b h =
    step low before x xs x.span b h.0 h.1
    (bridge (x.meet.0 + 1) (before ++ tasks_of x) xs
    (below_both (x.meet.0 + 1) before (tasks_of x)
    (below_more low (x.meet.0 + 1) before (let l = h.0 in omega (arith, l)) b) (below_slot x x.span)) h.1)

-- the duties of a told state's plain lists are those of its slots
pub duties_listed : (low : ℕ) (s : List Slot) → AreFrom low s → duties (meets_in s) (tasks_in s) ≡ duties_in s
duties_listed low s h = bridge low [] s tt h
