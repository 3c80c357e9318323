-- What the counts of a group's events say of a told state.
use Rattle.std.proofs.Common.{ℕ, ◌≡◌, ◌≤◌, ◌<◌, ◌+◌, ◌==◌, ◌&&◌, ◌||◌, ◌∙◌, suc, Bool, true, false, not, cond, Option}
use Rattle.std.proofs.Common.{Some, None, List, [], ◌∷◌, length, slice_get, refl, sym, ap, ap₂, subst, arith, zero-add}
use Rattle.std.proofs.Common.{count_by, ◌⊎◌, inl, inr}
use Rattle.std.specs.Prelude.{nat_lt}
use Rattle.std.specs.List.{list_any, list_all, range_with_len}
use Rattle.std.specs.Option.{option_map_or}
use Rattle.std.proofs.lemmas.Bool.{cases_lt, le-ltb, lt-ltb}
use Rattle.std.proofs.lemmas.List.Sums.{sum_by-cons, count_by-le-length}
use Rattle.khe_base.specs.IdSet.{members_of}
use Rattle.khe_base.proofs.ListLemmas.{there}
use Rattle.khe_instance.specs.Deviation.{deviation_at}
use Rattle.khe_instance.specs.EventDeviation.{runs_apart}
use Rattle.khe_instance.specs.KindLaws.{IsOfKind, is_kind, of_kind, same_kind}
use Rattle.khe_instance.specs.Kinds.{kind_of}
use Rattle.khe_instance.specs.Running.{event_runs, meets_of, runs}
use Rattle.khe_instance.specs.WellMade.{IsMonitor, IsPointOf}
use Rattle.khe_instance.specs.declared.parts.GroupInfo.{GroupInfo}
use Rattle.khe_instance.specs.declared.parts.Parts.{Parts}
use Rattle.khe_instance.specs.declared.points.Monitor.{Monitor}
use Rattle.khe_instance.specs.declared.points.Point.{Point}
use Rattle.khe_instance.specs.declared.points.Point.TheVariants.{Event, EventResource, EventGroup, EventPair as Pair}
use Rattle.khe_instance.specs.declared.points.Point.TheVariants.{Resource}
use Rattle.khe_instance.specs.declared.rules.Constraint.{Constraint}
use Rattle.khe_instance.specs.declared.rules.Kind.TheVariants as kind
use Rattle.khe_instance.specs.declared.rules.Rule.TheVariants.{LinkEvents}
use Rattle.khe_instance.specs.declared.states.Meet.{Meet}
use Rattle.khe_told.specs.Agreement.{deviation_in}
use Rattle.khe_told.specs.Lists.{meets_in, duties_in}
use Rattle.khe_told.specs.declared.slots.Slot.{Slot}
use Rattle.khe_told.specs.declared.slots.Span.{Span}
use Rattle.timetables.specs.Counts.{is_busy, row_of}
use Rattle.set_monitors.specs.LinkCounts.{AreLinked, apart_times, is_apart, one_if, running_at}
use Rattle.set_monitors.specs.Links.{AreOfGroup, members_at, meets_at, slot_runs}

-- some of a list pass where the number of items that pass is above 0, and all where it is that of the list
above_one : (b : Bool) (n : ℕ) → nat_lt 0 (one_if b + n) ≡ (b || nat_lt 0 n)
above_one true n = lt-ltb 0 (1 + n) (omega arith)
above_one false n = ap (nat_lt 0) (zero-add n)

module _ (f : ℕ → Bool) where
  counted : (x : ℕ) (xs : List ℕ) → count_by f (x ∷ xs) ≡ one_if (f x) + count_by f xs
  counted x xs = sum_by-cons (λ y. one_if (f y)) x xs

  some_pass : (xs : List ℕ) → nat_lt 0 (count_by f xs) ≡ list_any f xs
  some_pass [] = refl
  some_pass (x ∷ xs) = ap (nat_lt 0) (counted x xs) ∙ above_one (f x) (count_by f xs)
      ∙ ap (λ b. f x || b) (some_pass xs)

  all_pass : (xs : List ℕ) → nat_lt (count_by f xs) (length xs) ≡ not (list_all f xs)
  all_pass [] = refl
  all_pass (x ∷ xs) = ap (λ n. nat_lt n (length (x ∷ xs))) (counted x xs) ∙ by (f x) (all_pass xs)
    where
      few : count_by f xs ≤ length xs
      few = count_by-le-length f xs

      both : (count_by f xs < length xs) ⊎ (length xs ≤ count_by f xs)
          → nat_lt (1 + count_by f xs) (length (x ∷ xs)) ≡ nat_lt (count_by f xs) (length xs)
      both (inl l) = lt-ltb (1 + count_by f xs) (length (x ∷ xs)) (omega (arith, l))
          ∙ sym (lt-ltb (count_by f xs) (length xs) l)
      both (inr l) = le-ltb (1 + count_by f xs) (length (x ∷ xs)) (omega (arith, l))
          ∙ sym (le-ltb (count_by f xs) (length xs) l)

      by : (b : Bool) → nat_lt (count_by f xs) (length xs) ≡ not (list_all f xs)
          → nat_lt (one_if b + count_by f xs) (length (x ∷ xs)) ≡ not (b && list_all f xs)
      by true rest = both (cases_lt (count_by f xs) (length xs)) ∙ rest
      by false rest = lt-ltb (0 + count_by f xs) (length (x ∷ xs)) (omega (arith, few))

-- rows of events that run where a test passes
running_as : (t : ℕ) (f : ℕ → Bool) (rows : List (List ℕ)) (members : List ℕ) → length rows ≡ length members
    → ((i e : ℕ) → slice_get members i ≡ Some e → is_busy (row_of rows i) t ≡ f e)
    → running_at rows t ≡ count_by f members
running_as t f [] [] n h = refl
running_as t f [] (e ∷ members) n h = absurd (omega (arith, n))
running_as t f (r ∷ rows) [] n h = absurd (omega (arith, n))
running_as t f (r ∷ rows) (e ∷ members) n h =
    let a = sum_by-cons (λ x. one_if (is_busy x t)) r rows in
    let b = counted f e members in
    let here = ap one_if (h 0 e refl) in
    let rest = running_as t f rows members (omega (arith, n)) (λ i e g. h (suc i) e g) in
    omega (arith, a, b, here, rest)

apart_as : (t : ℕ) (f : ℕ → Bool) (rows : List (List ℕ)) (members : List ℕ) → length rows ≡ length members
    → ((i e : ℕ) → slice_get members i ≡ Some e → is_busy (row_of rows i) t ≡ f e)
    → is_apart (running_at rows t) (length rows) ≡ (list_any f members && not (list_all f members))
apart_as t f rows members n h = ap₂ is_apart (running_as t f rows members n h) n
    ∙ ap₂ (λ a b. a && b) (some_pass f members) (all_pass f members)

-- an event runs where some of its meets do
events_run : (t e : ℕ) (s : List Slot) → event_runs (meets_in s) t e ≡ nat_lt 0 (meets_at s e t)
events_run t e [] = refl
events_run t e (x ∷ s) = by x.span (events_run t e s)
    ∙ sym (ap (nat_lt 0) (sum_by-cons (λ (y : Slot). one_if ((y.event.0 == e) && slot_runs y t)) x s))
  where
    one : (b : Bool) (m : Meet) → event_runs (meets_in s) t e ≡ nat_lt 0 (meets_at s e t)
        → list_any (λ m. runs m t) (cond b (m ∷ meets_of e (meets_in s)) (meets_of e (meets_in s)))
        ≡ nat_lt 0 (one_if (b && runs m t) + meets_at s e t)
    one true m rest = ap (λ b. runs m t || b) rest ∙ sym (above_one (runs m t) (meets_at s e t))
    one false m rest = rest ∙ sym (ap (nat_lt 0) (zero-add (meets_at s e t)))

    none : (b : Bool) → meets_at s e t ≡ one_if (b && false) + meets_at s e t
    none true = sym (zero-add (meets_at s e t))
    none false = sym (zero-add (meets_at s e t))

    by : (o : Option Span) → event_runs (meets_in s) t e ≡ nat_lt 0 (meets_at s e t)
        → event_runs (meets_in (record x { span = o } ∷ s)) t e
        ≡ nat_lt 0 (one_if ((x.event.0 == e) && slot_runs (record x { span = o }) t) + meets_at s e t)
    by None rest = rest ∙ ap (nat_lt 0) (none (x.event.0 == e))
    by (Some y) rest = one (x.event.0 == e) (record
        { meet = x.meet; event = x.event; duration = y.duration; start = y.start }) rest

-- so the times at which some of the events run and some do not are the deviation
rows_exact : (p : Parts) (s : List Slot) (rows : List (List ℕ)) (times : ℕ) (point : Point)
    → IsPointOf p LinkEvents point → AreOfGroup p point s rows times
    → deviation_at p (meets_in s) (duties_in s) LinkEvents point ≡ apart_times rows times
rows_exact p s rows times (EventGroup g) i k =
    let group = there p.groups g i in
    let meets = meets_in s in
    let members = members_of group.value.events in
    let found : members_at p (EventGroup g) ≡ members =
    ap (λ o. option_map_or (λ (x : GroupInfo). members_of x.events) o []) group.found in
    let each : (t : ℕ) → is_apart (running_at rows t) (length rows)
    ≡ runs_apart (event_runs meets t) group.value.events =
    λ t. apart_as t (event_runs meets t) rows members (k.amount ∙ ap length found)
    (λ i e h. ap (nat_lt 0) (k.cells i e t (ap (λ ms. slice_get ms i) found ∙ h)) ∙ sym (events_run t e s)) in
    ap (λ o. option_map_or (λ (x : GroupInfo). count_by (λ t. runs_apart (event_runs meets t) x.events)
    (range_with_len 0 (length p.times))) o 0) group.found
    ∙ sym ((λ j. count_by (λ t. each t j) (range_with_len 0 times))
    ∙ ap (λ n. count_by (λ t. runs_apart (event_runs meets t) group.value.events) (range_with_len 0 n)) k.all)
rows_exact p s rows times (Event e) i k = absurd i
rows_exact p s rows times (EventResource e q) i k = absurd i
rows_exact p s rows times (Pair q) i k = absurd i
rows_exact p s rows times (Resource r) i k = absurd i

-- a monitor's rule is the kind's
pub rule_is : (p : Parts) (m : Monitor) (monitor : IsMonitor p m) → is_kind m.kind kind.LinkEvents ≡ true
    → monitor.0.rule ≡ LinkEvents
rule_is p m monitor serves =
    let r = monitor.0.rule in
    subst (λ a. IsOfKind a r) (same_kind (kind_of r) kind.LinkEvents
    (ap (λ k. is_kind k kind.LinkEvents) (sym monitor.2) ∙ serves)) (of_kind r)

pub point_is : (p : Parts) (m : Monitor) (monitor : IsMonitor p m) → is_kind m.kind kind.LinkEvents ≡ true
    → IsPointOf p LinkEvents m.point
point_is p m monitor serves = subst (λ r. IsPointOf p r m.point) (rule_is p m monitor serves) monitor.3

pub linked_exact : (p : Parts) (m : Monitor) (s : List Slot) (rows : List (List ℕ)) (events : ℕ) (running : List ℕ)
    (apart : ℕ) → IsMonitor p m → is_kind m.kind kind.LinkEvents ≡ true
    → AreOfGroup p m.point s rows (length running) → AreLinked rows events running apart → deviation_in p s m ≡ apart
linked_exact p m s rows events running apart monitor serves k l =
    ap (λ o. option_map_or (λ (c : Constraint). deviation_at p (meets_in s) (duties_in s) c.rule m.point) o 0) monitor.1
    ∙ ap (λ r. deviation_at p (meets_in s) (duties_in s) r m.point) (rule_is p m monitor serves)
    ∙ rows_exact p s rows (length running) m.point (point_is p m monitor serves) k
    ∙ sym l.total
