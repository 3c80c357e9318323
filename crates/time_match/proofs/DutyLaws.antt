-- What a resource given to a task changes of sums over duties, and what it leaves of meets and of duties of other
-- events.
use Rattle.std.proofs.Common.{ℕ, zero, suc, ◌≡◌, ◌+◌, ◌<◌, ◌++◌, Bool, true, false, cond, Option, Some, None}
use Rattle.std.proofs.Common.{List, [], ◌∷◌, length, get_or, set, sum_by, refl, sym, ap, ◌∙◌, arith, inl, inr}
use Rattle.std.specs.Prelude.{is_some}
use Rattle.std.specs.List.{cons_option, filter}
use Rattle.std.proofs.lemmas.Bool.{and_parts, cases_lt, ltb-true, true≢false}
use Rattle.std.proofs.lemmas.List.{get_or_past}
use Rattle.std.proofs.lemmas.List.Elements.{filter-append}
use Rattle.std.proofs.lemmas.List.Sums.{sum_by-append, sum_by-cons, sum_by-set}
use Rattle.khe_base.specs.declared.numbers.ResourceId.{ResourceId}
use Rattle.khe_base.specs.declared.numbers.TaskId.{TaskId}
use Rattle.khe_instance.specs.declared.states.Duty.{Duty}
use Rattle.khe_instance.specs.declared.states.Meet.{Meet}
use Rattle.khe_solution.specs.Editing.{staffed, with_resource}
use Rattle.khe_solution.specs.Reading.{has_place, resource_at}
use Rattle.khe_told.specs.Lists.{duties_in, duties_of, duties_with, meet_in, meets_in}
use Rattle.khe_told.specs.Slots.{no_slot, slot_at}
use Rattle.khe_told.specs.declared.slots.Slot.{Slot}
use Rattle.khe_told.specs.declared.slots.Span.{Span}
use Rattle.time_match.specs.Alike.{duty_in}

-- the slot of a task that is there
pub task_there : (s : List Slot) (t : TaskId) → has_place (slot_at s t.meet.0) t.place ≡ true → t.meet.0 < length s
task_there s t h = elim (cases_lt t.meet.0 (length s)) [
  | inl l ↦ l
  | inr g ↦ absurd (true≢false (sym h ∙ ap (λ x. has_place x t.place) (get_or_past s t.meet.0 no_slot g)))
]

-- one slot in place of another leaves the meets, where it has the same
meets_kept : (s : List Slot) (k : ℕ) (y : Slot) → meet_in y ≡ meet_in (slot_at s k) → meets_in (set s k y) ≡ meets_in s
meets_kept [] k y h = refl
meets_kept (x ∷ s) zero y h = ap (λ o. cons_option o (meets_in s)) h
meets_kept (x ∷ s) (suc k) y h = ap (cons_option (meet_in x)) (meets_kept s k y h)

pub meets_staffed : (s : List Slot) (t : TaskId) (o : Option ResourceId) → meets_in (staffed s t o) ≡ meets_in s
meets_staffed s t o =
    let x = slot_at s t.meet.0 in meets_kept s t.meet.0 (with_resource x t.place o) refl

-- duties that a test leaves out
filter_kept : (test : Duty → Bool) (s : List Slot) (k : ℕ) (y : Slot)
    → filter test (duties_of y) ≡ filter test (duties_of (slot_at s k))
    → filter test (duties_in (set s k y)) ≡ filter test (duties_in s)
filter_kept test [] k y h = refl
filter_kept test (x ∷ s) zero y h =
    filter-append test (duties_of y) (duties_in s) ∙ ap (λ ds. ds ++ filter test (duties_in s)) h
    ∙ sym (filter-append test (duties_of x) (duties_in s))
filter_kept test (x ∷ s) (suc k) y h =
    filter-append test (duties_of x) (duties_in (set s k y))
    ∙ ap (λ ds. filter test (duties_of x) ++ ds) (filter_kept test s k y h)
    ∙ sym (filter-append test (duties_of x) (duties_in s))

none_with : (test : Duty → Bool) (m : Meet) (place : ℕ) (given : List (Option ResourceId))
    → ((k : ℕ) (o : Option ResourceId) → test (record { meet = m; place = k; resource = o }) ≡ false)
    → filter test (duties_with m place given) ≡ []
none_with test m place [] h = refl
none_with test m place (o ∷ given) h =
    let d : Duty = record { meet = m; place = place; resource = o } in
    ap (λ b. cond b (d ∷ filter test (duties_with m (place + 1) given)) (filter test (duties_with m (place + 1) given)))
    (h place o)
    ∙ none_with test m (place + 1) given h

none_of : (test : Duty → Bool) (x : Slot) (w : Option Span)
    → ((d : Duty) → d.meet.event ≡ x.event → test d ≡ false) → filter test (duties_of (record x { span = w })) ≡ []
none_of test x None h = refl
none_of test x (Some y) h = none_with test
    (record { meet = x.meet; event = x.event; duration = y.duration; start = y.start }) 0 x.given
    (λ k o. h (record {
      meet = record { meet = x.meet; event = x.event; duration = y.duration; start = y.start };
      place = k;
      resource = o;
    }) refl)

pub duties_left : (test : Duty → Bool) (s : List Slot) (t : TaskId) (o : Option ResourceId)
    → ((d : Duty) → d.meet.event ≡ (slot_at s t.meet.0).event → test d ≡ false)
    → filter test (duties_in (staffed s t o)) ≡ filter test (duties_in s)
duties_left test s t o h =
    let x = slot_at s t.meet.0 in
    let y = with_resource x t.place o in
    filter_kept test s t.meet.0 y (none_of test y y.span h ∙ sym (none_of test x x.span h))

-- sums over duties
duties_by : (f : Duty → ℕ) (s : List Slot) → sum_by f (duties_in s) ≡ sum_by (λ (x : Slot). sum_by f (duties_of x)) s
duties_by f [] = refl
duties_by f (x ∷ s) =
    sum_by-append f (duties_of x) (duties_in s) ∙ ap (λ n. sum_by f (duties_of x) + n) (duties_by f s)
    ∙ sym (sum_by-cons (λ (y : Slot). sum_by f (duties_of y)) x s)

exchanged : (f : Duty → ℕ) (s : List Slot) (k : ℕ) (y : Slot) → k < length s
    → sum_by f (duties_in (set s k y)) + sum_by f (duties_of (slot_at s k))
    ≡ sum_by f (duties_in s) + sum_by f (duties_of y)
exchanged f s k y l =
    let a = duties_by f s in
    let b = duties_by f (set s k y) in
    let e : sum_by (λ (x : Slot). sum_by f (duties_of x)) (set s k y) + sum_by f (duties_of (slot_at s k))
    ≡ sum_by (λ (x : Slot). sum_by f (duties_of x)) s + sum_by f (duties_of y) =
    sum_by-set (λ (x : Slot). sum_by f (duties_of x)) s k y no_slot l in
    omega (arith, a, b, e)

-- one place given another resource
module _ (f : Duty → ℕ) (m : Meet) where
  abbrev at_place : ℕ → Option ResourceId → ℕ
  at_place k o = f (record { meet = m; place = k; resource = o })

  given_in : (place : ℕ) (given : List (Option ResourceId)) (i : ℕ) (o : Option ResourceId) → i < length given
      → sum_by f (duties_with m place (set given i o)) + at_place (place + i) (get_or given i None)
      ≡ sum_by f (duties_with m place given) + at_place (place + i) o
  given_in place [] i o l = absurd (omega (arith, l))
  given_in place (q ∷ given) zero o l =
      let rest = duties_with m (place + 1) given in
      let z : place + 0 ≡ place = omega arith in
      let a = sum_by-cons f (record { meet = m; place = place; resource = o }) rest in
      let b = sum_by-cons f (record { meet = m; place = place; resource = q }) rest in
      let c = ap (λ k. at_place k q) z in
      let d = ap (λ k. at_place k o) z in
      omega (arith, a, b, c, d)
  given_in place (q ∷ given) (suc i) o l =
      let z : place + suc i ≡ place + 1 + i = omega arith in
      let a = sum_by-cons f (record { meet = m; place = place; resource = q })
      (duties_with m (place + 1) (set given i o)) in
      let b = sum_by-cons f (record { meet = m; place = place; resource = q }) (duties_with m (place + 1) given) in
      let c = ap (λ k. at_place k (get_or given i None)) z in
      let d = ap (λ k. at_place k o) z in
      let r = given_in (place + 1) given i o (omega (arith, l)) in
      omega (arith, a, b, c, d, r)

in_slot : (f : Duty → ℕ) (x : Slot) (w : Option Span) (k : ℕ) (o : Option ResourceId) → is_some w ≡ true
    → k < length x.given → get_or x.given k None ≡ None
    → sum_by f (duties_of (record x { span = w; given = set x.given k o }))
    + f (duty_in (record x { span = w }) k None)
    ≡ sum_by f (duties_of (record x { span = w })) + f (duty_in (record x { span = w }) k o)
in_slot f x None k o live l none = absurd (true≢false (sym live))
in_slot f x (Some y) k o live l none =
    let m : Meet = record { meet = x.meet; event = x.event; duration = y.duration; start = y.start } in
    let z : 0 + k ≡ k = omega arith in
    let r = given_in f m 0 x.given k o l in
    let a = ap (λ q. f (record { meet = m; place = 0 + k; resource = q })) none in
    let b = ap (λ j. f (record { meet = m; place = j; resource = None })) z in
    let c = ap (λ j. f (record { meet = m; place = j; resource = o })) z in
    omega (arith, r, a, b, c)

-- a task without a resource that is given one
pub given_once : (f : Duty → ℕ) (s : List Slot) (t : TaskId) (o : Option ResourceId)
    → has_place (slot_at s t.meet.0) t.place ≡ true → resource_at s t ≡ None
    → sum_by f (duties_in (staffed s t o)) + f (duty_in (slot_at s t.meet.0) t.place None)
    ≡ sum_by f (duties_in s) + f (duty_in (slot_at s t.meet.0) t.place o)
given_once f s t o there none =
    let x = slot_at s t.meet.0 in
    let parts = and_parts _ _ there in
    let a = exchanged f s t.meet.0 (with_resource x t.place o) (task_there s t there) in
    let b = in_slot f x x.span t.place o parts.0 (ltb-true t.place (length x.given) parts.1) none in
    omega (arith, a, b)
