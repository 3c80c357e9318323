-- Sums over the tasks at a place of an event, slot by slot.
use Rattle.std.proofs.Common.{ℕ, ◌≡◌, ◌+◌, ◌<◌, ◌==◌, ◌&&◌, ◌∙◌, zero, suc, Bool, true, false, cond, Option, Some, None}
use Rattle.std.proofs.Common.{List, [], ◌∷◌, slice_get, refl, sym, ap, arith, zero-add, filter, sum_by}
use Rattle.std.specs.Option.{option_map_or}
use Rattle.std.proofs.lemmas.Bool.{ne_eqb, eq-eqb}
use Rattle.std.proofs.lemmas.List.Sums.{sum_by-cons, sum_by-append}
use Rattle.khe_base.specs.declared.numbers.ResourceId.{ResourceId}
use Rattle.khe_instance.specs.EventDeviation.{duties_at}
use Rattle.khe_instance.specs.declared.states.Duty.{Duty}
use Rattle.khe_instance.specs.declared.states.Meet.{Meet}
use Rattle.khe_told.specs.Lists.{duties_in, duties_of, duties_with}
use Rattle.khe_told.specs.declared.slots.Slot.{Slot}
use Rattle.khe_told.specs.declared.slots.Span.{Span}
use Rattle.event_monitors.specs.MeetSums.{swap}
use Rattle.event_monitors.specs.Shares.{task_share}

sum_by-filter : {X : Type 0} (f : X → ℕ) (p : X → Bool) (xs : List X)
    → sum_by f (filter p xs) ≡ sum_by (λ x. cond (p x) (f x) 0) xs
sum_by-filter f p [] = refl
sum_by-filter {X} f p (x ∷ xs) = by (p x) (sum_by-filter f p xs) ∙ sym (sum_by-cons (λ y. cond (p y) (f y) 0) x xs)
  where
    by : (b : Bool) → sum_by f (filter p xs) ≡ sum_by (λ y. cond (p y) (f y) 0) xs
        → sum_by f (cond b (x ∷ filter p xs) (filter p xs)) ≡ cond b (f x) 0 + sum_by (λ y. cond (p y) (f y) 0) xs
    by true rest = sum_by-cons f x (filter p xs) ∙ ap (λ n. f x + n) rest
    by false rest = rest ∙ sym (zero-add (sum_by (λ y. cond (p y) (f y) 0) xs))

-- by what each task is given and its meet's duration
module _ (f : Option ResourceId → ℕ → ℕ) (e place : ℕ) where
  abbrev of_duty : Duty → ℕ
  of_duty d = f d.resource d.meet.duration

  abbrev mine : Duty → ℕ
  mine d = cond ((d.meet.event.0 == e) && (d.place == place)) (of_duty d) 0

  abbrev of_given : Meet → Option (Option ResourceId) → ℕ
  of_given m o = option_map_or (λ (r : Option ResourceId). f r m.duration) o 0

  none : (b : Bool) → 0 ≡ cond {A = ℕ} b 0 0
  none true = refl
  none false = refl

  apart : (m : Meet) (start : ℕ) (o : Option ResourceId) → (start ≡ place → ⊥)
      → mine (record { meet = m; place = start; resource = o }) ≡ 0
  apart m start o n = ap (λ b. cond ((m.event.0 == e) && b) (f o m.duration) 0) (ne_eqb start place n)
      ∙ by (m.event.0 == e)
    where
      by : (b : Bool) → cond {A = ℕ} (b && false) (f o m.duration) 0 ≡ 0
      by true = refl
      by false = refl

  past : (m : Meet) (start : ℕ) (given : List (Option ResourceId)) → place < start
      → sum_by mine (duties_with m start given) ≡ 0
  past m start [] l = refl
  past m start (o ∷ given) l =
      let a = sum_by-cons mine (record { meet = m; place = start; resource = o }) (duties_with m (start + 1) given) in
      let b = apart m start o (λ n. omega (arith, n, l)) in
      let c = past m (start + 1) given (omega arith) in
      omega (arith, a, b, c)

  with_at : (m : Meet) (start k : ℕ) (given : List (Option ResourceId)) → place ≡ start + k
      → sum_by mine (duties_with m start given) ≡ cond (m.event.0 == e) (of_given m (slice_get given k)) 0
  with_at m start k [] h = none (m.event.0 == e)
  with_at m start zero (o ∷ given) h =
      let n : start ≡ place = omega (arith, h) in
      let a = sum_by-cons mine (record { meet = m; place = start; resource = o }) (duties_with m (start + 1) given) in
      let c = past m (start + 1) given (omega (arith, h)) in
      let b = here n in
      omega (arith, a, b, c)
    where
      here : start ≡ place → mine (record { meet = m; place = start; resource = o })
          ≡ cond (m.event.0 == e) (of_given m (Some o)) 0
      here n = ap (λ b. cond ((m.event.0 == e) && b) (f o m.duration) 0) (eq-eqb start place n) ∙ by (m.event.0 == e)
        where
          by : (b : Bool) → cond {A = ℕ} (b && true) (f o m.duration) 0 ≡ cond b (f o m.duration) 0
          by true = refl
          by false = refl
  with_at m start (suc k) (o ∷ given) h =
      let a = sum_by-cons mine (record { meet = m; place = start; resource = o }) (duties_with m (start + 1) given) in
      let b = apart m start o (λ n. omega (arith, n, h)) in
      let c = with_at m (start + 1) k given (omega (arith, h)) in
      omega (arith, a, b, c)

  abbrev of_slot : Slot → ℕ
  of_slot x = cond (e == x.event.0) (task_share f x.span (slice_get x.given place)) 0

  pub sum_over_duties : (s : List Slot) → sum_by of_duty (duties_at e place (duties_in s)) ≡ sum_by of_slot s
  sum_over_duties s = sum_by-filter of_duty (λ (d : Duty). (d.meet.event.0 == e) && (d.place == place)) (duties_in s)
      ∙ all s
    where
      one : (x : Slot) (o : Option Span) → sum_by mine (duties_of (record x { span = o }))
          ≡ of_slot (record x { span = o })
      one x None = none (e == x.event.0)
      one x (Some y) =
          with_at (record { meet = x.meet; event = x.event; duration = y.duration; start = y.start }) 0 place x.given
          (omega arith)
          ∙ (λ j. cond (swap x.event.0 e j) (at (slice_get x.given place) j) 0)
        where
          at : (o : Option (Option ResourceId)) → option_map_or (λ (r : Option ResourceId). f r y.duration) o 0
              ≡ task_share f (Some y) o
          at None = refl
          at (Some r) = refl

      all : (s : List Slot) → sum_by mine (duties_in s) ≡ sum_by of_slot s
      all [] = refl
      all (x ∷ s) =
          sum_by-append mine (duties_of x) (duties_in s) ∙ ap (λ n. n + sum_by mine (duties_in s)) (one x x.span)
          ∙ ap (λ n. of_slot x + n) (all s)
          ∙ sym (sum_by-cons of_slot x s)
