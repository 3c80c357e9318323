-- Slots in which a meet has another start, or a task another resource.
use Rattle.std.proofs.Common.{ℕ, ◌≡◌, ◌<◌, true, Option, Some, None, List, length, set, refl, sym, ap, subst, ◌∙◌, inl}
use Rattle.std.proofs.Common.{inr, get_or-set_same, get_or-set_other, set-set}
use Rattle.std.specs.Prelude.{is_some}
use Rattle.std.specs.Option.{option_map, option_map_or, option_and_then}
use Rattle.std.proofs.lemmas.List.{length-set, set-get_or}
use Rattle.khe_base.specs.declared.numbers.MeetId.{MeetId}
use Rattle.khe_base.specs.declared.numbers.ResourceId.{ResourceId}
use Rattle.khe_base.specs.declared.numbers.TaskId.{TaskId}
use Rattle.khe_base.specs.declared.numbers.TimeId.{TimeId}
use Rattle.khe_told.specs.Slots.{no_slot, slot_at, length_of, is_live, start_of, given_at}
use Rattle.khe_told.specs.declared.slots.Slot.{Slot}
use Rattle.khe_told.specs.declared.slots.Span.{Span}
use Rattle.khe_solution.specs.Reading.{resource_at}
use Rattle.khe_solution.specs.Editing.{with_start, with_resource, timed, staffed}
use Rattle.khe_solution.proofs.Basics.{true-false, cases_eq, set_comm}

-- the meet of a slot with another start
abbrev timed_span : Option Span → Option TimeId → Option Span
timed_span o t = option_map (λ (y : Span). record y { start = t }) o

abbrev span_start : Option Span → Option TimeId
span_start o = option_and_then (λ (y : Span). y.start) o

abbrev span_length : Option Span → ℕ
span_length o = option_map_or (λ (y : Span). y.duration) o 0

span_twice : (o : Option Span) (t u : Option TimeId) → timed_span (timed_span o t) u ≡ timed_span o u
span_twice None t u = refl
span_twice (Some y) t u = refl

span_same : (o : Option Span) → timed_span o (span_start o) ≡ o
span_same None = refl
span_same (Some y) = refl

span_started : (o : Option Span) (t : Option TimeId) → is_some o ≡ true → span_start (timed_span o t) ≡ t
span_started None t h = absurd (true-false (sym h))
span_started (Some y) t h = refl

span_live : (o : Option Span) (t : Option TimeId) → is_some (timed_span o t) ≡ is_some o
span_live None t = refl
span_live (Some y) t = refl

span_lasts : (o : Option Span) (t : Option TimeId) → span_length (timed_span o t) ≡ span_length o
span_lasts None t = refl
span_lasts (Some y) t = refl

pub span_of : (o : Option Span) (t : Option TimeId) → is_some o ≡ true → span_start o ≡ t
    → o ≡ Some (record { duration = span_length o; start = t })
span_of None t h e = absurd (true-false (sym h))
span_of (Some y) t h e = ap (λ u. Some (record { duration = y.duration; start = u })) e

pub start_twice : (x : Slot) (t u : Option TimeId) → with_start (with_start x t) u ≡ with_start x u
start_twice x t u = λ j. record x { span = span_twice x.span t u j }

pub start_same : (x : Slot) → with_start x (start_of x) ≡ x
start_same x = λ j. record x { span = span_same x.span j }

pub start_given : (x : Slot) (t : Option TimeId) → is_live x ≡ true → start_of (with_start x t) ≡ t
start_given x t h = span_started x.span t h

pub start_live : (x : Slot) (t : Option TimeId) → is_live (with_start x t) ≡ is_live x
start_live x t = span_live x.span t

pub start_lasts : (x : Slot) (t : Option TimeId) → length_of (with_start x t) ≡ length_of x
start_lasts x t = span_lasts x.span t

-- a meet with another start
pub timed_same : (s : List Slot) (m : MeetId) (t : Option TimeId) → m.0 < length s
    → slot_at (timed s m t) m.0 ≡ with_start (slot_at s m.0) t
timed_same s m t l = get_or-set_same s m.0 (with_start (slot_at s m.0) t) no_slot l

pub timed_other : (s : List Slot) (m : MeetId) (t : Option TimeId) (n : ℕ) → (n ≡ m.0 → ⊥)
    → slot_at (timed s m t) n ≡ slot_at s n
timed_other s m t n d = get_or-set_other s m.0 n (with_start (slot_at s m.0) t) no_slot d

pub timed_twice : (s : List Slot) (m : MeetId) (t u : Option TimeId) → m.0 < length s
    → timed (timed s m t) m u ≡ timed s m u
timed_twice s m t u l =
    let x = slot_at s m.0 in
    ap (λ z. set (timed s m t) m.0 (with_start z u)) (timed_same s m t l)
    ∙ set-set s m.0 (with_start x t) (with_start (with_start x t) u)
    ∙ ap (set s m.0) (start_twice x t u)

pub timed_none : (s : List Slot) (m : MeetId) (t : Option TimeId) → start_of (slot_at s m.0) ≡ t → timed s m t ≡ s
timed_none s m t e = ap (timed s m) (sym e) ∙ ap (set s m.0) (start_same (slot_at s m.0)) ∙ set-get_or s m.0 no_slot

pub timed_back : (s : List Slot) (m : MeetId) (t u : Option TimeId) → m.0 < length s → start_of (slot_at s m.0) ≡ u
    → timed (timed s m t) m u ≡ s
timed_back s m t u l e = timed_twice s m t u l ∙ timed_none s m u e

pub timed_comm : (s : List Slot) (a b : MeetId) (t u : Option TimeId) → (b.0 ≡ a.0 → ⊥)
    → timed (timed s a t) b u ≡ timed (timed s b u) a t
timed_comm s a b t u d =
    ap (λ z. set (timed s a t) b.0 (with_start z u)) (timed_other s a t b.0 d)
    ∙ set_comm s a.0 b.0 (with_start (slot_at s a.0) t) (with_start (slot_at s b.0) u) d
    ∙ sym (ap (λ z. set (timed s b u) a.0 (with_start z t)) (timed_other s b u a.0 (λ e. d (sym e))))

-- what else is read of its slot is as before
pub record IsRetimed (x y : Slot) : Type 0 where
  pub event : x.event ≡ y.event
  pub live : is_live x ≡ is_live y
  pub lasts : length_of x ≡ length_of y

pub timed_reads : (s : List Slot) (m : MeetId) (t : Option TimeId) (n : ℕ) → m.0 < length s
    → IsRetimed (slot_at (timed s m t) n) (slot_at s n)
timed_reads s m t n l = elim (cases_eq n m.0) [
  | inl e ↦ subst (λ k. IsRetimed (slot_at (timed s m t) k) (slot_at s k)) (sym e)
      (subst (λ z. IsRetimed z (slot_at s m.0)) (sym (timed_same s m t l))
      (record { event = refl; live = start_live (slot_at s m.0) t; lasts = start_lasts (slot_at s m.0) t }))
  | inr d ↦ subst (λ z. IsRetimed z (slot_at s n)) (sym (timed_other s m t n d))
      (record { event = refl; live = refl; lasts = refl })
]

-- a task with another resource
pub staffed_slot : (s : List Slot) (t : TaskId) (r : Option ResourceId) → t.meet.0 < length s
    → slot_at (staffed s t r) t.meet.0 ≡ with_resource (slot_at s t.meet.0) t.place r
staffed_slot s t r l = get_or-set_same s t.meet.0 (with_resource (slot_at s t.meet.0) t.place r) no_slot l

pub staffed_away : (s : List Slot) (t : TaskId) (r : Option ResourceId) (n : ℕ) → (n ≡ t.meet.0 → ⊥)
    → slot_at (staffed s t r) n ≡ slot_at s n
staffed_away s t r n d = get_or-set_other s t.meet.0 n (with_resource (slot_at s t.meet.0) t.place r) no_slot d

pub staffed_twice : (s : List Slot) (t : TaskId) (q r : Option ResourceId) → t.meet.0 < length s
    → staffed (staffed s t q) t r ≡ staffed s t r
staffed_twice s t q r l =
    let x = slot_at s t.meet.0 in
    let k = t.place in
    ap (λ z. set (staffed s t q) t.meet.0 (with_resource z k r)) (staffed_slot s t q l)
    ∙ set-set s t.meet.0 (with_resource x k q) (with_resource (with_resource x k q) k r)
    ∙ ap (set s t.meet.0) (λ j. record x { given = set-set x.given k q r j })

pub staffed_none : (s : List Slot) (t : TaskId) (r : Option ResourceId) → resource_at s t ≡ r → staffed s t r ≡ s
staffed_none s t r e =
    let x = slot_at s t.meet.0 in
    ap (staffed s t) (sym e) ∙ ap (set s t.meet.0) (λ j. record x { given = set-get_or x.given t.place None j })
    ∙ set-get_or s t.meet.0 no_slot

pub staffed_back : (s : List Slot) (t : TaskId) (q r : Option ResourceId) → t.meet.0 < length s → resource_at s t ≡ r
    → staffed (staffed s t q) t r ≡ s
staffed_back s t q r l e = staffed_twice s t q r l ∙ staffed_none s t r e

-- two tasks are not the same
abbrev pub AreApart : TaskId → TaskId → Type 0
AreApart a b = b.meet.0 ≡ a.meet.0 → b.place ≡ a.place → ⊥

-- two tasks of one meet
abbrev at_place : MeetId → ℕ → TaskId
at_place m k = record { meet = m; place = k }

comm_within : (s : List Slot) (m : MeetId) (j k : ℕ) (q r : Option ResourceId) → (k ≡ j → ⊥) → m.0 < length s
    → staffed (staffed s (at_place m j) q) (at_place m k) r ≡ staffed (staffed s (at_place m k) r) (at_place m j) q
comm_within s m j k q r d l =
    let x = slot_at s m.0 in
    ap (λ z. set (staffed s (at_place m j) q) m.0 (with_resource z k r)) (staffed_slot s (at_place m j) q l)
    ∙ set-set s m.0 (with_resource x j q) (with_resource (with_resource x j q) k r)
    ∙ ap (set s m.0) (λ i. record x { given = set_comm x.given j k q r d i })
    ∙ sym (set-set s m.0 (with_resource x k r) (with_resource (with_resource x k r) j q))
    ∙ sym (ap (λ z. set (staffed s (at_place m k) r) m.0 (with_resource z j q)) (staffed_slot s (at_place m k) r l))

comm_across : (s : List Slot) (a b : TaskId) (q r : Option ResourceId) → (b.meet.0 ≡ a.meet.0 → ⊥)
    → staffed (staffed s a q) b r ≡ staffed (staffed s b r) a q
comm_across s a b q r d =
    ap (λ z. set (staffed s a q) b.meet.0 (with_resource z b.place r)) (staffed_away s a q b.meet.0 d)
    ∙ set_comm s a.meet.0 b.meet.0 (with_resource (slot_at s a.meet.0) a.place q)
    (with_resource (slot_at s b.meet.0) b.place r) d
    ∙ sym (ap (λ z. set (staffed s b r) a.meet.0 (with_resource z a.place q))
    (staffed_away s b r a.meet.0 (λ e. d (sym e))))

pub staffed_comm : (s : List Slot) (a b : TaskId) (q r : Option ResourceId) → AreApart a b → a.meet.0 < length s
    → staffed (staffed s a q) b r ≡ staffed (staffed s b r) a q
staffed_comm s a b q r d l = elim (cases_eq b.meet.0 a.meet.0) [
  | inl e ↦ subst (λ n. staffed (staffed s a q) (at_place (record { 0 = n }) b.place) r
      ≡ staffed (staffed s (at_place (record { 0 = n }) b.place) r) a q) (sym e)
      (comm_within s a.meet a.place b.place q r (d e) l)
  | inr n ↦ comm_across s a b q r n
]

-- what it is given then, and what another task is given
pub staffed_given : (s : List Slot) (t : TaskId) (r : Option ResourceId) → t.meet.0 < length s
    → t.place < length (slot_at s t.meet.0).given → resource_at (staffed s t r) t ≡ r
staffed_given s t r l k = ap (λ z. given_at z t.place) (staffed_slot s t r l)
    ∙ get_or-set_same (slot_at s t.meet.0).given t.place r None k

pub staffed_other : (s : List Slot) (a b : TaskId) (q : Option ResourceId) → AreApart a b → a.meet.0 < length s
    → resource_at (staffed s a q) b ≡ resource_at s b
staffed_other s a b q d l = elim (cases_eq b.meet.0 a.meet.0) [
  | inl e ↦ subst (λ n. given_at (slot_at (staffed s a q) n) b.place ≡ given_at (slot_at s n) b.place) (sym e)
      (ap (λ z. given_at z b.place) (staffed_slot s a q l)
      ∙ get_or-set_other (slot_at s a.meet.0).given a.place b.place q None (d e))
  | inr n ↦ ap (λ z. given_at z b.place) (staffed_away s a q b.meet.0 n)
]

-- what else is read of its slot is as before
pub record IsRestaffed (x y : Slot) : Type 0 where
  pub event : x.event ≡ y.event
  pub span : x.span ≡ y.span
  pub places : length x.given ≡ length y.given

pub staffed_reads : (s : List Slot) (t : TaskId) (r : Option ResourceId) (n : ℕ) → t.meet.0 < length s
    → IsRestaffed (slot_at (staffed s t r) n) (slot_at s n)
staffed_reads s t r n l = elim (cases_eq n t.meet.0) [
  | inl e ↦ subst (λ k. IsRestaffed (slot_at (staffed s t r) k) (slot_at s k)) (sym e)
      (subst (λ z. IsRestaffed z (slot_at s t.meet.0)) (sym (staffed_slot s t r l))
      (record { event = refl; span = refl; places = length-set (slot_at s t.meet.0).given t.place r }))
  | inr d ↦ subst (λ z. IsRestaffed z (slot_at s n)) (sym (staffed_away s t r n d))
      (record { event = refl; span = refl; places = refl })
]
