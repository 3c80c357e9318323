-- What is drawn for a job is in range: times before the end, teachers and rooms that there are.
use Rattle.std.proofs.Common.{ℕ, ◌≡◌, ◌+◌, ◌-◌, ◌/◌, ◌%◌, ◌^◌, ◌==◌, ◌<◌, ◌≤◌, ◌⊎◌, inl, inr, Bool, true, false, ◌||◌}
use Rattle.std.proofs.Common.{if◌then◌else◌, nat_lt, Option, Some, None, is_some, IfSome, List, [], ◌∷◌, map, All}
use Rattle.std.proofs.Common.{refl, sym, ap, ◌∙◌, arith, mod-lt}
use Rattle.std.proofs.lemmas.Bool.{true≢false}
use Rattle.std.proofs.lemmas.Bool.Decides.{nat_tests}
use Rattle.std.proofs.lemmas.List.Elements.{All-nil, All-cons}
use Rattle.archive_generator.specs.declared.drawing.DrawnEntry.{DrawnEntry}
use Rattle.archive_generator.specs.declared.drawing.DrawnEvent.{DrawnEvent}
use Rattle.archive_generator.specs.Draws.{next, drawn, perhaps}
use Rattle.archive_generator.specs.Job as job
use Rattle.archive_generator.specs.Names.{below}
use Rattle.archive_generator.specs.Turns.{in_turn}
use Rattle.archive_generator.proofs.WellFormed.{IsShortEvent, events_short}

drawn_below : (n x : ℕ) → 0 < n → drawn n x < n
unfolding drawn
drawn_below n x l = mod-lt (next x / 2 ^ 33) l

-- a number, if there is one, is below a count
abbrev pub IsBelow : ℕ → Option ℕ → Type 0
IsBelow n o = IfSome o (λ k. k < n)

perhaps_below : (n x : ℕ) → 0 < n → IsBelow n (perhaps n x).0
unfolding perhaps
perhaps_below n x l = by (drawn 8 x == 0)
  where
    by : (b : Bool) → IsBelow n
        (if◌then◌else◌ {A = Option ℕ × ℕ} b (None, next x) (Some (drawn n (next x)), next (next x))).0
    by true = tt
    by false = drawn_below n (next x) l

-- there is a resource of each type
pub some_teachers : (size : ℕ) → 0 < job.teachers size
some_teachers size = omega arith

pub some_classes : (size : ℕ) → 0 < job.classes size
some_classes size = omega arith

pub some_rooms : (size : ℕ) → 0 < job.rooms size
some_rooms size = omega arith

-- a preassigned time leaves room for the event
abbrev pub EndsInTime : ℕ → Option ℕ → Type 0
EndsInTime duration o = IfSome o (λ t. t + duration ≤ 40)

in_time : (duration : ℕ) (o : Option ℕ) → IsBelow (41 - duration) o → EndsInTime duration o
in_time duration None h = tt
in_time duration (Some t) h = omega arith

fixed_in_time : (i duration x : ℕ) → duration ≤ 3 → EndsInTime duration (job.fixed_time i duration x).0
unfolding job.fixed_time
fixed_in_time i duration x l = by (i % 20 == 19)
  where
    by : (b : Bool) → EndsInTime duration
        (if◌then◌else◌ {A = Option ℕ × ℕ} b (Some (drawn (41 - duration) x), next x) (None, x)).0
    by true =
        let some : 0 < 41 - duration = omega arith in
        in_time duration (Some (drawn (41 - duration) x)) (drawn_below (41 - duration) x some)
    by false = tt

-- so it is with an event
abbrev pub IsTimely : DrawnEvent → Type 0
IsTimely e = EndsInTime e.duration e.time

event_timely : (i x : ℕ) → IsTimely (job.event i x).0
unfolding job.event drawn
event_timely i x =
    let l : ((next x / 2 ^ 33) % 3) < 3 = mod-lt (next x / 2 ^ 33) (omega arith) in
    fixed_in_time i (1 + ((next x / 2 ^ 33) % 3)) (next x) (omega arith)

event_number : (i x : ℕ) → (job.event i x).0.number ≡ i
unfolding job.event
event_number i x = refl

-- what is true of each value that is drawn is true of all
pub each_in_turn : {A B : Type 0} (P : B → Type 0) (step : A → ℕ → B × ℕ) → ((a : A) (x : ℕ) → P (step a x).0)
    → (xs : List A) (x : ℕ) → All P (in_turn step xs x).0
each_in_turn P step each [] x = All-nil P
each_in_turn P step each (a ∷ more) x = All-cons P (step a x).0 (in_turn step more (step a x).1).0 (each a x)
    (each_in_turn P step each more (step a x).1)

numbers_in_turn : {A B : Type 0} (number : B → A) (step : A → ℕ → B × ℕ)
    → ((a : A) (x : ℕ) → number (step a x).0 ≡ a)
    → (xs : List A) (x : ℕ) → map number (in_turn step xs x).0 ≡ xs
numbers_in_turn number step each [] x = refl
numbers_in_turn number step each (a ∷ more) x =
    λ i. each a x i ∷ numbers_in_turn number step each more (step a x).1 i

-- the events of a job of a size, as far as the laws speak of them
pub record AreDrawn (size : ℕ) (es : List DrawnEvent) : Type 0 where
  pub numbers : map (λ (e : DrawnEvent). e.number) es ≡ below size
  pub short : All IsShortEvent es
  pub timely : All IsTimely es

-- what is drawn from any state is so
pub events_drawn : (size x : ℕ) → AreDrawn size (job.events size x).0
unfolding job.events
events_drawn size x = record {
  numbers = numbers_in_turn (λ (e : DrawnEvent). e.number) job.event event_number (below size) x;
  short = events_short size x;
  timely = each_in_turn IsTimely job.event event_timely (below size) x;
}

-- an entry for a part of an event
pub record IsEntryOf (size : ℕ) (e : DrawnEvent) (d : DrawnEntry) : Type 0 where
  pub event : d.event ≡ e.number
  pub time : EndsInTime d.duration d.time
  pub free : is_some e.time ≡ true → d.time ≡ None
  pub teacher : IsBelow (job.teachers size) d.teacher
  pub room : IsBelow (job.rooms size) d.room

start_in_time : (e : DrawnEvent) (duration x : ℕ) → duration ≤ 3 → EndsInTime duration (job.start e duration x).0
unfolding job.start
start_in_time e duration x l = by (is_some e.time)
  where
    by : (b : Bool) → EndsInTime duration
        (if◌then◌else◌ {A = Option ℕ × ℕ} b (None, x) (perhaps (41 - duration) x)).0
    by true = tt
    by false =
        let some : 0 < 41 - duration = omega arith in
        in_time duration (perhaps (41 - duration) x).0 (perhaps_below (41 - duration) x some)

start_free : (e : DrawnEvent) (duration x : ℕ) → is_some e.time ≡ true → (job.start e duration x).0 ≡ None
unfolding job.start
start_free e duration x h =
    ap (λ b. (if◌then◌else◌ {A = Option ℕ × ℕ} b (None, x) (perhaps (41 - duration) x)).0) h

entry_drawn : (size : ℕ) (e : DrawnEvent) (duration x : ℕ) → duration ≤ 3
    → IsEntryOf size e (job.entry size e duration x).0
unfolding job.entry
entry_drawn size e duration x l =
    let time = job.start e duration x in
    let teacher = perhaps (job.teachers size) time.1 in
    record {
      event = refl;
      time = start_in_time e duration x l;
      free = start_free e duration x;
      teacher = perhaps_below (job.teachers size) time.1 (some_teachers size);
      room = perhaps_below (job.rooms size) teacher.1 (some_rooms size);
    }

entry_lasts : (size : ℕ) (e : DrawnEvent) (duration x : ℕ) → (job.entry size e duration x).0.duration ≡ duration
unfolding job.entry
entry_lasts size e duration x = refl

-- an event is given whole
pub record IsWhole (size : ℕ) (e : DrawnEvent) (ds : List DrawnEntry) : Type 0 where
  pub one : DrawnEntry
  pub are : ds ≡ one ∷ []
  pub entry : IsEntryOf size e one
  pub lasts : one.duration ≡ e.duration

-- or in two parts, where it has no preassigned time
pub record IsCut (size : ℕ) (e : DrawnEvent) (ds : List DrawnEntry) : Type 0 where
  pub first : DrawnEntry
  pub second : DrawnEntry
  pub are : ds ≡ first ∷ (second ∷ [])
  pub free : is_some e.time ≡ false
  pub long : 2 ≤ e.duration
  pub first_entry : IsEntryOf size e first
  pub second_entry : IsEntryOf size e second
  pub first_lasts : first.duration ≡ 1
  pub second_lasts : second.duration + 1 ≡ e.duration

-- the entries of an event
abbrev pub ArePieces : ℕ → DrawnEvent → List DrawnEntry → Type 0
ArePieces size e ds = IsWhole size e ds ⊎ IsCut size e ds

cut_free : (e : DrawnEvent) (x : ℕ) → (job.is_cut e x).0 ≡ true → (is_some e.time ≡ false) × (2 ≤ e.duration)
unfolding job.is_cut
cut_free e x h = by (is_some e.time) (nat_lt e.duration 2) refl refl h
  where
    by : (a b : Bool) → a ≡ is_some e.time → b ≡ nat_lt e.duration 2
        → (if◌then◌else◌ {A = Bool × ℕ} (a || b) (false, x) (drawn 2 x == 1, next x)).0 ≡ true
        → (is_some e.time ≡ false) × (2 ≤ e.duration)
    by true b f g h = absurd (true≢false (sym h))
    by false true f g h = absurd (true≢false (sym h))
    by false false f g h = (sym f, grind (arith, nat_tests))

-- those that are drawn for an event are so
pub entries_pieces : (size : ℕ) (e : DrawnEvent) (x : ℕ) → IsShortEvent e → ArePieces size e (job.entries size e x).0
unfolding job.entries job.cut_entries job.whole_entry
entries_pieces size e x s = by (job.is_cut e x).0 (job.is_cut e x).1 (cut_free e x)
  where
    by : (b : Bool) (y : ℕ) → (b ≡ true → (is_some e.time ≡ false) × (2 ≤ e.duration))
        → ArePieces size e
        (if◌then◌else◌ {A = List DrawnEntry × ℕ} b (job.cut_entries size e y) (job.whole_entry size e y)).0
    by true y cut =
        let c = cut refl in
        let long = c.1 in
        let few = s.1 in
        let rest : e.duration - 1 ≤ 3 = omega arith in
        let z = (job.entry size e 1 y).1 in
        let left : e.duration - 1 + 1 ≡ e.duration = omega arith in
        inr (record {
          first = (job.entry size e 1 y).0;
          second = (job.entry size e (e.duration - 1) z).0;
          are = refl;
          free = c.0;
          long = c.1;
          first_entry = entry_drawn size e 1 y (omega arith);
          second_entry = entry_drawn size e (e.duration - 1) z rest;
          first_lasts = entry_lasts size e 1 y;
          second_lasts = ap (λ d. d + 1) (entry_lasts size e (e.duration - 1) z) ∙ left;
        })
    by false y cut = inl (record {
      one = (job.entry size e e.duration y).0;
      are = refl;
      entry = entry_drawn size e e.duration y s.1;
      lasts = entry_lasts size e e.duration y;
    })
