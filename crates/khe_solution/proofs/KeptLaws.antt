-- The rows of tasks after a change of a slot, and while they are filled.
use Rattle.std.proofs.Common.{ℕ, ◌≡◌, ◌≢◌, ◌+◌, ◌-◌, ◌*◌, ◌<◌, ◌≤◌, Bool, true, false, cond, nat_eq, nat_lt, Option}
use Rattle.std.proofs.Common.{Some, None, List, length, get_or, set, refl, sym, ap, ◌∙◌, arith, inl, inr, ◌⊎◌}
use Rattle.std.proofs.Common.{get_or-set_same, get_or-set_other}
use Rattle.std.specs.Prelude.{◌&&◌, is_some, nat_le, slice_get, slice_index_or}
use Rattle.std.specs.Option.{option_map}
use Rattle.std.proofs.Math.Seq.{map-set_same}
use Rattle.std.proofs.lemmas.Bool.{cases_lt, lt-ltb, le-ltb, le-leb, lt-leb, eq-eqb, ne_eqb}
use Rattle.std.proofs.lemmas.List.{get_or_past, length-set}
use Rattle.std.proofs.lemmas.Option.{slice_get_within, slice_get-get_or, same_Some}
use Rattle.khe_base.specs.declared.numbers.ResourceId.{ResourceId}
use Rattle.khe_base.specs.declared.numbers.MeetId.{MeetId}
use Rattle.khe_base.specs.declared.numbers.TaskId.{TaskId}
use Rattle.khe_base.specs.declared.numbers.TimeId.{TimeId}
use Rattle.khe_instance.specs.declared.parts.Parts.{Parts}
use Rattle.std.specs.List.{sum_by}
use Rattle.khe_instance.specs.Slots.{first_task}
use Rattle.khe_instance.specs.WellMade.{AreFirstMeets}
use Rattle.khe_instance.specs.declared.parts.EventInfo.{EventInfo}
use Rattle.khe_told.specs.Changes.{after, changed, given_after, meet_of}
use Rattle.khe_told.specs.declared.changes.Change.{Change}
use Rattle.khe_told.specs.Fits.{Fits}
use Rattle.khe_told.specs.declared.changes.Change.TheVariants as change
use Rattle.khe_told.specs.Slots.{given_at, is_live, no_slot, slot_at}
use Rattle.khe_told.specs.declared.slots.Slot.{Slot}
use Rattle.khe_solution.specs.TaskRows.{AreAllPut, AreEntered, AreKept, AreOut, AreRows, AreTurned, first_in}
use Rattle.khe_solution.specs.TaskRows.{is_entered, is_in, is_row_of, places, row_of, tasks_of_all}
use Rattle.khe_solution.specs.declared.tasks.TaskRows.{TaskRows}
use Rattle.khe_solution.proofs.Basics.{cases_eq}
use Rattle.khe_solution.proofs.SpotLaws.{no_and}
use Rattle.khe_solution.proofs.NumberLaws.{first_next, first_told, number_below, slots_told, sum_all, sum_same}

-- a slot that gets another meet keeps the numbers of all tasks
pub first_kept : (s : List Slot) (m : ℕ) (y : Slot) (j : ℕ) → places y ≡ places (slot_at s m)
    → first_in (set s m y) j ≡ first_in s j
first_kept s m y j e = sum_same places places (set s m y) s j (map-set_same places s m y no_slot e)

total_kept : (s : List Slot) (m : ℕ) (y : Slot) → places y ≡ places (slot_at s m)
    → tasks_of_all (set s m y) ≡ tasks_of_all s
total_kept s m y e = sum_all places places (set s m y) s (map-set_same places s m y no_slot e)

-- the tasks of another slot have their numbers before or after those of this one
pub apart : (s : List Slot) (m n k : ℕ) → n ≢ m → k < places (slot_at s n)
    → (first_in s n + k < first_in s m) ⊎ (first_in s m + places (slot_at s m) ≤ first_in s n + k)
apart s m n k d l = elim (cases_lt n m) [
  | inl b ↦ let h = first_next s n m b in inl (omega (arith, h, l))
  | inr g ↦ elim (cases_lt m n) [
    | inl b ↦ let h = first_next s m n b in inr (omega (arith, h))
    | inr f ↦ absurd (d (omega (arith, g, f)))
  ]
]

-- the rows are kept where the bits of the slot are, and no others change
pub kept_set : (s : List Slot) (m : ℕ) (y : Slot) (t u : TaskRows) → m < length s → places y ≡ places (slot_at s m)
    → AreKept s t → AreRows u → u.stride ≡ t.stride
    → ((row k : ℕ) → row < 257 → k < places (slot_at s m) → is_in u row (first_in s m + k) ≡ is_entered y k row)
    → ((row j : ℕ) → row < 257 → j < 64 * t.stride → (j < first_in s m) ⊎ (first_in s m + places (slot_at s m) ≤ j)
    → is_in u row j ≡ is_in t row j)
    → AreKept (set s m y) u
kept_set s m y t u l e kept rows same own others =
    record {
      rows = rows;
      long = (let a = total_kept s m y e in let b = kept.long in omega (arith, a, b, same));
      bits =
          bits;
    }
  where
    bits : (row n k : ℕ) → row < 257 → k < places (slot_at (set s m y) n)
        → is_in u row (first_in (set s m y) n + k) ≡ is_entered (slot_at (set s m y) n) k row
    bits row n k r b = elim (cases_eq n m) [
      | inl q ↦
          let here : slot_at (set s m y) n ≡ y = ap (slot_at (set s m y)) q ∙ get_or-set_same s m y no_slot l in
          let many = ap places here in
          ap (λ j. is_in u row (j + k)) (first_kept s m y n e ∙ ap (first_in s) q)
          ∙ own row k r (omega (arith, b, many, e))
          ∙ sym (ap (λ x. is_entered x k row) here)
      | inr d ↦
          let there : slot_at (set s m y) n ≡ slot_at s n = get_or-set_other s m n y no_slot d in
          let many = ap places there in
          let b2 : k < places (slot_at s n) = omega (arith, b, many) in
          let below = number_below s n k b2 in
          let long = kept.long in
          ap (λ j. is_in u row (j + k)) (first_kept s m y n e)
          ∙ others row (first_in s n + k) r (omega (arith, below, long)) (apart s m n k d b2)
          ∙ kept.bits row n k r b2
          ∙ sym (ap (λ x. is_entered x k row) there)
    ]

-- no bit changes where a meet stays live or free and is given the same
pub kept_rest : (s : List Slot) (m : ℕ) (y : Slot) (t : TaskRows) → m < length s → y.given ≡ (slot_at s m).given
    → is_live y ≡ is_live (slot_at s m) → AreKept s t → AreKept (set s m y) t
kept_rest s m y t l g live kept =
    let e = ap length g in
    kept_set s m y t t l e kept kept.rows refl
    (λ row k r b. kept.bits row m k r b ∙ sym (λ i. live i && nat_eq row (row_of (slice_index_or (g i) k None))))
    (λ row j r b o. refl)

-- the bits of a meet that comes or goes
one_is : (b e : Bool) (z : Bool) → z ≡ (cond b false true && e) → cond e b z ≡ (b && e)
one_is true true z h = refl
one_is true false z h = h
one_is false true z h = refl
one_is false false z h = h

is_row_own : (first count : ℕ) (given : List (Option ResourceId)) (row k : ℕ) → k < count
    → is_row_of first count given row (first + k) ≡ nat_eq row (row_of (slice_index_or given k None))
is_row_own first count given row k l =
    let a : nat_le first (first + k) ≡ true = le-leb first (first + k) (omega arith) in
    let b : nat_lt (first + k) (first + count) ≡ true = lt-ltb (first + k) (first + count) (omega (arith, l)) in
    let c : first + k - first ≡ k = omega arith in
    λ i. a i && (b i && nat_eq row (row_of (slice_index_or given (c i) None)))

is_row_other : (first count : ℕ) (given : List (Option ResourceId)) (row j : ℕ) → (j < first) ⊎ (first + count ≤ j)
    → is_row_of first count given row j ≡ false
is_row_other first count given row j o = elim o [
  | inl l ↦ ap (λ a. a && (nat_lt j (first + count) && nat_eq row (row_of (slice_index_or given (j - first) None))))
      (lt-leb first j l)
  | inr g ↦
      no_and (nat_le first j) (nat_lt j (first + count) && nat_eq row (row_of (slice_index_or given (j - first) None)))
      (ap (λ a. a && nat_eq row (row_of (slice_index_or given (j - first) None))) (le-ltb j (first + count) g))
]

pub kept_meet : (s : List Slot) (m : ℕ) (y : Slot) (t u : TaskRows) (b : Bool) → m < length s
    → y.given ≡ (slot_at s m).given → is_live y ≡ b → is_live (slot_at s m) ≡ cond b false true
    → AreKept s t → AreRows u → u.stride ≡ t.stride
    → AreAllPut t u (first_in s m) (places (slot_at s m)) (slot_at s m).given b → AreKept (set s m y) u
kept_meet s m y t u b l g now before kept rows same put =
    kept_set s m y t u l (ap length g) kept rows same own
    (λ row j r a o. put row j r a ∙ ap (λ c. cond c b (is_in t row j)) (is_row_other _ _ _ row j o))
  where
    own : (row k : ℕ) → row < 257 → k < places (slot_at s m) → is_in u row (first_in s m + k) ≡ is_entered y k row
    own row k r a =
        let x = slot_at s m in
        let below = number_below s m k a in
        let long = kept.long in
        let e = nat_eq row (row_of (given_at x k)) in
        let old : is_in t row (first_in s m + k) ≡ (cond b false true && e) =
        kept.bits row m k r a ∙ ap (λ c. c && e) before in
        put row (first_in s m + k) r (omega (arith, below, long))
        ∙ ap (λ c. cond c b (is_in t row (first_in s m + k))) (is_row_own (first_in s m) (places x) x.given row k a)
        ∙ one_is b e (is_in t row (first_in s m + k)) old
        ∙ sym (λ i. now i && nat_eq row (row_of (slice_index_or (g i) k None)))

-- the bits of a task that is given something else
turned_own : (a b z : Bool) → z ≡ b → cond (a && true) true (cond (b && true) false z) ≡ a
turned_own true b z h = refl
turned_own false true z h = refl
turned_own false false z h = h

turned_other : (a b c z : Bool) → c ≡ false → cond (a && c) true (cond (b && c) false z) ≡ z
turned_other a b c z h = λ i. cond (no_and a c h i) true (cond (no_and b c h i) false z)

pub kept_task : (s : List Slot) (m k : ℕ) (y : Slot) (t u : TaskRows) (old new : Option ResourceId) → m < length s
    → k < places (slot_at s m) → y.given ≡ set (slot_at s m).given k new
    → is_live y ≡ true → is_live (slot_at s m) ≡ true → given_at (slot_at s m) k ≡ old → AreKept s t → AreRows u
    → u.stride ≡ t.stride → AreTurned t u (first_in s m + k) old new → AreKept (set s m y) u
kept_task s m k y t u old new l kl g now before had kept rows same turned =
    kept_set s m y t u l (ap length g ∙ length-set (slot_at s m).given k new) kept rows same own others
  where
    number : ℕ
    number = first_in s m + k

    others : (row j : ℕ) → row < 257 → j < 64 * t.stride
        → (j < first_in s m) ⊎ (first_in s m + places (slot_at s m) ≤ j) → is_in u row j ≡ is_in t row j
    others row j r a o =
        let d : j ≢ number = elim o [ inl b ↦ λ e. omega (arith, b, e) | inr b ↦ λ e. omega (arith, b, e, kl) ] in
        turned row j r a ∙ turned_other (nat_eq row (row_of new)) (nat_eq row (row_of old)) (nat_eq j number)
        (is_in t row j) (ne_eqb j number d)

    own : (row n : ℕ) → row < 257 → n < places (slot_at s m) → is_in u row (first_in s m + n) ≡ is_entered y n row
    own row n r a =
        let x = slot_at s m in
        let j = first_in s m + n in
        let below = number_below s m n a in
        let long = kept.long in
        let step = turned row j r (omega (arith, below, long)) in
        elim (cases_eq n k) [
          | inl e ↦
              let hit : nat_eq j number ≡ true = eq-eqb j number (omega (arith, e)) in
              let z : is_in t row j ≡ nat_eq row (row_of old) =
              kept.bits row m n r a ∙ (λ i. before i && nat_eq row (row_of (given_at x (e i))))
              ∙ ap (λ o. nat_eq row (row_of o)) had in
              let mine : given_at y n ≡ new = (λ i. slice_index_or (g i) (e i) None)
              ∙ get_or-set_same x.given k new None kl in
              step
              ∙ ap (λ c. cond (nat_eq row (row_of new) && c) true
              (cond (nat_eq row (row_of old) && c) false (is_in t row j))) hit
              ∙ turned_own (nat_eq row (row_of new)) (nat_eq row (row_of old)) (is_in t row j) z
              ∙ sym (λ i. now i && nat_eq row (row_of (mine i)))
          | inr d ↦
              let miss : nat_eq j number ≡ false = ne_eqb j number (λ q. d (omega (arith, q))) in
              let mine : given_at y n ≡ given_at x n = ap (λ q. slice_index_or q n None) g
              ∙ get_or-set_other x.given k n new None d in
              step
              ∙ turned_other (nat_eq row (row_of new)) (nat_eq row (row_of old)) (nat_eq j number) (is_in t row j) miss
              ∙ kept.bits row m n r a
              ∙ ap (λ c. c && nat_eq row (row_of (given_at x n))) before
              ∙ sym (λ i. now i && nat_eq row (row_of (mine i)))
        ]

-- two bits of a task are put one after the other
pub turned_is : (t u v : TaskRows) (n : ℕ) (old new : Option ResourceId) → u.stride ≡ t.stride
    → ((r j : ℕ) → r < 257 → j < 64 * t.stride → is_in u r j
    ≡ cond (nat_eq r (row_of old) && nat_eq j n) false (is_in t r j))
    → ((r j : ℕ) → r < 257 → j < 64 * u.stride → is_in v r j
    ≡ cond (nat_eq r (row_of new) && nat_eq j n) true (is_in u r j)) → AreTurned t v n old new
turned_is t u v n old new e a b r j rl jl =
    b r j rl (omega (arith, e, jl)) ∙ ap (cond (nat_eq r (row_of new) && nat_eq j n) true) (a r j rl jl)

-- one more slot is entered: its meet's tasks, or nothing where it is free
below_more : (m n : ℕ) → m ≢ n → nat_lt m (n + 1) ≡ nat_lt m n
below_more m n d = elim (cases_lt m n) [
  | inl h ↦ lt-ltb m (n + 1) (omega (arith, h)) ∙ sym (lt-ltb m n h)
  | inr g ↦ elim (cases_lt n m) [
    | inl h ↦ le-ltb m (n + 1) (omega (arith, h)) ∙ sym (le-ltb m n g)
    | inr h ↦ absurd (d (omega (arith, g, h)))
  ]
]

entered_more : (s : List Slot) (n : ℕ) (t u : TaskRows) → AreEntered s n t → AreRows u → u.stride ≡ t.stride
    → ((row k : ℕ) → row < 257 → k < places (slot_at s n) → is_in t row (first_in s n + k) ≡ false
    → is_in u row (first_in s n + k) ≡ is_entered (slot_at s n) k row)
    → ((row j : ℕ) → row < 257 → j < 64 * t.stride → (j < first_in s n) ⊎ (first_in s n + places (slot_at s n) ≤ j)
    → is_in u row j ≡ is_in t row j)
    → AreEntered s (n + 1) u
entered_more s n t u had rows same own others =
    record { rows = rows; long = (let a = had.long in omega (arith, a, same)); bits = bits }
  where
    bits : (row m k : ℕ) → row < 257 → k < places (slot_at s m)
        → is_in u row (first_in s m + k) ≡ (nat_lt m (n + 1) && is_entered (slot_at s m) k row)
    bits row m k r b = elim (cases_eq m n) [
      | inl e ↦
          let many = ap (λ q. places (slot_at s q)) e in
          let number = ap (λ q. first_in s q + k) e in
          let old = ap (is_in t row) (sym number) ∙ had.bits row m k r b
          ∙ ap (λ c. c && is_entered (slot_at s m) k row) (le-ltb m n (omega (arith, e))) in
          ap (is_in u row) number ∙ own row k r (omega (arith, b, many)) old
          ∙ ap (λ q. is_entered (slot_at s q) k row) (sym e)
          ∙ ap (λ c. c && is_entered (slot_at s m) k row) (sym (lt-ltb m (n + 1) (omega (arith, e))))
      | inr d ↦
          let below = number_below s m k b in
          let long = had.long in
          others row (first_in s m + k) r (omega (arith, below, long)) (apart s n m k d b)
          ∙ had.bits row m k r b
          ∙ ap (λ c. c && is_entered (slot_at s m) k row) (sym (below_more m n d))
    ]

pub entered_live : (s : List Slot) (n : ℕ) (t u : TaskRows) → is_live (slot_at s n) ≡ true → AreEntered s n t
    → AreRows u → u.stride ≡ t.stride
    → AreAllPut t u (first_in s n) (places (slot_at s n)) (slot_at s n).given true → AreEntered s (n + 1) u
entered_live s n t u live had rows same put =
    entered_more s n t u had rows same own (λ row j r a o. put row j r a
    ∙ ap (λ c. cond c true (is_in t row j)) (is_row_other _ _ _ row j o))
  where
    own : (row k : ℕ) → row < 257 → k < places (slot_at s n) → is_in t row (first_in s n + k) ≡ false
        → is_in u row (first_in s n + k) ≡ is_entered (slot_at s n) k row
    own row k r a old =
        let x = slot_at s n in
        let below = number_below s n k a in
        let long = had.long in
        let e = nat_eq row (row_of (given_at x k)) in
        put row (first_in s n + k) r (omega (arith, below, long))
        ∙ ap (λ c. cond c true (is_in t row (first_in s n + k))) (is_row_own (first_in s n) (places x) x.given row k a)
        ∙ one_is true e (is_in t row (first_in s n + k)) old
        ∙ ap (λ c. c && e) (sym live)

pub entered_free : (s : List Slot) (n : ℕ) (t : TaskRows) → is_live (slot_at s n) ≡ false → AreEntered s n t
    → AreEntered s (n + 1) t
entered_free s n t free had =
    entered_more s n t t had had.rows refl
    (λ row k r b old. old ∙ ap (λ c. c && nat_eq row (row_of (given_at (slot_at s n) k))) (sym free))
    (λ row j r b o. refl)

pub entered_all : (s : List Slot) (n : ℕ) (t : TaskRows) → length s ≤ n → AreEntered s n t → AreKept s t
entered_all s n t g had = record { rows = had.rows; long = had.long; bits = bits }
  where
    bits : (row m k : ℕ) → row < 257 → k < places (slot_at s m)
        → is_in t row (first_in s m + k) ≡ is_entered (slot_at s m) k row
    bits row m k r b =
        let below : m < length s = elim (cases_lt m (length s)) [
          | inl l ↦ l
          | inr h ↦ let none : places (slot_at s m) ≡ 0 = ap places (get_or_past s m no_slot h) in
              absurd (omega (arith, none, b))
        ] in
        had.bits row m k r b ∙ ap (λ c. c && is_entered (slot_at s m) k row) (lt-ltb m n (omega (arith, below, g)))

pub entered_none : (s : List Slot) (t : TaskRows) → AreRows t → tasks_of_all s ≤ 64 * t.stride
    → ((r : ℕ) → r < 257 → AreOut t r 0 (64 * t.stride)) → AreEntered s 0 t
entered_none s t rows long none = record { rows = rows; long = long; bits = bits }
  where
    bits : (row m k : ℕ) → row < 257 → k < places (slot_at s m)
        → is_in t row (first_in s m + k) ≡ (nat_lt m 0 && is_entered (slot_at s m) k row)
    bits row m k r b =
        let below = number_below s m k b in
        none row r (first_in s m + k) (omega arith) (omega (arith, below, long))
        ∙ ap (λ c. c && is_entered (slot_at s m) k row) (sym (le-ltb m 0 (omega arith)))

-- a change keeps the numbers of all tasks, so that they are those of the instance
length_given : (g : List (Option ResourceId)) (c : Change) → length (given_after g c) ≡ length g
length_given g (change.Add m d) = refl
length_given g (change.Drop m d) = refl
length_given g (change.Place m t) = refl
length_given g (change.Lift m t) = refl
length_given g (change.Give t r) = length-set g t.place (Some r)
length_given g (change.Take t r) = length-set g t.place None

pub first_fits : (p : Parts) (s : List Slot) (c : Change) (m : ℕ) → AreFirstMeets 0 p.events → Fits p s c
    → first_task p.events m ≡ first_in s m
first_fits p s c m f fits =
    let x = slot_at s (meet_of c) in
    first_told p (after s c) m f fits.told ∙ first_kept s (meet_of c) (changed x c) m (length_given x.given c)

pub slots_fit : (p : Parts) (s : List Slot) (c : Change) → AreFirstMeets 0 p.events → Fits p s c
    → length s ≡ sum_by (λ (e : EventInfo). e.duration) p.events
slots_fit p s c f fits = sym (length-set s (meet_of c) (changed (slot_at s (meet_of c)) c))
    ∙ slots_told p (after s c) f fits.told

-- the rows after each change
is_map : {A B : Type 0} (f : A → B) (o : Option A) → is_some (option_map f o) ≡ is_some o
is_map f None = refl
is_map f (Some x) = refl

pub keeps_add : (p : Parts) (s : List Slot) (m : MeetId) (d : ℕ) (t u : TaskRows) → Fits p s (change.Add m d)
    → AreKept s t → AreRows u → u.stride ≡ t.stride
    → AreAllPut t u (first_in s m.0) (length (slot_at s m.0).given) (slot_at s m.0).given true
    → AreKept (after s (change.Add m d)) u
keeps_add p s m d t u fits kept rows same put =
    kept_meet s m.0 (changed (slot_at s m.0) (change.Add m d)) t u true fits.there refl refl (ap is_some fits.suits)
    kept rows same put

pub keeps_drop : (p : Parts) (s : List Slot) (m : MeetId) (d : ℕ) (t u : TaskRows) → Fits p s (change.Drop m d)
    → AreKept s t → AreRows u → u.stride ≡ t.stride
    → AreAllPut t u (first_in s m.0) (length (slot_at s m.0).given) (slot_at s m.0).given false
    → AreKept (after s (change.Drop m d)) u
keeps_drop p s m d t u fits kept rows same put =
    kept_meet s m.0 (changed (slot_at s m.0) (change.Drop m d)) t u false fits.there refl refl (ap is_some fits.suits.0)
    kept rows same put

had_given : (xs : List (Option ResourceId)) (k : ℕ) (v : Option ResourceId) → slice_get xs k ≡ Some v
    → slice_index_or xs k None ≡ v
had_given xs k v h = same_Some (get_or xs k None) v (sym (slice_get-get_or xs k None (slice_get_within xs k v h)) ∙ h)

pub given_there : (p : Parts) (s : List Slot) (t : TaskId) (r : ResourceId) → Fits p s (change.Give t r)
    → first_in s t.meet.0 + t.place < tasks_of_all s
given_there p s t r fits = number_below s t.meet.0 t.place
    (slice_get_within (slot_at s t.meet.0).given t.place None fits.suits.2)

pub taken_there : (p : Parts) (s : List Slot) (t : TaskId) (r : ResourceId) → Fits p s (change.Take t r)
    → first_in s t.meet.0 + t.place < tasks_of_all s
taken_there p s t r fits = number_below s t.meet.0 t.place
    (slice_get_within (slot_at s t.meet.0).given t.place (Some r) fits.suits.2)

pub keeps_give : (p : Parts) (s : List Slot) (k : TaskId) (r : ResourceId) (t u : TaskRows) → Fits p s (change.Give k r)
    → AreKept s t → AreRows u → u.stride ≡ t.stride
    → AreTurned t u (first_in s k.meet.0 + k.place) None (Some r) → AreKept (after s (change.Give k r)) u
keeps_give p s k r t u fits kept rows same turned =
    let x = slot_at s k.meet.0 in
    let live = ap is_some fits.suits.1 in
    kept_task s k.meet.0 k.place (changed x (change.Give k r)) t u None (Some r) fits.there
    (slice_get_within x.given k.place None fits.suits.2) refl live live
    (had_given x.given k.place None fits.suits.2)
    kept rows same turned

pub keeps_take : (p : Parts) (s : List Slot) (k : TaskId) (r : ResourceId) (t u : TaskRows) → Fits p s (change.Take k r)
    → AreKept s t → AreRows u → u.stride ≡ t.stride
    → AreTurned t u (first_in s k.meet.0 + k.place) (Some r) None → AreKept (after s (change.Take k r)) u
keeps_take p s k r t u fits kept rows same turned =
    let x = slot_at s k.meet.0 in
    let live = ap is_some fits.suits.1 in
    kept_task s k.meet.0 k.place (changed x (change.Take k r)) t u (Some r) None fits.there
    (slice_get_within x.given k.place (Some r) fits.suits.2) refl live live
    (had_given x.given k.place (Some r) fits.suits.2)
    kept rows same turned

pub keeps_place : (p : Parts) (s : List Slot) (m : MeetId) (a : TimeId) (t : TaskRows) → Fits p s (change.Place m a)
    → AreKept s t → AreKept (after s (change.Place m a)) t
keeps_place p s m a t fits kept = kept_rest s m.0 (changed (slot_at s m.0) (change.Place m a)) t fits.there refl
    (is_map _ (slot_at s m.0).span) kept

pub keeps_lift : (p : Parts) (s : List Slot) (m : MeetId) (a : TimeId) (t : TaskRows) → Fits p s (change.Lift m a)
    → AreKept s t → AreKept (after s (change.Lift m a)) t
keeps_lift p s m a t fits kept = kept_rest s m.0 (changed (slot_at s m.0) (change.Lift m a)) t fits.there refl
    (is_map _ (slot_at s m.0).span) kept
