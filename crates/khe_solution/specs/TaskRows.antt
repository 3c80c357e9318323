-- The tasks of live meets as rows of bits, one bit for each task slot: a row of those without a
-- resource, and rows that the resources share.
use Rattle.std.specs.Prelude.{ℕ, ◌≡◌, ◌<◌, ◌≤◌, ◌+◌, ◌*◌, ◌%◌, ◌^◌, ◌-◌, Bool, true, false, ◌&&◌, nat_eq, nat_le}
use Rattle.std.specs.Prelude.{nat_lt, if◌then◌else◌, Option, Some, None, List, length, take, slice_index_or}
use Rattle.std.specs.List.{sum_by}
use Rattle.khe_base.specs.Bits.{is_set}
use Rattle.khe_base.specs.declared.numbers.ResourceId.{ResourceId}
use Rattle.khe_base.specs.declared.numbers.TaskId.{TaskId}
use Rattle.khe_told.specs.Slots.{slot_at, is_live, given_at}
use Rattle.khe_told.specs.declared.slots.Slot.{Slot}
use Rattle.khe_solution.specs.Marks.{AreMarked}
use Rattle.khe_solution.specs.NextTask.{has_task}
use Rattle.khe_solution.specs.declared.tasks.TaskRows.{TaskRows}

-- how many task slots a slot has, how many those before it have, and how many there are
abbrev pub places : Slot → ℕ
places x = length x.given

abbrev pub first_in : List Slot → ℕ → ℕ
first_in s m = sum_by places (take m s)

abbrev pub tasks_of_all : List Slot → ℕ
tasks_of_all s = sum_by places s

-- the row of a task that has this, or has nothing
abbrev pub row_of : Option ResourceId → ℕ
row_of None = 0
row_of (Some r) = r.0 % 256 + 1

-- where the bit of a task slot stands in a row, where a row has n words
unfoldable pub spot_of : ℕ → ℕ → ℕ → ℕ
spot_of stride row n = 64 * (row * stride) + n

-- the rows have their words, and each word that has a bit is marked
pub record AreRows (t : TaskRows) : Type 0 where
  pub marked : AreMarked t.words.items t.marks.items
  pub many : length t.words.items ≡ 257 * t.stride
  pub room : length t.words.items ≤ 64 * length t.marks.items
  pub some : length t.marks.items < 2 ^ 32
  pub few : t.stride < 2 ^ 22

-- the bit of a task slot in a row
abbrev pub is_in : TaskRows → ℕ → ℕ → Bool
is_in t row n = is_set t.words.items (spot_of t.stride row n)

-- the bits below a row's end from a number on, and the first of them that is set
abbrev pub AreOut : TaskRows → ℕ → ℕ → ℕ → Type 0
AreOut t row from end = (n : ℕ) → from ≤ n → n < end → is_in t row n ≡ false

abbrev pub IsFirstIn : TaskRows → ℕ → ℕ → ℕ → Type 0
IsFirstIn t row from n = (from ≤ n) × (n < 64 * t.stride) × (is_in t row n ≡ true) × AreOut t row from n

-- whether the row is the one of the task that has this number, of tasks from a first one on
abbrev pub is_row_of : ℕ → ℕ → List (Option ResourceId) → ℕ → ℕ → Bool
is_row_of first count given row n = nat_le first
    n && (nat_lt n (first + count) && nat_eq row (row_of (slice_index_or given (n - first) None)))

-- the bits after one of them is put, after those of a meet's tasks are, and after a task's resource is
-- exchanged
abbrev pub ArePut : TaskRows → TaskRows → ℕ → ℕ → Bool → Type 0
ArePut t u row n b = (r j : ℕ) → r < 257 → j < 64 * t.stride
    → is_in u r j ≡ (if nat_eq r row && nat_eq j n then b else is_in t r j)

abbrev pub AreAllPut : TaskRows → TaskRows → ℕ → ℕ → List (Option ResourceId) → Bool → Type 0
AreAllPut t u first count given b = (r j : ℕ) → r < 257 → j < 64 * t.stride
    → is_in u r j ≡ (if is_row_of first count given r j then b else is_in t r j)

abbrev pub AreTurned : TaskRows → TaskRows → ℕ → Option ResourceId → Option ResourceId → Type 0
AreTurned t u n old new = (r j : ℕ) → r < 257 → j < 64 * t.stride
    → is_in u r j ≡ (if nat_eq r (row_of new) && nat_eq j n then true else if nat_eq r (row_of old) && nat_eq j n then
    false else is_in t r j)

-- the rows have the tasks of these slots: of those below a number, and of all
abbrev pub is_entered : Slot → ℕ → ℕ → Bool
is_entered x k row = is_live x && nat_eq row (row_of (given_at x k))

pub record AreEntered (s : List Slot) (n : ℕ) (t : TaskRows) : Type 0 where
  pub rows : AreRows t
  pub long : tasks_of_all s ≤ 64 * t.stride
  pub bits : (row m k : ℕ) → row < 257 → k < places (slot_at s m)
      → is_in t row (first_in s m + k) ≡ (nat_lt m n && is_entered (slot_at s m) k row)

pub record AreKept (s : List Slot) (t : TaskRows) : Type 0 where
  pub rows : AreRows t
  pub long : tasks_of_all s ≤ 64 * t.stride
  pub bits : (row m k : ℕ) → row < 257 → k < places (slot_at s m)
      → is_in t row (first_in s m + k) ≡ is_entered (slot_at s m) k row

-- the first wanted task, by numbers, from a number on
abbrev pub AreUnwanted : List Slot → Option ResourceId → ℕ → ℕ → Type 0
AreUnwanted s wanted from end = (u : TaskId) → u.place < places (slot_at s u.meet.0)
    → from ≤ first_in s u.meet.0 + u.place → first_in s u.meet.0 + u.place < end
    → has_task s wanted u ≡ false

pub record IsFirstWanted (s : List Slot) (wanted : Option ResourceId) (from : ℕ) (t : TaskId) : Type 0 where
  pub there : t.place < places (slot_at s t.meet.0)
  pub from_ : from ≤ first_in s t.meet.0 + t.place
  pub wanted_ : has_task s wanted t ≡ true
  pub before : AreUnwanted s wanted from (first_in s t.meet.0 + t.place)

-- the number that tasks from this one on have
abbrev pub number_from : List Slot → TaskId → ℕ
number_from s t = first_in s t.meet.0 + (if nat_lt t.place (places (slot_at s t.meet.0)) then t.place else places
    (slot_at s t.meet.0))
