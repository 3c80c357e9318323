-- A shelf in memory as a value: its files, its piece, the calls that fail, its counts, and what is left of the
-- open file. Also what each call answers, and the shelf after it.
use Rattle.std.specs.Prelude.{ℕ, Bool, ◌||◌, if◌then◌else◌, List, ◌++◌, length, take, drop, min, Option, None}
use Rattle.std.specs.Prelude.{Some, is_none, is_some, IsTrue, IsSome, refl}
use Rattle.std.specs.Option.{option_map, option_map_or}
use Rattle.khe_io.specs.Calls.{fails_next, one_more, faults_after}
use Rattle.khe_io.specs.declared.memory_shelf.MemoryShelf.{MemoryShelf}
use Rattle.khe_io.specs.declared.named.Named.{Named}
use Rattle.khe_io.specs.declared.named.Place.{Place}
use Rattle.khe_io.specs.Named.{bytes_under, bytes_from}

-- where a source is open, what is left of it is told
pub open_source_tells : (files : List Named) (source : Option Place)
    → IsTrue (is_some source) → IsSome (option_map (bytes_from files) source)
open_source_tells files None is_open = is_open
open_source_tells files (Some place) is_open = refl

-- the files of a shelf, how many bytes it gives in a read at most, the numbers of the calls that fail, how many
-- calls were made and how many faults counted, and what is left of the open source
pub record ShelfState : Type 0 where
  pub files : List Named
  pub piece : ℕ
  pub failing : List ℕ
  pub made : ℕ
  pub faults : ℕ
  pub left : Option (List ℕ)

abbrev pub state_of : MemoryShelf → ShelfState
state_of s = record {
  files = s.files;
  piece = s.piece;
  failing = s.calls.failing;
  made = s.calls.made;
  faults = s.calls.faults;
  left = option_map (bytes_from s.files) s.source;
}

-- the next call fails by its number
abbrev pub is_listed : ShelfState → Bool
is_listed s = fails_next s.failing s.made

-- an opening fails by its number, or where nothing stands under the name
abbrev pub fails_to_open : ShelfState → List ℕ → Bool
fails_to_open s name = is_listed s || is_none (bytes_under s.files name)

-- what is left of the open source after an opening
abbrev pub after_open : ShelfState → List ℕ → ShelfState
after_open s name = record {
  files = s.files;
  piece = s.piece;
  failing = s.failing;
  made = one_more s.made;
  faults = faults_after (fails_to_open s name) s.faults;
  left = if is_listed s then None else bytes_under s.files name;
}

-- how many bytes a read gives into a buffer: as many as are left, fit, and may be given at once
abbrev pub given : ShelfState → ℕ → ℕ
given s room = option_map_or (λ rest. min (min (length rest) room) s.piece) s.left 0

-- the bytes of a buffer after a read: the bytes that were given, and the others as they were
abbrev pub filled : ShelfState → List ℕ → List ℕ
filled s buf = option_map_or (λ rest. take (given s (length buf)) rest ++ drop (given s (length buf)) buf) s.left buf

abbrev pub after_read : ShelfState → ℕ → ShelfState
after_read s room = record {
  files = s.files;
  piece = s.piece;
  failing = s.failing;
  made = one_more s.made;
  faults = faults_after (is_listed s) s.faults;
  left = if is_listed s then s.left else option_map (drop (given s room)) s.left;
}
