-- A sink in memory as a value: the bytes that it took, its room, its piece, the calls that fail, and its
-- counts. Also what a write answers, and the sink after it.
use Rattle.std.specs.Prelude.{ℕ, ◌-◌, ◌==◌, Bool, ◌||◌, if◌then◌else◌, List, ◌++◌, length, take, min}
use Rattle.khe_io.specs.Calls.{fails_next, one_more, faults_after}
use Rattle.khe_io.specs.declared.memory_sink.MemorySink.{MemorySink}

-- the bytes that a sink took, how many it takes in all and in a write at most, the numbers of the calls that fail,
-- and how many calls were made and how many faults counted
pub record SinkState : Type 0 where
  pub taken : List ℕ
  pub room : ℕ
  pub piece : ℕ
  pub failing : List ℕ
  pub made : ℕ
  pub faults : ℕ

abbrev pub state_of : MemorySink → SinkState
state_of s = record {
  taken = s.taken.items;
  room = s.room;
  piece = s.piece;
  failing = s.calls.failing;
  made = s.calls.made;
  faults = s.calls.faults;
}

-- how many bytes a write takes that does not fail: as many as there are, may be taken at once, and fit
abbrev pub fitting : SinkState → ℕ → ℕ
fitting s offered = min (min offered s.piece) (s.room - length s.taken)

-- a write of this many bytes fails by its number, or where none of them fits
abbrev pub fails_to_take : SinkState → ℕ → Bool
fails_to_take s offered = fails_next s.failing s.made || fitting s offered == 0

abbrev pub after_write : SinkState → List ℕ → SinkState
after_write s bytes = record {
  taken = if fails_to_take s (length bytes) then s.taken else s.taken ++ take (fitting s (length bytes)) bytes;
  room = s.room;
  piece = s.piece;
  failing = s.failing;
  made = one_more s.made;
  faults = faults_after (fails_to_take s (length bytes)) s.faults;
}
