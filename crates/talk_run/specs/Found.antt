-- The bytes of a line, up to a line feed or to the end.
use Rattle.std.specs.Prelude.{ℕ, ◌≡◌, ◌==◌, ◌<◌, false, List, [], ◌∷◌, ◌++◌, length, All}
use Rattle.talk_run.specs.declared.reading.Found.{Found}
use Rattle.talk_run.specs.declared.reading.Found.TheVariants as found

-- no byte is a line feed
abbrev pub HaveNoFeed : List ℕ → Type 0
HaveNoFeed bytes = All (λ b. (b == 10) ≡ false) bytes

-- a line before its line feed, a last line, or nothing
abbrev pub IsCut : List ℕ → List ℕ → Found → Type 0
IsCut bytes line found.Line = (bytes ≡ line ++ 10 ∷ []) × HaveNoFeed line
IsCut bytes line found.Last = (line ≡ bytes) × (0 < length bytes) × HaveNoFeed bytes
IsCut bytes line found.End = bytes ≡ []
