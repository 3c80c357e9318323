-- Bytes that are written piece by piece: what the sink took, what waits to be written, and the rest. And lines that
-- are read one after the other.
use Rattle.std.specs.Prelude.{ℕ, ◌≡◌, Option, IfSome, List, [], ◌∷◌, ◌++◌, encode_utf8_all}
use Rattle.std.specs.Io.KnownBytes.{Consumes}
use Rattle.edit_script.specs.Lines.{lines}
use Rattle.khe_io.specs.Faults.{Took, TookFront}
use Rattle.talk_run.specs.declared.reading.Found.{Found}
use Rattle.talk_run.specs.declared.reading.Found.TheVariants as found

-- of whole bytes the sink took a first part since `before`, `pending` waits, and `rest` is to come
pub record IsBetween (before now : Option (List ℕ)) (pending rest whole : List ℕ) : Type 0 where
  pub written : List ℕ
  pub took : Took before now written
  pub is : written ++ (encode_utf8_all pending ++ rest) ≡ whole

-- a reader had these bytes left, where it tells them
abbrev pub HadLeft : Option (List ℕ) → List ℕ → Type 0
HadLeft left bytes = IfSome left (λ known. known ≡ bytes)

-- a reader lost bytes that are the next line with its line feed, whatever follows
pub record IsLine (left left2 : Option (List ℕ)) (line : List ℕ) : Type 0 where
  pub bytes : List ℕ
  pub read : Consumes left left2 bytes
  pub next : (more : List ℕ) → lines (bytes ++ more) ≡ line ∷ lines more

-- all that a reader had left is the last line, without a line feed
pub record IsLast (left : Option (List ℕ)) (line : List ℕ) : Type 0 where
  pub bytes : List ℕ
  pub all : HadLeft left bytes
  pub last : lines bytes ≡ line ∷ []

-- what was found in a reader, with the line that a buffer has now; at the end it had nothing left
abbrev pub IsFound : Option (List ℕ) → Option (List ℕ) → List ℕ → Found → Type 0
IsFound left left2 line found.Line = IsLine left left2 line
IsFound left left2 line found.Last = IsLast left line
IsFound left left2 line found.End = HadLeft left []

-- of a reader's bytes some were lost, and whatever follows, what the sink took and what the lines that follow are
-- answered is what all lines are answered
pub record IsTalking (left left2 before now : Option (List ℕ)) (said first : List (List ℕ) → List ℕ) : Type 0 where
  pub bytes : List ℕ
  pub read : Consumes left left2 bytes
  pub is : (more : List ℕ) → IsBetween before now [] (said (lines more)) (first (lines (bytes ++ more)))

-- of bytes, which are all that a reader had left, the sink took what their lines are answered
pub record IsTalked (left before now : Option (List ℕ)) (said : List (List ℕ) → List ℕ) : Type 0 where
  pub bytes : List ℕ
  pub all : HadLeft left bytes
  pub took : Took before now (said (lines bytes))

-- of bytes, which are all that a reader had left, the sink took first bytes of what their lines are answered
pub record IsCutOff (left before now : Option (List ℕ)) (said : List (List ℕ) → List ℕ) : Type 0 where
  pub bytes : List ℕ
  pub all : HadLeft left bytes
  pub front : TookFront before now (said (lines bytes))
