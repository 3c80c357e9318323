-- An answer that joined what waits, of which a sink may have taken something meanwhile, or that was cut off.
use Rattle.std.specs.Prelude.{ℕ, Option, List, [], ◌++◌, encode_utf8_all}
use Rattle.khe_io.specs.Amid.{IsAmid}
use Rattle.khe_io.specs.Faults.{TookFront}

-- an answer joined a text that waited: a first part of both was taken, and the rest of both waits
abbrev pub IsAdded : Option (List ℕ) → Option (List ℕ) → List ℕ → List ℕ → List ℕ → Type 0
IsAdded before now text answer text2 = IsAmid before now text2 [] (text ++ answer)

-- a text that waited and an answer to it were cut off: a first part of both was taken
abbrev pub IsCutOff : Option (List ℕ) → Option (List ℕ) → List ℕ → List ℕ → Type 0
IsCutOff before now text answer = TookFront before now (encode_utf8_all (text ++ answer))
