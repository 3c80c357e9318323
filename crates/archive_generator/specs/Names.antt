-- The Ids of a job's parts, which are words or words with a number after them, and references by them.
use Rattle.std.specs.Prelude.{ℕ, Option, Some, None, List, ◌++◌, codes, decimal, map}
use Rattle.std.specs.List.{range_with_len}
use Rattle.xhstt_shape.specs.declared.records.Name.{Name}
use Rattle.xhstt_shape.specs.declared.records.Ref.{Ref}

-- an Id or a role, and a reference; all their places are 0
abbrev pub name : List ℕ → Name
name text = record { text = text; at = 0 }

abbrev pub to : List ℕ → Ref
to id = record { id = id; at = 0 }

-- a word with a number after it
abbrev pub numbered : List ℕ → ℕ → List ℕ
numbered word n = word ++ decimal n

-- the numbers below a count
unfoldable pub below : ℕ → List ℕ
below count = range_with_len 0 count

-- references by a word and each number below a count
abbrev pub to_each : List ℕ → ℕ → List Ref
to_each word count = map (λ n. to (numbered word n)) (below count)

-- a reference to a time, where there is one
abbrev pub to_time : Option ℕ → Option Ref
to_time None = None
to_time (Some n) = Some (to (numbered (codes "t") n))
