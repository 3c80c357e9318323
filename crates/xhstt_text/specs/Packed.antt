-- The rows of a tree as they are stored in few bytes.
use Rattle.std.specs.Prelude.{ℕ, ◌-◌, ◌==◌, if◌then◌else◌, Option, Some, None}
use Rattle.xhstt_text.specs.declared.tree.Node.{Node}

-- what the number after a place stands for: none where it is 0
abbrev pub unpacked : ℕ → Option ℕ
unpacked after = if after == 0 then None else Some (after - 1)

-- an element with another beginning of its direct text
abbrev pub with_loose : Node → Option ℕ → Node
with_loose n loose = record n { loose = loose }
