-- Numbers in the order of their first mention, each once.
use Rattle.std.specs.Prelude.{ℕ, if◌then◌else◌, [], ◌∷◌, ◌++◌}
use Rattle.khe_base.specs.IdSet.{has_member, with_member, no_members}
use Rattle.xhstt_resolve.specs.declared.collecting.Mentions.{Mentions}

-- one more mention
abbrev pub with_mention : Mentions → ℕ → Mentions
with_mention m n = if has_member m.seen n then m else record
    { seen = with_member m.seen n; numbers = m.numbers ++ n ∷ [] }

-- no mention of the numbers below a size
abbrev pub no_mentions : ℕ → Mentions
no_mentions size = record { seen = no_members size; numbers = [] }
