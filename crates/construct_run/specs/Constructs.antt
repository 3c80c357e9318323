-- The text of a construction: the archive with the timetable as its only solution, and the line on it; and the same
-- of a repair of it.
use Rattle.std.specs.Prelude.{ℕ, ◌≡◌, Option, Some, None, List, ◌++◌, length, encode_utf8_all}
use Rattle.construct.specs.Constructed.{IsBuilt}
use Rattle.construct.specs.declared.built.Built.{Built}
use Rattle.construct_run.specs.Grouped.{grouped}
use Rattle.construct_run.specs.Lines.{construct_line}
use Rattle.khe_instance.specs.declared.parts.Parts.{Parts}
use Rattle.repair_run.specs.Lines.{repair_line}
use Rattle.repair_run.specs.Repairs.{IsMended}
use Rattle.repair_run.specs.declared.mending.Mended.{Mended}
use Rattle.xhstt_shape.specs.declared.records.Archive.{Archive}
use Rattle.xhstt_writer.specs.Archives.{canonical}

-- the line on what was built
abbrev pub built_line : Built → List ℕ
built_line b = construct_line (length b.plain.meets) b.totals

-- the bytes of an archive whose only solution is what was built, and of the line on it
abbrev pub built_bytes : Archive → Parts → Built → List ℕ
built_bytes a p b = canonical (grouped a p b.plain) ++ encode_utf8_all (built_line b)

-- where that is repaired, the bytes with what the repair leaves, the same line, and the one on the repair
abbrev pub mended_bytes : Archive → Parts → Built → Mended → List ℕ
mended_bytes a p b m =
    canonical (grouped a p m.plain) ++ encode_utf8_all (built_line b ++ repair_line m.outcome m.totals)

-- a text that these bytes spell, for what is constructed of an instance
pub record IsBuiltText (a : Archive) (p : Parts) (text : List ℕ) : Type 0 where
  pub built : Built
  pub is : IsBuilt p built
  pub bytes_are : encode_utf8_all text ≡ built_bytes a p built

-- and for a repair of it by chains of at most `depth` moves, of which `budget` may be tried
pub record IsMendedText (a : Archive) (p : Parts) (depth budget : ℕ) (text : List ℕ) : Type 0 where
  pub built : Built
  pub is : IsBuilt p built
  pub mended : Mended
  pub repair : IsMended p built.plain depth budget mended
  pub bytes_are : encode_utf8_all text ≡ mended_bytes a p built mended

-- with a repair or without
abbrev pub IsConstructText : Archive → Parts → Option (ℕ × ℕ) → List ℕ → Type 0
IsConstructText a p None text = IsBuiltText a p text
IsConstructText a p (Some chains) text = IsMendedText a p chains.0 chains.1 text
