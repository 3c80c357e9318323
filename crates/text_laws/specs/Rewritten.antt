-- What the canonical spelling of an archive is read as.
use Rattle.std.specs.Prelude.{ℕ, ◌≡◌, List}
use Rattle.xhstt_resolve.specs.declared.resolving.Resolved.{Resolved}
use Rattle.xhstt_shape.specs.Places.{IsSame}
use Rattle.xhstt_shape.specs.declared.records.Archive.{Archive}
use Rattle.xhstt_writer.specs.Archives.{canonical}
use Rattle.text_laws.specs.Read.{IsArchiveOf}

-- the spelling of an archive is read as the same archive, with the same instances, of which it is the spelling too
pub record IsReadAgain (a : Archive) (r : Resolved) : Type 0 where
  pub archive : Archive
  pub read : IsArchiveOf (canonical a) archive r
  pub same : IsSame a archive
  pub again : canonical archive ≡ canonical a

abbrev pub SpellingsAreReadAgain : Type 0
SpellingsAreReadAgain = (bytes : List ℕ) (a : Archive) (r : Resolved) → IsArchiveOf bytes a r → IsReadAgain a r
