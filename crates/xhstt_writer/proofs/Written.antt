-- What is written of a well-formed archive is read back as the same archive.
use Rattle.std.proofs.Common.{◌≡◌, if◌then◌else◌, Ok, Err, sym, ap, ◌∙◌, arith}
use Rattle.std.specs.Str.{bytes_eq}
use Rattle.xhstt_text.specs.Handles.{Standing}
use Rattle.fault_tables.specs.declared.faults.TheConstants.{UNKNOWN_ELEMENT}
use Rattle.xhstt_shape.specs.declared.faults.ShapeFault.TheVariants.{Bad}
use Rattle.xhstt_shape.specs.declared.records.Archive.{Archive}
use Rattle.xhstt_shape.specs.declared.schema.Row.TheVariants as row_of
use Rattle.xhstt_shape.specs.declared.words.Tag.TheVariants as tag
use Rattle.xhstt_shape.specs.Shape.{judged, shape, shape_of}
use Rattle.xhstt_shape.specs.Values as value
use Rattle.xhstt_shape.specs.Walk.{fault_of}
use Rattle.xhstt_shape.specs.WellFormed.{IsWellFormed}
use Rattle.xhstt_shape.specs.Words.{word}
use Rattle.xhstt_writer.specs.Parts.{element, row}
use Rattle.xhstt_writer.specs.Archives.{archive_labels, archive_parts, canonical, IsReadAs}
use Rattle.xhstt_writer.specs.Lookups.{StandsAs}
use Rattle.xhstt_writer.proofs.Fields.{bytes_eq-same}
use Rattle.xhstt_writer.proofs.Fits.{element_fine, row_writable}
use Rattle.xhstt_writer.proofs.Documents.{document_spells}
use Rattle.xhstt_writer.proofs.SolutionLaw.{archive-read}
use Rattle.xhstt_writer.proofs.SolutionFits.{archive_fits}

-- the outermost element has the name of an archive and no fault, so its archive comes
root_shape : (a : Archive) (e : Standing) → IsWellFormed a
    → StandsAs tag.HighSchoolTimetableArchive (element (archive_labels a) (row (archive_parts a))) e
    → shape e ≡ Ok (value.archive e)
root_shape a e w h =
    ap (λ n. if bytes_eq (word tag.HighSchoolTimetableArchive) n then judged (fault_of row_of.Archive e) e else Err
    (Bad UNKNOWN_ELEMENT e.info.at)) h.0.name
    ∙ ap (λ b. if b then judged (fault_of row_of.Archive e) e else Err (Bad UNKNOWN_ELEMENT e.info.at))
    (bytes_eq-same (word tag.HighSchoolTimetableArchive))
    ∙ ap (λ o. judged o e) (element_fine 9 row_of.Archive (archive_labels a) (archive_parts a)
    tag.HighSchoolTimetableArchive e (archive_fits a w) h)

pub canonical_spells : (a : Archive) → IsWellFormed a → IsReadAs (canonical a) a
unfolding canonical
canonical_spells a w =
    let fits = archive_fits a w in
    let d = document_spells tag.HighSchoolTimetableArchive (archive_labels a) (row (archive_parts a)) fits.labels
    (row_writable 9 1 row_of.Archive (archive_parts a) (omega arith) fits.parts) in
    let root = d.2 in (
      d.0,
      value.archive root.own,
      d.1,
      ap shape_of root.is
          ∙ root_shape a root.own w root.stands,
      sym (archive-read tag.HighSchoolTimetableArchive a root.own w
          root.stands),
    )
