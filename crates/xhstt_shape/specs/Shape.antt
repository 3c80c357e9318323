-- The archive of a tree, or its first fault by the table of elements.
use Rattle.std.specs.Prelude.{if◌then◌else◌, Result, Ok, Err}
use Rattle.std.specs.Str.{bytes_eq}
use Rattle.xhstt_text.specs.Forest.{Forest, empty, node}
use Rattle.xhstt_text.specs.FlatTable.{root_forest}
use Rattle.xhstt_text.specs.Handles.{Standing}
use Rattle.xhstt_text.specs.declared.tree.Tree.{Tree}
use Rattle.fault_tables.specs.declared.faults.TheConstants.{UNKNOWN_ELEMENT, MISSING_CHILD}
use Rattle.xhstt_shape.specs.declared.faults.ShapeFault.{ShapeFault}
use Rattle.xhstt_shape.specs.declared.faults.ShapeFault.TheVariants.{Bad}
use Rattle.xhstt_shape.specs.declared.records.Archive.{Archive}
use Rattle.xhstt_shape.specs.declared.schema.Row.TheVariants as row
use Rattle.xhstt_shape.specs.declared.words.Tag.TheVariants as tag
use Rattle.xhstt_shape.specs.Faults.{Outcome}
use Rattle.xhstt_shape.specs.Values.{archive}
use Rattle.xhstt_shape.specs.Walk.{fault_of}
use Rattle.xhstt_shape.specs.Words.{word}

-- the archive of an element that the walk went over, or the fault that it found
abbrev pub judged : Outcome → Standing → Result Archive ShapeFault
judged (Ok _) e = Ok (archive e)
judged (Err fault) e = Err fault

-- the archive that an outermost element gives, or its first fault; another name than that of an
-- archive is one that the table does not have
abbrev pub shape : Standing → Result Archive ShapeFault
shape e =
    if bytes_eq (word tag.HighSchoolTimetableArchive) e.info.name
    then judged (fault_of row.Archive e) e
    else Err (Bad UNKNOWN_ELEMENT e.info.at)

-- the archive of the outermost element of a row that has one; a row without one lacks it
abbrev pub shape_of : Forest → Result Archive ShapeFault
shape_of empty = Err (Bad MISSING_CHILD 0)
shape_of (node i kids others) = shape (record { info = i; kids = kids })

-- the archive of a tree, which has one outermost element, or its first fault
abbrev pub shape_of_tree : Tree → Result Archive ShapeFault
shape_of_tree tree = shape_of (root_forest tree)
