-- The table of refusals: the number and the name of each.
use Rattle.std.specs.Prelude.{ℕ, List, codes}
use Rattle.khe_told.specs.declared.refusals.Refusal.{Refusal}
use Rattle.khe_told.specs.declared.refusals.Refusal.TheVariants.{NoSuchMeet, NoSuchTask, NoSuchTime, NoSuchResource}
use Rattle.khe_told.specs.declared.refusals.Refusal.TheVariants.{Fixed, AlreadyAssigned, NotAssigned, OffEnd, WrongType}
use Rattle.khe_told.specs.declared.refusals.Refusal.TheVariants.{BadCut, OtherEvent, NotAdjacent, TasksDiffer, Same}
use Rattle.khe_told.specs.declared.refusals.Refusal.TheVariants.{NoSuchMonitor, NoSuchGroup, Attached, Detached}
use Rattle.khe_told.specs.declared.refusals.Refusal.TheVariants.{IsChild, NotChild, GroupsFull, NotEmpty, NoMark}
use Rattle.khe_told.specs.declared.refusals.Refusal.TheVariants.{MarksFull}

abbrev pub row_of : Refusal → ℕ × List ℕ
row_of NoSuchMeet = (1, codes "NoSuchMeet")
row_of NoSuchTask = (2, codes "NoSuchTask")
row_of NoSuchTime = (3, codes "NoSuchTime")
row_of NoSuchResource = (4, codes "NoSuchResource")
row_of Fixed = (5, codes "Fixed")
row_of AlreadyAssigned = (6, codes "AlreadyAssigned")
row_of NotAssigned = (7, codes "NotAssigned")
row_of OffEnd = (8, codes "OffEnd")
row_of WrongType = (9, codes "WrongType")
row_of BadCut = (10, codes "BadCut")
row_of OtherEvent = (11, codes "OtherEvent")
row_of NotAdjacent = (12, codes "NotAdjacent")
row_of TasksDiffer = (13, codes "TasksDiffer")
row_of Same = (14, codes "Same")
row_of NoSuchMonitor = (15, codes "NoSuchMonitor")
row_of NoSuchGroup = (16, codes "NoSuchGroup")
row_of Attached = (17, codes "Attached")
row_of Detached = (18, codes "Detached")
row_of IsChild = (19, codes "IsChild")
row_of NotChild = (20, codes "NotChild")
row_of GroupsFull = (23, codes "GroupsFull")
row_of NotEmpty = (24, codes "NotEmpty")
row_of NoMark = (25, codes "NoMark")
row_of MarksFull = (26, codes "MarksFull")
