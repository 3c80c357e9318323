-- The least totals among edits that are gone through one after the other.
use Rattle.std.specs.Prelude.{◌&&◌, if◌then◌else◌, Some, None}
use Rattle.construct.specs.Choices.{are_lower, is_accepted, totals_after, totals_at}
use Rattle.construct.specs.declared.choosing.Best.{Best}
use Rattle.khe_engine.specs.States.{State}
use Rattle.khe_instance.specs.declared.parts.Parts.{Parts}
use Rattle.khe_told.specs.declared.edits.Edit.{Edit}

-- before the first edit
unfoldable pub no_edit : Parts → State → Best
no_edit p s = record { totals = totals_at p s; edit = None }

-- after one more
unfoldable pub improved : Parts → State → Best → Edit → Best
improved p s b e =
    if is_accepted p s e && are_lower (totals_after p s e) b.totals
    then record { totals = totals_after p s e; edit = Some e } else b
