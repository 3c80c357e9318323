-- The row at a number is that of the slot.
use Rattle.khe_told.proofs.StoredLaws.{row_seen}
use Rattle.khe_told.proofs.told.Told.row.Goals as goal

pub returns : goal.returns
returns c = row_seen c.args.self.now c.self.inside.rows.items c.deref.result.now c.self.inside.given.items c.args.meet.0
    c.row_at.result c.self.view_is c.deref.ensures.value c.row_at.ensures
