-- There are as many rows as slots.
use Rattle.std.proofs.Common.{sym, ap, ◌∙◌, length}
use Rattle.khe_told.proofs.StoredLaws.{length-slots_in}
use Rattle.khe_told.proofs.told.Told.len.Goals as goal

pub returns : goal.returns
returns c = c.len.ensures ∙ c.self.inside.rows.ok.0
    ∙ sym (length-slots_in 0 c.self.inside.rows.items c.self.inside.given.items) ∙ ap length c.self.view_is
