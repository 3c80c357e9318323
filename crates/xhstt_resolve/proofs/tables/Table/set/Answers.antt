-- Groups that are listed again bring nothing new.
use Rattle.std.proofs.Common.{◌∙◌, ap}
use Rattle.std.specs.List.{fold}
use Rattle.khe_base.specs.IdSet.{with_member, no_members}
use Rattle.xhstt_resolve.specs.Tables.{listed_once}
use Rattle.xhstt_resolve.proofs.OnceLemmas.{set_once}
use Rattle.xhstt_resolve.proofs.tables.Table.set.Goals as goal

pub returns : goal.returns
returns c =
    let t = c.args.self.now in
    let ns = listed_once t c.args.groups.now c.args.singles.now in
    c.in_ok-collect.ensures
    ∙ ap (λ s. fold with_member s ns) (c.in_ok-set.ensures ∙ ap no_members c.size.ensures)
    ∙ set_once t c.requires c.args.groups.now c.args.singles.now
