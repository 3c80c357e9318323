use Rattle.std.proofs.Common.{◌∙◌, ◌+◌, ℕ, sym, get_or}
use Rattle.std.proofs.lemmas.Option.{slice_get-get_or}
use Rattle.khe_base.specs.IdSet.{has_member}
use Rattle.hall_report.specs.Kept.{cell_demand}
use Rattle.hall_report.proofs.ListingLaws.{cells_more}
use Rattle.hall_report.proofs.listing.list_cells.Goals as goal

pub loop-more-preserved : goal.loop-more-preserved
loop-more-preserved c =
    c.in_ok-push_if.ensures
    ∙ cells_more (λ (i : ℕ). has_member c.args.marks.now (c.args.first + i)) c.loop-more.list c.args.list.now
    (cell_demand c.args.times) c.args.cells.now c.loop-more.more (get_or c.args.cells.now c.loop-more.more 0)
    c.has-is_marked.result
    (slice_get-get_or c.args.cells.now c.loop-more.more 0 c.loop-more-test.true) (sym c.has-is_marked.ensures.below)
    c.loop-more.invariant
