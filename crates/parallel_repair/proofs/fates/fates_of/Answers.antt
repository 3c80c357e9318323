-- The fate of one more row.
use Rattle.std.proofs.Common.{◌∙◌, sym, subst, take, slice_set, slice_index_or, length-set}
use Rattle.parallel_repair.specs.Fates.{AreFates}
use Rattle.parallel_repair.specs.declared.answers.Fate.TheVariants.{Ran}
use Rattle.parallel_repair.specs.declared.answers.Row.{Row}
use Rattle.parallel_repair.proofs.FateLemmas.{one_ran, take_more}
use Rattle.parallel_repair.proofs.fates.fates_of.Goals as goal

pub loop-row-preserved : goal.loop-row-preserved
loop-row-preserved c =
    let rows = c.args.rows.now in
    let i = c.loop-row.row-index in
    let none : Row = record { job = 0; totals = record { hard = 0; soft = 0 } } in
    let r = slice_index_or rows i none in
    let fates = c.loop-row.fates.items in
    record {
      counted = length-set fates r.job (Ran r.totals) ∙ c.loop-row.invariant.counted;
      so_far = λ answer h. subst (λ front. AreFates answer c.args.jobs front c.args.by
          (slice_set fates r.job (Ran r.totals))) (sym (take_more rows i none c.loop-row-test.true))
          (one_ran answer c.args.jobs c.args.by (take i rows) fates r (h i none c.loop-row-test.true)
          (c.loop-row.invariant.so_far answer h));
    }
