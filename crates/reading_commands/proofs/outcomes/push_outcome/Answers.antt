-- The text of a verdict is that of the solution.
use Rattle.std.proofs.Common.{◌∙◌, sym}
use Rattle.reading_commands.proofs.OutcomeLemmas.{valid-is, valued-long}
use Rattle.reading_commands.proofs.outcomes.push_outcome.Goals as goal

pub push_evaluation-requires : goal.push_evaluation-requires
push_evaluation-requires c =
    let p = c.args.inst.now in
    let v = c.in-Valid.values in
    let told = valid-is p c.args._solution.now v (sym c.in-Valid.is ∙ c.requires) in
    valued-long p told.state v told.values
