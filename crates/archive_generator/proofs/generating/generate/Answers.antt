-- The archive of what was drawn is well formed.
use Rattle.std.proofs.Common.{◌≡◌}
use Rattle.std.proofs.lemmas.Result.{IfOk-weaker}
use Rattle.xhstt_shape.specs.declared.records.Archive.{Archive}
use Rattle.xhstt_shape.specs.WellFormed.{IsWellFormed}
use Rattle.archive_generator.specs.Made as spec
use Rattle.archive_generator.proofs.WellFormed.{fits_of}
use Rattle.archive_generator.proofs.generating.generate.Goals as goal

pub returns-clause-well_formed : goal.returns-clause-well_formed
returns-clause-well_formed c =
    IfOk-weaker c.archive.result (λ (a : Archive). a ≡ spec.archive c.args.size c.in_ok-drawn.drawn) IsWellFormed
    (λ a e. fits_of c.args.draws.now.state c.args.size c.in_ok-drawn.drawn a c.in_ok-drawn.ensures.value e)
    c.archive.ensures
