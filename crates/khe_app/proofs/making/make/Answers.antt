-- What was written, or nothing.
use Rattle.std.proofs.Common.{◌∙◌, ap, refl}
use Rattle.archive_generator.specs.Made.{made}
use Rattle.khe_app.proofs.EndsLemmas.{end_starved, not_two}
use Rattle.khe_app.proofs.MakeEnds.{end_making, zero_two}
use Rattle.khe_app.proofs.making.make.Goals as goal

pub returns-in-Ok-clause-end : goal.returns-in-Ok-clause-end
returns-in-Ok-clause-end g c = λ h sound faults.
    end_making h c.args.seed c.args.size c.in-Ok.archive sound faults _ _ _ _ c.put_spelling-status.result.0
    (c.in-Ok.ensures.made ∙ ap (λ seed. made seed c.args.size) c.new.ensures) c.in-Ok.ensures.well_formed
    c.put_spelling-status.ensures.written

pub returns-in-Ok-clause-status : goal.returns-in-Ok-clause-status
returns-in-Ok-clause-status g c = not_two _ _ _ _ _ _ c.put_spelling-status.result.0 c.put_spelling-status.ensures.written zero_two

pub returns-in-Err-clause-end : goal.returns-in-Err-clause-end
returns-in-Err-clause-end g c = λ h sound faults. end_starved _ h sound faults faults _ _ _ _ _ refl refl
