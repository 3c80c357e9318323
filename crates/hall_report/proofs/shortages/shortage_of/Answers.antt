-- Both have the properties that decide them.
use Rattle.hall_report.proofs.HallKept.{hall_kept}
use Rattle.hall_report.proofs.ShortageLaws.{deficit_told}
use Rattle.hall_report.proofs.shortages.shortage_of.Goals as goal

pub returns : goal.returns
returns c = λ p are.
    let d = c.args.demands.now in
    let deficit = c.deficit-deficit.result in
    let is = c.deficit-deficit.ensures p are in
    record {
      deficit = deficit_told p d.told deficit is;
      hall = hall_kept p d.told d.units d.picks d.matching d.cells d.tasks d.times are deficit c.in_ok-hall.hall is
          (c.in_ok-hall.ensures p are);
    }
