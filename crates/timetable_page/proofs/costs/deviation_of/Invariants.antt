-- What was added up so far, where the whole sum fits.
use Rattle.std.proofs.Common.{◌≡◌, ◌<◌, ◌^◌, take}
use Rattle.std.specs.List.{sum_by}
use Rattle.timetable_page.proofs.costs.deviation_of.Given as goal

abbrev pub invariant-loop-defect : goal.invariant-loop-defect
invariant-loop-defect l =
    sum_by (λ d. d.deviation) l.fn.defects < 2 ^ 128
    → l.deviation ≡ sum_by (λ d. d.deviation) (take l.defect-index l.fn.defects)
