-- A number that is not allowed is passed over.
use Rattle.std.proofs.Common.{◌+◌, ◌-◌, ◌∙◌, sym, Some}
use Rattle.std.specs.List.{find, range_with_len}
use Rattle.std.proofs.lemmas.Bool.{cond-false}
use Rattle.construct.proofs.CutLaws.{find_next}
use Rattle.construct.specs.Cuts.{allows}
use Rattle.construct.proofs.bounds.least_amount.Goals as goal

pub loop-before-preserved : goal.loop-before-preserved
loop-before-preserved c =
    let p = allows c.args.bounds c.args.duration in
    let k = c.loop-before.before in
    sym (cond-false _ (Some (k + 1)) (find p (range_with_len (k + 1 + 1) (c.args.duration - (k + 1))))
    (sym c.allows.ensures ∙ c.if-allows.false))
    ∙ sym (find_next p k c.args.duration c.loop-before-test.true) ∙ c.loop-before.invariant
