-- One byte more is compared.
use Rattle.std.proofs.Common.{◌∙◌}
use Rattle.edit_script.proofs.FormLemmas.{name-more}
use Rattle.edit_script.proofs.forms.is_name.Goals as goal

pub loop-place-preserved : goal.loop-place-preserved
loop-place-preserved c =
    let more = name-more c.args.name.now c.args.word.now c.loop-place.place c.loop-place-test.true
    c.loop-place.invariant.0 c.if-place-word.false c.if-name-place-eq32.false c.if-name-place.false in
    (more.0, more.1 ∙ c.loop-place.invariant.1)
