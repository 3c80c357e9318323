-- The word is the name of one of the forms that are left, where it is that of one of all.
use Rattle.std.proofs.Common.{◌≡◌, drop}
use Rattle.edit_script.specs.Forms as spec
use Rattle.edit_script.proofs.forms.form_among.Given as goal

abbrev pub invariant-loop-form : goal.invariant-loop-form
invariant-loop-form l = spec.form_among (drop l.form-index l.forms) l.word ≡ spec.form_among l.forms l.word
