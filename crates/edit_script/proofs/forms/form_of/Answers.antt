-- At most four numbers follow each name.
use Rattle.std.proofs.Common.{◌≤◌, subst, sym}
use Rattle.std.specs.Prelude.{IfSome}
use Rattle.edit_script.proofs.FormLemmas.{few-numbers}
use Rattle.edit_script.proofs.forms.form_of.Goals as goal

pub returns-clause-few : goal.returns-clause-few
returns-clause-few c = subst (λ found. IfSome found (λ form. form.1 ≤ 4)) (sym c.form_among.ensures)
    (few-numbers c.args.word.now)
