-- A reference that has a number is not noted.
use Rattle.std.proofs.Common.{◌∙◌, ap, sym}
use Rattle.std.specs.Option.{is_some}
use Rattle.xhstt_shape.specs.Views.{seen_reference}
use Rattle.xhstt_references.proofs.UnknownLemmas.{known, not_known}
use Rattle.xhstt_references.proofs.following.number_or_noted.Goals as goal

pub returns-in-Some-clause-first : goal.returns-in-Some-clause-first
returns-in-Some-clause-first c = λ names is. known c.args.first.now.at names (seen_reference c.args.reference)
    (ap is_some (sym is ∙ c.in-Some.is))

pub returns-in-None-clause-first : goal.returns-in-None-clause-first
returns-in-None-clause-first c = λ names is. c.note.ensures ∙ not_known c.args.first.now.at names
    (seen_reference c.args.reference) (ap is_some (sym is ∙ c.in-None.is))
