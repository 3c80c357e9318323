-- Three pieces are one text.
use Rattle.std.proofs.Common.{OnOk, ◌≡◌, subst}
use Rattle.timetable_page.proofs.PieceLemmas.{three}
use Rattle.timetable_page.proofs.sections.push_cause.Goals as goal

pub returns : goal.returns
returns c =
    subst (λ t. OnOk c.push_literal-2.result (c.push_literal-2.new.self ≡ t))
    (three _ _ _ _ _ _ c.in_ok-push_literal.ensures.ok c.in_ok-push_invalid.ensures) c.push_literal-2.ensures.ok
