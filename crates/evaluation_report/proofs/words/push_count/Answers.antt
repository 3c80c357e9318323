-- A number below ten is its digit.
use Rattle.std.proofs.Common.{◌≡◌, ◌+◌, ◌++◌, ◌∷◌, [], ◌∙◌, sym, ap, subst, List, ℕ, OnOk}
use Rattle.std.proofs.lemmas.Fmt.{decimal_digit}
use Rattle.evaluation_report.proofs.words.push_count.Goals as goal

pub returns-then-number-lt10 : goal.returns-then-number-lt10
returns-then-number-lt10 c =
    let digit : c.from.result ≡ 48 + c.args.number = c.from.ensures in
    subst (λ (xs : List ℕ). OnOk c.push.result (c.push.new.self ≡ c.args.line.now ++ xs))
    (ap (λ x. x ∷ []) digit ∙ sym (decimal_digit c.args.number c.if-number-lt10.true)) c.push.ensures.ok
