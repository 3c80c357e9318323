-- A number that was not seen is mentioned for the first time.
use Rattle.std.proofs.Common.{◌≡◌, ◌∙◌, ap, sym, false, if◌then◌else◌, [], ◌∷◌, ◌++◌}
use Rattle.khe_base.specs.IdSet.{has_member, with_member}
use Rattle.xhstt_resolve.specs.declared.collecting.Mentions.{Mentions}
use Rattle.xhstt_resolve.proofs.collecting.MentionsCollect.add.Goals as goal

pub returns-in_ok-add : goal.returns-in_ok-add
returns-in_ok-add c =
    let m = c.args.self.now in
    let n = c.args.number in
    let more : Mentions = record { seen = with_member m.seen n; numbers = m.numbers ++ n ∷ [] } in
    let new : has_member m.seen n ≡ false = sym c.has.ensures.below ∙ c.if-not-has.true in
    (λ j. record { seen = c.in_ok-add.ensures j; numbers = c.in_ok-push.ensures.ok j })
    ∙ sym (ap (λ b. if b then m else more) new)
