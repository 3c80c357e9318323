-- A time of the word is listed, or none is.
use Rattle.std.proofs.Common.{◌∙◌, sym, arith, ◌<◌, ◌≤◌, ◌*◌, ◌+◌, ℕ}
use Rattle.khe_instance.proofs.ByTimeLemmas.{one_in, none_in}
use Rattle.khe_instance.proofs.by_time.lists_in.Goals as goal

pub returns-then-lists : goal.returns-then-lists
returns-then-lists c =
    let from = c.loop-time.auto.time in
    let to = c.loop-time-test.true in
    sym (one_in c.args.rule.now c.args.word c.loop-time.time (omega (arith, from)) (omega (arith, to))
    (sym c.lists.ensures ∙ c.if-lists.true))

pub returns : goal.returns
returns c =
    let past = c.loop-time-test.false in
    sym (none_in c.args.rule.now c.args.word (λ t a b. c.loop-time.invariant t a (omega (arith, b, past))))
