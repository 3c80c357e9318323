use Rattle.std.proofs.Common.{arith}
use Rattle.set_monitors.proofs.holder_effects.above_with.Goals as goal

pub returns-clause-value : goal.returns-clause-value
returns-clause-value c = λ f mid are handed.
    let a = c.first_of-more.ensures.value f mid are handed in
    let b = c.last_of-less.ensures f mid are handed in
    let d = c.saturating_sub.ensures in
    omega (arith, a, b, d)
