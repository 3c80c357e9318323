-- The count is that of the numbers k with 20 k + 1 below the size.
use Rattle.std.proofs.Common.{arith}
use Rattle.archive_generator.proofs.laws.a_pair_for_each_tenth_half.Goals as goal

pub returns : goal.returns
returns c = λ k size. (λ h. omega (arith, h), λ h. omega (arith, h))
