-- Those of the words so far.
use Rattle.std.proofs.Common.{◌≡◌}
use Rattle.khe_instance.specs.ByTime.{words_in}
use Rattle.khe_instance.proofs.by_time.words_of.Given as goal

abbrev pub invariant-loop-word : goal.invariant-loop-word
invariant-loop-word l = l.listed ≡ words_in l.word l.rule
