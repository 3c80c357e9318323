-- The words of the constraints so far.
use Rattle.std.proofs.Common.{◌≡◌, map, take}
use Rattle.khe_instance.specs.ByTime.{words_in}
use Rattle.khe_instance.proofs.by_time.listed_words.Given as goal

abbrev pub invariant-loop-constraint : goal.invariant-loop-constraint
invariant-loop-constraint l = l.listed ≡ map (λ c. words_in l.words c.rule) (take l.constraint l.inst.constraints)
