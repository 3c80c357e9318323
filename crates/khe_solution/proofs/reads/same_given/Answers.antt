use Rattle.std.proofs.Common.{◌<◌, ◌≤◌, None, length, get_or, sym, ◌∙◌, arith}
use Rattle.std.proofs.lemmas.List.{drop_all}
use Rattle.std.proofs.lemmas.Option.{slice_get-get_or}
use Rattle.khe_base.proofs.ListLemmas.{drop-there}
use Rattle.khe_solution.specs.Reading.{same_given}
use Rattle.khe_solution.proofs.reads.same_given.Goals as goal

pub returns-then-k-b : goal.returns-then-k-b
returns-then-k-b c =
    let a = c.args.a.now in
    let b = c.args.b.now in
    let k = c.loop-k.k in
    let l : k < length a = omega arith in
    let m : length b ≤ k = omega arith in
    let d = drop-there a k (get_or a k None) (slice_get-get_or a k None l) in
    sym (sym c.loop-k.invariant ∙ (λ i. same_given (d i) (drop_all k b m i)))
