-- The solutions of a resolved archive have their instances, and all of them are in the batches.
use Rattle.std.proofs.Common.{◌≡◌, ◌≤◌, ◌∙◌, ◌++◌, [], Bor, List, ap, arith, drop, length, map, subst, sym}
use Rattle.std.proofs.Math.ListN.{drop_of_length-le}
use Rattle.std.proofs.lemmas.List.{append-nil, length-map, map-append}
use Rattle.std.specs.List.{enumerate_from, flat_map}
use Rattle.parallel_solve.proofs.BatchLemmas.{joined, whole_of}
use Rattle.parallel_solve.specs.Batches.{AreBatches}
use Rattle.parallel_solve.specs.Verdicts.{numbered_verdict}
use Rattle.xhstt_references.specs.References.{solutions_of}
use Rattle.xhstt_shape.specs.declared.records.RawSolution.{RawSolution}
use Rattle.parallel_solve.specs.Ready.{AreOnes}
use Rattle.parallel_solve.proofs.ReadyLemmas.{ready}
use Rattle.parallel_solve.proofs.evaluating.evaluate_all.Goals as goal

pub made_beside-window-requires-clause-ones : goal.made_beside-window-requires-clause-ones
made_beside-window-requires-clause-ones g c κs within =
    let r = c.args.resolved.now in
    subst (λ (xs : List (Bor RawSolution)). AreOnes r 0 (map (λ (x : Bor RawSolution). x.now) xs))
    (sym c.as_slice-raws.ensures.value)
    (subst (AreOnes r 0) (sym c.in_ok-raws.ensures)
    (ready c.args.archive.now r c.requires.resolved c.requires.formed).ones)

pub made_beside-window-requires-clause-few : goal.made_beside-window-requires-clause-few
made_beside-window-requires-clause-few g c =
    let r = c.args.resolved.now in
    let raws = c.in_ok-raws.raws.items in
    let same = ap length c.in_ok-raws.ensures in
    let slice = ap length c.as_slice-raws.ensures.value in
    omega (
      arith,
      slice,
      length-map raws (λ (x : Bor RawSolution). x.now),
      same,
      (ready c.args.archive.now r c.requires.resolved c.requires.formed).few,
    )

pub returns : goal.returns
returns g c =
    let r = c.args.resolved.now in
    let f = map (numbered_verdict r) in
    let now = λ (x : Bor RawSolution). x.now in
    let slice = c.as_slice-raws.result.now in
    let raws = map now slice in
    let end = length slice in
    let w = c.in_ok-window.field-0 in
    let batches = w.made.items in
    let are : AreBatches f raws 0 end batches = whole_of f raws _ c.made_beside-window.result.0 w (omega arith)
    c.made_beside-window.ensures.made c.in_ok-window.was in
    let long : end ≤ length raws = omega (arith, length-map slice now) in
    let none : drop end raws ≡ [] = drop_of_length-le raws (omega (arith, length-map slice now)) in
    let all : raws ≡ solutions_of c.args.archive.now =
    ap (map now) c.as_slice-raws.ensures.value ∙ c.in_ok-raws.ensures in
    c.in_ok-verdicts.ensures ∙ sym (append-nil (flat_map (λ m. m) batches))
    ∙ ap (λ xs. flat_map (λ m. m) batches ++ f (enumerate_from end xs)) (sym none)
    ∙ joined f raws 0 end batches are long (map-append (numbered_verdict r))
    ∙ ap (λ xs. f (enumerate_from 0 xs)) all
