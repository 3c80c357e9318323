use Rattle.std.proofs.Common.{◌≡◌, ◌<◌, sym, ap, ◌∙◌, ◌%◌, length, drop, arith}
use Rattle.std.proofs.Math.Nat.{mod-eq_of_lt}
use Rattle.repair_moves.specs.Cursors.{ahead}
use Rattle.ejection_repair.proofs.RoundLaws.{begun_round, passed_all, drop_onto}
use Rattle.ejection_repair.proofs.rotating.moves_from.Goals as goal

pub begun_round-requires-in-None-clause-count : goal.begun_round-requires-in-None-clause-count
begun_round-requires-in-None-clause-count c =
    passed_all _ _ c.pass_by-passed.result.count c.args.diversifier c.pass_by-passed.ensures.count
    c.if-passed-diversifier.false c.pass_by-passed.ensures.ahead c.in-None.ensures.next.0

pub returns-in-Some-clause-ahead : goal.returns-in-Some-clause-ahead
returns-in-Some-clause-ahead c =
    let p = c.pass_by-passed in
    let v = c.args.diversifier in
    let xs = ahead c.args.inst.now c.args.solution.now.slots c.moves-first.result in
    let more = drop_onto xs _ _ _ p.result.count p.ensures.ahead c.in-Some.ensures.next in
    let long = more.1 in
    let same : p.result.count ≡ v = omega arith in
    let small : v < length xs = omega arith in
    begun_round c.args.inst.now c.args.solution.now.slots _ c.moves-first.result v v _ c.moves-first.ensures.first
    (p.ensures.ahead ∙ ap (λ k. drop k xs) same ∙ ap (λ ys. drop v ys) c.moves-first.ensures.first)
    (sym (mod-eq_of_lt small) ∙ ap (λ ys. v % length ys) c.moves-first.ensures.first) _ c.begun_at.ensures
