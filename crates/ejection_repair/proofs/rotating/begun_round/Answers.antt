use Rattle.std.proofs.Common.{◌≡◌, sym, ap, ◌∙◌, ◌%◌, drop, refl, arith}
use Rattle.std.proofs.lemmas.Nat.{mod_below}
use Rattle.repair_moves.specs.Cursors.{ahead}
use Rattle.ejection_repair.proofs.RoundLaws.{begun_round, begun_none}
use Rattle.ejection_repair.proofs.rotating.begun_round.Goals as goal

pub returns-then-count-eq0-clause-ahead : goal.returns-then-count-eq0-clause-ahead
returns-then-count-eq0-clause-ahead c =
    begun_none c.args.inst.now c.args.solution.now.slots c.args.first c.args.diversifier _ refl
    (c.requires.count ∙ c.if-count-eq0.true) _ c.begun_at.ensures

pub returns-clause-ahead : goal.returns-clause-ahead
returns-clause-ahead c =
    let p = c.pass_by-passed in
    let xs = ahead c.args.inst.now c.args.solution.now.slots c.args.first in
    let n = c.args.diversifier % c.args.count in
    let below = mod_below c.args.diversifier c.args.count (omega arith) in
    let small : p.result.count ≡ n = omega arith in
    begun_round c.args.inst.now c.args.solution.now.slots _ c.args.first n c.args.diversifier xs refl
    (p.ensures.ahead ∙ ap (λ k. drop k xs) small)
    (ap (λ k. c.args.diversifier % k) (sym c.requires.count)) _ c.begun_at-2.ensures
