use Rattle.std.proofs.Common.{◌≡◌, sym, ap, ◌∙◌, ◌%◌, drop, refl, arith}
use Rattle.std.proofs.lemmas.Nat.{mod_below}
use Rattle.ejection_repair.specs.Values.{costs_at, defects_from}
use Rattle.ejection_repair.proofs.RoundLaws.{defects_begun, rotated_at, rotated_none}
use Rattle.ejection_repair.proofs.sweeping.begun_round.Goals as goal

pub returns-then-count-eq0 : goal.returns-then-count-eq0
returns-then-count-eq0 g c =
    let costs = costs_at c.args.engine.now.parts c.args.engine.now.state in
    defects_begun costs 0 0 c.args.diversifier _ c.begun_at.ensures refl
    (rotated_none c.args.diversifier (defects_from costs 0) (c.requires ∙ c.if-count-eq0.true))

pub returns : goal.returns
returns g c =
    let p = c.pass_defects-passed in
    let costs = costs_at c.args.engine.now.parts c.args.engine.now.state in
    let xs = defects_from costs 0 in
    let n = c.args.diversifier % c.args.count in
    let below = mod_below c.args.diversifier c.args.count (omega arith) in
    let small : p.result.count ≡ n = omega arith in
    defects_begun costs _ n c.args.diversifier _ c.begun_at-2.ensures (p.ensures.from ∙ ap (λ k. drop k xs) small)
    (rotated_at c.args.diversifier n xs (ap (λ k. c.args.diversifier % k) (sym c.requires)))
