use Rattle.std.proofs.Common.{◌≡◌, ◌<◌, ap, ◌∙◌, length, drop, arith}
use Rattle.ejection_repair.specs.Values.{costs_at, defects_from}
use Rattle.ejection_repair.proofs.RoundLaws.{defects_begun, rotated_small, passed_all, drop_onto}
use Rattle.ejection_repair.proofs.sweeping.round_of.Goals as goal

pub begun_round-requires-in-None : goal.begun_round-requires-in-None
begun_round-requires-in-None g c =
    passed_all _ _ c.pass_defects-passed.result.count c.args.diversifier c.pass_defects-passed.ensures.count
    c.if-passed-diversifier.false c.pass_defects-passed.ensures.from c.in-None.ensures.next

pub returns-in-Some : goal.returns-in-Some
returns-in-Some g c =
    let p = c.pass_defects-passed in
    let v = c.args.diversifier in
    let costs = costs_at c.args.engine.now.parts c.args.engine.now.state in
    let xs = defects_from costs 0 in
    let more = drop_onto xs _ _ _ p.result.count p.ensures.from c.in-Some.ensures.next in
    let long = more.1 in
    let same : p.result.count ≡ v = omega arith in
    let small : v < length xs = omega arith in
    defects_begun costs _ v v _ c.begun_at.ensures (p.ensures.from ∙ ap (λ k. drop k xs) same)
    (rotated_small v xs small)
