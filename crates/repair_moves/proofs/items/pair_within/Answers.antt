use Rattle.std.proofs.Common.{sym, arith}
use Rattle.repair_moves.proofs.ItemLaws as laws
use Rattle.repair_moves.proofs.items.pair_within.Goals as goal
use Rattle.khe_instance.specs.declared.points.Point.TheVariants.{EventPair as Pair}

pub returns-in-Some : goal.returns-in-Some
returns-in-Some c =
    let a = c.slots_of-first in
    let b = c.slots_of-second in
    let x = a.ensures.within in
    let y = b.ensures.within in
    laws.within_two c.args.inst.now c.args.rule.now (Pair c.args.pair) c.in-Some.own.first.0 c.in-Some.own.second.0
    a.result.start a.result.end b.result.start b.result.end x y a.ensures.are b.ensures.are
    (λ e h. laws.pair_some c.args.rule.now c.args.pair e c.in-Some.own (sym c.in-Some.ensures) h)
    c.min.result c.max.result (omega arith) (omega arith) (omega arith) (omega arith) (omega (arith, x, y))

pub returns-in-None : goal.returns-in-None
returns-in-None c =
    laws.within_none c.args.inst.now c.args.rule.now (Pair c.args.pair) 0 0 (omega arith)
    (λ e. laws.pair_none c.args.rule.now c.args.pair e (sym c.in-None.ensures))
