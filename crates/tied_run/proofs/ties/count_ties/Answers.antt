use Rattle.std.proofs.Common.{◌∙◌, arith}
use Rattle.tied_run.proofs.TieLaws.{count_next, count_none}
use Rattle.tied_run.proofs.ties.count_ties.Goals as goal

pub loop-meet-preserved : goal.loop-meet-preserved
loop-meet-preserved g c =
    let ties = c.args.tied.now.now.ties in
    let e = c.in-Some.ensures.next in
    let from = e.0 in
    let i = c.loop-meet.invariant in
    let few = i.few in let counted = i.counted in
    let one = count_next ties c.loop-meet.next.0 c.in-Some.meet.0 e.0 c.in-Some.ensures.there e.1 e.2 in
    record { few = omega (arith, few, from); counted = omega (arith, counted, one) }

pub loop-meet-smaller : goal.loop-meet-smaller
loop-meet-smaller g c =
    let from = c.in-Some.ensures.next.0 in let there = c.in-Some.ensures.there in omega (arith, from, there)

pub returns : goal.returns
returns g c =
    let none = count_none c.args.tied.now.now.ties c.loop-meet.next.0 c.in_default.ensures.next in
    let counted = c.loop-meet.invariant.counted in omega (arith, none, counted)
