use Rattle.std.proofs.Common.{◌≡◌, ◌≤◌, ◌<◌, ◌++◌, length, take, refl, sym, ap, subst, ◌∙◌, arith}
use Rattle.std.specs.Prelude.{All}
use Rattle.std.proofs.lemmas.List.{length-set}
use Rattle.std.proofs.lemmas.List.Elements.{All-nil}
use Rattle.ejection_repair.specs.Lifts.{IsMove, fresh_ahead}
use Rattle.ejection_repair.specs.Trails.{moved_of}
use Rattle.ejection_repair.proofs.WalkLaws as walks
use Rattle.ejection_repair.proofs.endings.gather.Goals as goal

pub loop-count-init : goal.loop-count-init
loop-count-init c =
    let P = IsMove c.args.inst.now c.args.solution.now.slots in
    let row = c.args.row.now in
    let e = c.in_ok-row.field-0 in
    let within : 0 < length row = omega arith in
    let same = length-set row 0 e in
    record {
      some = omega arith;
      long = omega (arith, same);
      round = c.in_ok-row.ensures.round;
      moves = walks.written P row 0 e within (All-nil P) c.in_ok-row.ensures.move_;
      ahead = walks.row_ahead _ row _ _ 0 e within refl c.in_ok-row.ensures.next;
    }

pub loop-count-preserved : goal.loop-count-preserved
loop-count-preserved c =
    let P = IsMove c.args.inst.now c.args.solution.now.slots in
    let i = c.loop-count.invariant in
    let row = c.loop-count.row in
    let e = c.in-Some.edit in
    let within : c.loop-count.count < length row = omega (arith, c.loop-count-test.true, i.long) in
    record {
      some = omega arith;
      long = length-set row c.loop-count.count e ∙ i.long;
      round = c.in-Some.ensures.round;
      moves = walks.written P row c.loop-count.count e within i.moves c.in-Some.ensures.move_;
      ahead = walks.row_ahead _ row _ _ c.loop-count.count e within i.ahead c.in-Some.ensures.next;
    }

pub returns-in-None-clause-next : goal.returns-in-None-clause-next
returns-in-None-clause-next c =
    let i = c.loop-count.invariant in
    let n = c.in-None.ensures.next in
    let within : c.loop-count.count ≤ length c.loop-count.row = omega (arith, c.loop-count-test.true, i.long) in
    (i.some, within, i.ahead ∙ ap (λ xs. take c.loop-count.count c.loop-count.row ++ xs) (n.0 ∙ sym n.1))

pub returns-clause-next : goal.returns-clause-next
returns-clause-next c =
    let i = c.loop-count.invariant in
    let small = c.loop-count.auto.count-end (omega arith) in
    let full : c.loop-count.count ≡ 64 = omega (arith, small, c.loop-count-test.false) in
    let within : 64 ≤ length c.loop-count.row = omega (arith, i.long) in
    let ahead = fresh_ahead c.args.inst.now c.args.solution.now.slots (moved_of c.args.trail.now) c.loop-count.round in
    (omega arith, within, i.ahead ∙ ap (λ k. take k c.loop-count.row ++ ahead) full)

pub returns-clause-moves : goal.returns-clause-moves
returns-clause-moves c =
    let P = IsMove c.args.inst.now c.args.solution.now.slots in
    let small = c.loop-count.auto.count-end (omega arith) in
    let full : c.loop-count.count ≡ 64 = omega (arith, small, c.loop-count-test.false) in
    subst (λ k. All P (take k c.loop-count.row)) full c.loop-count.invariant.moves
