-- One solution more.
use Rattle.std.proofs.Common.{◌≡◌, ◌<◌, ◌-◌, ◌∙◌, Bor, ap, arith, length, map, subst, zero-add}
use Rattle.parallel_solve.proofs.CutLemmas.{there_of}
use Rattle.parallel_solve.proofs.BatchLemmas.{told_more}
use Rattle.parallel_solve.specs.Ready.{IsOne}
use Rattle.parallel_solve.specs.Batches.{batch_of}
use Rattle.xhstt_shape.specs.declared.records.RawSolution.{RawSolution}
use Rattle.timetable_page.specs.Outcomes.{numbered_outcome}
use Rattle.timetable_page.proofs.outcomes.FindingSolutionJob.make.Goals as goal

pub outcome_at-requires-clause-one : goal.outcome_at-requires-clause-one
outcome_at-requires-clause-one g c =
    let now = λ (x : Bor RawSolution). x.now in
    let xs = c.args.solutions.now.raws.now in
    let n = c.loop-number.number in
    let x = c.index-raws-number.result in
    let lt : n < length xs = omega (arith, c.loop-number-test.true, c.requires.within) in
    subst (λ m. IsOne c.args.solutions.now.resolved.now m x.now) (zero-add n)
    (c.requires.ones n x.now (there_of now xs n x lt c.index-raws-number.is))

pub loop-number-init : goal.loop-number-init
loop-number-init g c =
    let raws = map (λ (x : Bor RawSolution). x.now) c.args.solutions.now.raws.now in
    let nothing : 0 ≡ c.args.first - c.args.first = omega arith in
    record {
      begun = omega arith;
      within = omega arith;
      told = c.in_ok-told.ensures.items
          ∙ ap (λ n. map (numbered_outcome c.args.solutions.now.resolved.now) (batch_of c.args.first n raws)) nothing;
    }

pub loop-number-preserved : goal.loop-number-preserved
loop-number-preserved g c =
    let now = λ (x : Bor RawSolution). x.now in
    let xs = c.args.solutions.now.raws.now in
    let n = c.loop-number.number in
    let x = c.index-raws-number.result in
    let lt : n < length xs = omega (arith, c.loop-number-test.true, c.requires.within) in
    let before = c.loop-number.invariant in
    record {
      begun = omega (arith, before.begun);
      within = omega (arith, c.loop-number-test.true);
      told = told_more (numbered_outcome c.args.solutions.now.resolved.now) c.args.first n (map now xs) x.now
          c.loop-number.told.items
          c.push.new.self.items c.in_ok-outcome_at.field-0 before.begun (there_of now xs n x lt c.index-raws-number.is)
          before.told c.in_ok-push.ensures.items c.in_ok-outcome_at.ensures;
    }

pub returns : goal.returns
returns g c =
    let raws = map (λ (x : Bor RawSolution). x.now) c.args.solutions.now.raws.now in
    let before = c.loop-number.invariant in
    let all : c.loop-number.number - c.args.first ≡ c.args.count =
    omega (arith, before.begun, before.within, c.loop-number-test.false) in
    before.told ∙ ap (λ n. map (numbered_outcome c.args.solutions.now.resolved.now) (batch_of c.args.first n raws)) all
