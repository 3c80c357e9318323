-- One solution of the batch after another: its part joins the text, or it has none.
use Rattle.std.proofs.Common.{Bor, ◌≡◌, ◌+◌, ◌-◌, ◌<◌, ◌≤◌, ◌++◌, subst, sym, arith, length, map}
use Rattle.std.proofs.lemmas.Bool.{ltb-false, ltb-true}
use Rattle.std.proofs.lemmas.List.{length-map}
use Rattle.std.proofs.lemmas.Option.{slice_get_past}
use Rattle.std.specs.List.{flat_map}
use Rattle.khe_base.specs.declared.texts.Text.{Text}
use Rattle.parallel_solve.specs.Batches.{batch_of}
use Rattle.xhstt_shape.specs.declared.records.RawSolution.{RawSolution}
use Rattle.reading_commands.specs.Report.{row_text}
use Rattle.reading_commands.proofs.WindowLemmas.{found_at, none_joined, one_at, one_joined}
use Rattle.reading_commands.proofs.outcomes.OutcomesSolutionJob.make.Goals as goal
use Rattle.reading_commands.proofs.outcomes.OutcomesSolutionJob.make.Goals.{in-Some+in_ok-push_solution, in_default}

pub push_solution-requires-clause-one : goal.push_solution-requires-clause-one
push_solution-requires-clause-one g c =
    let now = λ (y : Bor RawSolution). y.now in
    let xs = c.args.solutions.now.raws.now in
    let n = c.loop-number.number in
    let lt : n < length xs = omega (arith, c.requires.within, c.loop-number-test.true) in
    one_at c.args.solutions.now.resolved.now (map now xs) n c.index-raws-number.result.now c.requires.ones
    (found_at now xs n c.index-raws-number.result lt c.index-raws-number.is)

pub loop-number-preserved : goal.loop-number-preserved
loop-number-preserved g c =
    let all = c.args.self.now.all in
    let r = c.args.solutions.now.resolved.now in
    let id = λ (y : Bor Text). y.now in
    let gs = c.args.self.now.groups.now in
    let ids = map id gs in
    let now = λ (y : Bor RawSolution). y.now in
    let xs = c.args.solutions.now.raws.now in
    let n = c.loop-number.number in
    let end = c.args.first + c.args.count in
    let before : n < end = omega (arith, c.loop-number-test.true) in
    let lt : n < length xs = omega (arith, c.requires.within, c.loop-number-test.true) in
    let whole = flat_map (row_text all r ids) (batch_of c.args.first c.args.count (map now xs)) in
    let left = flat_map (row_text all r ids) (batch_of (n + 1) (end - (n + 1)) (map now xs)) in
    elim c.match-get.branch [
      | in-Some+in_ok-push_solution w ↦
          let has = w.in-Some.ensures.lookup in
          subst (λ t. t ++ left ≡ whole) (sym w.text-is)
          (one_joined all r ids (map now xs) n end c.loop-number.text w.push_solution.new.text w.in-Some.group.now.now
          whole w.index-raws-number.result.now before
          (found_at id gs n w.in-Some.group.now (ltb-true n (length gs) (sym has.0)) has.1)
          (found_at now xs n w.index-raws-number.result lt w.index-raws-number.is) w.in_ok-push_solution.ensures
          c.loop-number.invariant)
      | in_default w ↦
          let past : length ids ≤ n =
          subst (λ m. m ≤ n) (sym (length-map gs id)) (ltb-false n (length gs) (sym w.in_default.ensures.lookup.0)) in
          subst (λ t. t ++ left ≡ whole) (sym w.text-is)
          (none_joined all r ids (map now xs) n end c.loop-number.text whole before
          (subst (λ m. n < m) (sym (length-map xs now)) lt) (slice_get_past ids n past) c.loop-number.invariant)
    ]
