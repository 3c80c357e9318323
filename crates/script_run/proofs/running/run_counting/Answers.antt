-- Each line's answer leaves what is left and joins what was written or waits.
use Rattle.std.proofs.Common.{◌+◌, ◌∙◌, [], ap, arith, cond, sym}
use Rattle.std.specs.List.{list_all}
use Rattle.edit_script.specs.Lines.{lines}
use Rattle.khe_io.proofs.AmidLemmas.{always-err, amid-cut}
use Rattle.script_run.proofs.RunLemmas.{all_taken, cut_line, last_line, more_lines, next_line, no_line, read_more}
use Rattle.script_run.proofs.running.run_counting.Goals as goal

pub returns-in_err-play_line-clause-front : goal.returns-in_err-play_line-clause-front
returns-in_err-play_line-clause-front g c =
    let answers = g.P.Player.answers in
    let more = lines c.in-Some.after.now in
    always-err c.from_residual.result
    (cut_line (answers c.loop-line.player (c.loop-line.number + 1)) (g.K.Sink.taken c.args.out.now)
    (g.K.Sink.taken c.loop-line.out) (g.K.Sink.taken c.play_line.new.onward) c.loop-line.text
    (answers c.args.player.now 1 (lines c.args.script.now)) (lines c.loop-line.rest.now) c.in-Some.line.now more
    c.in-Some.ensures.lines (c.in_err-play_line.ensures.front more) c.loop-line.invariant.amid)

pub returns-in_err-flush-clause-front : goal.returns-in_err-flush-clause-front
returns-in_err-flush-clause-front g c =
    let answers = g.P.Player.answers in
    let before = g.K.Sink.taken c.args.out.now in
    let now = g.K.Sink.taken c.loop-line.out in
    let whole = answers c.args.player.now 1 (lines c.args.script.now) in
    let n = c.loop-line.number + 1 in
    let reads = g.P.Player.reads c.in-Some.line.now in
    let more = lines c.in-Some.after.now in
    let rest = answers c.play_line.new.self (n + 1) more in
    let on = g.K.Sink.taken c.play_line.new.onward in
    let amid = next_line (answers c.loop-line.player n) before now on c.loop-line.text c.play_line.new.text
    (cond reads rest []) whole (lines c.loop-line.rest.now) c.in-Some.line.now more c.in-Some.ensures.lines
    (c.in_ok-play_line.ensures.answered more) c.loop-line.invariant.amid in
    let last = last_line before on c.play_line.new.text rest whole c.in_ok-play_line.field-0 reads
    c.in_ok-play_line.ensures.read c.if-not-branch.true amid in
    always-err c.from_residual-in_err-flush.result
    (amid-cut before on (g.K.Sink.taken c.flush.new.out) c.play_line.new.text [] whole last c.in_err-flush.ensures.front)

pub returns-then-not-branch-clause-whole : goal.returns-then-not-branch-clause-whole
returns-then-not-branch-clause-whole g c =
    let answers = g.P.Player.answers in
    let before = g.K.Sink.taken c.args.out.now in
    let now = g.K.Sink.taken c.loop-line.out in
    let whole = answers c.args.player.now 1 (lines c.args.script.now) in
    let n = c.loop-line.number + 1 in
    let reads = g.P.Player.reads c.in-Some.line.now in
    let more = lines c.in-Some.after.now in
    let rest = answers c.play_line.new.self (n + 1) more in
    let on = g.K.Sink.taken c.play_line.new.onward in
    let amid = next_line (answers c.loop-line.player n) before now on c.loop-line.text c.play_line.new.text
    (cond reads rest []) whole (lines c.loop-line.rest.now) c.in-Some.line.now more c.in-Some.ensures.lines
    (c.in_ok-play_line.ensures.answered more) c.loop-line.invariant.amid in
    let last = last_line before on c.play_line.new.text rest whole c.in_ok-play_line.field-0 reads
    c.in_ok-play_line.ensures.read c.if-not-branch.true amid in
    all_taken before on (g.K.Sink.taken c.flush.new.out) c.play_line.new.text whole last c.in_ok-flush.ensures.taken

pub returns-in_err-flush_long-clause-front : goal.returns-in_err-flush_long-clause-front
returns-in_err-flush_long-clause-front g c =
    let answers = g.P.Player.answers in
    let before = g.K.Sink.taken c.args.out.now in
    let now = g.K.Sink.taken c.loop-line.out in
    let whole = answers c.args.player.now 1 (lines c.args.script.now) in
    let n = c.loop-line.number + 1 in
    let reads = g.P.Player.reads c.in-Some.line.now in
    let more = lines c.in-Some.after.now in
    let rest = answers c.play_line.new.self (n + 1) more in
    let on = g.K.Sink.taken c.play_line.new.onward in
    let amid = next_line (answers c.loop-line.player n) before now on c.loop-line.text c.play_line.new.text
    (cond reads rest []) whole (lines c.loop-line.rest.now) c.in-Some.line.now more c.in-Some.ensures.lines
    (c.in_ok-play_line.ensures.answered more) c.loop-line.invariant.amid in
    always-err c.from_residual-in_err-flush_long.result
    (amid-cut before on (g.K.Sink.taken c.flush_long.new.out) c.play_line.new.text (cond reads rest []) whole amid
    c.in_err-flush_long.ensures.front)

pub loop-line-preserved : goal.loop-line-preserved
loop-line-preserved g c =
    let answers = g.P.Player.answers in
    let before = g.K.Sink.taken c.args.out.now in
    let now = g.K.Sink.taken c.loop-line.out in
    let whole = answers c.args.player.now 1 (lines c.args.script.now) in
    let n = c.loop-line.number + 1 in
    let reads = g.P.Player.reads c.in-Some.line.now in
    let more = lines c.in-Some.after.now in
    let rest = answers c.play_line.new.self (n + 1) more in
    let on = g.K.Sink.taken c.play_line.new.onward in
    let amid = next_line (answers c.loop-line.player n) before now on c.loop-line.text c.play_line.new.text
    (cond reads rest []) whole (lines c.loop-line.rest.now) c.in-Some.line.now more c.in-Some.ensures.lines
    (c.in_ok-play_line.ensures.answered more) c.loop-line.invariant.amid in
    record {
      amid = c.in_ok-flush_long.ensures.amid before rest whole
          (more_lines before on c.play_line.new.text rest whole c.in_ok-play_line.field-0 reads
          c.in_ok-play_line.ensures.read c.if-not-branch.false amid);
      read = read_more g.P.Player.reads (lines c.loop-line.rest.now) c.in-Some.line.now more c.in_ok-play_line.field-0
          (list_all g.P.Player.reads (lines c.args.script.now)) c.in-Some.ensures.lines c.in_ok-play_line.ensures.read
          c.if-not-branch.false c.loop-line.invariant.read;
      few = omega (arith, c.in-Some.ensures.shorter, c.loop-line.invariant.few);
      faultless = c.in_ok-flush_long.ensures.faultless ∙ c.in_ok-play_line.ensures.faultless
          ∙ c.loop-line.invariant.faultless;
      steps = λ counted.
          let so_far = c.loop-line.invariant.steps counted in
          let one = c.in_ok-play_line.ensures.spent more counted
          (sym c.in_ok-play_line.ensures.read ∙ c.if-not-branch.false) in
          let same = ap (g.P.Player.ahead c.loop-line.player) c.in-Some.ensures.lines in
          omega (arith, so_far, one, same);
    }

pub returns-in_err-flush-2-clause-front : goal.returns-in_err-flush-2-clause-front
returns-in_err-flush-2-clause-front g c =
    let answers = g.P.Player.answers in
    let before = g.K.Sink.taken c.args.out.now in
    let now = g.K.Sink.taken c.loop-line.out in
    let whole = answers c.args.player.now 1 (lines c.args.script.now) in
    let n = c.loop-line.number + 1 in
    let last = no_line (answers c.loop-line.player n) before now c.loop-line.text whole (lines c.loop-line.rest.now)
    c.in_default.ensures.lines (g.met.P.Player.ends c.loop-line.player n) c.loop-line.invariant.amid in
    always-err c.from_residual-in_err-flush-2.result
    (amid-cut before now (g.K.Sink.taken c.flush-2.new.out) c.loop-line.text [] whole last
    c.in_err-flush-2.ensures.front)

pub returns-clause-whole : goal.returns-clause-whole
returns-clause-whole g c =
    let answers = g.P.Player.answers in
    let before = g.K.Sink.taken c.args.out.now in
    let now = g.K.Sink.taken c.loop-line.out in
    let whole = answers c.args.player.now 1 (lines c.args.script.now) in
    let n = c.loop-line.number + 1 in
    let last = no_line (answers c.loop-line.player n) before now c.loop-line.text whole (lines c.loop-line.rest.now)
    c.in_default.ensures.lines (g.met.P.Player.ends c.loop-line.player n) c.loop-line.invariant.amid in
    all_taken before now (g.K.Sink.taken c.flush-2.new.out) c.loop-line.text whole last c.in_ok-flush-2.ensures.taken

pub returns-in_err-play_line-clause-steps : goal.returns-in_err-play_line-clause-steps
returns-in_err-play_line-clause-steps g c = λ counted.
    let so_far = c.loop-line.invariant.steps counted in
    let one = c.play_line.ensures.steps (lines c.in-Some.after.now) counted in
    let same = ap (g.P.Player.ahead c.loop-line.player) c.in-Some.ensures.lines in
    omega (arith, so_far, one, same)

pub returns-in_err-flush-clause-steps : goal.returns-in_err-flush-clause-steps
returns-in_err-flush-clause-steps g c = λ counted.
    let so_far = c.loop-line.invariant.steps counted in
    let one = c.play_line.ensures.steps (lines c.in-Some.after.now) counted in
    let same = ap (g.P.Player.ahead c.loop-line.player) c.in-Some.ensures.lines in
    omega (arith, so_far, one, same)

pub returns-then-not-branch-clause-steps : goal.returns-then-not-branch-clause-steps
returns-then-not-branch-clause-steps g c = λ counted.
    let so_far = c.loop-line.invariant.steps counted in
    let one = c.play_line.ensures.steps (lines c.in-Some.after.now) counted in
    let same = ap (g.P.Player.ahead c.loop-line.player) c.in-Some.ensures.lines in
    omega (arith, so_far, one, same)

pub returns-in_err-flush_long-clause-steps : goal.returns-in_err-flush_long-clause-steps
returns-in_err-flush_long-clause-steps g c = λ counted.
    let so_far = c.loop-line.invariant.steps counted in
    let one = c.play_line.ensures.steps (lines c.in-Some.after.now) counted in
    let same = ap (g.P.Player.ahead c.loop-line.player) c.in-Some.ensures.lines in
    omega (arith, so_far, one, same)

pub returns-in_err-flush-2-clause-steps : goal.returns-in_err-flush-2-clause-steps
returns-in_err-flush-2-clause-steps g c = λ counted. let so_far = c.loop-line.invariant.steps counted in omega (arith, so_far)

pub returns-clause-steps : goal.returns-clause-steps
returns-clause-steps g c = λ counted. let so_far = c.loop-line.invariant.steps counted in omega (arith, so_far)
