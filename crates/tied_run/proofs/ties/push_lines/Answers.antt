-- At each turn the meets up to the next tie leave what is left, and its line joins what waits, of which something may
-- go on.
use Rattle.std.proofs.Common.{◌+◌, ◌++◌, ◌∙◌, ap, arith, subst}
use Rattle.khe_io.specs.Amid.{IsAmid}
use Rattle.khe_io.proofs.AmidLemmas.{always-err, amid-cut, amid-stop}
use Rattle.script_run.proofs.AddedLaws.{amid_item}
use Rattle.followers.specs.Ties.{tie_at}
use Rattle.tied_run.specs.Answers.{tie_line, tie_lines}
use Rattle.tied_run.proofs.TieLaws.{line_next, line_none, lines_from}
use Rattle.tied_run.proofs.ties.push_lines.Goals as goal

pub returns-in_err-push_tie-clause-front : goal.returns-in_err-push_tie-clause-front
returns-in_err-push_tie-clause-front g c =
    let ties = c.args.tied.now.now.ties in
    always-err c.from_residual.result
    (amid-stop (g.G.Onward.taken c.args.onward.now) (g.G.Onward.taken c.loop-meet.onward) c.loop-meet.text
    (lines_from ties c.loop-meet.next.0) (c.args.text.now ++ tie_lines ties) c.loop-meet.invariant.amid)

pub returns-in_err-pass-clause-front : goal.returns-in_err-pass-clause-front
returns-in_err-pass-clause-front g c =
    let ties = c.args.tied.now.now.ties in
    let e = c.in-Some.ensures.next in
    let m = c.in-Some.meet.0 in
    let before = g.G.Onward.taken c.args.onward.now in
    let now = g.G.Onward.taken c.loop-meet.onward in
    let rest = lines_from ties (m + 1) in
    let whole = c.args.text.now ++ tie_lines ties in
    let line = tie_line m (tie_at ties m) in
    let pushed = amid_item before now c.loop-meet.text line c.push_tie.new.text (lines_from ties c.loop-meet.next.0)
    rest whole (line_next ties c.loop-meet.next.0 m e.0 c.in-Some.ensures.there e.2)
    (c.in_ok-push_tie.ensures ∙ ap (λ o. c.loop-meet.text ++ tie_line m o) c.tie.ensures)
    c.loop-meet.invariant.amid in
    always-err c.from_residual-in_err-pass.result
    (amid-cut before now (g.G.Onward.taken c.pass.new.self) c.push_tie.new.text rest whole pushed
    c.in_err-pass.ensures.front)

pub loop-meet-preserved : goal.loop-meet-preserved
loop-meet-preserved g c =
    let ties = c.args.tied.now.now.ties in
    let e = c.in-Some.ensures.next in
    let m = c.in-Some.meet.0 in
    let before = g.G.Onward.taken c.args.onward.now in
    let now = g.G.Onward.taken c.loop-meet.onward in
    let rest = lines_from ties (m + 1) in
    let whole = c.args.text.now ++ tie_lines ties in
    let line = tie_line m (tie_at ties m) in
    let pushed = amid_item before now c.loop-meet.text line c.push_tie.new.text (lines_from ties c.loop-meet.next.0)
    rest whole (line_next ties c.loop-meet.next.0 m e.0 c.in-Some.ensures.there e.2)
    (c.in_ok-push_tie.ensures ∙ ap (λ o. c.loop-meet.text ++ tie_line m o) c.tie.ensures)
    c.loop-meet.invariant.amid in
    record {
      amid = c.in_ok-pass.ensures.amid before rest whole pushed;
      faultless = c.in_ok-pass.ensures.faultless ∙ c.loop-meet.invariant.faultless;
    }

pub loop-meet-smaller : goal.loop-meet-smaller
loop-meet-smaller g c =
    let from = c.in-Some.ensures.next.0 in let there = c.in-Some.ensures.there in omega (arith, from, there)

pub returns-clause-added : goal.returns-clause-added
returns-clause-added g c =
    let ties = c.args.tied.now.now.ties in
    subst (λ xs. IsAmid (g.G.Onward.taken c.args.onward.now) (g.G.Onward.taken c.loop-meet.onward) c.loop-meet.text xs
    (c.args.text.now ++ tie_lines ties)) (line_none ties c.loop-meet.next.0 c.in_default.ensures.next)
    c.loop-meet.invariant.amid
