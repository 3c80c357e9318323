-- A window's texts and what is left after it are what was left before; in the end nothing is left.
use Rattle.std.proofs.Common.{Bor, ◌≤◌, ◌∙◌, arith, map, subst, sym}
use Rattle.std.specs.List.{flat_map}
use Rattle.khe_base.specs.declared.texts.Text.{Text}
use Rattle.xhstt_shape.specs.declared.records.RawSolution.{RawSolution}
use Rattle.khe_io.specs.Amid.{IsAmid}
use Rattle.khe_io.proofs.AmidLemmas.{always-err, amid-stop, err-of}
use Rattle.reading_commands.specs.Report.{left_text, row_text}
use Rattle.reading_commands.proofs.WindowLemmas.{none_left, with_window}
use Rattle.reading_commands.proofs.reports.write_windows.Goals as goal

pub returns-in_err-window-clause-front : goal.returns-in_err-window-clause-front
returns-in_err-window-clause-front g c = λ before whole h.
    always-err c.from_residual.result (amid-stop before (g.K.Sink.taken c.args.out.now) c.args.text.now _ whole h)

pub returns-in_err-window-2-clause-front : goal.returns-in_err-window-2-clause-front
returns-in_err-window-2-clause-front g c = λ before whole h.
    let all = c.args.parts.now.all in
    let r = c.args.parts.now.resolved.now in
    let ids = map (λ (y : Bor Text). y.now) c.args.parts.now.groups.now in
    let raws = map (λ (y : Bor RawSolution). y.now) c.args.parts.now.raws.now in
    let w = c.loop-first.window in
    always-err c.from_residual-in_err-window-2.result
    (err-of c.write_and_make.result c.in_err-window-2.field-0.0 c.in_err-window-2.was
    (c.write_and_make.ensures.front before (left_text all r ids w.next raws) whole
    (subst (λ t. IsAmid before (g.K.Sink.taken c.loop-first.out) c.loop-first.text t whole)
    (sym (with_window all r ids raws c.loop-first.first w.next w.made.items c.loop-first.invariant.window))
    (c.loop-first.invariant.amid before whole h))))

pub loop-first-preserved : goal.loop-first-preserved
loop-first-preserved g c =
    let all = c.args.parts.now.all in
    let r = c.args.parts.now.resolved.now in
    let ids = map (λ (y : Bor Text). y.now) c.args.parts.now.groups.now in
    let raws = map (λ (y : Bor RawSolution). y.now) c.args.parts.now.raws.now in
    let w = c.loop-first.window in
    record {
      window = c.in_ok-window-2.ensures.next;
      amid = λ before whole h. c.in_ok-window-2.ensures.amid before (left_text all r ids w.next raws) whole
          (subst (λ t. IsAmid before (g.K.Sink.taken c.loop-first.out) c.loop-first.text t whole)
          (sym (with_window all r ids raws c.loop-first.first w.next w.made.items c.loop-first.invariant.window))
          (c.loop-first.invariant.amid before whole h));
      faultless = c.in_ok-window-2.ensures.faultless ∙ c.loop-first.invariant.faultless;
    }

pub returns-clause-amid : goal.returns-clause-amid
returns-clause-amid g c = λ before whole h.
    let all = c.args.parts.now.all in
    let r = c.args.parts.now.resolved.now in
    let ids = map (λ (y : Bor Text). y.now) c.args.parts.now.groups.now in
    let raws = map (λ (y : Bor RawSolution). y.now) c.args.parts.now.raws.now in
    let w = c.loop-first.window in
    subst (λ t. IsAmid before (g.K.Sink.taken c.loop-first.out) c.loop-first.text t whole)
    (none_left all r ids (flat_map (row_text all r ids)) raws c.loop-first.first w.next w.made.items
    c.loop-first.invariant.window (let z : w.next ≤ c.loop-first.first = omega (arith, c.loop-first-test.false) in z))
    (c.loop-first.invariant.amid before whole h)
