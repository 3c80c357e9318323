-- At each turn one solution more; in the end all of them, or enough bytes.
use Rattle.std.proofs.Common.{Bor, ◌≡◌, ◌<◌, ◌∙◌, arith, length, map, rules, subst, sym, zero-add}
use Rattle.std.proofs.lemmas.List.{length-map}
use Rattle.parallel_solve.proofs.CutLemmas.{there_of}
use Rattle.parallel_solve.specs.Ready.{IsOne}
use Rattle.timetable_page.specs.Endings.{AreSent}
use Rattle.timetable_page.specs.Words.{shows}
use Rattle.timetable_page.proofs.PageLemmas.{all_sent, cut_sent, none_sent}
use Rattle.timetable_page.proofs.program.write_sections.Goals as goal
use Rattle.xhstt_shape.specs.declared.records.RawSolution.{RawSolution}

pub write_shown-requires-clause-one : goal.write_shown-requires-clause-one
write_shown-requires-clause-one g c =
    let now = λ (x : Bor RawSolution). x.now in
    let xs = c.args.parts.now.raws.now in
    let n = c.loop-number.number in
    let x = c.index-raws-place.result in
    let lt : n < length xs = omega (arith, c.loop-number-test.true) in
    subst (λ m. IsOne c.args.parts.now.resolved.now m x.now) (zero-add n)
    (c.requires.ones n x.now (there_of now xs n x lt c.index-raws-place.is))

pub loop-number-init : goal.loop-number-init
loop-number-init g c = record {
  sent = λ before opening h. none_sent c.args.parts.now.resolved.now
      (map (λ (x : Bor RawSolution). x.now) c.args.parts.now.raws.now) (shows c.args.parts.now.choice) before
      (g.K.Sink.taken c.args.out.now) opening h;
  faultless = search rules;
}

pub loop-number-preserved : goal.loop-number-preserved
loop-number-preserved g c =
    let now = λ (x : Bor RawSolution). x.now in
    let xs = c.args.parts.now.raws.now in
    let n = c.loop-number.number in
    let x = c.index-raws-place.result in
    let lt : n < length xs = omega (arith, c.loop-number-test.true) in
    record {
      sent = λ before opening h. c.in_ok-sent.ensures.sent before opening (map now xs)
          (there_of now xs n x lt c.index-raws-place.is) (c.loop-number.invariant.sent before opening h);
      faultless = c.in_ok-sent.ensures.faultless ∙ c.loop-number.invariant.faultless;
    }

pub returns-then-sent-gt-PAGE_BYTES-clause-sent : goal.returns-then-sent-gt-PAGE_BYTES-clause-sent
returns-then-sent-gt-PAGE_BYTES-clause-sent g c = λ before opening h.
    cut_sent c.args.parts.now.resolved.now (map (λ (x : Bor RawSolution). x.now) c.args.parts.now.raws.now)
    (shows c.args.parts.now.choice) c.loop-number.number c.loop-number.sent before (g.K.Sink.taken c.loop-number.out)
    opening (omega (arith, c.if-sent-gt-PAGE_BYTES.true)) (c.loop-number.invariant.sent before opening h)

pub returns-clause-sent : goal.returns-clause-sent
returns-clause-sent g c = λ before opening h.
    let now = λ (x : Bor RawSolution). x.now in
    let xs = c.args.parts.now.raws.now in
    let n = length xs in
    let end : c.loop-number.number ≡ n = omega (arith, c.loop-number-test.false, c.loop-number.auto.number-end) in
    all_sent c.args.parts.now.resolved.now (map now xs) (shows c.args.parts.now.choice) n c.loop-number.sent before
    (g.K.Sink.taken c.loop-number.out) opening (sym (length-map xs now))
    (subst (λ k. AreSent c.args.parts.now.resolved.now (map now xs) (shows c.args.parts.now.choice) k c.loop-number.sent
    before (g.K.Sink.taken c.loop-number.out) opening) end (c.loop-number.invariant.sent before opening h))
