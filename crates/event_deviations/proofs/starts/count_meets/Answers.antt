use Rattle.std.proofs.Common.{◌≡◌, ◌∙◌, sym, ap, subst, refl, ◌+◌, ◌<◌, ◌≤◌, ℕ, List, None, IfSome, length, set, get_or}
use Rattle.std.proofs.Common.{count_by, arith}
use Rattle.std.proofs.lemmas.List.{take_all}
use Rattle.khe_instance.specs.EventDeviation.{starts_in}
use Rattle.khe_instance.specs.declared.states.Meet.{Meet}
use Rattle.event_deviations.specs.Marked.{sum_in}
use Rattle.event_deviations.proofs.StartLemmas.{AreCounted, counted-some, counted-none}
use Rattle.event_deviations.proofs.starts.count_meets.Goals.{in-Some, in_default}
use Rattle.event_deviations.proofs.starts.count_meets.Goals as goal

abbrev none : Meet
none = record { meet = record { 0 = 0 }; event = record { 0 = 0 }; duration = 0; start = None }

pub loop-meet-init : goal.loop-meet-init
loop-meet-init c =
    record {
      long = refl;
      exact = λ times.
          let n = sum_in c.args.starts.now times in
          let z : n ≡ n + 0 = omega arith in
          z;
      few = λ t. omega arith;
    }

pub at-before-requires : goal.at-before-requires
at-before-requires c =
    let ms = c.args.meets.now in
    let i = c.loop-meet.meet-index in
    let here = c.loop-meet-test.true in
    let end = subst (λ o. IfSome o (λ s. s.0 + (get_or ms i none).duration ≤ length c.args.starts.now)) c.in-Some.is
    (c.requires.ends i none here) in
    omega (arith, end, c.requires.each i none here, c.loop-meet.invariant.long)

pub loop-meet-preserved : goal.loop-meet-preserved
loop-meet-preserved c =
    let old = c.args.starts.now in
    let vs = c.loop-meet.starts in
    let ms = c.args.meets.now in
    let i = c.loop-meet.meet-index in
    let here = c.loop-meet-test.true in
    elim c.match-meet.branch [
      | in-Some w ↦
          let s = w.in-Some.start in
          let end = subst (λ o. IfSome o (λ s. s.0 + (get_or ms i none).duration ≤ length old)) w.in-Some.is
          (c.requires.ends i none here) in
          let within : s.0 < length vs = omega (arith, end, c.requires.each i none here, c.loop-meet.invariant.long) in
          subst (λ (new : List ℕ). AreCounted old new ms (i + 1))
          (sym (w.starts-is ∙ w.put.ensures ∙ ap (λ (v : ℕ). set vs s.0 (v + 1)) w.at-before.ensures))
          (counted-some old vs ms i none here c.loop-meet.invariant s w.in-Some.is within)
      | in_default w ↦ subst (λ (new : List ℕ). AreCounted old new ms (i + 1)) (sym w.starts-is)
          (counted-none old vs ms i none here c.loop-meet.invariant w.in_default.is)
    ]

pub returns : goal.returns
returns c =
    let ms = c.args.meets.now in
    let old = c.args.starts.now in
    let done = c.loop-meet.invariant in
    let all = take_all c.loop-meet.meet-index ms c.loop-meet-test.false in
    record {
      times = done.long;
      exact = λ times. done.exact times
          ∙ ap (λ (xs : List Meet). sum_in old times + count_by (λ m. starts_in times m.start) xs) all;
      few = λ t. omega (arith, done.few t, c.loop-meet.auto.meet-index-end);
    }
