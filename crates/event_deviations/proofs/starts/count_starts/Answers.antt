use Rattle.std.proofs.Common.{◌≡◌, ◌∙◌, sym, ap, ap₂, subst, ◌+◌, ◌≤◌, ℕ, List, length, get_or, count_by, arith}
use Rattle.std.proofs.lemmas.List.{length-replicate}
use Rattle.std.proofs.lemmas.List.Sums.{sum_by_more, sum_by_more_le, count_by-le-length}
use Rattle.khe_instance.specs.EventDeviation.{starts_in}
use Rattle.khe_instance.specs.Lookups.{duration_at}
use Rattle.event_deviations.specs.Groups.{starting_at}
use Rattle.event_deviations.specs.Marked.{sum_in}
use Rattle.event_deviations.proofs.MarkLemmas.{get_or-zeros, sum_in-zeros}
use Rattle.event_deviations.proofs.starts.count_starts.Goals as goal

pub loop-event-init : goal.loop-event-init
loop-event-init c =
    let n = length c.args.starts.now in
    let zeros = c.clear.ensures in
    record {
      long = ap length zeros ∙ length-replicate {A = ℕ} n 0;
      exact = λ times. ap (λ v. sum_in v times) zeros ∙ sum_in-zeros times n;
      bound = λ times. omega (arith, ap (λ v. sum_in v times) zeros, sum_in-zeros times n);
      few = λ t. omega (arith, ap (λ (v : List ℕ). get_or v t 0) zeros, get_or-zeros n t);
    }

pub count_meets-requires-clause-few : goal.count_meets-requires-clause-few
count_meets-requires-clause-few c =
    let infos = c.args.index.now.parts.events in
    let es = c.args.events.now in
    let i = c.loop-event.event-index in
    let here = c.loop-event-test.true in
    let limit = sum_by_more_le (duration_at infos) es i 0 here in
    λ t. omega (arith, c.loop-event.invariant.few t, c.meets.ensures.few, c.requires.durations)

pub loop-event-preserved : goal.loop-event-preserved
loop-event-preserved c =
    let meets = c.args.index.now.meets in
    let infos = c.args.index.now.parts.events in
    let es = c.args.events.now in
    let i = c.loop-event.event-index in
    let here = c.loop-event-test.true in
    let old = c.loop-event.invariant in
    let did = c.count_meets.ensures in
    let limit = sum_by_more (duration_at infos) es i 0 here in
    record {
      long = did.times ∙ old.long;
      exact = λ times.
          did.exact times ∙ ap₂ (λ (a b : ℕ). a + b) (old.exact times)
          (ap (count_by (λ m. starts_in times m.start)) c.meets.ensures.are)
          ∙ sym (sum_by_more (starting_at meets times) es i 0 here);
      bound = λ times.
          omega (
            arith,
            did.exact times,
            old.bound times,
            c.meets.ensures.few,
            count_by-le-length (λ m. starts_in times m.start) c.meets.result.now,
          );
      few = λ t. omega (arith, did.few t, old.few t, c.meets.ensures.few);
    }
