-- What a verdict says of a solution.
use Rattle.std.proofs.Common.{◌≡◌, ◌∙◌, Option, Some, None, Ok, [], length, refl, ap}
use Rattle.std.proofs.lemmas.List.{length-map}
use Rattle.std.proofs.lemmas.List.FromFn.{length-map-range_with_len}
use Rattle.khe_instance.specs.Costs.{cost_at}
use Rattle.khe_instance.specs.Evaluated as evaluated
use Rattle.khe_instance.specs.declared.parts.Parts.{Parts}
use Rattle.khe_instance.specs.declared.states.Plain.{Plain}
use Rattle.parallel_solve.specs.Verdicts.{verdict_of, values_of}
use Rattle.parallel_solve.specs.declared.verdicts.Verdict.{Verdict}
use Rattle.parallel_solve.specs.declared.verdicts.Verdict.TheVariants.{Valid, Invalid}
use Rattle.plain_eval.specs.declared.evaluation.Values.{Values}
use Rattle.xhstt_completion.specs.Completed.{completed, unless, state_of}
use Rattle.xhstt_completion.specs.Causes.{first_cause}
use Rattle.xhstt_completion.specs.declared.faults.Cause.{Cause}
use Rattle.xhstt_shape.specs.declared.records.RawSolution.{RawSolution}

abbrev values_in : Values → Verdict → Values
values_in d (Valid v) = v
values_in d (Invalid cause entry) = d

-- the state of a valid solution: all monitors are attached
pub record IsValued (p : Parts) (raw : RawSolution) (v : Values) : Type 0 where
  pub state : Plain
  pub completed_is : completed p raw ≡ Ok state
  pub values : v ≡ values_of p state
  pub attached : state.detached ≡ []

pub valid-is : (p : Parts) (raw : RawSolution) (v : Values) → Valid v ≡ verdict_of p (completed p raw)
    → IsValued p raw v
valid-is p raw v is = by (first_cause p [] raw.events) refl is
  where
    by : (o : Option Cause) → first_cause p [] raw.events ≡ o
        → Valid v ≡ verdict_of p (unless o (state_of p raw.events)) → IsValued p raw v
    by None none e = record {
      state = state_of p raw.events;
      completed_is =
          ap (λ (o : Option Cause). unless o (state_of p raw.events)) none;
      values = ap (values_in v) e;
      attached = refl;
    }
    by (Some cause) some e = absurd (cc)

-- as many rows as monitors
pub valued-long : (p : Parts) (s : Plain) (v : Values) → v ≡ values_of p s
    → (length v.deviations ≡ length p.monitors) × (length v.costs ≡ length p.monitors)
valued-long p s v is = (
  ap (λ (u : Values). length u.deviations) is ∙ length-map p.monitors (evaluated.deviation_in p s),
  ap (λ (u : Values). length u.costs) is ∙ length-map-range_with_len
      (cost_at p (evaluated.is_detached s) (evaluated.deviations p s)) 0 (length p.monitors),
)
