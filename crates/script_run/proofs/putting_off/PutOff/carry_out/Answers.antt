-- A question leaves the trace as it is.
use Rattle.std.proofs.Common.{◌∙◌, refl, sym}
use Rattle.script_run.specs.Steps.{trace_of}
use Rattle.script_run.proofs.StepLaws.{on_ok, traced_asked}
use Rattle.script_run.proofs.putting_off.PutOff.carry_out.Goals as goal

pub returns-then-asks-clause-traced : goal.returns-then-asks-clause-traced
returns-then-asks-clause-traced g c = λ w there. (
  w,
  c.ask.ensures.same ∙ there,
  refl,
  on_ok c.ask.result (traced_asked w.parts (trace_of w) c.args.command (sym c.asks.ensures.asks ∙ c.if-asks.true)),
)
