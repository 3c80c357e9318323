-- The timetable that begins is valid; and what is built on an engine of it.
use Rattle.std.proofs.Common.{IfOk, subst}
use Rattle.khe_instance.specs.States.{IsValid}
use Rattle.construct.proofs.BuiltLaws.{built_is, start_valid}
use Rattle.construct.proofs.constructing.construct.Goals as goal

pub open-requires-clause-valid : goal.open-requires-clause-valid
open-requires-clause-valid g c = start_valid c.args.inst.now c.in_ok-plain.plain c.facts.ensures c.in_ok-plain.ensures

pub returns : goal.returns
returns g c =
    let p = c.args.inst.now in
    let w = c.in_ok-engine.engine in
    let parts = c.in_ok-engine.ensures.parts in
    record {
      built =
          built_is p w.parts c.in_ok-plain.plain w.state c.build.result parts c.in_ok-plain.ensures
          c.in_ok-engine.ensures.state c.build.ensures.listed c.build.ensures.totals;
      valid = subst (λ q. IfOk c.build.result (λ b. IsValid q b.plain)) parts c.build.ensures.valid;
    }
