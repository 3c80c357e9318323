-- The engine that was woken rests on the same instance, and nothing was changed.
use Rattle.std.proofs.Common.{◌∙◌, refl, subst, sym}
use Rattle.khe_engine.specs.Resting.{FitsIn}
use Rattle.khe_session.proofs.WakingLaws.{held_fits, left_rests, none_rests, none_same, none_totals, same_rest, totals_told, woken_parts}
use Rattle.khe_session.proofs.waking.totals_on.Goals as goal

pub wake-engine-requires-clause-fits : goal.wake-engine-requires-clause-fits
wake-engine-requires-clause-fits g c =
    held_fits g.F.Family.IsOf g.F.Family.told c.args.inst.now c.args.kept.now c.in-Some.held
    (sym c.take.ensures.value ∙ c.in-Some.is) c.requires.rests

pub returns-in-Some : goal.returns-in-Some
returns-in-Some g c =
    let p = c.args.inst.now in
    let k = c.in-Some.held in
    let w = c.wake-engine.result in
    let held = sym c.take.ensures.value ∙ c.in-Some.is in
    record {
      rests =
          left_rests g.F.Family.IsOf g.F.Family.told p c.put.new.place _ c.put.ensures
          (subst (λ q. FitsIn g.F.Family.IsOf g.F.Family.told q c.rest-rest.result)
          (woken_parts p k w c.wake-engine.ensures) c.rest-rest.ensures.fits);
      told =
          λ number lines. totals_told p number lines c.args.kept.now k w c.totals-totals.result held c.wake-engine.ensures
          c.totals-totals.ensures;
      same =
          λ number lines. same_rest p number lines c.args.kept.now c.put.new.place k _ w held c.put.ensures refl
          c.wake-engine.ensures c.rest-rest.ensures.same;
    }

pub returns-in-None : goal.returns-in-None
returns-in-None g c =
    let p = c.args.inst.now in
    let none = sym c.take.ensures.value ∙ c.in-None.is in
    record {
      rests = none_rests g.F.Family.IsOf g.F.Family.told p c.take.new.self c.take.ensures.after;
      told = λ number lines. none_totals p number lines c.args.kept.now none;
      same = λ number lines. none_same p number lines c.args.kept.now c.take.new.self none c.take.ensures.after;
    }
