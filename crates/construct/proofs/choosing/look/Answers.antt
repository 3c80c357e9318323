-- An edit that is refused or no better leaves what was found.
use Rattle.std.proofs.Common.{◌≡◌, None, refl, sym, ap, subst, ◌∙◌}
use Rattle.khe_engine.specs.States.{edited}
use Rattle.khe_engine.specs.Values.{totals}
use Rattle.khe_engine.specs.Worlds.{World}
use Rattle.khe_solution.specs.Refusing.{refusal}
use Rattle.construct.proofs.LookLaws.{accepted_is, improved_no, improved_not, improved_yes}
use Rattle.construct.proofs.choosing.look.Goals as goal

pub is_lower_after-requires-clause-accepted : goal.is_lower_after-requires-clause-accepted
is_lower_after-requires-clause-accepted g c =
    accepted_is c.args.engine.now.parts c.args.engine.now.state c.args.edit
    (sym c.accepts.ensures ∙ c.if-not-accepts.false)

pub totals_after-totals-requires-clause-accepted : goal.totals_after-totals-requires-clause-accepted
totals_after-totals-requires-clause-accepted g c =
    subst (λ (w : World). refusal w.parts w.state.slots c.args.edit ≡ None) (sym c.is_lower_after.ensures.same)
    (accepted_is c.args.engine.now.parts c.args.engine.now.state c.args.edit
    (sym c.accepts.ensures ∙ c.if-not-accepts.false))

pub returns-then-not-accepts : goal.returns-then-not-accepts
returns-then-not-accepts g c = record {
  best =
      improved_not c.args.engine.now.parts c.args.engine.now.state c.args.best.now c.args.edit
      (sym c.accepts.ensures ∙ c.if-not-accepts.true);
  same = refl;
}

pub returns-then-not-is_lower_after : goal.returns-then-not-is_lower_after
returns-then-not-is_lower_after g c = record {
  best =
      improved_no c.args.engine.now.parts c.args.engine.now.state c.args.best.now c.args.edit
      (sym c.is_lower_after.ensures.lower ∙ c.if-not-is_lower_after.true);
  same = c.is_lower_after.ensures.same;
}

pub returns : goal.returns
returns g c =
    let same = c.is_lower_after.ensures.same in
    record {
      best =
          improved_yes c.args.engine.now.parts c.args.engine.now.state c.args.best.now c.args.edit
          c.totals_after-totals.result (sym c.accepts.ensures ∙ c.if-not-accepts.false)
          (sym c.is_lower_after.ensures.lower ∙ c.if-not-is_lower_after.false)
          (c.totals_after-totals.ensures.totals
          ∙ ap (λ (w : World). totals w.parts (edited w.state c.args.edit)) same);
      same = c.totals_after-totals.ensures.same ∙ same;
    }
