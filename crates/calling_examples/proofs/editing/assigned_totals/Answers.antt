-- The engine begins with the state that the timetable lists.
use Rattle.std.proofs.Common.{◌≡◌, false, subst}
use Rattle.std.proofs.lemmas.Result.{IfOk-weaker}
use Rattle.calling_examples.specs.Editing.{IsNoDearer}
use Rattle.khe_base.specs.Totals.{is_lower}
use Rattle.khe_engine.specs.Values.{totals}
use Rattle.khe_instance.specs.declared.parts.Parts.{Parts}
use Rattle.calling_examples.proofs.editing.assigned_totals.Goals as goal

pub returns : goal.returns
returns g c =
    let e = c.in_ok-engine.engine in
    IfOk-weaker c.assign_on.result (λ t. is_lower (totals e.parts e.state) t ≡ false)
    (IsNoDearer c.args.inst.now c.args.plain.now)
    (λ t low. (
      e.state,
      c.in_ok-engine.ensures.state,
      subst (λ (p : Parts). is_lower (totals p e.state) t ≡ false)
          c.in_ok-engine.ensures.parts low,
    ))
    c.assign_on.ensures
