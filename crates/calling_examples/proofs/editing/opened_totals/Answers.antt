-- The engine begins with the state that the timetable lists.
use Rattle.std.proofs.Common.{◌∙◌, ap}
use Rattle.khe_engine.specs.Values.{totals}
use Rattle.khe_instance.specs.declared.parts.Parts.{Parts}
use Rattle.calling_examples.proofs.editing.opened_totals.Goals as goal

pub returns : goal.returns
returns g c =
    let e = c.in_ok-engine.engine in (
      e.state,
      c.in_ok-engine.ensures.state,
      c.totals.ensures ∙ ap (λ (p : Parts). totals p e.state) c.in_ok-engine.ensures.parts,
    )
