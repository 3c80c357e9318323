-- The families are told of no meets, and then of all. No call touches what is attached or the groups.
use Rattle.std.proofs.Common.{◌∙◌, ap, arith, subst, sym}
use Rattle.khe_instance.specs.declared.parts.Parts.{Parts}
use Rattle.khe_told.specs.Changes.{after_all}
use Rattle.khe_told.specs.Fits.{AllFit, AreTold}
use Rattle.khe_engine.proofs.LateLaws.{roomier}
use Rattle.khe_engine.proofs.OpeningLaws.{told_so_far}
use Rattle.khe_engine.proofs.ValueLaws.{same_groups}
use Rattle.khe_engine.proofs.opening.listen.Goals as goal

pub tell_all-requires : goal.tell_all-requires
tell_all-requires g c =
    let p = c.args.inst.now in
    let slots = c.args.solution.now.slots in
    let base = g.F.Family.told c.args.late.listeners.families in
    let empty = c.clear.ensures in
    let told : AreTold p slots = subst (λ (q : Parts). AreTold q slots) c.requires.parts c.facts.ensures.told in
    record {
      parts = c.requires.parts;
      of = (
        (c.requires.of, c.requires.serves, c.set_all.ensures.values, c.requires.idle),
        record {
          told = subst (AreTold p) (told.whose ∙ sym c.requires.none) (told_so_far p 0 slots told);
          fit = subst (AllFit p base) (sym empty.items) tt;
        },
        roomier p _ _ c.requires.room (let e = empty.capacity in omega (arith, e)),
      );
      none = ap (after_all base) empty.items ∙ c.requires.none;
    }

pub returns-clause-grouping : goal.returns-clause-grouping
returns-clause-grouping g c =
    sym c.catch_up.ensures.rest.grouping ∙ sym c.tell_all.ensures.rest.grouping
    ∙ sym (same_groups c.args.late.listeners.graph c.set_all.new.graph c.set_all.ensures.rest).grouping
