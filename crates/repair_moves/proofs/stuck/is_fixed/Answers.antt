use Rattle.std.proofs.Common.{sym, ◌∙◌}
use Rattle.repair_moves.proofs.StuckLaws as laws
use Rattle.repair_moves.proofs.stuck.is_fixed.Goals as goal

pub resources_of_type-requires : goal.resources_of_type-requires
resources_of_type-requires c = laws.place_typed c.args.inst.now c.args.event.0 c.args.place c.in-Some.own.now
    c.facts.ensures c.in-Some.ensures

pub returns-then-is_some : goal.returns-then-is_some
returns-then-is_some c = λ h. laws.place_fixed c.args.inst.now c.args.event.0 c.args.place c.in-Some.own.now
    c.in-Some.ensures (sym c.is_some.ensures ∙ c.if-is_some.true)

pub returns-else-is_some : goal.returns-else-is_some
returns-else-is_some c = λ h. laws.place_bare c.args.inst.now c.args.event.0 c.args.place c.in-Some.own.now
    c.in-Some.ensures (laws.nothing_of _ _ (sym c.is_empty.ensures ∙ h) c.resources_of_type.ensures)
