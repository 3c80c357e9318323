use Rattle.std.proofs.Common.{◌∙◌, arith, sym}
use Rattle.set_monitors.proofs.RoleLaws.{no_place, only_in_role, others_more, others_none}
use Rattle.set_monitors.proofs.role_places.place_with_role.Goals as goal

pub loop-k-init : goal.loop-k-init
loop-k-init c = others_none c.args.inst.now c.args.monitor c.args.event.0

pub loop-k-preserved : goal.loop-k-preserved
loop-k-preserved c = others_more c.args.inst.now c.args.monitor c.args.event.0 c.loop-k.k
    (sym c.has_role.ensures ∙ c.if-has_role.false) c.loop-k.invariant

pub returns-then-has_role : goal.returns-then-has_role
returns-then-has_role c = only_in_role c.args.inst.now c.args.monitor c.facts.ensures c.requires.monitor
    c.requires.served c.args.event.0 c.loop-k.k c.requires.event (sym c.has_role.ensures ∙ c.if-has_role.true)

pub returns : goal.returns
returns c = no_place c.args.inst.now c.args.monitor c.requires.monitor c.requires.served c.args.event.0
    c.event.result.now c.event.ensures c.loop-k.k c.loop-k.invariant
    (omega (arith, c.len-places.ensures, c.loop-k-test.false))
