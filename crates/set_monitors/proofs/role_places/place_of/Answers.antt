use Rattle.std.proofs.Common.{◌∙◌, arith, refl, sym}
use Rattle.set_monitors.proofs.RoleLaws.{absent, other}
use Rattle.set_monitors.proofs.role_places.place_of.Goals as goal

pub returns-in_default : goal.returns-in_default
returns-in_default c = absent c.args.list.now c.args.event.0 c.sought-k.result c.sought-k.ensures
    (sym c.element_at.ensures ∙ c.in_default.is)

pub returns-then-found-event : goal.returns-then-found-event
returns-then-found-event c = other c.args.list.now c.args.event.0 c.sought-k.result c.in-Some.found c.sought-k.ensures
    (sym c.element_at.ensures ∙ c.in-Some.is) (λ z. omega (arith, c.if-found-event.true, z))

pub returns : goal.returns
returns c = (
  c.sought-k.result,
  c.in-Some.found,
  sym c.element_at.ensures ∙ c.in-Some.is,
  omega (arith, c.if-found-event.false),
  refl,
)
