-- What the table says of an element's name, by the bits in place of the names that came before.
use Rattle.std.proofs.Common.{sym, ◌∙◌}
use Rattle.xhstt_shape.proofs.SeenLaws.{unknown, repeated, passed}
use Rattle.xhstt_shape.proofs.walk.rule_of.Goals as goal

pub returns-in_default : goal.returns-in_default
returns-in_default c = λ tags s.
    unknown c.args.rules.now tags c.args.element.now.info c.name.result.now c.at.result
    (sym c.place_of.ensures ∙ c.in_default.is) c.name.ensures c.at.ensures

pub returns-then-has_bit : goal.returns-then-has_bit
returns-then-has_bit c = λ tags s.
    repeated c.args.rules.now c.args.seen tags s c.args.element.now.info c.name.result.now c.in-Some.place
    (sym c.place_of.ensures ∙ c.in-Some.is) c.name.ensures c.at-then-has_bit.result c.at-then-has_bit.ensures
    (sym c.has_bit.ensures ∙ c.if-has_bit.true)

pub returns : goal.returns
returns c = λ tags s.
    passed c.args.rules.now c.args.seen tags s c.args.element.now.info c.name.result.now c.in-Some.place
    (sym c.place_of.ensures ∙ c.in-Some.is) c.name.ensures _ c.see.result
    (sym c.has_bit.ensures ∙ c.if-has_bit.false) c.see.ensures
