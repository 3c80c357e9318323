-- A resource with a role, and one without.
use Rattle.std.proofs.Common.{◌∙◌, ap, sym, take}
use Rattle.std.specs.Option.{option_map}
use Rattle.khe_base.specs.Text.{characters}
use Rattle.xhstt_completion.proofs.FoundLemmas.{resource-below}
use Rattle.xhstt_completion.proofs.ManyLemmas.{cause-named, cause-unnamed, is-given}
use Rattle.xhstt_completion.proofs.many.cause_at.Goals as goal
use Rattle.xhstt_shape.specs.Views.{seen_role}
use Rattle.xhstt_shape.specs.declared.records.Name.{Name}

pub named_cause-requires-clause-resource : goal.named_cause-requires-clause-resource
named_cause-requires-clause-resource c =
    resource-below c.args.inst.now c.args.one.now.reference.id c.args.resource c.requires.resource

pub named_cause-requires-clause-role : goal.named_cause-requires-clause-role
named_cause-requires-clause-role c =
    is-given c.args.given.now c.args.number c.args.one.now (characters c.in-Some.role.text.now) c.requires.there
    (ap (option_map (λ (name : Name). name.text)) (sym c.role.ensures ∙ ap (option_map seen_role) c.in-Some.is))

pub returns-in-Some : goal.returns-in-Some
returns-in-Some c =
    c.named_cause.ensures
    ∙ cause-named c.args.inst.now c.args.event.now (take c.args.number c.args.given.now) c.args.one.now
    (characters c.in-Some.role.text.now) c.args.resource
    (ap (option_map (λ (name : Name). name.text)) (sym c.role.ensures ∙ ap (option_map seen_role) c.in-Some.is))
    c.requires.resource

pub returns-in-None : goal.returns-in-None
returns-in-None c =
    c.unnamed_cause.ensures
    ∙ cause-unnamed c.args.inst.now c.args.event.now (take c.args.number c.args.given.now) c.args.one.now
    c.args.resource
    (ap (option_map (λ (name : Name). name.text)) (sym c.role.ensures ∙ ap (option_map seen_role) c.in-None.is))
    c.requires.resource
