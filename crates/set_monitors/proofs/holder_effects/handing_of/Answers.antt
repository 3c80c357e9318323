use Rattle.std.proofs.Common.{ℕ, ◌∙◌, false, None, get_or, sym, ap, subst}
use Rattle.std.specs.Option.{option_map_or}
use Rattle.khe_instance.specs.Watching.{names_event}
use Rattle.khe_instance.specs.declared.rules.Constraint.{Constraint}
use Rattle.khe_told.specs.Turns.{turned}
use Rattle.set_monitors.specs.AvoidSplitAssignments.{held}
use Rattle.set_monitors.specs.Handings.{IsHanded}
use Rattle.set_monitors.specs.RolePlaces.{IsAt, IsPlaceAt}
use Rattle.set_monitors.proofs.HandingLaws.{handed_elsewhere, handed_listed, handed_missing, handed_place, handed_still}
use Rattle.set_monitors.proofs.holder_effects.handing_of.Goals as goal

pub place_of-requires : goal.place_of-requires
place_of-requires c = c.requires.places.ordered

pub returns-in_default-clause-handed : goal.returns-in_default-clause-handed
returns-in_default-clause-handed c = λ s turns.
    let p = c.args.inst.now in
    let m = c.args.monitor in
    let t = c.args.effect.now in
    subst (λ h. IsHanded (held p m s) h (held p m (turned s t))) (sym c.no_handing.ensures)
    (handed_missing p m s t turns c.args.places.now c.requires.places
    (subst (λ (n : ℕ). (i : ℕ) → IsAt c.args.places.now n i → ⊥) (ap (λ e. e.0) c.event.ensures) c.in_default.ensures))

pub returns-then-not-is_other-clause-handed : goal.returns-then-not-is_other-clause-handed
returns-then-not-is_other-clause-handed c = λ s turns.
    let p = c.args.inst.now in
    let m = c.args.monitor in
    let t = c.args.effect.now in
    let k = c.in-Some.place in
    subst (λ h. IsHanded (held p m s) h (held p m (turned s t))) (sym c.no_handing-then-not-is_other.ensures)
    (handed_still p m s t turns c.args.places.now k c.given_at-before.result c.given_then-after.result c.requires.places
    (subst (λ (n : ℕ). IsPlaceAt c.args.places.now n k) (ap (λ e. e.0) c.event.ensures) c.in-Some.ensures)
    (c.given_at-before.ensures ∙ ap (λ xs. get_or xs k None) c.given_before.ensures) c.given_then-after.ensures
    (c.is_other.ensures.same c.if-not-is_other.true))

pub returns-then-not-names_event-clause-handed : goal.returns-then-not-names_event-clause-handed
returns-then-not-names_event-clause-handed c = λ s turns.
    let p = c.args.inst.now in
    let m = c.args.monitor in
    let t = c.args.effect.now in
    let named = ap (λ o. option_map_or (λ (k : Constraint). names_event p k.rule m.point t.before.event.0) o false)
    c.constraint.ensures
    ∙ sym (c.names_event.ensures ∙ ap (λ e. names_event p c.constraint.result.now.rule m.point e.0) c.event-2.ensures)
    ∙ c.if-not-names_event.true in
    subst (λ h. IsHanded (held p m s) h (held p m (turned s t))) (sym c.no_handing-then-not-names_event.ensures)
    (handed_elsewhere p m s t turns named)

pub returns-clause-handed : goal.returns-clause-handed
returns-clause-handed c = λ s turns.
    let p = c.args.inst.now in
    let m = c.args.monitor in
    let t = c.args.effect.now in
    let k = c.in-Some.place in
    let named = ap (λ o. option_map_or (λ (k : Constraint). names_event p k.rule m.point t.before.event.0) o false)
    c.constraint.ensures
    ∙ sym (c.names_event.ensures ∙ ap (λ e. names_event p c.constraint.result.now.rule m.point e.0) c.event-2.ensures)
    ∙ c.if-not-names_event.false in
    handed_place p m s t turns c.args.places.now k c.given_at-before.result c.given_then-after.result c.requires.places
    (subst (λ (n : ℕ). IsPlaceAt c.args.places.now n k) (ap (λ e. e.0) c.event.ensures) c.in-Some.ensures) named
    (c.given_at-before.ensures ∙ ap (λ xs. get_or xs k None) c.given_before.ensures) c.given_then-after.ensures

pub returns-clause-listed : goal.returns-clause-listed
returns-clause-listed c = λ s numbers row n kept turns.
    let p = c.args.inst.now in
    let m = c.args.monitor in
    let t = c.args.effect.now in
    let k = c.in-Some.place in
    let named = ap (λ o. option_map_or (λ (k : Constraint). names_event p k.rule m.point t.before.event.0) o false)
    c.constraint.ensures
    ∙ sym (c.names_event.ensures ∙ ap (λ e. names_event p c.constraint.result.now.rule m.point e.0) c.event-2.ensures)
    ∙ c.if-not-names_event.false in
    handed_listed p m s t turns numbers row n kept c.args.places.now k c.given_at-before.result
    c.given_then-after.result c.requires.places
    (subst (λ (n : ℕ). IsPlaceAt c.args.places.now n k) (ap (λ e. e.0) c.event.ensures) c.in-Some.ensures) named
    (c.is_other.ensures.differ c.if-not-is_other.false)
    (c.given_at-before.ensures ∙ ap (λ xs. get_or xs k None) c.given_before.ensures) c.given_then-after.ensures
