use Rattle.std.proofs.Common.{◌≡◌, ◌∙◌, Some, None, refl, sym, ap, subst}
use Rattle.std.specs.Option.{option_map}
use Rattle.khe_told.specs.Effects.{effects_of, turned_all}
use Rattle.khe_told.specs.Turns.{turned}
use Rattle.event_monitors.proofs.EffectLaws.{first_turn, second_turn}
use Rattle.set_monitors.specs.AvoidSplitAssignments.{held, holders}
use Rattle.set_monitors.specs.Handings.{AreHanded, IsHanded}
use Rattle.set_monitors.proofs.HandingLaws.{handed_nothing, shared_of_state}
use Rattle.set_monitors.proofs.holder_effects.handings_of.Goals as goal

pub returns-in-Some-clause-handed : goal.returns-in-Some-clause-handed
returns-in-Some-clause-handed c = λ s turns.
    let p = c.args.inst.now in
    let m = c.args.monitor in
    let a = c.slots.result.0.now in
    let b = c.in-Some.second.now in
    let ts = c.args.effects.now in
    let is : effects_of a (Some b) ≡ ts = ap (λ o. effects_of a (option_map (λ e. e.now) o)) (sym c.in-Some.is)
    ∙ c.slots.ensures in
    subst (λ us. AreHanded (held p m s) (record {
      first = c.handing_of-first.result;
      second = c.handing_of-second.result;
    }) (held p m (turned_all s us))) is (
      held p m (turned s a),
      c.handing_of-first.ensures.handed s (first_turn p s a (Some b) ts is turns),
      c.handing_of-second.ensures.handed (turned s a) (second_turn p s a b ts is turns),
    )

pub returns-in-Some-clause-first : goal.returns-in-Some-clause-first
returns-in-Some-clause-first c = λ s numbers row n kept turns.
    c.handing_of-first.ensures.listed s numbers row n kept
    (first_turn c.args.inst.now s c.slots.result.0.now (option_map (λ e. e.now) c.slots.result.1) c.args.effects.now
    c.slots.ensures turns)

pub returns-in-Some-clause-second : goal.returns-in-Some-clause-second
returns-in-Some-clause-second c = λ s numbers row n kept turns.
    let p = c.args.inst.now in
    let m = c.args.monitor in
    let a = c.slots.result.0.now in
    let b = c.in-Some.second.now in
    let ts = c.args.effects.now in
    let is : effects_of a (Some b) ≡ ts = ap (λ o. effects_of a (option_map (λ e. e.now) o)) (sym c.in-Some.is)
    ∙ c.slots.ensures in
    let second = second_turn p s a b ts is turns in
    let s1 = turned s a in
    c.handing_of-second.ensures.listed s1 numbers _ (holders p (held p m s1))
    (shared_of_state p m s s1 numbers row n (holders p (held p m s1)) second.told refl kept) second

pub returns-in-None-clause-handed : goal.returns-in-None-clause-handed
returns-in-None-clause-handed c = λ s turns.
    let p = c.args.inst.now in
    let m = c.args.monitor in
    let a = c.slots.result.0.now in
    let ts = c.args.effects.now in
    let is : effects_of a None ≡ ts = ap (λ o. effects_of a (option_map (λ e. e.now) o)) (sym c.in-None.is)
    ∙ c.slots.ensures in
    subst (λ us. AreHanded (held p m s) (record {
      first = c.handing_of-first.result;
      second = c.no_handing-second.result;
    }) (held p m (turned_all s us))) is (
      held p m (turned s a),
      c.handing_of-first.ensures.handed s (first_turn p s a None ts is turns),
      subst (λ h. IsHanded (held p m (turned s a)) h (held p m (turned s a))) (sym c.no_handing-second.ensures)
          (handed_nothing (held p m (turned s a))),
    )

pub returns-in-None-clause-first : goal.returns-in-None-clause-first
returns-in-None-clause-first c = λ s numbers row n kept turns.
    c.handing_of-first.ensures.listed s numbers row n kept
    (first_turn c.args.inst.now s c.slots.result.0.now (option_map (λ e. e.now) c.slots.result.1) c.args.effects.now
    c.slots.ensures turns)
