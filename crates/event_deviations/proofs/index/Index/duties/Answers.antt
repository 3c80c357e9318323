use Rattle.std.proofs.Common.{◌≡◌, ◌∙◌, sym, subst, ◌<◌, ◌≤◌, List, All, IfSome, length, sum_by, arith}
use Rattle.khe_base.specs.declared.limits.TheConstants.{NUMBER}
use Rattle.khe_instance.specs.EventDeviation.{duties_at}
use Rattle.khe_instance.specs.Lookups.{places_at}
use Rattle.khe_instance.specs.declared.states.Duty.{Duty}
use Rattle.event_deviations.proofs.Kit.{length_by, read_by}
use Rattle.event_deviations.proofs.Lookups.{event_of_place, durations_at, given_at}
use Rattle.event_deviations.proofs.index.Index.duties.Goals as goal

pub places-requires : goal.places-requires
places-requires c =
    let s = c.args.self.now in
    event_of_place s.parts s.meets s.duties c.facts.ensures.made c.facts.ensures.state c.args.event.0 c.args.place
    c.requires

pub bounds-places-place : goal.bounds-places-place
bounds-places-place c =
    let s = c.args.self.now in
    let long : length c.places.result.now ≡ places_at s.parts.events c.args.event.0 =
    length_by (λ k. duties_at c.args.event.0 k s.duties) (places_at s.parts.events c.args.event.0) c.places.result.now
    c.places.ensures in
    subst (λ n. c.args.place < n) (sym long) c.requires

pub offset_bounds-places-place : goal.offset_bounds-places-place
offset_bounds-places-place c =
    let s = c.args.self.now in
    let long : length c.places.result.now ≡ places_at s.parts.events c.args.event.0 =
    length_by (λ k. duties_at c.args.event.0 k s.duties) (places_at s.parts.events c.args.event.0) c.places.result.now
    c.places.ensures in
    omega (arith, c.places.type_inv)

pub returns-clause-are : goal.returns-clause-are
returns-clause-are c =
    let s = c.args.self.now in
    c.as_slice.ensures
    ∙ read_by (λ k. duties_at c.args.event.0 k s.duties) (places_at s.parts.events c.args.event.0) c.args.place
    c.places.result.now c.index-places-place.result c.places.ensures c.requires c.index-places-place.is

pub returns-clause-bounded : goal.returns-clause-bounded
returns-clause-bounded c =
    let s = c.args.self.now in
    let within = event_of_place s.parts s.meets s.duties c.facts.ensures.made c.facts.ensures.state c.args.event.0
    c.args.place c.requires in
    subst (λ (ds : List Duty). sum_by (λ d. d.meet.duration) ds ≤ NUMBER) (sym (returns-clause-are c))
    (durations_at s.parts s.meets s.duties c.facts.ensures.made c.facts.ensures.state c.args.event.0 c.args.place
    within)

pub returns-clause-given : goal.returns-clause-given
returns-clause-given c =
    let s = c.args.self.now in
    subst (All (λ d. IfSome d.resource (λ r. r.0 < length s.parts.resources))) (sym (returns-clause-are c))
    (given_at s.parts s.meets s.duties c.facts.ensures.made c.facts.ensures.state c.args.event.0 c.args.place)
