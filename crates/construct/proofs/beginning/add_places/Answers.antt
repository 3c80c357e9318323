-- One more place.
use Rattle.std.proofs.Common.{◌≡◌, ◌<◌, ◌++◌, ◌∷◌, ◌∙◌, [], length, map, get_or, sym, ap, arith}
use Rattle.std.proofs.lemmas.List.{length-map}
use Rattle.khe_base.specs.declared.numbers.MeetId.{MeetId}
use Rattle.khe_instance.specs.declared.parts.Place.{Place}
use Rattle.khe_instance.specs.declared.states.Task.{Task}
use Rattle.construct.proofs.BeginLaws.{fixed_at, place_next, places_end}
use Rattle.construct.proofs.beginning.add_places.Goals as goal

pub loop-place-preserved : goal.loop-place-preserved
loop-place-preserved c = λ m same.
    let places = c.args.info.now.places in
    let k = c.loop-place.place in
    let own = c.index-places-place.result in
    let e = c.as_slice-places.ensures in
    let n = ap length e in
    let long = length-map places (λ (y : Place). y.fixed) in
    let l : k < length places = omega (arith, n, c.loop-place-test.true) in
    let is : own ≡ get_or places k own = c.index-places-place.is ∙ ap (λ xs. get_or xs k own) e in
    let read = get_or c.as_slice-places.result.now k own in
    let here : MeetId → Task = λ x. record { task = record { meet = x; place = k }; resource = read.fixed } in
    place_next _ _ _ m k (map (λ (y : Place). y.fixed) places) read.fixed (omega (arith, l, long))
    (ap (λ (y : Place). y.fixed) (sym c.index-places-place.is) ∙ fixed_at places k own l is)
    (c.in_ok-push.ensures.ok ∙ ap (λ x. c.loop-place.tasks ++ here x ∷ []) (sym same)) (c.loop-place.invariant m same)

pub returns : goal.returns
returns c = λ m same.
    let places = c.args.info.now.places in
    let n = ap length c.as_slice-places.ensures in
    let long = length-map places (λ (y : Place). y.fixed) in
    places_end _ _ m c.loop-place.place (map (λ (y : Place). y.fixed) places)
    (omega (arith, n, long, c.loop-place-test.false)) (c.loop-place.invariant m same)
