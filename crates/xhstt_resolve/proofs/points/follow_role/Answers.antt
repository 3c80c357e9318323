-- The event resources of the role come in the order of the events, and an event without one has nothing to meet.
use Rattle.std.proofs.Common.{◌∙◌, sym, ap, subst}
use Rattle.std.specs.List.{flat_map, fold}
use Rattle.std.specs.List.Sorted.{IsNonDecreasingBy}
use Rattle.std.proofs.lemmas.Result.{on_ok_weaker}
use Rattle.xhstt_resolve.specs.Followed.{visits_at}
use Rattle.xhstt_resolve.specs.Members.{first_mentions, listed_events}
use Rattle.xhstt_resolve.proofs.RolesLemmas.{absent_role, event_in, places_ordered, roles_visited}
use Rattle.xhstt_resolve.proofs.points.follow_role.Goals as goal

pub returns-then-is_empty : goal.returns-then-is_empty
returns-then-is_empty g c =
    let i = c.args.lookup.now.instance.now in
    let es = first_mentions (listed_events i c.args.groups.now c.args.events.now) in
    sym (ap (fold g.F.Follow.met c.args.into.now)
    (absent_role i c.args.role.now c.args.places.now es c.requires.places (sym c.is_empty.ensures ∙ c.if-is_empty.true)))

pub follow_places-requires : goal.follow_places-requires
follow_places-requires g c =
    subst (IsNonDecreasingBy event_in) (sym c.requires.places)
    (places_ordered c.args.lookup.now.instance.now c.args.role.now)

pub returns : goal.returns
returns g c =
    let i = c.args.lookup.now.instance.now in
    let role = c.args.role.now in
    on_ok_weaker c.follow_places.result
    (λ e. e ∙ ap (fold g.F.Follow.met c.args.into.now)
    ((λ j. flat_map (visits_at (c.requires.places j)) ((c.as_slice.ensures ∙ c.in_ok-events.ensures) j))
    ∙ roles_visited i role (first_mentions (listed_events i c.args.groups.now c.args.events.now))))
    c.follow_places.ensures
