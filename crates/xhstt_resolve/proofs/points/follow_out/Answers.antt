-- What each form is followed out into, and how much that is at most.
use Rattle.std.proofs.Common.{◌∙◌, ◌≤◌, ◌^◌, sym, ap, List, ℕ, length, arith}
use Rattle.std.specs.List.{fold}
use Rattle.std.proofs.lemmas.List.{length-map}
use Rattle.std.proofs.lemmas.Result.{on_ok_weaker}
use Rattle.khe_base.specs.declared.limits.TheConstants.{EVENTS, RESOURCES}
use Rattle.xhstt_references.specs.Ids.{event_group_ids}
use Rattle.xhstt_resolve.specs.Followed.{event_visits, pair_visits}
use Rattle.xhstt_resolve.specs.Members.{events_in, first_mentions, listed_events, listed_resources, numbers_of}
use Rattle.xhstt_resolve.proofs.BoundsLemmas.{events_bounded, groups_bounded, pairs_bounded, resources_bounded}
use Rattle.xhstt_resolve.proofs.MentionsLemmas.{events_few}
use Rattle.xhstt_resolve.proofs.FollowedLemmas.{followed_events, followed_pairs}
use Rattle.xhstt_resolve.proofs.points.follow_out.Goals as goal

pub returns-in-Events-clause-met : goal.returns-in-Events-clause-met
returns-in-Events-clause-met g c =
    let i = c.args.lookup.now.instance.now in
    let all = (λ j. event_visits i (c.role_of-role.ensures j)
    (first_mentions (listed_events i (c.as_slice.ensures j) (c.as_slice-in-Events.ensures j))))
    ∙ sym (followed_events i c.args.constraint.now c.in-Events.event_groups c.in-Events.events c.in-Events.is) in
    on_ok_weaker c.follow_events.result (λ e. e ∙ ap (fold g.F.Follow.met c.args.into.now) all) c.follow_events.ensures

pub returns-in-Events-clause-few : goal.returns-in-Events-clause-few
returns-in-Events-clause-few g c =
    let own = events_bounded c.args.lookup.now.instance.now c.args.constraint.now c.in-Events.event_groups
    c.in-Events.events c.in-Events.is c.requires.places
    (events_few c.args.lookup.now c.requires.lookup c.in-Events.event_groups c.in-Events.events) in
    on_ok_weaker c.follow_events.result (λ _. omega (arith, own.few)) c.follow_events.ensures

pub returns-in-Events-clause-small : goal.returns-in-Events-clause-small
returns-in-Events-clause-small g c =
    let own = events_bounded c.args.lookup.now.instance.now c.args.constraint.now c.in-Events.event_groups
    c.in-Events.events c.in-Events.is c.requires.places
    (events_few c.args.lookup.now c.requires.lookup c.in-Events.event_groups c.in-Events.events) in
    on_ok_weaker c.follow_events.result (λ _. omega (arith, own.small)) c.follow_events.ensures

pub returns-in_ok-groups-in-Groups-clause-small : goal.returns-in_ok-groups-in-Groups-clause-small
returns-in_ok-groups-in-Groups-clause-small g c =
    let i = c.args.lookup.now.instance.now in
    let table = c.requires.lookup.tables.events in
    let groups = c.in_ok-groups-in-Groups.ensures
    ∙ ap (λ gs. first_mentions (numbers_of (event_group_ids i) gs)) c.as_slice-in-Groups.ensures in
    let few : length (first_mentions (numbers_of (event_group_ids i) c.in-Groups.event_groups)) ≤ 2 ^ 64 =
    omega (arith, ap length groups, ap length c.as_slice-in-Groups-2.ensures) in
    let members : (id : List ℕ) → length (events_in i id) ≤ EVENTS =
    λ id. omega (
      arith,
      table.table.bounded id,
      ap (λ f. length (f id)) table.members,
      ap length table.names,
      length-map i.events (λ e. e.id.text),
      c.requires.lookup.counts.events,
    )
    in
    let own = groups_bounded i c.args.constraint.now c.in-Groups.event_groups c.in-Groups.is members few in
    on_ok_weaker c.follow_groups.result (λ _. omega (arith, own.small)) c.follow_groups.ensures

pub returns-in-Pairs-clause-met : goal.returns-in-Pairs-clause-met
returns-in-Pairs-clause-met g c =
    let i = c.args.lookup.now.instance.now in
    let all = ap (pair_visits i) c.as_slice-in-Pairs.ensures
    ∙ sym (followed_pairs i c.args.constraint.now c.in-Pairs.pairs c.in-Pairs.is) in
    on_ok_weaker c.follow_pairs.result (λ e. e ∙ ap (fold g.F.Follow.met c.args.into.now) all) c.follow_pairs.ensures

pub returns-in-Pairs-clause-few : goal.returns-in-Pairs-clause-few
returns-in-Pairs-clause-few g c =
    let few : length c.in-Pairs.pairs ≤ 2 ^ 64 = omega (arith, ap length c.as_slice-in-Pairs.ensures) in
    let own = pairs_bounded c.args.lookup.now.instance.now c.args.constraint.now c.in-Pairs.pairs c.in-Pairs.is few in
    on_ok_weaker c.follow_pairs.result (λ _. omega (arith, own.few)) c.follow_pairs.ensures

pub returns-in-Pairs-clause-small : goal.returns-in-Pairs-clause-small
returns-in-Pairs-clause-small g c =
    let few : length c.in-Pairs.pairs ≤ 2 ^ 64 = omega (arith, ap length c.as_slice-in-Pairs.ensures) in
    let own = pairs_bounded c.args.lookup.now.instance.now c.args.constraint.now c.in-Pairs.pairs c.in-Pairs.is few in
    on_ok_weaker c.follow_pairs.result (λ _. omega (arith, own.small)) c.follow_pairs.ensures

pub returns-in_ok-resources-in-Resources-clause-small : goal.returns-in_ok-resources-in-Resources-clause-small
returns-in_ok-resources-in-Resources-clause-small g c =
    let i = c.args.lookup.now.instance.now in
    let groups = c.in-Resources.resource_groups in
    let singles = c.in-Resources.resources in
    let numbers = c.in_ok-resources-in-Resources.ensures.numbers
    ∙ (λ j. first_mentions (listed_resources i (c.as_slice-in-Resources.ensures j)
    (c.as_slice-in-Resources-2.ensures j))) in
    let few : length (first_mentions (listed_resources i groups singles)) ≤ RESOURCES =
    omega (arith, c.in_ok-resources-in-Resources.ensures.few, ap length numbers) in
    let own = resources_bounded i c.args.constraint.now groups singles RESOURCES c.in-Resources.is few in
    on_ok_weaker c.follow_resources.result
    (λ _. omega (arith, own.small, c.watched_times-watches.ensures.count, c.watched_times-watches.ensures.small))
    c.follow_resources.ensures
