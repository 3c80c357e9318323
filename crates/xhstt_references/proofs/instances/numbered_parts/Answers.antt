-- The names of each sort, and the places of all that are repeated.
use Rattle.std.proofs.Common.{◌≡◌, [], ◌∙◌, ap, sym, map, None, Ok, OnOk, Result}
use Rattle.khe_base.proofs.ResultLemmas.{if_ok}
use Rattle.xhstt_references.specs.Ids.{time_group_ids, week_ids, day_ids, time_ids, resource_type_ids}
use Rattle.xhstt_references.specs.Ids.{resource_group_ids, resource_ids, event_group_ids, course_ids, event_ids}
use Rattle.xhstt_references.specs.First.{first_of}
use Rattle.xhstt_references.specs.References.{repeated}
use Rattle.xhstt_references.proofs.FirstLemmas.{first_of_eight}
use Rattle.xhstt_references.proofs.RepeatsLemmas.{noted_along}
use Rattle.xhstt_references.proofs.instances.numbered_parts.Goals as goal
use Rattle.khe_base.proofs.ListLemmas.{none_of}

-- what holds after a call that gave this value
on_ok : {A E : Type 0} (r : Result A E) (v : A) (P : Type 0) → r ≡ Ok v → OnOk r P → P
on_ok r v P e h = if_ok r v (λ _. P) e h

pub returns : goal.returns
returns c =
    let i = c.args.instance.now in
    let times = c.time_names-times in
    let resources = c.resource_names-resources in
    let events = c.event_names-events in
    let constraints = c.names_of-constraints in
    let made = if_ok c.both.result _ (λ p. (times.result ≡ Ok p.0) × (resources.result ≡ Ok p.1))
    c.in_ok-times.ensures.0 c.both.ensures in
    let others = if_ok c.both-2.result _ (λ p. (events.result ≡ Ok p.0) × (constraints.result ≡ Ok p.1))
    c.in_ok-times.ensures.1 c.both-2.ensures in
    let r1 = repeated (map (λ g. g.id) i.time_groups) in
    let r2 = repeated (map (λ t. t.id) i.times) in
    let r3 = repeated (map (λ t. t.id) i.resource_types) in
    let r4 = repeated (map (λ g. g.id) i.resource_groups) in
    let r5 = repeated (map (λ r. r.id) i.resources) in
    let r6 = repeated (map (λ g. g.id) i.event_groups) in
    let r7 = repeated (map (λ e. e.id) i.events) in
    let r8 = repeated (map (λ k. k.id) i.constraints) in (
      λ none.
          let p1 = none_of r1 _ none in
          let p2 = none_of r2 _ p1.1 in
          let p3 = none_of r3 _ p2.1 in
          let p4 = none_of r4 _ p3.1 in
          let p5 = none_of r5 _ p4.1 in
          let p6 = none_of r6 _ p5.1 in
          let p7 = none_of r7 r8 p6.1 in
          λ j. record {
            time_groups = if_ok _ _ (λ n. r1 ≡ [] → n.groups ≡ time_group_ids i) made.0 times.ensures.groups p1.0 j;
            weeks = if_ok _ _ (λ n. r1 ≡ [] → n.weeks ≡ week_ids i) made.0 times.ensures.weeks p1.0 j;
            days = if_ok _ _ (λ n. r1 ≡ [] → n.days ≡ day_ids i) made.0 times.ensures.days p1.0 j;
            times = if_ok _ _ (λ n. r2 ≡ [] → n.times ≡ time_ids i) made.0 times.ensures.times p2.0 j;
            resource_types = if_ok _ _ (λ n. r3 ≡ [] → n.types ≡ resource_type_ids i) made.1 resources.ensures.types
                p3.0 j;
            resource_groups = if_ok _ _ (λ n. r4 ≡ [] → n.groups ≡ resource_group_ids i) made.1 resources.ensures.groups
                p4.0 j;
            resources = if_ok _ _ (λ n. r5 ≡ [] → n.resources ≡ resource_ids i) made.1 resources.ensures.resources p5.0
                j;
            event_groups = if_ok _ _ (λ n. r6 ≡ [] → n.groups ≡ event_group_ids i) others.0 events.ensures.groups p6.0
                j;
            courses = if_ok _ _ (λ n. r6 ≡ [] → n.courses ≡ course_ids i) others.0 events.ensures.courses p6.0 j;
            events = if_ok _ _ (λ n. r7 ≡ [] → n.events ≡ event_ids i) others.0 events.ensures.events p7.0 j;
          },
      noted_along (λ k. k.id) _ _ _ _ c.as_slice.ensures (on_ok _ _ _ others.1 constraints.ensures.first)
          ∙ ap (λ f. first_of f r8)
          (on_ok _ _ _ others.0 events.ensures.first
          ∙ ap (λ f. first_of (first_of f r6) r7)
          (on_ok _ _ _ made.1 resources.ensures.first
          ∙ ap (λ f. first_of (first_of (first_of f r3) r4) r5)
          (on_ok _ _ _ made.0 times.ensures.first ∙ ap (λ f. first_of (first_of f r1) r2) c.new-first.ensures)))
          ∙ sym (first_of_eight None r1 r2 r3 r4 r5 r6 r7 r8),
    )
