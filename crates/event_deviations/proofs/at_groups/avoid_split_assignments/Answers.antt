use Rattle.std.proofs.Common.{◌∙◌, ap, ◌-◌, ℕ, length}
use Rattle.std.proofs.lemmas.List.{take_all}
use Rattle.event_deviations.specs.Groups.{has_duty_among}
use Rattle.event_deviations.proofs.MarkLemmas.{marked_count-by}
use Rattle.event_deviations.proofs.at_groups.avoid_split_assignments.Goals as goal

pub returns-clause-exact : goal.returns-clause-exact
returns-clause-exact c =
    let infos = c.args.index.now.parts.events in
    let ds = c.args.index.now.duties in
    let es = c.args.events.now in
    let old = c.loop-event.invariant in
    let all = take_all c.loop-event.event-index es c.loop-event-test.false in
    c.saturating_sub.ensures
    ∙ ap (λ (n : ℕ). n - 1)
    (c.count.ensures
    ∙ marked_count-by c.loop-event.seen (has_duty_among infos ds c.args.role.now es)
    (length c.args.index.now.parts.resources) (old.long ∙ c.requires.seen)
    (λ r. old.marked r ∙ ap (λ l. has_duty_among infos ds c.args.role.now l r) all))
