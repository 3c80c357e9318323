use Rattle.std.proofs.Common.{◌≡◌, replicate, sym, subst, ◌∙◌}
use Rattle.khe_base.proofs.ResultLemmas.{if_ok}
use Rattle.timetables.specs.Counts.{no_counts}
use Rattle.set_monitors.specs.LinkCounts.{AreLinked}
use Rattle.set_monitors.proofs.LinkCountLaws.{none_linked}
use Rattle.set_monitors.proofs.links.no_links.Goals as goal

pub returns-clause-linked : goal.returns-clause-linked
returns-clause-linked c =
    let table : c.in_ok-running.table ≡ no_counts c.args.events c.args.times =
    if_ok _ _ (λ v. v ≡ no_counts c.args.events c.args.times) c.in_ok-running.ensures.1 c.open-table.ensures in
    let running : c.in_ok-running.running ≡ replicate c.args.times 0 =
    if_ok _ _ (λ v. v ≡ replicate c.args.times 0) c.in_ok-running.ensures.0 c.none_running-running.ensures in
    subst (λ rows. AreLinked rows c.args.events c.running.inside.items.items 0) (sym table)
    (subst (λ xs. AreLinked (no_counts c.args.events c.args.times) c.args.events xs 0)
    (sym (c.running.view_is ∙ running)) (none_linked c.args.events c.args.times c.requires))
