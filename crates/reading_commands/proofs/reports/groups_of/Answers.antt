-- One Id more.
use Rattle.std.proofs.Common.{Bor, map, drop, ◌+◌, ◌∙◌, ap}
use Rattle.std.proofs.lemmas.List.{map-append}
use Rattle.khe_base.specs.declared.texts.Text.{Text}
use Rattle.reading_commands.specs.Report.{group_ids}
use Rattle.reading_commands.proofs.WindowLemmas.{one_id}
use Rattle.reading_commands.proofs.reports.groups_of.Goals as goal

pub loop-preserved : goal.loop-preserved
loop-preserved c =
    let now = λ (x : Bor Text). x.now in
    one_id (map now c.loop.all.items) (map now c.push.new.self.items) c.group-item.result.id.text
    c.as_slice-items.result.now c.loop.index (group_ids (drop (c.loop-group.group-index + 1) c.as_slice-group-items.result.now))
    (group_ids c.args.archive.now.solution_groups) c.loop-test.true
    (ap (map now) c.in_ok-push.ensures.items ∙ map-append now c.loop.all.items _)
    c.loop.invariant
