-- Those of the groups, and those named singly.
use Rattle.std.proofs.Common.{◌∙◌, ◌+◌, sym}
use Rattle.xhstt_resolve.proofs.WatchesLemmas.{length_listed_times}
use Rattle.xhstt_resolve.proofs.watching.listed_times.Goals as goal

pub returns-clause-count : goal.returns-clause-count
returns-clause-count c =
    (λ j. c.group_times.ensures.count j + c.named_times.ensures.count j)
    ∙ sym (length_listed_times c.args.lookup.now.instance.now c.args.groups.now c.args.times.now)
