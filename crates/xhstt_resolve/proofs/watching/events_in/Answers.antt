-- The table is that of the instance.
use Rattle.std.proofs.Common.{◌∙◌, ap, length}
use Rattle.xhstt_resolve.proofs.watching.events_in.Goals as goal

pub returns : goal.returns
returns c = ap length c.members.ensures ∙ ap (λ f. length (f c.args.group.now.id.text)) c.requires.tables.events.members
