-- An instance with few tasks has few places in each event.
use Rattle.xhstt_resolve.proofs.FewLemmas.{few-places}
use Rattle.xhstt_resolve.proofs.instances.parts_within.Goals as goal

pub roles_of-requires-clause-places : goal.roles_of-requires-clause-places
roles_of-requires-clause-places c =
    few-places c.args.lookup.now.instance.now c.requires.formed c.in_ok-sums_within.ensures.tasks

pub parts_by_roles-made-requires-clause-places : goal.parts_by_roles-made-requires-clause-places
parts_by_roles-made-requires-clause-places c =
    few-places c.args.lookup.now.instance.now c.requires.formed c.in_ok-sums_within.ensures.tasks
