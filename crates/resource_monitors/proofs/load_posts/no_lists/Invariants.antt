use Rattle.std.proofs.Common.{◌≡◌, replicate, []}
use Rattle.resource_monitors.proofs.load_posts.no_lists.Given as goal

abbrev pub invariant-loop : goal.invariant-loop
invariant-loop l = l.lists.items ≡ replicate l.counter []
