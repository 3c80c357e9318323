-- What is listed so far, and what the rest will give, is the whole.
use Rattle.std.proofs.Common.{◌≡◌, ◌++◌, drop, map}
use Rattle.monitor_graph.specs.Listed.{detached_from}
use Rattle.monitor_graph.specs.declared.lines.Line.{Line}
use Rattle.monitor_graph.proofs.listing.detached_of.Given as goal

abbrev pub invariant-loop-place : goal.invariant-loop-place
invariant-loop-place l =
    l.detached ++ detached_from l.place (map (λ (x : Line). x.attached) (drop l.place l.lines))
    ≡ detached_from 0 (map (λ (x : Line). x.attached) l.lines)
