-- One line more.
use Rattle.std.proofs.Common.{◌<◌, ◌≤◌, List, [], ◌∷◌, ◌++◌, length, length-append, arith}
use Rattle.std.proofs.lemmas.List.Elements.{All-push}
use Rattle.engine_tests.specs.HandGraphs.{AreFresh}
use Rattle.khe_base.specs.declared.limits.TheConstants.{MONITORS}
use Rattle.monitor_graph.specs.Opened.{IsFresh}
use Rattle.monitor_graph.specs.declared.lines.Line.{Line}

pub fresh_push : (lines : List Line) (x : Line) → AreFresh lines → length lines < MONITORS → IsFresh x
    → AreFresh (lines ++ x ∷ [])
fresh_push lines x h l f = record {
  few = (let e = length-append lines (x ∷ []) in omega (arith, e, l));
  each = All-push IsFresh lines x h.each f;
}
