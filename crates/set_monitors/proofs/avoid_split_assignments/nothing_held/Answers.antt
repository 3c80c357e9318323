use Rattle.std.proofs.Common.{◌≡◌, ◌∙◌, length, sym, ap, subst}
use Rattle.std.specs.Prelude.{replicate}
use Rattle.khe_base.proofs.ResultLemmas.{if_ok}
use Rattle.set_monitors.specs.AvoidSplitAssignments.{AreCandidates}
use Rattle.set_monitors.proofs.HolderTurns.{shared_none}
use Rattle.set_monitors.proofs.avoid_split_assignments.nothing_held.Goals as goal

pub returns : goal.returns
returns c =
    let p = c.args.inst.now in
    let m = c.args.monitor in
    let numbers = c.in_ok-counts.candidates in
    let row = c.in_ok-counts.counts.items in
    let same = c.in_ok-counts.ensures.ok.1 in
    let are : AreCandidates p m numbers = subst (AreCandidates p m) (sym same) c.in_ok-candidates.ensures in
    let zeros : row ≡ replicate c.len.result 0 = if_ok c.no_tasks-counts.result c.in_ok-counts.counts
    (λ v. v.items ≡ replicate c.len.result 0) c.in_ok-counts.ensures.ok.0 c.no_tasks-counts.ensures in
    shared_none p m numbers row c.requires.monitor c.requires.served are
    (zeros ∙ ap (λ n. replicate n 0) (c.len.ensures ∙ ap length (sym same)))
