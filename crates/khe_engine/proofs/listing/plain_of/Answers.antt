-- The lists are those of the slots and of the graph.
use Rattle.std.proofs.Common.{◌≡◌, Ok, subst}
use Rattle.khe_base.proofs.ResultLemmas.{if_ok}
use Rattle.khe_told.specs.Lists.{meets_in, tasks_in}
use Rattle.khe_told.specs.Valid.{AreValid}
use Rattle.monitor_graph.specs.Boards.{grouping_of}
use Rattle.monitor_graph.specs.Listed.{detached_from, groups_from}
use Rattle.khe_engine.proofs.ListedLaws.{listed_state, listed_whole}
use Rattle.khe_engine.proofs.listing.plain_of.Goals as goal

pub returns-clause-state : goal.returns-clause-state
returns-clause-state c =
    let s = c.args.solution.now.slots in
    let b = c.args.graph.now in
    let valid = subst (λ p. AreValid p s) c.requires.parts c.facts-2.ensures in
    let first = if_ok _ _ (λ q. (c.list_meets-meets.result ≡ Ok q.0) × (c.list_tasks-tasks.result ≡ Ok q.1))
    c.in_ok-meets.ensures.0 c.both.ensures in
    let second = if_ok _ _ (λ q. (c.detached-detached.result ≡ Ok q.0) × (c.groups-groups.result ≡ Ok q.1))
    c.in_ok-meets.ensures.1 c.both-2.ensures in
    listed_state c.args.inst.now s b _ valid c.requires.rates c.facts-3.ensures.groups record {
      meets = if_ok _ _ (λ v. v ≡ meets_in s) first.0 c.list_meets-meets.ensures;
      tasks = if_ok _ _ (λ v. v ≡ tasks_in s) first.1 c.list_tasks-tasks.ensures;
      detached = if_ok _ _ (λ v. v ≡ detached_from 0 (grouping_of b).attached) second.0 c.detached-detached.ensures;
      groups = if_ok _ _ (λ v. v ≡ groups_from 0 b.groups) second.1 c.groups-groups.ensures;
    }

pub returns-clause-valid : goal.returns-clause-valid
returns-clause-valid c =
    let s = c.args.solution.now.slots in
    let b = c.args.graph.now in
    let valid = subst (λ p. AreValid p s) c.requires.parts c.facts-2.ensures in
    let first = if_ok _ _ (λ q. (c.list_meets-meets.result ≡ Ok q.0) × (c.list_tasks-tasks.result ≡ Ok q.1))
    c.in_ok-meets.ensures.0 c.both.ensures in
    let second = if_ok _ _ (λ q. (c.detached-detached.result ≡ Ok q.0) × (c.groups-groups.result ≡ Ok q.1))
    c.in_ok-meets.ensures.1 c.both-2.ensures in
    listed_whole c.args.inst.now s b _ c.facts.ensures valid c.requires.rates c.facts-3.ensures.groups record {
      meets = if_ok _ _ (λ v. v ≡ meets_in s) first.0 c.list_meets-meets.ensures;
      tasks = if_ok _ _ (λ v. v ≡ tasks_in s) first.1 c.list_tasks-tasks.ensures;
      detached = if_ok _ _ (λ v. v ≡ detached_from 0 (grouping_of b).attached) second.0 c.detached-detached.ensures;
      groups = if_ok _ _ (λ v. v ≡ groups_from 0 b.groups) second.1 c.groups-groups.ensures;
    }
