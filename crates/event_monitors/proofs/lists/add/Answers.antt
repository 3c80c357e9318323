use Rattle.std.proofs.Common.{◌<◌, sym, subst}
use Rattle.std.specs.Prelude.{All}
use Rattle.std.proofs.lemmas.Option.{slice_get_within}
use Rattle.std.proofs.lemmas.Result.{on_ok_weaker}
use Rattle.event_monitors.specs.Lists.{HasPair}
use Rattle.event_monitors.specs.Posts.{names}
use Rattle.event_monitors.specs.Turns.{has}
use Rattle.event_monitors.proofs.Listing.{added_as, members_named, members_once, members_within, pair_there}
use Rattle.event_monitors.proofs.lists.add.Goals as goal

pub push_all-requires-clause-within : goal.push_all-requires-clause-within
push_all-requires-clause-within c =
    subst (λ n. All (λ e. e < n) c.members.result.now) (sym c.requires.rows)
    (members_within c.args.inst.now c.facts.ensures c.args.monitor c.requires.monitor c.in-EventGroup.group
    c.members.result.now c.in-EventGroup.is c.members.ensures)

pub push_all-requires-clause-once : goal.push_all-requires-clause-once
push_all-requires-clause-once c =
    members_once c.args.inst.now c.facts.ensures c.args.monitor c.requires.monitor c.in-EventGroup.group
    c.members.result.now c.in-EventGroup.is c.members.ensures

pub constraint-requires : goal.constraint-requires
constraint-requires c = slice_get_within c.args.inst.now.constraints c.args.monitor.constraint c.requires.monitor.0
    c.requires.monitor.1

pub add_pair-requires : goal.add_pair-requires
add_pair-requires c =
    subst (HasPair c.constraint.result.now.rule c.in-EventPair.pair) (sym c.requires.rows)
    (pair_there c.args.inst.now c.facts.ensures c.args.monitor c.requires.monitor c.constraint.result.now
    c.in-EventPair.pair c.constraint.ensures c.in-EventPair.is)

pub returns-in-EventGroup : goal.returns-in-EventGroup
returns-in-EventGroup c =
    let p = c.args.inst.now in
    let old = c.args.lists.now in
    let members = c.members.result.now in
    on_ok_weaker c.push_all.result
    (added_as c.args.place (has members) (λ e. names p e c.args.monitor) old c.push_all.new.lists
    (λ e l. members_named p c.facts.ensures c.args.monitor c.requires.monitor c.in-EventGroup.group members
    c.in-EventGroup.is c.members.ensures e (subst (λ n. e < n) c.requires.rows l)))
    c.push_all.ensures
