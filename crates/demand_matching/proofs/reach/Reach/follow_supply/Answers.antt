use Rattle.std.proofs.Common.{sym, ap, ◌∙◌, arith}
use Rattle.khe_base.specs.IdSet.{has_member}
use Rattle.demand_matching.specs.Table.{owner_of}
use Rattle.demand_matching.proofs.Duality.{same_some}
use Rattle.demand_matching.proofs.Fences.{owner_below}
use Rattle.demand_matching.proofs.Reaching.{owner_is, owner_there, in_all_next, reaches_none}
use Rattle.demand_matching.proofs.reach.Reach.follow_supply.Goals as goal
use Rattle.khe_base.proofs.IdSetLemmas.{member_below}

pub reach-requires-clause-demand : goal.reach-requires-clause-demand
reach-requires-clause-demand c =
    let owner = sym (owner_is c.args.table.now c.args.supply c.index.result.now c.requires.table c.requires.supply
    c.index.ensures) ∙ c.in-Some.is in
    owner_below c.args.table.now c.args.supply c.in-Some.owner c.requires.table owner

pub reach-requires-clause-present : goal.reach-requires-clause-present
reach-requires-clause-present c =
    let owner = sym (owner_is c.args.table.now c.args.supply c.index.result.now c.requires.table c.requires.supply
    c.index.ensures) ∙ c.in-Some.is in
    owner_there c.args.table.now c.args.supply c.in-Some.owner c.requires.table owner

pub reach-requires-clause-all : goal.reach-requires-clause-all
reach-requires-clause-all c =
    let owner = sym (owner_is c.args.table.now c.args.supply c.index.result.now c.requires.table c.requires.supply
    c.index.ensures) ∙ c.in-Some.is in
    in_all_next c.args.table.now c.args.from c.in-Some.owner c.args.supply c.requires.table
    (omega (arith, member_below c.args.self.now.marks c.args.from c.requires.from, c.requires.reach.size))
    (c.requires.reach.all c.args.from c.requires.from) c.requires.allowed owner

pub returns-in_default : goal.returns-in_default
returns-in_default c =
    let none = sym (owner_is c.args.table.now c.args.supply c.index.result.now c.requires.table c.requires.supply
    c.index.ensures) ∙ c.in_default.is in
    record { reaches = reaches_none c.args.table.now c.args.self.now c.requires.reach; reached = λ by h. absurd cc }

pub returns : goal.returns
returns c =
    let owner = sym (owner_is c.args.table.now c.args.supply c.index.result.now c.requires.table c.requires.supply
    c.index.ensures) ∙ c.in-Some.is in
    record {
      reaches = c.in_ok-reach.ensures.reaches;
      reached = λ by h. ap (has_member c.reach.new.self.marks)
          (same_some by c.in-Some.owner (owner_of c.args.table.now c.args.supply) h owner)
          ∙ c.in_ok-reach.ensures.reached;
    }
