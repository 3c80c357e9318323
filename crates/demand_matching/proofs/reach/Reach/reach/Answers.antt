use Rattle.std.proofs.Common.{◌<◌, length, sym, ap, ◌∙◌, arith}
use Rattle.khe_base.specs.IdSet.{has_member}
use Rattle.demand_matching.proofs.Reaching.{reaches_none, reaches_more, member_same}
use Rattle.demand_matching.proofs.reach.Reach.reach.Goals as goal

pub insert-requires : goal.insert-requires
insert-requires c = omega (arith, c.requires.reach.size)

pub returns-then-has : goal.returns-then-has
returns-then-has c = record {
  reaches = reaches_none c.args.table.now c.args.self.now c.requires.reach;
  reached = sym c.has.ensures.below ∙ c.if-has.true;
}

pub returns : goal.returns
returns c =
    let size : c.args.demand < length c.args.self.now.marks = omega (arith, c.requires.reach.size) in
    record {
      reaches = reaches_more c.args.table.now c.args.self.now _ c.args.demand c.requires.reach c.requires.demand
          c.requires.present c.requires.all (sym c.has.ensures.below ∙ c.if-has.false) c.in_ok-push.ensures.ok
          c.insert.ensures;
      reached = ap (λ v. has_member v c.args.demand) c.insert.ensures
          ∙ member_same c.args.self.now.marks c.args.demand size;
    }
