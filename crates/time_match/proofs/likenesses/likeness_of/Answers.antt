use Rattle.std.proofs.Common.{refl}
use Rattle.time_match.proofs.LikenessLaws.{read_is, unread}
use Rattle.time_match.proofs.likenesses.likeness_of.Goals as goal

pub returns-in-Some-clause-is : goal.returns-in-Some-clause-is
returns-in-Some-clause-is c =
    read_is c.args.inst.now c.args.solution.now.slots c.args.task c.in-Some.own c.worth_of.result c.is_single.result
    c.args.numbers.now c.requires c.in-Some.ensures c.worth_of.ensures c.is_single.ensures

pub returns-in-None-clause-is : goal.returns-in-None-clause-is
returns-in-None-clause-is c = unread c.args.inst.now c.args.solution.now.slots _ refl
