-- Solutions one by one.
use Rattle.std.proofs.Common.{map}
use Rattle.khe_base.specs.Names.{number_of}
use Rattle.xhstt_references.specs.Directories.{named_by}
use Rattle.xhstt_references.specs.Followed.{followed_in}
use Rattle.xhstt_references.specs.References.{unknown_in_solution}
use Rattle.xhstt_references.proofs.FirstLemmas.{walk_step, walk_end}
use Rattle.xhstt_references.proofs.FollowedLemmas.{made_step, made_end}
use Rattle.xhstt_references.proofs.SolutionsLemmas.{numbers_step, numbers_end}
use Rattle.xhstt_references.proofs.solutions.add_solutions.Goals as goal

pub loop-solution-preserved : goal.loop-solution-preserved
loop-solution-preserved c = record {
  numbers = numbers_step (λ s. number_of s.reference.id c.args.instances.now) _ _ _ _ _ c.loop-solution-test.true
      c.solution-item.is c.in_ok-add_solution.ensures.number c.loop-solution.invariant.numbers;
  followed = made_step (followed_in c.args.made.now c.args.instances.now) _ _ _ _ _ c.loop-solution-test.true
      c.solution-item.is c.in_ok-add_solution.ensures.followed c.loop-solution.invariant.followed;
  first = walk_step (unknown_in_solution c.args.instances.now (map named_by c.args.made.now)) _ _ _ _ _ _
      c.loop-solution-test.true c.solution-item.is c.in_ok-add_solution.ensures.first c.loop-solution.invariant.first;
}

pub returns-clause-numbers : goal.returns-clause-numbers
returns-clause-numbers c = numbers_end (λ s. number_of s.reference.id c.args.instances.now) _ _ _
    c.loop-solution-test.false c.loop-solution.invariant.numbers

pub returns-clause-followed : goal.returns-clause-followed
returns-clause-followed c = made_end (followed_in c.args.made.now c.args.instances.now) _ _ _
    c.loop-solution-test.false c.loop-solution.invariant.followed

pub returns-clause-first : goal.returns-clause-first
returns-clause-first c = walk_end (unknown_in_solution c.args.instances.now (map named_by c.args.made.now)) _ _ _ _
    c.loop-solution-test.false c.loop-solution.invariant.first
