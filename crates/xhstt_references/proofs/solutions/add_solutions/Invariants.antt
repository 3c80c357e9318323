-- What there is so far, and then what the solutions that are left add, is what all add.
use Rattle.std.proofs.Common.{◌≡◌, ◌++◌, drop, map}
use Rattle.std.specs.List.{filter_map, flat_map}
use Rattle.khe_base.specs.Names.{number_of}
use Rattle.xhstt_references.specs.Directories.{named_by}
use Rattle.xhstt_references.specs.First.{first_of}
use Rattle.xhstt_references.specs.Followed.{followed_in}
use Rattle.xhstt_references.specs.References.{unknown_in_solution}
use Rattle.xhstt_references.proofs.solutions.add_solutions.Given as goal

abbrev pub invariant-loop-solution : goal.invariant-loop-solution
invariant-loop-solution l =
    let rest = drop l.solution-index l.solutions in
    let numbers = filter_map (λ s. number_of s.reference.id l.instances) in
    let unknown = flat_map (unknown_in_solution l.instances (map named_by l.made)) in
    record {
      numbers : l.numbers ++ numbers rest ≡ l.fn.numbers ++ numbers l.solutions;
      followed : l.followed ++ map (followed_in l.made l.instances) rest
          ≡ l.fn.followed ++ map (followed_in l.made l.instances) l.solutions;
      first : first_of l.first.at (unknown rest) ≡ first_of l.fn.first.at (unknown l.solutions);
    }
