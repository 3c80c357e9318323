-- What there is so far, and then what the groups that are left add, is what all add.
use Rattle.std.proofs.Common.{◌≡◌, ◌++◌, None, drop, map}
use Rattle.std.specs.List.{filter_map, flat_map}
use Rattle.khe_base.specs.Names.{number_of}
use Rattle.xhstt_references.specs.Directories.{named_by}
use Rattle.xhstt_references.specs.First.{first_of}
use Rattle.xhstt_references.specs.Followed.{followed_in}
use Rattle.xhstt_references.specs.References.{unknown_in_solution, solutions_of}
use Rattle.xhstt_references.proofs.solutions.instances_of_solutions.Given as goal

abbrev pub invariant-loop-group : goal.invariant-loop-group
invariant-loop-group l =
    let rest = flat_map (λ g. g.solutions) (drop l.group-index l.group-items) in
    let numbers = filter_map (λ s. number_of s.reference.id l.instances) in
    let unknown = flat_map (unknown_in_solution l.instances (map named_by l.made)) in
    record {
      numbers : l.numbers ++ numbers rest ≡ numbers (solutions_of l.archive);
      followed : l.followed ++ map (followed_in l.made l.instances) rest
          ≡ map (followed_in l.made l.instances) (solutions_of l.archive);
      first : first_of l.first.at (unknown rest) ≡ first_of None (unknown (solutions_of l.archive));
    }
