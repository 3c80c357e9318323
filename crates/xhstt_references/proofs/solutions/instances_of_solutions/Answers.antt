-- Groups one by one; where nothing was noted, each solution has a number.
use Rattle.std.proofs.Common.{◌≡◌, ◌∙◌, ◌++◌, ap, sym, ℕ, List, [], map, length, None, Some, Option, arith}
use Rattle.std.specs.List.{filter_map, flat_map}
use Rattle.std.proofs.lemmas.List.{length-map}
use Rattle.std.proofs.lemmas.Simd.{map-map}
use Rattle.khe_base.specs.Names.{number_of}
use Rattle.xhstt_references.specs.Directories.{directory_of, named_by, named_in, part_names}
use Rattle.xhstt_references.specs.Faults.{at_first}
use Rattle.xhstt_references.specs.First.{first_of}
use Rattle.xhstt_references.specs.Followed.{followed_in}
use Rattle.xhstt_references.specs.Ids.{instance_ids}
use Rattle.xhstt_references.specs.declared.part_names.PartNames.{PartNames}
use Rattle.xhstt_references.specs.References.{unknown_in_solution, unknown_in_solutions, solutions_of}
use Rattle.fault_tables.specs.declared.faults.TheConstants.{UNKNOWN_REFERENCE}
use Rattle.xhstt_shape.specs.declared.records.Archive.{Archive}
use Rattle.xhstt_references.proofs.FollowedLemmas.{groups_made_step, groups_made_end}
use Rattle.xhstt_references.proofs.SolutionsLemmas.{groups_numbers_step, groups_numbers_end, groups_places_step}
use Rattle.xhstt_references.proofs.SolutionsLemmas.{groups_places_end}
use Rattle.xhstt_references.proofs.ToldLemmas.{passed, passed_on, refused}
use Rattle.xhstt_references.proofs.UnknownLemmas.{all_numbered, solutions_named}
use Rattle.xhstt_references.proofs.solutions.instances_of_solutions.Goals as goal

pub loop-group-init : goal.loop-group-init
loop-group-init c = record {
  numbers = λ j. c.new-numbers.ensures j ++ filter_map (λ s. number_of s.reference.id c.args.instances.now)
      (flat_map (λ g. g.solutions) (c.as_slice-group-items.ensures j));
  followed = λ j. c.new-followed.ensures j ++ map (followed_in c.args.made.now c.args.instances.now)
      (flat_map (λ g. g.solutions) (c.as_slice-group-items.ensures j));
  first = λ j. first_of (c.new-first.ensures j)
      (flat_map (unknown_in_solution c.args.instances.now (map named_by c.args.made.now))
      (flat_map (λ g. g.solutions) (c.as_slice-group-items.ensures j)));
}

pub loop-group-preserved : goal.loop-group-preserved
loop-group-preserved c =
    let unknown = unknown_in_solution c.args.instances.now (map named_by c.args.made.now) in
    record {
      numbers =
          groups_numbers_step (λ g. g.solutions) _ _ (λ s. number_of s.reference.id c.args.instances.now) _ _ _
          c.loop-group-test.true c.group-item.is
          (c.in_ok-add_solutions.ensures.numbers ∙ ap (λ ss. c.loop-group.numbers
          ++ filter_map (λ s. number_of s.reference.id c.args.instances.now) ss) c.as_slice-solutions.ensures)
          c.loop-group.invariant.numbers;
      followed =
          groups_made_step (λ g. g.solutions) _ _ (followed_in c.args.made.now c.args.instances.now) _ _ _
          c.loop-group-test.true c.group-item.is
          (c.in_ok-add_solutions.ensures.followed ∙ ap (λ ss. c.loop-group.followed
          ++ map (followed_in c.args.made.now c.args.instances.now) ss) c.as_slice-solutions.ensures)
          c.loop-group.invariant.followed;
      first =
          groups_places_step (λ g. g.solutions) _ _ unknown _ _ _ c.loop-group-test.true c.group-item.is
          (c.in_ok-add_solutions.ensures.first ∙ ap (λ ss. first_of c.loop-group.first.at (flat_map unknown ss))
          c.as_slice-solutions.ensures)
          c.loop-group.invariant.first;
    }

pub add_solutions-requires : goal.add_solutions-requires
add_solutions-requires c =
    let instances = c.args.archive.now.instances in
    let named : length c.args.instances.now ≡ length instances =
    ap length c.requires.instances ∙ length-map instances (λ i. i.id.text) in
    record {
      few = omega (arith, named, c.requires.few);
      same = ap length c.requires.made ∙ length-map instances part_names ∙ sym named;
    }

-- what was noted is the first of all unknown references of the solutions
first_is : (archive : Archive) (instances : List (List ℕ)) (made : List PartNames) (first : Option ℕ)
    → instances ≡ instance_ids archive → made ≡ map part_names archive.instances
    → first ≡ first_of None (flat_map (unknown_in_solution instances (map named_by made)) (solutions_of archive))
    → first ≡ first_of None (unknown_in_solutions archive)
first_is archive instances made first named listed is =
    let same : map named_by made ≡ map named_in (map directory_of archive.instances) =
    ap (map named_by) listed ∙ map-map named_by part_names archive.instances
    ∙ sym (map-map named_in directory_of archive.instances) in
    is
    ∙ (λ j. first_of None (flat_map (unknown_in_solution (named j) (same j)) (solutions_of archive)))
    ∙ ap (first_of None) (solutions_named (instance_ids archive) (map directory_of archive.instances)
    (solutions_of archive))

pub returns : goal.returns
returns c =
    let archive = c.args.archive.now in
    let unknown = unknown_in_solution c.args.instances.now (map named_by c.args.made.now) in
    let end = groups_places_end (λ g. g.solutions) _ _ unknown _ c.loop-group-test.false c.loop-group.invariant.first in
    let none : unknown_in_solutions archive ≡ [] =
    passed _ _ _ (first_is archive _ _ _ c.requires.instances c.requires.made end) c.in_ok-fault.ensures
    in
    let numbers : c.loop-group.numbers ≡ filter_map (λ s. number_of s.reference.id (instance_ids archive))
    (solutions_of archive) =
    groups_numbers_end (λ g. g.solutions) _ _ (λ s. number_of s.reference.id c.args.instances.now) _
    c.loop-group-test.false c.loop-group.invariant.numbers
    ∙ (λ j. filter_map (λ s. number_of s.reference.id (c.requires.instances j)) (solutions_of archive))
    in
    record {
      numbers = ap (map Some) numbers ∙ all_numbered (instance_ids archive) (map directory_of archive.instances)
          (solutions_of archive) none;
      followed =
          groups_made_end (λ g. g.solutions) _ _ (followed_in c.args.made.now c.args.instances.now) _
          c.loop-group-test.false c.loop-group.invariant.followed
          ∙ (λ j. map (followed_in (c.requires.made j) (c.requires.instances j)) (solutions_of archive));
      told = ap (λ xs. at_first UNKNOWN_REFERENCE xs None) none;
    }

pub returns-in_err-fault-clause-told : goal.returns-in_err-fault-clause-told
returns-in_err-fault-clause-told c =
    let archive = c.args.archive.now in
    let unknown = unknown_in_solution c.args.instances.now (map named_by c.args.made.now) in
    let end = groups_places_end (λ g. g.solutions) _ _ unknown _ c.loop-group-test.false c.loop-group.invariant.first in
    let noted = first_is archive _ _ _ c.requires.instances c.requires.made end in
    passed_on _ _ _ c.from_residual-in_err-fault.ensures.1
    (refused UNKNOWN_REFERENCE _ (unknown_in_solutions archive) None _ noted c.in_err-fault.ensures)
