-- The archive that is made has no fault of names and references.
use Rattle.std.proofs.Common.{ℕ, ◌≡◌, Option, None, List, [], ◌∷◌, map, flat_map, refl, ap, ◌∙◌}
use Rattle.std.specs.Prelude.{codes}
use Rattle.std.proofs.lemmas.List.{append-nil}
use Rattle.xhstt_references.specs.Directories.{directory_of}
use Rattle.xhstt_references.specs.Faults.{at_first, fault_of_ids, fault_of_instance, fault_of_solutions}
use Rattle.xhstt_references.specs.Ids.{instance_ids}
use Rattle.xhstt_references.specs.References.{repeated_ids, repeated_roles, unknown_references, events_off_end}
use Rattle.xhstt_references.specs.References.{solutions_of, unknown_in_solutions, unknown_in_solution}
use Rattle.xhstt_references.specs.declared.faults.ReferenceFault.{ReferenceFault}
use Rattle.fault_tables.specs.declared.faults.TheConstants.{DUPLICATE_ID, UNKNOWN_REFERENCE, DUPLICATE_ROLE}
use Rattle.fault_tables.specs.declared.faults.TheConstants.{EVENT_OFF_END}
use Rattle.archive_generator.specs.declared.drawing.DrawnEvent.{DrawnEvent}
use Rattle.archive_generator.specs.Job as job
use Rattle.archive_generator.specs.Made as made
use Rattle.archive_generator.specs.Solutions as solutions
use Rattle.archive_generator.proofs.SlotLaws.{made_instances}
use Rattle.generator_laws.proofs.ConstraintLaws.{constraints_known}
use Rattle.generator_laws.proofs.DrawLaws.{AreDrawn, events_drawn}
use Rattle.generator_laws.proofs.EventLaws.{events_known, roles_once, events_end}
use Rattle.generator_laws.proofs.IdLaws.{IsSize, both_none, none_repeated_ids}
use Rattle.generator_laws.proofs.ReferenceLaws.{times_known, groups_known, resources_known}
use Rattle.generator_laws.proofs.SolutionLaws.{all_known, solutions_named}

-- where there is no place of a fault, what follows is the fault
passed : (kind : ℕ) (places : List ℕ) (following : Option ReferenceFault) → places ≡ [] → following ≡ None
    → at_first kind places following ≡ None
passed kind places following h k = ap (λ ps. at_first kind ps following) h ∙ k

module _ (size : ℕ) (es : List DrawnEvent) (s : IsSize size) (drawn : AreDrawn size es) where
  none_unknown : unknown_references (made.instance size es) ≡ []
  none_unknown =
      both_none _ _ (times_known size es s drawn)
      (both_none _ _ (groups_known size es s drawn)
      (both_none _ _ (resources_known size es s drawn)
      (both_none _ _ (events_known size es s drawn) (constraints_known size es s drawn))))

  -- the instance has no fault of names and references
  pub instance_faultless : fault_of_instance (made.instance size es) ≡ None
  instance_faultless =
      let i = made.instance size es in
      passed DUPLICATE_ID (repeated_ids i) _ (none_repeated_ids size es s drawn)
      (passed UNKNOWN_REFERENCE (unknown_references i) _ none_unknown
      (passed DUPLICATE_ROLE (repeated_roles i) _ (roles_once size es s drawn)
      (passed EVENT_OFF_END (events_off_end i) _ (events_end size es s drawn) refl)))

-- the archive has four solutions, and one instance of this Id
pub made_solutions : (seed size : ℕ) → solutions_of (made.made seed size)
    ≡ map solutions.solution (job.solutions size (job.events size seed).0 (job.events size seed).1).0
unfolding made.made made.archive made.solution_group job.job
made_solutions seed size =
    append-nil (map solutions.solution (job.solutions size (job.events size seed).0 (job.events size seed).1).0)

pub made_ids : (seed size : ℕ) → instance_ids (made.made seed size) ≡ codes "made" ∷ []
unfolding made.made made.archive made.instance
made_ids seed size = refl

-- no Id of instances or of solution groups comes twice
pub ids_faultless : (seed size : ℕ) → fault_of_ids (made.made seed size) ≡ None
unfolding made.made made.archive made.instance made.solution_group
ids_faultless seed size = refl

-- no reference of the solutions is unknown
pub solutions_faultless : (seed size : ℕ) → IsSize size → fault_of_solutions (made.made seed size) ≡ None
solutions_faultless seed size s =
    let a = made.made seed size in
    let es = (job.events size seed).0 in
    let drawn = events_drawn size seed in
    let named = solutions_named size es (job.events size seed).1 drawn in
    passed UNKNOWN_REFERENCE (unknown_in_solutions a) None
    ((λ i. flat_map (unknown_in_solution (made_ids seed size i) (map directory_of (made_instances seed size i)))
    (made_solutions seed size i))
    ∙ all_known size es s drawn (job.solutions size es (job.events size seed).1).0 named)
    refl
