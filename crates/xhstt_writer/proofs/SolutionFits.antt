-- Written solutions and archives fit their rows of the table.
use Rattle.std.proofs.Common.{ℕ, ◌≤◌, Option, Some, None, List, [], ◌∷◌, All, IfSome, refl, arith}
use Rattle.std.specs.Option.{option_map}
use Rattle.xhstt_shape.specs.declared.records.Archive.{Archive}
use Rattle.xhstt_shape.specs.declared.records.Name.{Name}
use Rattle.xhstt_shape.specs.declared.records.RawEntry.{RawEntry}
use Rattle.xhstt_shape.specs.declared.records.RawGiven.{RawGiven}
use Rattle.xhstt_shape.specs.declared.records.RawInstance.{RawInstance}
use Rattle.xhstt_shape.specs.declared.records.RawSolution.{RawSolution}
use Rattle.xhstt_shape.specs.declared.records.SolutionGroup.{SolutionGroup}
use Rattle.xhstt_shape.specs.declared.schema.Mark.TheVariants.{AtMostOnce, Many}
use Rattle.xhstt_shape.specs.declared.schema.Row.TheVariants as row_of
use Rattle.xhstt_shape.specs.declared.words.Label.TheVariants as label
use Rattle.xhstt_shape.specs.declared.words.Tag.TheVariants as tag
use Rattle.xhstt_shape.specs.Characters.{IsSpellable, IsSpellableName, IsSpellableRef, IsSpellableMetaData}
use Rattle.xhstt_shape.specs.Schema.{attributes, children, content}
use Rattle.xhstt_shape.specs.Walk.{settled}
use Rattle.xhstt_shape.specs.WellFormed.{IsDuration, IsWellFormed}
use Rattle.xhstt_shape.specs.Words.{word, label_word}
use Rattle.xhstt_writer.specs.Parts.{text, element, each, number, role, reference, labelled, identified}
use Rattle.xhstt_writer.specs.Canonical.{meta_data}
use Rattle.xhstt_writer.specs.Archives.{instance, given_parts, given, entry_parts, entry, solution_parts, solution}
use Rattle.xhstt_writer.specs.Archives.{solution_group_parts, solution_group, archive_labels, archive_parts}
use Rattle.xhstt_writer.proofs.Fits.{FitsBody, FitsElement, known_if, element_fits, IsListRow, list_fits}
use Rattle.xhstt_writer.proofs.LeafFits.{text_fits, duration_fits, role_fits, reference_fits}
use Rattle.xhstt_writer.proofs.RecordFits.{if_part, many_part, list_part, label_writable, meta_data_fits}
use Rattle.xhstt_writer.proofs.EventLaw.{IsGoodRole, good_role}
use Rattle.xhstt_writer.proofs.InstanceLaw.{IsGoodInstance}
use Rattle.xhstt_writer.proofs.InstanceFits.{instance_fits}
use Rattle.xhstt_writer.proofs.SolutionLaw.{IsGoodGiven, IsGoodEntry, IsGoodSolution, IsGoodSolutionGroup}
use Rattle.xhstt_writer.proofs.SolutionLaw.{good_instances, good_solution_groups, archive_apart}

-- lists of one row
given_row : IsListRow row_of.GivenResources
unfolding content attributes children settled
given_row = record { settles = λ i. refl; elements = refl; attributes = refl; optional = λ f. refl }

entry_row : IsListRow row_of.Entries
unfolding content attributes children settled
entry_row = record { settles = λ i. refl; elements = refl; attributes = refl; optional = λ f. refl }

instance_row : IsListRow row_of.Instances
unfolding content attributes children settled
instance_row = record { settles = λ i. refl; elements = refl; attributes = refl; optional = λ f. refl }

solution_group_row : IsListRow row_of.SolutionGroups
unfolding content attributes children settled
solution_group_row = record { settles = λ i. refl; elements = refl; attributes = refl; optional = λ f. refl }

-- what an entry gives
given_fits : (height : ℕ) (x : RawGiven) → 1 ≤ height → IsGoodGiven x → FitsBody height row_of.Given (given x)
unfolding content attributes children settled word label_word
given_fits height x l s = element_fits 0 height row_of.Given (labelled label.Reference x.reference.id ∷ [])
    (given_parts x) l (λ i. refl) (record {
      elements = refl;
      labels = (refl, s.spellable.0, tt);
      known = (refl, tt);
      needed = refl;
      apart = refl;
      there = refl;
      parts = (
        if_part 0 row_of.Given tag.Role AtMostOnce row_of.Role role IsGoodRole x.role refl
            (λ n g. role_fits 0 n g.role g.spellable) (good_role x.role s.in_form s.spellable.1),
        tt,
      );
    })

givens_fit : (xs : List RawGiven) → All IsGoodGiven xs
    → FitsBody 2 row_of.GivenResources (element [] (each (λ _. tag.Resource) given xs))
unfolding children word
givens_fit xs g = list_fits 1 2 row_of.GivenResources (λ _. tag.Resource) given IsGoodGiven (omega arith) given_row
    (λ x p. (
      record { tag = tag.Resource; mark = Many; row = row_of.Given },
      refl,
      refl,
      given_fits 1 x (omega arith)
          p,
    )) xs g

-- entries
entry_fits : (height : ℕ) (x : RawEntry) → 3 ≤ height → IsGoodEntry x → FitsBody height row_of.Entry (entry x)
unfolding content attributes children settled word label_word
entry_fits height x l g =
    let s = g.spellable in
    element_fits 2 height row_of.Entry (labelled label.Reference x.reference.id ∷ []) (entry_parts x) l (λ i. refl)
    (record {
      elements = refl;
      labels = (refl, s.reference, tt);
      known = (refl, tt);
      needed = refl;
      apart = refl;
      there = refl;
      parts = (
        if_part 2 row_of.Entry tag.Duration AtMostOnce row_of.Duration number IsDuration x.duration refl
            (λ n f. duration_fits 2 n f) g.in_form.duration,
        (
          if_part 2 row_of.Entry tag.Time AtMostOnce row_of.Reference reference IsSpellableRef x.time refl
              (λ r p. reference_fits 2 r (omega arith) p) s.time,
          (
            list_part 2 row_of.Entry tag.Resources AtMostOnce row_of.GivenResources
                (each (λ _. tag.Resource) given x.resources) refl (givens_fit x.resources g.resources),
            tt,
          ),
        ),
      );
    })

entries_fit : (xs : List RawEntry) → All IsGoodEntry xs
    → FitsBody 4 row_of.Entries (element [] (each (λ _. tag.Event) entry xs))
unfolding children word
entries_fit xs g = list_fits 3 4 row_of.Entries (λ _. tag.Event) entry IsGoodEntry (omega arith) entry_row
    (λ x p. (record { tag = tag.Event; mark = Many; row = row_of.Entry }, refl, refl, entry_fits 3 x (omega arith) p))
    xs g

-- solutions
solution_fits : (height : ℕ) (x : RawSolution) → 5 ≤ height → IsGoodSolution x
    → FitsBody height row_of.Solution (solution x)
unfolding content attributes children settled word label_word
solution_fits height x l g =
    let s = g.spellable in
    element_fits 4 height row_of.Solution (labelled label.Reference x.reference.id ∷ []) (solution_parts x) l
    (λ i. refl) (record {
      elements = refl;
      labels = (refl, s.reference, tt);
      known = (refl, tt);
      needed = refl;
      apart = refl;
      there = refl;
      parts = (
        if_part 4 row_of.Solution tag.Description AtMostOnce row_of.Text text IsSpellable x.description refl
            (λ v p. text_fits 4 v p) s.description,
        (
          if_part 4 row_of.Solution tag.RunningTime AtMostOnce row_of.Text text IsSpellable x.running_time refl
              (λ v p. text_fits 4 v p) s.running_time,
          (
            list_part 4 row_of.Solution tag.Events AtMostOnce row_of.Entries (each (λ _. tag.Event) entry x.events) refl
                (entries_fit x.events g.events),
            tt,
          ),
        ),
      );
    })

-- groups of solutions
solution_group_fits : (height : ℕ) (x : SolutionGroup) → 6 ≤ height → IsGoodSolutionGroup x
    → FitsBody height row_of.SolutionGroup (solution_group x)
unfolding content attributes children settled word label_word
solution_group_fits height x l g =
    let s = g.spellable in
    element_fits 5 height row_of.SolutionGroup (identified x.id []) (solution_group_parts x) l (λ i. refl) (record {
      elements = refl;
      labels = (refl, s.id, tt);
      known = (refl, tt);
      needed = refl;
      apart = refl;
      there = refl;
      parts = (
        if_part 5 row_of.SolutionGroup tag.MetaData AtMostOnce row_of.MetaData meta_data IsSpellableMetaData x.meta_data
            refl (λ m p. meta_data_fits 5 m (omega arith) p) s.meta_data,
        (
          many_part 5 row_of.SolutionGroup tag.Solution row_of.Solution solution IsGoodSolution x.solutions refl
              (λ n p. solution_fits 5 n (omega arith) p) g.solutions,
          tt,
        ),
      );
    })

solution_groups_fit : (xs : List SolutionGroup) → All IsGoodSolutionGroup xs
    → FitsBody 9 row_of.SolutionGroups (element [] (each (λ _. tag.SolutionGroup) solution_group xs))
unfolding children word
solution_groups_fit xs g = list_fits 6 9 row_of.SolutionGroups (λ _. tag.SolutionGroup) solution_group
    IsGoodSolutionGroup (omega arith) solution_group_row
    (λ x p. (
      record { tag = tag.SolutionGroup; mark = Many; row = row_of.SolutionGroup },
      refl,
      refl,
      solution_group_fits 6 x (omega arith) p,
    )) xs g

-- archives
instances_fit : (xs : List RawInstance) → All IsGoodInstance xs
    → FitsBody 9 row_of.Instances (element [] (each (λ _. tag.Instance) instance xs))
unfolding children word
instances_fit xs g = list_fits 8 9 row_of.Instances (λ _. tag.Instance) instance IsGoodInstance (omega arith)
    instance_row
    (λ x p. (
      record { tag = tag.Instance; mark = Many; row = row_of.Instance },
      refl,
      refl,
      instance_fits 8 x
          (omega arith) p,
    )) xs g

spellable_id : (o : Option Name) → IfSome o IsSpellableName → IfSome (option_map (λ (n : Name). n.text) o) IsSpellable
spellable_id None h = tt
spellable_id (Some n) h = h

pub archive_fits : (x : Archive) → IsWellFormed x → FitsElement 9 row_of.Archive (archive_labels x) (archive_parts x)
unfolding content attributes children settled word label_word
archive_fits x w =
    let s = w.spellable in
    let ids : Option (List ℕ) = option_map (λ (n : Name). n.text) x.id in
    record {
      elements = refl;
      labels = label_writable label.Id ids [] refl (spellable_id x.id s.id);
      known = known_if (attributes row_of.Archive) label.Id ids refl;
      needed = refl;
      apart = archive_apart x;
      there = refl;
      parts = (
        if_part 9 row_of.Archive tag.MetaData AtMostOnce row_of.MetaData meta_data IsSpellableMetaData x.meta_data refl
            (λ m p. meta_data_fits 9 m (omega arith) p) s.meta_data,
        (
          list_part 9 row_of.Archive tag.Instances AtMostOnce row_of.Instances
              (each (λ _. tag.Instance) instance x.instances) refl (instances_fit x.instances (good_instances x w)),
          (
            list_part 9 row_of.Archive tag.SolutionGroups AtMostOnce row_of.SolutionGroups
                (each (λ _. tag.SolutionGroup) solution_group x.solution_groups) refl
                (solution_groups_fit x.solution_groups (good_solution_groups x w)),
            tt,
          ),
        ),
      );
    }
