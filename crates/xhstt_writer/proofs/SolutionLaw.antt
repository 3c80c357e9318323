-- Solutions and whole archives, read back.
use Rattle.std.proofs.Common.{◌≡◌, true, [], All, refl}
use Rattle.xhstt_text.specs.Handles.{Standing}
use Rattle.xhstt_shape.specs.declared.records.Archive.{Archive}
use Rattle.xhstt_shape.specs.declared.records.RawEntry.{RawEntry}
use Rattle.xhstt_shape.specs.declared.records.RawGiven.{RawGiven}
use Rattle.xhstt_shape.specs.declared.records.RawSolution.{RawSolution}
use Rattle.xhstt_shape.specs.declared.records.SolutionGroup.{SolutionGroup}
use Rattle.xhstt_shape.specs.declared.words.Tag.{Tag}
use Rattle.xhstt_shape.specs.declared.words.Tag.TheVariants as tag
use Rattle.xhstt_shape.specs.Characters.{IsSpellableRef, IsSpellableGiven, IsSpellableEntry, IsSpellableSolution}
use Rattle.xhstt_shape.specs.Characters.{IsSpellableSolutionGroup, IsSpellableInstance}
use Rattle.xhstt_shape.specs.Places as place
use Rattle.xhstt_shape.specs.Values as value
use Rattle.xhstt_shape.specs.Walk.{child}
use Rattle.xhstt_shape.specs.WellFormed.{IsGiven, IsEntry, IsSolution, IsSolutionGroup, IsInstance, IsWellFormed}
use Rattle.xhstt_shape.specs.Words.{word}
use Rattle.xhstt_writer.specs.Parts.{element, role, reference, row}
use Rattle.xhstt_writer.specs.Archives.{instance, given_parts, given, entry_parts, entry, solution_parts, solution}
use Rattle.xhstt_writer.specs.Archives.{solution_group_parts, solution_group, archive_labels, archive_parts}
use Rattle.xhstt_writer.specs.Lookups.{StandsAs, bodies_of, are_apart, IsFirst}
use Rattle.xhstt_writer.proofs.Found.{child-found, named-found, list-read, many-read, optional-read}
use Rattle.xhstt_writer.proofs.Fields.{optional-text, reference-read, reference-given, id-read, optional-id}
use Rattle.xhstt_writer.proofs.Leaves.{role-read}
use Rattle.xhstt_writer.proofs.ListLemmas.{All-both}
use Rattle.xhstt_writer.proofs.EventLaw.{IsGoodRole, good_role}
use Rattle.xhstt_writer.proofs.ConstraintLaw.{optional_duration-read}
use Rattle.xhstt_writer.proofs.InstanceLaw.{IsGoodInstance, instance-read, meta_data_if}

-- what an entry gives

pub record IsGoodGiven (x : RawGiven) : Type 0 where
  pub in_form : IsGiven x
  pub spellable : IsSpellableGiven x

given_apart : (x : RawGiven) → are_apart (given_parts x) ≡ true
unfolding word
given_apart x = refl

given-read : (t : Tag) (x : RawGiven) (e : Standing) → IsGoodGiven x → StandsAs t (given x) e
    → place.given (value.given e) ≡ place.given x
unfolding value.given word
given-read t x e s h =
    let to = reference-given x.reference e s.spellable.0 h.0.attributes in
    let role_of = optional-read tag.Role role value.role place.name place.name IsGoodRole
    (λ n f g k. role-read tag.Role n f g.spellable g.role k) x.role (child tag.Role e.kids)
    (good_role x.role s.in_form s.spellable.1) (child-found tag.Role (given_parts x) (given_apart x) e.kids h.1) in
    λ i. record { reference = to i; role = role_of i }

-- entries

pub record IsGoodEntry (x : RawEntry) : Type 0 where
  pub in_form : IsEntry x
  pub spellable : IsSpellableEntry x
  pub resources : All IsGoodGiven x.resources

good_entry : (x : RawEntry) → IsEntry x → IsSpellableEntry x → IsGoodEntry x
good_entry x f s = record {
  in_form = f;
  spellable = s;
  resources = All-both IsGiven IsSpellableGiven IsGoodGiven (λ r a b. record { in_form = a; spellable = b }) x.resources
      f.resources s.resources;
}

entry_apart : (x : RawEntry) → are_apart (entry_parts x) ≡ true
unfolding word
entry_apart x = refl

entry-read : (t : Tag) (x : RawEntry) (e : Standing) → IsGoodEntry x → StandsAs t (entry x) e
    → place.entry (value.entry e) ≡ place.entry x
unfolding value.entry value.every word
entry-read t x e g h =
    let s = g.spellable in
    let found : (u : Tag) → IsFirst u (bodies_of u (entry_parts x)) (child u e.kids) =
    λ u. child-found u (entry_parts x) (entry_apart x) e.kids h.1 in
    let to = reference-given x.reference e s.reference h.0.attributes in
    let duration = optional_duration-read x.duration e g.in_form.duration (found tag.Duration) in
    let time = optional-read tag.Time reference value.reference place.reference place.reference IsSpellableRef
    (λ n d p k. reference-read tag.Time n d p k) x.time (child tag.Time e.kids) s.time (found tag.Time) in
    let own = list-read tag.Resources (λ _. tag.Resource) given value.given place.given place.given IsGoodGiven
    (λ n d p k. given-read tag.Resource n d p k) x.resources (child tag.Resources e.kids) g.resources
    (found tag.Resources) in
    λ i. record { reference = to i; duration = duration i; time = time i; resources = own i }

-- solutions

pub record IsGoodSolution (x : RawSolution) : Type 0 where
  pub spellable : IsSpellableSolution x
  pub events : All IsGoodEntry x.events

good_solution : (x : RawSolution) → IsSolution x → IsSpellableSolution x → IsGoodSolution x
good_solution x f s = record {
  spellable = s;
  events =
      All-both IsEntry IsSpellableEntry IsGoodEntry good_entry x.events f s.events;
}

solution_apart : (x : RawSolution) → are_apart (solution_parts x) ≡ true
unfolding word
solution_apart x = refl

solution-read : (t : Tag) (x : RawSolution) (e : Standing) → IsGoodSolution x → StandsAs t (solution x) e
    → place.solution (value.solution e) ≡ place.solution x
unfolding value.solution value.every word
solution-read t x e g h =
    let s = g.spellable in
    let found : (u : Tag) → IsFirst u (bodies_of u (solution_parts x)) (child u e.kids) =
    λ u. child-found u (solution_parts x) (solution_apart x) e.kids h.1 in
    let to = reference-given x.reference e s.reference h.0.attributes in
    let description = optional-text tag.Description x.description (child tag.Description e.kids) s.description
    (found tag.Description) in
    let running = optional-text tag.RunningTime x.running_time (child tag.RunningTime e.kids) s.running_time
    (found tag.RunningTime) in
    let entries = list-read tag.Events (λ _. tag.Event) entry value.entry place.entry place.entry IsGoodEntry
    (λ n d p k. entry-read tag.Event n d p k) x.events (child tag.Events e.kids) g.events (found tag.Events) in
    λ i. record { reference = to i; description = description i; running_time = running i; events = entries i }

-- groups of solutions

pub record IsGoodSolutionGroup (x : SolutionGroup) : Type 0 where
  pub spellable : IsSpellableSolutionGroup x
  pub solutions : All IsGoodSolution x.solutions

good_solution_group : (x : SolutionGroup) → IsSolutionGroup x → IsSpellableSolutionGroup x → IsGoodSolutionGroup x
good_solution_group x f s = record {
  spellable = s;
  solutions =
      All-both IsSolution IsSpellableSolution IsGoodSolution good_solution x.solutions f s.solutions;
}

solution_group_apart : (x : SolutionGroup) → are_apart (solution_group_parts x) ≡ true
unfolding word
solution_group_apart x = refl

solution_group-read : (t : Tag) (x : SolutionGroup) (e : Standing) → IsGoodSolutionGroup x
    → StandsAs t (solution_group x) e → place.solution_group (value.solution_group e) ≡ place.solution_group x
unfolding value.solution_group value.all word
solution_group-read t x e g h =
    let s = g.spellable in
    let id = id-read x.id [] e s.id h.0.attributes in
    let about = meta_data_if x.meta_data (child tag.MetaData e.kids) s.meta_data
    (child-found tag.MetaData (solution_group_parts x) (solution_group_apart x) e.kids h.1) in
    let solutions = many-read tag.Solution solution value.solution place.solution place.solution IsGoodSolution
    (λ n d p k. solution-read tag.Solution n d p k) x.solutions (value.named tag.Solution e.kids) g.solutions
    (named-found tag.Solution (solution_group_parts x) (solution_group_apart x) e.kids h.1) in
    λ i. record { id = id i; meta_data = about i; solutions = solutions i }

-- archives

pub archive_apart : (x : Archive) → are_apart (archive_parts x) ≡ true
unfolding word
archive_apart x = refl

pub good_instances : (x : Archive) → IsWellFormed x → All IsGoodInstance x.instances
good_instances x w = All-both IsInstance IsSpellableInstance IsGoodInstance
    (λ r a b. record { in_form = a; spellable = b }) x.instances w.in_form.instances w.spellable.instances

pub good_solution_groups : (x : Archive) → IsWellFormed x → All IsGoodSolutionGroup x.solution_groups
good_solution_groups x w = All-both IsSolutionGroup IsSpellableSolutionGroup IsGoodSolutionGroup good_solution_group
    x.solution_groups w.in_form.solution_groups w.spellable.solution_groups

pub archive-read : (t : Tag) (x : Archive) (e : Standing) → IsWellFormed x
    → StandsAs t (element (archive_labels x) (row (archive_parts x))) e → place.IsSame (value.archive e) x
unfolding value.archive value.every place.unplaced word
archive-read t x e w h =
    let s = w.spellable in
    let found : (u : Tag) → IsFirst u (bodies_of u (archive_parts x)) (child u e.kids) =
    λ u. child-found u (archive_parts x) (archive_apart x) e.kids h.1 in
    let id = optional-id x.id e s.id h.0.attributes in
    let about = meta_data_if x.meta_data (child tag.MetaData e.kids) s.meta_data (found tag.MetaData) in
    let instances = list-read tag.Instances (λ _. tag.Instance) instance value.instance place.instance place.instance
    IsGoodInstance (λ n d p k. instance-read tag.Instance n d p k) x.instances (child tag.Instances e.kids)
    (good_instances x w) (found tag.Instances) in
    let groups = list-read tag.SolutionGroups (λ _. tag.SolutionGroup) solution_group value.solution_group
    place.solution_group place.solution_group IsGoodSolutionGroup
    (λ n d p k. solution_group-read tag.SolutionGroup n d p k) x.solution_groups (child tag.SolutionGroups e.kids)
    (good_solution_groups x w) (found tag.SolutionGroups) in
    λ i. record { id = id i; meta_data = about i; instances = instances i; solution_groups = groups i }
