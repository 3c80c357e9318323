-- What the entries of solutions name does not depend on the places of references and names.
use Rattle.std.proofs.Common.{◌≡◌, ◌∙◌, ap, refl, ℕ, ◌+◌, Option, Some, None, List, [], ◌∷◌, map, length, flat_map}
use Rattle.std.proofs.Common.{option_map, slice_get}
use Rattle.std.specs.Option.{option_and_then, option_map_or}
use Rattle.std.proofs.lemmas.List.{length-map}
use Rattle.khe_base.specs.Names.{number_of}
use Rattle.xhstt_references.specs.Directories.{part_names}
use Rattle.xhstt_references.specs.Followed as follow
use Rattle.xhstt_references.specs.Ids as ids
use Rattle.xhstt_references.specs.References as named
use Rattle.xhstt_references.specs.declared.following.Followed.{Followed}
use Rattle.xhstt_references.specs.declared.following.Named.{Named}
use Rattle.xhstt_references.specs.declared.part_names.PartNames.{PartNames}
use Rattle.xhstt_shape.specs.Places.{entry, given, instance, reference, solution, solution_group, unplaced}
use Rattle.xhstt_shape.specs.declared.records.Archive.{Archive}
use Rattle.xhstt_shape.specs.declared.records.RawEntry.{RawEntry}
use Rattle.xhstt_shape.specs.declared.records.RawGiven.{RawGiven}
use Rattle.xhstt_shape.specs.declared.records.RawInstance.{RawInstance}
use Rattle.xhstt_shape.specs.declared.records.RawSolution.{RawSolution}
use Rattle.xhstt_shape.specs.declared.records.Ref.{Ref}
use Rattle.xhstt_shape.specs.declared.records.SolutionGroup.{SolutionGroup}
use Rattle.same_archives.proofs.ListLaws.{flat_alike, flat_parts, map_alike}
use Rattle.same_archives.proofs.PartsLaws as parts

-- the solutions and the Ids of instances
pub solutions_alike : (a : Archive) → named.solutions_of (unplaced a) ≡ map solution (named.solutions_of a)
unfolding unplaced
solutions_alike a =
    flat_parts (λ (g : SolutionGroup). g.solutions) (λ (g : SolutionGroup). g.solutions) solution_group solution
    (λ g. refl) a.solution_groups

pub instance_ids : (a : Archive) → ids.instance_ids (unplaced a) ≡ ids.instance_ids a
unfolding unplaced
instance_ids a = map_alike (λ (i : RawInstance). i.id.text) (λ (i : RawInstance). i.id.text) instance (λ i. refl)
    a.instances

-- what an entry names
time : (n : PartNames) (o : Option Ref)
    → option_map (follow.time_numbered n) (option_map reference o) ≡ option_map (follow.time_numbered n) o
time n None = refl
time n (Some t) = refl

named_at : (n : PartNames) (k : ℕ) (e : RawEntry) → follow.named_at n k (entry e) ≡ follow.named_at n k e
named_at n k e = λ j. record { event = follow.event_numbered n e.reference; time = time n e.time j; first = k }

given_in : (n : PartNames) (e : RawEntry) → follow.given_in n (entry e) ≡ follow.given_in n e
given_in n e =
    map_alike (λ (g : RawGiven). follow.resource_numbered n g.reference)
    (λ (g : RawGiven). follow.resource_numbered n g.reference) given (λ g. refl) e.resources

named_from : (n : PartNames) (k : ℕ) (es : List RawEntry)
    → follow.named_from n k (map entry es) ≡ follow.named_from n k es
named_from n k [] = refl
named_from n k (e ∷ es) =
    ap (λ m. m ∷ follow.named_from n (k + length (map given e.resources)) (map entry es)) (named_at n k e)
    ∙ ap (λ l. follow.named_at n k e ∷ follow.named_from n (k + l) (map entry es)) (length-map e.resources given)
    ∙ ap (λ xs. follow.named_at n k e ∷ xs) (named_from n (k + length e.resources) es)

followed : (n : PartNames) (es : List RawEntry) → follow.followed n (map entry es) ≡ follow.followed n es
followed n es = λ j. record {
  named = named_from n 0 es j;
  given = flat_alike (follow.given_in n) (follow.given_in n) entry (given_in n) es j;
}

followed_in : (names : List PartNames) (own : List (List ℕ)) (s : RawSolution)
    → follow.followed_in names own (solution s) ≡ follow.followed_in names own s
followed_in names own s = by (option_and_then (λ k. slice_get names k) (number_of s.reference.id own))
  where
    by : (o : Option PartNames) → option_map_or (λ n. follow.followed n (map entry s.events)) o follow.nothing
        ≡ option_map_or (λ n. follow.followed n s.events) o follow.nothing
    by None = refl
    by (Some n) = followed n s.events

names_alike : (i : RawInstance) → part_names (instance i) ≡ part_names i
names_alike i = λ j. record {
  times = parts.time_ids i j;
  resources = parts.resource_ids i j;
  events = parts.event_ids i j;
}

names : (a : Archive) → map part_names (unplaced a).instances ≡ map part_names a.instances
unfolding unplaced
names a = map_alike part_names part_names instance names_alike a.instances

pub followed_of : (a : Archive) → follow.followed_of (unplaced a) ≡ follow.followed_of a
followed_of a =
    (λ j. map (follow.followed_in (names a j) (instance_ids a j)) (solutions_alike a j))
    ∙ map_alike (follow.followed_in (map part_names a.instances) (ids.instance_ids a))
    (follow.followed_in (map part_names a.instances) (ids.instance_ids a)) solution
    (followed_in (map part_names a.instances) (ids.instance_ids a)) (named.solutions_of a)
