-- An archive in which the entries of a solution are those of a timetable resolves to the same instances as before.
use Rattle.std.proofs.Common.{ℕ, ◌≡◌, ◌∙◌, refl, sym, ap, ap₂, subst, Bool, true, false, not, cond, Option, Some, None}
use Rattle.std.proofs.Common.{Ok, List, [], ◌∷◌, ◌++◌, map, length, slice_get, flat_map, option_map, All, IfSome, set}
use Rattle.std.specs.Prelude.{IsSome, unwrap_or}
use Rattle.std.specs.List.{position_or_len}
use Rattle.std.specs.Option.{option_and_then, option_map_or}
use Rattle.std.specs.Str.{bytes_eq}
use Rattle.std.proofs.lemmas.List.{length-set}
use Rattle.std.proofs.lemmas.List.Concat.{flat_map-cons}
use Rattle.std.proofs.lemmas.List.Elements.{All-cons, All-head, All-nil, All-set, All-tail, All-weaker}
use Rattle.std.proofs.lemmas.Option.{same_Some, slice_get-map}
use Rattle.fault_tables.specs.declared.faults.TheConstants.{DUPLICATE_ID, UNKNOWN_REFERENCE}
use Rattle.fault_tables.specs.declared.limits.TheConstants.{TOO_MANY_SOLUTIONS}
use Rattle.khe_base.proofs.ListLemmas.{all-there, below_length, filter-none, none-each, none_of}
use Rattle.khe_base.specs.Names.{is_among_names, number_of}
use Rattle.khe_base.specs.declared.numbers.EventId.{EventId}
use Rattle.khe_base.specs.declared.numbers.ResourceId.{ResourceId}
use Rattle.khe_base.specs.declared.numbers.TimeId.{TimeId}
use Rattle.khe_instance.specs.Named.{event_named, resource_named, time_named}
use Rattle.khe_instance.specs.declared.parts.EventInfo.{EventInfo}
use Rattle.khe_instance.specs.declared.parts.Parts.{Parts}
use Rattle.khe_instance.specs.declared.parts.ResourceInfo.{ResourceInfo}
use Rattle.repair_run.specs.Placed.{archive_with}
use Rattle.xhstt_completion.proofs.Resolved.{IsResolvedAs, resolved-as}
use Rattle.xhstt_completion.specs.Entries.{IsEntry}
use Rattle.xhstt_completion.specs.Numbered.{parts_at}
use Rattle.xhstt_references.specs.Directories.{directory_of}
use Rattle.xhstt_references.specs.Faults.{at_first, fault_of_ids, fault_of_solutions}
use Rattle.xhstt_references.specs.Followed.{followed_of}
use Rattle.xhstt_references.specs.Ids.{event_ids, instance_ids, resource_ids, time_ids}
use Rattle.xhstt_references.specs.References.{repeated, solutions_of, unknown, unknown_in_entry, unknown_in_given}
use Rattle.xhstt_references.specs.References.{unknown_in_solution, unknown_in_solutions, unknown_one}
use Rattle.xhstt_references.specs.declared.directories.Directory.{Directory}
use Rattle.xhstt_resolve.proofs.AnswersLemmas.{both-none, resolved-sound}
use Rattle.xhstt_resolve.proofs.WellMadeIds.{event-ids, resource-ids}
use Rattle.xhstt_resolve.specs.Faults.{as_fault}
use Rattle.xhstt_resolve.specs.Limits.{above, earliest}
use Rattle.xhstt_resolve.specs.Parts.{events_from, parts_of, resource_of}
use Rattle.xhstt_resolve.specs.Resolved.{archive_fault, instance_fault, instances_of, resolved, solutions_fault}
use Rattle.xhstt_resolve.specs.declared.resolving.Resolved.{Resolved}
use Rattle.xhstt_shape.specs.declared.records.Archive.{Archive}
use Rattle.xhstt_shape.specs.declared.records.RawEntry.{RawEntry}
use Rattle.xhstt_shape.specs.declared.records.RawGiven.{RawGiven}
use Rattle.xhstt_shape.specs.declared.records.RawInstance.{RawInstance}
use Rattle.xhstt_shape.specs.declared.records.RawSolution.{RawSolution}
use Rattle.xhstt_shape.specs.declared.records.Ref.{Ref}
use Rattle.text_laws.proofs.PlacedLaws.{ids_kept, set_same, solutions_set}
use Rattle.text_laws.proofs.ReadLaws.{faultless, neither}

-- a name that has a number is among the names
truth : {A : Type 0} (b : Bool) (x : A) → IsSome (cond b (Some x) None) → b ≡ true
truth true x h = refl
truth false x h = absurd (let g : ⊥ = cc in g)

some_among : (id : List ℕ) (ids : List (List ℕ)) → IsSome (number_of id ids) → is_among_names id ids ≡ true
some_among id ids h =
    sym (below_length (λ (n : List ℕ). bytes_eq id n) ids)
    ∙ truth _ (position_or_len (λ (n : List ℕ). bytes_eq id n) ids) h

unmapped : {A B : Type 0} (f : A → B) (o : Option A) → IsSome (option_map f o) → IsSome o
unmapped f None h = h
unmapped f (Some x) h = refl

-- a reference to it is known
one_known : (ids : List (List ℕ)) (r : Ref) → is_among_names r.id ids ≡ true → unknown ids (r ∷ []) ≡ []
one_known ids r e =
    ap (map (λ (x : Ref). x.at)) (filter-none (λ (x : Ref). not (is_among_names x.id ids)) (r ∷ [])
    (All-cons (λ (x : Ref). not (is_among_names x.id ids) ≡ false) r [] (ap not e)
    (All-nil (λ (x : Ref). not (is_among_names x.id ids) ≡ false))))

-- the references of an entry of an instance name parts of it
abbrev event_id : ℕ → EventId
event_id n = record { 0 = n }

abbrev resource_id : ℕ → ResourceId
resource_id n = record { 0 = n }

abbrev time_id : ℕ → TimeId
time_id n = record { 0 = n }

event_among : (i : RawInstance) (id : List ℕ) → IsSome (event_named (parts_of i) id)
    → is_among_names id (event_ids i) ≡ true
event_among i id h =
    some_among id (event_ids i)
    (subst (λ ids. IsSome (number_of id ids)) (event-ids i 0 i.events)
    (unmapped event_id (number_of id (map (λ (x : EventInfo). x.id) (events_from i 0 i.events))) h))

resource_among : (i : RawInstance) (id : List ℕ) → IsSome (resource_named (parts_of i) id)
    → is_among_names id (resource_ids i) ≡ true
resource_among i id h =
    some_among id (resource_ids i)
    (subst (λ ids. IsSome (number_of id ids)) (resource-ids i i.resources)
    (unmapped resource_id (number_of id (map (λ (x : ResourceInfo). x.id) (map (resource_of i) i.resources))) h))

time_known : (i : RawInstance) (o : Option Ref) → IfSome o (λ t. IsSome (time_named (parts_of i) t.id))
    → unknown_one (time_ids i) o ≡ []
time_known i None h = refl
time_known i (Some t) h =
    one_known (time_ids i) t (some_among t.id (time_ids i) (unmapped time_id (number_of t.id (time_ids i)) h))

both_empty : {A : Type 0} (xs ys : List A) → xs ≡ [] → ys ≡ [] → xs ++ ys ≡ []
both_empty xs ys e d = ap₂ (λ x y. x ++ y) e d

pub all_none : {A B : Type 0} (f : A → List B) (xs : List A) → All (λ x. f x ≡ []) xs → flat_map f xs ≡ []
all_none f [] h = refl
all_none f (x ∷ xs) h =
    flat_map-cons f x xs
    ∙ both_empty (f x) (flat_map f xs) (All-head (λ y. f y ≡ []) x xs h)
    (all_none f xs (All-tail (λ y. f y ≡ []) x xs h))

entry_known : (i : RawInstance) (e : RawEntry) → IsEntry (parts_of i) e → unknown_in_entry (directory_of i) e ≡ []
entry_known i e is =
    both_empty (unknown (event_ids i) (e.reference ∷ []))
    (unknown_one (time_ids i) e.time ++ flat_map (unknown_in_given (directory_of i)) e.resources)
    (one_known (event_ids i) e.reference (event_among i e.reference.id is.event))
    (both_empty (unknown_one (time_ids i) e.time) (flat_map (unknown_in_given (directory_of i)) e.resources)
    (time_known i e.time is.time)
    (all_none (unknown_in_given (directory_of i)) e.resources
    (All-weaker (λ (g : RawGiven). IsSome (resource_named (parts_of i) g.reference.id))
    (λ (g : RawGiven). unknown_in_given (directory_of i) g ≡ [])
    (λ g h. one_known (resource_ids i) g.reference (resource_among i g.reference.id h)) e.resources is.resources)))

-- a solution with other entries, of the instance that it names
module _ (a : Archive) (r : Resolved) (held : IsResolvedAs a r) (n : ℕ) (old : RawSolution) (p : Parts)
    (at : slice_get (solutions_of a) n ≡ Some old) (parts : parts_at r n ≡ Some p) where
  abbrev ds : List Directory
  ds = map directory_of a.instances

  abbrev inside : List RawEntry → Directory → List ℕ
  inside es d = flat_map (unknown_in_entry d) es

  all_known : All (λ s. unknown_in_solution (instance_ids a) ds s ≡ []) (solutions_of a)
  all_known = none-each (unknown_in_solution (instance_ids a) ds) (solutions_of a) held.known

  old_known : (unknown (instance_ids a) (old.reference ∷ []) ≡ [])
      × (option_map_or (inside old.events)
      (option_and_then (λ k. slice_get ds k) (number_of old.reference.id (instance_ids a))) [] ≡ [])
  old_known =
      none_of _ _ (all-there (λ s. unknown_in_solution (instance_ids a) ds s ≡ []) (solutions_of a) n old all_known at)

  abbrev number : RawSolution → ℕ
  number s = unwrap_or (number_of s.reference.id (instance_ids a)) 0

  found : slice_get r.of n ≡ Some (number old)
  found = ap (λ xs. slice_get xs n) held.of ∙ slice_get-map number (solutions_of a) n ∙ ap (option_map number) at

  standing : slice_get r.instances (number old) ≡ Some p
  standing = sym (ap (λ o. option_and_then (λ k. slice_get r.instances k) o) found) ∙ parts

  part_there : option_map parts_of (slice_get a.instances (number old)) ≡ Some p
  part_there = sym (slice_get-map parts_of a.instances (number old)) ∙ ap (λ xs. slice_get xs (number old)) (sym held.instances)
      ∙ standing

  inside_known : (es : List RawEntry) → All (IsEntry p) es → (k : ℕ) → option_map parts_of (slice_get a.instances k) ≡ Some p
      → option_map_or (inside es) (slice_get ds k) [] ≡ []
  inside_known es is k e =
      ap (λ o. option_map_or (inside es) o []) (slice_get-map directory_of a.instances k) ∙ by (slice_get a.instances k) e
    where
      by : (o : Option RawInstance) → option_map parts_of o ≡ Some p
          → option_map_or (inside es) (option_map directory_of o) [] ≡ []
      by None e = absurd (let g : ⊥ = cc in g)
      by (Some i) e =
          let same : parts_of i ≡ p = same_Some (parts_of i) p e in
          all_none (unknown_in_entry (directory_of i)) es
          (All-weaker (IsEntry p) (λ x. unknown_in_entry (directory_of i) x ≡ [])
          (λ x h. entry_known i x (subst (λ q. IsEntry q x) (sym same) h)) es is)

  new_known : (es : List RawEntry) → All (IsEntry p) es
      → unknown_in_solution (instance_ids a) ds (record old { events = es }) ≡ []
  new_known es is =
      both_empty _ _ old_known.0
      (by (number_of old.reference.id (instance_ids a)) (inside_known es is (number old) part_there))
    where
      by : (o : Option ℕ) → option_map_or (inside es) (slice_get ds (unwrap_or o 0)) [] ≡ []
          → option_map_or (inside es) (option_and_then (λ k. slice_get ds k) o) [] ≡ []
      by None h = refl
      by (Some k) h = h

  -- the archive with it has no fault, and resolves as before
  module _ (es : List RawEntry) (is : All (IsEntry p) es) (e : archive_fault a ≡ None) where
    abbrev b : Archive
    b = archive_with (record old { events = es }) n a

    many : length (solutions_of b) ≡ length (solutions_of a)
    many = ap length (solutions_set (record old { events = es }) n a)
        ∙ length-set (solutions_of a) n (record old { events = es })

    nothing_unknown : unknown_in_solutions b ≡ []
    nothing_unknown =
        ap (flat_map (unknown_in_solution (instance_ids a) ds)) (solutions_set (record old { events = es }) n a)
        ∙ all_none (unknown_in_solution (instance_ids a) ds) (set (solutions_of a) n (record old { events = es }))
        (All-set (λ s. unknown_in_solution (instance_ids a) ds s ≡ []) (solutions_of a) n
        (record old { events = es }) (new_known es is) all_known)

    same_ids : fault_of_ids b ≡ fault_of_ids a
    same_ids =
        ap (λ ns. at_first DUPLICATE_ID (repeated (map (λ (i : RawInstance). i.id) a.instances))
        (at_first DUPLICATE_ID (repeated ns) None)) (ids_kept (record old { events = es }) n a.solution_groups)

    unfaulted : archive_fault b ≡ None
    unfaulted =
        let first = neither (option_map as_fault (fault_of_ids a))
        (earliest (earliest (map instance_fault a.instances) ∷ solutions_fault a ∷ [])) e in
        let second = neither (earliest (map instance_fault a.instances)) (earliest (solutions_fault a ∷ [])) first.1 in
        let last = neither (solutions_fault a) None second.1 in
        let amount = neither (above TOO_MANY_SOLUTIONS (length (solutions_of a)))
        (earliest (option_map as_fault (fault_of_solutions a) ∷ [])) last.0 in
        both-none _ _ (ap (option_map as_fault) same_ids ∙ first.0)
        (both-none _ _ second.0
        (both-none _ _
        (both-none _ _ (ap (above TOO_MANY_SOLUTIONS) many ∙ amount.0)
        (both-none _ _ (ap (λ xs. option_map as_fault (at_first UNKNOWN_REFERENCE xs None)) nothing_unknown) refl)) refl))

    same_instances : instances_of b ≡ instances_of a
    same_instances =
        ap (map number) (solutions_set (record old { events = es }) n a)
        ∙ set_same number (solutions_of a) n old (record old { events = es }) at refl

    resolves : resolved b ≡ Ok (record r { followed = followed_of b })
    resolves = resolved-sound b (record r { followed = followed_of b }) unfaulted held.instances (held.of ∙ sym same_instances) refl

-- it resolves to the same instances; what the entries name is another matter
pub resolved_with : (a : Archive) (r : Resolved) (n : ℕ) (old : RawSolution) (p : Parts) (es : List RawEntry)
    → resolved a ≡ Ok r → slice_get (solutions_of a) n ≡ Some old → parts_at r n ≡ Some p → All (IsEntry p) es
    → resolved (archive_with (record old { events = es }) n a)
    ≡ Ok (record r { followed = followed_of (archive_with (record old { events = es }) n a) })
resolved_with a r n old p es e at parts is = resolves a r (resolved-as a r e) n old p at parts es is (faultless a r e)
