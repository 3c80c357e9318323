-- An archive that was resolved: each solution has its instance, of which its references name parts.
use Rattle.std.proofs.Common.{ℕ, ◌≡◌, ◌≤◌, ◌<◌, true, Option, Some, None, IsSome, IfSome, is_some, Ok, Err, List}
use Rattle.std.proofs.Common.{[], ◌∷◌, ◌++◌, length, map, refl, sym, ap, subst, ◌∙◌, arith, slice_get, option_map, All}
use Rattle.std.proofs.Common.{flat_map, inl, inr}
use Rattle.std.specs.Option.{option_and_then, option_map_or, option_or}
use Rattle.std.specs.Prelude.{unwrap_or}
use Rattle.std.proofs.lemmas.Option.{slice_get-map, slice_get_cases, slice_get_within, same_Some}
use Rattle.std.proofs.lemmas.List.{length-map}
use Rattle.std.proofs.lemmas.List.Concat.{flat_map-cons}
use Rattle.std.proofs.lemmas.List.Elements.{All-nil, All-cons, All-head, All-tail, All-append, All-weaker}
use Rattle.khe_base.proofs.ListLemmas.{all-there, none_of, none-each}
use Rattle.khe_base.proofs.ResultLemmas.{some-mapped}
use Rattle.khe_base.specs.Names.{is_among_names, number_of}
use Rattle.khe_base.specs.declared.limits.TheConstants.{SOLUTIONS}
use Rattle.khe_instance.specs.Named.{event_named, time_named, resource_named}
use Rattle.khe_instance.specs.declared.parts.Parts.{Parts}
use Rattle.xhstt_completion.proofs.FollowedLemmas.{followed-many, followed-found}
use Rattle.xhstt_completion.specs.Entries as entries
use Rattle.xhstt_completion.specs.Found.{AreFound}
use Rattle.xhstt_completion.specs.Numbered.{parts_at, IsOne}
use Rattle.xhstt_references.proofs.ToldLemmas.{none_left}
use Rattle.xhstt_references.specs.Ids.{instance_ids, time_ids, resource_ids, event_ids}
use Rattle.xhstt_references.specs.References.{unknown, unknown_one, unknown_in_entry, unknown_in_given}
use Rattle.xhstt_references.specs.References.{unknown_in_solution, unknown_in_solutions, solutions_of}
use Rattle.xhstt_references.specs.Directories.{directory_of, part_names}
use Rattle.xhstt_references.specs.Faults.{fault_of_solutions}
use Rattle.xhstt_references.specs.Followed.{followed, followed_in, followed_of, nothing}
use Rattle.xhstt_references.specs.declared.directories.Directory.{Directory}
use Rattle.xhstt_references.specs.declared.following.Followed.{Followed}
use Rattle.fault_tables.specs.declared.faults.TheConstants.{UNKNOWN_REFERENCE}
use Rattle.xhstt_resolve.proofs.WellMadeFaults.{not-above}
use Rattle.xhstt_resolve.proofs.WellMadeIds.{event-ids, resource-ids}
use Rattle.xhstt_resolve.proofs.WellMadeLists.{known, among}
use Rattle.xhstt_resolve.specs.Faults.{as_fault}
use Rattle.xhstt_resolve.specs.Limits.{above}
use Rattle.xhstt_resolve.specs.Parts.{parts_of, events_from, resource_of}
use Rattle.xhstt_resolve.specs.Resolved.{resolved, archive_fault, instances_of, solutions_fault}
use Rattle.xhstt_resolve.specs.declared.faults.ResolveFault.{ResolveFault}
use Rattle.fault_tables.specs.declared.limits.TheConstants.{TOO_MANY_SOLUTIONS}
use Rattle.xhstt_resolve.specs.declared.resolving.Resolved.{Resolved}
use Rattle.xhstt_shape.specs.WellFormed as formed
use Rattle.xhstt_shape.specs.declared.records.Archive.{Archive}
use Rattle.xhstt_shape.specs.declared.records.RawEntry.{RawEntry}
use Rattle.xhstt_shape.specs.declared.records.RawInstance.{RawInstance}
use Rattle.xhstt_shape.specs.declared.records.RawSolution.{RawSolution}
use Rattle.xhstt_shape.specs.declared.records.Ref.{Ref}
use Rattle.xhstt_shape.specs.declared.records.SolutionGroup.{SolutionGroup}

known-some : (id : List ℕ) (ids : List (List ℕ)) → is_among_names id ids ≡ true → IsSome (number_of id ids)
known-some id ids e = ap is_some (known id ids e).is

event-known : (i : RawInstance) (id : List ℕ) → is_among_names id (event_ids i) ≡ true
    → IsSome (event_named (parts_of i) id)
event-known i id e =
    some-mapped _ (number_of id (map (λ x. x.id) (events_from i 0 i.events)))
    (subst (λ ids. IsSome (number_of id ids)) (sym (event-ids i 0 i.events)) (known-some id (event_ids i) e))

resource-known : (i : RawInstance) (id : List ℕ) → is_among_names id (resource_ids i) ≡ true
    → IsSome (resource_named (parts_of i) id)
resource-known i id e =
    some-mapped _ (number_of id (map (λ x. x.id) (map (resource_of i) i.resources)))
    (subst (λ ids. IsSome (number_of id ids)) (sym (resource-ids i i.resources)) (known-some id (resource_ids i) e))

time-known : (i : RawInstance) (o : Option Ref) → unknown_one (time_ids i) o ≡ []
    → IfSome o (λ t. IsSome (time_named (parts_of i) t.id))
time-known i None e = tt
time-known i (Some t) e = some-mapped _ (number_of t.id (time_ids i))
    (known-some t.id (time_ids i) (among (time_ids i) t [] e).0)

entry-known : (i : RawInstance) (e : RawEntry) → unknown_in_entry (directory_of i) e ≡ [] → formed.IsEntry e
    → entries.IsEntry (parts_of i) e
entry-known i e none form =
    let d = directory_of i in
    let first = none_of (unknown (event_ids i) (e.reference ∷ []))
    (unknown_one (time_ids i) e.time ++ flat_map (unknown_in_given d) e.resources) none in
    let rest = none_of (unknown_one (time_ids i) e.time) (flat_map (unknown_in_given d) e.resources) first.1 in
    record {
      event = event-known i e.reference.id (among (event_ids i) e.reference [] first.0).0;
      duration = form.duration;
      time = time-known i e.time rest.0;
      resources =
          All-weaker (λ g. unknown_in_given d g ≡ []) (λ g. IsSome (resource_named (parts_of i) g.reference.id))
          (λ g clear. resource-known i g.reference.id (among (resource_ids i) g.reference [] clear).0) e.resources
          (none-each (unknown_in_given d) e.resources rest.1);
    }

entries-known : (i : RawInstance) (es : List RawEntry) → All (λ e. unknown_in_entry (directory_of i) e ≡ []) es
    → All formed.IsEntry es → All (entries.IsEntry (parts_of i)) es
entries-known i [] none form = All-nil (entries.IsEntry (parts_of i))
entries-known i (e ∷ es) none form =
    All-cons (entries.IsEntry (parts_of i)) e es
    (entry-known i e (All-head (λ x. unknown_in_entry (directory_of i) x ≡ []) e es none)
    (All-head formed.IsEntry e es form))
    (entries-known i es (All-tail (λ x. unknown_in_entry (directory_of i) x ≡ []) e es none)
    (All-tail formed.IsEntry e es form))

-- all solutions of groups in form are in form
solutions-formed : (gs : List SolutionGroup) → All formed.IsSolutionGroup gs
    → All formed.IsSolution (flat_map (λ g. g.solutions) gs)
solutions-formed [] form = All-nil formed.IsSolution
solutions-formed (g ∷ gs) form =
    subst (All formed.IsSolution) (sym (flat_map-cons (λ x. x.solutions) g gs))
    (All-append formed.IsSolution g.solutions (flat_map (λ x. x.solutions) gs)
    (All-head formed.IsSolutionGroup g gs form) (solutions-formed gs (All-tail formed.IsSolutionGroup g gs form)))

-- of faults in order none is there
neither : {A : Type 0} (o q : Option A) → option_or o q ≡ None → (o ≡ None) × (q ≡ None)
neither None q e = (refl, e)
neither (Some x) q e = absurd (let g : ⊥ = cc in g)

none-mapped : {A B : Type 0} (f : A → B) (o : Option A) → option_map f o ≡ None → o ≡ None
none-mapped f None e = refl
none-mapped f (Some x) e = absurd (let g : ⊥ = cc in g)

-- what an archive without a fault gives: its instances, and solutions that are not too many and name
-- nothing unknown
pub record IsResolvedAs (a : Archive) (r : Resolved) : Type 0 where
  pub instances : r.instances ≡ map parts_of a.instances
  pub of : r.of ≡ instances_of a
  pub followed : r.followed ≡ followed_of a
  pub few : length (solutions_of a) ≤ SOLUTIONS
  pub known : unknown_in_solutions a ≡ []

without : (a : Archive) (r : Resolved) → archive_fault a ≡ None
    → r ≡ record { instances = map parts_of a.instances; of = instances_of a; followed = followed_of a }
    → IsResolvedAs a r
without a r sound same =
    let first = neither _ _ sound in
    let second = neither _ _ first.1 in
    let last = neither (solutions_fault a) None second.1 in
    let number = neither (above TOO_MANY_SOLUTIONS (length (solutions_of a))) _ last.0 in
    let references = neither (option_map as_fault (fault_of_solutions a)) None number.1 in
    record {
      instances = ap (λ x. x.instances) same;
      of = ap (λ x. x.of) same;
      followed = ap (λ x. x.followed) same;
      few = not-above TOO_MANY_SOLUTIONS SOLUTIONS (length (solutions_of a)) number.0;
      known = none_left UNKNOWN_REFERENCE (unknown_in_solutions a)
          (none-mapped as_fault (fault_of_solutions a) references.0);
    }

pub resolved-as : (a : Archive) (r : Resolved) → resolved a ≡ Ok r → IsResolvedAs a r
resolved-as a r e = by (archive_fault a) refl e
  where
    by : (o : Option ResolveFault) → archive_fault a ≡ o
        → option_map_or Err o
        (Ok (record { instances = map parts_of a.instances; of = instances_of a; followed = followed_of a })) ≡ Ok r
        → IsResolvedAs a r
    by None is e = without a r is cc
    by (Some fault) is e = absurd (let g : ⊥ = cc in g)

-- a solution has an instance, of which its references name parts
pub record IsPlaced (r : Resolved) (number : ℕ) (raw : RawSolution) : Type 0 where
  pub parts : Parts
  pub at : parts_at r number ≡ Some parts
  pub solution : entries.IsSolution parts raw
  pub instance : RawInstance
  pub is : parts_of instance ≡ parts
  pub followed : slice_get r.followed number ≡ Some (followed (part_names instance) raw.events)

one-placed : (a : Archive) (r : Resolved) → IsResolvedAs a r
    → All (λ s. unknown_in_solution (instance_ids a) (map directory_of a.instances) s ≡ []) (solutions_of a)
    → All formed.IsSolution (solutions_of a)
    → (k : ℕ) (raw : RawSolution) → slice_get (solutions_of a) k ≡ Some raw → IsPlaced r k raw
one-placed a r held none form k raw at =
    let ds = map directory_of a.instances in
    let f = λ (d : Directory). flat_map (unknown_in_entry d) raw.events in
    let parts = none_of (unknown (instance_ids a) (raw.reference ∷ []))
    (option_map_or f (option_and_then (λ n. slice_get ds n) (number_of raw.reference.id (instance_ids a))) [])
    (all-there (λ s. unknown_in_solution (instance_ids a) ds s ≡ []) (solutions_of a) k raw none at) in
    let place = known raw.reference.id (instance_ids a) (among (instance_ids a) raw.reference [] parts.0).0 in
    elim (slice_get_cases a.instances place.n).1 [
      | inl there ↦
          (let i = there.0 in
          let named : option_and_then (λ n. slice_get ds n) (number_of raw.reference.id (instance_ids a))
          ≡ Some (directory_of i) =
          ap (λ o. option_and_then (λ n. slice_get ds n) o) place.is ∙ slice_get-map directory_of a.instances place.n
          ∙ ap (option_map directory_of) there.2 in
          let clear : f (directory_of i) ≡ [] = sym (ap (λ o. option_map_or f o []) named) ∙ parts.1 in
          let g = λ (s : RawSolution). unwrap_or (number_of s.reference.id (instance_ids a)) 0 in
          let number : slice_get r.of k ≡ Some place.n =
          ap (λ xs. slice_get xs k) held.of ∙ slice_get-map g (solutions_of a) k ∙ ap (option_map g) at
          ∙ ap (λ o. Some (unwrap_or o 0)) place.is in
          let h = followed_in (map part_names a.instances) (instance_ids a) in
          let name : option_and_then (λ n. slice_get (map part_names a.instances) n)
          (number_of raw.reference.id (instance_ids a)) ≡ Some (part_names i) =
          ap (λ o. option_and_then (λ n. slice_get (map part_names a.instances) n) o) place.is
          ∙ slice_get-map part_names a.instances place.n ∙ ap (option_map part_names) there.2 in
          let follows : slice_get r.followed k ≡ Some (followed (part_names i) raw.events) =
          ap (λ xs. slice_get xs k) held.followed ∙ slice_get-map h (solutions_of a) k ∙ ap (option_map h) at
          ∙ ap (λ o. Some (option_map_or (λ n. followed n raw.events) o nothing)) name in
          let instance : slice_get r.instances place.n ≡ Some (parts_of i) =
          ap (λ xs. slice_get xs place.n) held.instances ∙ slice_get-map parts_of a.instances place.n
          ∙ ap (option_map parts_of) there.2 in
          record {
            parts = parts_of i;
            at = ap (λ o. option_and_then (λ n. slice_get r.instances n) o) number ∙ instance;
            solution = entries-known i raw.events (none-each (unknown_in_entry (directory_of i)) raw.events clear)
                (all-there formed.IsSolution (solutions_of a) k raw form at);
            instance = i;
            is = refl;
            followed = follows;
          })
      | inr past ↦ absurd (omega (arith, place.within, past.0, length-map a.instances (λ i. i.id.text)))
    ]

-- so has each solution of a resolved archive
pub placed : (a : Archive) (r : Resolved) → resolved a ≡ Ok r → formed.IsInForm a
    → (k : ℕ) (raw : RawSolution) → slice_get (solutions_of a) k ≡ Some raw → IsPlaced r k raw
placed a r e form =
    let held = resolved-as a r e in
    one-placed a r held
    (none-each (unknown_in_solution (instance_ids a) (map directory_of a.instances)) (solutions_of a) held.known)
    (solutions-formed a.solution_groups form.solution_groups)

pub one : (a : Archive) (r : Resolved) → resolved a ≡ Ok r → formed.IsInForm a
    → (k : ℕ) (raw : RawSolution) → slice_get (solutions_of a) k ≡ Some raw → IsOne r k raw
one a r e form k raw at =
    let is = placed a r e form k raw at in
    record { parts = is.parts; at = is.at; archive = a; formed = form; resolved_is = e; found = at }

-- what the entries of a solution name was followed
pub record IsFollowed (r : Resolved) (number : ℕ) (p : Parts) (entries : List RawEntry) : Type 0 where
  pub there : number < length r.followed
  pub many : (f : Followed) → slice_get r.followed number ≡ Some f → length f.named ≡ length entries
  pub each : (f : Followed) → slice_get r.followed number ≡ Some f → AreFound p entries f.named f.given

pub is_followed : (r : Resolved) (k : ℕ) (raw : RawSolution) (p : Parts) → IsOne r k raw → parts_at r k ≡ Some p
    → IsFollowed r k p raw.events
is_followed r k raw p one at =
    let is = placed one.archive r one.resolved_is one.formed k raw one.found in
    let i = is.instance in
    let same : parts_of i ≡ p = is.is ∙ same_Some is.parts p (sym is.at ∙ at) in
    let own = followed (part_names i) raw.events in
    let named : All (entries.IsEntry (parts_of i)) raw.events =
    subst (λ q. All (entries.IsEntry q) raw.events) (sym is.is) is.solution in
    record {
      there = slice_get_within r.followed k own is.followed;
      many = λ f found.
          ap (λ g. length g.named) (same_Some f own (sym found ∙ is.followed))
          ∙ followed-many (part_names i) 0 raw.events;
      each = λ f found.
          subst (λ q. AreFound q raw.events f.named f.given) same
          (subst (λ g. AreFound (parts_of i) raw.events g.named g.given) (sym (same_Some f own (sym found ∙ is.followed)))
          (followed-found i raw.events named));
    }

-- the references of a solution name parts of its instance
pub is_solution : (r : Resolved) (k : ℕ) (raw : RawSolution) (p : Parts) → IsOne r k raw → parts_at r k ≡ Some p
    → entries.IsSolution p raw
is_solution r k raw p one at =
    let is = placed one.archive r one.resolved_is one.formed k raw one.found in
    subst (λ q. entries.IsSolution q raw) (same_Some is.parts p (sym is.at ∙ at)) is.solution

-- a number with an instance is that of a solution
numbered : (r : Resolved) (number : ℕ) (p : Parts) → parts_at r number ≡ Some p → number < length r.of
numbered r number p at = by (slice_get r.of number) refl at
  where
    by : (o : Option ℕ) → slice_get r.of number ≡ o → option_and_then (λ k. slice_get r.instances k) o ≡ Some p
        → number < length r.of
    by None is e = absurd (let g : ⊥ = cc in g)
    by (Some k) is e = slice_get_within r.of number k is

pub solution_there : (a : Archive) (r : Resolved) (number : ℕ) (p : Parts) → resolved a ≡ Ok r
    → parts_at r number ≡ Some p → number < length (solutions_of a)
solution_there a r number p e at =
    let count : length r.of ≡ length (solutions_of a) =
    ap length (resolved-as a r e).of
    ∙ length-map (solutions_of a) (λ s. unwrap_or (number_of s.reference.id (instance_ids a)) 0)
    in
    omega (arith, count, numbered r number p at)
