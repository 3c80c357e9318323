-- The numbers that entries were followed to are what the entries name in the instance.
use Rattle.std.proofs.Common.{ℕ, ◌≡◌, ◌∙◌, ◌+◌, ◌≤◌, Option, Some, None, IsSome, IfSome, List, [], ◌∷◌, ◌++◌, length}
use Rattle.std.proofs.Common.{map, slice_get, refl, sym, ap, subst, arith, zero, suc, All, filter_map, flat_map, append_assoc}
use Rattle.std.proofs.Common.{length-append}
use Rattle.std.specs.List.{cons_option}
use Rattle.std.specs.Option.{option_map, option_and_then}
use Rattle.std.specs.Prelude.{unwrap_or}
use Rattle.std.proofs.lemmas.List.{length-map}
use Rattle.std.proofs.lemmas.List.Concat.{flat_map-cons}
use Rattle.std.proofs.lemmas.List.Elements.{All-head, All-tail}
use Rattle.std.proofs.lemmas.Option.{none-some, same_Some}
use Rattle.khe_base.specs.Names.{number_of}
use Rattle.khe_base.specs.declared.numbers.EventId.{EventId}
use Rattle.khe_base.specs.declared.numbers.ResourceId.{ResourceId}
use Rattle.khe_base.specs.declared.numbers.TimeId.{TimeId}
use Rattle.khe_instance.specs.Named.{event_named, time_named, resource_named}
use Rattle.xhstt_completion.proofs.FoundLemmas.{found-last, found-longer}
use Rattle.xhstt_completion.specs.Entries.{IsEntry, time_of, resource_of}
use Rattle.xhstt_completion.specs.Found.{AreFound, IsFound}
use Rattle.xhstt_references.specs.Directories.{part_names}
use Rattle.xhstt_references.specs.Followed.{event_numbered, time_numbered, resource_numbered, named_at, numbered_in}
use Rattle.xhstt_references.specs.Followed.{given_in, named_from, followed}
use Rattle.xhstt_references.specs.Ids.{event_ids, resource_ids}
use Rattle.xhstt_references.specs.declared.following.Named.{Named}
use Rattle.xhstt_references.specs.declared.part_names.PartNames.{PartNames}
use Rattle.xhstt_resolve.proofs.WellMadeIds.{event-ids, resource-ids}
use Rattle.xhstt_resolve.specs.Parts.{parts_of}
use Rattle.xhstt_shape.specs.declared.records.RawEntry.{RawEntry}
use Rattle.xhstt_shape.specs.declared.records.RawGiven.{RawGiven}
use Rattle.xhstt_shape.specs.declared.records.RawInstance.{RawInstance}
use Rattle.xhstt_shape.specs.declared.records.Ref.{Ref}

some-at : {A : Type 0} (at : ℕ → A) (o : Option ℕ) → IsSome (option_map at o)
    → option_map at o ≡ Some (at (unwrap_or o 0))
some-at at None is = absurd (let g : ⊥ = cc in g)
some-at at (Some n) is = refl

event-numbered : (i : RawInstance) (r : Ref) → IsSome (event_named (parts_of i) r.id)
    → event_named (parts_of i) r.id ≡ Some (event_numbered (part_names i) r)
event-numbered i r is =
    let at : ℕ → EventId = λ n. record { 0 = n } in
    let same : event_named (parts_of i) r.id ≡ option_map at (number_of r.id (event_ids i)) =
    ap (λ ids. option_map at (number_of r.id ids)) (event-ids i 0 i.events) in
    same ∙ some-at at (number_of r.id (event_ids i)) (subst IsSome same is)

resource-numbered : (i : RawInstance) (r : Ref) → IsSome (resource_named (parts_of i) r.id)
    → resource_named (parts_of i) r.id ≡ Some (resource_numbered (part_names i) r)
resource-numbered i r is =
    let at : ℕ → ResourceId = λ n. record { 0 = n } in
    let same : resource_named (parts_of i) r.id ≡ option_map at (number_of r.id (resource_ids i)) =
    ap (λ ids. option_map at (number_of r.id ids)) (resource-ids i i.resources) in
    same ∙ some-at at (number_of r.id (resource_ids i)) (subst IsSome same is)

time-numbered : (i : RawInstance) (o : Option Ref) → IfSome o (λ t. IsSome (time_named (parts_of i) t.id))
    → option_and_then (λ t. time_named (parts_of i) t.id) o ≡ option_map (time_numbered (part_names i)) o
time-numbered i None is = refl
time-numbered i (Some r) is =
    some-at (let at : ℕ → TimeId = λ n. record { 0 = n } in at) (number_of r.id (part_names i).times) is

given-numbered : (i : RawInstance) (gs : List RawGiven)
    → All (λ g. IsSome (resource_named (parts_of i) g.reference.id)) gs
    → filter_map (resource_of (parts_of i)) gs ≡ numbered_in (part_names i) gs
given-numbered i [] all = refl
given-numbered i (g ∷ gs) all =
    let here = resource-numbered i g.reference
    (All-head (λ (x : RawGiven). IsSome (resource_named (parts_of i) x.reference.id)) g gs all) in
    let rest = given-numbered i gs
    (All-tail (λ (x : RawGiven). IsSome (resource_named (parts_of i) x.reference.id)) g gs all) in
    ap (λ o. cons_option o (filter_map (resource_of (parts_of i)) gs)) here
    ∙ ap (λ xs. resource_numbered (part_names i) g.reference ∷ xs) rest

-- one entry, whose resources stand between those before and those after
one-found : (i : RawInstance) (before rest given : List ResourceId) (e : RawEntry) (k : ℕ) → IsEntry (parts_of i) e
    → k ≡ length before → given ≡ (before ++ given_in (part_names i) e) ++ rest
    → IsFound (parts_of i) given e (named_at (part_names i) k e)
one-found i before rest given e k is at whole =
    let p = parts_of i in
    let names = part_names i in
    let mine = given_in names e in
    let n = named_at names k e in
    let last : IsFound p (before ++ mine) e n =
    found-last p before (before ++ mine) e n (event-numbered i e.reference is.event) (time-numbered i e.time is.time) at
    is.resources
    (ap (λ xs. before ++ xs) (sym (given-numbered i e.resources is.resources))) in
    subst (λ xs. IsFound p xs e n) (sym whole) (found-longer p (before ++ mine) rest e n last)

found-from : (i : RawInstance) (before given : List ResourceId) (es : List RawEntry) (k : ℕ)
    → All (IsEntry (parts_of i)) es → k ≡ length before → given ≡ before ++ flat_map (given_in (part_names i)) es
    → AreFound (parts_of i) es (named_from (part_names i) k es) given
found-from i before given [] k all at whole j e m at_e at_m = absurd (none-some m at_m)
found-from i before given (e ∷ es) k all at whole zero x m at_x at_m =
    let p = parts_of i in
    let names = part_names i in
    let rest = flat_map (given_in names) es in
    let is = one-found i before rest given e k (All-head (IsEntry p) e es all) at
    (whole ∙ ap (λ xs. before ++ xs) (flat_map-cons (given_in names) e es)
    ∙ sym (append_assoc before (given_in names e) rest)) in
    subst (λ y. IsFound p given y m) (same_Some e x at_x)
    (subst (λ n. IsFound p given e n) (same_Some (named_at names k e) m at_m) is)
found-from i before given (e ∷ es) k all at whole (suc j) x m at_x at_m =
    let p = parts_of i in
    let names = part_names i in
    let mine = given_in names e in
    let rest = flat_map (given_in names) es in
    let long : length mine ≡ length e.resources =
    length-map e.resources (λ (g : RawGiven). resource_numbered names g.reference) in
    let next : k + length e.resources ≡ length (before ++ mine) = omega (arith, at, length-append before mine, long) in
    found-from i (before ++ mine) given es (k + length e.resources) (All-tail (IsEntry p) e es all) next
    (whole ∙ ap (λ xs. before ++ xs) (flat_map-cons (given_in names) e es) ∙ sym (append_assoc before mine rest))
    j x m at_x at_m

pub followed-found : (i : RawInstance) (es : List RawEntry) → All (IsEntry (parts_of i)) es
    → AreFound (parts_of i) es (followed (part_names i) es).named (followed (part_names i) es).given
followed-found i es all = found-from i [] (flat_map (given_in (part_names i)) es) es 0 all refl refl

-- there are as many as entries
pub followed-many : (names : PartNames) (k : ℕ) (es : List RawEntry) → length (named_from names k es) ≡ length es
followed-many names k [] = refl
followed-many names k (e ∷ es) =
    omega (arith, followed-many names (k + length e.resources) es)
