-- What the entries name, one entry after the other.
use Rattle.std.proofs.Common.{ℕ, ◌≡◌, ◌∙◌, ◌+◌, ◌-◌, ◌<◌, ◌≤◌, Option, Some, None, IsSome, List, [], ◌∷◌, ◌++◌, length}
use Rattle.std.proofs.Common.{map, take, drop, get_or, slice_get, refl, sym, ap, subst, arith, zero, suc, All}
use Rattle.std.proofs.Common.{filter_map}
use Rattle.std.proofs.Common.{length-append, inl, inr}
use Rattle.std.proofs.Common.{true, if◌then◌else◌, find}
use Rattle.std.specs.Option.{option_map, option_and_then}
use Rattle.std.proofs.lemmas.List.{length-map, get_or_default}
use Rattle.std.proofs.lemmas.List.Elements.{All-head, All-tail}
use Rattle.std.proofs.lemmas.List.Quantifiers.{position-Some}
use Rattle.std.proofs.lemmas.Option.{none-some, slice_get_within, slice_get_read, slice_get-get_or, same_Some}
use Rattle.std.proofs.lemmas.Option.{slice_get_cases}
use Rattle.khe_base.proofs.ListLemmas.{there, piece-longer, piece-last}
use Rattle.std.specs.Str.{bytes_eq}
use Rattle.std.specs.List.{cons_option}
use Rattle.khe_base.specs.Names.{number_of}
use Rattle.khe_base.specs.declared.numbers.EventId.{EventId}
use Rattle.khe_base.specs.declared.numbers.ResourceId.{ResourceId}
use Rattle.khe_instance.specs.Lookups.{is_role}
use Rattle.khe_instance.specs.Named.{event_named, resource_named}
use Rattle.khe_instance.specs.declared.parts.EventInfo.{EventInfo}
use Rattle.khe_instance.specs.declared.parts.Parts.{Parts}
use Rattle.khe_instance.specs.declared.parts.ResourceInfo.{ResourceInfo}
use Rattle.xhstt_completion.proofs.PartsLemmas.{slice_get-append_left, slice_get-append_right}
use Rattle.xhstt_completion.specs.Completed.{given_for}
use Rattle.xhstt_completion.specs.Entries.{resource_of, role_of, time_of}
use Rattle.xhstt_completion.specs.Found.{AreFound, IsFound, NameEvents}
use Rattle.xhstt_references.specs.declared.following.Named.{Named}
use Rattle.xhstt_shape.specs.declared.records.RawEntry.{RawEntry}
use Rattle.xhstt_shape.specs.declared.records.RawGiven.{RawGiven}

-- a number of names is below their count
number-below : (id : List ℕ) (names : List (List ℕ)) (n : ℕ) → number_of id names ≡ Some n → n < length names
number-below id names n is = (position-Some (λ (x : List ℕ). bytes_eq id x) names n [] is).0

number-mapped : {A : Type 0} (f : ℕ → A) (o : Option ℕ) (x : A) → option_map f o ≡ Some x
    → (n : ℕ) × (o ≡ Some n) × (f n ≡ x)
number-mapped f None x is = absurd (let g : ⊥ = cc in g)
number-mapped f (Some n) x is = (n, refl, same_Some (f n) x is)

pub event-below : (p : Parts) (id : List ℕ) (e : EventId) → event_named p id ≡ Some e → e.0 < length p.events
event-below p id e is =
    let n = number-mapped (let at : ℕ → EventId = λ k. record { 0 = k } in at)
    (number_of id (map (λ (x : EventInfo). x.id) p.events)) e is in
    let same : n.0 ≡ e.0 = ap (λ (x : EventId). x.0) n.2 in
    let below = number-below id (map (λ (x : EventInfo). x.id) p.events) n.0 n.1 in
    omega (arith, same, below, length-map p.events (λ (x : EventInfo). x.id))

pub resource-below : (p : Parts) (id : List ℕ) (r : ResourceId) → resource_named p id ≡ Some r
    → r.0 < length p.resources
resource-below p id r is =
    let n = number-mapped (let at : ℕ → ResourceId = λ k. record { 0 = k } in at)
    (number_of id (map (λ (x : ResourceInfo). x.id) p.resources)) r is in
    let same : n.0 ≡ r.0 = ap (λ (x : ResourceId). x.0) n.2 in
    let below = number-below id (map (λ (x : ResourceInfo). x.id) p.resources) n.0 n.1 in
    omega (arith, same, below, length-map p.resources (λ (x : ResourceInfo). x.id))

-- all of them name a resource
mapped-some : {A B : Type 0} (f : A → Option B) (xs : List A) → All (λ x. IsSome (f x)) xs
    → map f xs ≡ map Some (filter_map f xs)
mapped-some f [] all = refl
mapped-some {A} {B} f (x ∷ xs) all =
    by (f x) (All-head (λ (y : A). IsSome (f y)) x xs all)
    (mapped-some f xs (All-tail (λ (z : A). IsSome (f z)) x xs all))
  where
    by : (o : Option B) → IsSome o → map f xs ≡ map Some (filter_map f xs)
        → o ∷ map f xs ≡ map Some (cons_option o (filter_map f xs))
    by None some rest = absurd (let g : ⊥ = cc in g)
    by (Some y) some rest = ap (λ zs. Some y ∷ zs) rest

filtered-long : {A B : Type 0} (f : A → Option B) (xs : List A) → All (λ x. IsSome (f x)) xs
    → length (filter_map f xs) ≡ length xs
filtered-long f xs all =
    sym (length-map (filter_map f xs) (λ x. Some x)) ∙ ap length (sym (mapped-some f xs all)) ∙ length-map xs f

-- an entry whose resources were added last
pub found-last : (p : Parts) (given more : List ResourceId) (entry : RawEntry) (n : Named)
    → event_named p entry.reference.id ≡ Some n.event → time_of p entry ≡ n.time → n.first ≡ length given
    → All (λ one. IsSome (resource_named p one.reference.id)) entry.resources
    → more ≡ given ++ filter_map (resource_of p) entry.resources
    → IsFound p more entry n
found-last p given more entry n event time first all is =
    let rs = entry.resources in
    let mine = filter_map (resource_of p) rs in
    let long : length mine ≡ length rs = filtered-long (resource_of p) rs all in
    let piece : take (length rs) (drop n.first more) ≡ mine =
    ap (λ k. take k (drop n.first more)) (sym long) ∙ ap (λ k. take (length mine) (drop k more)) first
    ∙ ap (λ xs. take (length mine) (drop (length given) xs)) is ∙ piece-last given mine
    in
    record {
      event = event;
      time = time;
      within = omega (arith, first, ap length is, length-append given mine, long);
      resources = mapped-some (resource_of p) rs all ∙ ap (map (λ x. Some x)) (sym piece);
    }

-- what was found stays so when more resources come
pub found-longer : (p : Parts) (given more : List ResourceId) (entry : RawEntry) (n : Named) → IsFound p given entry n
    → IsFound p (given ++ more) entry n
found-longer p given more entry n is = record {
  event = is.event;
  time = is.time;
  within = omega (arith, is.within, length-append given more);
  resources = is.resources ∙ ap (map (λ x. Some x)) (sym (piece-longer n.first (length entry.resources) given more
      is.within));
}

-- the number of one of the resources that an entry gives
pub given-taken : (p : Parts) (given : List RawGiven) (resources : List ResourceId) (i : ℕ) (one : RawGiven)
    (d : ResourceId)
    → map (resource_of p) given ≡ map Some resources → i < length given → one ≡ get_or given i one
    → resource_of p one ≡ Some (get_or resources i d)
given-taken p [] resources i one d is l at = absurd (omega arith)
given-taken p (g ∷ gs) [] i one d is l at = absurd (let e : ⊥ = cc in e)
given-taken p (g ∷ gs) (x ∷ xs) zero one d is l at =
    ap (resource_of p) at ∙ (let first : resource_of p g ≡ Some x = cc in first)
given-taken p (g ∷ gs) (x ∷ xs) (suc i) one d is l at =
    let rest : map (resource_of p) gs ≡ map Some xs = cc in
    given-taken p gs xs i one d rest (omega arith) at

-- the first one that is given for a role gives its resource
pub given-first : (p : Parts) (one : RawGiven) (later : List RawGiven) (role : List ℕ)
    → is_role role (role_of one) ≡ true → given_for p (one ∷ later) role ≡ resource_of p one
given-first p one later role mine =
    ap (λ b. option_and_then (resource_of p) (if b then Some one else find (λ x. is_role role (role_of x)) later)) mine

pub as-many : (p : Parts) (given : List RawGiven) (resources : List ResourceId)
    → map (resource_of p) given ≡ map Some resources → length resources ≡ length given
as-many p given resources is =
    sym (length-map resources (λ x. Some x)) ∙ ap length (sym is) ∙ length-map given (resource_of p)

-- the entry at a place, and the event that it names
pub record IsLinked (p : Parts) (entries : List RawEntry) (k : ℕ) (n : Named) : Type 0 where
  pub entry : RawEntry
  pub found : slice_get entries k ≡ Some entry
  pub event : event_named p entry.reference.id ≡ Some n.event
  pub below : n.event.0 < length p.events

pub linked : (p : Parts) (entries : List RawEntry) (named : List Named) (k : ℕ) (d : Named)
    → length named ≡ length entries → NameEvents p entries named → k < length entries
    → IsLinked p entries k (get_or named k d)
linked p entries named k d many events l =
    let e = there entries k l in
    let n = get_or named k d in
    let at : slice_get named k ≡ Some n = slice_get-get_or named k d (omega (arith, l, many)) in
    let event = events k e.value n e.found at in
    record { entry = e.value; found = e.found; event = event; below = event-below p e.value.reference.id n.event event }

-- what was found of the entry at a place
pub found-there : (p : Parts) (entries : List RawEntry) (named : List Named) (given : List ResourceId) (i : ℕ)
    (entry : RawEntry) (n : Named)
    → AreFound p entries named given → length named ≡ length entries → i < length entries
    → entry ≡ get_or entries i entry → n ≡ get_or named i n → IsFound p given entry n
found-there p entries named given i entry n each many l at_e at_n =
    each i entry n (slice_get_read entries _ i entry refl l at_e)
    (slice_get_read named _ i n refl (omega (arith, l, many)) at_n)

-- the same where it was read from a row that has what was found
pub found-read : (p : Parts) (entries : List RawEntry) (named row : List Named) (given : List ResourceId) (i : ℕ)
    (entry : RawEntry) (d : Named)
    → AreFound p entries named given → length named ≡ length entries → row ≡ named → i < length entries
    → entry ≡ get_or entries i entry → IsFound p given entry (get_or row i d)
found-read p entries named row given i entry d each many same l at_e =
    let n = get_or row i d in
    let low : i < length row = omega (arith, l, many, ap length same) in
    found-there p entries named given i entry n each many l at_e
    (get_or_default row i d n low ∙ ap (λ xs. get_or xs i n) same)
