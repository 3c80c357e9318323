-- Chains of causes, and how much of its duration an event's entries use.
use Rattle.std.proofs.Common.{ℕ, ◌≡◌, ◌∙◌, ◌+◌, ◌<◌, ◌≤◌, Bool, true, false, ◌||◌, if◌then◌else◌, Option, Some, None}
use Rattle.std.proofs.Common.{List, [], ◌∷◌, ◌++◌, length, take, drop, get_or, slice_get, refl, sym, ap}
use Rattle.std.specs.Prelude.{is_some, is_none, unwrap_or, IfSome}
use Rattle.std.specs.List.{sum_by}
use Rattle.std.specs.Option.{option_or, option_and_then, option_map}
use Rattle.std.proofs.lemmas.Bool.{ltb-false}
use Rattle.std.proofs.lemmas.List.{append-nil, drop_more, take_more}
use Rattle.std.proofs.lemmas.List.Elements.{filter-append}
use Rattle.std.proofs.lemmas.List.Sums.{sum_by_push}
use Rattle.khe_base.specs.declared.numbers.EventId.{EventId}
use Rattle.khe_base.specs.declared.numbers.ResourceId.{ResourceId}
use Rattle.khe_instance.specs.Named.{event_named}
use Rattle.khe_instance.specs.WellMade.{IsDuration}
use Rattle.khe_instance.specs.declared.parts.EventInfo.{EventInfo}
use Rattle.khe_instance.specs.declared.parts.Parts.{Parts}
use Rattle.khe_instance.specs.declared.parts.Place.{Place}
use Rattle.xhstt_completion.specs.Causes.{place_cause, given_cause, first_given_cause, place_for, came_before}
use Rattle.xhstt_completion.specs.Causes.{is_too_long, splits_fixed, moves_fixed, ends_late, cause_in, cause_after}
use Rattle.xhstt_completion.specs.Causes.{first_cause, used_by}
use Rattle.xhstt_completion.specs.Entries.{duration_of, entries_of, is_event, resource_of}
use Rattle.fault_tables.specs.declared.causes.TheConstants.{BAD_ROLE, TOO_LONG, SPLIT_FIXED, FIXED_TIME, OFF_END}
use Rattle.xhstt_shape.specs.declared.records.RawEntry.{RawEntry}
use Rattle.xhstt_shape.specs.declared.records.RawGiven.{RawGiven}

pub option_or-some : {A : Type 0} (o q : Option A) → is_some o ≡ true → option_or o q ≡ o
option_or-some None q h = absurd (let e : false ≡ true = h in cc)
option_or-some (Some x) q h = refl

pub option_or-none : {A : Type 0} (o q : Option A) → is_some o ≡ false → option_or o q ≡ q
option_or-none None q h = refl
option_or-none (Some x) q h = absurd (let e : true ≡ false = h in cc)

-- a resource whose role did not come before has the cause that its place has
pub at_place : (o : Option Place) (b : Bool) (f : Place → Option ℕ) (place : Place) → o ≡ Some place → b ≡ false
    → (if is_none o || b then Some BAD_ROLE else option_and_then f o) ≡ f place
at_place o b f place e h = λ i. if is_none (e i) || h i then Some BAD_ROLE else option_and_then f (e i)

pub given_cause-place : (p : Parts) (event : EventInfo) (before : List RawGiven) (given : RawGiven) (r : ResourceId)
    (place : Place)
    → resource_of p given ≡ Some r → place_for p event given ≡ Some place → came_before before given ≡ false
    → given_cause p event before given ≡ place_cause p (Some r) place
given_cause-place p event before given r place named found fresh =
    at_place (place_for p event given) (came_before before given) (place_cause p (resource_of p given)) place found
    fresh
    ∙ ap (λ x. place_cause p x place) named

-- the next resource
pub first_given_cause-drop : (p : Parts) (event : EventInfo) (before given : List RawGiven) (i : ℕ) (one : RawGiven)
    → i < length given → one ≡ get_or given i one
    → first_given_cause p event before (drop i given)
    ≡ option_or (given_cause p event before one) (first_given_cause p event (before ++ one ∷ [])
    (drop (i + 1) given))
first_given_cause-drop p event before given i one l at =
    ap (first_given_cause p event before) (drop_more given i one l ∙ ap (λ x. x ∷ drop (i + 1) given) (sym at))

-- the next entry
pub first_cause-drop : (p : Parts) (before entries : List RawEntry) (i : ℕ) (entry : RawEntry) → i < length entries
    → entry ≡ get_or entries i entry
    → first_cause p before (drop i entries)
    ≡ option_or (option_map (λ cause. record { cause = cause; entry = length before }) (cause_after p before entry))
    (first_cause p (before ++ entry ∷ []) (drop (i + 1) entries))
first_cause-drop p before entries i entry l at =
    ap (first_cause p before) (drop_more entries i entry l ∙ ap (λ x. x ∷ drop (i + 1) entries) (sym at))

-- one more element, by its value
pub take-next : {A : Type 0} (xs : List A) (i : ℕ) (x : A) → i < length xs → x ≡ get_or xs i x
    → take (i + 1) xs ≡ take i xs ++ x ∷ []
take-next xs i x l at = take_more xs i x l ∙ ap (λ y. take i xs ++ y ∷ []) (sym at)

-- the cause at an entry of an event
pub cause_after-in : (p : Parts) (before : List RawEntry) (entry : RawEntry) (e : EventId) (event : EventInfo)
    → event_named p entry.reference.id ≡ Some e → slice_get p.events e.0 ≡ Some event
    → cause_after p before entry ≡ cause_in p event (used_by p e.0 event before) entry
cause_after-in p before entry e event named there =
    ap (option_and_then (λ x. option_and_then (λ info. cause_in p info (used_by p x.0 info before) entry)
    (slice_get p.events x.0))) named
    ∙ ap (option_and_then (λ info. cause_in p info (used_by p e.0 info before) entry)) there

-- an entry lasts at least one time
pub unwrap_or-positive : (o : Option ℕ) (d : ℕ) → IfSome o IsDuration → 1 ≤ d → 1 ≤ unwrap_or o d
unwrap_or-positive None d h l = l
unwrap_or-positive (Some n) d h l = h.0

-- one more entry of an event, and one of another
pub entries_of-own : (p : Parts) (e : ℕ) (entries : List RawEntry) (entry : RawEntry)
    → is_event e (event_named p entry.reference.id) ≡ true
    → entries_of p e (entries ++ entry ∷ []) ≡ entries_of p e entries ++ entry ∷ []
entries_of-own p e entries entry own =
    filter-append (λ x. is_event e (event_named p x.reference.id)) entries (entry ∷ [])
    ∙ ap (λ b. entries_of p e entries ++ (if b then entry ∷ [] else [])) own

pub entries_of-other : (p : Parts) (e : ℕ) (entries : List RawEntry) (entry : RawEntry)
    → is_event e (event_named p entry.reference.id) ≡ false
    → entries_of p e (entries ++ entry ∷ []) ≡ entries_of p e entries
entries_of-other p e entries entry other =
    filter-append (λ x. is_event e (event_named p x.reference.id)) entries (entry ∷ [])
    ∙ ap (λ b. entries_of p e entries ++ (if b then entry ∷ [] else [])) other
    ∙ append-nil (entries_of p e entries)

pub used_by-own : (p : Parts) (e : ℕ) (event : EventInfo) (entries : List RawEntry) (entry : RawEntry)
    → is_event e (event_named p entry.reference.id) ≡ true
    → used_by p e event (entries ++ entry ∷ []) ≡ used_by p e event entries + duration_of event entry
used_by-own p e event entries entry own =
    ap (sum_by (duration_of event)) (entries_of-own p e entries entry own)
    ∙ sum_by_push (duration_of event) (entries_of p e entries) entry

pub used_by-other : (p : Parts) (e : ℕ) (event : EventInfo) (entries : List RawEntry) (entry : RawEntry)
    → is_event e (event_named p entry.reference.id) ≡ false
    → used_by p e event (entries ++ entry ∷ []) ≡ used_by p e event entries
used_by-other p e event entries entry other = ap (sum_by (duration_of event)) (entries_of-other p e entries entry other)

-- an entry without a cause
pub record IsFree (p : Parts) (event : EventInfo) (used : ℕ) (entry : RawEntry) : Type 0 where
  pub long : is_too_long event used entry ≡ false
  pub split : splits_fixed event entry ≡ false
  pub moved : moves_fixed p event entry ≡ false
  pub late : ends_late p event entry ≡ false
  pub given : first_given_cause p event [] entry.resources ≡ None

pub unless-first : (b : Bool) (cause : ℕ) (o : Option ℕ) → (if b then Some cause else o) ≡ None
    → (b ≡ false) × (o ≡ None)
unless-first true cause o h = cc
unless-first false cause o h = (refl, h)

pub cause_in-none : (p : Parts) (event : EventInfo) (used : ℕ) (entry : RawEntry) → cause_in p event used entry ≡ None
    → IsFree p event used entry
cause_in-none p event used entry h =
    let long = unless-first (is_too_long event used entry) TOO_LONG _ h in
    let split = unless-first (splits_fixed event entry) SPLIT_FIXED _ long.1 in
    let moved = unless-first (moves_fixed p event entry) FIXED_TIME _ split.1 in
    let late = unless-first (ends_late p event entry) OFF_END _ moved.1 in
    record { long = long.0; split = split.0; moved = moved.0; late = late.0; given = late.1 }

-- it lasts no longer than what is left
pub not_too_long : (p : Parts) (event : EventInfo) (used : ℕ) (entry : RawEntry) → cause_in p event used entry ≡ None
    → used + duration_of event entry ≤ event.duration
not_too_long p event used entry h = ltb-false event.duration (used + duration_of event entry)
    (cause_in-none p event used entry h).long
