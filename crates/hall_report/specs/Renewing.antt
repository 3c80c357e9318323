-- What changes where the demands of a meet get new domains.
use Rattle.std.specs.Prelude.{ℕ, ◌≡◌, ◌<◌, ◌≤◌, ◌⊎◌, Option, Some, List, length, slice_get}
use Rattle.std.specs.Option.{ForSome}
use Rattle.khe_instance.specs.Lookups.{place_at}
use Rattle.khe_instance.specs.declared.parts.EventInfo.{EventInfo}
use Rattle.khe_instance.specs.declared.parts.Parts.{Parts}
use Rattle.khe_instance.specs.declared.parts.Place.{Place}
use Rattle.khe_told.specs.Changes.{after, meet_of}
use Rattle.khe_told.specs.Slots.{given_at, length_of, slot_at}
use Rattle.khe_told.specs.declared.changes.Change.{Change}
use Rattle.khe_told.specs.declared.slots.Slot.{Slot}
use Rattle.demand_matching.specs.Domains.{Domains, IsInRange, domain_of}
use Rattle.demand_matching.specs.declared.domains.Domain.{Domain}
use Rattle.hall_report.specs.Picks.{start_entry, resource_entry}

-- the sets and sizes are the same
pub record HasSameSets (old new : Domains) : Type 0 where
  pub times : new.times ≡ old.times
  pub resources : new.resources ≡ old.resources
  pub last : new.last ≡ old.last
  pub width : new.width ≡ old.width
  pub amount : length new.demands ≡ length old.demands

-- a number is that of a demand at one of these places and offsets
pub record IsAmong (number : ℕ → ℕ → ℕ) (from end count j : ℕ) : Type 0 where
  pub place : ℕ
  pub offset : ℕ
  pub after : from ≤ place
  pub before : place < end
  pub early : offset < count
  pub «is» : number place offset ≡ j

-- the demands at these places and offsets have these domains, and all others have theirs
pub record IsRenewed (old new : Domains) (number : ℕ → ℕ → ℕ) (domain : ℕ → ℕ → Option Domain)
    (from end count : ℕ) : Type 0 where
  pub same : HasSameSets old new
  pub renewed : (k o : ℕ) → from ≤ k → k < end → o < count → domain_of new (number k o) ≡ domain k o
  pub touched : (j : ℕ) → (domain_of new j ≡ domain_of old j) ⊎ IsAmong number from end count j

-- no two of these demands have the same number
abbrev pub AreApart : (ℕ → ℕ → ℕ) → ℕ → ℕ → ℕ → Type 0
AreApart number from end count =
    (k o j i : ℕ) → k < end → o < count → j < end → i < count → number k o ≡ number j i → (k ≡ j) × (o ≡ i)

-- each number is a demand's, and each domain is in range
pub record AreWritable (w : Domains) (number : ℕ → ℕ → ℕ) (domain : ℕ → ℕ → Option Domain) (from end count : ℕ) : Type
    0 where
  pub below : (k o : ℕ) → from ≤ k → k < end → o < count → number k o < length w.demands
  pub ranged : (k o : ℕ) → from ≤ k → k < end → o < count → ForSome (domain k o) (IsInRange w)

-- the sets of starts and of resources are found
abbrev pub HasStartEntries : Parts → List ℕ → Type 0
HasStartEntries p entries = (e d : ℕ) (event : EventInfo) → slice_get p.events e ≡ Some event → 1 ≤ d
    → d ≤ event.duration → start_entry p.events e d < length entries

abbrev pub HasResourceEntries : Parts → List ℕ → Type 0
HasResourceEntries p entries = (e k : ℕ) (place : Place) → place_at p.events e k ≡ Some place
    → resource_entry p.events e k < length entries

-- a duration is one of a meet of the event
abbrev pub IsSpanOf : Parts → ℕ → ℕ → Type 0
IsSpanOf p e d = (event : EventInfo) → slice_get p.events e ≡ Some event → (1 ≤ d) × (d ≤ event.duration)

-- a change of a meet that stays: it leaves the span, and what is given at other places than these
pub record IsTurn (p : Parts) (s : List Slot) (c : Change) (from end : ℕ) : Type 0 where
  pub order : from ≤ end
  pub within : end ≤ length (slot_at s (meet_of c)).given
  pub live : length_of (slot_at (after s c) (meet_of c)) ≡ length_of (slot_at s (meet_of c))
  pub outside : (k : ℕ) → k < length (slot_at s (meet_of c)).given → (k < from) ⊎ (end ≤ k)
      → ((slot_at (after s c) (meet_of c)).span ≡ (slot_at s (meet_of c)).span)
      × (given_at (slot_at (after s c) (meet_of c)) k ≡ given_at (slot_at s (meet_of c)) k)
