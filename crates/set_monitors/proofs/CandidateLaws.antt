-- The resources that may have a task in a monitor's role, as they are found.
use Rattle.std.proofs.Common.{ℕ, ◌≡◌, ◌≤◌, ◌<◌, ◌∙◌, ◌||◌, ◌⊎◌, inl, inr, suc, Bool, true, Option, Some, None, List, []}
use Rattle.std.proofs.Common.{◌∷◌, length, slice_get, refl, sym, ap, arith}
use Rattle.std.specs.Option.{option_map}
use Rattle.std.proofs.lemmas.Bool.{cases_eq, ne_eqb, true≢false}
use Rattle.std.proofs.lemmas.Option.{none-some, same_Some, slice_get_within}
use Rattle.khe_base.specs.IdSet.{has_member}
use Rattle.khe_instance.specs.declared.parts.Parts.{Parts}
use Rattle.khe_instance.specs.declared.parts.Place.{Place}
use Rattle.khe_instance.specs.declared.parts.ResourceInfo.{ResourceInfo}
use Rattle.khe_instance.specs.declared.points.Monitor.{Monitor}
use Rattle.khe_instance.specs.declared.rules.Rule.{Rule}
use Rattle.event_monitors.specs.Posts.{names}
use Rattle.event_monitors.specs.Turns.{has}
use Rattle.set_monitors.specs.AvoidSplitAssignments.{AreCandidates, CanHold, IsListed, wants}
use Rattle.set_monitors.specs.Candidates.{AreTyped, HasTypes, HasTypesOf}

pub are_candidates : (p : Parts) (m : Monitor) (types : List Bool) (numbers : List ℕ) → HasTypes p m types
    → AreTyped p types (length p.resources) numbers → AreCandidates p m numbers
are_candidates p m types numbers has are = record {
  ascending = are.ascending;
  known = λ r can. of r can;
  within = are.within;
}
  where
    of : (r : ℕ) → CanHold p m r → IsListed numbers r
    of r can = typed_of (slice_get p.resources r) refl can.typed
      where
        typed_of : (o : Option ResourceInfo) → slice_get p.resources r ≡ o
            → option_map (λ (x : ResourceInfo). x.rtype) o ≡ Some can.place.rtype → IsListed numbers r
        typed_of None at t = absurd (none-some can.place.rtype t)
        typed_of (Some x) at t =
            are.known r x (slice_get_within p.resources r x at) at
            (ap (has_member types) (same_Some x.rtype can.place.rtype t)
            ∙ has can.e can.named can.event can.k can.place can.there can.placed can.role)

-- halves: the number that is sought stands from `low` to `end`
pub record IsSought (numbers : List ℕ) (number low end : ℕ) : Type 0 where
  pub within : end ≤ length numbers
  pub sought : (k : ℕ) → slice_get numbers k ≡ Some number → (low ≤ k) × (k ≤ end)

-- while the types of an event's places in the role are added, one place after the other
pub record AreAdding (size : ℕ) (rule : Rule) (places : List Place) (old types : List Bool) (i : ℕ) : Type 0 where
  pub size_is : length types ≡ size
  pub grown : (t : ℕ) → has_member old t ≡ true → has_member types t ≡ true
  pub added : (k : ℕ) (q : Place) → k < i → slice_get places k ≡ Some q → wants rule q.role ≡ true
      → has_member types q.rtype ≡ true

-- while they are added for one event after the other
pub record AreFound (p : Parts) (m : Monitor) (events : List ℕ) (types : List Bool) (i : ℕ) : Type 0 where
  pub size_is : length types ≡ p.types
  pub found : (j e : ℕ) → j < i → slice_get events j ≡ Some e → HasTypesOf p m e types

pub listed_of : (list : List ℕ) (e : ℕ) → has list e ≡ true → IsListed list e
listed_of [] e h = absurd (true≢false (sym h))
listed_of (x ∷ list) e h = by (cases_eq x e) (λ is. listed_of list e is)
  where
    by : (x ≡ e) ⊎ (x ≡ e → ⊥) → (has list e ≡ true → IsListed list e) → IsListed (x ∷ list) e
    by (inl z) rest = (0, ap Some z)
    by (inr n) rest = let at = rest (sym (ap (λ b. b || has list e) (ne_eqb x e n)) ∙ h) in (suc at.0, at.1)

pub found_all : (p : Parts) (m : Monitor) (events : List ℕ) (types : List Bool) (i : ℕ) → AreFound p m events types i
    → length events ≤ i → ((e : ℕ) → e < length p.events → has events e ≡ names p e m) → HasTypes p m types
found_all p m events types i are past named e is event k place at placed role =
    let l : e < length p.events = slice_get_within p.events e event at in
    let listed = listed_of events e (named e l ∙ is) in
    are.found listed.0 e (let a = slice_get_within events listed.0 e listed.1 in omega (arith, a, past)) listed.1 event
    k place at placed role
