-- Chains of the numbers of entries, which are linked from the last one back.
use Rattle.std.proofs.Common.{ℕ, ◌≡◌, ◌∙◌, ◌+◌, ◌<◌, ◌≤◌, true, false, if◌then◌else◌, Some, List, [], ◌∷◌}
use Rattle.std.proofs.Common.{length, drop, get_or, set, slice_get, replicate, refl, sym, ap, subst, arith, zero, suc}
use Rattle.std.proofs.Common.{inl, inr}
use Rattle.std.proofs.lemmas.Bool.{cases_eq, eq-eqb, ne_eqb}
use Rattle.std.proofs.lemmas.List.{get_or-set_same, get_or-set_other, get_or-replicate}
use Rattle.std.proofs.lemmas.Option.{slice_get_within}
use Rattle.khe_base.proofs.ListLemmas.{drop-there}
use Rattle.khe_base.specs.declared.numbers.EventId.{EventId}
use Rattle.khe_instance.specs.Named.{event_named}
use Rattle.khe_instance.specs.declared.parts.Parts.{Parts}
use Rattle.xhstt_completion.specs.Chains.{IsChain}
use Rattle.xhstt_completion.specs.Entries.{entries_of, is_event}
use Rattle.xhstt_shape.specs.declared.records.RawEntry.{RawEntry}

-- a link below the least number changes nothing
pub chain-kept : (entries : List RawEntry) (nexts : List ℕ) (least at : ℕ) (xs : List RawEntry) (k v : ℕ) → k < least
    → IsChain entries nexts least at xs → IsChain entries (set nexts k v) least at xs
chain-kept entries nexts least at [] k v below is = is
chain-kept entries nexts least at (x ∷ xs) k v below is =
    let other : get_or (set nexts k v) at 0 ≡ get_or nexts at 0 =
    get_or-set_other nexts k at v 0 (λ same. omega (arith, same, below, is.0)) in (
      is.0,
      is.1,
      subst (λ n. IsChain entries (set nexts k v) (at + 1) n xs) (sym other)
          (chain-kept entries nexts (at + 1) (get_or nexts at 0) xs k v (omega (arith, below, is.0)) is.2),
    )

-- a lower least number is one too
pub chain-lower : (entries : List RawEntry) (nexts : List ℕ) (least less at : ℕ) (xs : List RawEntry) → less ≤ least
    → IsChain entries nexts least at xs → IsChain entries nexts less at xs
chain-lower entries nexts least less at [] l is = is
chain-lower entries nexts least less at (x ∷ xs) l is = (omega (arith, l, is.0), is.1, is.2)

-- a chain goes on beyond its least number, or has an end
pub chain-ahead : (entries : List RawEntry) (nexts : List ℕ) (least at : ℕ) (xs : List RawEntry)
    → least ≤ length entries → IsChain entries nexts least at xs → least ≤ at
chain-ahead entries nexts least at [] l is = omega (arith, l, is)
chain-ahead entries nexts least at (x ∷ xs) l is = is.0

-- the chains of the entries from a number on
abbrev pub AreChains : Parts → List RawEntry → List ℕ → List ℕ → ℕ → Type 0
AreChains p entries firsts nexts least = (e : ℕ) → e < length p.events
    → IsChain entries nexts least (get_or firsts e 0) (entries_of p e (drop least entries))

-- at the end there are none
drop-end : {A : Type 0} (xs : List A) (n : ℕ) → n ≡ length xs → drop n xs ≡ []
drop-end [] zero is = refl
drop-end [] (suc n) is = refl
drop-end (x ∷ xs) zero is = absurd (omega (arith, is))
drop-end (x ∷ xs) (suc n) is = drop-end xs n (omega (arith, is))

pub chains-none : (p : Parts) (entries : List RawEntry) (firsts nexts : List ℕ) (least : ℕ) → least ≡ length entries
    → firsts ≡ replicate (length p.events) (length entries) → AreChains p entries firsts nexts least
chains-none p entries firsts nexts least is all e l =
    let first : get_or firsts e 0 ≡ length entries =
    ap (λ xs. get_or xs e 0) all ∙ get_or-replicate (length p.events) e (length entries) 0 l in
    subst (λ xs. IsChain entries nexts least (get_or firsts e 0) (entries_of p e xs)) (sym (drop-end entries least is))
    (let past : length entries ≤ get_or firsts e 0 = omega (arith, first) in past)

-- one more entry, which is linked before those of its event
pub chains-more : (p : Parts) (entries : List RawEntry) (firsts nexts : List ℕ) (k : ℕ) (entry : RawEntry)
    (event : EventId)
    → AreChains p entries firsts nexts (k + 1) → slice_get entries k ≡ Some entry
    → event_named p entry.reference.id ≡ Some event → event.0 < length firsts → k < length nexts
    → AreChains p entries (set firsts event.0 k) (set nexts k (get_or firsts event.0 0)) k
chains-more p entries firsts nexts k entry event old at named within room e l =
    let firsts' = set firsts event.0 k in
    let first = get_or firsts event.0 0 in
    let nexts' = set nexts k first in
    let later = drop (k + 1) entries in
    let kept : IsChain entries nexts' (k + 1) (get_or firsts e 0) (entries_of p e later) =
    chain-kept entries nexts (k + 1) (get_or firsts e 0) (entries_of p e later) k first (omega arith) (old e l) in
    subst (λ xs. IsChain entries nexts' k (get_or firsts' e 0) (entries_of p e xs))
    (sym (drop-there entries k entry at))
    (elim (cases_eq e event.0) [
      | inl own ↦
          (let here : get_or firsts' e 0 ≡ k =
          ap (λ n. get_or firsts' n 0) own ∙ get_or-set_same firsts event.0 k 0 within in
          let next : get_or nexts' k 0 ≡ get_or firsts e 0 =
          get_or-set_same nexts k first 0 room ∙ ap (λ n. get_or firsts n 0) (sym own) in
          let mine : is_event e (event_named p entry.reference.id) ≡ true =
          ap (is_event e) named ∙ eq-eqb event.0 e (sym own) in
          let chain : IsChain entries nexts' k k (entry ∷ entries_of p e later) = (
            omega arith,
            at,
            subst (λ n. IsChain entries nexts' (k + 1) n (entries_of p e later)) (sym next) kept,
          ) in
          let taken : IsChain entries nexts' k (get_or firsts' e 0) (entry ∷ entries_of p e later) =
          subst (λ n. IsChain entries nexts' k n (entry ∷ entries_of p e later)) (sym here) chain in
          subst (λ b. IsChain entries nexts' k (get_or firsts' e 0)
          (if b then entry ∷ entries_of p e later else entries_of p e later)) (sym mine) taken)
      | inr other ↦
          (let there : get_or firsts' e 0 ≡ get_or firsts e 0 =
          get_or-set_other firsts event.0 e k 0 other in
          let not_mine : is_event e (event_named p entry.reference.id) ≡ false =
          ap (is_event e) named ∙ ne_eqb event.0 e (λ same. other (sym same)) in
          let taken : IsChain entries nexts' k (get_or firsts' e 0) (entries_of p e later) =
          subst (λ n. IsChain entries nexts' k n (entries_of p e later)) (sym there)
          (chain-lower entries nexts' (k + 1) k (get_or firsts e 0) (entries_of p e later) (omega arith) kept) in
          subst (λ b. IsChain entries nexts' k (get_or firsts' e 0)
          (if b then entry ∷ entries_of p e later else entries_of p e later)) (sym not_mine) taken)
    ])

-- the next entry of a chain, and those after it
pub record IsNext (entries : List RawEntry) (nexts : List ℕ) (at : ℕ) (rest : List RawEntry) : Type 0 where
  pub entry : RawEntry
  pub later : List RawEntry
  pub is : rest ≡ entry ∷ later
  pub found : slice_get entries at ≡ Some entry
  pub chain : IsChain entries nexts 0 (get_or nexts at 0) later
  pub ahead : at + 1 ≤ get_or nexts at 0

pub chain-next : (entries : List RawEntry) (nexts : List ℕ) (at : ℕ) (rest : List RawEntry)
    → IsChain entries nexts 0 at rest → at < length entries → IsNext entries nexts at rest
chain-next entries nexts at [] is l = absurd (omega (arith, is, l))
chain-next entries nexts at (x ∷ xs) is l = record {
  entry = x;
  later = xs;
  is = refl;
  found = is.1;
  chain = chain-lower entries nexts (at + 1) 0 (get_or nexts at 0) xs (omega arith) is.2;
  ahead = chain-ahead entries nexts (at + 1) (get_or nexts at 0) xs (omega (arith, l)) is.2;
}

-- at its end a chain has no entry left
pub chain-over : (entries : List RawEntry) (nexts : List ℕ) (least at : ℕ) (rest : List RawEntry)
    → IsChain entries nexts least at rest → length entries ≤ at → rest ≡ []
chain-over entries nexts least at [] is l = refl
chain-over entries nexts least at (x ∷ xs) is l = absurd (omega (arith, l, slice_get_within entries at x is.1))

-- a chain in lists that are the same
pub same-chain : (entries : List RawEntry) (firsts nexts firsts' nexts' : List ℕ) (e : ℕ) (xs : List RawEntry)
    → firsts' ≡ firsts → nexts' ≡ nexts → IsChain entries nexts 0 (get_or firsts e 0) xs
    → IsChain entries nexts' 0 (get_or firsts' e 0) xs
same-chain entries firsts nexts firsts' nexts' e xs same_firsts same_nexts is =
    subst (λ ns. IsChain entries ns 0 (get_or firsts' e 0) xs) (sym same_nexts)
    (subst (λ fs. IsChain entries nexts 0 (get_or fs e 0) xs) (sym same_firsts) is)
