-- The set of one entry is replaced.
use Rattle.std.proofs.Common.{ℕ, ◌<◌, ◌≡◌, ◌≢◌, inl, inr, Bool, List, [], ◌∷◌, ◌++◌, length, get_or, set, sym, ap, ◌∙◌}
use Rattle.std.proofs.Common.{subst, arith, get_or-set_same, get_or-set_other, length-set}
use Rattle.std.proofs.lemmas.List.{get_or_default, length-append}
use Rattle.std.proofs.Math.Seq.{get_or-append_seam}
use Rattle.std.proofs.lemmas.List.Elements.{All-get_or, All-push, All-set}
use Rattle.std.proofs.lemmas.Grind.{get_or_default_zero}
use Rattle.demand_matching.proofs.Counting.{cases_eqb}
use Rattle.hall_report.specs.Sets.{AreSets, set_at}

-- by one of its own, which is added
pub pushed : (shared size own entry : ℕ) (sets news : List (List Bool)) (entries : List ℕ) (one : List Bool)
    → AreSets shared size sets entries → entry < length entries → length one ≡ size → own ≡ length sets
    → news ≡ sets ++ one ∷ [] → AreSets shared size news (set entries entry own)
pushed shared size own entry sets news entries one are room sized last is =
    subst (λ k. AreSets shared size k (set entries entry own)) (sym is) (record {
      sized = All-push (λ x. length x ≡ size) sets one are.sized sized;
      given = λ i l. elim (cases_eqb i entry) [
        | inl eq ↦ (let a = mine i eq in let b = length-append sets (one ∷ []) in omega (arith, a, b, last))
        | inr ne ↦ (let a = other i ne in let b = length-append sets (one ∷ []) in let d =
            are.given i (let m = length-set entries entry own in omega (arith, m, l)) in omega (arith, a, b, d))
      ];
      first = (let b = length-append sets (one ∷ []) in let f = are.first in omega (arith, b, f));
      apart = λ i j l g high same. elim (cases_eqb i entry) [
        | inl eq ↦ elim (cases_eqb j entry) [
          | inl eqj ↦ eq ∙ sym eqj
          | inr nej ↦ absurd (let a = mine i eq in let b = other j nej in let d =
              are.given j (let m = length-set entries entry own in omega (arith, m, g)) in
              omega (arith, a, b, d, same, last))
        ]
        | inr ne ↦ elim (cases_eqb j entry) [
          | inl eqj ↦ absurd (let a = mine j eqj in let b = other i ne in let d =
              are.given i (let m = length-set entries entry own in omega (arith, m, l)) in
              omega (arith, a, b, d, same, last))
          | inr nej ↦ are.apart i j (let m = length-set entries entry own in omega (arith, m, l))
              (let m = length-set entries entry own in omega (arith, m, g))
              (let b = other i ne in omega (arith, b, high)) (sym (other i ne) ∙ same ∙ other j nej)
        ]
      ];
    })
  where
    mine : (i : ℕ) → i ≡ entry → get_or (set entries entry own) i 0 ≡ own
    mine i eq = ap (λ k. get_or (set entries entry own) k 0) eq ∙ get_or-set_same entries entry own 0 room

    other : (i : ℕ) → i ≢ entry → get_or (set entries entry own) i 0 ≡ get_or entries i 0
    other i ne = get_or-set_other entries entry i own 0 ne

pub pushed_at : (own entry : ℕ) (sets news : List (List Bool)) (entries : List ℕ) (one : List Bool)
    → entry < length entries → own ≡ length sets → news ≡ sets ++ one ∷ []
    → set_at news (set entries entry own) entry ≡ one
pushed_at own entry sets news entries one room last is =
    ap (λ k. get_or k (get_or (set entries entry own) entry 0) []) is
    ∙ ap (λ k. get_or (sets ++ one ∷ []) k []) (get_or-set_same entries entry own 0 room ∙ last)
    ∙ get_or-append_seam sets one [] []

-- or in its place
pub owned : (shared size number : ℕ) (sets : List (List Bool)) (entries : List ℕ) (one : List Bool)
    → AreSets shared size sets entries → length one ≡ size → AreSets shared size (set sets number one) entries
owned shared size number sets entries one are sized = record {
  sized = All-set (λ x. length x ≡ size) sets number one sized are.sized;
  given = λ i l. (let a = are.given i l in let b = length-set sets number one in omega (arith, a, b));
  first = (let a = are.first in let b = length-set sets number one in omega (arith, a, b));
  apart = are.apart;
}

-- the set of an entry, as it is read
pub read_at : (shared size entry number : ℕ) (sets slice : List (List Bool)) (entries : List ℕ) (one : List Bool)
    → AreSets shared size sets entries → entry < length entries → number ≡ get_or entries entry number → slice ≡ sets
    → one ≡ get_or slice number one
    → (one ≡ set_at sets entries entry) × (length one ≡ size)
read_at shared size entry number sets slice entries one are room named same «is» =
    let at : number ≡ get_or entries entry 0 = named ∙ get_or_default_zero entries entry number room in
    let there : number < length sets = let g = are.given entry room in omega (arith, g, at) in
    let found : one ≡ get_or sets number [] = «is» ∙ ap (λ k. get_or k number one) same
    ∙ get_or_default sets number one [] there in (
      found ∙ ap (λ k. get_or sets k []) at,
      ap length found
          ∙ All-get_or (λ x. length x ≡ size) sets number [] there are.sized,
    )
