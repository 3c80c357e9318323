-- Numbers of names, members and sets: all are in range.
use Rattle.std.proofs.Common.{ℕ, ◌≡◌, ◌+◌, ◌<◌, suc, Bool, true, false, not, cond, if◌then◌else◌, Option, Some, None}
use Rattle.std.proofs.Common.{List, [], ◌∷◌, ◌++◌, length, map, refl, sym, ap, subst, ◌∙◌, flat_map, filter, ltb, eqb}
use Rattle.std.proofs.Common.{All, arith}
use Rattle.std.specs.List.{position_or_len, cons_option, fold}
use Rattle.std.specs.Str.{bytes_eq}
use Rattle.std.proofs.lemmas.Bool.{ltb-true}
use Rattle.std.proofs.lemmas.List.{length-set, length-replicate}
use Rattle.std.proofs.lemmas.List.Concat.{flat_map-cons}
use Rattle.std.proofs.lemmas.List.Elements.{All-nil, All-cons, All-append, All-weaker, All-filter, All-head, All-tail}
use Rattle.khe_base.proofs.ListLemmas.{below_length}
use Rattle.khe_base.specs.IdSet.{with_member, no_members}
use Rattle.khe_base.specs.Names.{is_among_names, number_of}
use Rattle.xhstt_references.specs.References.{unknown}
use Rattle.xhstt_resolve.specs.Members.{numbers_from, numbers_where, members, members_in, numbers_of, listed}
use Rattle.xhstt_resolve.specs.Members.{first_mentions, set_of}
use Rattle.xhstt_shape.specs.declared.records.Ref.{Ref}
use Rattle.xhstt_references.proofs.UnknownLemmas.{number_below}

-- an Id among others has a number among them
pub record IsKnown (id : List ℕ) (ids : List (List ℕ)) : Type 0 where
  pub n : ℕ
  pub is : number_of id ids ≡ Some n
  pub within : n < length ids

pub known : (id : List ℕ) (ids : List (List ℕ)) → is_among_names id ids ≡ true → IsKnown id ids
known id ids e =
    let p = λ (n : List ℕ). bytes_eq id n in
    let below : ltb (position_or_len p ids) (length ids) ≡ true = below_length p ids ∙ e in
    record {
      n = position_or_len p ids;
      is = ap (λ b. cond b (Some (position_or_len p ids)) None) below;
      within = ltb-true _ _ below;
    }

-- a reference that is not unknown is among the Ids
pub among : (ids : List (List ℕ)) (r : Ref) (rs : List Ref) → unknown ids (r ∷ rs) ≡ []
    → (is_among_names r.id ids ≡ true) × (unknown ids rs ≡ [])
among ids r rs e = by (is_among_names r.id ids) e
  where
    by : (b : Bool) → map (λ x. x.at) (cond (not b) (r ∷ filter (λ x. not (is_among_names x.id ids)) rs)
        (filter (λ x. not (is_among_names x.id ids)) rs)) ≡ [] → (b ≡ true) × (unknown ids rs ≡ [])
    by true e = (refl, e)
    by false e = absurd (let g : ⊥ = cc in g)

-- all elements of joined lists
pub All-flat_map : {A B : Type 0} (P : B → Type 0) (f : A → List B) (xs : List A) → ((x : A) → All P (f x))
    → All P (flat_map f xs)
All-flat_map P f [] each = All-nil P
All-flat_map P f (x ∷ xs) each = subst (All P) (sym (flat_map-cons f x xs))
    (All-append P (f x) (flat_map f xs) (each x) (All-flat_map P f xs each))

module _ {X : Type 0} (test : X → Bool) where
  numbers_from-within : (k : ℕ) (xs : List X) → All (λ n. n < k + length xs) (numbers_from test k xs)
  numbers_from-within k [] = All-nil (λ n. n < k + 0)
  numbers_from-within k (x ∷ xs) =
      let wider : (n : ℕ) → n < k + 1 + length xs → n < k + suc (length xs) = λ n l. omega arith in
      by (test x) (All-weaker (λ n. n < k + 1 + length xs) (λ n. n < k + suc (length xs)) wider
      (numbers_from test (k + 1) xs) (numbers_from-within (k + 1) xs))
    where
      by : (b : Bool) → All (λ n. n < k + suc (length xs)) (numbers_from test (k + 1) xs)
          → All (λ n. n < k + suc (length xs)) ((if b then k ∷ [] else []) ++ numbers_from test (k + 1) xs)
      by true later = All-cons (λ n. n < k + suc (length xs)) k (numbers_from test (k + 1) xs) (omega arith) later
      by false later = later

  -- the numbers of items are below their number
  pub numbers_where-within : (xs : List X) → All (λ n. n < length xs) (numbers_where test xs)
  numbers_where-within xs = All-weaker (λ n. n < 0 + length xs) (λ n. n < length xs) (λ n l. omega arith)
      (numbers_from test 0 xs) (numbers_from-within 0 xs)

-- members are below the number of items
pub members_in-within : {X : Type 0} (ids : List (List ℕ)) (groups : X → List (List ℕ)) (xs : List X) (id : List ℕ)
    → All (λ n. n < length xs) (members_in ids groups xs id)
members_in-within ids groups xs id = by (is_among_names id ids)
  where
    by : (b : Bool) → All (λ n. n < length xs) (if b then members groups xs id else [])
    by true = numbers_where-within (λ x. is_among_names id (groups x)) xs
    by false = All-nil (λ n. n < length xs)

-- numbers of names are below the number of names
pub numbers_of-within : (ids : List (List ℕ)) (refs : List Ref) → All (λ n. n < length ids) (numbers_of ids refs)
numbers_of-within ids [] = All-nil (λ n. n < length ids)
numbers_of-within ids (r ∷ refs) = by (number_of r.id ids) refl (numbers_of-within ids refs)
  where
    by : (o : Option ℕ) → number_of r.id ids ≡ o → All (λ n. n < length ids) (numbers_of ids refs)
        → All (λ n. n < length ids) (cons_option o (numbers_of ids refs))
    by None e later = later
    by (Some n) e later = All-cons (λ m. m < length ids) n (numbers_of ids refs) (number_below r.id ids n e) later

-- what is listed is in range where members and names are
pub listed-within : (size : ℕ) (in_group : List ℕ → List ℕ) (ids : List (List ℕ)) (groups singles : List Ref)
    → length ids ≡ size → ((id : List ℕ) → All (λ n. n < size) (in_group id))
    → All (λ n. n < size) (listed in_group ids groups singles)
listed-within size in_group ids groups singles same each =
    All-append (λ n. n < size) (flat_map (λ g. in_group g.id) groups) (numbers_of ids singles)
    (All-flat_map (λ n. n < size) (λ (g : Ref). in_group g.id) groups (λ g. each g.id))
    (subst (λ s. All (λ n. n < s) (numbers_of ids singles)) same (numbers_of-within ids singles))

-- the first mentions have what all have
pub All-first_mentions : (P : ℕ → Type 0) (ns : List ℕ) → All P ns → All P (first_mentions ns)
All-first_mentions P [] all = All-nil P
All-first_mentions P (n ∷ ns) all =
    All-cons P n _ (All-head P n ns all) (All-filter (λ m. not (eqb m n)) P (first_mentions ns)
    (All-first_mentions P ns (All-tail P n ns all)))

-- a set keeps its size
length-members : (numbers : List ℕ) (bits : List Bool) → length (fold with_member bits numbers) ≡ length bits
length-members [] bits = refl
length-members (n ∷ ns) bits = length-members ns (with_member bits n) ∙ length-set bits n true

pub length-set_of : (size : ℕ) (numbers : List ℕ) → length (set_of size numbers) ≡ size
length-set_of size numbers = length-members numbers (no_members size) ∙ length-replicate size false
