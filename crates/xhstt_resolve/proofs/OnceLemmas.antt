-- What is collected of groups that are followed out once is what is collected of them each time.
use Rattle.std.proofs.Common.{◌≡◌, ◌∙◌, sym, ap, subst, ℕ, ◌<◌, Bool, true, false, cond, not, List, []}
use Rattle.std.proofs.Common.{◌∷◌, ◌++◌, length, get_or, set, Option, Some, None, refl, if◌then◌else◌, eqb, inl, inr, ◌⊎◌}
use Rattle.std.specs.List.{All, cons_option, filter, flat_map, fold}
use Rattle.std.specs.Option.{option_map_or}
use Rattle.std.proofs.lemmas.Bool.{eq-eqb, ne_eqb, cases_eq}
use Rattle.std.proofs.lemmas.List.{get_or-set_same, get_or-set_other, length-set, length-replicate}
use Rattle.std.proofs.lemmas.List.Sums.{fold-append}
use Rattle.std.proofs.lemmas.List.Elements.{All-nil, All-cons, All-head, All-tail}
use Rattle.khe_base.specs.IdSet.{has_member, with_member, no_members}
use Rattle.khe_base.specs.Names.{number_of}
use Rattle.khe_base.proofs.IdSetLemmas.{member_below, with_member-member}
use Rattle.xhstt_resolve.specs.Collected.{with_mention, no_mentions}
use Rattle.xhstt_resolve.specs.Members.{first_mentions, numbers_of}
use Rattle.xhstt_resolve.specs.Tables.{IsTable, members_numbered, members_at, listed_at, listed_once}
use Rattle.xhstt_resolve.specs.declared.collecting.Mentions.{Mentions}
use Rattle.xhstt_resolve.specs.declared.tables.Table.{Table}
use Rattle.xhstt_shape.specs.declared.records.Ref.{Ref}

-- a member stays one
member_stays : (s : List Bool) (m n : ℕ) → has_member s m ≡ true → has_member (with_member s n) m ≡ true
member_stays s m n h = by (cases_eq m n)
  where
    by : (m ≡ n) ⊎ (m ≡ n → ⊥) → has_member (with_member s n) m ≡ true
    by (inl e) = ap (λ k. get_or (set s n true) k false) e
        ∙ get_or-set_same s n true false (subst (λ k. k < length s) e (member_below s m h))
    by (inr e) = get_or-set_other s n m true false e ∙ h

abbrev is_other : ℕ → ℕ → Bool
is_other n k = not (eqb k n)

-- what numbers are collected in, with the set of those that it has: to collect one of these again
-- changes nothing
module _ {X : Type 0} (added : X → ℕ → X) (seen : X → List Bool)
    (known : (c : X) (n : ℕ) → has_member (seen c) n ≡ true → added c n ≡ c)
    (more : (c : X) (n : ℕ) → seen (added c n) ≡ with_member (seen c) n) where
  abbrev AreKnown : X → List ℕ → Type 0
  AreKnown c ns = All (λ n. has_member (seen c) n ≡ true) ns

  abbrev AreWithin : X → List ℕ → Type 0
  AreWithin c ns = All (λ n. n < length (seen c)) ns

  unchanged : (ns : List ℕ) (c : X) → AreKnown c ns → fold added c ns ≡ c
  unchanged [] c h = refl
  unchanged (n ∷ ns) c h =
      ap (λ x. fold added x ns) (known c n (All-head (λ k. has_member (seen c) k ≡ true) n ns h))
      ∙ unchanged ns c (All-tail (λ k. has_member (seen c) k ≡ true) n ns h)

  still : (ns : List ℕ) (c : X) (m : ℕ) → has_member (seen c) m ≡ true → has_member (seen (fold added c ns)) m ≡ true
  still [] c m h = h
  still (n ∷ ns) c m h =
      still ns (added c n) m (ap (λ s. has_member s m) (more c n) ∙ member_stays (seen c) m n h)

  size : (c : X) (n : ℕ) → length (seen (added c n)) ≡ length (seen c)
  size c n = ap length (more c n) ∙ length-set (seen c) n true

  sizes : (ns : List ℕ) (c : X) → length (seen (fold added c ns)) ≡ length (seen c)
  sizes [] c = refl
  sizes (n ∷ ns) c = sizes ns (added c n) ∙ size c n

  -- what was collected is known
  collected_known : (ns : List ℕ) (c : X) → AreWithin c ns → AreKnown (fold added c ns) ns
  collected_known [] c h = All-nil (λ n. has_member (seen c) n ≡ true)
  collected_known (n ∷ ns) c h =
      let below : n < length (seen c) = All-head (λ k. k < length (seen c)) n ns h in
      let later : AreWithin c ns = All-tail (λ k. k < length (seen c)) n ns h in
      All-cons (λ k. has_member (seen (fold added c (n ∷ ns))) k ≡ true) n ns
      (still ns (added c n) n (ap (λ s. has_member s n) (more c n) ∙ get_or-set_same (seen c) n true false below))
      (collected_known ns (added c n) (subst (λ l. All (λ k. k < l) ns) (sym (size c n)) later))

  module _ (f : ℕ → List ℕ) where
    -- a group whose members are known may be passed over
    passed : (n : ℕ) (ks : List ℕ) (c : X) → AreKnown c (f n)
        → fold added c (flat_map f (filter (is_other n) ks)) ≡ fold added c (flat_map f ks)
    passed n [] c h = refl
    passed n (k ∷ ks) c h = by (cases_eq k n) (passed n ks)
      where
        by : (k ≡ n) ⊎ (k ≡ n → ⊥)
            → ((x : X) → AreKnown x (f n)
            → fold added x (flat_map f (filter (is_other n) ks)) ≡ fold added x (flat_map f ks))
            → fold added c (flat_map f (cond (is_other n k) (k ∷ filter (is_other n) ks)
            (filter (is_other n) ks))) ≡ fold added c (f k ++ flat_map f ks)
        by (inl e) rest =
            ap (λ b. fold added c (flat_map f (cond (not b) (k ∷ filter (is_other n) ks) (filter (is_other n) ks))))
            (eq-eqb k n e)
            ∙ rest c h
            ∙ ap (λ x. fold added x (flat_map f ks))
            (sym (unchanged (f k) c (subst (λ m. AreKnown c (f m)) (sym e) h)))
            ∙ sym (fold-append added c (f k) (flat_map f ks))
        by (inr e) rest =
            ap (λ b. fold added c (flat_map f (cond (not b) (k ∷ filter (is_other n) ks) (filter (is_other n) ks))))
            (ne_eqb k n e)
            ∙ fold-append added c (f k) (flat_map f (filter (is_other n) ks))
            ∙ rest (fold added c (f k)) (λ i d l. still (f k) c (get_or (f n) i d) (h i d l))
            ∙ sym (fold-append added c (f k) (flat_map f ks))

    -- and so each group is followed out once
    once : (ks : List ℕ) (c : X) → All (λ k. AreWithin c (f k)) ks
        → fold added c (flat_map f (first_mentions ks)) ≡ fold added c (flat_map f ks)
    once [] c h = refl
    once (k ∷ ks) c h =
        let after = fold added c (f k) in
        let here : AreWithin c (f k) = All-head (λ n. AreWithin c (f n)) k ks h in
        let later : All (λ n. AreWithin c (f n)) ks = All-tail (λ n. AreWithin c (f n)) k ks h in
        fold-append added c (f k) (flat_map f (filter (is_other k) (first_mentions ks)))
        ∙ passed k (first_mentions ks) after (collected_known (f k) c here)
        ∙ once ks after (subst (λ l. All (λ n. All (λ m. m < l) (f n)) ks) (sym (sizes (f k) c)) later)
        ∙ sym (fold-append added c (f k) (flat_map f ks))

-- groups by their numbers have the members of the groups that are named
numbered_members : (t : Table) (groups : List Ref)
    → flat_map (members_numbered t) (numbers_of t.group_names.now groups) ≡ flat_map (λ g. members_at t g.id) groups
numbered_members t [] = refl
numbered_members t (g ∷ gs) = by (number_of g.id t.group_names.now) (numbered_members t gs)
  where
    by : (o : Option ℕ)
        → flat_map (members_numbered t) (numbers_of t.group_names.now gs) ≡ flat_map (λ r. members_at t r.id) gs
        → flat_map (members_numbered t) (cons_option o (numbers_of t.group_names.now gs))
        ≡ option_map_or (members_numbered t) o [] ++ flat_map (λ r. members_at t r.id) gs
    by None rest = rest
    by (Some n) rest = ap (λ r. members_numbered t n ++ r) rest

numbered_within : (t : Table) → IsTable t → (groups : List Ref)
    → All (λ k. All (λ n. n < length t.names.now) (members_numbered t k)) (numbers_of t.group_names.now groups)
numbered_within t is [] = All-nil (λ k. All (λ n. n < length t.names.now) (members_numbered t k))
numbered_within t is (g ∷ gs) = by (number_of g.id t.group_names.now) (is.within g.id) (numbered_within t is gs)
  where
    by : (o : Option ℕ) → All (λ n. n < length t.names.now) (option_map_or (members_numbered t) o [])
        → All (λ k. All (λ n. n < length t.names.now) (members_numbered t k)) (numbers_of t.group_names.now gs)
        → All (λ k. All (λ n. n < length t.names.now) (members_numbered t k))
        (cons_option o (numbers_of t.group_names.now gs))
    by None h rest = rest
    by (Some k) h rest = All-cons (λ k. All (λ n. n < length t.names.now) (members_numbered t k)) k
        (numbers_of t.group_names.now gs) h rest

module _ {X : Type 0} (added : X → ℕ → X) (seen : X → List Bool)
    (known : (c : X) (n : ℕ) → has_member (seen c) n ≡ true → added c n ≡ c)
    (more : (c : X) (n : ℕ) → seen (added c n) ≡ with_member (seen c) n) where
  collected_once : (t : Table) → IsTable t → (groups singles : List Ref) (c : X)
      → length (seen c) ≡ length t.names.now
      → fold added c (listed_once t groups singles) ≡ fold added c (listed_at t groups singles)
  collected_once t is groups singles c whole =
      let ks = numbers_of t.group_names.now groups in
      let f = members_numbered t in
      let rest = numbers_of t.names.now singles in
      fold-append added c (flat_map f (first_mentions ks)) rest
      ∙ ap (λ x. fold added x rest) (once added seen known more f ks c
      (subst (λ l. All (λ k. All (λ n. n < l) (f k)) ks) (sym whole) (numbered_within t is groups)))
      ∙ ap (λ ns. fold added (fold added c ns) rest) (numbered_members t groups)
      ∙ sym (fold-append added c (flat_map (λ g. members_at t g.id) groups) rest)

-- a mention of what was mentioned changes nothing, and each other one is one more member
mention_known : (m : Mentions) (n : ℕ) → has_member m.seen n ≡ true → with_mention m n ≡ m
mention_known m n h =
    ap (λ b. if b then m else record { seen = with_member m.seen n; numbers = m.numbers ++ n ∷ [] }) h

mention_more : (m : Mentions) (n : ℕ) → (with_mention m n).seen ≡ with_member m.seen n
mention_more m n = by (has_member m.seen n) refl
  where
    by : (b : Bool) → has_member m.seen n ≡ b
        → (if b then m else record { seen = with_member m.seen n; numbers = m.numbers ++ n ∷ [] }).seen
        ≡ with_member m.seen n
    by true e = sym (with_member-member m.seen n false (member_below m.seen n e) e)
    by false e = refl

pub mentions_once : (t : Table) → IsTable t → (groups singles : List Ref)
    → fold with_mention (no_mentions (length t.names.now)) (listed_once t groups singles)
    ≡ fold with_mention (no_mentions (length t.names.now)) (listed_at t groups singles)
mentions_once t is groups singles =
    collected_once with_mention (λ m. m.seen) mention_known mention_more t is groups singles
    (no_mentions (length t.names.now)) (length-replicate (length t.names.now) false)

pub set_once : (t : Table) → IsTable t → (groups singles : List Ref)
    → fold with_member (no_members (length t.names.now)) (listed_once t groups singles)
    ≡ fold with_member (no_members (length t.names.now)) (listed_at t groups singles)
set_once t is groups singles =
    collected_once with_member (λ s. s) (λ s n h. with_member-member s n false (member_below s n h) h) (λ s n. refl) t
    is groups singles (no_members (length t.names.now)) (length-replicate (length t.names.now) false)
