-- Numbers that are collected, each at its first mention.
use Rattle.std.proofs.Common.{◌≡◌, ◌∙◌, sym, ap, subst, ℕ, ◌<◌, ◌≤◌, ◌*◌, ◌^◌, arith, Bool, true, false, cond, not}
use Rattle.std.proofs.Common.{◌&&◌, List, [], ◌∷◌, ◌++◌, length, get_or, set, replicate, Option, Some, None, refl}
use Rattle.std.proofs.Common.{if◌then◌else◌, eqb, inl, inr, ◌⊎◌}
use Rattle.std.specs.List.{All, cons_option, filter, flat_map, fold}
use Rattle.std.proofs.lemmas.Bool.{eq-eqb, ne_eqb, cases_eq, cases_lt}
use Rattle.std.proofs.lemmas.List.{append-nil, append_assoc, get_or-set_same, get_or-set_other, get_or-replicate}
use Rattle.std.proofs.lemmas.List.{get_or_past, length-map, length-set, length-replicate, length_push}
use Rattle.std.proofs.lemmas.List.Elements.{All-nil, All-cons, All-head, All-tail, All-append}
use Rattle.khe_base.specs.IdSet.{has_member, with_member, no_members, member_count, IsCounted}
use Rattle.khe_base.specs.Names.{number_of}
use Rattle.khe_base.specs.declared.limits.TheConstants.{EVENTS}
use Rattle.khe_base.proofs.IdSetLemmas.{IsCounted-with_member}
use Rattle.std.proofs.lemmas.List.Folds.{sum_by-replicate}
use Rattle.std.proofs.lemmas.List.Sums.{count_by-le-length}
use Rattle.xhstt_resolve.specs.Collected.{with_mention, no_mentions}
use Rattle.xhstt_resolve.specs.Members.{first_mentions, listed_events, numbers_of}
use Rattle.xhstt_resolve.specs.Tables.{IsLookup, IsTable, members_at, listed_at}
use Rattle.xhstt_resolve.specs.declared.collecting.Mentions.{Mentions}
use Rattle.xhstt_resolve.specs.declared.tables.Lookup.{Lookup}
use Rattle.xhstt_resolve.specs.declared.tables.Table.{Table}
use Rattle.xhstt_resolve.proofs.JoinedLemmas.{number_of_place}
use Rattle.xhstt_resolve.proofs.TablesLemmas.{listed-at}
use Rattle.xhstt_shape.specs.declared.records.Ref.{Ref}

-- one filter after another
filter_twice : (p q r : ℕ → Bool) → ((n : ℕ) → (q n && p n) ≡ r n) → (ns : List ℕ)
    → filter p (filter q ns) ≡ filter r ns
filter_twice p q r e [] = refl
filter_twice p q r e (n ∷ ns) =
    by (q n) (p n) (filter p (filter q ns)) ∙ (λ i. cond (e n i) (n ∷ filter_twice p q r e ns i)
    (filter_twice p q r e ns i))
  where
    by : (x y : Bool) (rest : List ℕ) → filter p (cond x (n ∷ filter q ns) (filter q ns))
        ≡ cond (x && p n) (n ∷ filter p (filter q ns)) (filter p (filter q ns))
    by true y rest = refl
    by false y rest = refl

-- whether a number is new, and not one more
new_but : (seen : List Bool) (n m : ℕ) → n < length seen
    → (not (eqb m n) && not (has_member seen m)) ≡ not (has_member (with_member seen n) m)
new_but seen n m l = by (cases_eq m n)
  where
    by : (m ≡ n) ⊎ (m ≡ n → ⊥) → (not (eqb m n) && not (has_member seen m)) ≡ not (has_member (with_member seen n) m)
    by (inl e) =
        ap (λ b. not b && not (has_member seen m)) (eq-eqb m n e)
        ∙ sym (ap not (ap (λ k. get_or (set seen n true) k false) e ∙ get_or-set_same seen n true false l))
    by (inr e) =
        ap (λ b. not b && not (has_member seen m)) (ne_eqb m n e)
        ∙ sym (ap not (get_or-set_other seen n m true false e))

-- a number that was seen is not the new one
new_same : (seen : List Bool) (n m : ℕ) → has_member seen n ≡ true
    → (not (eqb m n) && not (has_member seen m)) ≡ not (has_member seen m)
new_same seen n m h = by (cases_eq m n)
  where
    by : (m ≡ n) ⊎ (m ≡ n → ⊥) → (not (eqb m n) && not (has_member seen m)) ≡ not (has_member seen m)
    by (inl e) =
        ap (λ b. not b && not (has_member seen m)) (eq-eqb m n e)
        ∙ sym (ap not (ap (has_member seen) e ∙ h))
    by (inr e) = ap (λ b. not b && not (has_member seen m)) (ne_eqb m n e)

-- the mentions with one number more
noted : Mentions → ℕ → Mentions
noted m n = record { seen = with_member m.seen n; numbers = m.numbers ++ n ∷ [] }

-- what collecting numbers comes to
abbrev AreCollected : Mentions → List ℕ → Type 0
AreCollected m ns = (fold with_mention m ns).numbers ≡ m.numbers
    ++ filter (λ n. not (has_member m.seen n)) (first_mentions ns)

abbrev is_new : List Bool → ℕ → Bool
is_new seen k = not (has_member seen k)

abbrev is_other : ℕ → ℕ → Bool
is_other n k = not (eqb k n)

collected_step : (n : ℕ) (ns : List ℕ) (m : Mentions) → n < length m.seen → AreCollected m ns
    → AreCollected (noted m n) ns → AreCollected m (n ∷ ns)
unfolding noted
collected_step n ns m below stay go = by (has_member m.seen n) refl
  where
    by : (b : Bool) → has_member m.seen n ≡ b
        → (fold with_mention (if b then m else record { seen = with_member m.seen n; numbers = m.numbers ++ n ∷ [] })
        ns).numbers
        ≡ m.numbers ++ cond (not b) (n ∷ filter (is_new m.seen) (filter (is_other n) (first_mentions ns)))
        (filter (is_new m.seen) (filter (is_other n) (first_mentions ns)))
    by true e = stay ∙ ap (λ r. m.numbers ++ r) (sym
        (filter_twice (is_new m.seen) (is_other n) (is_new m.seen) (λ k. new_same m.seen n k e) (first_mentions ns)))
    by false e =
        go ∙ append_assoc m.numbers (n ∷ []) (filter (is_new (with_member m.seen n)) (first_mentions ns))
        ∙ ap (λ r. m.numbers ++ n ∷ r) (sym (filter_twice (is_new m.seen) (is_other n) (is_new (with_member m.seen n))
        (λ k. new_but m.seen n k below) (first_mentions ns)))

-- what is collected: what there was, and what is new at its first mention
collected : (ns : List ℕ) (m : Mentions) → All (λ n. n < length m.seen) ns → AreCollected m ns
unfolding noted
collected [] m h = sym (append-nil m.numbers)
collected (n ∷ ns) m h =
    let later : All (λ k. k < length m.seen) ns = All-tail (λ k. k < length m.seen) n ns h in
    let wide : All (λ k. k < length (noted m n).seen) ns = λ k d l. omega (arith, later k d l, length-set {A = Bool}) in
    collected_step n ns m (All-head (λ k. k < length m.seen) n ns h) (collected ns m later)
    (collected ns (noted m n) wide)

no_member : (size n : ℕ) → has_member (no_members size) n ≡ false
no_member size n = by (cases_lt n size)
  where
    by : (n < size) ⊎ (size ≤ n) → has_member (no_members size) n ≡ false
    by (inl l) = get_or-replicate size n false false l
    by (inr l) = let e : length (replicate size false) ≤ n = omega (arith, length-replicate {A = Bool}) in
        get_or_past (replicate size false) n false e

all_new : (size : ℕ) (ns : List ℕ) → filter (λ n. not (has_member (no_members size) n)) ns ≡ ns
all_new size [] = refl
all_new size (n ∷ ns) = λ i. cond (not (no_member size n i)) (n ∷ all_new size ns i) (all_new size ns i)

pub collected_mentions : (size : ℕ) (ns : List ℕ) → All (λ n. n < size) ns
    → (fold with_mention (no_mentions size) ns).numbers ≡ first_mentions ns
collected_mentions size ns h =
    let wide : All (λ n. n < length (no_members size)) ns =
    λ k d l. omega (arith, h k d l, length-replicate {A = Bool}) in
    collected ns (no_mentions size) wide ∙ all_new size (first_mentions ns)

-- what is listed is within the table
members_within : (t : Table) → IsTable t → (groups : List Ref)
    → All (λ n. n < length t.names.now) (flat_map (λ g. members_at t g.id) groups)
members_within t is [] = All-nil (λ n. n < length t.names.now)
members_within t is (g ∷ gs) =
    All-append (λ n. n < length t.names.now) (members_at t g.id) (flat_map (λ r. members_at t r.id) gs) (is.within g.id)
    (members_within t is gs)

pub numbers_within : (ids : List (List ℕ)) (refs : List Ref) → All (λ n. n < length ids) (numbers_of ids refs)
numbers_within ids [] = All-nil (λ n. n < length ids)
numbers_within ids (r ∷ rs) = by (number_of r.id ids) refl (numbers_within ids rs)
  where
    by : (o : Option ℕ) → number_of r.id ids ≡ o → All (λ n. n < length ids) (numbers_of ids rs)
        → All (λ n. n < length ids) (cons_option o (numbers_of ids rs))
    by None e h = h
    by (Some n) e h = All-cons (λ k. k < length ids) n (numbers_of ids rs) (number_of_place r.id ids n e).0 h

pub listed_within : (t : Table) → IsTable t → (groups singles : List Ref)
    → All (λ n. n < length t.names.now) (listed_at t groups singles)
listed_within t is groups singles =
    All-append (λ n. n < length t.names.now) (flat_map (λ g. members_at t g.id) groups) (numbers_of t.names.now singles)
    (members_within t is groups) (numbers_within t.names.now singles)

-- mentions of numbers below a size, as many as were seen
record AreCounted (size : ℕ) (m : Mentions) : Type 0 where
  sized : length m.seen ≡ size
  count : IsCounted m.seen (length m.numbers)

noted_counted : (size n : ℕ) (m : Mentions) → n < size → AreCounted size m → AreCounted size (with_mention m n)
noted_counted size n m l is = by (has_member m.seen n) refl
  where
    by : (b : Bool) → has_member m.seen n ≡ b → AreCounted size
        (if b then m else record { seen = with_member m.seen n; numbers = m.numbers ++ n ∷ [] })
    by true e = is
    by false e =
        let below : n < length m.seen = omega (arith, l, is.sized) in
        record {
          sized = length-set m.seen n true ∙ is.sized;
          count = subst (λ k. IsCounted (with_member m.seen n) k) (sym (length_push m.numbers n))
              (IsCounted-with_member m.seen n (length m.numbers) false below e is.count);
        }

all_counted : (size : ℕ) (ns : List ℕ) (m : Mentions) → All (λ n. n < size) ns → AreCounted size m
    → AreCounted size (fold with_mention m ns)
all_counted size [] m h is = is
all_counted size (n ∷ ns) m h is =
    all_counted size ns (with_mention m n) (All-tail (λ k. k < size) n ns h)
    (noted_counted size n m (All-head (λ k. k < size) n ns h) is)

-- no more numbers are collected than there are
pub collected_few : (size : ℕ) (ns : List ℕ) → size < 2 ^ 32 → All (λ n. n < size) ns
    → length (fold with_mention (no_mentions size) ns).numbers ≤ size
collected_few size ns small h =
    let none : member_count (no_members size) ≡ size * 0 =
    sum_by-replicate (λ (b : Bool). cond {A = ℕ} b 1 0) size false in
    let whole : length (no_members size) ≡ size = length-replicate size false in
    let start : AreCounted size (no_mentions size) =
    record {
      sized = whole;
      count = record { counted = omega (arith, none); small = omega (arith, whole, small) };
    } in
    let end = all_counted size ns (no_mentions size) h start in
    let bound = count_by-le-length (λ b. b) (fold with_mention (no_mentions size) ns).seen in
    omega (arith, end.count.counted, end.sized, bound)

-- no more items are listed than there are
pub mentions_few : (t : Table) → IsTable t → (groups singles : List Ref)
    → length (first_mentions (listed_at t groups singles)) ≤ length t.names.now
mentions_few t is groups singles =
    let ns = listed_at t groups singles in
    let within = listed_within t is groups singles in
    subst (λ ms. length ms ≤ length t.names.now) (collected_mentions (length t.names.now) ns within)
    (collected_few (length t.names.now) ns is.small within)

pub events_few : (l : Lookup) → IsLookup l → (groups events : List Ref)
    → length (first_mentions (listed_events l.instance.now groups events)) ≤ EVENTS
events_few l is groups events =
    let t = l.tables.events in
    let i = l.instance.now in
    omega (
      arith,
      mentions_few t is.tables.events.table groups events,
      ap (λ ns. length (first_mentions ns)) (listed-at t is.tables.events groups events),
      ap length is.tables.events.names,
      length-map i.events (λ e. e.id.text),
      is.counts.events,
    )
