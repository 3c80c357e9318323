-- The members of a set, word by word.
use Rattle.std.proofs.Common.{◌≡◌, ◌∙◌, sym, ap, ap₂, subst, refl, ℕ, ◌+◌, ◌-◌, ◌*◌, ◌^◌, ◌<◌, ◌≤◌, Bool, true, false}
use Rattle.std.proofs.Common.{cond, List, [], ◌∷◌, ◌++◌, map, map-id, length, get_or, arith, zero, suc, add-zero}
use Rattle.std.proofs.Common.{zero-add, filter}
use Rattle.std.specs.List.{range_with_len}
use Rattle.std.proofs.lemmas.List.{append-nil, map-append, append_assoc}
use Rattle.std.proofs.lemmas.List.FromFn.{filter_of_map_range_with_len_more}
use Rattle.khe_base.specs.Bits.{has_bit, is_set, words_for}
use Rattle.khe_base.specs.IdSet.{members_of}
use Rattle.khe_base.specs.StoredSets.{members_in, members_below, set_of_bits, IsStored}
use Rattle.khe_base.proofs.BitsLemmas.{has_bit-zero, is_set-place}
use Rattle.khe_base.proofs.IdSetLemmas.{length-set_of_bits, has_member-set_of_bits}

-- the numbers below one more number that pass a test
pub passing_more : (p : ℕ → Bool) (n : ℕ) → filter p (range_with_len 0 (n + 1)) ≡ filter p (range_with_len 0 n)
    ++ cond (p n) (n ∷ []) []
passing_more p n =
    ap (filter p) (sym (map-id (range_with_len 0 (n + 1))))
    ∙ filter_of_map_range_with_len_more p (λ x. x) 0 n n (omega arith)
    ∙ ap (λ xs. filter p xs ++ cond (p n) (n ∷ []) []) (map-id (range_with_len 0 n))

-- where none of the next numbers passes, they stay
passing_none : (p : ℕ → Bool) (a n : ℕ) → ((i : ℕ) → i < n → p (a + i) ≡ false)
    → filter p (range_with_len 0 (a + n)) ≡ filter p (range_with_len 0 a)
passing_none p a zero none = ap (λ m. filter p (range_with_len 0 m)) (add-zero a)
passing_none p a (suc n) none =
    let e : a + suc n ≡ a + n + 1 = omega arith in
    ap (λ m. filter p (range_with_len 0 m)) e ∙ passing_more p (a + n)
    ∙ ap (λ b. filter p (range_with_len 0 (a + n)) ++ cond b ((a + n) ∷ []) []) (none n (omega arith))
    ∙ append-nil (filter p (range_with_len 0 (a + n)))
    ∙ passing_none p a n (λ i h. none i (omega arith))

pub passing_stays : (p : ℕ → Bool) (a b : ℕ) → a ≤ b → ((t : ℕ) → a ≤ t → p t ≡ false)
    → filter p (range_with_len 0 b) ≡ filter p (range_with_len 0 a)
passing_stays p a b le none =
    let e : a + (b - a) ≡ b = omega arith in
    ap (λ m. filter p (range_with_len 0 m)) (sym e) ∙ passing_none p a (b - a) (λ i h. none (a + i) (omega arith))

-- and where they pass another test, those follow that pass it
passing_shifted : (p q : ℕ → Bool) (a n : ℕ) → ((i : ℕ) → i < n → p (a + i) ≡ q i)
    → filter p (range_with_len 0 (a + n)) ≡ filter p (range_with_len 0 a)
    ++ map (λ i. a + i) (filter q (range_with_len 0 n))
passing_shifted p q a zero same = ap (λ m. filter p (range_with_len 0 m)) (add-zero a)
    ∙ sym (append-nil (filter p (range_with_len 0 a)))
passing_shifted p q a (suc n) same =
    let e : a + suc n ≡ a + n + 1 = omega arith in
    let f : suc n ≡ n + 1 = omega arith in
    let shift = λ (i : ℕ). a + i in
    let before = filter p (range_with_len 0 a) in
    let part = filter q (range_with_len 0 n) in
    ap (λ m. filter p (range_with_len 0 m)) e ∙ passing_more p (a + n)
    ∙ ap₂ (λ xs b. xs ++ cond b ((a + n) ∷ []) []) (passing_shifted p q a n (λ i h. same i (omega arith)))
    (same n (omega arith))
    ∙ append_assoc before (map shift part) (cond (q n) ((a + n) ∷ []) [])
    ∙ ap (λ xs. before ++ (map shift part ++ xs)) (one (q n))
    ∙ ap (λ xs. before ++ xs) (sym (map-append shift part (cond (q n) (n ∷ []) []))
    ∙ ap (map shift) (sym (passing_more q n)))
    ∙ ap (λ m. before ++ map shift (filter q (range_with_len 0 m))) (sym f)
  where
    one : (b : Bool) → cond b ((a + n) ∷ []) [] ≡ map (λ i. a + i) (cond b (n ∷ []) [])
    one true = refl
    one false = refl

-- no bits of a word are no members
pub members_in-zero : (word first : ℕ) → members_in word first 0 ≡ []
unfolding members_in
members_in-zero word first = refl

-- one more bit of a word
pub members_in-more : (word first n : ℕ) → members_in word first (n + 1) ≡ members_in word first n
    ++ cond (has_bit word n) ((first + n) ∷ []) []
unfolding members_in
members_in-more word first n =
    ap (map (λ i. first + i)) (passing_more (has_bit word) n)
    ∙ map-append (λ i. first + i) (filter (has_bit word) (range_with_len 0 n)) (cond (has_bit word n) (n ∷ []) [])
    ∙ ap (λ xs. map (λ i. first + i) (filter (has_bit word) (range_with_len 0 n)) ++ xs) (one (has_bit word n))
  where
    one : (b : Bool) → map (λ i. first + i) (cond b (n ∷ []) []) ≡ cond b ((first + n) ∷ []) []
    one true = refl
    one false = refl

pub members_in-set : (xs : List ℕ) (word first n : ℕ) (b : Bool) → b ≡ has_bit word n → b ≡ true
    → xs ++ members_in word first n ++ (first + n) ∷ [] ≡ xs ++ members_in word first (n + 1)
members_in-set xs word first n b is set =
    append_assoc xs (members_in word first n) ((first + n) ∷ [])
    ∙ ap (λ c. xs ++ (members_in word first n ++ cond c ((first + n) ∷ []) [])) (sym set ∙ is)
    ∙ ap (λ ys. xs ++ ys) (sym (members_in-more word first n))

pub members_in-clear : (xs : List ℕ) (word first n : ℕ) (b : Bool) → b ≡ has_bit word n → b ≡ false
    → xs ++ members_in word first n ≡ xs ++ members_in word first (n + 1)
members_in-clear xs word first n b is clear =
    ap (λ ys. xs ++ ys)
    (sym (append-nil (members_in word first n)) ∙ ap (λ c. members_in word first n ++ cond c ((first + n) ∷ []) [])
    (sym clear ∙ is) ∙ sym (members_in-more word first n))

-- a word of 0 has none
pub members_in-nothing : (xs : List ℕ) (word first n : ℕ) → word ≡ 0 → xs ≡ xs ++ members_in word first n
unfolding members_in
members_in-nothing xs word first n z = sym (ap
    (λ w. xs ++ map (λ i. first + i) (filter (has_bit w) (range_with_len 0 n))) z
    ∙ ap (λ ys. xs ++ map (λ i. first + i) ys) none ∙ append-nil xs)
  where
    none : filter (has_bit 0) (range_with_len 0 n) ≡ []
    none = ap (λ m. filter (has_bit 0) (range_with_len 0 m)) (sym (zero-add n))
        ∙ passing_none (has_bit 0) 0 n (λ i h. has_bit-zero (0 + i))

pub members_below-zero : (words : List ℕ) → members_below words 0 ≡ []
unfolding members_below
members_below-zero words = refl

-- one more word
pub members_below-more : (words : List ℕ) (k : ℕ)
    → members_below words (64 * (k + 1)) ≡ members_below words (64 * k) ++ members_in (get_or words k 0) (64 * k) 64
unfolding members_in members_below
members_below-more words k =
    let e : 64 * (k + 1) ≡ 64 * k + 64 = omega arith in
    ap (λ m. filter (is_set words) (range_with_len 0 m)) e
    ∙ passing_shifted (is_set words) (has_bit (get_or words k 0)) (64 * k) 64 (λ i h. is_set-place words k i h)

-- all words
pub members_below-whole : (words : List ℕ) (size count : ℕ) (now : List Bool) → IsStored words size count
    → set_of_bits words size ≡ now
    → members_below words (64 * length words) ≡ members_of now
unfolding members_below
members_below-whole words size count now is view =
    let room : length words ≡ words_for size = is.room in
    let low : size ≤ 64 * length words = omega arith in
    passing_stays (is_set words) size (64 * length words) low is.beyond
    ∙ sym (λ i. filter (λ t. has_member-set_of_bits words size is.beyond t i)
    (range_with_len 0 (length-set_of_bits words size i))) ∙ ap members_of view

pub words_fit : (words : List ℕ) (size count : ℕ) → IsStored words size count → 64 * length words ≤ 2 ^ 32
words_fit words size count is =
    let room : length words ≡ words_for size = is.room in
    let small : size < 2 ^ 32 = subst (λ n. n < 2 ^ 32) (length-set_of_bits words size) is.counted.small in
    omega arith
