-- The bits of free slots.
use Rattle.std.proofs.Common.{ℕ, ◌≡◌, ◌<◌, ◌≤◌, ◌*◌, ◌^◌, true, false, cond, nat_eq, nat_lt, Option, Some, None, List}
use Rattle.std.proofs.Common.{length, refl, sym, ap, ◌∙◌, arith, inl, inr, get_or-set_same, get_or-set_other}
use Rattle.std.specs.Prelude.{◌&&◌, is_none, is_some, MatchOption}
use Rattle.std.proofs.lemmas.Bool.{and_parts, eq-eqb, lt-ltb, ltb-true, ne_eqb}
use Rattle.std.proofs.lemmas.List.{length-set}
use Rattle.khe_base.specs.Bits.{is_set}
use Rattle.khe_told.specs.Changes.{after, changed, span_after, meet_of}
use Rattle.khe_told.specs.Slots.{no_slot, slot_at, is_live}
use Rattle.khe_told.specs.declared.changes.Change.{Change}
use Rattle.khe_told.specs.declared.changes.Change.TheVariants as change
use Rattle.khe_told.specs.declared.slots.Slot.{Slot}
use Rattle.khe_told.specs.declared.slots.Span.{Span}
use Rattle.khe_solution.specs.FreeBits.{is_free, AreFree, frees, IsFirst, AreLive, IsFirstFree, AreSetBelow}
use Rattle.khe_solution.proofs.Basics.{true-false, cases_eq}

not_live : (o : Option Span) → is_none o ≡ true → is_some o ≡ false
not_live None h = refl
not_live (Some y) h = absurd (true-false (sym h))

live_one : (o : Option Span) → is_none o ≡ false → is_some o ≡ true
live_one None h = absurd (true-false h)
live_one (Some y) h = refl

-- a slot of a list whose bit is not set is live
live_at : (s : List Slot) (words : List ℕ) (k : ℕ) → AreFree s words → k < length s → is_set words k ≡ false
    → is_live (slot_at s k) ≡ true
live_at s words k a l h =
    let b : is_none (slot_at s k).span ≡ false = ap (λ t. t && is_none (slot_at s k).span) (sym (lt-ltb k (length s) l))
    ∙ sym (a.bits k) ∙ h in
    live_one (slot_at s k).span b

first_free_is : (s : List Slot) (words : List ℕ) (from n : ℕ) → AreFree s words → IsFirst words from n
    → IsFirstFree s from n
first_free_is s words from n a i =
    let b = and_parts (nat_lt n (length s)) (is_none (slot_at s n).span) (sym (a.bits n) ∙ i.1) in
    let l = ltb-true n (length s) b.0 in
    (i.0, l, not_live (slot_at s n).span b.1, λ k f h. live_at s words k a (omega (arith, h, l)) (i.2 k f h))

none_free : (s : List Slot) (words : List ℕ) (from : ℕ) → AreFree s words
    → ((m : ℕ) → from ≤ m → is_set words m ≡ false) → AreLive s from (length s)
none_free s words from a h k f l = live_at s words k a l (h k f)

pub first_free_or_none : (s : List Slot) (words : List ℕ) (from : ℕ) (r : Option ℕ) → AreFree s words
    → MatchOption r ((m : ℕ) → from ≤ m → is_set words m ≡ false) (λ n. IsFirst words from n)
    → MatchOption r (AreLive s from (length s)) (λ n. IsFirstFree s from n)
first_free_or_none s words from None a h = none_free s words from a h
first_free_or_none s words from (Some n) a h = first_free_is s words from n a h

-- whether a slot is free after a change
freed : (o : Option Span) (c : Change) → is_none (span_after o c) ≡ frees c (is_none o)
freed o (change.Add m d) = refl
freed o (change.Drop m d) = refl
freed None (change.Place m t) = refl
freed (Some y) (change.Place m t) = refl
freed None (change.Lift m t) = refl
freed (Some y) (change.Lift m t) = refl
freed o (change.Give t r) = refl
freed o (change.Take t r) = refl

pub free_kept : (s : List Slot) (c : Change) (words words2 : List ℕ) → meet_of c < length s → AreFree s words
    → length words2 ≡ length words
    → ((m : ℕ) → is_set words2 m ≡ cond (nat_eq m (meet_of c)) (frees c (is_set words m)) (is_set words m))
    → AreFree (after s c) words2
free_kept s c words words2 l a n h =
    let x = slot_at s (meet_of c) in
    let k = length-set s (meet_of c) (changed x c) in
    let r = a.room in
    let w = a.few in
    record { room = omega (arith, k, r, n); few = omega (arith, w, n); bits = at_bit }
  where
    at_bit : (m : ℕ) → is_set words2 m ≡ is_free (after s c) m
    at_bit m = elim (cases_eq m (meet_of c)) [
      | inl e ↦
          let x = slot_at s (meet_of c) in
          let in_range : nat_lt m (length s) ≡ true = lt-ltb m (length s) (omega (arith, e, l)) in
          let mine : is_set words m ≡ is_none x.span = a.bits m ∙ (λ i. in_range i && is_none (slot_at s (e i)).span) in
          let there : slot_at (after s c) m ≡ changed x c =
          ap (slot_at (after s c)) e ∙ get_or-set_same s (meet_of c) (changed x c) no_slot l in
          let new_range : nat_lt m (length (after s c)) ≡ true =
          ap (nat_lt m) (length-set s (meet_of c) (changed x c)) ∙ in_range in
          h m ∙ ap (λ b. cond b (frees c (is_set words m)) (is_set words m)) (eq-eqb m (meet_of c) e)
          ∙ ap (frees c) mine ∙ sym (freed x.span c) ∙ sym (λ i. new_range i && is_none (there i).span)
      | inr d ↦
          let x = slot_at s (meet_of c) in
          let other : slot_at (after s c) m ≡ slot_at s m = get_or-set_other s (meet_of c) m (changed x c) no_slot d in
          h m ∙ ap (λ b. cond b (frees c (is_set words m)) (is_set words m)) (ne_eqb m (meet_of c) d)
          ∙ a.bits m ∙ sym (λ i. nat_lt m (length-set s (meet_of c) (changed x c) i) && is_none (other i).span)
    ]

-- the bits of all slots
pub all_set : (s : List Slot) (n : ℕ) (words : List ℕ) → AreSetBelow s n words → length s ≤ n → n ≤ length s
    → length s ≤ 64 * length words → length words < 2 ^ 32 → AreFree s words
all_set s n words a l g r f =
    let e : n ≡ length s = omega (arith, l, g) in
    record { room = r; few = f; bits = λ m. a m ∙ ap (λ k. nat_lt m k && is_none (slot_at s m).span) e }
