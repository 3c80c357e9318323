-- The bits of live slots.
use Rattle.std.proofs.Common.{ℕ, ◌≡◌, ◌+◌, ◌*◌, ◌<◌, ◌≤◌, Bool, true, false, cond, nat_eq, nat_lt, Option, Some, None, List}
use Rattle.std.proofs.Common.{length, refl, sym, ap, subst, ◌∙◌, arith, inl, inr, get_or-set_same, get_or-set_other}
use Rattle.std.specs.Prelude.{◌&&◌, is_some, MatchOption}
use Rattle.std.proofs.lemmas.Bool.{cases_lt, eq-eqb, lt-ltb, le-ltb, ne_eqb}
use Rattle.std.proofs.lemmas.List.{get_or_past, length-set}
use Rattle.khe_base.specs.Bits.{is_set}
use Rattle.khe_base.specs.declared.numbers.MeetId.{MeetId}
use Rattle.khe_told.specs.Changes.{after, changed, span_after, meet_of}
use Rattle.khe_told.specs.Slots.{no_slot, slot_at, is_live}
use Rattle.khe_told.specs.declared.changes.Change.{Change}
use Rattle.khe_told.specs.declared.changes.Change.TheVariants as change
use Rattle.khe_told.specs.declared.slots.Slot.{Slot}
use Rattle.khe_told.specs.declared.slots.Span.{Span}
use Rattle.khe_solution.specs.FreeBits.{AreClear, IsFirst}
use Rattle.khe_solution.specs.LiveBits.{AreLiveBelow, AreLiveBits, AreLiveRows, IsNextMeet, lives}
use Rattle.khe_solution.specs.Marks.{AreMarked}
use Rattle.khe_solution.specs.declared.lives.LiveRows.{LiveRows}
use Rattle.khe_solution.proofs.Basics.{cases_eq}

-- beyond the last slot nothing is live
past_live : (s : List Slot) (m : ℕ) → length s ≤ m → is_live (slot_at s m) ≡ false
past_live s m l = ap is_live (get_or_past s m no_slot l)

-- whether a slot is live after a change
lived : (o : Option Span) (c : Change) → is_some (span_after o c) ≡ lives c (is_some o)
lived o (change.Add m d) = refl
lived o (change.Drop m d) = refl
lived None (change.Place m t) = refl
lived (Some y) (change.Place m t) = refl
lived None (change.Lift m t) = refl
lived (Some y) (change.Lift m t) = refl
lived o (change.Give t r) = refl
lived o (change.Take t r) = refl

-- rows that keep their lengths
pub rows_kept : (k : ℕ) (t u : LiveRows) → AreLiveRows k t → length u.words.items ≡ length t.words.items
    → length u.marks.items ≡ length t.marks.items → AreMarked u.words.items u.marks.items → AreLiveRows k u
rows_kept k t u a w m h =
    let room = a.room in
    let wide = a.wide in
    let few = a.few in
    let brief = a.short_ in
    record {
      marked = h;
      room = omega (arith, room, w);
      wide = omega (arith, wide, w, m);
      few = omega (arith, few, w);
      short_ = omega (arith, brief, m);
    }

pub live_kept : (s : List Slot) (c : Change) (t u : LiveRows) → meet_of c < length s → AreLiveBits s t
    → length u.words.items ≡ length t.words.items → length u.marks.items ≡ length t.marks.items
    → AreMarked u.words.items u.marks.items
    → ((m : ℕ) → is_set u.words.items m
    ≡ cond (nat_eq m (meet_of c)) (lives c (is_set t.words.items m)) (is_set t.words.items m))
    → AreLiveBits (after s c) u
live_kept s c t u l a w marks h k =
    let x = slot_at s (meet_of c) in
    record {
      rows = subst (λ n. AreLiveRows n u) (sym (length-set s (meet_of c) (changed x c)))
          (rows_kept (length s) t u a.rows w marks h);
      bits = at_bit;
    }
  where
    at_bit : (m : ℕ) → is_set u.words.items m ≡ is_live (slot_at (after s c) m)
    at_bit m = elim (cases_eq m (meet_of c)) [
      | inl e ↦
          let x = slot_at s (meet_of c) in
          let mine : is_set t.words.items m ≡ is_some x.span = a.bits m ∙ ap (λ j. is_live (slot_at s j)) e in
          let there : slot_at (after s c) m ≡ changed x c =
          ap (slot_at (after s c)) e ∙ get_or-set_same s (meet_of c) (changed x c) no_slot l in
          k m ∙ ap (λ b. cond b (lives c (is_set t.words.items m)) (is_set t.words.items m)) (eq-eqb m (meet_of c) e)
          ∙ ap (lives c) mine ∙ sym (lived x.span c) ∙ sym (ap is_live there)
      | inr d ↦
          let x = slot_at s (meet_of c) in
          let other : slot_at (after s c) m ≡ slot_at s m = get_or-set_other s (meet_of c) m (changed x c) no_slot d in
          k m ∙ ap (λ b. cond b (lives c (is_set t.words.items m)) (is_set t.words.items m)) (ne_eqb m (meet_of c) d)
          ∙ a.bits m ∙ sym (ap is_live other)
    ]

-- the bit of one slot more, and the bits of all
pub live_more : (s : List Slot) (n : ℕ) (b : Bool) (t u : LiveRows) → AreLiveBelow s n t → b ≡ is_live (slot_at s n)
    → ((m : ℕ) → is_set u.words.items m ≡ cond (nat_eq m n) b (is_set t.words.items m)) → AreLiveBelow s (n + 1) u
live_more s n b t u a e h m = elim (cases_eq m n) [
  | inl q ↦ h m ∙ ap (λ x. cond x b (is_set t.words.items m)) (eq-eqb m n q) ∙ e ∙ ap (λ j. is_live (slot_at s j)) (sym q)
      ∙ ap (λ x. x && is_live (slot_at s m)) (sym (lt-ltb m (n + 1) (omega (arith, q))))
  | inr d ↦ h m ∙ ap (λ x. cond x b (is_set t.words.items m)) (ne_eqb m n d) ∙ a m
      ∙ ap (λ x. x && is_live (slot_at s m)) (further d)
]
  where
    further : (m ≡ n → ⊥) → nat_lt m n ≡ nat_lt m (n + 1)
    further d = elim (cases_lt m n) [
      | inl l ↦ lt-ltb m n l ∙ sym (lt-ltb m (n + 1) (omega (arith, l)))
      | inr g ↦ le-ltb m n g ∙ sym (le-ltb m (n + 1) (omega (arith, g, d)))
    ]

pub live_all : (s : List Slot) (n : ℕ) (t : LiveRows) → AreLiveBelow s n t → length s ≤ n → AreLiveRows (length s) t
    → AreLiveBits s t
live_all s n t a l r = record { rows = r; bits = at_bit }
  where
    at_bit : (m : ℕ) → is_set t.words.items m ≡ is_live (slot_at s m)
    at_bit m = elim (cases_lt m n) [
      | inl b ↦ a m ∙ ap (λ x. x && is_live (slot_at s m)) (lt-ltb m n b)
      | inr g ↦ a m ∙ ap (λ x. x && is_live (slot_at s m)) (le-ltb m n g) ∙ sym (past_live s m (omega (arith, l, g)))
    ]

-- the first of them
pub next_is : (s : List Slot) (t : LiveRows) (from : ℕ) (r : Option MeetId) → AreLiveBits s t
    → MatchOption r (AreClear t.words.items from (64 * length t.words.items)) (λ m. IsFirst t.words.items from m.0)
    → IsNextMeet s from r
next_is s t from None a h = λ k f. elim (cases_lt k (64 * length t.words.items)) [
  | inl b ↦ sym (a.bits k) ∙ h k f b
  | inr g ↦ let room = a.rows.room in past_live s k (omega (arith, room, g))
]
next_is s t from (Some m) a h = (h.0, sym (a.bits m.0) ∙ h.1, λ k f b. sym (a.bits k) ∙ h.2 k f b)
