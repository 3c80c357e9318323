-- Followers that are put at their places one after the other.
use Rattle.std.proofs.Common.{ℕ, ◌≡◌, ◌≢◌, ◌+◌, ◌-◌, ◌^◌, ◌<◌, ◌≤◌, ◌⊎◌, inl, inr, true, false, Bool, cond, Option, Some, None, List, [], ◌∷◌}
use Rattle.std.proofs.Common.{length, refl, sym, ap, subst, ◌∙◌, arith, get_or}
use Rattle.std.specs.Prelude.{IfSome}
use Rattle.std.proofs.lemmas.Bool.{eqb-true}
use Rattle.std.proofs.lemmas.List.{length-set}
use Rattle.khe_base.specs.declared.numbers.MeetId.{MeetId}
use Rattle.khe_base.specs.declared.numbers.TimeId.{TimeId}
use Rattle.khe_instance.specs.declared.parts.Parts.{Parts}
use Rattle.khe_told.specs.Slots.{is_live, length_of, slot_at}
use Rattle.khe_told.specs.declared.slots.Slot.{Slot}
use Rattle.khe_solution.specs.Editing.{later, timed, with_start}
use Rattle.khe_solution.specs.Reading.{is_fixed_event}
use Rattle.khe_solution.proofs.Basics.{cases_eq, true-false}
use Rattle.khe_solution.proofs.EditingLaws.{timed_other, timed_same}
use Rattle.followers.specs.Carrying.{AreCarried, AreLeft, MayCarry, MayPut, carried}
use Rattle.followers.specs.Links.{AreLinked, IsRow, occurs}
use Rattle.followers.specs.Ties.{is_to, tie_at}
use Rattle.followers.specs.declared.edits.Tie.{Tie}
use Rattle.followers.proofs.LinkLaws.{in_row, row_apart}
use Rattle.followers.proofs.RowLaws.{later_in, not_first, occurs_here, occurs_not}

carried_other : (l : ℕ) (start : Option TimeId) (tie : Option Tie) (x : Slot) → is_to l tie ≡ false
    → carried l start tie x ≡ x
carried_other l start None x h = refl
carried_other l start (Some t) x h = ap (λ b. cond b (with_start x (later t.offset start)) x) h

carried_own : (l : ℕ) (start : Option TimeId) (tie : Option Tie) (t : Tie) (x : Slot) → tie ≡ Some t → is_to l tie ≡ true
    → carried l start tie x ≡ with_start x (later t.offset start)
carried_own l start tie t x e h = ap (λ o. carried l start o x) e
    ∙ ap (λ b. cond b (with_start x (later t.offset start)) x) (ap (is_to l) (sym e) ∙ h)

-- first all followers are left
pub left_all : (ties : List (Option Tie)) (first next prev counts : List ℕ) (l : ℕ) (start : Option TimeId) (s : List Slot)
    → AreLinked ties first next prev counts → l < length ties
    → AreLeft ties next prev l start (get_or first l 0) (get_or counts l 0) s s
left_all ties first next prev counts l start s a i =
    let h = a.rows l i in
    record {
      list = h.list;
      before = length ties;
      row = h.row;
      size = h.size ∙ sym (a.many l i);
      once = row_apart ties next prev l (get_or first l 0) h;
      to = in_row ties next prev l (get_or first l 0) h;
      long = refl;
      done = λ k o. sym (carried_other l start (tie_at ties k) (slot_at s k)
          (not_to (is_to l (tie_at ties k)) (sym (h.each k) ∙ o)));
      left = λ k o. refl;
    }
  where
    not_to : (b : Bool) → ◌≡◌ {A = ℕ} (cond b 1 0) 0 → b ≡ false
    not_to true e = let z : ⊥ = cc in absurd z
    not_to false e = refl

-- the next that is left is a follower as it was
pub record IsNextLeft (ties : List (Option Tie)) (l at : ℕ) (s s2 : List Slot) : Type 0 where
  pub there : at < length ties
  pub to : is_to l (tie_at ties at) ≡ true
  pub same : slot_at s2 at ≡ slot_at s at

pub left_here : (ties : List (Option Tie)) (next prev : List ℕ) (l : ℕ) (start : Option TimeId) (at count : ℕ)
    (s s2 : List Slot) → AreLeft ties next prev l start at count s s2 → 0 < count → IsNextLeft ties l at s s2
left_here ties next prev l start at count s s2 c i = by c.list c.row c.size c.to c.left
  where
    by : (xs : List ℕ) → IsRow next prev (length ties) c.before at xs → length xs ≡ count
        → ((k : ℕ) → occurs k xs ≢ 0 → is_to l (tie_at ties k) ≡ true)
        → ((k : ℕ) → occurs k xs ≢ 0 → slot_at s2 k ≡ slot_at s k) → IsNextLeft ties l at s s2
    by [] r e f g = absurd (omega (arith, e, i))
    by (x ∷ xs) r e f g =
        let h = r.0 in
        let m = r.1 in
        let o : occurs at (x ∷ xs) ≢ 0 = λ z. let j = occurs_here at x xs (sym r.0) in omega (arith, j, z) in
        record { there = omega (arith, h, m); to = f at o; same = g at o }

-- one of them is put at its place
pub left_one : (ties : List (Option Tie)) (next prev : List ℕ) (l : ℕ) (start : Option TimeId) (at count : ℕ) (m : MeetId)
    (t : Tie) (s s2 s3 : List Slot) → length s ≡ length ties → m.0 ≡ at → tie_at ties at ≡ Some t
    → s3 ≡ timed s2 m (later t.offset start) → 0 < count → AreLeft ties next prev l start at count s s2
    → AreLeft ties next prev l start (get_or next at 0) (count - 1) s s3
left_one ties next prev l start at count m t s s2 s3 long i e put some c =
    by c.list c.row c.size c.once c.to c.done c.left
  where
    u : Option TimeId
    u = later t.offset start

    here : IsNextLeft ties l at s s2
    here = left_here ties next prev l start at count s s2 c some

    by : (xs : List ℕ) → IsRow next prev (length ties) c.before at xs → length xs ≡ count
        → ((k : ℕ) → occurs k xs ≤ 1) → ((k : ℕ) → occurs k xs ≢ 0 → is_to l (tie_at ties k) ≡ true)
        → ((k : ℕ) → occurs k xs ≡ 0 → slot_at s2 k ≡ carried l start (tie_at ties k) (slot_at s k))
        → ((k : ℕ) → occurs k xs ≢ 0 → slot_at s2 k ≡ slot_at s k)
        → AreLeft ties next prev l start (get_or next at 0) (count - 1) s s3
    by [] r n once to done left = absurd (omega (arith, n, some))
    by (x ∷ xs) r n once to done left = record {
      list = xs;
      before = x;
      row = subst (λ k. IsRow next prev (length ties) x (get_or next k 0) xs) (sym r.0) r.3;
      size = omega (arith, n);
      once = λ k. let a = later_in k x xs in let b = once k in omega (arith, a, b);
      to = λ k o. to k (λ z. o (let a = later_in k x xs in omega (arith, a, z)));
      long = ap length put ∙ length-set s2 m.0 (with_start (slot_at s2 m.0) u) ∙ c.long;
      done = λ k o. ap (λ y. slot_at y k) put ∙ step k o (cases_eq k m.0);
      left = λ k o. ap (λ y. slot_at y k) put
          ∙ timed_other s2 m u k (λ z. not_first k x xs once o (z ∙ i ∙ r.0))
          ∙ left k (λ z. o (let a = later_in k x xs in omega (arith, a, z)));
    }
      where
        step : (k : ℕ) → occurs k xs ≡ 0 → (k ≡ m.0) ⊎ (k ≡ m.0 → ⊥)
            → slot_at (timed s2 m u) k ≡ carried l start (tie_at ties k) (slot_at s k)
        step k o (inr d) = timed_other s2 m u k d
            ∙ done k (occurs_not k x xs (λ z. d (sym z ∙ sym r.0 ∙ sym i)) ∙ o)
        step k o (inl z) =
            let w = c.long in
            let a = here.there in
            let inside : m.0 < length s2 = omega (arith, a, long, i, w) in
            let same : k ≡ at = z ∙ i in
            ap (slot_at (timed s2 m u)) z ∙ timed_same s2 m u inside
            ∙ ap (λ y. with_start y u) (ap (slot_at s2) i ∙ here.same ∙ ap (slot_at s) (sym same))
            ∙ sym (carried_own l start (tie_at ties k) t (slot_at s k) (ap (tie_at ties) same ∙ e)
            (ap (λ y. is_to l (tie_at ties y)) same ∙ here.to))

-- beyond the last follower all is done
pub left_none : (ties : List (Option Tie)) (next prev : List ℕ) (l : ℕ) (start : Option TimeId) (at count : ℕ)
    (s s2 : List Slot) → count ≤ 0 → AreLeft ties next prev l start at count s s2 → AreCarried ties l start s s2
left_none ties next prev l start at count s s2 i c = record { long = c.long; each = by c.list c.size c.done }
  where
    by : (xs : List ℕ) → length xs ≡ count
        → ((k : ℕ) → occurs k xs ≡ 0 → slot_at s2 k ≡ carried l start (tie_at ties k) (slot_at s k))
        → (k : ℕ) → slot_at s2 k ≡ carried l start (tie_at ties k) (slot_at s k)
    by [] e f k = f k refl
    by (x ∷ xs) e f k = absurd (omega (arith, e, i))

-- the next follower may be put at its place
pub may_put : (p q : Parts) (ties : List (Option Tie)) (l at : ℕ) (t : Tie) (start : Option TimeId) (s s2 : List Slot)
    → q ≡ p → tie_at ties at ≡ Some t → IsNextLeft ties l at s s2 → MayCarry p s ties l start
    → MayPut q s2 at (later t.offset start)
may_put p q ties l at t start s s2 e f h m =
    let a = m at t f (eqb-true t.leader.0 l (ap (is_to l) (sym f) ∙ h.to)) in
    let x = h.same in
    record {
      live = ap (λ (y : Slot). is_live y) x ∙ a.live;
      unfixed = (λ i. is_fixed_event (e i) (x i).event.0) ∙ a.unfixed;
      fits = subst (λ (y : Slot). IfSome (later t.offset start) (λ u. u.0 + length_of y ≤ length q.times)) (sym x)
          (subst (λ (r : Parts). IfSome (later t.offset start) (λ u. u.0 + length_of (slot_at s at) ≤ length r.times))
          (sym e) a.fits);
    }

-- a place is a number
pub later_fits : (n d offset : ℕ) (start : Option TimeId) → n < 2 ^ 32
    → IfSome (later offset start) (λ u. u.0 + d ≤ n) → IfSome start (λ t. t.0 + offset < 2 ^ 32)
later_fits n d offset None l h = tt
later_fits n d offset (Some t) l h = omega (arith, l, h)

pub later_may : (p : Parts) (ties : List (Option Tie)) (l at : ℕ) (t : Tie) (start : Option TimeId) (s s2 : List Slot)
    → length p.times < 2 ^ 32 → tie_at ties at ≡ Some t → IsNextLeft ties l at s s2 → MayCarry p s ties l start
    → IfSome start (λ u. u.0 + t.offset < 2 ^ 32)
later_may p ties l at t start s s2 few f h m =
    let a = m at t f (eqb-true t.leader.0 l (ap (is_to l) (sym f) ∙ h.to)) in
    later_fits (length p.times) (length_of (slot_at s at)) t.offset start few a.fits

-- a follower has a tie
pub some_tie : (ties : List (Option Tie)) (l at : ℕ) → is_to l (tie_at ties at) ≡ true
    → ((t : Tie) → tie_at ties at ≡ Some t → ⊥) → ⊥
some_tie ties l at h f = by (tie_at ties at) refl h
  where
    by : (o : Option Tie) → tie_at ties at ≡ o → is_to l o ≡ true → ⊥
    by None e h = true-false (sym h)
    by (Some t) e h = f t e
