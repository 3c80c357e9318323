-- Units that are held and released.
use Rattle.std.proofs.Common.{ℕ, zero, suc, ◌+◌, ◌-◌, ◌<◌, ◌≤◌, ◌≡◌, ◌≢◌, ◌⊎◌, inl, inr, Some, List, length, set}
use Rattle.std.proofs.Common.{get_or, slice_get, refl, sym, ap, ◌∙◌, subst, arith, length-set}
use Rattle.std.proofs.lemmas.Bool.{cases_lt}
use Rattle.std.proofs.lemmas.Option.{same_Some, slice_get_within}
use Rattle.std.proofs.lemmas.List.{get_or-set_same, get_or-set_other}
use Rattle.demand_matching.proofs.Counting.{cases_eqb}
use Rattle.khe_instance.specs.Slots.{HasSlot}
use Rattle.khe_instance.specs.declared.parts.EventInfo.{EventInfo}
use Rattle.khe_instance.specs.WellMade.{AreFirstMeets}
use Rattle.khe_told.proofs.FrameLaws.{standing}
use Rattle.khe_told.proofs.OpeningLaws.{slots_amount}
use Rattle.khe_told.specs.Slots.{slot_at, length_of, held}
use Rattle.khe_told.specs.declared.slots.Slot.{Slot}
use Rattle.hall_report.specs.Units.{walk, unit_at, IsOffset, IsFree, AreUnits, units_of}

pub walk_zero : (next : List ℕ) (u : ℕ) → walk next u 0 ≡ u
unfolding walk
walk_zero next u = refl

pub walk_suc : (next : List ℕ) (u n : ℕ) → walk next u (suc n) ≡ get_or next (walk next u n) 0
unfolding walk
walk_suc next u n = refl

pub walk_next : (next : List ℕ) (u n : ℕ) → walk next u (n + 1) ≡ get_or next (walk next u n) 0
walk_next next u n = let e : n + 1 ≡ suc n = omega arith in ap (walk next u) e ∙ walk_suc next u n

pub walk_more : (next : List ℕ) (u a b : ℕ) → walk next u (a + b) ≡ walk next (walk next u a) b
walk_more next u a zero = let e : a + 0 ≡ a = omega arith in ap (walk next u) e ∙ sym (walk_zero next (walk next u a))
walk_more next u a (suc b) =
    let e : a + suc b ≡ suc (a + b) = omega arith in
    ap (walk next u) e ∙ walk_suc next u (a + b) ∙ ap (λ v. get_or next v 0) (walk_more next u a b)
    ∙ sym (walk_suc next (walk next u a) b)

-- a change of what follows a unit is not seen from where that unit is not passed
pub walk_set : (next : List ℕ) (i x u n : ℕ) → ((k : ℕ) → k < n → walk next u k ≢ i)
    → walk (set next i x) u n ≡ walk next u n
walk_set next i x u zero h = walk_zero (set next i x) u ∙ sym (walk_zero next u)
walk_set next i x u (suc n) h =
    walk_suc (set next i x) u n
    ∙ ap (λ v. get_or (set next i x) v 0) (walk_set next i x u n (λ k l. h k (omega arith)))
    ∙ get_or-set_other next i (walk next u n) x 0 (h n (omega arith))
    ∙ sym (walk_suc next u n)

-- an event's unit is one of all, and no other event has it
pub units_below : (events : List EventInfo) (e u : ℕ) → AreFirstMeets 0 events → HasSlot events e u
    → u < units_of events
units_below events e u first h =
    let r = standing 0 0 u e h.0 events first h.1 h.2 h.3 in
    let a = r.within in
    let b = slots_amount 0 events in
    omega (arith, a, b)

pub unit_once : (events : List EventInfo) (a b u : ℕ) → AreFirstMeets 0 events → HasSlot events a u → HasSlot events b u
    → a ≡ b
unit_once events a b u first h g =
    let r = standing 0 0 u a h.0 events first h.1 h.2 h.3 in
    let q = standing 0 0 u b g.0 events first g.1 g.2 g.3 in
    let e : 0 + a ≡ 0 + b = sym (ap (λ (x : Slot). x.event.0) r.value) ∙ ap (λ (x : Slot). x.event.0) q.value in
    omega (arith, e)

-- a slot changes, and with it how much its event holds
pub record IsTurned (events : List EventInfo) (s t : List Slot) (m e : ℕ) (event : EventInfo) : Type 0 where
  pub at : slice_get events e ≡ Some event
  pub old_event : (slot_at s m).event.0 ≡ e
  pub new_event : (slot_at t m).event.0 ≡ e
  pub others : (n : ℕ) → n ≢ m → slot_at t n ≡ slot_at s n
  pub elsewhere : (f : ℕ) → f ≢ e → held f t ≡ held f s
  pub first : AreFirstMeets 0 events

module _ (events : List EventInfo) (s t : List Slot) (m e d : ℕ) (event : EventInfo) (next firsts free : List ℕ)
    (is : IsTurned events s t m e event) (are : AreUnits events s next firsts free) (there : m < length firsts)
  where
    other_offset : (n o : ℕ) → n ≢ m → IsOffset t n o → IsOffset s n o
    other_offset n o ne l = let a = ap length_of (is.others n ne) in omega (arith, a, l)

    other_slot : (n u : ℕ) → n ≢ m → HasSlot events (slot_at s n).event.0 u → HasSlot events (slot_at t n).event.0 u
    other_slot n u ne h = subst (λ (x : Slot). HasSlot events x.event.0 u) (sym (is.others n ne)) h

    own_free : e < length free
    own_free = let a = are.free_length in let b = slice_get_within events e event is.at in omega (arith, a, b)

    -- a meet comes into the slot
    module _ (none : length_of (slot_at s m) ≡ 0) (long : length_of (slot_at t m) ≡ d) (more : held e t ≡ held e s + d)
        (room : held e t ≤ event.duration) where
      abbrev firsts' : List ℕ
      firsts' = set firsts m (get_or free e 0)

      abbrev free' : List ℕ
      free' = set free e (walk next (get_or free e 0) d)

      own_unit : (o : ℕ) → unit_at next firsts' m o ≡ unit_at next free e o
      own_unit o = ap (λ v. walk next v o) (get_or-set_same firsts m (get_or free e 0) 0 there)

      pub other_unit : (n o : ℕ) → n ≢ m → unit_at next firsts' n o ≡ unit_at next firsts n o
      other_unit n o ne = ap (λ v. walk next v o) (get_or-set_other firsts m n (get_or free e 0) 0 ne)

      own_spare : (i : ℕ) → unit_at next free' e i ≡ unit_at next free e (d + i)
      own_spare i = ap (λ v. walk next v i) (get_or-set_same free e (walk next (get_or free e 0) d) 0 own_free)
          ∙ sym (walk_more next (get_or free e 0) d i)

      other_spare : (f i : ℕ) → f ≢ e → unit_at next free' f i ≡ unit_at next free f i
      other_spare f i ne = ap (λ v. walk next v i) (get_or-set_other free e f (walk next (get_or free e 0) d) 0 ne)

      was_free : (n o : ℕ) → n ≡ m → IsOffset t n o → IsFree s e event o
      was_free n o eq l = let a = ap (λ k. length_of (slot_at t k)) eq in omega (arith, a, l, long, more, room)

      short : (n o : ℕ) → n ≡ m → IsOffset t n o → o < d
      short n o eq l = let a = ap (λ k. length_of (slot_at t k)) eq in omega (arith, a, l, long)

      own_at : (n o : ℕ) → n ≡ m → unit_at next firsts' n o ≡ unit_at next free e o
      own_at n o eq = ap (λ k. unit_at next firsts' k o) eq ∙ own_unit o

      still_free : (i : ℕ) (ev : EventInfo) → IsFree t e ev i → IsFree s e ev (d + i)
      still_free i ev l = omega (arith, more, l)

      other_free : (f i : ℕ) (ev : EventInfo) → f ≢ e → IsFree t f ev i → IsFree s f ev i
      other_free f i ev ne l = let a = is.elsewhere f ne in omega (arith, a, l)

      pub held_units : AreUnits events t next firsts' free'
      held_units = record {
        next_length = are.next_length;
        firsts_length = length-set firsts m (get_or free e 0) ∙ are.firsts_length;
        free_length = length-set free e (walk next (get_or free e 0) d) ∙ are.free_length;
        holds = λ n o l. elim (cases_eqb n m) [
          | inl eq ↦
              subst (λ k. HasSlot events (slot_at t k).event.0 (unit_at next firsts' n o)) (sym eq)
              (subst (λ k. HasSlot events k (unit_at next firsts' n o)) (sym is.new_event)
              (subst (HasSlot events e) (sym (own_at n o eq)) (are.spare e o event is.at (was_free n o eq l))))
          | inr ne ↦ subst (HasSlot events (slot_at t n).event.0) (sym (other_unit n o ne))
              (other_slot n (unit_at next firsts n o) ne (are.holds n o (other_offset n o ne l)))
        ];
        apart = λ n k i j l g same. elim (cases_eqb n m) [
          | inl eq ↦ elim (cases_eqb k m) [
            | inl ek ↦ (
              eq ∙ sym ek,
              are.spare_apart e i j event is.at (was_free n i eq l) (was_free k j ek g)
                  (sym (own_at n i eq) ∙ same ∙ own_at k j ek),
            )
            | inr nk ↦ absurd (are.others k j e i event (other_offset k j nk g) is.at (was_free n i eq l)
                (sym (other_unit k j nk) ∙ sym same ∙ own_at n i eq))
          ]
          | inr ne ↦ elim (cases_eqb k m) [
            | inl ek ↦ absurd (are.others n i e j event (other_offset n i ne l) is.at (was_free k j ek g)
                (sym (other_unit n i ne) ∙ same ∙ own_at k j ek))
            | inr nk ↦ are.apart n k i j (other_offset n i ne l) (other_offset k j nk g)
                (sym (other_unit n i ne) ∙ same ∙ other_unit k j nk)
          ]
        ];
        spare = λ f i ev at l. elim (cases_eqb f e) [
          | inl eq ↦
              let l2 : IsFree t e ev i = subst (λ k. IsFree t k ev i) eq l in
              let at2 : slice_get events e ≡ Some ev = ap (slice_get events) (sym eq) ∙ at in
              subst (λ k. HasSlot events k (unit_at next free' k i)) (sym eq)
              (subst (HasSlot events e) (sym (own_spare i)) (are.spare e (d + i) ev at2 (still_free i ev l2)))
          | inr ne ↦ subst (HasSlot events f) (sym (other_spare f i ne)) (are.spare f i ev at (other_free f i ev ne l))
        ];
        spare_apart = λ f i j ev at l g same. elim (cases_eqb f e) [
          | inl eq ↦
              let l2 : IsFree t e ev i = subst (λ k. IsFree t k ev i) eq l in
              let g2 : IsFree t e ev j = subst (λ k. IsFree t k ev j) eq g in
              let at2 : slice_get events e ≡ Some ev = ap (slice_get events) (sym eq) ∙ at in
              let same2 : unit_at next free' e i ≡ unit_at next free' e j =
              subst (λ k. unit_at next free' k i ≡ unit_at next free' k j) eq same in
              let r : d + i ≡ d + j = are.spare_apart e (d + i) (d + j) ev at2 (still_free i ev l2) (still_free j ev g2)
              (sym (own_spare i) ∙ same2 ∙ own_spare j) in
              omega (arith, r)
          | inr ne ↦ are.spare_apart f i j ev at (other_free f i ev ne l) (other_free f j ev ne g)
              (sym (other_spare f i ne) ∙ same ∙ other_spare f j ne)
        ];
        others = λ n o f i ev l at g same. elim (cases_eqb f e) [
          | inl eq ↦
              let g2 : IsFree t e ev i = subst (λ k. IsFree t k ev i) eq g in
              let at2 : slice_get events e ≡ Some ev = ap (slice_get events) (sym eq) ∙ at in
              let same2 : unit_at next firsts' n o ≡ unit_at next free e (d + i) =
              same ∙ ap (λ k. unit_at next free' k i) eq ∙ own_spare i in
              elim (cases_eqb n m) [
                | inl em ↦
                    let w : IsFree s e ev o = let a = was_free n o em l in let b =
                    ap (λ (x : EventInfo). x.duration) (same_Some event ev (sym is.at ∙ at2)) in
                    omega (arith, a, b) in
                    let r : o ≡ d + i = are.spare_apart e o (d + i) ev at2 w (still_free i ev g2)
                    (sym (own_at n o em) ∙ same2) in
                    let q = short n o em l in omega (arith, r, q)
                | inr ne ↦ are.others n o e (d + i) ev (other_offset n o ne l) at2 (still_free i ev g2)
                    (sym (other_unit n o ne) ∙ same2)
              ]
          | inr nf ↦
              let g2 : IsFree s f ev i = other_free f i ev nf g in
              let same2 : unit_at next firsts' n o ≡ unit_at next free f i = same ∙ other_spare f i nf in
              elim (cases_eqb n m) [
                | inl em ↦
                    nf (sym (unit_once events e f (unit_at next free f i) is.first
                    (subst (HasSlot events e) (sym (own_at n o em) ∙ same2)
                    (are.spare e o event is.at (was_free n o em l))) (are.spare f i ev at g2)))
                | inr ne ↦ are.others n o f i ev (other_offset n o ne l) at g2 (sym (other_unit n o ne) ∙ same2)
              ]
        ];
      }

    -- the meet leaves it
    module _ (long : length_of (slot_at s m) ≡ d) (some : 1 ≤ d) (none : length_of (slot_at t m) ≡ 0)
        (less : held e s ≡ held e t + d) where
      abbrev last : ℕ
      last = unit_at next firsts m (d - 1)

      abbrev next' : List ℕ
      next' = set next last (get_or free e 0)

      abbrev gone : List ℕ
      gone = set free e (get_or firsts m 0)

      was_own : (k : ℕ) → k < d → IsOffset s m k
      was_own k l = omega (arith, long, l)

      pub kept_unit : (n o : ℕ) → n ≢ m → IsOffset t n o → unit_at next' firsts n o ≡ unit_at next firsts n o
      kept_unit n o ne l =
          walk_set next last (get_or free e 0) (get_or firsts n 0) o
          (λ k less same. ne (are.apart n m k (d - 1) (let a = other_offset n o ne l in omega (arith, a, less))
          (was_own (d - 1) (omega (arith, some))) same).0)

      old_units : (i : ℕ) → i < d → walk next' (get_or firsts m 0) i ≡ unit_at next firsts m i
      old_units i l =
          walk_set next last (get_or free e 0) (get_or firsts m 0) i
          (λ k less same. let r : k ≡ d - 1 = (are.apart m m k (d - 1) (was_own k (omega (arith, l, less)))
          (was_own (d - 1) (omega (arith, some))) same).1 in omega (arith, r, l, less))

      kept_spare : (f i : ℕ) (ev : EventInfo) → slice_get events f ≡ Some ev → IsFree s f ev i
          → walk next' (get_or free f 0) i ≡ unit_at next free f i
      kept_spare f i ev at l =
          walk_set next last (get_or free e 0) (get_or free f 0) i
          (λ k less same. are.others m (d - 1) f k ev (was_own (d - 1) (omega (arith, some))) at
          (omega (arith, l, less)) (sym same))

      last_below : last < length next
      last_below = let a = units_below events (slot_at s m).event.0 last is.first
          (are.holds m (d - 1) (was_own (d - 1) (omega (arith, some)))) in let b = are.next_length in
          omega (arith, a, b)

      turned_on : walk next' (get_or firsts m 0) d ≡ get_or free e 0
      turned_on =
          let one : d ≡ suc (d - 1) = omega (arith, some) in
          ap (walk next' (get_or firsts m 0)) one
          ∙ walk_suc next' (get_or firsts m 0) (d - 1)
          ∙ ap (λ v. get_or next' v 0) (old_units (d - 1) (omega (arith, some)))
          ∙ get_or-set_same next last (get_or free e 0) 0 last_below

      first_gone : get_or gone e 0 ≡ get_or firsts m 0
      first_gone = get_or-set_same free e (get_or firsts m 0) 0 own_free

      own_gone : (i : ℕ) → i < d → unit_at next' gone e i ≡ unit_at next firsts m i
      own_gone i l = ap (λ v. walk next' v i) first_gone ∙ old_units i l

      later_gone : (j : ℕ) (ev : EventInfo) → slice_get events e ≡ Some ev → IsFree s e ev j
          → unit_at next' gone e (d + j) ≡ unit_at next free e j
      later_gone j ev at l =
          ap (λ v. walk next' v (d + j)) first_gone ∙ walk_more next' (get_or firsts m 0) d j
          ∙ ap (λ v. walk next' v j) turned_on ∙ kept_spare e j ev at l

      -- a free unit of the event is one that the meet held, or was free before
      free_cases : (i : ℕ) (ev : EventInfo) → slice_get events e ≡ Some ev → IsFree t e ev i
          → ((i < d) × (unit_at next' gone e i ≡ unit_at next firsts m i))
          ⊎ ((j : ℕ) × (d + j ≡ i) × IsFree s e ev j × (unit_at next' gone e i ≡ unit_at next free e j))
      free_cases i ev at l =
          elim (cases_lt i d) [
            | inl low ↦ inl (low, own_gone i low)
            | inr high ↦
                let is_at : d + (i - d) ≡ i = omega (arith, high) in
                let was : IsFree s e ev (i - d) = omega (arith, l, less, high) in
                inr (i - d, is_at, was, ap (unit_at next' gone e) (sym is_at) ∙ later_gone (i - d) ev at was)
          ]

      other_gone : (f i : ℕ) (ev : EventInfo) → f ≢ e → slice_get events f ≡ Some ev → IsFree t f ev i
          → IsFree s f ev i × (unit_at next' gone f i ≡ unit_at next free f i)
      other_gone f i ev ne at l =
          let was : IsFree s f ev i = let a = is.elsewhere f ne in omega (arith, a, l) in (
            was,
            ap (λ v. walk next' v i) (get_or-set_other free e f (get_or firsts m 0) 0 ne)
                ∙ kept_spare f i ev at was,
          )

      none_own : (n o : ℕ) → IsOffset t n o → n ≢ m
      none_own n o l = λ eq. let a = ap (λ k. length_of (slot_at t k)) eq in absurd (omega (arith, a, l, none))

      pub released_units : AreUnits events t next' firsts gone
      released_units = record {
        next_length = length-set next last (get_or free e 0) ∙ are.next_length;
        firsts_length = are.firsts_length;
        free_length = length-set free e (get_or firsts m 0) ∙ are.free_length;
        holds = λ n o l.
            let ne = none_own n o l in
            subst (HasSlot events (slot_at t n).event.0) (sym (kept_unit n o ne l))
            (other_slot n (unit_at next firsts n o) ne (are.holds n o (other_offset n o ne l)));
        apart = λ n k i j l g same.
            let ne = none_own n i l in
            let nk = none_own k j g in
            are.apart n k i j (other_offset n i ne l) (other_offset k j nk g)
            (sym (kept_unit n i ne l) ∙ same ∙ kept_unit k j nk g);
        spare = λ f i ev at l. elim (cases_eqb f e) [
          | inl eq ↦
              let at2 : slice_get events e ≡ Some ev = ap (slice_get events) (sym eq) ∙ at in
              subst (λ k. HasSlot events k (unit_at next' gone k i)) (sym eq)
              (elim (free_cases i ev at2 (subst (λ k. IsFree t k ev i) eq l)) [
                | inl low ↦ subst (HasSlot events e) (sym low.1)
                    (subst (λ k. HasSlot events k (unit_at next firsts m i)) is.old_event
                    (are.holds m i (was_own i low.0)))
                | inr high ↦ subst (HasSlot events e) (sym high.3) (are.spare e high.0 ev at2 high.2)
              ])
          | inr ne ↦ let o = other_gone f i ev ne at l in subst (HasSlot events f) (sym o.1) (are.spare f i ev at o.0)
        ];
        spare_apart = λ f i j ev at l g same. elim (cases_eqb f e) [
          | inl eq ↦
              let at2 : slice_get events e ≡ Some ev = ap (slice_get events) (sym eq) ∙ at in
              let same2 : unit_at next' gone e i ≡ unit_at next' gone e j =
              subst (λ k. unit_at next' gone k i ≡ unit_at next' gone k j) eq same in
              elim (free_cases i ev at2 (subst (λ k. IsFree t k ev i) eq l)) [
                | inl low ↦ elim (free_cases j ev at2 (subst (λ k. IsFree t k ev j) eq g)) [
                  | inl low2 ↦ (are.apart m m i j (was_own i low.0) (was_own j low2.0) (sym low.1 ∙ same2 ∙ low2.1)).1
                  | inr high2 ↦ absurd (are.others m i e high2.0 ev (was_own i low.0) at2 high2.2
                      (sym low.1 ∙ same2 ∙ high2.3))
                ]
                | inr high ↦ elim (free_cases j ev at2 (subst (λ k. IsFree t k ev j) eq g)) [
                  | inl low2 ↦ absurd (are.others m j e high.0 ev (was_own j low2.0) at2 high.2
                      (sym low2.1 ∙ sym same2 ∙ high.3))
                  | inr high2 ↦
                      let r : high.0 ≡ high2.0 = are.spare_apart e high.0 high2.0 ev at2 high.2 high2.2
                      (sym high.3 ∙ same2 ∙ high2.3) in
                      let a = high.1 in let b = high2.1 in omega (arith, r, a, b)
                ]
              ]
          | inr ne ↦
              let a = other_gone f i ev ne at l in
              let b = other_gone f j ev ne at g in
              are.spare_apart f i j ev at a.0 b.0 (sym a.1 ∙ same ∙ b.1)
        ];
        others = λ n o f i ev l at g same.
            let ne = none_own n o l in
            let was : unit_at next' firsts n o ≡ unit_at next firsts n o = kept_unit n o ne l in
            elim (cases_eqb f e) [
              | inl eq ↦
                  let at2 : slice_get events e ≡ Some ev = ap (slice_get events) (sym eq) ∙ at in
                  let same2 : unit_at next firsts n o ≡ unit_at next' gone e i =
                  sym was ∙ same ∙ ap (λ k. unit_at next' gone k i) eq in
                  elim (free_cases i ev at2 (subst (λ k. IsFree t k ev i) eq g)) [
                    | inl low ↦ ne (are.apart n m o i (other_offset n o ne l) (was_own i low.0) (same2 ∙ low.1)).0
                    | inr high ↦ are.others n o e high.0 ev (other_offset n o ne l) at2 high.2 (same2 ∙ high.3)
                  ]
              | inr nf ↦ let a = other_gone f i ev nf at g in
                  are.others n o f i ev (other_offset n o ne l) at a.0 (sym was ∙ same ∙ a.1)
            ];
      }
