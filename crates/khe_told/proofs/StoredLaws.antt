-- What reading and changing the stored rows does to the told state.
use Rattle.std.proofs.Common.{ℕ, ◌≡◌, ◌+◌, ◌-◌, ◌<◌, ◌≤◌, zero, suc, Option, Some, None, List, [], ◌∷◌, length, take}
use Rattle.std.proofs.Common.{drop, get_or, set, slice_get, refl, sym, ap, subst, ◌∙◌, arith}
use Rattle.std.specs.Option.{option_map_or}
use Rattle.std.specs.Prelude.{MatchOption}
use Rattle.std.proofs.Math.Seq.{take-set-lt}
use Rattle.std.proofs.lemmas.List.{set-get_or, length-set, length-take, take-set-le, drop-set-lt, drop-set-add}
use Rattle.std.proofs.lemmas.Option.{get_or_from_slice_get, same_Some, slice_get-get_or, slice_get_within}
use Rattle.khe_base.specs.declared.numbers.ResourceId.{ResourceId}
use Rattle.khe_told.specs.Changes.{after, changed, meet_of, span_after}
use Rattle.khe_told.specs.Fits.{Suits}
use Rattle.khe_told.specs.Slots.{no_slot, slot_at}
use Rattle.khe_told.specs.Stored.{AreInOrder, HasTask, IsRowOf, row_after, slot_in, slots_in, tasks_after}
use Rattle.khe_told.specs.declared.changes.Change.{Change}
use Rattle.khe_told.specs.declared.changes.Change.TheVariants.{Add, Drop, Place, Lift, Give, Take}
use Rattle.khe_told.specs.declared.rows.Row.{Row}
use Rattle.khe_told.specs.declared.slots.Slot.{Slot}
use Rattle.khe_told.specs.declared.slots.Span.{Span}

pub length-slots_in : (m : ℕ) (rs : List Row) (given : List (Option ResourceId))
    → length (slots_in m rs given) ≡ length rs
length-slots_in m [] given = refl
length-slots_in m (r ∷ rs) given = ap suc (length-slots_in (m + 1) rs given)

-- the slot at a number is that of the row there
pub slot_stored : (m : ℕ) (rs : List Row) (given : List (Option ResourceId)) (k : ℕ)
    → slot_at (slots_in m rs given) k ≡ option_map_or (slot_in (m + k) given) (slice_get rs k) no_slot
slot_stored m [] given k = refl
slot_stored m (r ∷ rs) given zero = let e : m ≡ m + 0 = omega arith in ap (λ n. slot_in n given r) e
slot_stored m (r ∷ rs) given (suc k) =
    let e : m + 1 + k ≡ m + suc k = omega arith in
    slot_stored (m + 1) rs given k ∙ ap (λ n. option_map_or (slot_in n given) (slice_get rs k) no_slot) e

pub slot_of_row : (rs : List Row) (given : List (Option ResourceId)) (k : ℕ) (r : Row) → slice_get rs k ≡ Some r
    → slot_at (slots_in 0 rs given) k ≡ slot_in k given r
slot_of_row rs given k r at =
    let e : 0 + k ≡ k = omega arith in
    slot_stored 0 rs given k ∙ ap (λ o. option_map_or (slot_in (0 + k) given) o no_slot) at
    ∙ ap (λ n. slot_in n given r) e

-- the slot of a told state that is stored so
pub slot_seen : (s : List Slot) (rs xs : List Row) (given : List (Option ResourceId)) (k : ℕ) (o : Option Row)
    → slots_in 0 rs given ≡ s → xs ≡ rs → o ≡ slice_get xs k
    → slot_at s k ≡ option_map_or (slot_in k given) o no_slot
slot_seen s rs xs given k o view eq at =
    let e : 0 + k ≡ k = omega arith in
    ap (λ t. slot_at t k) (sym view) ∙ slot_stored 0 rs given k
    ∙ ap (λ n. option_map_or (slot_in n given) (slice_get rs k) no_slot) e
    ∙ ap (λ p. option_map_or (slot_in k given) p no_slot) (sym (at ∙ ap (λ ys. slice_get ys k) eq))

past : (rs : List Row) (k : ℕ) → None ≡ slice_get rs k → length rs ≤ k
past [] k h = omega arith
past (r ∷ rs) zero h = absurd (subst IsNothing h tt)
  where
    IsNothing : Option Row → Type 0
    IsNothing None = Unit {0}
    IsNothing (Some r) = ⊥
past (r ∷ rs) (suc k) h = let l = past rs k h in omega (arith, l)

pub row_seen : (s : List Slot) (rs xs : List Row) (given : List (Option ResourceId)) (k : ℕ) (o : Option Row)
    → slots_in 0 rs given ≡ s → xs ≡ rs → o ≡ slice_get xs k
    → MatchOption o ((length s ≤ k) × (slot_at s k ≡ no_slot)) (λ r. IsRowOf r k (slot_at s k))
row_seen s rs xs given k None view eq at =
    let l = past rs k (at ∙ ap (λ ys. slice_get ys k) eq) in
    let n = length-slots_in 0 rs given in
    let v = ap length view in
    (omega (arith, l, n, v), slot_seen s rs xs given k None view eq at)
row_seen s rs xs given k (Some r) view eq at =
    let e = slot_seen s rs xs given k (Some r) view eq at in
    (ap (λ (x : Slot). x.meet.0) e, ap (λ (x : Slot). x.event) e, ap (λ (x : Slot). x.span) e)

none_there : {A : Type 0} (k : ℕ) (a : A) → slice_get [] k ≡ Some a → ⊥
none_there k a at = let l = slice_get_within [] k a at in omega (arith, l)

-- the task slots of a row are among all
pub in_order : (next end : ℕ) (rs : List Row) → AreInOrder next end rs → next ≤ end
in_order next end [] h = omega (arith, h)
in_order next end (r ∷ rs) h = let k = in_order (next + r.places) end rs h.1 in omega (arith, k)

pub row_from : (next end : ℕ) (rs : List Row) (k : ℕ) (r : Row) → AreInOrder next end rs → slice_get rs k ≡ Some r
    → next ≤ r.first_task
row_from next end [] k r h at = absurd (none_there k r at)
row_from next end (x ∷ rs) zero r h at = let e = ap (λ (y : Row). y.first_task) (same_Some x r at) in let f = h.0 in
    omega (arith, e, f)
row_from next end (x ∷ rs) (suc k) r h at = let f = row_from (next + x.places) end rs k r h.1 at in omega (arith, f)

pub row_to : (next end : ℕ) (rs : List Row) (k : ℕ) (r : Row) → AreInOrder next end rs → slice_get rs k ≡ Some r
    → r.first_task + r.places ≤ end
row_to next end [] k r h at = absurd (none_there k r at)
row_to next end (x ∷ rs) zero r h at =
    let e = ap (λ (y : Row). y.first_task) (same_Some x r at) in
    let f = ap (λ (y : Row). y.places) (same_Some x r at) in
    let g = h.0 in
    let i = in_order (next + x.places) end rs h.1 in
    omega (arith, e, f, g, i)
row_to next end (x ∷ rs) (suc k) r h at = row_to (next + x.places) end rs k r h.1 at

-- another meet in a row
pub span_turned : (m : ℕ) (rs : List Row) (given : List (Option ResourceId)) (k : ℕ) (r : Row) (y : Option Span)
    → slice_get rs k ≡ Some r
    → slots_in m (set rs k (record r { span = y })) given
    ≡ set (slots_in m rs given) k (record (slot_in (m + k) given r) { span = y })
span_turned m [] given k r y at = absurd (none_there k r at)
span_turned m (x ∷ rs) given zero r y at =
    let e : m ≡ m + 0 = omega arith in
    ap (λ n. record (slot_in n given r) { span = y } ∷ slots_in (m + 1) rs given) e
span_turned m (x ∷ rs) given (suc k) r y at =
    let e : m + 1 + k ≡ m + suc k = omega arith in
    ap (λ s. slot_in m given x ∷ s) (span_turned (m + 1) rs given k r y at
    ∙ ap (λ n. set (slots_in (m + 1) rs given) k (record (slot_in n given r) { span = y })) e)

pub order_turned : (next end : ℕ) (rs : List Row) (k : ℕ) (r : Row) (y : Option Span) → slice_get rs k ≡ Some r
    → AreInOrder next end rs → AreInOrder next end (set rs k (record r { span = y }))
order_turned next end [] k r y at h = absurd (none_there k r at)
order_turned next end (x ∷ rs) zero r y at h =
    subst (λ (z : Row). (z.first_task ≡ next) × AreInOrder (next + z.places) end rs) (same_Some x r at) h
order_turned next end (x ∷ rs) (suc k) r y at h = (h.0, order_turned (next + x.places) end rs k r y at h.1)

-- a task slot before those of all rows
given_before : (m : ℕ) (rs : List Row) (given : List (Option ResourceId)) (at : ℕ) (v : Option ResourceId)
    (next end : ℕ) → at < next → AreInOrder next end rs
    → slots_in m rs (set given at v) ≡ slots_in m rs given
given_before m [] given at v next end l h = refl
given_before m (r ∷ rs) given at v next end l h =
    let f : at < r.first_task = let e = h.0 in omega (arith, e, l) in
    let more : at < next + r.places = omega (arith, l) in
    λ i. record (slot_in m given r) { given = take r.places (drop-set-lt r.first_task given at v f i) } ∷ given_before
    (m + 1) rs given at v (next + r.places) end more h.1 i

-- a task slot of one row
pub given_turned : (m : ℕ) (rs : List Row) (given : List (Option ResourceId)) (k : ℕ) (r : Row) (place : ℕ)
    (v : Option ResourceId) (next end : ℕ)
    → AreInOrder next end rs → slice_get rs k ≡ Some r → place < r.places
    → slots_in m rs (set given (r.first_task + place) v)
    ≡ set (slots_in m rs given) k (record (slot_in (m + k) given r)
    { given = set (take r.places (drop r.first_task given)) place v })
given_turned m [] given k r place v next end h at l = absurd (none_there k r at)
given_turned m (x ∷ rs) given zero r place v next end h at l =
    subst (λ (z : Row). slots_in m (z ∷ rs) (set given (r.first_task + place) v)
    ≡ set (slots_in m (z ∷ rs) given) 0 (record (slot_in (m + 0) given r)
    { given = set (take r.places (drop r.first_task given)) place v }))
    (sym (same_Some x r at))
    (let e : m ≡ m + 0 = omega arith in
    let first = ap (λ (z : Row). z.first_task) (same_Some x r at) in
    let many = ap (λ (z : Row). z.places) (same_Some x r at) in
    let f = h.0 in
    let own : take r.places (drop r.first_task (set given (r.first_task + place) v))
    ≡ set (take r.places (drop r.first_task given)) place v =
    ap (take r.places) (drop-set-add r.first_task given place v)
    ∙ take-set-lt r.places (drop r.first_task given) place v l in
    let before : r.first_task + place < next + x.places = omega (arith, first, many, f, l) in
    λ i. record { meet = record { 0 = e i }; event = r.event; span = r.span; given = own i } ∷ given_before (m + 1) rs
    given (r.first_task + place) v (next + x.places) end before h.1 i)
given_turned m (x ∷ rs) given (suc k) r place v next end h at l =
    let n : m + 1 + k ≡ m + suc k = omega arith in
    let from = row_from (next + x.places) end rs k r h.1 at in
    let f = h.0 in
    let back : r.first_task + place ≡ x.first_task + (r.first_task + place - x.first_task) = omega (arith, from, f) in
    let after_it : x.places ≤ r.first_task + place - x.first_task = omega (arith, from, f) in
    let head : take x.places (drop x.first_task (set given (r.first_task + place) v))
    ≡ take x.places (drop x.first_task given) =
    ap (λ j. take x.places (drop x.first_task (set given j v))) back
    ∙ ap (take x.places) (drop-set-add x.first_task given (r.first_task + place - x.first_task) v)
    ∙ take-set-le x.places (drop x.first_task given) (r.first_task + place - x.first_task) v after_it in
    let rest = given_turned (m + 1) rs given k r place v (next + x.places) end h.1 at l
    ∙ ap (λ j. set (slots_in (m + 1) rs given) k (record (slot_in j given r)
    { given = set (take r.places (drop r.first_task given)) place v })) n in
    λ i. record (slot_in m given x) { given = head i } ∷ rest i

-- a task that is given or taken is one of the row's
abbrev pub IsOfRow : Row → Change → Type 0
IsOfRow r (Give t v) = t.place < r.places
IsOfRow r (Take t v) = t.place < r.places
IsOfRow r _ = Unit {0}

place_of_row : (given : List (Option ResourceId)) (r : Row) (k : ℕ) (v : Option ResourceId)
    → slice_get (take r.places (drop r.first_task given)) k ≡ Some v → k < r.places
place_of_row given r k v h =
    let a = slice_get_within (take r.places (drop r.first_task given)) k v h in
    let b = length-take r.places (drop r.first_task given) in
    omega (arith, a, b)

pub task_of_row : (m : ℕ) (given : List (Option ResourceId)) (r : Row) (c : Change) → Suits (slot_in m given r) c
    → IsOfRow r c
task_of_row m given r (Add n d) h = tt
task_of_row m given r (Drop n d) h = tt
task_of_row m given r (Place n t) h = tt
task_of_row m given r (Lift n t) h = tt
task_of_row m given r (Give t v) h = place_of_row given r t.place None h.2
task_of_row m given r (Take t v) h = place_of_row given r t.place (Some v) h.2

pub has_task : (end : ℕ) (r : Row) (c : Change) → r.first_task + r.places ≤ end → IsOfRow r c
    → HasTask end r.first_task c
has_task end r (Add n d) l h = tt
has_task end r (Drop n d) l h = tt
has_task end r (Place n t) l h = tt
has_task end r (Lift n t) l h = tt
has_task end r (Give t v) l h = omega (arith, l, h)
has_task end r (Take t v) l h = omega (arith, l, h)

pub length-tasks_after : (first : ℕ) (given : List (Option ResourceId)) (c : Change)
    → length (tasks_after first given c) ≡ length given
length-tasks_after first given (Add n d) = refl
length-tasks_after first given (Drop n d) = refl
length-tasks_after first given (Place n t) = refl
length-tasks_after first given (Lift n t) = refl
length-tasks_after first given (Give t v) = length-set given (first + t.place) (Some v)
length-tasks_after first given (Take t v) = length-set given (first + t.place) None

set_same : (rs : List Row) (k : ℕ) (r : Row) → slice_get rs k ≡ Some r → set rs k r ≡ rs
set_same rs k r at = ap (set rs k) (sym (get_or_from_slice_get rs k r r at)) ∙ set-get_or rs k r

-- what the stored rows are turned to by a change is the state after it
pub stored_after : (rs : List Row) (given : List (Option ResourceId)) (c : Change) (r : Row) (end : ℕ)
    → AreInOrder 0 end rs → slice_get rs (meet_of c) ≡ Some r → IsOfRow r c
    → slots_in 0 (set rs (meet_of c) (row_after r c)) (tasks_after r.first_task given c) ≡ after (slots_in 0 rs given) c
stored_after rs given c r end order at own =
    by c at own ∙ ap (λ x. set (slots_in 0 rs given) (meet_of c) (changed x c))
    (sym (slot_stored 0 rs given (meet_of c) ∙ ap (λ o. option_map_or (slot_in (0 + meet_of c) given) o no_slot)
    at))
  where
    by : (c : Change) → slice_get rs (meet_of c) ≡ Some r → IsOfRow r c
        → slots_in 0 (set rs (meet_of c) (row_after r c)) (tasks_after r.first_task given c)
        ≡ set (slots_in 0 rs given) (meet_of c) (changed (slot_in (0 + meet_of c) given r) c)
    by (Add n d) at own = span_turned 0 rs given n.0 r (span_after r.span (Add n d)) at
    by (Drop n d) at own = span_turned 0 rs given n.0 r (span_after r.span (Drop n d)) at
    by (Place n t) at own = span_turned 0 rs given n.0 r (span_after r.span (Place n t)) at
    by (Lift n t) at own = span_turned 0 rs given n.0 r (span_after r.span (Lift n t)) at
    by (Give t v) at own =
        ap (λ xs. slots_in 0 xs (set given (r.first_task + t.place) (Some v))) (set_same rs t.meet.0 r at)
        ∙ given_turned 0 rs given t.meet.0 r t.place (Some v) 0 end order at own
    by (Take t v) at own =
        ap (λ xs. slots_in 0 xs (set given (r.first_task + t.place) None)) (set_same rs t.meet.0 r at)
        ∙ given_turned 0 rs given t.meet.0 r t.place None 0 end order at own

-- what turning the rows and the task slots asks
pub record IsTurned (rs : List Row) (given : List (Option ResourceId)) (c : Change) (r : Row) : Type 0 where
  pub found : slice_get rs (meet_of c) ≡ Some r
  pub own : IsOfRow r c
  pub task : HasTask (length given) r.first_task c

pub may_turn : (rs : List Row) (given : List (Option ResourceId)) (c : Change) (k : ℕ) (r : Row) → k ≡ meet_of c
    → r ≡ get_or rs k r → AreInOrder 0 (length given) rs → meet_of c < length rs
    → Suits (slot_at (slots_in 0 rs given) (meet_of c)) c → IsTurned rs given c r
may_turn rs given c k r same_meet value order there suits =
    let at : slice_get rs (meet_of c) ≡ Some r = slice_get-get_or rs (meet_of c) r there
    ∙ ap (λ j. Some (get_or rs j r)) (sym same_meet) ∙ ap Some (sym value) in
    let own = task_of_row (meet_of c) given r c (subst (λ x. Suits x c) (slot_of_row rs given (meet_of c) r at)
    suits) in
    record {
      found = at;
      own = own;
      task = has_task (length given) r c
          (row_to 0 (length given) rs (meet_of c) r order at) own;
    }

pub turned_order : (rs : List Row) (given turned : List (Option ResourceId)) (c : Change) (k : ℕ) (r : Row)
    (y : Option Span) → IsTurned rs given c r → k ≡ meet_of c → turned ≡ tasks_after r.first_task given c
    → AreInOrder 0 (length given) rs
    → AreInOrder 0 (length turned) (set rs k (record r { span = y }))
turned_order rs given turned c k r y t same_meet tasks order =
    subst (λ j. AreInOrder 0 (length turned) (set rs j (record r { span = y }))) (sym same_meet)
    (order_turned 0 (length turned) rs (meet_of c) r y t.found
    (subst (λ n. AreInOrder 0 n rs) (sym (ap length tasks ∙ length-tasks_after r.first_task given c)) order))

pub turned_slots : (rs : List Row) (given turned : List (Option ResourceId)) (c : Change) (k : ℕ) (r : Row)
    (y : Option Span) → IsTurned rs given c r → k ≡ meet_of c → y ≡ span_after r.span c
    → turned ≡ tasks_after r.first_task given c → AreInOrder 0 (length given) rs
    → slots_in 0 (set rs k (record r { span = y })) turned ≡ after (slots_in 0 rs given) c
turned_slots rs given turned c k r y t same_meet spans tasks order =
    (λ i. slots_in 0 (set rs (same_meet i) (record r { span = spans i })) (tasks i))
    ∙ stored_after rs given c r (length given) order t.found t.own
