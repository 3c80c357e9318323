-- Putting a meet, or none, and what its places are given into the stored rows, place by place.
use Rattle.std.proofs.Common.{ℕ, ◌≡◌, ◌+◌, ◌<◌, ◌≤◌, ◌∙◌, Option, Some, None, List, [], ◌∷◌, ◌++◌, length, take, drop}
use Rattle.std.proofs.Common.{get_or, set, slice_get, sym, ap, subst, arith, append_assoc, get_or-set_same}
use Rattle.std.proofs.Common.{set-set}
use Rattle.std.specs.Option.{option_map_or}
use Rattle.std.proofs.lemmas.List.{append-nil, drop_all, drop_more, length-set, length-take, length-take-le}
use Rattle.std.proofs.lemmas.List.{set_at, take_all, take_more}
use Rattle.std.proofs.lemmas.Option.{get_or_from_slice_get, slice_get-get_or, slice_get_within}
use Rattle.khe_base.specs.declared.numbers.ResourceId.{ResourceId}
use Rattle.khe_instance.specs.declared.states.Meet.{Meet}
use Rattle.khe_instance.specs.declared.states.Task.{Task}
use Rattle.khe_told.proofs.NamingLaws.{mixed}
use Rattle.khe_told.proofs.SlotLaws.{set-there}
use Rattle.khe_told.proofs.StoredLaws.{given_turned, length-slots_in, order_turned, slot_of_row, slot_stored}
use Rattle.khe_told.proofs.StoredLaws.{span_turned}
use Rattle.khe_told.specs.Slots.{no_slot, slot_at}
use Rattle.khe_told.specs.Stored.{AreInOrder, slot_in, slots_in}
use Rattle.khe_told.specs.declared.rows.Row.{Row}
use Rattle.khe_told.specs.declared.slots.Slot.{Slot}
use Rattle.khe_told.specs.declared.slots.Span.{Span}

abbrev pub span_of : Meet → Option Span
span_of m = Some (record { duration = m.duration; start = m.start })

-- what a task is given
abbrev pub resource_of : Task → Option ResourceId
resource_of t = t.resource

-- a slot with another meet and what n of its places are given
abbrev pub part : Slot → Option Span → List (Option ResourceId) → ℕ → Slot
part x y vs k = record x { span = y; given = take k vs ++ drop k x.given }

pub record IsPut (rows : List Row) (given : List (Option ResourceId)) (s : List Slot) (n : ℕ)
    (y : Option Span) (vs : List (Option ResourceId)) (row : Row) (k : ℕ) : Type 0 where
  pub order : AreInOrder 0 (length given) rows
  pub found : slice_get rows n ≡ Some (record row { span = y })
  pub few : length vs ≤ row.places
  pub there : n < length s
  pub many : length vs ≡ length (slot_at s n).given
  pub slots : slots_in 0 rows given ≡ set s n (part (slot_at s n) y vs k)

pub put_start : (rows : List Row) (given : List (Option ResourceId)) (n : ℕ) (y : Option Span)
    (vs : List (Option ResourceId)) (row : Row) → AreInOrder 0 (length given) rows → n < length rows
    → length vs ≡ length (slot_at (slots_in 0 rows given) n).given → row ≡ get_or rows n row
    → IsPut (set rows n (record row { span = y })) given (slots_in 0 rows given) n y vs row 0
put_start rows given n y vs row order there many value =
    let at : slice_get rows n ≡ Some row = slice_get-get_or rows n row there ∙ ap Some (sym value) in
    let is = slot_of_row rows given n row at in
    record {
      order = order_turned 0 (length given) rows n row y at order;
      found = set-there rows n (record row { span = y }) row at;
      few = let a = ap (λ (x : Slot). length x.given) is in let b =
          length-take row.places (drop row.first_task given) in omega (arith, many, a, b);
      there = let l = length-slots_in 0 rows given in omega (arith, l, there);
      many = many;
      slots = span_turned 0 rows given n row y at
          ∙ ap (λ (x : Slot). set (slots_in 0 rows given) n (record x { span = y }))
          (sym (slot_stored 0 rows given n ∙ ap (λ o. option_map_or (slot_in (0 + n) given) o no_slot) at));
    }

pub put_more : (rows : List Row) (given : List (Option ResourceId)) (s : List Slot) (n : ℕ) (y : Option Span)
    (vs : List (Option ResourceId)) (row : Row) (k : ℕ) (v : Option ResourceId) → IsPut rows given s n y vs row k
    → slice_get vs k ≡ Some v
    → IsPut rows (set given (row.first_task + k) v) s n y vs row (k + 1)
put_more rows given s n y vs row k v h at =
    let x = slot_at s n in
    let new : Row = record row { span = y } in
    let l = slice_get_within vs k v at in
    let few = h.few in
    let many = h.many in
    let place : k < row.places = omega (arith, l, few) in
    let within : k < length x.given = omega (arith, l, many) in
    let front = take k vs in
    let now : slot_in (0 + n) given new ≡ part x y vs k =
    sym (slot_stored 0 rows given n ∙ ap (λ o. option_map_or (slot_in (0 + n) given) o no_slot) h.found)
    ∙ ap (λ z. slot_at z n) h.slots ∙ get_or-set_same s n (part x y vs k) no_slot h.there in
    let front_many : length front ≡ k = length-take-le k vs (omega (arith, l)) in
    let next : set (front ++ drop k x.given) k v ≡ take (k + 1) vs ++ drop (k + 1) x.given =
    ap (λ g. set (front ++ g) k v) (drop_more x.given k None within)
    ∙ set_at front (get_or x.given k None) (drop (k + 1) x.given) v k front_many
    ∙ sym (append_assoc front (v ∷ []) (drop (k + 1) x.given))
    ∙ ap (λ g. g ++ drop (k + 1) x.given)
    (sym (take_more vs k v l ∙ ap (λ u. take k vs ++ u ∷ []) (get_or_from_slice_get vs k v v at))) in
    record {
      order = subst (λ j. AreInOrder 0 j rows) (sym (length-set given (row.first_task + k) v)) h.order;
      found = h.found;
      few = h.few;
      there = h.there;
      many = h.many;
      slots = given_turned 0 rows given n new k v 0 (length given) h.order h.found place
          ∙ ap (λ (z : Slot). set (slots_in 0 rows given) n (record z { given = set z.given k v })) now
          ∙ ap (λ q. set q n (record (part x y vs k) { given = set (front ++ drop k x.given) k v })) h.slots
          ∙ set-set s n (part x y vs k) (record (part x y vs k) { given = set (front ++ drop k x.given) k v })
          ∙ ap (λ g. set s n (record (part x y vs k) { given = g })) next;
    }

-- places that are given the same already are passed over
pub put_over : (rows : List Row) (given : List (Option ResourceId)) (s : List Slot) (n : ℕ) (y : Option Span)
    (vs : List (Option ResourceId)) (row : Row) (k next : ℕ) → k ≤ next → IsPut rows given s n y vs row k
    → ((j : ℕ) → k ≤ j → j < next → slice_get (slot_at s n).given j ≡ slice_get vs j)
    → IsPut rows given s n y vs row next
put_over rows given s n y vs row k next l h same = record {
  order = h.order;
  found = h.found;
  few = h.few;
  there = h.there;
  many = h.many;
  slots = h.slots
      ∙ ap (λ g. set s n (record (slot_at s n) { span = y; given = g }))
      (mixed vs (slot_at s n).given k next h.many l same);
}

pub put_done : (rows : List Row) (given : List (Option ResourceId)) (s : List Slot) (n : ℕ) (y : Option Span)
    (vs : List (Option ResourceId)) (row : Row) (k : ℕ) → length vs ≤ k → IsPut rows given s n y vs row k
    → slots_in 0 rows given ≡ set s n (record (slot_at s n) { span = y; given = vs })
put_done rows given s n y vs row k l h =
    let x = slot_at s n in
    let many = h.many in
    let all : take k vs ++ drop k x.given ≡ vs =
    (λ i. take_all k vs l i ++ drop_all k x.given (omega (arith, l, many)) i)
    ∙ append-nil vs in
    h.slots ∙ ap (λ g. set s n (record x { span = y; given = g })) all
