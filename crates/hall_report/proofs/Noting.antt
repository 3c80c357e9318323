-- What a change that fits makes of units and demands.
use Rattle.std.proofs.Common.{ℕ, cond, ◌+◌, ◌-◌, ◌<◌, ◌≤◌, ◌≡◌, ◌≢◌, inl, inr, Some, None, List, length, set, get_or}
use Rattle.std.proofs.Common.{slice_get, refl, sym, ap, ◌∙◌, subst, arith, length-set, get_or-set_same}
use Rattle.std.proofs.Common.{get_or-set_other}
use Rattle.std.specs.Prelude.{◌==◌}
use Rattle.std.specs.Option.{option_map, option_map_or}
use Rattle.std.proofs.lemmas.Bool.{eq-eqb, ne_eqb}
use Rattle.std.proofs.lemmas.List.Sums.{sum_by-set}
use Rattle.khe_base.specs.declared.numbers.MeetId.{MeetId}
use Rattle.khe_instance.specs.Lookups.{places_at}
use Rattle.khe_instance.specs.Slots.{HasSlot}
use Rattle.khe_instance.specs.WellMade.{AreWellMade}
use Rattle.khe_instance.specs.declared.parts.EventInfo.{EventInfo}
use Rattle.khe_instance.specs.declared.parts.Parts.{Parts}
use Rattle.khe_told.proofs.OpeningLaws.{few_places}
use Rattle.khe_told.specs.Changes.{after, changed, meet_of}
use Rattle.khe_told.specs.Fits.{AreTold, Fits}
use Rattle.khe_told.specs.Slots.{given_at, held, held_by, length_of, no_slot, slot_at}
use Rattle.khe_told.specs.declared.changes.Change.{Change}
use Rattle.khe_told.specs.declared.changes.Change.TheVariants.{Add, Drop, Place as PlaceAt, Lift, Give, Take}
use Rattle.khe_told.specs.declared.slots.Slot.{Slot}
use Rattle.khe_told.specs.declared.slots.Span.{Span}
use Rattle.demand_matching.specs.Domains.{Domains}
use Rattle.hall_report.proofs.Changed.{IsChanged, KeepsNumbers, came, stayed, still_open, went}
use Rattle.hall_report.proofs.Numbers.{number_apart, number_below, slot_is}
use Rattle.hall_report.proofs.UnitLaws.{IsTurned, held_units, kept_unit, released_units, units_below}
use Rattle.hall_report.specs.Kept.{AreOf, number_of}
use Rattle.hall_report.specs.Listing.{IsReadable}
use Rattle.khe_base.specs.declared.numbers.EventId.{EventId}
use Rattle.khe_base.specs.declared.numbers.ResourceId.{ResourceId}
use Rattle.demand_matching.proofs.Counting.{cases_eqb}
use Rattle.demand_matching.specs.declared.domains.Pick.TheVariants.{One, «Set»}
use Rattle.hall_report.specs.Picks.{domain_in, pick_resources, pick_starts, resource_entry}
use Rattle.hall_report.specs.Renewing.{AreApart, IsRenewed, IsTurn}
use Rattle.hall_report.specs.Units.{AreFirsts, AreUnits, IsFree, IsOffset, tasks_of, unit_at, units_of, walk}
use Rattle.hall_report.specs.declared.renewing.Picks.{Picks}
use Rattle.hall_report.specs.declared.units.Units.{Units}

-- the slot of a change, after it
pub own_after : (p : Parts) (s : List Slot) (c : Change) → Fits p s c
    → slot_at (after s c) (meet_of c) ≡ changed (slot_at s (meet_of c)) c
own_after p s c fits = get_or-set_same s (meet_of c) (changed (slot_at s (meet_of c)) c) no_slot fits.there

same_places : (x : Slot) (c : Change) → length (changed x c).given ≡ length x.given
same_places x (Add m d) = refl
same_places x (Drop m d) = refl
same_places x (PlaceAt m t) = refl
same_places x (Lift m t) = refl
same_places x (Give t r) = length-set x.given t.place (Some r)
same_places x (Take t r) = length-set x.given t.place None

pub changed_is : (p : Parts) (s : List Slot) (c : Change) → Fits p s c → IsChanged s (after s c) (meet_of c)
changed_is p s c fits = record {
  there = fits.there;
  same_length = length-set s (meet_of c) (changed (slot_at s (meet_of c)) c);
  others = λ n ne. get_or-set_other s (meet_of c) n (changed (slot_at s (meet_of c)) c) no_slot ne;
  places = ap (λ (x : Slot). length x.given) (own_after p s c fits) ∙ same_places (slot_at s (meet_of c)) c;
  event = ap (λ (x : Slot). x.event) (own_after p s c fits);
}

own_held : (e : ℕ) (x : Slot) → x.event.0 ≡ e → held_by e x ≡ length_of x
own_held e x h = ap (λ b. cond {A = ℕ} b (length_of x) 0) (eq-eqb x.event.0 e h)

none_held : (e : ℕ) (x : Slot) → x.event.0 ≢ e → held_by e x ≡ 0
none_held e x h = ap (λ b. cond {A = ℕ} b (length_of x) 0) (ne_eqb x.event.0 e (λ q. absurd (h q)))

pub held_after : (p : Parts) (s : List Slot) (c : Change) → Fits p s c
    → held (slot_at s (meet_of c)).event.0 (after s c) + length_of (slot_at s (meet_of c))
    ≡ held (slot_at s (meet_of c)).event.0 s + length_of (changed (slot_at s (meet_of c)) c)
held_after p s c fits =
    let x : Slot = slot_at s (meet_of c) in
    let a = sum_by-set (held_by x.event.0) s (meet_of c) (changed x c) no_slot fits.there in
    let b = own_held x.event.0 x refl in
    let d = own_held x.event.0 (changed x c) refl in
    omega (arith, a, b, d)

pub turned_is : (p : Parts) (s : List Slot) (c : Change) → AreWellMade p → AreTold p s → (fits : Fits p s c)
    → (event : EventInfo) × IsTurned p.events s (after s c) (meet_of c) (slot_at s (meet_of c)).event.0 event
turned_is p s c made told fits =
    let x : Slot = slot_at s (meet_of c) in
    let it = slot_is p s (meet_of c) made.first_meets told.whose fits.there in
    let ch = changed_is p s c fits in (
      it.has.0,
      record {
        at = ap (slice_get p.events) it.slot.event ∙ it.has.1;
        old_event = refl;
        new_event = ap (λ (y : Slot). y.event.0) (own_after p s c fits);
        others = ch.others;
        elsewhere = λ f ne.
            let a = sum_by-set (held_by f) s (meet_of c) (changed x c) no_slot fits.there in
            let b = none_held f x (λ q. ne (sym q)) in
            let d = none_held f (changed x c) (λ q. ne (sym q)) in
            omega (arith, a, b, d);
        first = made.first_meets;
      },
    )

-- the units of a slot's meet are there, and its demands have numbers below those of the cells
pub readable_is : (p : Parts) (s : List Slot) (u : Units) (m : ℕ) → AreWellMade p → AreTold p s
    → AreUnits p.events s u.next.items u.held.items u.free.items → AreFirsts p.events u.tasks.items → m < length s
    → IsReadable u m (length (slot_at s m).given) (length_of (slot_at s m))
readable_is p s u m made told units firsts l =
    let it = slot_is p s m made.first_meets told.whose l in
    let below : (o : ℕ) → o < length_of (slot_at s m)
    → unit_at u.next.items u.held.items m o < units_of p.events =
    λ o a. units_below p.events (slot_at s m).event.0 (unit_at u.next.items u.held.items m o) made.first_meets
    (units.holds m o a) in
    let few = few_places p m it.event it.has.0 made.first_meets it.has it.has.1 in
    let places : places_at p.events it.event ≡ length it.has.0.places =
    ap (λ q. option_map_or (λ (z : EventInfo). length z.places) q 0) it.has.1 in
    let many = it.slot.many in
    let limit = made.limits.tasks in
    record {
      few = omega (arith, few, places, many, limit);
      first = (let a = units.firsts_length in let b = units_below p.events it.event m made.first_meets it.has in
          omega (arith, a, b));
      unit = λ o a. (let b = below o a in let d = units.next_length in omega (arith, b, d));
      task = λ o a. (let b = below o a in let d = firsts.amount in omega (arith, b, d));
      number = λ k o a b. (let d = number_below p s u made.first_meets told.whose units firsts m k o (a, b) in
          omega (arith, d, limit));
    }

pub apart_is : (p : Parts) (s : List Slot) (u : Units) (m from end count : ℕ) → AreWellMade p → AreTold p s
    → AreUnits p.events s u.next.items u.held.items u.free.items → AreFirsts p.events u.tasks.items
    → end ≤ length (slot_at s m).given → count ≤ length_of (slot_at s m) → AreApart (number_of u m) from end count
apart_is p s u m from end count made told units firsts wide long = λ k o j i a b d e same.
    let r = number_apart p s u made.first_meets told.whose units firsts m k o m j i
    (omega (arith, a, wide), omega (arith, b, long)) (omega (arith, d, wide), omega (arith, e, long)) same in
    (r.1, r.2)

pub below_is : (p : Parts) (s : List Slot) (u : Units) (m end count : ℕ) → AreWellMade p → AreTold p s
    → AreUnits p.events s u.next.items u.held.items u.free.items → AreFirsts p.events u.tasks.items
    → end ≤ length (slot_at s m).given → count ≤ length_of (slot_at s m) → (k o : ℕ) → k < end → o < count
    → number_of u m k o < tasks_of p.events
below_is p s u m end count made told units firsts wide long =
    λ k o a b. number_below p s u made.first_meets told.whose units firsts m k o
    (omega (arith, a, wide), omega (arith, b, long))

-- a meet comes: the units that it gets
module _ (p : Parts) (s : List Slot) (meet : MeetId) (d : ℕ) (u v : Units) (made : AreWellMade p) (told : AreTold p s)
    (fits : Fits p s (Add meet d))
    (units : AreUnits p.events s u.next.items u.held.items u.free.items)
    (next : v.next.items ≡ u.next.items) (firsts : v.held.items
    ≡ set u.held.items meet.0 (get_or u.free.items (slot_at s meet.0).event.0 0))
    (free : v.free.items ≡ set u.free.items (slot_at s meet.0).event.0
    (unit_at u.next.items u.free.items (slot_at s meet.0).event.0 d))
  where
    added_none : length_of (slot_at s meet.0) ≡ 0
    added_none = ap (λ o. option_map_or (λ (y : Span). y.duration) o 0) fits.suits

    pub added_long : length_of (slot_at (after s (Add meet d)) meet.0) ≡ d
    added_long = ap length_of (own_after p s (Add meet d) fits)

    added_more : held (slot_at s meet.0).event.0 (after s (Add meet d)) ≡ held (slot_at s meet.0).event.0 s + d
    added_more = let a = held_after p s (Add meet d) fits in let b = added_none in omega (arith, a, b)

    added_room : held (slot_at s meet.0).event.0 (after s (Add meet d)) ≤ (turned_is p s (Add meet d) made told
        fits).0.duration
    added_room = let t = turned_is p s (Add meet d) made told fits in
        fits.told.durations (slot_at s meet.0).event.0 t.0 t.1.at

    added_there : meet.0 < length u.held.items
    added_there =
        let it = slot_is p s meet.0 made.first_meets told.whose fits.there in
        let a = units.firsts_length in let b = units_below p.events it.event meet.0 made.first_meets it.has in
        omega (arith, a, b)

    pub added_units : AreUnits p.events (after s (Add meet d)) v.next.items v.held.items v.free.items
    added_units =
        let t = turned_is p s (Add meet d) made told fits in
        subst (λ xs. AreUnits p.events (after s (Add meet d)) xs v.held.items v.free.items) (sym next)
        (subst (λ xs. AreUnits p.events (after s (Add meet d)) u.next.items xs v.free.items) (sym firsts)
        (subst (λ xs. AreUnits p.events (after s (Add meet d)) u.next.items
        (set u.held.items meet.0 (get_or u.free.items (slot_at s meet.0).event.0 0)) xs) (sym free)
        (held_units p.events s (after s (Add meet d)) meet.0 (slot_at s meet.0).event.0 d t.0 u.next.items u.held.items
        u.free.items t.1 units added_there added_none added_long added_more added_room)))

    pub added_within : (i : ℕ) → i < d → unit_at u.next.items u.free.items (slot_at s meet.0).event.0 i < length
        u.next.items
    added_within i l =
        let t = turned_is p s (Add meet d) made told fits in
        let a = added_more in
        let b = added_room in
        let free_one : IsFree s (slot_at s meet.0).event.0 t.0 i = omega (arith, a, b, l) in
        let q = units_below p.events (slot_at s meet.0).event.0
        (unit_at u.next.items u.free.items (slot_at s meet.0).event.0 i) made.first_meets
        (units.spare (slot_at s meet.0).event.0 i t.0 t.1.at free_one) in
        let n = units.next_length in
        omega (arith, q, n)

    pub added_numbers : v.tasks.items ≡ u.tasks.items → KeepsNumbers s u v meet.0
    added_numbers tasks = λ n k o ne l.
        ap (λ ts. get_or ts (unit_at v.next.items v.held.items n o) 0 + k) tasks
        ∙ ap (λ ns. get_or u.tasks.items (unit_at ns v.held.items n o) 0 + k) next
        ∙ ap (λ hs. get_or u.tasks.items (unit_at u.next.items hs n o) 0 + k) firsts
        ∙ ap (λ i. get_or u.tasks.items (walk u.next.items i o) 0 + k)
        (get_or-set_other u.held.items meet.0 n (get_or u.free.items (slot_at s meet.0).event.0 0) 0 ne)

    pub added_of : (picks : Picks) (w w' : Domains) (cells : List ℕ) (tasks times end : ℕ)
        → AreOf p s u picks w cells tasks times → v.tasks.items ≡ u.tasks.items
        → end ≡ length (slot_at (after s (Add meet d)) meet.0).given
        → IsRenewed w w' (number_of v meet.0) (domain_in p.events picks.starts.items picks.resources.items
        (slot_at (after s (Add meet d)) meet.0)) 0 end d
        → AreOf p (after s (Add meet d)) v picks w' cells tasks times
    added_of picks w w' cells tasks times end are same all re =
        let firsts_now : AreFirsts p.events v.tasks.items = subst (AreFirsts p.events) (sym same) are.opened.firsts in
        let long = added_long in
        record {
          told = fits.told;
          units = added_units;
          opened = still_open p u v picks w w' cells (number_of v meet.0)
              (domain_in p.events picks.starts.items picks.resources.items (slot_at (after s (Add meet d)) meet.0)) 0
              end d are.opened same
              (below_is p (after s (Add meet d)) v meet.0 end d made fits.told added_units firsts_now
              (omega (arith, all)) (omega (arith, long))) re;
          numbered = came p s (after s (Add meet d)) meet.0 picks u w w' 0 end d made.first_meets
              (changed_is p s (Add meet d) fits) are.numbered v fits.told.whose added_units firsts_now
              (added_numbers same) added_none refl all (sym long) re;
          task_count = are.task_count;
          time_count = are.time_count;
        }

-- a meet goes: the units that are free again
module _ (p : Parts) (s : List Slot) (meet : MeetId) (d : ℕ) (u v : Units) (made : AreWellMade p) (told : AreTold p s)
    (fits : Fits p s (Drop meet d))
    (units : AreUnits p.events s u.next.items u.held.items u.free.items) (some : 1 ≤ d)
    (next : v.next.items ≡ set u.next.items (unit_at u.next.items u.held.items meet.0 (d - 1))
    (get_or u.free.items (slot_at s meet.0).event.0 0)) (firsts : v.held.items ≡ u.held.items)
    (free : v.free.items ≡ set u.free.items (slot_at s meet.0).event.0 (get_or u.held.items meet.0 0))
  where
    pub dropped_long : length_of (slot_at s meet.0) ≡ d
    dropped_long = ap (λ o. option_map_or (λ (y : Span). y.duration) o 0) fits.suits.0

    pub dropped_span : (slot_at (after s (Drop meet d)) meet.0).span ≡ None
    dropped_span = ap (λ (x : Slot). x.span) (own_after p s (Drop meet d) fits)

    dropped_none : length_of (slot_at (after s (Drop meet d)) meet.0) ≡ 0
    dropped_none = ap (λ o. option_map_or (λ (y : Span). y.duration) o 0) dropped_span

    dropped_less : held (slot_at s meet.0).event.0 s ≡ held (slot_at s meet.0).event.0 (after s (Drop meet d)) + d
    dropped_less = let a = held_after p s (Drop meet d) fits in let b = dropped_long in omega (arith, a, b)

    dropped_there : meet.0 < length u.held.items
    dropped_there =
        let it = slot_is p s meet.0 made.first_meets told.whose fits.there in
        let a = units.firsts_length in let b = units_below p.events it.event meet.0 made.first_meets it.has in
        omega (arith, a, b)

    pub dropped_units : AreUnits p.events (after s (Drop meet d)) v.next.items v.held.items v.free.items
    dropped_units =
        let t = turned_is p s (Drop meet d) made told fits in
        subst (λ xs. AreUnits p.events (after s (Drop meet d)) xs v.held.items v.free.items) (sym next)
        (subst (λ xs. AreUnits p.events (after s (Drop meet d))
        (set u.next.items (unit_at u.next.items u.held.items meet.0 (d - 1))
        (get_or u.free.items (slot_at s meet.0).event.0 0)) xs v.free.items) (sym firsts)
        (subst (λ xs. AreUnits p.events (after s (Drop meet d))
        (set u.next.items (unit_at u.next.items u.held.items meet.0 (d - 1))
        (get_or u.free.items (slot_at s meet.0).event.0 0)) u.held.items xs) (sym free)
        (released_units p.events s (after s (Drop meet d)) meet.0 (slot_at s meet.0).event.0 d t.0 u.next.items
        u.held.items u.free.items t.1 units dropped_there dropped_long some dropped_none dropped_less)))

    pub dropped_numbers : v.tasks.items ≡ u.tasks.items → KeepsNumbers (after s (Drop meet d)) u v meet.0
    dropped_numbers tasks = λ n k o ne l.
        let t = turned_is p s (Drop meet d) made told fits in
        ap (λ ts. get_or ts (unit_at v.next.items v.held.items n o) 0 + k) tasks
        ∙ ap (λ ns. get_or u.tasks.items (unit_at ns v.held.items n o) 0 + k) next
        ∙ ap (λ hs. get_or u.tasks.items (unit_at (set u.next.items (unit_at u.next.items u.held.items meet.0 (d - 1))
        (get_or u.free.items (slot_at s meet.0).event.0 0)) hs n o) 0 + k) firsts
        ∙ ap (λ i. get_or u.tasks.items i 0 + k) (kept_unit p.events s (after s (Drop meet d)) meet.0
        (slot_at s meet.0).event.0 d t.0 u.next.items u.held.items u.free.items t.1 units dropped_there dropped_long
        some dropped_none dropped_less n o ne l)

    pub dropped_of : (picks : Picks) (w w' : Domains) (cells : List ℕ) (tasks times end : ℕ)
        → AreOf p s u picks w cells tasks times → v.tasks.items ≡ u.tasks.items → end ≡ length (slot_at s meet.0).given
        → IsRenewed w w' (number_of u meet.0) (domain_in p.events picks.starts.items picks.resources.items
        (slot_at (after s (Drop meet d)) meet.0)) 0 end d
        → AreOf p (after s (Drop meet d)) v picks w' cells tasks times
    dropped_of picks w w' cells tasks times end are same all re =
        let long = dropped_long in
        record {
          told = fits.told;
          units = dropped_units;
          opened = still_open p u v picks w w' cells (number_of u meet.0)
              (domain_in p.events picks.starts.items picks.resources.items (slot_at (after s (Drop meet d)) meet.0)) 0
              end d are.opened same
              (below_is p s u meet.0 end d made told units are.opened.firsts (omega (arith, all)) (omega (arith, long)))
              re;
          numbered = went p s (after s (Drop meet d)) meet.0 picks u w w' 0 end d made.first_meets
              (changed_is p s (Drop meet d) fits) are.numbered v told.whose units are.opened.firsts
              (dropped_numbers same) dropped_span refl all (sym long) re;
          task_count = are.task_count;
          time_count = are.time_count;
        }

-- a meet stays, and so do the units
pub stayed_units : (p : Parts) (s : List Slot) (c : Change) (next firsts free : List ℕ)
    → AreUnits p.events s next firsts free → Fits p s c
    → length_of (slot_at (after s c) (meet_of c)) ≡ length_of (slot_at s (meet_of c))
    → AreUnits p.events (after s c) next firsts free
stayed_units p s c next firsts free units fits live = record {
  next_length = units.next_length;
  firsts_length = units.firsts_length;
  free_length = units.free_length;
  holds = λ n o l. subst (λ (z : EventId). HasSlot p.events z.0 (unit_at next firsts n o)) (sym (event_same n))
      (units.holds n o (offset_same n o l));
  apart = λ n k i j l g e. units.apart n k i j (offset_same n i l) (offset_same k j g) e;
  spare = λ e i event at l. units.spare e i event at (free_same e i event l);
  spare_apart = λ e i j event at l g same. units.spare_apart e i j event at (free_same e i event l)
      (free_same e j event g) same;
  others = λ n o e i event l at g same. units.others n o e i event (offset_same n o l) at (free_same e i event g) same;
}
  where
    long_same : (n : ℕ) → length_of (slot_at (after s c) n) ≡ length_of (slot_at s n)
    long_same n = elim (cases_eqb n (meet_of c)) [
      | inl eq ↦ ap (λ i. length_of (slot_at (after s c) i)) eq ∙ live ∙ ap (λ i. length_of (slot_at s i)) (sym eq)
      | inr ne ↦ ap length_of ((changed_is p s c fits).others n ne)
    ]

    offset_same : (n o : ℕ) → IsOffset (after s c) n o → IsOffset s n o
    offset_same n o l = let a = long_same n in omega (arith, a, l)

    event_same : (n : ℕ) → (slot_at (after s c) n).event ≡ (slot_at s n).event
    event_same n = elim (cases_eqb n (meet_of c)) [
      | inl eq ↦ ap (λ i. (slot_at (after s c) i).event) eq ∙ (changed_is p s c fits).event
          ∙ ap (λ i. (slot_at s i).event) (sym eq)
      | inr ne ↦ ap (λ (z : Slot). z.event) ((changed_is p s c fits).others n ne)
    ]

    held_same : (e : ℕ) → held e (after s c) ≡ held e s
    held_same e =
        let x : Slot = slot_at s (meet_of c) in
        let a = sum_by-set (held_by e) s (meet_of c) (changed x c) no_slot fits.there in
        let l : length_of (changed x c) ≡ length_of x = sym (ap length_of (own_after p s c fits)) ∙ live in
        let b : held_by e (changed x c) ≡ held_by e x = ap (λ n. cond {A = ℕ} (x.event.0 == e) n 0) l in
        omega (arith, a, b)

    free_same : (e i : ℕ) (event : EventInfo) → IsFree (after s c) e event i → IsFree s e event i
    free_same e i event l = let a = held_same e in omega (arith, a, l)

-- a meet stays
pub turned_of : (p : Parts) (s : List Slot) (c : Change) (u : Units) (picks : Picks) (w w' : Domains) (cells : List ℕ)
    (tasks times from end count : ℕ) → AreOf p s u picks w cells tasks times → (fits : Fits p s c)
    → IsTurn p s c from end
    → count ≡ length_of (slot_at s (meet_of c))
    → IsRenewed w w' (number_of u (meet_of c)) (domain_in p.events picks.starts.items picks.resources.items
    (slot_at (after s c) (meet_of c))) from end count → AreOf p (after s c) u picks w' cells tasks times
turned_of p s c u picks w w' cells tasks times from end count are fits turn long re =
    let m : ℕ = meet_of c in
    let x : Slot = slot_at s m in
    let y : Slot = slot_at (after s c) m in
    let ch = changed_is p s c fits in
    record {
      told = fits.told;
      units = stayed_units p s c u.next.items u.held.items u.free.items are.units fits turn.live;
      opened = still_open p u u picks w w' cells (number_of u m)
          (domain_in p.events picks.starts.items picks.resources.items y) from end count are.opened refl
          (below_is p s u m end count are.opened.made are.told are.units are.opened.firsts turn.within
          (omega (arith, long))) re;
      numbered = stayed p s (after s c) m picks u w w' from end count are.opened.made.first_meets ch are.numbered
          are.told.whose are.units are.opened.firsts turn.live turn.within long
          (λ k o near out.
          let same = turn.outside k near out in
          let e : x.event.0 ≡ y.event.0 = ap (λ (z : EventId). z.0) (sym ch.event) in
          ap (λ v. option_map (λ (z : Span). record {
            times = pick_starts p.events picks.starts.items x.event.0 z;
            shift = o;
            resources = pick_resources p.events picks.resources.items x k;
          }) v) (sym same.0)
          ∙ ap (λ g. option_map (λ (z : Span). record {
            times = pick_starts p.events picks.starts.items x.event.0 z;
            shift = o;
            resources = option_map_or (λ (r : ResourceId). One r.0) g
                («Set» (get_or picks.resources.items (resource_entry p.events x.event.0 k) 0));
          }) y.span) (sym same.1)
          ∙ ap (λ n. option_map (λ (z : Span). record {
            times = pick_starts p.events picks.starts.items n z;
            shift = o;
            resources = option_map_or (λ (r : ResourceId). One r.0) (given_at y k)
                («Set» (get_or picks.resources.items (resource_entry p.events n k) 0));
          }) y.span) e)
          re;
      task_count = are.task_count;
      time_count = are.time_count;
    }
