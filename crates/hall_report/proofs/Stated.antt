-- The domains that are kept are those of the told state's demands, under their numbers.
use Rattle.std.proofs.Common.{ℕ, zero, suc, cond, ◌+◌, ◌-◌, ◌/◌, ◌%◌, ◌<◌, ◌≤◌, ◌≡◌, ◌⊎◌, inl, inr, Bool, true, false}
use Rattle.std.proofs.Common.{◌&&◌, Option, Some, None, List, [], ◌∷◌, map, length, get_or, slice_get, leb, refl, sym}
use Rattle.std.proofs.Common.{ap, ◌∙◌, subst, arith, IfSome}
use Rattle.std.specs.Prelude.{is_some, ◌==◌}
use Rattle.std.specs.Option.{option_and_then, option_map, option_map_or}
use Rattle.std.proofs.lemmas.Bool.{cases_lt, cases_Bool, le-leb, eq-eqb, false≢true}
use Rattle.std.proofs.lemmas.List.{length-append, length-map}
use Rattle.std.proofs.lemmas.List.FromFn.{get_or-map-range_with_len, length-map-range_with_len}
use Rattle.std.proofs.lemmas.List.Sums.{sum_by-cons}
use Rattle.std.proofs.lemmas.Option.{slice_get-get_or, slice_get_past, slice_get_within, get_or_from_slice_get}
use Rattle.khe_base.proofs.ListLemmas.{there, mapped-there, all-there}
use Rattle.khe_base.specs.IdSet.{has_member}
use Rattle.khe_base.specs.declared.numbers.ResourceId.{ResourceId}
use Rattle.khe_base.specs.declared.numbers.TimeId.{TimeId}
use Rattle.khe_instance.specs.Lookups.{place_at, places_at}
use Rattle.khe_instance.specs.WellMade.{AreWellMade}
use Rattle.khe_instance.specs.declared.parts.EventInfo.{EventInfo}
use Rattle.khe_instance.specs.declared.parts.Parts.{Parts}
use Rattle.khe_instance.specs.declared.parts.Place.{Place}
use Rattle.khe_told.specs.Fits.{AreTold, IsSlot}
use Rattle.khe_told.specs.Slots.{slot_at, no_slot, given_at, held, held_by, length_of}
use Rattle.khe_told.specs.declared.slots.Slot.{Slot}
use Rattle.khe_told.specs.declared.slots.Span.{Span}
use Rattle.demand_matching.specs.Domains.{Domains, admits_where_present, domain_of, is_picked, is_present, may_have}
use Rattle.demand_matching.specs.declared.domains.Pick.TheVariants.{One, «Set»}
use Rattle.hall_report.proofs.Numbers.{live_below, live_slot, number_apart, number_below, slot_is, task_place}
use Rattle.hall_report.proofs.Places.{get_left, get_right, mapped_there, spot_at, spot_of, spot_there}
use Rattle.hall_report.proofs.Renaming.{IsRenamed, present_below}
use Rattle.hall_report.specs.Demands.{demands, domains, has_type, own_domain, runs_at, set_where, slot_starts}
use Rattle.hall_report.specs.Demands.{slot_takes, span_starts, takes, task_demands, unavailable_demands}
use Rattle.hall_report.specs.Kept.{AreOpen, AreTasks, IsTask, cell_demand, number_of}
use Rattle.hall_report.specs.Listing.{number_at}
use Rattle.hall_report.specs.Picks.{AreResourceSets, AreStartSets, cell_domain, pick_resources, pick_starts}
use Rattle.hall_report.specs.Picks.{resource_entry, start_entry}
use Rattle.hall_report.specs.Strict.{may_be_given, may_start}
use Rattle.hall_report.specs.Units.{AreUnits, IsOffset, tasks_of}
use Rattle.hall_report.specs.declared.demand.Demand.{Demand}
use Rattle.hall_report.specs.declared.demand.Demand.TheVariants.{Task}
use Rattle.hall_report.specs.declared.renewing.Picks.{Picks}
use Rattle.hall_report.specs.declared.units.Units.{Units}

-- a pick is a given number or a set
picks_given : (sets : List (List Bool)) (n q : ℕ) (o : Option ResourceId) (b : Bool)
    → has_member (get_or sets n []) q ≡ b
    → is_picked sets (option_map_or (λ (r : ResourceId). One r.0) o («Set» n)) q
    ≡ option_map_or (λ (g : ResourceId). g.0 == q) o b
picks_given sets n q None b h = h
picks_given sets n q (Some g) b h = refl

picks_started : (sets : List (List Bool)) (n q : ℕ) (o : Option TimeId) (b : Bool) → has_member (get_or sets n []) q ≡ b
    → is_picked sets (option_map_or (λ (r : TimeId). One r.0) o («Set» n)) q
    ≡ option_map_or (λ (g : TimeId). g.0 == q) o b
picks_started sets n q None b h = h
picks_started sets n q (Some g) b h = refl

-- a place that is there
pub place_there : (events : List EventInfo) (e k : ℕ) → k < places_at events e
    → (place : Place) × (place_at events e k ≡ Some place)
place_there events e k l = of (slice_get events e) l
  where
    of : (o : Option EventInfo) → k < option_map_or (λ (event : EventInfo). length event.places) o 0
        → (place : Place) × (option_and_then (λ (event : EventInfo). slice_get event.places k) o ≡ Some place)
    of None l = absurd (omega (arith, l))
    of (Some event) l = let r = there event.places k l in (r.value, r.found)

pub resources_picked : (p : Parts) (sets : List (List Bool)) (entries : List ℕ) (x : Slot) (k r : ℕ)
    → AreResourceSets p sets entries → k < places_at p.events x.event.0
    → is_picked sets (pick_resources p.events entries x k) r ≡ slot_takes p x k r
resources_picked p sets entries x k r are l =
    let it = place_there p.events x.event.0 k l in
    picks_given sets (get_or entries (resource_entry p.events x.event.0 k) 0) r (given_at x k)
    (has_type p (place_at p.events x.event.0 k) r && may_be_given p x.event.0 k r)
    (are.members x.event.0 k r it.0 it.1 ∙ ap (λ o. has_type p o r && may_be_given p x.event.0 k r) (sym it.1))

pub starts_picked : (p : Parts) (sets : List (List Bool)) (entries : List ℕ) (e t : ℕ) (event : EventInfo) (y : Span)
    → AreStartSets p sets entries → slice_get p.events e ≡ Some event → 1 ≤ y.duration → y.duration ≤ event.duration
    → is_picked sets (pick_starts p.events entries e y) t ≡ span_starts p e y t
starts_picked p sets entries e t event y are at some few =
    picks_started sets (get_or entries (start_entry p.events e y.duration) 0) t y.start
    (leb (t + y.duration) (length p.times) && may_start p e y.duration t)
    (are.members e y.duration t event at some few)

-- a slot's meet is as long as its event at most
held_part : (e : ℕ) (s : List Slot) (m : ℕ) → m < length s → held_by e (slot_at s m) ≤ held e s
held_part e [] m l = absurd (omega (arith, l))
held_part e (x ∷ s) zero l = let a = sum_by-cons (held_by e) x s in omega (arith, a)
held_part e (x ∷ s) (suc m) l = let a = sum_by-cons (held_by e) x s in let b = held_part e s m (omega (arith, l)) in
    omega (arith, a, b)

own_part : (e : ℕ) (x : Slot) → x.event.0 ≡ e → held_by e x ≡ length_of x
own_part e x h = ap (λ b. cond {A = ℕ} b (length_of x) 0) (eq-eqb x.event.0 e h)

pub record IsShort (p : Parts) (s : List Slot) (m : ℕ) (y : Span) : Type 0 where
  pub event : EventInfo
  pub at : slice_get p.events (slot_at s m).event.0 ≡ Some event
  pub some : 1 ≤ y.duration
  pub few : y.duration ≤ event.duration
  pub meet : (slot_at s m).meet.0 ≡ m

pub span_short : (p : Parts) (s : List Slot) (m : ℕ) (y : Span) → AreWellMade p → AreTold p s → m < length s
    → (slot_at s m).span ≡ Some y → IsShort p s m y
span_short p s m y made told l span =
    let x = slot_is p s m made.first_meets told.whose l in
    let got : slice_get s m ≡ Some (slot_at s m) = slice_get-get_or s m no_slot l in
    let slot : IsSlot p (slot_at s m) = all-there (IsSlot p) s m (slot_at s m) told.slots got in
    let at : slice_get p.events (slot_at s m).event.0 ≡ Some x.has.0 = ap (slice_get p.events) x.slot.event ∙ x.has.1 in
    let bound = told.durations (slot_at s m).event.0 x.has.0 at in
    let part = held_part (slot_at s m).event.0 s m l in
    let own = own_part (slot_at s m).event.0 (slot_at s m) refl in
    let long : length_of (slot_at s m) ≡ y.duration = ap (λ o. option_map_or (λ (z : Span). z.duration) o 0) span in
    record {
      event = x.has.0;
      at = at;
      some = subst (λ o. IfSome o (λ (z : Span). 1 ≤ z.duration)) span slot.duration;
      few = omega (arith, bound, part, own, long);
      meet = x.slot.meet;
    }

pub span_some : (o : Option Span) → 0 < option_map_or (λ (z : Span). z.duration) o 0 → (y : Span) × (o ≡ Some y)
span_some None l = absurd (omega (arith, l))
span_some (Some y) l = (y, refl)

module _ (p : Parts) (s : List Slot) (u : Units) (picks : Picks) (w : Domains) (cells : List ℕ)
    (told : AreTold p s) (units : AreUnits p.events s u.next.items u.held.items u.free.items)
    (opened : AreOpen p u picks w cells) (numbered : AreTasks p s u picks w)
  where
    -- the number under which a demand of the list is kept
    pub kept_number : ℕ → ℕ
    kept_number k = option_map_or (number_at u) (slice_get (task_demands s) k)
        (tasks_of p.events + (k - length (task_demands s)))

    place_of : (j : ℕ) → (j < tasks_of p.events) ⊎ (tasks_of p.events ≤ j)
        → (is_present w j ≡ true) ⊎ (is_present w j ≡ false) → ℕ
    place_of j (inl low) (inl t) = let x = numbered.present j low t in
        spot_of s (slot_at s x.meet) x.meet x.place x.offset
    place_of j (inl low) (inr f) = 0
    place_of j (inr high) b = length (task_demands s) + (j - tasks_of p.events)

    -- and the place in the list of what is kept under a number
    pub kept_place : ℕ → ℕ
    kept_place j = place_of j (cases_lt j (tasks_of p.events)) (cases_Bool (is_present w j))

    -- a demand of a task by its place in the list
    record IsTaskAt (k : ℕ) : Type 0 where
      meet : ℕ
      place : ℕ
      offset : ℕ
      span : Span
      task : IsTask s meet place offset
      live : (slot_at s meet).span ≡ Some span
      short : IsShort p s meet span
      listed : slice_get (task_demands s) k ≡ Some (Task (slot_at s meet).meet place offset)
      number : kept_number k ≡ number_of u meet place offset
      spot : spot_of s (slot_at s meet) meet place offset ≡ k

    listed_number : (k m q o : ℕ) → (slot_at s m).meet.0 ≡ m
        → slice_get (task_demands s) k ≡ Some (Task (slot_at s m).meet q o) → kept_number k ≡ number_of u m q o
    unfolding kept_number
    listed_number k m q o own h =
        ap (λ d. option_map_or (number_at u) d (tasks_of p.events + (k - length (task_demands s)))) h
        ∙ ap (λ n. number_of u n q o) own

    pub number_of_task : (k : ℕ) (d : Demand) → slice_get (task_demands s) k ≡ Some d → kept_number k ≡ number_at u d
    unfolding kept_number
    number_of_task k d h = ap (λ o. option_map_or (number_at u) o (tasks_of p.events + (k - length (task_demands s)))) h

    task_at : (k : ℕ) → k < length (task_demands s) → IsTaskAt k
    task_at k l =
        let d = there (task_demands s) k l in
        let x = spot_at s k d.value d.found in
        let slot : slot_at s x.meet ≡ x.slot = get_or_from_slice_get s x.meet x.slot no_slot x.there in
        let live : (slot_at s x.meet).span ≡ Some x.span = ap (λ (z : Slot). z.span) slot ∙ x.live in
        let near : x.place < length (slot_at s x.meet).given = let a = ap (λ (z : Slot). length z.given) slot in let b =
        x.near in omega (arith, a, b) in
        let early : IsOffset s x.meet x.offset = let a = ap (λ o. option_map_or (λ (z : Span). z.duration) o 0) live in
        let b = x.early in omega (arith, a, b) in
        let short = span_short p s x.meet x.span opened.made told (slice_get_within s x.meet x.slot x.there) live in
        let listed : slice_get (task_demands s) k ≡ Some (Task (slot_at s x.meet).meet x.place x.offset) =
        d.found ∙ ap Some (sym x.«is») ∙ ap (λ (z : Slot). Some (Task z.meet x.place x.offset)) (sym slot) in
        record {
          meet = x.meet;
          place = x.place;
          offset = x.offset;
          span = x.span;
          task = (near, early);
          live = live;
          short = short;
          listed = listed;
          number = listed_number k x.meet x.place x.offset short.meet listed;
          spot = ap (λ (z : Slot). spot_of s z x.meet x.place x.offset) slot ∙ x.spot;
        }

    pub later_number : (k : ℕ) → length (task_demands s) ≤ k
        → kept_number k ≡ tasks_of p.events + (k - length (task_demands s))
    unfolding kept_number
    later_number k l = ap (λ d. option_map_or (number_at u) d (tasks_of p.events + (k - length (task_demands s))))
        (slice_get_past (task_demands s) k l)

    pub many : length (demands p s) ≡ length (task_demands s) + length cells
    many =
        let a = length-append (task_demands s) (unavailable_demands p) in
        let b : length (unavailable_demands p) ≡ length cells =
        sym (ap length opened.listed) ∙ length-map cells (cell_demand (length p.times)) in
        omega (arith, a, b)

    own_present : (k : ℕ) → k < length (demands p s) → domain_of (domains p s) k ≡ own_domain k
    own_present k l = let e : 0 + k ≡ k = omega arith in
        get_or-map-range_with_len own_domain 0 (length (demands p s)) k k None l e

    pub is_own : (k : ℕ) → k < length (demands p s) → is_present (domains p s) k ≡ true
    is_own k l = ap is_some (own_present k l)

    own_below : (k : ℕ) → is_present (domains p s) k ≡ true → k < length (demands p s)
    own_below k h = let a = present_below (domains p s) k h in let b =
        length-map-range_with_len own_domain 0 (length (demands p s)) in omega (arith, a, b)

    task_domain : (k : ℕ) (x : IsTaskAt k) → domain_of w (kept_number k)
        ≡ Some (record {
          times = pick_starts p.events picks.starts.items (slot_at s x.meet).event.0 x.span;
          shift =
              x.offset;
          resources = pick_resources p.events picks.resources.items (slot_at s x.meet) x.place;
        })
    task_domain k x =
        ap (domain_of w) x.number ∙ numbered.domains x.meet x.place x.offset x.task
        ∙ ap (option_map (λ (y : Span). record {
          times =
              pick_starts p.events picks.starts.items (slot_at s x.meet).event.0 y;
          shift = x.offset;
          resources =
              pick_resources p.events picks.resources.items (slot_at s x.meet) x.place;
        })) x.live

    cell_at : (k : ℕ) → length (task_demands s) ≤ k → k < length (demands p s)
        → domain_of w (kept_number k) ≡ Some (cell_domain (length p.times)
        (get_or cells (k - length (task_demands s)) 0))
    cell_at k high l = ap (domain_of w) (later_number k high)
        ∙ opened.cell_domains (k - length (task_demands s)) (omega (arith, high, l, many))

    is_there : (k : ℕ) → is_present (domains p s) k ≡ true → is_present w (kept_number k) ≡ true
    is_there k h =
        elim (cases_lt k (length (task_demands s))) [
          | inl low ↦ ap is_some (task_domain k (task_at k low))
          | inr high ↦ ap is_some (cell_at k high (own_below k h))
        ]

    back_by : (k : ℕ) → is_present (domains p s) k ≡ true
        → (a : (kept_number k < tasks_of p.events) ⊎ (tasks_of p.events ≤ kept_number k))
        (b : (is_present w (kept_number k) ≡ true) ⊎ (is_present w (kept_number k) ≡ false))
        → place_of (kept_number k) a b ≡ k
    unfolding place_of
    back_by k h (inl low) (inl t) =
        let x = numbered.present (kept_number k) low t in
        elim (cases_lt k (length (task_demands s))) [
          | inl near ↦
              let y = task_at k near in
              let r = number_apart p s u opened.made.first_meets told.whose units opened.firsts x.meet x.place x.offset
              y.meet y.place y.offset x.task y.task (x.number ∙ y.number) in
              ap (λ m. spot_of s (slot_at s m) m x.place x.offset) r.0
              ∙ ap (λ q. spot_of s (slot_at s y.meet) y.meet q x.offset) r.1
              ∙ ap (λ o. spot_of s (slot_at s y.meet) y.meet y.place o) r.2 ∙ y.spot
          | inr high ↦ absurd (let e = later_number k high in omega (arith, e, low))
        ]
    back_by k h (inl low) (inr f) = absurd (false≢true (sym f ∙ is_there k h))
    back_by k h (inr far) b =
        elim (cases_lt k (length (task_demands s))) [
          | inl near ↦
              let y = task_at k near in
              absurd (let e = y.number in let g = number_below p s u opened.made.first_meets told.whose units
              opened.firsts y.meet y.place y.offset y.task in omega (arith, e, g, far))
          | inr high ↦ let e = later_number k high in omega (arith, e, high)
        ]

    spot_listed : (x : ℕ) (q o : ℕ) → IsTask s x q o
        → slice_get (task_demands s) (spot_of s (slot_at s x) x q o) ≡ Some (Task (slot_at s x).meet q o)
    spot_listed x q o is =
        let l = live_below s x o is.1 in
        let y = span_some (slot_at s x).span (let a = is.1 in omega (arith, a)) in
        let long : o < y.0.duration = let a = ap (λ v. option_map_or (λ (z : Span). z.duration) v 0) y.1 in let b =
        is.1 in omega (arith, a, b) in
        spot_there s x (slot_at s x) y.0 q o (slice_get-get_or s x no_slot l) y.1 is.0 long

    own_meet : (m o : ℕ) → IsOffset s m o → (slot_at s m).meet.0 ≡ m
    own_meet m o l = let x = live_slot p s m o opened.made.first_meets told.whose l in x.slot.meet

    forth_by : (j : ℕ) → is_present w j ≡ true → (a : (j < tasks_of p.events) ⊎ (tasks_of p.events ≤ j))
        (b : (is_present w j ≡ true) ⊎ (is_present w j ≡ false))
        → (kept_number (place_of j a b) ≡ j) × (place_of j a b < length (demands p s))
    unfolding place_of
    forth_by j h (inl low) (inl t) =
        let x = numbered.present j low t in
        let listed = spot_listed x.meet x.place x.offset x.task in
        let n : ℕ = spot_of s (slot_at s x.meet) x.meet x.place x.offset in (
          listed_number n x.meet x.place x.offset (own_meet x.meet x.offset x.task.1) listed ∙ x.number,
          (let a = slice_get_within (task_demands s) n (Task (slot_at s x.meet).meet x.place x.offset) listed in
              omega (arith, a, many)),
        )
    forth_by j h (inl low) (inr f) = absurd (false≢true (sym f ∙ h))
    forth_by j h (inr far) b =
        let a = present_below w j h in
        let n = opened.amount in
        let e : kept_number (length (task_demands s) + (j - tasks_of p.events))
        ≡ tasks_of p.events + (length (task_demands s) + (j - tasks_of p.events) - length (task_demands s)) =
        later_number (length (task_demands s) + (j - tasks_of p.events)) (omega arith) in
        (omega (arith, e, far), omega (arith, a, n, far, many))

    -- what a demand of the list may have
    own_may : (k r t : ℕ) (d : Demand) → slice_get (demands p s) k ≡ Some d → r < length p.resources
        → t < length p.times → may_have (domains p s) k r t ≡ takes p s d r && runs_at p s d t
    own_may k r t d h x y =
        let l = slice_get_within (demands p s) k d h in
        let rs : List (List Bool) = map (λ e. set_where (length p.resources) (takes p s e)) (demands p s) in
        let ts : List (List Bool) = map (λ e. set_where (length p.times) (runs_at p s e)) (demands p s) in
        let a : get_or rs k [] ≡ set_where (length p.resources) (takes p s d) =
        mapped-there (λ e. set_where (length p.resources) (takes p s e)) (demands p s) k d [] h in
        let b : get_or ts k [] ≡ set_where (length p.times) (runs_at p s d) =
        mapped-there (λ e. set_where (length p.times) (runs_at p s e)) (demands p s) k d [] h in
        let zr : 0 + r ≡ r = omega arith in
        let zt : 0 + t ≡ t = omega arith in
        let back : t - 0 ≡ t = omega arith in
        let one : get_or (get_or rs k []) r false ≡ takes p s d r =
        ap (λ z. get_or z r false) a ∙ get_or-map-range_with_len (takes p s d) 0 (length p.resources) r r false x
        zr in
        let two : get_or (get_or ts k []) (t - 0) false ≡ runs_at p s d t =
        ap (λ n. get_or (get_or ts k []) n false) back ∙ ap (λ z. get_or z t false) b
        ∙ get_or-map-range_with_len (runs_at p s d) 0 (length p.times) t t false y zt in
        let three : leb 0 t ≡ true = le-leb 0 t (omega arith) in
        ap (λ o. admits_where_present ts rs o r t) (own_present k l)
        ∙ ap (λ z. z && (leb 0 t && get_or (get_or ts k []) (t - 0) false)) one
        ∙ ap (λ z. takes p s d r && (z && get_or (get_or ts k []) (t - 0) false)) three
        ∙ ap (λ z. takes p s d r && z) two

    task_may : (k r t : ℕ) (x : IsTaskAt k) → may_have w (kept_number k) r t
        ≡ takes p s (Task (slot_at s x.meet).meet x.place x.offset) r && runs_at p s
        (Task (slot_at s x.meet).meet x.place x.offset) t
    task_may k r t x =
        let m : ℕ = x.meet in
        let own : (slot_at s m).meet.0 ≡ m = x.short.meet in
        let one : is_picked w.resources (pick_resources p.events picks.resources.items (slot_at s m) x.place) r
        ≡ slot_takes p (slot_at s (slot_at s m).meet.0) x.place r =
        resources_picked p w.resources picks.resources.items (slot_at s m) x.place r opened.resources
        (task_place p s m x.place x.offset opened.made.first_meets told.whose x.task)
        ∙ ap (λ n. slot_takes p (slot_at s n) x.place r) (sym own) in
        let two : is_picked w.times (pick_starts p.events picks.starts.items (slot_at s m).event.0 x.span)
        (t - x.offset) ≡ slot_starts p (slot_at s (slot_at s m).meet.0) (t - x.offset) =
        starts_picked p w.times picks.starts.items (slot_at s m).event.0 (t - x.offset) x.short.event x.span
        opened.starts x.short.at x.short.some x.short.few
        ∙ ap (λ o. option_map_or (λ y. span_starts p (slot_at s m).event.0 y (t - x.offset)) o false) (sym x.live)
        ∙ ap (λ n. slot_starts p (slot_at s n) (t - x.offset)) (sym own) in
        ap (λ o. admits_where_present w.times w.resources o r t) (task_domain k x)
        ∙ ap (λ z. z && (leb x.offset t && is_picked w.times
        (pick_starts p.events picks.starts.items (slot_at s m).event.0 x.span) (t - x.offset))) one
        ∙ ap (λ z. slot_takes p (slot_at s (slot_at s m).meet.0) x.place r && (leb x.offset t && z)) two

    cell_may : (k r t : ℕ) → length (task_demands s) ≤ k → k < length (demands p s)
        → may_have w (kept_number k) r t ≡ takes p s (cell_demand (length p.times)
        (get_or cells (k - length (task_demands s)) 0)) r && runs_at p s
        (cell_demand (length p.times) (get_or cells (k - length (task_demands s)) 0)) t
    cell_may k r t high l =
        let cell : ℕ = get_or cells (k - length (task_demands s)) 0 in
        let back : t - 0 ≡ t = omega arith in
        let three : leb 0 t ≡ true = le-leb 0 t (omega arith) in
        ap (λ o. admits_where_present w.times w.resources o r t) (cell_at k high l)
        ∙ ap (λ z. (cell / length p.times == r) && (z && (cell % length p.times == t - 0))) three
        ∙ ap (λ n. (cell / length p.times == r) && (cell % length p.times == n)) back

    cell_listed : (k : ℕ) → length (task_demands s) ≤ k → k < length (demands p s)
        → slice_get (demands p s) k ≡ Some (cell_demand (length p.times) (get_or cells (k - length (task_demands s)) 0))
    cell_listed k high l =
        let i : ℕ = k - length (task_demands s) in
        let e : k ≡ length (task_demands s) + i = omega (arith, high) in
        let near : i < length cells = omega (arith, high, l, many) in
        ap (slice_get (demands p s)) e ∙ get_right (task_demands s) (unavailable_demands p) i
        ∙ ap (λ ds. slice_get ds i) (sym opened.listed)
        ∙ mapped_there (cell_demand (length p.times)) cells i (get_or cells i 0) (slice_get-get_or cells i 0 near)

    may_same : (k r t : ℕ) → is_present (domains p s) k ≡ true → r < length p.resources → t < length p.times
        → may_have (domains p s) k r t ≡ may_have w (kept_number k) r t
    may_same k r t h a b =
        elim (cases_lt k (length (task_demands s))) [
          | inl low ↦
              let x = task_at k low in
              let d : Demand = Task (slot_at s x.meet).meet x.place x.offset in
              own_may k r t d (get_left (task_demands s) (unavailable_demands p) k d x.listed) a b
              ∙ sym (task_may k r t x)
          | inr high ↦
              let l = own_below k h in
              own_may k r t (cell_demand (length p.times) (get_or cells (k - length (task_demands s)) 0))
              (cell_listed k high l) a b ∙ sym (cell_may k r t high l)
        ]

    -- the kept domains are those of the state under other numbers
    pub renamed : IsRenamed (domains p s) w kept_number kept_place
    unfolding kept_place
    renamed = record {
      last = sym opened.last;
      width = sym opened.width;
      there = is_there;
      back = λ k h. back_by k h (cases_lt (kept_number k) (tasks_of p.events))
          (cases_Bool (is_present w (kept_number k)));
      there_back = λ j h. is_own (place_of j (cases_lt j (tasks_of p.events)) (cases_Bool (is_present w j)))
          (forth_by j h (cases_lt j (tasks_of p.events)) (cases_Bool (is_present w j))).1;
      forth = λ j h. (forth_by j h (cases_lt j (tasks_of p.events)) (cases_Bool (is_present w j))).0;
      may = λ k r t h a b. may_same k r t h a b;
    }
