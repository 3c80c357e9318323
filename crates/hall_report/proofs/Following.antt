-- What the functions that follow a change need at their calls.
use Rattle.std.proofs.Common.{ℕ, ◌+◌, ◌-◌, ◌^◌, ◌<◌, ◌≤◌, ◌≡◌, ◌≢◌, inl, inr, Option, Some, None, List, length, set}
use Rattle.std.proofs.Common.{get_or, slice_get, refl, sym, ap, ◌∙◌, subst, arith, get_or-set_other}
use Rattle.std.specs.Option.{option_map, option_map_or}
use Rattle.std.proofs.lemmas.Grind.{get_or_default_zero}
use Rattle.std.proofs.lemmas.Option.{same_Some, slice_get_within, get_or_from_slice_get}
use Rattle.khe_base.proofs.ListLemmas.{all-there}
use Rattle.khe_base.specs.declared.numbers.EventId.{EventId}
use Rattle.khe_base.specs.declared.numbers.MeetId.{MeetId}
use Rattle.khe_base.specs.declared.numbers.ResourceId.{ResourceId}
use Rattle.khe_base.specs.declared.numbers.TaskId.{TaskId}
use Rattle.khe_base.specs.declared.numbers.TimeId.{TimeId}
use Rattle.khe_instance.specs.Lookups.{places_at}
use Rattle.khe_instance.specs.WellMade.{AreWellMade, IsEvent}
use Rattle.khe_instance.specs.declared.parts.EventInfo.{EventInfo}
use Rattle.khe_instance.specs.declared.parts.Parts.{Parts}
use Rattle.khe_told.specs.Changes.{after, meet_of}
use Rattle.khe_told.specs.Fits.{AreTold, Fits}
use Rattle.khe_told.specs.Slots.{given_at, length_of, slot_at}
use Rattle.khe_told.specs.declared.changes.Change.{Change}
use Rattle.khe_told.specs.declared.changes.Change.TheVariants.{Add, Drop, Place as PlaceAt, Lift, Give, Take}
use Rattle.khe_told.specs.declared.slots.Slot.{Slot}
use Rattle.khe_told.specs.declared.slots.Span.{Span}
use Rattle.demand_matching.specs.Domains.{Domains}
use Rattle.demand_matching.specs.declared.domains.Pick.TheVariants.{One, «Set»}
use Rattle.hall_report.proofs.Noting.{added_of, added_units, apart_is, changed_is, dropped_of, held_after, own_after}
use Rattle.hall_report.proofs.Noting.{readable_is, stayed_units, turned_is, turned_of}
use Rattle.hall_report.proofs.Numbers.{slot_is}
use Rattle.hall_report.proofs.Ranges.{writable, writable_none}
use Rattle.hall_report.proofs.Stated.{place_there, span_short}
use Rattle.hall_report.proofs.UnitLaws.{units_below}
use Rattle.hall_report.specs.Kept.{AreOf, number_of}
use Rattle.hall_report.specs.Listing.{IsReadable}
use Rattle.hall_report.specs.Picks.{domain_in, pick_resources, resource_entry}
use Rattle.hall_report.specs.Renewing.{AreApart, AreWritable, HasResourceEntries, IsRenewed, IsSpanOf, IsTurn}
use Rattle.hall_report.specs.Units.{AreFirsts, AreUnits, IsFree, unit_at, units_of}
use Rattle.hall_report.specs.declared.renewing.Picks.{Picks}
use Rattle.hall_report.specs.declared.units.Units.{Units}

-- an event's first meet slot is there
pub first_unit : (p : Parts) (e : ℕ) (event : EventInfo) → AreWellMade p → slice_get p.events e ≡ Some event
    → event.first_meet < units_of p.events
first_unit p e event made at =
    let own : IsEvent p event = all-there (IsEvent p) p.events e event made.events at in
    let d = own.duration.0 in
    units_below p.events e event.first_meet made.first_meets (event, at, omega arith, omega (arith, d))

-- the event of a slot, its span, and where the set of a place stands
pub event_there : (p : Parts) (s : List Slot) (m : ℕ) (e : EventId) → AreWellMade p → AreTold p s → m < length s
    → e ≡ (slot_at s m).event → e.0 < length p.events
event_there p s m e made told l h =
    let it = slot_is p s m made.first_meets told.whose l in
    let a = slice_get_within p.events it.event it.has.0 it.has.1 in
    let b = it.slot.event in
    let d = ap (λ (z : EventId). z.0) h in
    omega (arith, a, b, d)

pub span_of : (p : Parts) (s : List Slot) (m : ℕ) (y : Span) (e : EventId) → AreWellMade p → AreTold p s → m < length s
    → e ≡ (slot_at s m).event → (slot_at s m).span ≡ Some y → IsSpanOf p e.0 y.duration
span_of p s m y e made told l h span = λ event at.
    let x = span_short p s m y made told l span in
    let same : x.event ≡ event = same_Some x.event event
    (sym x.at ∙ ap (λ (z : EventId). slice_get p.events z.0) (sym h) ∙ at) in
    let a = ap (λ (z : EventInfo). z.duration) same in
    let b = x.few in
    (x.some, omega (arith, a, b))

pub entry_there : (p : Parts) (s : List Slot) (m k : ℕ) (entries : List ℕ) (e : EventId) → AreWellMade p → AreTold p s
    → m < length s → k < length (slot_at s m).given → e ≡ (slot_at s m).event → HasResourceEntries p entries
    → resource_entry p.events e.0 k < length entries
entry_there p s m k entries e made told l near h has =
    let it = slot_is p s m made.first_meets told.whose l in
    let a = it.slot.many in
    let b = ap (places_at p.events) (it.slot.event) in
    let d = ap (λ (z : EventId). places_at p.events z.0) h in
    let place = place_there p.events e.0 k (omega (arith, near, a, b, d)) in
    has e.0 k place.0 place.1

pub pick_given : (entries : List ℕ) (x : Slot) (k n : ℕ) (r : ResourceId) → slice_get x.given k ≡ Some (Some r)
    → One r.0 ≡ option_map_or (λ (q : ResourceId). One q.0) (given_at x k) («Set» n)
pick_given entries x k n r h = sym (ap (λ o. option_map_or (λ (q : ResourceId). One q.0) o («Set» n))
    (get_or_from_slice_get x.given k (Some r) None h))

pub pick_none : (x : Slot) (k n : ℕ) → slice_get x.given k ≡ Some None
    → «Set» n ≡ option_map_or (λ (q : ResourceId). One q.0) (given_at x k) («Set» n)
pick_none x k n h = sym (ap (λ o. option_map_or (λ (q : ResourceId). One q.0) o («Set» n))
    (get_or_from_slice_get x.given k None None h))

pub set_is : (p : Parts) (x : Slot) (k : ℕ) (entries : List ℕ) (e : EventId) (n q : ℕ) → e ≡ x.event
    → n ≡ resource_entry p.events e.0 k → n < length entries → q ≡ get_or entries n q → slice_get x.given k ≡ Some None
    → «Set» q ≡ pick_resources p.events entries x k
set_is p x k entries e n q at is l found none =
    let same : q ≡ get_or entries (resource_entry p.events x.event.0 k) 0 =
    found ∙ get_or_default_zero entries n q l ∙ ap (λ i. get_or entries i 0) is
    ∙ ap (λ (z : EventId). get_or entries (resource_entry p.events z.0 k) 0) at in
    ap (λ v. «Set» v) same ∙ pick_none x k (get_or entries (resource_entry p.events x.event.0 k) 0) none

-- what holding and releasing do
pub record WasHeld (u v : Units) (e m d : ℕ) : Type 0 where
  pub held : v.held.items ≡ set u.held.items m (get_or u.free.items e 0)
  pub free : v.free.items ≡ set u.free.items e (unit_at u.next.items u.free.items e d)
  pub next : v.next.items ≡ u.next.items
  pub tasks : v.tasks.items ≡ u.tasks.items

pub record WasReleased (u v : Units) (e m d : ℕ) : Type 0 where
  pub next : v.next.items ≡ set u.next.items (unit_at u.next.items u.held.items m (d - 1)) (get_or u.free.items e 0)
  pub free : v.free.items ≡ set u.free.items e (get_or u.held.items m 0)
  pub held : v.held.items ≡ u.held.items
  pub tasks : v.tasks.items ≡ u.tasks.items

module _ (p : Parts) (s : List Slot) (meet : MeetId) (d : ℕ) (u : Units) (picks : Picks) (w : Domains) (cells : List ℕ)
    (tasks times : ℕ) (event : EventId)
    (are : AreOf p s u picks w cells tasks times) (at : event ≡ (slot_at s meet.0).event)
  where
    number : event.0 ≡ (slot_at s meet.0).event.0
    number = ap (λ (z : EventId). z.0) at

    pub slot_held : meet.0 < length s → meet.0 < length u.held.items
    slot_held l = (readable_is p s u meet.0 are.opened.made are.told are.units are.opened.firsts l).first

    pub event_free : meet.0 < length s → event.0 < length u.free.items
    event_free l = let a = event_there p s meet.0 event are.opened.made are.told l at in let b =
        are.units.free_length in omega (arith, a, b)

    pub few_given : meet.0 < length s → length (slot_at s meet.0).given < 2 ^ 32
    few_given l = (readable_is p s u meet.0 are.opened.made are.told are.units are.opened.firsts l).few

    -- a meet comes
    module _ (fits : Fits p s (Add meet d)) where
      pub come_within : (i : ℕ) → i < d → unit_at u.next.items u.free.items event.0 i < length u.next.items
      come_within i l =
          let t = turned_is p s (Add meet d) are.opened.made are.told fits in
          let a = held_after p s (Add meet d) fits in
          let b : length_of (slot_at s meet.0) ≡ 0 = ap (λ o. option_map_or (λ (y : Span). y.duration) o 0)
          fits.suits in
          let room = fits.told.durations (slot_at s meet.0).event.0 t.0 t.1.at in
          let free_one : IsFree s (slot_at s meet.0).event.0 t.0 i = omega (arith, a, b, room, l) in
          let q = units_below p.events (slot_at s meet.0).event.0
          (unit_at u.next.items u.free.items (slot_at s meet.0).event.0 i) are.opened.made.first_meets
          (are.units.spare (slot_at s meet.0).event.0 i t.0 t.1.at free_one) in
          let n = are.units.next_length in
          let moved = ap (λ e. unit_at u.next.items u.free.items e i) number in
          omega (arith, q, n, moved)

      module _ (v : Units) (was : WasHeld u v event.0 meet.0 d) (t : List Slot) (told : t ≡ after s (Add meet d))
          (places : ℕ) (all : places ≡ length (slot_at s meet.0).given) where
        was_held : v.held.items ≡ set u.held.items meet.0 (get_or u.free.items (slot_at s meet.0).event.0 0)
        was_held = subst (λ e. v.held.items ≡ set u.held.items meet.0 (get_or u.free.items e 0)) number was.held

        was_free : v.free.items ≡ set u.free.items (slot_at s meet.0).event.0
            (unit_at u.next.items u.free.items (slot_at s meet.0).event.0 d)
        was_free = subst (λ e. v.free.items ≡ set u.free.items e (unit_at u.next.items u.free.items e d)) number
            was.free

        come_units : AreUnits p.events (after s (Add meet d)) v.next.items v.held.items v.free.items
        come_units = added_units p s meet d u v are.opened.made are.told fits are.units was.next was_held was_free

        come_firsts : AreFirsts p.events v.tasks.items
        come_firsts = subst (AreFirsts p.events) (sym was.tasks) are.opened.firsts

        come_long : length_of (slot_at (after s (Add meet d)) meet.0) ≡ d
        come_long = ap length_of (own_after p s (Add meet d) fits)

        come_all : places ≡ length (slot_at (after s (Add meet d)) meet.0).given
        come_all = let a = (changed_is p s (Add meet d) fits).places in omega (arith, a, all)

        come_there : meet.0 < length (after s (Add meet d))
        come_there = let a = (changed_is p s (Add meet d) fits).same_length in let b = fits.there in omega (arith, a, b)

        pub come_readable : IsReadable v meet.0 places d
        come_readable =
            subst (λ n. IsReadable v meet.0 n d) (sym come_all)
            (subst (λ n. IsReadable v meet.0 (length (slot_at (after s (Add meet d)) meet.0).given) n) come_long
            (readable_is p (after s (Add meet d)) v meet.0 are.opened.made fits.told come_units come_firsts come_there))

        pub come_apart : AreApart (number_of v meet.0) 0 places d
        come_apart = apart_is p (after s (Add meet d)) v meet.0 0 places d are.opened.made fits.told come_units
            come_firsts (omega (arith, come_all)) (omega (arith, come_long))

        pub come_writable : AreWritable w (number_of v meet.0)
            (domain_in p.events picks.starts.items picks.resources.items (slot_at t meet.0)) 0 places d
        come_writable =
            subst (λ q. AreWritable w (number_of v meet.0)
            (domain_in p.events picks.starts.items picks.resources.items (slot_at q meet.0)) 0 places d) (sym told)
            (writable p (after s (Add meet d)) u picks w cells fits.told are.opened v meet.0 0 places d come_units
            come_firsts come_there (omega (arith, come_all)) (omega (arith, come_long)))

        pub come_of : (w' : Domains) → IsRenewed w w' (number_of v meet.0)
            (domain_in p.events picks.starts.items picks.resources.items (slot_at t meet.0)) 0 places d
            → AreOf p t v picks w' cells tasks times
        come_of w' re =
            subst (λ q. AreOf p q v picks w' cells tasks times) (sym told)
            (added_of p s meet d u v are.opened.made are.told fits are.units was.next was_held was_free picks w w' cells
            tasks times places are was.tasks come_all
            (subst (λ q. IsRenewed w w' (number_of v meet.0)
            (domain_in p.events picks.starts.items picks.resources.items (slot_at q meet.0)) 0 places d) told re))

    -- a meet goes
    module _ (fits : Fits p s (Drop meet d)) where
      go_long : length_of (slot_at s meet.0) ≡ d
      go_long = ap (λ o. option_map_or (λ (y : Span). y.duration) o 0) fits.suits.0

      go_span : (slot_at (after s (Drop meet d)) meet.0).span ≡ None
      go_span = ap (λ (x : Slot). x.span) (own_after p s (Drop meet d) fits)

      pub go_some : 1 ≤ d
      go_some = (span_short p s meet.0 (record { duration = d; start = None }) are.opened.made are.told fits.there
          fits.suits.0).some

      pub go_readable : (places : ℕ) → places ≡ length (slot_at s meet.0).given → IsReadable u meet.0 places d
      go_readable places all =
          subst (λ n. IsReadable u meet.0 n d) (sym all)
          (subst (λ n. IsReadable u meet.0 (length (slot_at s meet.0).given) n) go_long
          (readable_is p s u meet.0 are.opened.made are.told are.units are.opened.firsts fits.there))

      pub go_within : (i : ℕ) → i < d → unit_at u.next.items u.held.items meet.0 i < length u.next.items
      go_within i l = (go_readable (length (slot_at s meet.0).given) refl).unit i l

      module _ (t : List Slot) (told : t ≡ after s (Drop meet d)) (places : ℕ)
          (all : places ≡ length (slot_at s meet.0).given) where
        pub go_apart : AreApart (number_of u meet.0) 0 places d
        go_apart = apart_is p s u meet.0 0 places d are.opened.made are.told are.units are.opened.firsts
            (omega (arith, all)) (omega (arith, go_long))

        pub go_writable : AreWritable w (number_of u meet.0)
            (domain_in p.events picks.starts.items picks.resources.items (slot_at t meet.0)) 0 places d
        go_writable =
            writable_none p s t u picks w cells meet.0 0 places d are.told are.opened are.units
            (ap (λ q. (slot_at q meet.0).span) told ∙ go_span) (omega (arith, all)) (omega (arith, go_long))

        pub go_of : (v : Units) → WasReleased u v event.0 meet.0 d → (w' : Domains)
            → IsRenewed w w' (number_of u meet.0) (domain_in p.events picks.starts.items picks.resources.items
            (slot_at t meet.0)) 0 places d → AreOf p t v picks w' cells tasks times
        go_of v was w' re =
            subst (λ q. AreOf p q v picks w' cells tasks times) (sym told)
            (dropped_of p s meet d u v are.opened.made are.told fits are.units go_some
            (subst (λ e. v.next.items ≡ set u.next.items (unit_at u.next.items u.held.items meet.0 (d - 1))
            (get_or u.free.items e 0)) number was.next)
            was.held
            (subst (λ e. v.free.items ≡ set u.free.items e (get_or u.held.items meet.0 0)) number was.free)
            picks w w' cells tasks times places are was.tasks all
            (subst (λ q. IsRenewed w w' (number_of u meet.0)
            (domain_in p.events picks.starts.items picks.resources.items (slot_at q meet.0)) 0 places d) told re))

-- a meet stays
module _ (p : Parts) (s : List Slot) (c : Change) (u : Units) (picks : Picks) (w : Domains) (cells : List ℕ)
    (tasks times m from end count : ℕ)
    (are : AreOf p s u picks w cells tasks times) (fits : Fits p s c) (turn : IsTurn p s c from end)
    (own : m ≡ meet_of c) (long : count ≡ length_of (slot_at s m))
    (t : List Slot) (told : t ≡ after s c)
  where
    turn_there : m < length s
    turn_there = let a = fits.there in omega (arith, a, own)

    turn_within : end ≤ length (slot_at s m).given
    turn_within = let a = turn.within in let b = ap (λ n. length (slot_at s n).given) own in omega (arith, a, b)

    pub turn_readable : IsReadable u m end count
    turn_readable =
        let r = readable_is p s u m are.opened.made are.told are.units are.opened.firsts turn_there in
        record {
          few = (let a = r.few in omega (arith, a, turn_within));
          first = r.first;
          unit = λ o a. r.unit o (omega (arith, a, long));
          task = λ o a. r.task o (omega (arith, a, long));
          number = λ k o a b. r.number k o (omega (arith, a, turn_within)) (omega (arith, b, long));
        }

    pub turn_apart : AreApart (number_of u m) from end count
    turn_apart = apart_is p s u m from end count are.opened.made are.told are.units are.opened.firsts turn_within
        (omega (arith, long))

    pub turn_writable : AreWritable w (number_of u m)
        (domain_in p.events picks.starts.items picks.resources.items (slot_at t m)) from end count
    turn_writable =
        subst (λ q. AreWritable w (number_of u m) (domain_in p.events picks.starts.items picks.resources.items
        (slot_at q m)) from end count) (sym told)
        (writable p (after s c) u picks w cells fits.told are.opened u m from end count
        (stayed_units p s c u.next.items u.held.items u.free.items are.units fits turn.live) are.opened.firsts
        (let a = (changed_is p s c fits).same_length in omega (arith, a, turn_there))
        (let a = (changed_is p s c fits).places in let b = ap (λ n. length (slot_at (after s c) n).given) own in let d =
        turn.within in omega (arith, a, b, d))
        (let a = turn.live in let b = ap (λ n. length_of (slot_at (after s c) n)) own in let d =
        ap (λ n. length_of (slot_at s n)) own in omega (arith, a, b, d, long)))

    pub turn_end : end ≤ length (slot_at t m).given
    turn_end =
        let a = (changed_is p s c fits).places in
        let b = ap (λ n. length (slot_at (after s c) n).given) own in
        let d = turn.within in
        let e = ap (λ q. length (slot_at q m).given) told in
        omega (arith, a, b, d, e)

    pub turn_of : (w' : Domains) → IsRenewed w w' (number_of u m)
        (domain_in p.events picks.starts.items picks.resources.items (slot_at t m)) from end count
        → AreOf p t u picks w' cells tasks times
    turn_of w' re =
        subst (λ q. AreOf p q u picks w' cells tasks times) (sym told)
        (turned_of p s c u picks w w' cells tasks times from end count are fits turn
        (let a = ap (λ n. length_of (slot_at s n)) own in omega (arith, a, long))
        (subst (λ n. IsRenewed w w' (number_of u n) (domain_in p.events picks.starts.items picks.resources.items
        (slot_at (after s c) n)) from end count) own
        (subst (λ q. IsRenewed w w' (number_of u m) (domain_in p.events picks.starts.items picks.resources.items
        (slot_at q m)) from end count) told re)))

-- which changes alter which places
turns_span : (p : Parts) (s : List Slot) (c : Change) (end : ℕ)
    → (slot_at (after s c) (meet_of c)).given ≡ (slot_at s (meet_of c)).given
    → length_of (slot_at (after s c) (meet_of c)) ≡ length_of (slot_at s (meet_of c))
    → end ≡ length (slot_at s (meet_of c)).given → IsTurn p s c 0 end
turns_span p s c end same live all = record {
  order = omega arith;
  within = omega (arith, all);
  live = live;
  outside = λ k near out. absurd (elim out [ inl a ↦ omega (arith, a) | inr a ↦ omega (arith, a, near, all) ]);
}

pub turns_place : (p : Parts) (s : List Slot) (meet : MeetId) (start : TimeId) (end : ℕ) → Fits p s (PlaceAt meet start)
    → end ≡ length (slot_at s meet.0).given → IsTurn p s (PlaceAt meet start) 0 end
turns_place p s meet start end fits all =
    turns_span p s (PlaceAt meet start) end (ap (λ (x : Slot). x.given) (own_after p s (PlaceAt meet start) fits))
    (ap length_of (own_after p s (PlaceAt meet start) fits) ∙ placed_long (slot_at s meet.0).span)
    all
  where
    placed_long : (o : Option Span) → option_map_or (λ (y : Span). y.duration)
        (option_map (λ (z : Span). record z { start = Some start }) o) 0 ≡ option_map_or (λ (y : Span). y.duration) o 0
    placed_long None = refl
    placed_long (Some y) = refl

pub turns_lift : (p : Parts) (s : List Slot) (meet : MeetId) (start : TimeId) (end : ℕ) → Fits p s (Lift meet start)
    → end ≡ length (slot_at s meet.0).given → IsTurn p s (Lift meet start) 0 end
turns_lift p s meet start end fits all =
    turns_span p s (Lift meet start) end (ap (λ (x : Slot). x.given) (own_after p s (Lift meet start) fits))
    (ap length_of (own_after p s (Lift meet start) fits) ∙ lifted_long (slot_at s meet.0).span)
    all
  where
    lifted_long : (o : Option Span) → option_map_or (λ (y : Span). y.duration)
        (option_map (λ (z : Span). record z { start = None }) o) 0 ≡ option_map_or (λ (y : Span). y.duration) o 0
    lifted_long None = refl
    lifted_long (Some y) = refl

turns_hand : (p : Parts) (s : List Slot) (c : Change) (place : ℕ) (value : Option ResourceId)
    → place < length (slot_at s (meet_of c)).given
    → (slot_at (after s c) (meet_of c)).span ≡ (slot_at s (meet_of c)).span
    → (slot_at (after s c) (meet_of c)).given ≡ set (slot_at s (meet_of c)).given place value
    → IsTurn p s c place (place + 1)
turns_hand p s c place value near span given = record {
  order = omega arith;
  within = omega (arith, near);
  live = ap (λ o. option_map_or (λ (y : Span). y.duration) o 0) span;
  outside = λ k l out.
      let ne : k ≢ place = λ e. absurd (elim out [ inl a ↦ omega (arith, a, e) | inr a ↦ omega (arith, a, e) ]) in
      (span, ap (λ g. get_or g k None) given ∙ get_or-set_other (slot_at s (meet_of c)).given place k value None ne);
}

pub turns_give : (p : Parts) (s : List Slot) (task : TaskId) (r : ResourceId) → Fits p s (Give task r)
    → IsTurn p s (Give task r) task.place (task.place + 1)
turns_give p s task r fits =
    turns_hand p s (Give task r) task.place (Some r)
    (slice_get_within (slot_at s task.meet.0).given task.place None fits.suits.2)
    (ap (λ (x : Slot). x.span) (own_after p s (Give task r) fits))
    (ap (λ (x : Slot). x.given) (own_after p s (Give task r) fits))

pub turns_take : (p : Parts) (s : List Slot) (task : TaskId) (r : ResourceId) → Fits p s (Take task r)
    → IsTurn p s (Take task r) task.place (task.place + 1)
turns_take p s task r fits =
    turns_hand p s (Take task r) task.place None (slice_get_within (slot_at s task.meet.0).given task.place (Some r)
    fits.suits.2)
    (ap (λ (x : Slot). x.span) (own_after p s (Take task r) fits))
    (ap (λ (x : Slot). x.given) (own_after p s (Take task r) fits))
