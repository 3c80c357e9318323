-- The table of the resources of tasks, made place by place, and narrowed monitor by monitor.
use Rattle.std.proofs.Common.{ℕ, ◌+◌, ◌<◌, ◌≤◌, ◌≡◌, ◌≢◌, inl, inr, cond, Bool, true, false, ◌&&◌, Option, Some, None}
use Rattle.std.proofs.Common.{List, [], ◌∷◌, ◌++◌, All, map, take, length, get_or, slice_get, refl, sym, ap, ◌∙◌, subst}
use Rattle.std.proofs.Common.{arith}
use Rattle.std.specs.Prelude.{◌==◌}
use Rattle.std.specs.List.{list_all, sum_by}
use Rattle.std.specs.Option.{option_map, option_map_or, option_and_then}
use Rattle.std.proofs.lemmas.Bool.{eq-eqb, ne_eqb}
use Rattle.std.proofs.lemmas.List.{take_all, get_or_append_left, get_or-append-add, length-append, length-map}
use Rattle.std.proofs.Math.Seq.{get_or-append_seam}
use Rattle.std.proofs.lemmas.List.Elements.{All-push, All-nil, All-append, All-cons, All-head, All-tail, All-get_or}
use Rattle.std.proofs.lemmas.List.Sums.{sum_by_more}
use Rattle.std.proofs.lemmas.Option.{same_Some, slice_get_within, get_or_from_slice_get, slice_get_past}
use Rattle.khe_base.proofs.ListLemmas.{all-there, get-map}
use Rattle.khe_base.specs.IdSet.{has_member}
use Rattle.khe_base.specs.declared.numbers.EventId.{EventId}
use Rattle.khe_instance.proofs.SlotsLemmas.{length-slots_from}
use Rattle.khe_instance.specs.Slots.{HasSlot, first_task, slots_from}
use Rattle.khe_instance.specs.Lookups.{place_at, places_at, role_at}
use Rattle.khe_instance.specs.WellMade.{AreFirstMeets, AreWellMade, IsEvent, IsPlace}
use Rattle.khe_instance.specs.declared.parts.EventInfo.{EventInfo}
use Rattle.khe_instance.specs.declared.parts.Parts.{Parts}
use Rattle.khe_instance.specs.declared.parts.Place.{Place}
use Rattle.khe_instance.specs.declared.parts.ResourceInfo.{ResourceInfo}
use Rattle.khe_instance.specs.declared.points.Monitor.{Monitor}
use Rattle.khe_instance.specs.declared.points.Point.{Point}
use Rattle.khe_instance.specs.declared.rules.Constraint.{Constraint}
use Rattle.demand_matching.proofs.Counting.{cases_eqb}
use Rattle.hall_report.proofs.Numbers.{numbers_apart, number_within, owner, row_apart, task_total}
use Rattle.hall_report.proofs.SetsOpened.{all_more, and_assoc, and_true, either, strict_is}
use Rattle.hall_report.proofs.UnitLaws.{unit_once, units_below}
use Rattle.hall_report.specs.Demands.{has_type}
use Rattle.hall_report.specs.Opening.{AreResourcesTo, AreTypeEntries, AreTypeSets, is_of_type, place_of}
use Rattle.hall_report.specs.Picks.{AreResourceSets, first_meet_at, resource_entry}
use Rattle.hall_report.specs.Sets.{AreSets, set_at}
use Rattle.hall_report.specs.Strict.{is_place, is_strict, lets_have, monitor_lets_have, strict_rule}
use Rattle.hall_report.specs.Units.{tasks_of, units_of}

-- one type more
pub types_none : (p : Parts) → AreTypeSets p 0 []
types_none p = record {
  amount = refl;
  sized = All-nil (λ x. length x ≡ length p.resources);
  members =
      λ w r l. absurd (omega (arith, l));
}

pub types_more : (p : Parts) (n : ℕ) (sets : List (List Bool)) (set : List Bool) → AreTypeSets p n sets
    → length set ≡ length p.resources → ((r : ℕ) → has_member set r ≡ is_of_type p n r)
    → AreTypeSets p (n + 1) (sets ++ set ∷ [])
types_more p n sets set are size members = record {
  amount = (let a = are.amount in let b = length-append sets (set ∷ []) in omega (arith, a, b));
  sized = All-push (λ x. length x ≡ length p.resources) sets set are.sized size;
  members = λ w r l. elim (cases_eqb w n) [
    | inl eq ↦
        let q : w ≡ length sets = let a = are.amount in omega (arith, a, eq) in
        ap (λ k. has_member (get_or (sets ++ set ∷ []) k []) r) q
        ∙ ap (λ x. has_member x r) (get_or-append_seam sets set [] []) ∙ members r
        ∙ ap (λ k. is_of_type p k r) (sym eq)
    | inr ne ↦
        let q : w < length sets = let a = are.amount in omega (arith, a, ne, l) in
        ap (λ x. has_member x r) (get_or_append_left sets (set ∷ []) [] w q) ∙ are.members w r (omega (arith, ne, l))
  ];
}

-- a resource beyond those that there are has no type
pub type_beyond : (p : Parts) (w r : ℕ) → length p.resources ≤ r → is_of_type p w r ≡ false
type_beyond p w r l = ap (λ o. option_map_or (λ x. w == x.rtype) o false) (slice_get_past p.resources r l)

-- whether a resource that is there has a type
pub type_is : (p : Parts) (w r x : ℕ) → option_map (λ (z : ResourceInfo). z.rtype) (slice_get p.resources r) ≡ Some x
    → is_of_type p w r ≡ (w == x)
type_is p w r x h = mapped (slice_get p.resources r) h
  where
    mapped : (o : Option ResourceInfo) → option_map (λ (z : ResourceInfo). z.rtype) o ≡ Some x
        → option_map_or (λ (z : ResourceInfo). w == z.rtype) o false ≡ (w == x)
    mapped None g = absurd (let e : ⊥ = cc in e)
    mapped (Some z) g = ap (λ k. w == k) (same_Some z.rtype x g)

-- a place of an event that is there
place_is : (events : List EventInfo) (e k : ℕ) (own : EventInfo) → slice_get events e ≡ Some own
    → place_at events e k ≡ slice_get own.places k
place_is events e k own at = ap (option_and_then (λ (z : EventInfo). slice_get z.places k)) at

many_is : (events : List EventInfo) (e : ℕ) (own : EventInfo) → slice_get events e ≡ Some own
    → places_at events e ≡ length own.places
many_is events e own at = ap (λ o. option_map_or (λ (z : EventInfo). length z.places) o 0) at

pub place_known : (events : List EventInfo) (e k : ℕ) (place : Place) → place_at events e k ≡ Some place
    → (own : EventInfo) × (slice_get events e ≡ Some own) × (slice_get own.places k ≡ Some place)
place_known events e k place h = known (slice_get events e) refl h
  where
    known : (o : Option EventInfo) → slice_get events e ≡ o
        → option_and_then (λ (z : EventInfo). slice_get z.places k) o ≡ Some place
        → (own : EventInfo) × (slice_get events e ≡ Some own) × (slice_get own.places k ≡ Some place)
    known None a g = absurd (let e : ⊥ = cc in e)
    known (Some own) a g = (own, a, g)

pub within_places : (events : List EventInfo) (e k : ℕ) (place : Place) → place_at events e k ≡ Some place
    → k < places_at events e
within_places events e k place h =
    let own = place_known events e k place h in
    let a = many_is events e own.0 own.1 in
    let b = slice_get_within own.0.places k place own.2 in
    omega (arith, a, b)

-- how many tasks the slots before one have
next_task : (events : List EventInfo) (a n : ℕ) → AreFirstMeets 0 events → HasSlot events a n
    → first_task events (n + 1) ≡ first_task events n + places_at events a
next_task events a n first has =
    let at = owner events a n first has in
    sum_by_more (places_at events) (slots_from 0 events) n 0 (slice_get_within (slots_from 0 events) n a at)
    ∙ ap (λ e. first_task events n + places_at events e) (get_or_from_slice_get (slots_from 0 events) n a 0 at)

tasks_below : (events : List EventInfo) (e u n k : ℕ) → AreFirstMeets 0 events → HasSlot events e u
    → k < places_at events e → u < n → first_task events u + k < first_task events n
tasks_below events e u n k first has l less = let r =
    row_apart (places_at events) (slots_from 0 events) u n e (owner events e u first has) less in omega (arith, r, l)

types_below : (p : Parts) (places : List Place) → All (IsPlace p) places
    → All (λ y. y < p.types) (map (λ (z : Place). z.rtype) places)
types_below p [] all = All-nil (λ y. y < p.types)
types_below p (z ∷ zs) all = All-cons (λ y. y < p.types) z.rtype (map (λ (z : Place). z.rtype) zs)
    (All-head (IsPlace p) z zs all).typed (types_below p zs (All-tail (IsPlace p) z zs all))

-- the places of one slot more
pub places_none : (p : Parts) → AreTypeEntries p 0 []
places_none p = record {
  amount = refl;
  below = All-nil (λ y. y < p.types);
  types =
      λ u e k place l has at. absurd (omega (arith, l));
}

pub places_more : (p : Parts) (n a : ℕ) (entries more : List ℕ) (own : EventInfo) → AreWellMade p
    → AreTypeEntries p n entries → HasSlot p.events a n → slice_get p.events a ≡ Some own
    → more ≡ map (λ (z : Place). z.rtype) own.places
    → AreTypeEntries p (n + 1) (entries ++ more)
places_more p n a entries more own made are has at is = record {
  amount =
      (let x = are.amount in
      let b = length-append entries more in
      let c = ap length is in
      let d = length-map own.places (λ (z : Place). z.rtype) in
      let e = many_is p.events a own at in
      let f = next_task p.events a n made.first_meets has in
      omega (arith, x, b, c, d, e, f));
  below = All-append (λ y. y < p.types) entries more are.below (subst (All (λ y. y < p.types)) (sym is) typed);
  types = λ u e k place l slot there. elim (cases_eqb u n) [
    | inl eq ↦
        let same : e ≡ a = unit_once p.events e a n made.first_meets (subst (HasSlot p.events e) eq slot) has in
        let q : first_task p.events u + k ≡ length entries + k =
        (let x = are.amount in let b = ap (first_task p.events) eq in omega (arith, x, b)) in
        let place_there : slice_get own.places k ≡ Some place =
        sym (place_is p.events a k own at) ∙ ap (λ j. place_at p.events j k) (sym same) ∙ there in
        ap (λ j. get_or (entries ++ more) j 0) q ∙ get_or-append-add entries more k 0 ∙ ap (λ ys. get_or ys k 0) is
        ∙ get-map (λ (z : Place). z.rtype) own.places k
        ∙ ap (λ o. option_map_or (λ (z : Place). z.rtype) o 0) place_there
    | inr ne ↦
        let room : first_task p.events u + k < length entries =
        (let x = are.amount in let b = tasks_below p.events e u n k made.first_meets slot
        (within_places p.events e k place there) (omega (arith, l, ne)) in omega (arith, x, b)) in
        get_or_append_left entries more 0 (first_task p.events u + k) room
        ∙ are.types u e k place (omega (arith, l, ne)) slot there
  ];
}
  where
    typed : All (λ y. y < p.types) (map (λ (z : Place). z.rtype) own.places)
    typed = let mine : IsEvent p own = all-there (IsEvent p) p.events a own made.events at in
        types_below p own.places mine.places

-- the first meet slot of an event
pub first_slot : (p : Parts) (e : ℕ) (own : EventInfo) → AreWellMade p → slice_get p.events e ≡ Some own
    → HasSlot p.events e (first_meet_at p.events e)
first_slot p e own made at =
    let mine : IsEvent p own = all-there (IsEvent p) p.events e own made.events at in
    let d = mine.duration.0 in
    let q : first_meet_at p.events e ≡ own.first_meet =
    ap (λ o. option_map_or (λ (z : EventInfo). z.first_meet) o 0) at in
    (own, at, (omega (arith, q)), (omega (arith, q, d)))

all_tasks_of : (p : Parts) → AreWellMade p → first_task p.events (units_of p.events) ≡ tasks_of p.events
all_tasks_of p made = ap (sum_by (places_at p.events))
    (take_all (units_of p.events) (slots_from 0 p.events) (let b = length-slots_from 0 p.events in omega (arith, b)))
    ∙ task_total p.events made.first_meets

-- before any monitor
pub resources_whole : (p : Parts) (sets : List (List Bool)) (entries : List ℕ) → AreWellMade p
    → AreTypeSets p p.types sets → AreTypeEntries p (units_of p.events) entries → AreResourcesTo p 0 sets entries
resources_whole p sets entries made whole are = record {
  are = record {
    sized = whole.sized;
    given = λ i l. (let b = All-get_or (λ y. y < p.types) entries i 0 l are.below in let c = whole.amount in
        omega (arith, b, c));
    first = (let c = whole.amount in omega (arith, c));
    apart = λ i j l g high same. absurd (let b = All-get_or (λ y. y < p.types) entries i 0 l are.below in
        omega (arith, b, high));
  };
  amount = are.amount ∙ all_tasks_of p made;
  members = λ e k r place there.
      let own = place_known p.events e k place there in
      let slot = first_slot p e own.0 made own.1 in
      let y = are.types (first_meet_at p.events e) e k place
      (units_below p.events e (first_meet_at p.events e) made.first_meets slot) slot there in
      let mine : IsEvent p own.0 = all-there (IsEvent p) p.events e own.0 made.events own.1 in
      let typed : IsPlace p place = all-there (IsPlace p) own.0.places k place mine.places own.2 in
      ap (λ j. has_member (get_or sets j []) r) y ∙ whole.members place.rtype r typed.typed
      ∙ and_true (is_of_type p place.rtype r) true refl;
}

-- one monitor more
pub resources_same : (p : Parts) (n : ℕ) (sets : List (List Bool)) (entries : List ℕ) (m : Monitor)
    → AreResourcesTo p n sets entries → slice_get p.monitors n ≡ Some m
    → ((e k r : ℕ) → monitor_lets_have p e k r m ≡ true) → AreResourcesTo p (n + 1) sets entries
resources_same p n sets entries m are at all = record {
  are = are.are;
  amount = are.amount;
  members = λ e k r place there.
      are.members e k r place there
      ∙ ap (λ b. has_type p (Some place) r && b) (and_true (list_all (monitor_lets_have p e k r) (take n p.monitors))
      (monitor_lets_have p e k r m) (all e k r) ∙ sym (all_more (monitor_lets_have p e k r) p.monitors n m at));
}

place_none : (m : Point) (e k : ℕ) → place_of m ≡ None → is_place m e k ≡ false
place_none m e k h = grind arith

place_some : (m : Point) (e k j : ℕ) (x : EventId) → place_of m ≡ Some (x, j)
    → is_place m e k ≡ ((x.0 == e) && (j == k))
place_some m e k j x h = grind arith

pub have_loose : (p : Parts) (m : Monitor) (c : Constraint) → slice_get p.constraints m.constraint ≡ Some c
    → is_strict c ≡ false → (e k r : ℕ) → monitor_lets_have p e k r m ≡ true
have_loose p m c at h e k r = either (is_place m.point e k)
    (ap (λ o. option_map_or (λ rule. lets_have rule r) o true) (strict_is p m c false at h))

pub have_rule : (p : Parts) (m : Monitor) (c : Constraint) → slice_get p.constraints m.constraint ≡ Some c
    → is_strict c ≡ true → ((r : ℕ) → lets_have c.rule r ≡ true) → (e k r : ℕ) → monitor_lets_have p e k r m ≡ true
have_rule p m c at h loose e k r = either (is_place m.point e k)
    (ap (λ o. option_map_or (λ rule. lets_have rule r) o true) (strict_is p m c true at h) ∙ loose r)

pub have_point : (p : Parts) (m : Monitor) → place_of m.point ≡ None → (e k r : ℕ) → monitor_lets_have p e k r m ≡ true
have_point p m h e k r = ap (λ b. cond b (option_map_or (λ rule. lets_have rule r) (strict_rule p m) true) true)
    (place_none m.point e k h)

pub resources_narrowed : (p : Parts) (n : ℕ) (olds sets : List (List Bool)) (old entries : List ℕ) (m : Monitor)
    (c : Constraint) (x : EventId) (j : ℕ) (mine : Place)
    → AreWellMade p → AreResourcesTo p n olds old → slice_get p.monitors n ≡ Some m
    → slice_get p.constraints m.constraint ≡ Some c → is_strict c ≡ true → place_of m.point ≡ Some (x, j)
    → place_at p.events x.0 j ≡ Some mine
    → AreSets p.types (length p.resources) sets entries → length entries ≡ length old
    → ((r : ℕ) → has_member (set_at sets entries (resource_entry p.events x.0 j)) r
    ≡ has_member (set_at olds old (resource_entry p.events x.0 j)) r && lets_have c.rule r)
    → ((i : ℕ) → i < length old → i ≢ resource_entry p.events x.0 j → set_at sets entries i ≡ set_at olds old i)
    → AreResourcesTo p (n + 1) sets entries
resources_narrowed p n olds sets old entries m c x j mine made are at has strict point here new same own rest = record {
  are = new;
  amount = same ∙ are.amount;
  members = λ e k r place there. elim (cases_eqb (resource_entry p.events e k) (resource_entry p.events x.0 j)) [
    | inl eq ↦
        let z = numbers e k place there eq in
        ap (λ i. has_member (set_at sets entries i) r) eq ∙ own r
        ∙ ap (λ i. has_member (set_at olds old i) r && lets_have c.rule r) (sym eq)
        ∙ ap (λ b. b && lets_have c.rule r) (are.members e k r place there)
        ∙ and_assoc (has_type p (Some place) r) (list_all (monitor_lets_have p e k r) (take n p.monitors))
        (lets_have c.rule r)
        ∙ ap (λ b. has_type p (Some place) r && b) (ap
        (λ b. list_all (monitor_lets_have p e k r) (take n p.monitors) && b) (sym (own_lets e k r z.0 z.1))
        ∙ sym (all_more (monitor_lets_have p e k r) p.monitors n m at))
    | inr ne ↦
        ap (λ z. has_member z r) (rest (resource_entry p.events e k) (room e k place there) ne)
        ∙ are.members e k r place there
        ∙ ap (λ b. has_type p (Some place) r && b) (and_true (list_all (monitor_lets_have p e k r) (take n p.monitors))
        (monitor_lets_have p e k r m) (other_lets e k r ne)
        ∙ sym (all_more (monitor_lets_have p e k r) p.monitors n m at))
  ];
}
  where
    slot : (e k : ℕ) (place : Place) → place_at p.events e k ≡ Some place
        → HasSlot p.events e (first_meet_at p.events e)
    slot e k place there = let own = place_known p.events e k place there in first_slot p e own.0 made own.1

    room : (e k : ℕ) (place : Place) → place_at p.events e k ≡ Some place → resource_entry p.events e k < length old
    room e k place there = let a = are.amount in let b =
        number_within p.events e (first_meet_at p.events e) k made.first_meets (slot e k place there)
        (within_places p.events e k place there) in omega (arith, a, b)

    numbers : (e k : ℕ) (place : Place) → place_at p.events e k ≡ Some place
        → resource_entry p.events e k ≡ resource_entry p.events x.0 j → (x.0 ≡ e) × (j ≡ k)
    numbers e k place there eq =
        let z = numbers_apart p.events e x.0 (first_meet_at p.events e) (first_meet_at p.events x.0) k j
        made.first_meets (slot e k place there) (slot x.0 j mine here) (within_places p.events e k place there)
        (within_places p.events x.0 j mine here) eq in (
          sym (unit_once p.events e x.0 (first_meet_at p.events e) made.first_meets (slot e k place there)
              (subst (HasSlot p.events x.0) (sym z.0) (slot x.0 j mine here))),
          sym z.1,
        )

    own_lets : (e k r : ℕ) → x.0 ≡ e → j ≡ k → monitor_lets_have p e k r m ≡ lets_have c.rule r
    own_lets e k r a b =
        ap (λ b. cond b (option_map_or (λ rule. lets_have rule r) (strict_rule p m) true) true)
        (place_some m.point e k j x point ∙ ap (λ y. y && (j == k)) (eq-eqb x.0 e a) ∙ eq-eqb j k b)
        ∙ ap (λ o. option_map_or (λ rule. lets_have rule r) o true) (strict_is p m c true has strict)

    not_both : (e k : ℕ) → resource_entry p.events e k ≢ resource_entry p.events x.0 j
        → ((x.0 == e) && (j == k)) ≡ false
    not_both e k ne = elim (cases_eqb x.0 e) [
      | inl a ↦ elim (cases_eqb j k) [
        | inl b ↦ absurd (ne (ap (λ y. resource_entry p.events y k) (sym a) ∙ ap (resource_entry p.events x.0) (sym b)))
        | inr b ↦ ap (λ y. y && (j == k)) (eq-eqb x.0 e a) ∙ ne_eqb j k b
      ]
      | inr a ↦ ap (λ y. y && (j == k)) (ne_eqb x.0 e a)
    ]

    other_lets : (e k r : ℕ) → resource_entry p.events e k ≢ resource_entry p.events x.0 j
        → monitor_lets_have p e k r m ≡ true
    other_lets e k r ne = ap (λ b. cond b (option_map_or (λ rule. lets_have rule r) (strict_rule p m) true) true)
        (place_some m.point e k j x point ∙ not_both e k ne)

-- a place with a role is there
pub role_place : (events : List EventInfo) (e k : ℕ) (role : List ℕ) → role_at events e k ≡ Some role
    → (mine : Place) × (place_at events e k ≡ Some mine)
role_place events e k role h = outer (slice_get events e) refl h
  where
    inner : (own : EventInfo) (o : Option Place) → slice_get own.places k ≡ o → slice_get events e ≡ Some own
        → option_and_then (λ (z : Place). z.role) o ≡ Some role → (mine : Place) × (place_at events e k ≡ Some mine)
    inner own None a b g = absurd (let e : ⊥ = cc in e)
    inner own (Some z) a b g = (z, place_is events e k own b ∙ a)

    outer : (o : Option EventInfo) → slice_get events e ≡ o
        → option_and_then (λ (y : EventInfo). option_and_then (λ (z : Place). z.role) (slice_get y.places k)) o
        ≡ Some role → (mine : Place) × (place_at events e k ≡ Some mine)
    outer None a g = absurd (let e : ⊥ = cc in e)
    outer (Some own) a g = inner own (slice_get own.places k) refl a g

-- after all monitors
pub resources_done : (p : Parts) (sets : List (List Bool)) (entries : List ℕ) → AreWellMade p
    → AreResourcesTo p (length p.monitors) sets entries → AreResourceSets p sets entries
resources_done p sets entries made are = record {
  amount = λ e k place there. (let a = are.amount in let own = place_known p.events e k place there in let b =
      number_within p.events e (first_meet_at p.events e) k made.first_meets (first_slot p e own.0 made own.1)
      (within_places p.events e k place there) in omega (arith, a, b));
  given = are.are.given;
  members = λ e k r place there. are.members e k r place there
      ∙ ap (λ ms. has_type p (Some place) r && list_all (monitor_lets_have p e k r) ms)
      (take_all (length p.monitors) p.monitors (omega arith));
}

pub entry_below : (p : Parts) (e k : ℕ) (place : Place) → AreWellMade p → place_at p.events e k ≡ Some place
    → resource_entry p.events e k < tasks_of p.events
entry_below p e k place made there = let own = place_known p.events e k place there in
    number_within p.events e (first_meet_at p.events e) k made.first_meets (first_slot p e own.0 made own.1)
    (within_places p.events e k place there)

pub event_within : (p : Parts) (e k : ℕ) (place : Place) → place_at p.events e k ≡ Some place → e < length p.events
event_within p e k place there = let own = place_known p.events e k place there in
    slice_get_within p.events e own.0 own.1
