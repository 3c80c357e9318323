-- The domains of demands are in range.
use Rattle.std.proofs.Common.{ℕ, zero, suc, ◌+◌, ◌-◌, ◌<◌, ◌≤◌, ◌≡◌, Bool, true, false, ◌&&◌, Option, Some, None, List}
use Rattle.std.proofs.Common.{[], ◌∷◌, length, get_or, slice_get, leb, refl, sym, ap, ◌∙◌, subst, arith, IfSome}
use Rattle.std.specs.Prelude.{◌==◌}
use Rattle.std.specs.Option.{option_and_then, option_map, option_map_or, ForSome}
use Rattle.std.proofs.lemmas.Bool.{and_parts, leb-true, eqb-true, false≢true}
use Rattle.std.proofs.lemmas.Option.{same_Some, none-some, slice_get-get_or, slice_get_within}
use Rattle.khe_base.proofs.ListLemmas.{all-there}
use Rattle.khe_base.specs.declared.numbers.ResourceId.{ResourceId}
use Rattle.khe_base.specs.declared.numbers.TimeId.{TimeId}
use Rattle.khe_instance.proofs.DutiesLemmas.{typed}
use Rattle.khe_instance.specs.Lookups.{place_at}
use Rattle.khe_instance.specs.WellMade.{HasType}
use Rattle.khe_instance.specs.declared.parts.EventInfo.{EventInfo}
use Rattle.khe_instance.specs.declared.parts.Parts.{Parts}
use Rattle.khe_instance.specs.declared.parts.Place.{Place}
use Rattle.khe_instance.specs.declared.parts.ResourceInfo.{ResourceInfo}
use Rattle.khe_told.specs.Fits.{AreTold, IsSlot}
use Rattle.khe_told.specs.Slots.{given_at, length_of, no_slot, slot_at}
use Rattle.khe_told.specs.declared.slots.Slot.{Slot}
use Rattle.khe_told.specs.declared.slots.Span.{Span}
use Rattle.demand_matching.specs.Domains.{Domains, IsGiven, IsInRange, is_picked}
use Rattle.demand_matching.specs.declared.domains.Domain.{Domain}
use Rattle.demand_matching.specs.declared.domains.Pick.TheVariants.{One, «Set»}
use Rattle.hall_report.proofs.Noting.{below_is}
use Rattle.hall_report.proofs.Numbers.{task_place}
use Rattle.hall_report.proofs.Stated.{place_there, resources_picked, span_short, span_some, starts_picked}
use Rattle.hall_report.specs.Demands.{has_type, slot_takes, span_starts}
use Rattle.hall_report.specs.Kept.{AreOpen, IsTask, number_of}
use Rattle.hall_report.specs.Picks.{domain_in, pick_resources, pick_starts, resource_entry, start_entry}
use Rattle.hall_report.specs.Renewing.{AreWritable}
use Rattle.hall_report.specs.Strict.{may_be_given, may_start}
use Rattle.hall_report.specs.Units.{AreFirsts, AreUnits}
use Rattle.hall_report.specs.declared.renewing.Picks.{Picks}
use Rattle.hall_report.specs.declared.units.Units.{Units}

starts_given : (sets : List (List Bool)) (n : ℕ) (o : Option TimeId) → n < length sets
    → IsGiven sets (option_map_or (λ (t : TimeId). One t.0) o («Set» n))
starts_given sets n None h = h
starts_given sets n (Some t) h = tt

resources_given : (sets : List (List Bool)) (n : ℕ) (o : Option ResourceId) → n < length sets
    → IsGiven sets (option_map_or (λ (t : ResourceId). One t.0) o («Set» n))
resources_given sets n None h = h
resources_given sets n (Some t) h = tt

-- a resource of a type is there
typed_there : (p : Parts) (place : Option Place) (r : ℕ) → has_type p place r ≡ true → r < length p.resources
typed_there p place r h = found (slice_get p.resources r) refl h
  where
    found : (o : Option ResourceInfo) → slice_get p.resources r ≡ o
        → option_map_or (λ (x : ResourceInfo). option_map_or (λ (w : Place). w.rtype == x.rtype) place false) o false
        ≡ true → r < length p.resources
    found None e h = absurd (false≢true h)
    found (Some x) e h = slice_get_within p.resources r x e

taken_by : (r bound : ℕ) (o : Option ResourceId) (a b : Bool) → ((g : ResourceId) → o ≡ Some g → g.0 < bound)
    → (a ≡ true → r < bound) → option_map_or (λ (g : ResourceId). g.0 == r) o (a && b) ≡ true → r < bound
taken_by r bound None a b own other h = other (and_parts a b h).0
taken_by r bound (Some g) a b own other h = let e : g.0 ≡ r = eqb-true g.0 r h in let l = own g refl in
    omega (arith, e, l)

started_by : (t d times : ℕ) (o : Option TimeId) (b : Bool) → ((u : TimeId) → o ≡ Some u → u.0 + d ≤ times)
    → option_map_or (λ (u : TimeId). u.0 == t) o (leb (t + d) times && b) ≡ true → t + d ≤ times
started_by t d times None b own h = leb-true (t + d) times (and_parts (leb (t + d) times) b h).0
started_by t d times (Some u) b own h = let e : u.0 ≡ t = eqb-true u.0 t h in let l = own u refl in omega (arith, e, l)

ends_by : (n d : ℕ) (o : Option TimeId) → IfSome o (λ (u : TimeId). u.0 + d ≤ n) → (u : TimeId) → o ≡ Some u
    → u.0 + d ≤ n
ends_by n d o h u e = subst (λ q. IfSome q (λ (v : TimeId). v.0 + d ≤ n)) e h

given_there : (xs : List (Option ResourceId)) (k : ℕ) (g : ResourceId) → get_or xs k None ≡ Some g
    → slice_get xs k ≡ Some (Some g)
given_there [] k g h = absurd (none-some g h)
given_there (x ∷ xs) zero g h = ap Some h
given_there (x ∷ xs) (suc k) g h = given_there xs k g h

module _ (p : Parts) (t : List Slot) (u : Units) (picks : Picks) (w : Domains) (cells : List ℕ) (told : AreTold p t)
    (opened : AreOpen p u picks w cells) where
  in_range : (m k o : ℕ) (y : Span) → m < length t → IsTask t m k o → (slot_at t m).span ≡ Some y
      → IsInRange w (record {
        times = pick_starts p.events picks.starts.items (slot_at t m).event.0 y;
        shift = o;
        resources = pick_resources p.events picks.resources.items (slot_at t m) k;
      })
  in_range m k o y l task live =
      let x : Slot = slot_at t m in
      let short = span_short p t m y opened.made told l live in
      let near = task_place p t m k o opened.made.first_meets told.whose task in
      let place = place_there p.events x.event.0 k near in
      let slot : IsSlot p x = all-there (IsSlot p) t m x told.slots (slice_get-get_or t m no_slot l) in
      let long : o < y.duration = let a = ap (λ v. option_map_or (λ (z : Span). z.duration) v 0) live in let b =
      task.1 in omega (arith, a, b) in
      let starts_at = opened.starts.given (start_entry p.events x.event.0 y.duration)
      (opened.starts.amount x.event.0 y.duration short.event short.at short.some short.few) in
      let resources_at = opened.resources.given (resource_entry p.events x.event.0 k)
      (opened.resources.amount x.event.0 k place.0 place.1) in
      let ends : IfSome y.start (λ (v : TimeId). v.0 + y.duration ≤ length p.times) =
      subst (λ v. IfSome v (λ (z : Span). IfSome z.start (λ (q : TimeId). q.0 + z.duration ≤ length p.times))) live
      slot.ends in
      record {
        times = starts_given w.times (get_or picks.starts.items (start_entry p.events x.event.0 y.duration) 0) y.start
            starts_at;
        resources = resources_given w.resources (get_or picks.resources.items (resource_entry p.events x.event.0 k) 0)
            (given_at x k) resources_at;
        resource = λ r q adm.
            let a = and_parts (is_picked w.resources (pick_resources p.events picks.resources.items x k) r)
            (leb o q && is_picked w.times (pick_starts p.events picks.starts.items x.event.0 y) (q - o)) adm in
            let h : slot_takes p x k r ≡ true = sym (resources_picked p w.resources picks.resources.items x k r
            opened.resources near) ∙ a.0 in
            let b : r < length p.resources = taken_by r (length p.resources) (given_at x k)
            (has_type p (place_at p.events x.event.0 k) r) (may_be_given p x.event.0 k r)
            (λ g e. typed p place.0.rtype g (given_type slot short.event place.0 g short.at place.1
            (given_there x.given k g e)))
            (λ e. typed_there p (place_at p.events x.event.0 k) r e) h in
            let e = opened.width in omega (arith, b, e);
        time = λ r q adm.
            let a = and_parts (is_picked w.resources (pick_resources p.events picks.resources.items x k) r)
            (leb o q && is_picked w.times (pick_starts p.events picks.starts.items x.event.0 y) (q - o)) adm in
            let b = and_parts (leb o q) (is_picked w.times (pick_starts p.events picks.starts.items x.event.0 y)
            (q - o)) a.1 in
            let h : span_starts p x.event.0 y (q - o) ≡ true =
            sym (starts_picked p w.times picks.starts.items x.event.0 (q - o) short.event y opened.starts short.at
            short.some short.few) ∙ b.1 in
            let low = leb-true o q b.0 in
            let d : q - o + y.duration ≤ length p.times =
            started_by (q - o) y.duration (length p.times) y.start (may_start p x.event.0 y.duration (q - o))
            (ends_by (length p.times) y.duration y.start ends) h in
            let e = opened.last in omega (arith, d, e, long, low);
      }
    where
      given_type : {x : Slot} → IsSlot p x → (event : EventInfo) (place : Place) (g : ResourceId)
          → slice_get p.events x.event.0 ≡ Some event → place_at p.events x.event.0 k ≡ Some place
          → slice_get x.given k ≡ Some (Some g) → HasType p place.rtype g
      given_type slot event place g at found given =
          slot.given event k place g at (sym (ap (λ q. option_and_then (λ (e : EventInfo). slice_get e.places k) q) at)
          ∙ found) given

  pub ranged : (m k o : ℕ) → m < length t → IsTask t m k o
      → ForSome (domain_in p.events picks.starts.items picks.resources.items (slot_at t m) k o) (IsInRange w)
  ranged m k o l task = λ d e.
      let y = span_some (slot_at t m).span (let a = task.1 in omega (arith, a)) in
      let D : Domain = record {
        times = pick_starts p.events picks.starts.items (slot_at t m).event.0 y.0;
        shift = o;
        resources = pick_resources p.events picks.resources.items (slot_at t m) k;
      } in
      let shown : domain_in p.events picks.starts.items picks.resources.items (slot_at t m) k o ≡ Some D =
      ap (option_map (λ (z : Span). record {
        times = pick_starts p.events picks.starts.items (slot_at t m).event.0 z;
        shift = o;
        resources = pick_resources p.events picks.resources.items (slot_at t m) k;
      })) y.1 in
      subst (IsInRange w) (same_Some D d (sym shown ∙ e)) (in_range m k o y.0 l task y.1)

  -- a meet's demands can be written
  pub writable : (v : Units) (m from end count : ℕ) → AreUnits p.events t v.next.items v.held.items v.free.items
      → AreFirsts p.events v.tasks.items → m < length t → end ≤ length (slot_at t m).given
      → count ≤ length_of (slot_at t m)
      → AreWritable w (number_of v m) (domain_in p.events picks.starts.items picks.resources.items (slot_at t m)) from
      end count
  writable v m from end count units firsts l wide long = record {
    below = λ k o a b c. let d = below_is p t v m end count opened.made told units firsts wide long k o b c in let e =
        opened.amount in omega (arith, d, e);
    ranged = λ k o a b c. ranged m k o l (omega (arith, b, wide), omega (arith, c, long));
  }

-- a slot without a meet has no domain to write
pub writable_none : (p : Parts) (s t : List Slot) (u : Units) (picks : Picks) (w : Domains) (cells : List ℕ)
    (m from end count : ℕ) → AreTold p s → AreOpen p u picks w cells
    → AreUnits p.events s u.next.items u.held.items u.free.items
    → (slot_at t m).span ≡ None → end ≤ length (slot_at s m).given → count ≤ length_of (slot_at s m)
    → AreWritable w (number_of u m) (domain_in p.events picks.starts.items picks.resources.items (slot_at t m)) from end
    count
writable_none p s t u picks w cells m from end count told opened units none wide long = record {
  below = λ k o a b c. let d = below_is p s u m end count opened.made told units opened.firsts wide long k o b c in
      let e = opened.amount in omega (arith, d, e);
  ranged = λ k o a b c d e.
      absurd (none-some d (sym (ap (option_map (λ (z : Span). record {
        times = pick_starts p.events picks.starts.items (slot_at t m).event.0 z;
        shift = o;
        resources =
            pick_resources p.events picks.resources.items (slot_at t m) k;
      })) none) ∙ e));
}
