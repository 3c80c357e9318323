-- Deviations at event groups: the steps of their sums, and that sums over the events of a group are
-- those over all meets and duties.
use Rattle.std.proofs.Common.{◌≡◌, ◌∙◌, sym, ap, ap₂, refl, ℕ, zero, suc, ◌+◌, ◌-◌, ◌<◌, ◌≤◌, ◌==◌, Bool, true, false}
use Rattle.std.proofs.Common.{cond, ◌&&◌, ◌||◌, Option, Some, None, List, [], ◌∷◌, length, get_or, set, take, slice_get}
use Rattle.std.proofs.Common.{arith, zero-add, ◌⊎◌, inl, inr, filter, sum_by, count_by, option_map, option_and_then}
use Rattle.std.specs.List.{list_any, range_with_len}
use Rattle.std.specs.Option.{option_map_or}
use Rattle.std.proofs.lemmas.Bool.{and_parts, cases_eq, eq-eqb, eqb-true, false≢true, ne_eqb}
use Rattle.std.proofs.lemmas.List.{get_or_past}
use Rattle.std.proofs.lemmas.List.Folds.{Any-from_list_any, list_any-from_Any, list_any-append, list_any_more}
use Rattle.std.proofs.lemmas.List.Sums.{sum_by-cons}
use Rattle.std.proofs.lemmas.Option.{none-some, same_Some}
use Rattle.khe_base.proofs.ListLemmas.{range_more}
use Rattle.khe_base.specs.IdSet.{has_member}
use Rattle.khe_base.specs.declared.numbers.ResourceId.{ResourceId}
use Rattle.khe_base.specs.Bounds.{count_outside}
use Rattle.khe_instance.specs.EventDeviation.{avoid_split_assignments, spread_events, duties_at, starts_in}
use Rattle.khe_instance.specs.Lookups.{is_role, places_at, role_at}
use Rattle.khe_instance.specs.Running.{is_resource, meets_of}
use Rattle.khe_instance.specs.declared.parts.EventInfo.{EventInfo}
use Rattle.khe_instance.specs.declared.parts.GroupInfo.{GroupInfo}
use Rattle.khe_instance.specs.declared.rules.Spread.{Spread}
use Rattle.khe_instance.specs.declared.states.Duty.{Duty}
use Rattle.khe_instance.specs.declared.states.Meet.{Meet}
use Rattle.event_deviations.specs.Groups.{some_has, has_duty_at, has_duty, has_duty_among, starting_at, starting_in}
use Rattle.event_deviations.specs.Groups.{spread_over}
use Rattle.event_deviations.specs.Marked.{is_marked}
use Rattle.khe_base.specs.IdSet.{members_of}
use Rattle.event_deviations.proofs.Kit.{from_both, same_truth, list_any-filter, from_any_range, any_in_range, InRange}
use Rattle.event_deviations.proofs.Kit.{count_by-agree, sum_by-filter, sum_one}
use Rattle.event_deviations.proofs.MarkLemmas.{or_false, or_assoc, is_marked-set}
use Rattle.khe_base.proofs.IdSetLemmas.{member_below}
use Rattle.khe_instance.proofs.DutiesLemmas.{sum_by-plus}
use Rattle.khe_instance.proofs.PlaceLemmas.{place_within}

-- one more duty
module _ (vs start : List ℕ) (ds : List Duty) (i : ℕ) (d : Duty) (l : i < length ds)
    (was : (r : ℕ) → is_marked vs r ≡ (is_marked start r || some_has (take i ds) r)) where
  more : (r : ℕ) → some_has (take (i + 1) ds) r ≡ (some_has (take i ds) r || is_resource r (get_or ds i d).resource)
  more r = list_any_more (λ x. is_resource r x.resource) ds i d l

  pub see-some : (x : ResourceId) → (get_or ds i d).resource ≡ Some x → x.0 < length vs → (new : List ℕ)
      → new ≡ set vs x.0 1
      → (r : ℕ) → is_marked new r ≡ (is_marked start r || some_has (take (i + 1) ds) r)
  see-some x given within new is r =
      ap (λ v. is_marked v r) is ∙ is_marked-set vs x.0 1 r within (omega arith) ∙ ap (λ b. b || (x.0 == r)) (was r)
      ∙ or_assoc (is_marked start r) (some_has (take i ds) r) (x.0 == r)
      ∙ ap (λ b. is_marked start r || b) (sym (more r ∙ ap (λ o. some_has (take i ds) r || is_resource r o) given))

  pub see-none : (get_or ds i d).resource ≡ None → (r : ℕ)
      → is_marked vs r ≡ (is_marked start r || some_has (take (i + 1) ds) r)
  see-none given r =
      was r ∙ ap (λ b. is_marked start r || b)
      (sym (more r ∙ ap (λ o. some_has (take i ds) r || is_resource r o) given ∙ or_false (some_has (take i ds) r)))

-- one more place of an event
module _ (holds : ℕ → ℕ → Bool) (vs start : List ℕ) (k : ℕ)
    (was : (r : ℕ) → is_marked vs r ≡ (is_marked start r || list_any (holds r) (range_with_len 0 k))) where
  next : (r : ℕ) → list_any (holds r) (range_with_len 0 (k + 1))
      ≡ (list_any (holds r) (range_with_len 0 k) || holds r k)
  next r =
      ap (list_any (holds r)) (range_more k) ∙ list_any-append (holds r) (range_with_len 0 k) (k ∷ [])
      ∙ ap (λ b. list_any (holds r) (range_with_len 0 k) || b) (or_false (holds r k))

  pub place-seen : (new : List ℕ) (q : ℕ → Bool) → ((r : ℕ) → is_marked new r ≡ (is_marked vs r || q r))
      → ((r : ℕ) → holds r k ≡ q r)
      → (r : ℕ) → is_marked new r ≡ (is_marked start r || list_any (holds r) (range_with_len 0 (k + 1)))
  place-seen new q is same r =
      is r ∙ ap (λ b. b || q r) (was r) ∙ or_assoc (is_marked start r) (list_any (holds r) (range_with_len 0 k)) (q r)
      ∙ ap (λ b. is_marked start r || b) (ap (λ b. list_any (holds r) (range_with_len 0 k) || b) (sym (same r))
      ∙ sym (next r))

  pub place-passed : ((r : ℕ) → holds r k ≡ false) → (r : ℕ)
      → is_marked vs r ≡ (is_marked start r || list_any (holds r) (range_with_len 0 (k + 1)))
  place-passed none r =
      was r ∙ ap (λ b. is_marked start r || b) (sym
      (next r ∙ ap (λ b. list_any (holds r) (range_with_len 0 k) || b) (none r)
      ∙ or_false (list_any (holds r) (range_with_len 0 k))))

-- the role of a place that is there
pub role_there : (infos : List EventInfo) (e k : ℕ) (event : EventInfo) → slice_get infos e ≡ Some event
    → role_at infos e k ≡ option_and_then (λ p. p.role) (slice_get event.places k)
role_there infos e k event there = ap (option_and_then
    (λ event. option_and_then (λ p. p.role) (slice_get event.places k))) there

role_within : (infos : List EventInfo) (role : List ℕ) (e k : ℕ) → is_role role (role_at infos e k) ≡ true
    → k < places_at infos e
role_within infos role e k h = by (role_at infos e k) refl h
  where
    by : (o : Option (List ℕ)) → role_at infos e k ≡ o → is_role role o ≡ true → k < places_at infos e
    by None is g = absurd (false≢true g)
    by (Some own) is g = place_within infos e k own is

-- some member passes where some number does that is a member
module _ (set : List Bool) (p : ℕ → Bool) where
  pub any_member : (n : ℕ) → has_member set n ≡ true → p n ≡ true → list_any p (members_of set) ≡ true
  any_member n m h =
      list_any-filter p (has_member set) (range_with_len 0 (length set))
      ∙ any_in_range (λ x. has_member set x && p x) (length set) n (member_below set n m)
      (from_both (has_member set n) (p n) m h)

  pub from_any_member : list_any p (members_of set) ≡ true → InRange (λ x. has_member set x && p x) (length set)
  from_any_member e = from_any_range (λ x. has_member set x && p x) (length set)
      (sym (list_any-filter p (has_member set) (range_with_len 0 (length set))) ∙ e)

-- whether a resource has a duty among the members of a group is whether some duty there has it
module _ (infos : List EventInfo) (ds : List Duty) (set : List Bool) (role : List ℕ) (r : ℕ) where
  abbrev is_there : Duty → Bool
  is_there d = has_member set d.meet.event.0 && is_role role (role_at infos d.meet.event.0 d.place)

  abbrev found_among : Bool
  found_among = has_duty_among infos ds role (members_of set) r

  to : found_among ≡ true → list_any (λ d. is_there d && is_resource r d.resource) ds ≡ true
  to h =
      let e = from_any_member set (has_duty infos ds role r) h in
      let at_event = and_parts (has_member set e.number) (has_duty infos ds role r e.number) e.passes in
      let k = from_any_range (has_duty_at infos ds role r e.number) (places_at infos e.number) at_event.1 in
      let at_place = and_parts (is_role role (role_at infos e.number k.number))
      (some_has (duties_at e.number k.number ds) r) k.passes in
      let own = λ (d : Duty). (d.meet.event.0 == e.number) && (d.place == k.number) in
      let d = Any-from_list_any (λ (x : Duty). own x && is_resource r x.resource) ds
      (sym (list_any-filter (λ (x : Duty). is_resource r x.resource) own ds) ∙ at_place.1) in
      let x = d.1 in
      let parts = and_parts (own x) (is_resource r x.resource) d.4 in
      let here = and_parts (x.meet.event.0 == e.number) (x.place == k.number) parts.0 in
      let e_is : e.number ≡ x.meet.event.0 = sym (eqb-true x.meet.event.0 e.number here.0) in
      let k_is : k.number ≡ x.place = sym (eqb-true x.place k.number here.1) in
      let there : is_there x ≡ true =
      from_both (has_member set x.meet.event.0) (is_role role (role_at infos x.meet.event.0 x.place))
      (ap (has_member set) (sym e_is) ∙ at_event.0)
      (ap₂ (λ e k. is_role role (role_at infos e k)) (sym e_is) (sym k_is) ∙ at_place.0) in
      list_any-from_Any (λ y. is_there y && is_resource r y.resource) ds
      (d.0, x, d.2, d.3, from_both (is_there x) (is_resource r x.resource) there parts.1)

  from : list_any (λ d. is_there d && is_resource r d.resource) ds ≡ true → found_among ≡ true
  from h =
      let d = Any-from_list_any (λ x. is_there x && is_resource r x.resource) ds h in
      let x = d.1 in
      let parts = and_parts (is_there x) (is_resource r x.resource) d.4 in
      let here = and_parts (has_member set x.meet.event.0) (is_role role (role_at infos x.meet.event.0 x.place))
      parts.0 in
      let e = x.meet.event.0 in
      let k = x.place in
      let own = λ (y : Duty). (y.meet.event.0 == e) && (y.place == k) in
      let same : own x ≡ true = from_both (e == e) (k == k) (eq-eqb e e refl) (eq-eqb k k refl) in
      let some : some_has (duties_at e k ds) r ≡ true =
      list_any-filter (λ (y : Duty). is_resource r y.resource) own ds
      ∙ list_any-from_Any (λ y. own y && is_resource r y.resource) ds
      (d.0, x, d.2, d.3, from_both (own x) (is_resource r x.resource) same parts.1) in
      any_member set (has_duty infos ds role r) e here.0
      (any_in_range (has_duty_at infos ds role r e) (places_at infos e) k (role_within infos role e k here.1)
      (from_both (is_role role (role_at infos e k)) (some_has (duties_at e k ds) r) here.1 some))

  pub among-is : found_among ≡ list_any (λ d. is_resource r d.resource) (filter is_there ds)
  among-is = same_truth found_among (list_any (λ d. is_there d && is_resource r d.resource) ds) to from
      ∙ sym (list_any-filter (λ d. is_resource r d.resource) is_there ds)

-- a number that is known by the members of a group is the group's
pub by_members : (value : List ℕ → ℕ) (of_group : List Bool → ℕ)
    → ((set : List Bool) → value (members_of set) ≡ of_group set)
    → (o : Option GroupInfo) (ms : List ℕ) → option_map (λ g. members_of g.events) o ≡ Some ms
    → value ms ≡ option_map_or (λ g. of_group g.events) o 0
by_members value of_group is None ms h = absurd (none-some ms h)
by_members value of_group is (Some g) ms h = ap value (sym (same_Some _ _ h)) ∙ is g.events

pub split-is : (infos : List EventInfo) (ds : List Duty) (set : List Bool) (role : List ℕ) (resources : ℕ)
    → count_by (has_duty_among infos ds role (members_of set)) (range_with_len 0 resources) - 1
    ≡ avoid_split_assignments infos resources ds set role
split-is infos ds set role resources =
    ap (λ n. n - 1)
    (count_by-agree (has_duty_among infos ds role (members_of set))
    (λ r. list_any (λ d. is_resource r d.resource)
    (filter (λ d. has_member set d.meet.event.0 && is_role role (role_at infos d.meet.event.0 d.place)) ds))
    resources
    (λ r l. among-is infos ds set role r))

module _ (set times : List Bool) where
  abbrev value : Meet → ℕ
  value m = cond (starts_in times m.start) 1 0

  -- one more meet at an event
  at_event : (m : Meet) (ms : List Meet) (e : ℕ)
      → starting_at (m ∷ ms) times e ≡ cond (m.event.0 == e) (value m) 0 + starting_at ms times e
  at_event m ms e = by (m.event.0 == e)
    where
      by : (b : Bool) → count_by (λ x. starts_in times x.start) (cond b (m ∷ meets_of e ms) (meets_of e ms))
          ≡ cond b (value m) 0 + starting_at ms times e
      by true = sum_by-cons (λ x. cond (starts_in times x.start) 1 0) m (meets_of e ms)
      by false = sym (zero-add (starting_at ms times e))

  -- one meet among the members of a group
  one_meet : (m : Meet) → sum_by (λ e. cond (m.event.0 == e) (value m) 0) (members_of set)
      ≡ cond (has_member set m.event.0 && starts_in times m.start) 1 0
  one_meet m =
      let x = m.event.0 in
      let h = λ (e : ℕ). cond (has_member set e) (cond (x == e) (value m) 0) 0 in
      sum_by-filter (λ e. cond (x == e) (value m) 0) (has_member set) (range_with_len 0 (length set))
      ∙ sum_one h x elsewhere (length set) (λ l. ap (λ b. cond b (cond (x == x) (value m) 0) 0)
      (get_or_past set x false l))
      ∙ ap (λ b. cond (has_member set x) (cond b (value m) 0) 0) (eq-eqb x x refl)
      ∙ both (has_member set x) (starts_in times m.start)
    where
      elsewhere : (e : ℕ) → (e ≡ m.event.0 → ⊥) → cond (has_member set e) (cond (m.event.0 == e) (value m) 0) 0 ≡ 0
      elsewhere e other = ap (λ b. cond (has_member set e) (cond b (value m) 0) 0)
          (ne_eqb m.event.0 e (λ f. other (sym f))) ∙ zero_either (has_member set e)
        where
          zero_either : (b : Bool) → cond {A = ℕ} b 0 0 ≡ 0
          zero_either true = refl
          zero_either false = refl

      both : (a b : Bool) → cond a (cond b 1 0) 0 ≡ cond {A = ℕ} (a && b) 1 0
      both true b = refl
      both false b = refl

  -- the meets of a group's events that start in a set are those of its members
  pub starting-is : (ms : List Meet) → starting_in ms times (members_of set)
      ≡ count_by (λ m. has_member set m.event.0 && starts_in times m.start) ms
  starting-is [] = by (members_of set)
    where
      by : (es : List ℕ) → starting_in [] times es ≡ 0
      by [] = refl
      by (e ∷ es) = sum_by-cons (starting_at [] times) e es ∙ zero-add (starting_in [] times es) ∙ by es
  starting-is (m ∷ ms) =
      (λ i. sum_by (λ e. at_event m ms e i) (members_of set))
      ∙ sum_by-plus (λ e. cond (m.event.0 == e) (value m) 0) (starting_at ms times) (members_of set)
      ∙ ap₂ (λ x y. x + y) (one_meet m) (starting-is ms)
      ∙ sym (sum_by-cons (λ x. cond (has_member set x.event.0 && starts_in times x.start) 1 0) m ms)

pub spread-is : (meets : List Meet) (set : List Bool) (spreads : List Spread)
    → spread_over meets spreads (members_of set) ≡ spread_events meets set spreads
spread-is meets set spreads = λ i. sum_by (λ s. count_outside (starting-is set s.group meets i) s.min s.max) spreads
