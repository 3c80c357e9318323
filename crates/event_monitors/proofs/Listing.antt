-- Places that are added to the lists of the events that a monitor names.
use Rattle.std.proofs.Common.{ℕ, ◌≡◌, ◌<◌, ◌+◌, ◌==◌, ◌||◌, ◌∙◌, zero, suc, Bool, true, false, cond, Option, Some, List}
use Rattle.std.proofs.Common.{[], ◌∷◌, ◌++◌, ◌⊎◌, inl, inr, drop, set, length, get_or, replicate, slice_get, filter}
use Rattle.std.proofs.Common.{refl, sym, ap, subst, arith, append_assoc}
use Rattle.std.specs.List.{range_with_len}
use Rattle.std.specs.Option.{option_and_then, option_map, option_map_or}
use Rattle.std.proofs.lemmas.Bool.{cases_eq, eq-eqb, ne_eqb}
use Rattle.std.proofs.lemmas.List.{append-nil, get_or-replicate, get_or-set_other, get_or-set_same, length-replicate}
use Rattle.std.proofs.lemmas.List.{length-set}
use Rattle.std.specs.Prelude.{All}
use Rattle.std.proofs.lemmas.List.Elements.{All-from_get_or, filter-append}
use Rattle.std.proofs.lemmas.Option.{get_or_from_slice_get, none-some, same_Some, slice_get-get_or, slice_get_within}
use Rattle.khe_base.proofs.ListLemmas.{IsThere, all-there, range_more, there}
use Rattle.khe_base.specs.declared.numbers.EventId.{EventId}
use Rattle.khe_base.specs.declared.numbers.ResourceId.{ResourceId}
use Rattle.khe_base.specs.IdSet.{has_member, members_of}
use Rattle.khe_instance.specs.Watching.{names_event, pair_names}
use Rattle.khe_instance.specs.WellMade.{AreBounds, AreWellMade, IsConstraint, IsMonitor, IsPointOf, IsRule}
use Rattle.khe_instance.specs.declared.parts.EventInfo.{EventInfo}
use Rattle.khe_instance.specs.declared.parts.GroupInfo.{GroupInfo}
use Rattle.khe_instance.specs.declared.parts.Parts.{Parts}
use Rattle.khe_instance.specs.declared.points.Monitor.{Monitor}
use Rattle.khe_instance.specs.declared.points.Point.{Point}
use Rattle.khe_instance.specs.declared.points.Point.TheVariants.{Event, EventResource, EventGroup, EventPair as Pair}
use Rattle.khe_instance.specs.declared.points.Point.TheVariants.{Resource}
use Rattle.khe_instance.specs.declared.rules.Constraint.{Constraint}
use Rattle.khe_instance.specs.declared.rules.EventPair.{EventPair}
use Rattle.khe_instance.specs.declared.rules.Rule.{Rule}
use Rattle.khe_instance.specs.declared.rules.Rule.TheVariants.{AssignTime, AssignResource, SplitEvents}
use Rattle.khe_instance.specs.declared.rules.Rule.TheVariants.{DistributeSplitEvents, PreferTimes, PreferResources}
use Rattle.khe_instance.specs.declared.rules.Rule.TheVariants.{AvoidSplitAssignments, SpreadEvents, LinkEvents}
use Rattle.khe_instance.specs.declared.rules.Rule.TheVariants.{OrderEvents}
use Rattle.event_monitors.specs.Lists.{AreAdded, AreOnce, HasPair}
use Rattle.event_monitors.specs.Posts.{AreListed, names, names_at}
use Rattle.event_monitors.specs.Turns.{has}
use Rattle.event_monitors.specs.declared.posts.Post.{Post}
use Rattle.event_monitors.proofs.TurnLaws.{found, has_range}

module _ (place : ℕ) where
  abbrev more : Bool → List ℕ
  more b = cond b (place ∷ []) []

  pub added_as : (f g : ℕ → Bool) (old new : List (List ℕ)) → ((e : ℕ) → e < length old → f e ≡ g e)
      → AreAdded f place old new → AreAdded g place old new
  added_as f g old new same a = record {
    rows = a.rows;
    each =
        λ e l. a.each e l ∙ ap (λ b. get_or old e [] ++ more b) (same e l);
  }

  pub added_none : (f : ℕ → Bool) (lists : List (List ℕ)) → ((e : ℕ) → f e ≡ false) → AreAdded f place lists lists
  added_none f lists none = record {
    rows = refl;
    each =
        λ e l. sym (ap (λ b. get_or lists e [] ++ more b) (none e) ∙ append-nil (get_or lists e []));
  }

  pub added_one : (lists : List (List ℕ)) (at : ℕ) → at < length lists
      → AreAdded (λ e. at == e) place lists (set lists at (get_or lists at [] ++ place ∷ []))
  added_one lists at l = record { rows = length-set lists at _; each = λ e m. by e (cases_eq at e) }
    where
      by : (e : ℕ) → (at ≡ e) ⊎ (at ≡ e → ⊥) → get_or (set lists at (get_or lists at [] ++ place ∷ [])) e []
          ≡ get_or lists e [] ++ more (at == e)
      by e (inl same) =
          ap (λ i. get_or (set lists at (get_or lists at [] ++ place ∷ [])) i []) (sym same)
          ∙ get_or-set_same lists at (get_or lists at [] ++ place ∷ []) [] l
          ∙ ap (λ i. get_or lists i [] ++ place ∷ []) same
          ∙ ap (λ b. get_or lists e [] ++ more b) (sym (eq-eqb at e same))
      by e (inr apart) =
          get_or-set_other lists at e (get_or lists at [] ++ place ∷ []) [] (λ h. apart (sym h))
          ∙ sym (ap (λ b. get_or lists e [] ++ more b) (ne_eqb at e apart) ∙ append-nil (get_or lists e []))

  -- both events of a pair
  pub added_same : (first second : ℕ) (old new : List (List ℕ)) → second ≡ first
      → AreAdded (λ e. first == e) place old new → AreAdded (λ e. (first == e) || (second == e)) place old new
  added_same first second old new same a = added_as (λ e. first == e) (λ e. (first == e) || (second == e)) old new
      (λ e l. twice (first == e) ∙ ap (λ i. (first == e) || (i == e)) (sym same)) a
    where
      twice : (b : Bool) → b ≡ (b || b)
      twice true = refl
      twice false = refl

  pub added_two : (first second : ℕ) (old middle new : List (List ℕ)) → (second ≡ first → ⊥)
      → AreAdded (λ e. first == e) place old middle → AreAdded (λ e. second == e) place middle new
      → AreAdded (λ e. (first == e) || (second == e)) place old new
  added_two first second old middle new apart a b = record {
    rows = b.rows ∙ a.rows;
    each = λ e l. b.each e (subst (λ n. e < n) (sym a.rows) l) ∙ ap (λ list. list ++ more (second == e)) (a.each e l)
        ∙ append_assoc (get_or old e []) (more (first == e)) (more (second == e))
        ∙ ap (λ list. get_or old e [] ++ list) (by e (cases_eq first e));
  }
    where
      by : (e : ℕ) → (first ≡ e) ⊎ (first ≡ e → ⊥) → more (first == e) ++ more (second == e)
          ≡ more ((first == e) || (second == e))
      by e (inl same) =
          (λ j. more (eq-eqb first e same j) ++ more (ne_eqb second e (λ h. apart (h ∙ sym same)) j))
          ∙ sym (ap (λ b. more (b || (second == e))) (eq-eqb first e same))
      by e (inr other) = (λ j. more (ne_eqb first e other j) ++ more (second == e))
          ∙ sym (ap (λ b. more (b || (second == e))) (ne_eqb first e other))

  -- a list of events, of which those from a place on are still to come
  pub record AreComing (old lists : List (List ℕ)) (events rest : List ℕ) : Type 0 where
    pub rows : length lists ≡ length old
    pub each : (e : ℕ) → e < length old → get_or lists e [] ++ more (has rest e) ≡ get_or old e []
        ++ more (has events e)

  pub next_came : (old lists new : List (List ℕ)) (events rest : List ℕ) (event : ℕ) → has rest event ≡ false
      → AreComing old lists events (event ∷ rest) → AreAdded (λ e. event == e) place lists new
      → AreComing old new events rest
  next_came old lists new events rest event fresh c a = record {
    rows = a.rows ∙ c.rows;
    each = λ e l. ap (λ list. list ++ more (has rest e)) (a.each e (subst (λ n. e < n) (sym c.rows) l))
        ∙ append_assoc (get_or lists e []) (more (event == e)) (more (has rest e))
        ∙ ap (λ list. get_or lists e [] ++ list) (by e (cases_eq event e)) ∙ c.each e l;
  }
    where
      by : (e : ℕ) → (event ≡ e) ⊎ (event ≡ e → ⊥) → more (event == e) ++ more (has rest e)
          ≡ more ((event == e) || has rest e)
      by e (inl same) =
          (λ j. more (eq-eqb event e same j) ++ more ((ap (has rest) (sym same) ∙ fresh) j))
          ∙ sym (ap (λ b. more (b || has rest e)) (eq-eqb event e same))
      by e (inr other) = (λ j. more (ne_eqb event e other j) ++ more (has rest e))
          ∙ sym (ap (λ b. more (b || has rest e)) (ne_eqb event e other))

  pub all_came : (old new : List (List ℕ)) (events : List ℕ) → AreComing old new events []
      → AreAdded (has events) place old new
  all_came old new events c = record { rows = c.rows; each = λ e l. sym (append-nil (get_or new e [])) ∙ c.each e l }

-- the points of rules
role_there : (events : List EventInfo) (e : ℕ) (f : EventInfo → Option (List ℕ)) (role : List ℕ)
    → option_and_then f (slice_get events e) ≡ Some role → e < length events
role_there [] e f role h = absurd (none-some role h)
role_there (x ∷ events) zero f role h = omega arith
role_there (x ∷ events) (suc e) f role h = let r = role_there events e f role h in omega (arith, r)

event_point : (p : Parts) (r : Rule) (e : ℕ) → IsPointOf p r (Event (record { 0 = e })) → e < length p.events
event_point p AssignTime e i = i
event_point p (SplitEvents a b c d) e i = i
event_point p (DistributeSplitEvents d least greatest) e i = i
event_point p (PreferTimes times only) e i = i
event_point p _ e i = absurd i

place_point : (p : Parts) (r : Rule) (e k : ℕ) → IsPointOf p r (EventResource (record { 0 = e }) k)
    → e < length p.events
place_point p (AssignResource role) e k i = role_there p.events e
    (λ event. option_and_then (λ place. place.role) (slice_get event.places k)) role i
place_point p (PreferResources resources role) e k i =
    role_there p.events e (λ event. option_and_then (λ place. place.role) (slice_get event.places k)) role i
place_point p _ e k i = absurd i

group_point : (p : Parts) (r : Rule) (g : ℕ) → IsPointOf p r (EventGroup g) → g < length p.groups
group_point p (AvoidSplitAssignments role) g i = i
group_point p (SpreadEvents spreads) g i = i
group_point p LinkEvents g i = i
group_point p _ g i = absurd i

pair_point : (p : Parts) (r : Rule) (k : ℕ) → IsRule p r → IsPointOf p r (Pair k) → HasPair r k (length p.events)
pair_point p (OrderEvents pairs) k rule i = (
  i,
  λ n q at. let fits = all-there (λ (q : EventPair). (q.first.0 < length p.events)
      × (q.second.0 < length p.events) × AreBounds q.min q.max) pairs n q rule at in (fits.0, fits.1),
)
pair_point p _ k rule i = tt

pub no_pair : (r : Rule) (k e : ℕ) → ((pairs : List EventPair) → r ≡ OrderEvents pairs → ⊥) → pair_names r k e ≡ false
no_pair (OrderEvents pairs) k e other = absurd (other pairs refl)
no_pair _ k e other = refl

-- what a monitor with a point names
module _ (p : Parts) (made : AreWellMade p) (m : Monitor) (monitor : IsMonitor p m) where
  named_by : (point : Point) (e : ℕ) → m.point ≡ point → names p e m ≡ names_event p monitor.0.rule point e
  named_by point e is = ap (λ o. option_map_or (λ (c : Constraint). names_event p c.rule m.point e) o false) monitor.1
      ∙ ap (λ q. names_event p monitor.0.rule q e) is

  is_rule : IsRule p monitor.0.rule
  is_rule = (all-there (IsConstraint p) p.constraints m.constraint monitor.0 made.constraints monitor.1).rule

  is_point : (point : Point) → m.point ≡ point → IsPointOf p monitor.0.rule point
  is_point point is = subst (IsPointOf p monitor.0.rule) is monitor.3

  pub event_within : (e : EventId) → m.point ≡ Event e → e.0 < length p.events
  event_within e is = event_point p monitor.0.rule e.0 (is_point (Event e) is)

  pub place_within : (e : EventId) (k : ℕ) → m.point ≡ EventResource e k → e.0 < length p.events
  place_within e k is = place_point p monitor.0.rule e.0 k (is_point (EventResource e k) is)

  pub group_within : (g : ℕ) → m.point ≡ EventGroup g → g < length p.groups
  group_within g is = group_point p monitor.0.rule g (is_point (EventGroup g) is)

  pub event_named : (e : EventId) (j : ℕ) → m.point ≡ Event e → (e.0 == j) ≡ names p j m
  event_named e j is = sym (named_by (Event e) j is)

  pub place_named : (e : EventId) (k j : ℕ) → m.point ≡ EventResource e k → (e.0 == j) ≡ names p j m
  place_named e k j is = sym (named_by (EventResource e k) j is)

  pub resource_named : (r : ResourceId) (j : ℕ) → m.point ≡ Resource r → names p j m ≡ false
  resource_named r j is = named_by (Resource r) j is

  pub pair_named : (c : Constraint) (k j : ℕ) → slice_get p.constraints m.constraint ≡ Some c → m.point ≡ Pair k
      → pair_names c.rule k j ≡ names p j m
  pair_named c k j there is = sym (named_by (Pair k) j is
      ∙ ap (λ (c : Constraint). pair_names c.rule k j) (same_Some monitor.0 c (sym monitor.1 ∙ there)))

  pub pair_there : (c : Constraint) (k : ℕ) → slice_get p.constraints m.constraint ≡ Some c → m.point ≡ Pair k
      → HasPair c.rule k (length p.events)
  pair_there c k there is =
      subst (λ (c : Constraint). HasPair c.rule k (length p.events)) (same_Some monitor.0 c (sym monitor.1 ∙ there))
      (pair_point p monitor.0.rule k is_rule (is_point (Pair k) is))

  module _ (g : ℕ) (members : List ℕ) (is : m.point ≡ EventGroup g)
      (are : option_map (λ (x : GroupInfo). members_of x.events) (slice_get p.groups g) ≡ Some members) where
    group : IsThere p.groups g
    group = there p.groups g (group_within g is)

    size : length group.value.events ≡ length p.events
    size = all-there (λ (x : GroupInfo). length x.events ≡ length p.events) p.groups g group.value made.groups
        group.found

    made_of : members_of group.value.events ≡ members
    made_of = same_Some (members_of group.value.events) members
        (sym (ap (option_map (λ (x : GroupInfo). members_of x.events)) group.found) ∙ are)

    pub members_named : (j : ℕ) → j < length p.events → has members j ≡ names p j m
    members_named j l =
        ap (λ ms. has ms j) (sym made_of) ∙ has_range (has_member group.value.events) 0 (length group.value.events) j
        (omega arith) (let s = size in omega (arith, s, l))
        ∙ sym (named_by (EventGroup g) j is ∙ ap (λ o. option_map_or (λ (x : GroupInfo). has_member x.events j) o false)
        group.found)

    pub members_within : All (λ j. j < length p.events) members
    members_within = All-from_get_or (λ j. j < length p.events) members 0
        (λ i l. let f = found (has_member group.value.events) 0 (length group.value.events) i (get_or members i 0)
        (ap (λ ms. slice_get ms i) made_of ∙ slice_get-get_or members i 0 l) in let s = size in let b = f.1 in
        omega (arith, b, s))

    pub members_once : AreOnce members
    members_once i j h =
        let n : i + 1 ≡ suc i = omega arith in
        ap (λ k. has (drop k members) j) n
        ∙ subst (λ ms. has (drop (suc i) ms) j ≡ false) made_of
        (found (has_member group.value.events) 0 (length group.value.events) i j
        (ap (λ ms. slice_get ms i) made_of ∙ h)).3

-- the lists of the posts so far
pub record AreListedTo (p : Parts) (posts : List Post) (lists : List (List ℕ)) (n : ℕ) : Type 0 where
  pub rows : length lists ≡ length p.events
  pub each : (e : ℕ) → e < length p.events → get_or lists e [] ≡ filter (names_at p posts e) (range_with_len 0 n)

pub none_listed : (p : Parts) (posts : List Post) (lists : List (List ℕ)) (n : ℕ) → n ≡ length p.events
    → lists ≡ replicate n [] → AreListedTo p posts lists 0
none_listed p posts lists n many is = record {
  rows = ap length is ∙ length-replicate n [] ∙ many;
  each = λ e l. ap (λ ls. get_or ls e []) is ∙ get_or-replicate n e [] [] (let k : e < n = omega (arith, l, many) in k);
}

pub one_listed : (p : Parts) (posts : List Post) (lists new : List (List ℕ)) (n : ℕ) (a : Post)
    → slice_get posts n ≡ Some a → AreListedTo p posts lists n → AreAdded (λ e. names p e a.monitor) n lists new
    → AreListedTo p posts new (n + 1)
one_listed p posts lists new n a there so added = record {
  rows = added.rows ∙ so.rows;
  each = λ e l. added.each e (subst (λ k. e < k) (sym so.rows) l)
      ∙ ap (λ list. list ++ cond (names p e a.monitor) (n ∷ []) []) (so.each e l)
      ∙ ap (λ b. filter (names_at p posts e) (range_with_len 0 n) ++ cond b (n ∷ []) [])
      (sym (ap (λ o. option_map_or (λ (b : Post). names p e b.monitor) o false) there))
      ∙ sym (filter-append (names_at p posts e) (range_with_len 0 n) (n ∷ []))
      ∙ ap (filter (names_at p posts e)) (sym (range_more n));
}

pub all_listed : (p : Parts) (posts : List Post) (lists : List (List ℕ)) → AreListedTo p posts lists (length posts)
    → AreListed p posts lists
all_listed p posts lists so = record {
  rows = so.rows;
  each = λ e list h. sym (get_or_from_slice_get lists e list [] h)
      ∙ so.each e (let l = slice_get_within lists e list h in let r = so.rows in omega (arith, l, r));
}
