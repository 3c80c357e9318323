-- Avoid Split Assignments: how many tasks in the role each resource has among a monitor's events, and
-- how many resources have some.
use Rattle.std.proofs.Common.{ℕ, ◌≡◌, ◌≤◌, ◌<◌, ◌+◌, ◌-◌, ◌==◌, ◌∙◌, ◌&&◌, ◌||◌, zero, suc, Bool, true, false, cond}
use Rattle.std.proofs.Common.{Option, Some}
use Rattle.std.proofs.Common.{None, is_some, is_none, List, [], ◌∷◌, set, length, slice_get, refl, sym, ap, subst}
use Rattle.std.proofs.Common.{arith, sum_by, count_by, filter, zero-add, ltb}
use Rattle.std.specs.List.{list_any, range_with_len}
use Rattle.std.specs.Option.{option_map_or}
use Rattle.std.specs.Prelude.{replicate}
use Rattle.std.proofs.lemmas.Bool.{lt-ltb}
use Rattle.std.proofs.lemmas.List.Elements.{All-weaker}
use Rattle.std.proofs.lemmas.List.Sums.{sum_by-append, sum_by-cons, sum_by-le}
use Rattle.khe_base.specs.IdSet.{has_member}
use Rattle.khe_base.specs.declared.limits.TheConstants.{TASKS}
use Rattle.khe_base.specs.declared.numbers.ResourceId.{ResourceId}
use Rattle.khe_base.proofs.ListLemmas.{there}
use Rattle.khe_instance.specs.Deviation.{deviation_at}
use Rattle.khe_instance.specs.KindLaws.{is_kind}
use Rattle.khe_instance.specs.Kinds.{kind_of}
use Rattle.khe_instance.specs.Lookups.{is_role, role_at}
use Rattle.khe_instance.specs.Running.{is_resource}
use Rattle.khe_instance.specs.Watching.{names_event}
use Rattle.khe_instance.specs.WellMade.{HasType, IsMonitor, IsPointOf}
use Rattle.khe_instance.specs.declared.parts.EventInfo.{EventInfo}
use Rattle.khe_instance.specs.declared.parts.GroupInfo.{GroupInfo}
use Rattle.khe_instance.specs.declared.parts.Parts.{Parts}
use Rattle.khe_instance.specs.declared.parts.Place.{Place}
use Rattle.khe_instance.specs.declared.points.Monitor.{Monitor}
use Rattle.khe_instance.specs.declared.points.Point.{Point}
use Rattle.khe_instance.specs.declared.points.Point.TheVariants.{Event, EventResource, EventGroup, EventPair as Pair}
use Rattle.khe_instance.specs.declared.points.Point.TheVariants.{Resource}
use Rattle.khe_instance.specs.declared.rules.Constraint.{Constraint}
use Rattle.khe_instance.specs.declared.rules.Kind.TheVariants as kind
use Rattle.khe_instance.specs.declared.rules.Rule.{Rule}
use Rattle.khe_instance.specs.declared.rules.Rule.TheVariants.{AvoidSplitAssignments}
use Rattle.khe_instance.specs.declared.states.Duty.{Duty}
use Rattle.khe_instance.specs.declared.states.Meet.{Meet}
use Rattle.khe_told.specs.Agreement.{deviation_in}
use Rattle.khe_told.specs.Fits.{AreTold, IsSlot}
use Rattle.khe_told.specs.Lists.{duties_in, duties_of, duties_with, meets_in}
use Rattle.khe_told.specs.Slots.{emptied, slot_at}
use Rattle.khe_told.specs.Turns.{IsTurn, SlotTurn, turned}
use Rattle.khe_told.specs.declared.slots.Slot.{Slot}
use Rattle.khe_told.specs.declared.slots.Span.{Span}
use Rattle.event_monitors.specs.Posts.{names}
use Rattle.event_monitors.specs.ShareLaws.{rule_of_kind}
use Rattle.set_monitors.specs.NamedSums.{named_part, named_sum, sum_elsewhere, turn_kept}

-- whether a rule is on the places of a role
abbrev pub wants : Rule → Option (List ℕ) → Bool
wants (AvoidSplitAssignments role) own = is_role role own
wants _ own = false

-- whether a place of an event has the role of a monitor's constraint
abbrev pub in_role : Parts → Monitor → ℕ → ℕ → Bool
in_role p m e k = option_map_or (λ c. wants c.rule (role_at p.events e k)) (slice_get p.constraints m.constraint) false

-- how many places, from this one on, have the role and are given the resource
abbrev pub given_from : (ℕ → Bool) → ℕ → ℕ → List (Option ResourceId) → ℕ
given_from has r place [] = 0
given_from has r place (o ∷ given) = cond (has place && is_resource r o) 1 0 + given_from has r (place + 1) given

abbrev pub given_in : Parts → Monitor → ℕ → Slot → ℕ
given_in p m r x = given_from (in_role p m x.event.0) r 0 x.given

-- how many tasks in the role a resource has among a monitor's events, and in slots without a meet,
-- where there are none
abbrev pub held : Parts → Monitor → List Slot → ℕ → ℕ
held p m s r = named_sum p m (given_in p m r) s

abbrev pub loose : Parts → Monitor → List Slot → ℕ → ℕ
loose p m s r = named_sum p m (λ x. cond (is_none x.span) (given_in p m r x) 0) s

-- how many resources have some, by how many each has
abbrev pub holders : Parts → (ℕ → ℕ) → ℕ
holders p f = count_by (λ r. ltb 0 (f r)) (range_with_len 0 (length p.resources))

-- a resource has the type of a place in the role, of one of a monitor's events
pub record CanHold (p : Parts) (m : Monitor) (r : ℕ) : Type 0 where
  pub e : ℕ
  pub event : EventInfo
  pub k : ℕ
  pub place : Place
  pub named : names p e m ≡ true
  pub there : slice_get p.events e ≡ Some event
  pub placed : slice_get event.places k ≡ Some place
  pub role : in_role p m e k ≡ true
  pub typed : HasType p place.rtype (record { 0 = r })

-- how many tasks each of some resources has
abbrev pub AreHeld : (ℕ → ℕ) → List ℕ → List ℕ → Type 0
AreHeld f numbers counts = (k r : ℕ) → slice_get numbers k ≡ Some r → slice_get counts k ≡ Some (f r)

abbrev pub AreWithin : List ℕ → Type 0
AreWithin counts = (k n : ℕ) → slice_get counts k ≡ Some n → n ≤ TASKS

abbrev pub IsListed : List ℕ → ℕ → Type 0
IsListed numbers r = (k : ℕ) × (slice_get numbers k ≡ Some r)

abbrev pub AreAscending : List ℕ → Type 0
AreAscending numbers = (j k a b : ℕ) → j < k → slice_get numbers j ≡ Some a → slice_get numbers k ≡ Some b → a < b

-- resources by their numbers, among them all that may have a task in the role
pub record AreCandidates (p : Parts) (m : Monitor) (numbers : List ℕ) : Type 0 where
  pub ascending : AreAscending numbers
  pub known : (r : ℕ) → CanHold p m r → IsListed numbers r
  pub within : (k r : ℕ) → slice_get numbers k ≡ Some r → r < length p.resources

-- how many tasks each has with one more or one less of a resource, where one is given
abbrev pub with_one : (ℕ → ℕ) → Option ResourceId → ℕ → ℕ
with_one f o q = f q + cond (is_resource q o) 1 0

abbrev pub without_one : (ℕ → ℕ) → Option ResourceId → ℕ → ℕ
without_one f o q = f q - cond (is_resource q o) 1 0

-- whether the one more is a resource's first, and the one less its last
abbrev pub is_first : (ℕ → ℕ) → Option ResourceId → ℕ
is_first f None = 0
is_first f (Some r) = cond (f r.0 == 0) 1 0

abbrev pub is_last : (ℕ → ℕ) → Option ResourceId → ℕ
is_last f None = 0
is_last f (Some r) = cond (f r.0 == 1) 1 0

-- what is kept for a monitor
pub record IsShared (p : Parts) (m : Monitor) (s : List Slot) (numbers row : List ℕ) (n : ℕ) : Type 0 where
  pub monitor : IsMonitor p m
  pub serves : is_kind m.kind kind.AvoidSplitAssignments ≡ true
  pub candidates : AreCandidates p m numbers
  pub amount : length row ≡ length numbers
  pub counts : AreHeld (held p m s) numbers row
  pub free : (r : ℕ) → loose p m s r ≡ 0
  pub above : n ≡ holders p (held p m s)

-- some pass where their count is not 0
any : (p q : Duty → Bool) (ds : List Duty) → list_any p (filter q ds) ≡ ltb 0 (sum_by (λ d. cond (q d && p d) 1 0) ds)
any p q [] = refl
any p q (d ∷ ds) =
    first (q d) (filter q ds) ∙ by (q d) (p d) (list_any p (filter q ds)) (sum_by (λ d. cond (q d && p d) 1 0) ds)
    (any p q ds)
    ∙ ap (ltb 0) (sym (sum_by-cons (λ d. cond (q d && p d) 1 0) d ds))
  where
    first : (a : Bool) (xs : List Duty) → list_any p (cond a (d ∷ xs) xs)
        ≡ cond a (p d || list_any p xs) (list_any p xs)
    first true xs = refl
    first false xs = refl

    by : (a b c : Bool) (n : ℕ) → c ≡ ltb 0 n → cond a (b || c) c ≡ ltb 0 (cond (a && b) 1 0 + n)
    by true true c n h = sym (lt-ltb 0 (1 + n) (omega arith))
    by true false c n h = h ∙ ap (ltb 0) (sym (zero-add n))
    by false b c n h = h ∙ ap (ltb 0) (sym (zero-add n))

sum_of_parts : (f g h : Slot → ℕ) (s : List Slot) → ((x : Slot) → f x ≡ g x + h x)
    → sum_by f s ≡ sum_by g s + sum_by h s
sum_of_parts f g h [] each = refl
sum_of_parts f g h (x ∷ s) each =
    let a = sum_by-cons f x s in
    let b = sum_by-cons g x s in
    let c = sum_by-cons h x s in
    let d = each x in
    let e = sum_of_parts f g h s each in
    omega (arith, a, b, c, d, e)

-- the tasks of some events in a role that a resource has, by slots
module _ (own : ℕ → Bool) (has : ℕ → ℕ → Bool) (r : ℕ) where
  abbrev is_there : Duty → Bool
  is_there d = own d.meet.event.0 && has d.meet.event.0 d.place

  abbrev mine : Duty → ℕ
  mine d = cond (is_there d && is_resource r d.resource) 1 0

  abbrev live : Slot → ℕ
  live x = cond (own x.event.0) (cond (is_some x.span) (given_from (has x.event.0) r 0 x.given) 0) 0

  none : (b : Bool) → 0 ≡ cond {A = ℕ} b 0 0
  none true = refl
  none false = refl

  of_given : (m : Meet) (start : ℕ) (given : List (Option ResourceId))
      → sum_by mine (duties_with m start given) ≡ cond (own m.event.0) (given_from (has m.event.0) r start given) 0
  of_given m start [] = none (own m.event.0)
  of_given m start (o ∷ given) =
      sum_by-cons mine (record { meet = m; place = start; resource = o }) (duties_with m (start + 1) given)
      ∙ ap (λ n. mine (record { meet = m; place = start; resource = o }) + n) (of_given m (start + 1) given)
      ∙ by (own m.event.0) (has m.event.0 start) (is_resource r o) (given_from (has m.event.0) r (start + 1) given)
    where
      by : (a b c : Bool) (n : ℕ) → cond ((a && b) && c) 1 0 + cond a n 0 ≡ cond a (cond (b && c) 1 0 + n) 0
      by true b c n = refl
      by false b c n = refl

  of_slots : (s : List Slot) → sum_by mine (duties_in s) ≡ sum_by live s
  of_slots [] = refl
  of_slots (x ∷ s) =
      sum_by-append mine (duties_of x) (duties_in s) ∙ ap (λ n. n + sum_by mine (duties_in s)) (one x.span)
      ∙ ap (λ n. live x + n) (of_slots s)
      ∙ sym (sum_by-cons live x s)
    where
      one : (o : Option Span) → sum_by mine (duties_of (record x { span = o })) ≡ live (record x { span = o })
      one None = none (own x.event.0)
      one (Some y) = of_given (record { meet = x.meet; event = x.event; duration = y.duration; start = y.start }) 0
          x.given

  parts : (b : Bool) (o : Option Span) (n : ℕ) → cond b n 0
      ≡ cond b (cond (is_some o) n 0) 0 + cond b (cond (is_none o) n 0) 0
  parts false o n = refl
  parts true None n = sym (zero-add n)
  parts true (Some y) n = omega arith

  some_have : (s : List Slot) → sum_by (λ (x : Slot). cond (own x.event.0)
      (cond (is_none x.span) (given_from (has x.event.0) r 0 x.given) 0) 0) s ≡ 0
      → list_any (λ (d : Duty). is_resource r d.resource) (filter is_there (duties_in s))
      ≡ ltb 0 (sum_by (λ (x : Slot). cond (own x.event.0) (given_from (has x.event.0) r 0 x.given) 0) s)
  some_have s free =
      any (λ (d : Duty). is_resource r d.resource) is_there (duties_in s)
      ∙ ap (ltb 0) (of_slots s ∙ all)
    where
      all : sum_by live s ≡ sum_by (λ (x : Slot). cond (own x.event.0) (given_from (has x.event.0) r 0 x.given) 0) s
      all =
          let a = sum_of_parts (λ (x : Slot). cond (own x.event.0) (given_from (has x.event.0) r 0 x.given) 0) live
          (λ (x : Slot). cond (own x.event.0) (cond (is_none x.span) (given_from (has x.event.0) r 0 x.given) 0) 0) s
          (λ x. parts (own x.event.0) x.span (given_from (has x.event.0) r 0 x.given)) in
          omega (arith, a, free)

-- the deviation by a rule and a point
abbrev has_at : Parts → Rule → Point → List Slot → ℕ → Bool
has_at p r point s q = list_any (λ (d : Duty). is_resource q d.resource)
    (filter (λ (d : Duty). names_event p r point d.meet.event.0 && wants r (role_at p.events d.meet.event.0 d.place))
    (duties_in s))

abbrev SameAt : Parts → List Slot → List ℕ → Option GroupInfo → Type 0
SameAt p s role o =
    option_map_or (λ (group : GroupInfo). count_by
    (λ q. list_any (λ (d : Duty). is_resource q d.resource)
    (filter (λ (d : Duty). has_member group.events d.meet.event.0 && is_role role
    (role_at p.events d.meet.event.0 d.place)) (duties_in s))) (range_with_len 0 (length p.resources)) - 1) o 0
    ≡ count_by (λ q. list_any (λ (d : Duty). is_resource q d.resource)
    (filter (λ (d : Duty). option_map_or (λ (group : GroupInfo). has_member group.events d.meet.event.0) o
    false && is_role role (role_at p.events d.meet.event.0 d.place)) (duties_in s)))
    (range_with_len 0 (length p.resources)) - 1

shared_at : (p : Parts) (s : List Slot) (r : Rule) (point : Point)
    → is_kind (kind_of r) kind.AvoidSplitAssignments ≡ true → IsPointOf p r point
    → deviation_at p (meets_in s) (duties_in s) r point
    ≡ count_by (has_at p r point s) (range_with_len 0 (length p.resources)) - 1
shared_at p s r point k i =
    let of = rule_of_kind kind.AvoidSplitAssignments r k in
    subst (λ q. IsPointOf p q point → deviation_at p (meets_in s) (duties_in s) q point
    ≡ count_by (has_at p q point s) (range_with_len 0 (length p.resources)) - 1) (sym of.1) (at of.0 point) i
  where
    at : (role : List ℕ) (point : Point) → IsPointOf p (AvoidSplitAssignments role) point
        → deviation_at p (meets_in s) (duties_in s) (AvoidSplitAssignments role) point
        ≡ count_by (has_at p (AvoidSplitAssignments role) point s) (range_with_len 0 (length p.resources)) - 1
    at role (Event e) i = absurd i
    at role (EventResource e k) i = absurd i
    at role (EventGroup g) i = let t = there p.groups g i in by (slice_get p.groups g) t.value t.found
      where
        by : (o : Option GroupInfo) (group : GroupInfo) → o ≡ Some group → SameAt p s role o
        by o group is = subst (SameAt p s role) (sym is) refl
    at role (Pair g) i = absurd i
    at role (Resource g) i = absurd i

-- what is read is the definition's deviation
pub shared_exact : (p : Parts) (m : Monitor) (s : List Slot) (numbers counts : List ℕ) (above : ℕ)
    → IsShared p m s numbers counts above → deviation_in p s m ≡ above - 1
shared_exact p m s numbers counts above k =
    ap (λ o. option_map_or (λ (c : Constraint). deviation_at p (meets_in s) (duties_in s) c.rule m.point) o 0)
    k.monitor.1
    ∙ shared_at p s k.monitor.0.rule m.point (ap (λ a. is_kind a kind.AvoidSplitAssignments) (sym k.monitor.2)
    ∙ k.serves) k.monitor.3
    ∙ (λ j. count_by (λ q. has q j) (range_with_len 0 (length p.resources)) - 1)
    ∙ sym (ap (λ (n : ℕ). n - 1) k.above)
  where
    named : (e : ℕ) → names_event p k.monitor.0.rule m.point e ≡ names p e m
    named e = sym (ap (λ o. option_map_or (λ (c : Constraint). names_event p c.rule m.point e) o false) k.monitor.1)

    roles : (e place : ℕ) → wants k.monitor.0.rule (role_at p.events e place) ≡ in_role p m e place
    roles e place = sym (ap (λ o. option_map_or (λ (c : Constraint). wants c.rule (role_at p.events e place)) o false)
        k.monitor.1)

    has : (q : ℕ) → has_at p k.monitor.0.rule m.point s q ≡ ltb 0 (held p m s q)
    has q =
        (λ j. list_any (λ (d : Duty). is_resource q d.resource)
        (filter (λ (d : Duty). named d.meet.event.0 j && roles d.meet.event.0 d.place j) (duties_in s)))
        ∙ some_have (λ e. names p e m) (in_role p m) q s (k.free q)

-- where each resource has as many tasks, and slots without a meet too, all that is kept stays
pub shared_same : (p : Parts) (m : Monitor) (s later : List Slot) (numbers counts : List ℕ) (above : ℕ)
    → ((r : ℕ) → held p m later r ≡ held p m s r) → ((r : ℕ) → loose p m later r ≡ loose p m s r)
    → IsShared p m s numbers counts above → IsShared p m later numbers counts above
shared_same p m s later numbers counts above is free kept = record {
  monitor = kept.monitor;
  serves = kept.serves;
  candidates = kept.candidates;
  amount = kept.amount;
  counts = λ i r h. kept.counts i r h ∙ ap Some (sym (is r));
  free = λ r. free r ∙ kept.free r;
  above = kept.above ∙ sym (λ j. holders p (λ r. is r j));
}

-- so it does after a turn of a slot of another event
pub shared_elsewhere : (p : Parts) (m : Monitor) (s : List Slot) (k : ℕ) (x : Slot) (numbers counts : List ℕ)
    (above : ℕ) → k < length s → emptied x ≡ emptied (slot_at s k)
    → names p (slot_at s k).event.0 m ≡ false → IsShared p m s numbers counts above
    → IsShared p m (set s k x) numbers counts above
shared_elsewhere p m s k x numbers counts above l same named kept =
    shared_same p m s (set s k x) numbers counts above
    (λ r. sum_elsewhere p m (given_in p m r) s k x l same named)
    (λ r. sum_elsewhere p m (λ (y : Slot). cond (is_none y.span) (given_in p m r y) 0) s k x l same named) kept

-- slots without a meet have none where the state is told
module _ (has : ℕ → Bool) (r : ℕ) where
  part_none : (place : ℕ) → cond {A = ℕ} (has place && is_resource r None) 1 0 ≡ 0
  part_none place = by (has place)
    where
      by : (b : Bool) → cond {A = ℕ} (b && false) 1 0 ≡ 0
      by true = refl
      by false = refl

  pub given_none : (start n : ℕ) → given_from has r start (replicate n None) ≡ 0
  given_none start zero = refl
  given_none start (suc n) = let a = part_none start in let b = given_none (start + 1) n in omega (arith, a, b)

pub loose_none : (p : Parts) (m : Monitor) (s : List Slot) (q : ℕ) → AreTold p s → loose p m s q ≡ 0
loose_none p m s q told =
    let a = sum_by-le (named_part p m of_free) 0 s
    (All-weaker (IsSlot p) (λ (x : Slot). named_part p m of_free x ≤ 0)
    (λ x is. named (names p x.event.0 m) (of_free x) (free x x.span is.empty)) s told.slots) in
    omega (arith, a)
  where
    of_free : Slot → ℕ
    of_free x = cond (is_none x.span) (given_in p m q x) 0

    free : (x : Slot) (o : Option Span) → (o ≡ None → x.given ≡ replicate (length x.given) None)
        → cond (is_none o) (given_in p m q x) 0 ≡ 0
    free x None h = ap (given_from (in_role p m x.event.0) q 0) (h refl)
        ∙ given_none (in_role p m x.event.0) q 0 (length x.given)
    free x (Some y) h = refl

    named : (b : Bool) (n : ℕ) → n ≡ 0 → cond b n 0 ≤ 0
    named true n h = omega (arith, h)
    named false n h = omega (arith, h)

-- each resource has as many tasks after a turn
abbrev pub IsHeldOn : Parts → Monitor → SlotTurn → Type 0
IsHeldOn p m t = (s : List Slot) → IsTurn p s t → (q : ℕ) → held p m (turned s t) q ≡ held p m s q

-- so all that is kept stays after such a turn
pub shared_on : (p : Parts) (m : Monitor) (s : List Slot) (t : SlotTurn) (numbers counts : List ℕ) (above : ℕ)
    → ((q : ℕ) → held p m (turned s t) q ≡ held p m s q) → IsTurn p s t → IsShared p m s numbers counts above
    → IsShared p m (turned s t) numbers counts above
shared_on p m s t numbers counts above same turns kept = shared_same p m s (turned s t) numbers counts above same
    (λ r. loose_none p m (turned s t) r turns.later ∙ sym (kept.free r)) kept

-- and after one that gives nothing else
pub shared_unheard : (p : Parts) (m : Monitor) (s : List Slot) (t : SlotTurn) (numbers counts : List ℕ) (above : ℕ)
    → t.before.given ≡ t.after.given → IsTurn p s t → IsShared p m s numbers counts above
    → IsShared p m (turned s t) numbers counts above
shared_unheard p m s t numbers counts above h turns kept =
    shared_same p m s (turned s t) numbers counts above
    (λ r. turn_kept p m (given_in p m r) s t turns
    (λ j. given_from (in_role p m (ap (λ (y : Slot). y.event.0) turns.same j)) r 0 (sym h j)))
    (λ r. loose_none p m (turned s t) r turns.later ∙ sym (kept.free r)) kept
