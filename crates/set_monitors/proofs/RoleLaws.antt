-- The places in the role of a monitor's events, as they are found and as they are sought.
use Rattle.std.proofs.Common.{ℕ, ◌≡◌, ◌≤◌, ◌<◌, ◌+◌, ◌∙◌, ◌⊎◌, ◌++◌, inl, inr, zero, suc, Bool, true, false, not, cond}
use Rattle.std.proofs.Common.{Option, Some, None, List, [], ◌∷◌, length, get_or, slice_get, refl, sym, ap, subst, arith}
use Rattle.std.proofs.Common.{filter}
use Rattle.std.specs.List.{cons_option, filter_map, range_with_len}
use Rattle.std.specs.Option.{option_and_then, option_map, option_map_or}
use Rattle.std.specs.Str.{bytes_eq}
use Rattle.std.proofs.lemmas.Bool.{and_parts, cases_eq, not_from_true, or_left, or_right, true≢false}
use Rattle.std.proofs.lemmas.Option.{none-some, same_Some, slice_get_cases, slice_get_within}
use Rattle.std.proofs.lemmas.Slice.Eq.{bytes_eq-Decides}
use Rattle.khe_base.specs.IdSet.{has_member, members_of}
use Rattle.khe_base.specs.Names.{are_distinct, is_among_names}
use Rattle.khe_base.proofs.ListLemmas.{IsThere, all-there, get-last, there}
use Rattle.khe_instance.specs.KindLaws.{is_kind}
use Rattle.khe_instance.specs.Lookups.{is_role, role_at}
use Rattle.khe_instance.specs.WellMade.{AreWellMade, IsEvent, IsMonitor}
use Rattle.khe_instance.specs.declared.parts.EventInfo.{EventInfo}
use Rattle.khe_instance.specs.declared.parts.GroupInfo.{GroupInfo}
use Rattle.khe_instance.specs.declared.parts.Parts.{Parts}
use Rattle.khe_instance.specs.declared.parts.Place.{Place}
use Rattle.khe_instance.specs.declared.points.Monitor.{Monitor}
use Rattle.khe_instance.specs.declared.rules.Constraint.{Constraint}
use Rattle.khe_instance.specs.declared.rules.Kind.TheVariants as kind
use Rattle.event_monitors.specs.Posts.{names}
use Rattle.event_monitors.specs.ShareLaws.{rule_of_kind}
use Rattle.event_monitors.specs.Turns.{has}
use Rattle.event_monitors.proofs.TurnLaws.{found}
use Rattle.set_monitors.specs.AvoidSplitAssignments.{AreAscending, in_role, wants}
use Rattle.set_monitors.specs.RolePlaces.{AreByEvents, AreRolePlaces, HasComeAt, IsAt, IsOnly, IsPlaceAt}
use Rattle.set_monitors.specs.declared.role_places.RolePlace.{RolePlace}
use Rattle.set_monitors.proofs.CandidateLaws.{listed_of}

-- the numbers of a range that pass a test are ascending
pub range_ascending : (f : ℕ → Bool) (from n : ℕ) → AreAscending (filter f (range_with_len from n))
range_ascending f from zero i j a b l x y = absurd (none-some a x)
range_ascending f from (suc n) i j a b l x y = by (λ u v m. range_ascending f (from + 1) n u v a b m) (f from) i j l x y
  where
    rest : List ℕ
    rest = filter f (range_with_len (from + 1) n)

    by : ((u v : ℕ) → u < v → slice_get rest u ≡ Some a → slice_get rest v ≡ Some b → a < b) → (c : Bool) (i j : ℕ)
        → i < j → slice_get (cond c (from ∷ rest) rest) i ≡ Some a
        → slice_get (cond c (from ∷ rest) rest) j ≡ Some b → a < b
    by r true i zero l x y = absurd (omega (arith, l))
    by r true zero (suc j) l x y =
        let e : from ≡ a = same_Some from a x in
        let g = found f (from + 1) n j b y in
        let h = g.2 in
        omega (arith, e, h)
    by r true (suc i) (suc j) l x y = r i j (omega (arith, l)) x y
    by r false i j l x y = r i j l x y

-- so are the members of a group
pub members_ascending : (p : Parts) (g : ℕ) (members : List ℕ)
    → option_map (λ (x : GroupInfo). members_of x.events) (slice_get p.groups g) ≡ Some members → AreAscending members
members_ascending p g members are = by (slice_get p.groups g) are
  where
    by : (o : Option GroupInfo) → option_map (λ (x : GroupInfo). members_of x.events) o ≡ Some members
        → AreAscending members
    by None h = absurd (none-some members h)
    by (Some x) h = subst AreAscending (same_Some (members_of x.events) members h)
        (range_ascending (has_member x.events) 0 (length x.events))

-- the role of a place is among the roles of the places
role_among : (role : List ℕ) (places : List Place) (k : ℕ) (place : Place) → slice_get places k ≡ Some place
    → is_role role place.role ≡ true → is_among_names role (filter_map (λ (x : Place). x.role) places) ≡ true
role_among role [] k place at is = absurd (none-some place at)
role_among role (y ∷ ys) zero place at is = by y.role
    (ap (λ (x : Place). is_role role x.role) (same_Some y place at) ∙ is)
  where
    by : (o : Option (List ℕ)) → is_role role o ≡ true
        → is_among_names role (cons_option o (filter_map (λ (x : Place). x.role) ys)) ≡ true
    by None h = absurd (true≢false (sym h))
    by (Some other) h = or_left (bytes_eq role other) (is_among_names role (filter_map (λ (x : Place). x.role) ys)) h
role_among role (y ∷ ys) (suc k) place at is = by y.role (role_among role ys k place at is)
  where
    by : (o : Option (List ℕ)) → is_among_names role (filter_map (λ (x : Place). x.role) ys) ≡ true
        → is_among_names role (cons_option o (filter_map (λ (x : Place). x.role) ys)) ≡ true
    by None h = h
    by (Some other) h = or_right (bytes_eq role other) (is_among_names role (filter_map (λ (x : Place). x.role) ys)) h

-- one that stands among later ones is not the first, where all are distinct
not_first : (role : List ℕ) (o : Option (List ℕ)) (roles : List (List ℕ)) → are_distinct (cons_option o roles) ≡ true
    → is_among_names role roles ≡ true → (is_role role o ≡ false) × (are_distinct roles ≡ true)
not_first role None roles distinct later = (refl, distinct)
not_first role (Some other) roles distinct later = (by (bytes_eq role other) refl, parts.1)
  where
    parts : (not (is_among_names other roles) ≡ true) × (are_distinct roles ≡ true)
    parts = and_parts (not (is_among_names other roles)) (are_distinct roles) distinct

    by : (b : Bool) → bytes_eq role other ≡ b → bytes_eq role other ≡ false
    by false e = e
    by true e =
        let same : role ≡ other = (bytes_eq-Decides role other).0 e in
        let there : is_among_names other roles ≡ true = subst (λ r. is_among_names r roles ≡ true) same later in
        absurd (true≢false (sym parts.0 ∙ not_from_true (is_among_names other roles) there))

tail_distinct : (o : Option (List ℕ)) (roles : List (List ℕ)) → are_distinct (cons_option o roles) ≡ true
    → are_distinct roles ≡ true
tail_distinct None roles h = h
tail_distinct (Some other) roles h = (and_parts (not (is_among_names other roles)) (are_distinct roles) h).1

-- so one place at most has a role
one_place : (role : List ℕ) (places : List Place) (j k : ℕ) (a b : Place)
    → are_distinct (filter_map (λ (x : Place). x.role) places) ≡ true → slice_get places j ≡ Some a
    → slice_get places k ≡ Some b → is_role role a.role ≡ true → is_role role b.role ≡ true → j ≡ k
one_place role [] j k a b distinct x y u v = absurd (none-some a x)
one_place role (c ∷ places) zero zero a b distinct x y u v = refl
one_place role (c ∷ places) zero (suc k) a b distinct x y u v =
    let first = not_first role c.role (filter_map (λ (x : Place). x.role) places) distinct
    (role_among role places k b y v) in
    absurd (true≢false (sym (ap (λ (z : Place). is_role role z.role) (same_Some c a x) ∙ u) ∙ first.0))
one_place role (c ∷ places) (suc j) zero a b distinct x y u v =
    let first = not_first role c.role (filter_map (λ (x : Place). x.role) places) distinct
    (role_among role places j a x u) in
    absurd (true≢false (sym (ap (λ (z : Place). is_role role z.role) (same_Some c b y) ∙ v) ∙ first.0))
one_place role (c ∷ places) (suc j) (suc k) a b distinct x y u v =
    ap suc (one_place role places j k a b (tail_distinct c.role (filter_map (λ (x : Place). x.role) places) distinct)
    x y u v)

-- while the places of an event are gone through, none so far has the role
pub record AreOthers (p : Parts) (m : Monitor) (e k : ℕ) : Type 0 where
  pub each : (j : ℕ) → j < k → in_role p m e j ≡ false

pub others_none : (p : Parts) (m : Monitor) (e : ℕ) → AreOthers p m e 0
others_none p m e = record { each = λ j l. absurd (omega (arith, l)) }

pub others_more : (p : Parts) (m : Monitor) (e k : ℕ) → in_role p m e k ≡ false → AreOthers p m e k
    → AreOthers p m e (k + 1)
others_more p m e k other so = record { each = λ j l. by j (cases_eq j k) l }
  where
    by : (j : ℕ) → (j ≡ k) ⊎ (j ≡ k → ⊥) → j < k + 1 → in_role p m e j ≡ false
    by j (inl z) l = ap (in_role p m e) z ∙ other
    by j (inr z) l = so.each j (omega (arith, l, z))

-- whether a place of an event has the role, by the places
module _ (p : Parts) (m : Monitor) (monitor : IsMonitor p m)
    (serves : is_kind m.kind kind.AvoidSplitAssignments ≡ true) (e : ℕ) (event : EventInfo)
    (at : slice_get p.events e ≡ Some event) where
  abbrev role : List ℕ
  role = (rule_of_kind kind.AvoidSplitAssignments monitor.0.rule
      (ap (λ a. is_kind a kind.AvoidSplitAssignments) (sym monitor.2) ∙ serves)).0

  by_role : (o : Option (List ℕ)) → wants monitor.0.rule o ≡ is_role role o
  by_role o = ap (λ r. wants r o) (rule_of_kind kind.AvoidSplitAssignments monitor.0.rule
      (ap (λ a. is_kind a kind.AvoidSplitAssignments) (sym monitor.2) ∙ serves)).1

  abbrev own_role : ℕ → Option (List ℕ)
  own_role k = option_and_then (λ (q : Place). q.role) (slice_get event.places k)

  in_role_is : (k : ℕ) → in_role p m e k ≡ wants monitor.0.rule (own_role k)
  in_role_is k =
      ap (λ o. option_map_or (λ (c : Constraint). wants c.rule (role_at p.events e k)) o false) monitor.1
      ∙ ap (λ o. wants monitor.0.rule (option_and_then (λ (event : EventInfo). option_and_then (λ (q : Place). q.role)
      (slice_get event.places k)) o)) at

  pub in_role_there : (k : ℕ) (q : Place) → slice_get event.places k ≡ Some q
      → in_role p m e k ≡ wants monitor.0.rule q.role
  in_role_there k q here = in_role_is k ∙ ap (λ o. wants monitor.0.rule (option_and_then (λ (x : Place). x.role) o))
      here

  pub in_role_beyond : (k : ℕ) → slice_get event.places k ≡ None → in_role p m e k ≡ false
  in_role_beyond k none = in_role_is k
      ∙ ap (λ o. wants monitor.0.rule (option_and_then (λ (x : Place). x.role) o)) none ∙ by_role None

  -- where none of the places has the role, none at all has
  pub no_place : (k : ℕ) → AreOthers p m e k → length event.places ≤ k → (j : ℕ) → in_role p m e j ≡ false
  no_place k so past j = by (slice_get_cases event.places j).1
    where
      by : ((x : Place) × (j < length event.places) × (slice_get event.places j ≡ Some x)
          × (get_or event.places j x ≡ x)) ⊎ ((length event.places ≤ j) × (slice_get event.places j ≡ None))
          → in_role p m e j ≡ false
      by (inl h) = let l = h.1 in so.each j (omega (arith, l, past))
      by (inr h) = in_role_beyond j h.1

  pub only_place : AreWellMade p → (k : ℕ) (q : Place) → slice_get event.places k ≡ Some q
      → wants monitor.0.rule q.role ≡ true → IsOnly p m e k
  only_place made k q there wanted = (in_role_there k q there ∙ wanted, λ j is. by j (slice_get event.places j) refl is)
    where
      by : (j : ℕ) (o : Option Place) → slice_get event.places j ≡ o → in_role p m e j ≡ true → j ≡ k
      by j None none is = absurd (true≢false (sym is ∙ in_role_beyond j none))
      by j (Some x) found is = one_place role event.places j k x q
          (all-there (IsEvent p) p.events e event made.events at).roles found there
          (sym (by_role x.role) ∙ sym (in_role_there j x found) ∙ is)
          (sym (by_role q.role) ∙ wanted)

-- a place in the role is the only one
pub only_in_role : (p : Parts) (m : Monitor) → AreWellMade p → IsMonitor p m
    → is_kind m.kind kind.AvoidSplitAssignments ≡ true → (e k : ℕ) → e < length p.events → in_role p m e k ≡ true
    → IsOnly p m e k
only_in_role p m made monitor serves e k l is = by (slice_get event.value.places k) refl
  where
    event : IsThere p.events e
    event = there p.events e l

    by : (o : Option Place) → slice_get event.value.places k ≡ o → IsOnly p m e k
    by None none = absurd (true≢false (sym is ∙ in_role_beyond p m monitor serves e event.value event.found k none))
    by (Some q) at = only_place p m monitor serves e event.value event.found made k q at
        (sym (in_role_there p m monitor serves e event.value event.found k q at) ∙ is)

-- while the events are gone through
pub record AreComing (p : Parts) (m : Monitor) (events : List ℕ) (list : List RolePlace) (i : ℕ) : Type 0 where
  pub ordered : AreByEvents list
  pub only : (n : ℕ) (a : RolePlace) → slice_get list n ≡ Some a → IsOnly p m a.event.0 a.place
  pub come : (n : ℕ) (a : RolePlace) → slice_get list n ≡ Some a
      → (j : ℕ) × (j < i) × (slice_get events j ≡ Some a.event.0)
  pub known : (j e k : ℕ) → j < i → slice_get events j ≡ Some e → in_role p m e k ≡ true
      → (n : ℕ) × IsAt list e n

-- a number up to another is below it or is it
up_to : (j i : ℕ) → j < i + 1 → (j < i) ⊎ (j ≡ i)
up_to j i l = by (cases_eq j i)
  where
    by : (j ≡ i) ⊎ (j ≡ i → ⊥) → (j < i) ⊎ (j ≡ i)
    by (inl e) = inr e
    by (inr e) = inl (omega (arith, l, e))

pub coming_none : (p : Parts) (m : Monitor) (events : List ℕ) → AreComing p m events [] 0
coming_none p m events = record {
  ordered = λ i j a b l x y. absurd (none-some a x);
  only = λ n a x. absurd (none-some a x);
  come = λ n a x. absurd (none-some a x);
  known = λ j e k l x y. absurd (omega (arith, l));
}

-- what stands in a list with one more at its end
last_or : {A : Type 0} (xs : List A) (x : A) (n : ℕ) (a : A) → slice_get (xs ++ x ∷ []) n ≡ Some a
    → ((n < length xs) × (slice_get xs n ≡ Some a)) ⊎ ((n ≡ length xs) × (x ≡ a))
last_or [] x zero a h = inr (refl, same_Some x a h)
last_or [] x (suc n) a h = absurd (none-some a h)
last_or (y ∷ ys) x zero a h = inl (omega arith, h)
last_or (y ∷ ys) x (suc n) a h = by (last_or ys x n a h)
  where
    by : ((n < length ys) × (slice_get ys n ≡ Some a)) ⊎ ((n ≡ length ys) × (x ≡ a))
        → ((suc n < length (y ∷ ys)) × (slice_get ys n ≡ Some a)) ⊎ ((suc n ≡ length (y ∷ ys)) × (x ≡ a))
    by (inl g) = inl (omega (arith, g.0), g.1)
    by (inr g) = inr (omega (arith, g.0), g.1)

stays : {A : Type 0} (xs : List A) (x : A) (n : ℕ) (a : A) → slice_get xs n ≡ Some a
    → slice_get (xs ++ x ∷ []) n ≡ Some a
stays [] x n a h = absurd (none-some a h)
stays (y ∷ ys) x zero a h = h
stays (y ∷ ys) x (suc n) a h = stays ys x n a h

pub coming_more : (p : Parts) (m : Monitor) (events : List ℕ) (old new : List RolePlace) (i e : ℕ)
    → AreAscending events → slice_get events i ≡ Some e → HasComeAt p m e old new → AreComing p m events old i
    → AreComing p m events new (i + 1)
coming_more p m events old new i e ascending at (inl same) so =
    subst (λ list. AreComing p m events list (i + 1)) (sym same.0)
    (record {
      ordered = so.ordered;
      only = so.only;
      come = λ n a x. let g = so.come n a x in (g.0, omega (arith, g.1), g.2);
      known = λ j f k l x r. by j f k x r (up_to j i l);
    })
  where
    by : (j f k : ℕ) → slice_get events j ≡ Some f → in_role p m f k ≡ true → (j < i) ⊎ (j ≡ i)
        → (n : ℕ) × IsAt old f n
    by j f k x r (inl l) = so.known j f k l x r
    by j f k x r (inr z) =
        let q : e ≡ f = same_Some e f (sym at ∙ ap (slice_get events) (sym z) ∙ x) in
        absurd (true≢false (sym r ∙ ap (λ c. in_role p m c k) (sym q) ∙ same.1 k))
coming_more p m events old new i e ascending at (inr more) so =
    subst (λ list. AreComing p m events list (i + 1)) (sym more.1)
    (record {
      ordered = λ u v a b l x y. apart u v a b l (last_or old more.0 u a x) (last_or old more.0 v b y);
      only = λ n a x. only n a (last_or old more.0 n a x);
      come = λ n a x. come n a (last_or old more.0 n a x);
      known = λ j f k l x r. known j f k x r (up_to j i l);
    })
  where
    apart : (u v : ℕ) (a b : RolePlace) → u < v
        → ((u < length old) × (slice_get old u ≡ Some a)) ⊎ ((u ≡ length old) × (more.0 ≡ a))
        → ((v < length old) × (slice_get old v ≡ Some b)) ⊎ ((v ≡ length old) × (more.0 ≡ b)) → a.event.0 < b.event.0
    apart u v a b l (inl x) (inl y) = so.ordered u v a b l x.1 y.1
    apart u v a b l (inl x) (inr y) =
        let g = so.come u a x.1 in
        let h = ascending g.0 i a.event.0 e g.1 g.2 at in
        let z : more.0.event.0 ≡ b.event.0 = ap (λ (c : RolePlace). c.event.0) y.1 in
        let w = more.2 in
        omega (arith, h, z, w)
    apart u v a b l (inr x) (inl y) = absurd (omega (arith, l, x.0, y.0))
    apart u v a b l (inr x) (inr y) = absurd (omega (arith, l, x.0, y.0))

    only : (n : ℕ) (a : RolePlace)
        → ((n < length old) × (slice_get old n ≡ Some a)) ⊎ ((n ≡ length old) × (more.0 ≡ a))
        → IsOnly p m a.event.0 a.place
    only n a (inl x) = so.only n a x.1
    only n a (inr x) = subst (λ (c : RolePlace). IsOnly p m c.event.0 c.place) x.1
        (subst (λ c. IsOnly p m c more.0.place) (sym more.2) more.3)

    come : (n : ℕ) (a : RolePlace)
        → ((n < length old) × (slice_get old n ≡ Some a)) ⊎ ((n ≡ length old) × (more.0 ≡ a))
        → (j : ℕ) × (j < i + 1) × (slice_get events j ≡ Some a.event.0)
    come n a (inl x) = let g = so.come n a x.1 in (g.0, omega (arith, g.1), g.2)
    come n a (inr x) = (
      i,
      omega arith,
      at ∙ ap Some (sym more.2 ∙ ap (λ (c : RolePlace). c.event.0) x.1),
    )

    known : (j f k : ℕ) → slice_get events j ≡ Some f → in_role p m f k ≡ true → (j < i) ⊎ (j ≡ i)
        → (n : ℕ) × IsAt (old ++ more.0 ∷ []) f n
    known j f k x r (inl l) =
        let g = so.known j f k l x r in
        (g.0, (g.1.0, stays old more.0 g.0 g.1.0 g.1.1, g.1.2))
    known j f k x r (inr z) = (
      length old,
      (more.0, get-last old more.0, more.2 ∙ same_Some e f (sym at ∙ ap (slice_get events) (sym z) ∙ x)),
    )

pub all_come : (p : Parts) (m : Monitor) (events : List ℕ) (list : List RolePlace) (i : ℕ) → AreComing p m events list i
    → length events ≤ i → ((e : ℕ) → e < length p.events → has events e ≡ names p e m)
    → AreRolePlaces p m list
all_come p m events list i so past named = record {
  ordered = so.ordered;
  only = so.only;
  known = λ e k l is r.
      let listed = listed_of events e (named e l ∙ is) in
      so.known listed.0 e k (let a = slice_get_within events listed.0 e listed.1 in omega (arith, a, past)) listed.1 r;
}

-- of an event that is not listed no place has the role
pub none_in_role : (p : Parts) (m : Monitor) (list : List RolePlace) (e : ℕ) → AreRolePlaces p m list
    → e < length p.events → names p e m ≡ true → ((i : ℕ) → IsAt list e i → ⊥) → (j : ℕ) → in_role p m e j ≡ false
none_in_role p m list e are l named none j = by (in_role p m e j) refl
  where
    by : (b : Bool) → in_role p m e j ≡ b → in_role p m e j ≡ false
    by false h = h
    by true h = absurd (let g = are.known e j l named h in none g.0 g.1)

-- of one that is, its place alone has it
pub place_only : (p : Parts) (m : Monitor) (list : List RolePlace) (e k : ℕ) → AreRolePlaces p m list
    → IsPlaceAt list e k → IsOnly p m e k
place_only p m list e k are at =
    subst (λ f. IsOnly p m f k) at.3
    (subst (λ j. IsOnly p m at.1.event.0 j) at.4 (are.only at.0 at.1 at.2))

pub others_not : (p : Parts) (m : Monitor) (e k : ℕ) → IsOnly p m e k → (j : ℕ) → (j ≡ k → ⊥) → in_role p m e j ≡ false
others_not p m e k only j apart = by (in_role p m e j) refl
  where
    by : (b : Bool) → in_role p m e j ≡ b → in_role p m e j ≡ false
    by false h = h
    by true h = absurd (apart (only.1 j h))

-- halves: the event that is sought stands from `low` to `end`
pub record IsSoughtFrom (list : List RolePlace) (e low end : ℕ) : Type 0 where
  pub within : end ≤ length list
  pub sought : (i : ℕ) → IsAt list e i → (low ≤ i) × (i ≤ end)

-- by halves: past the middle, where that is on an earlier event, and else up to it
pub sought_up : (list : List RolePlace) (e low end middle here : ℕ) → AreByEvents list
    → ((a : RolePlace) → slice_get list middle ≡ Some a → a.event.0 ≡ here) → here < e → middle < end
    → IsSoughtFrom list e low end → IsSoughtFrom list e (middle + 1) end
sought_up list e low end middle here order is less l so = record {
  within = so.within;
  sought = λ i at. (later i at, (so.sought i at).1);
}
  where
    later : (i : ℕ) → IsAt list e i → middle + 1 ≤ i
    later i at =
        let w = so.within in
        let x = there list middle (omega (arith, l, w)) in
        let v = is x.value x.found in
        let q = at.2 in
        let before : i < middle → ⊥ = λ b. (let o = order i middle at.0 x.value b at.1 x.found in
        omega (arith, o, v, q, less)) in
        let itself : i ≡ middle → ⊥ =
        λ z. (let o = is at.0 (ap (slice_get list) (sym z) ∙ at.1) in omega (arith, o, q, less)) in
        omega (arith, before, itself)

pub sought_down : (list : List RolePlace) (e low end middle here : ℕ) → AreByEvents list
    → ((a : RolePlace) → slice_get list middle ≡ Some a → a.event.0 ≡ here) → e ≤ here → middle < end
    → IsSoughtFrom list e low end → IsSoughtFrom list e low middle
sought_down list e low end middle here order is more l so = record {
  within = let w = so.within in omega (arith, l, w);
  sought = λ i at. ((so.sought i at).0, sooner i at);
}
  where
    sooner : (i : ℕ) → IsAt list e i → i ≤ middle
    sooner i at =
        let w = so.within in
        let x = there list middle (omega (arith, l, w)) in
        let v = is x.value x.found in
        let q = at.2 in
        let after : middle < i → ⊥ = λ b. (let o = order middle i x.value at.0 b x.found at.1 in
        omega (arith, o, v, q, more)) in
        omega (arith, after)

pub sought_done : (list : List RolePlace) (e low end : ℕ) → end ≤ low → IsSoughtFrom list e low end
    → (i : ℕ) → IsAt list e i → i ≡ low
sought_done list e low end l so i at = let g = so.sought i at in let a = g.0 in let b = g.1 in omega (arith, a, b, l)

-- what is not where it would stand is nowhere
pub absent : (list : List RolePlace) (e k : ℕ) → ((i : ℕ) → IsAt list e i → i ≡ k) → slice_get list k ≡ None
    → (i : ℕ) → IsAt list e i → ⊥
absent list e k only none i at = none-some at.0 (sym none ∙ ap (slice_get list) (sym (only i at)) ∙ at.1)

pub other : (list : List RolePlace) (e k : ℕ) (a : RolePlace) → ((i : ℕ) → IsAt list e i → i ≡ k)
    → slice_get list k ≡ Some a → (a.event.0 ≡ e → ⊥) → (i : ℕ) → IsAt list e i → ⊥
other list e k a only found apart i at =
    apart (ap (λ (c : RolePlace). c.event.0) (same_Some a at.0
    (sym found ∙ ap (slice_get list) (sym (only i at)) ∙ at.1))
    ∙ at.2)
