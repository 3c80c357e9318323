-- The resources that an entry gives, at the places that they are given for.
use Rattle.std.proofs.Common.{◌≡◌, ◌∙◌, ap, ap₂, refl, sym, subst, ℕ, ◌+◌, ◌==◌, Bool, true, false, cond, not, ◌||◌}
use Rattle.std.proofs.Common.{Option, Some, None, List, [], ◌∷◌, ◌++◌, map, length, All, IfSome, slice_get, zero, suc}
use Rattle.std.proofs.Common.{flat_map, append_assoc, append-nil, arith, get_or, if◌then◌else◌, inl, inr, ◌⊎◌}
use Rattle.std.specs.Prelude.{find, IsSome}
use Rattle.std.specs.List.{cons_option, enumerate_from, filter_map, list_any, range_with_len}
use Rattle.std.specs.Option.{option_and_then, option_map, option_map_or, option_or}
use Rattle.std.specs.Str.{bytes_eq}
use Rattle.std.proofs.lemmas.Bool.{and_parts, eq-eqb, false≢true, not-true, or_parts}
use Rattle.std.proofs.lemmas.List.Elements.{All-cons, All-head, All-nil, All-tail, All-weaker}
use Rattle.std.proofs.lemmas.List.Folds.{find-append, list_any-append}
use Rattle.std.proofs.lemmas.Option.{none-some}
use Rattle.khe_base.specs.Names.{are_distinct, is_among_names}
use Rattle.khe_base.specs.declared.numbers.ResourceId.{ResourceId}
use Rattle.khe_base.specs.declared.numbers.TaskId.{TaskId}
use Rattle.khe_instance.specs.Lookups.{is_role}
use Rattle.khe_instance.specs.States.{IsGiven, IsKept, place_of}
use Rattle.khe_instance.specs.WellMade.{AreWellMade, HasType, IsPlace}
use Rattle.khe_instance.specs.declared.parts.EventInfo.{EventInfo}
use Rattle.khe_instance.specs.declared.parts.Parts.{Parts}
use Rattle.khe_instance.specs.declared.parts.Place.{Place}
use Rattle.khe_instance.specs.declared.states.Duty.{Duty}
use Rattle.khe_instance.specs.declared.states.Meet.{Meet}
use Rattle.khe_instance.specs.declared.states.Task.{Task}
use Rattle.khe_instance.proofs.DutiesLemmas.{typed}
use Rattle.event_deviations.proofs.Beside.{duty_of}
use Rattle.xhstt_completion.specs.Causes.{differ_in_resource, first_given_cause, given_cause, has_other_type}
use Rattle.xhstt_completion.specs.Causes.{is_place_for, place_cause, place_for}
use Rattle.xhstt_completion.specs.Completed.{resource_at, task_of}
use Rattle.xhstt_completion.specs.Entries.{resource_of, role_of}
use Rattle.fault_tables.specs.declared.causes.TheConstants.{FIXED_RESOURCE, WRONG_TYPE}
use Rattle.xhstt_completion.proofs.CausesLemmas.{given_cause-place}
use Rattle.xhstt_completion.proofs.Roles.{find-by-role}
use Rattle.xhstt_shape.specs.declared.records.RawGiven.{RawGiven}
use Rattle.xhstt_entries.specs.Renumbered.{task_in}
use Rattle.xhstt_entries.specs.Spelled.{given_at, given_by, given_of, resource_id, role_named, to}
use Rattle.xhstt_entries.proofs.NumberLaws.{other_way, resource_back, same_name}

-- ---- what one place gives

-- whether a resource is given for a role
abbrev pub mentions : List ℕ → List RawGiven → Bool
mentions role given = list_any (λ one. is_role role (role_of one)) given

-- a resource that is given for a role
abbrev pub for_role : Parts → List ℕ → ResourceId → RawGiven
for_role p role r = record { reference = to (resource_id p r); role = Some (role_named role) }

-- a place without a preassigned resource gives its own for its role, and one that has one gives nothing
pub free_place_gives : (p : Parts) (place : Place) (r : ResourceId) (role : List ℕ) → place.fixed ≡ None
    → place.role ≡ Some role → given_at p place r ≡ for_role p role r ∷ []
free_place_gives p place r role free is =
    ap (λ o. option_map_or (λ (fixed : ResourceId). []) o (record {
      reference = to (resource_id p r);
      role = option_map role_named place.role;
    } ∷ [])) free
    ∙ ap (λ o. let g : RawGiven = record { reference = to (resource_id p r); role = option_map role_named o } in
    g ∷ []) is

fixed_place_gives : (p : Parts) (place : Place) (fixed r : ResourceId) → place.fixed ≡ Some fixed
    → given_at p place r ≡ []
fixed_place_gives p place fixed r is = ap (λ o. option_map_or (λ (x : ResourceId). []) o (record {
  reference = to (resource_id p r);
  role = option_map role_named place.role;
} ∷ [])) is

-- ---- roles that are not mentioned

-- a place gives nothing for another role
role_kept : (o : Option (List ℕ)) → option_map (λ name. name.text) (option_map role_named o) ≡ o
role_kept None = refl
role_kept (Some role) = refl

other_role : (p : Parts) (role : List ℕ) (place : Place) (o : Option ResourceId) → is_role role place.role ≡ false
    → mentions role (given_by p (Some place) o) ≡ false
other_role p role place None other = refl
other_role p role place (Some r) other = by place.fixed
  where
    one : is_role role (option_map (λ name. name.text) (option_map role_named place.role)) ≡ false
    one = ap (is_role role) (role_kept place.role) ∙ other

    by : (f : Option ResourceId) → mentions role (option_map_or (λ (x : ResourceId). []) f (record {
      reference = to (resource_id p r);
      role = option_map role_named place.role;
    } ∷ [])) ≡ false
    by None = ap (λ b. b || false) one
    by (Some fixed) = refl

-- a role that is not mentioned is not found
not_found : (role : List ℕ) (given : List RawGiven) → mentions role given ≡ false
    → find (λ one. is_role role (role_of one)) given ≡ None
not_found role [] h = refl
not_found role (g ∷ gs) h =
    let parts = or_parts (is_role role (role_of g)) (mentions role gs) h in
    ap (λ b. cond b (Some g) (find (λ one. is_role role (role_of one)) gs)) parts.0 ∙ not_found role gs parts.1

-- the roles of places
abbrev pub roles : List Place → List (List ℕ)
roles places = filter_map (λ x. x.role) places

-- a role that is none of the roles of places
not_among : (role : List ℕ) (o : Option (List ℕ)) (rest : List (List ℕ))
    → is_among_names role (cons_option o rest) ≡ false
    → (is_role role o ≡ false) × (is_among_names role rest ≡ false)
not_among role None rest h = (refl, h)
not_among role (Some other) rest h = or_parts (bytes_eq role other) (is_among_names role rest) h

-- distinct roles of places: those of the later ones, among which the first is not
pub later_roles : (o : Option (List ℕ)) (rest : List (List ℕ)) → are_distinct (cons_option o rest) ≡ true
    → (are_distinct rest ≡ true) × IfSome o (λ role. is_among_names role rest ≡ false)
later_roles None rest h = (h, tt)
later_roles (Some role) rest h =
    let parts = and_parts (not (is_among_names role rest)) (are_distinct rest) h in
    (parts.1, not-true (is_among_names role rest) parts.0)

-- a place has another role than this one
abbrev IsUnlike : Option (List ℕ) → Place → Type 0
IsUnlike o place = IfSome place.role (λ role. is_role role o ≡ false)

unlike : (o : Option (List ℕ)) (places : List Place) → IfSome o (λ role. is_among_names role (roles places) ≡ false)
    → All (IsUnlike o) places
unlike None places h = All-weaker {X = Place} (λ x. Unit {0}) (IsUnlike None) (λ x u. none x.role) places
    (λ k d l. tt)
  where
    none : (o : Option (List ℕ)) → IfSome o (λ role. false ≡ false)
    none None = tt
    none (Some role) = refl
unlike (Some role) [] h = All-nil (IsUnlike (Some role))
unlike (Some role) (x ∷ xs) h =
    let parts = not_among role x.role (roles xs) h in
    All-cons (IsUnlike (Some role)) x xs (turn x.role parts.0) (unlike (Some role) xs parts.1)
  where
    turn : (o : Option (List ℕ)) → is_role role o ≡ false → IfSome o (λ other. bytes_eq other role ≡ false)
    turn None e = tt
    turn (Some other) e = other_way role other e

-- no resource is given yet for the role of a place
abbrev pub IsFree : List RawGiven → Place → Type 0
IsFree front place = IfSome place.role (λ role. mentions role front ≡ false)

pub all_free : (places : List Place) → All (IsFree []) places
all_free places = All-weaker {X = Place} (λ x. Unit {0}) (IsFree []) (λ x u. none x.role) places (λ k d l. tt)
  where
    none : (o : Option (List ℕ)) → IfSome o (λ role. false ≡ false)
    none None = tt
    none (Some role) = refl

-- ---- tasks at places

-- a task with its meet fills a place of the event, which has this number: with a resource of its type, and with the
-- preassigned one if it has one
pub record Fills (p : Parts) (m : Meet) (k : ℕ) (place : Place) (t : Task) : Type 0 where
  pub number : t.task.place ≡ k
  pub there : place_of p (duty_of m t) ≡ Some place
  pub typed : IfSome t.resource (HasType p place.rtype)
  pub kept : IfSome place.fixed (λ r. t.resource ≡ Some r)

-- so does each of these tasks, one for each of these places, which are numbered from this number on
abbrev pub AreFilled : Parts → Meet → ℕ → List Place → List Task → Type 0
AreFilled p m k [] [] = Unit {0}
AreFilled p m k [] (t ∷ ts) = ⊥
AreFilled p m k (x ∷ xs) [] = ⊥
AreFilled p m k (x ∷ xs) (t ∷ ts) = Fills p m k x t × AreFilled p m (k + 1) xs ts

pub are_filled : (p : Parts) (m : Meet) (event : EventInfo) → slice_get p.events m.event.0 ≡ Some event
    → (k : ℕ) (places : List Place) (ts : List Task)
    → ((i : ℕ) → slice_get places i ≡ slice_get event.places (k + i))
    → map (λ t. t.task) ts ≡ map (λ j. record { meet = m.meet; place = j }) (range_with_len k (length places))
    → All (λ t. IsGiven p (duty_of m t)) ts → All (λ t. IsKept p (duty_of m t)) ts → AreFilled p m k places ts
are_filled p m event here k [] [] at ids given kept = tt
are_filled p m event here k [] (t ∷ ts) at ids given kept = cc
are_filled p m event here k (x ∷ xs) [] at ids given kept = cc
are_filled p m event here k (x ∷ xs) (t ∷ ts) at ids given kept =
    let first : t.task ≡ record { meet = m.meet; place = k } = cc in
    let rest : map (λ t. t.task) ts ≡ map (λ j. record { meet = m.meet; place = j })
    (range_with_len (k + 1) (length xs)) = cc in
    let number : t.task.place ≡ k = ap (λ (id : TaskId). id.place) first in
    let zeroth : k + 0 ≡ k = omega arith in
    let found : place_of p (duty_of m t) ≡ Some x =
    ap (option_and_then (λ (e : EventInfo). slice_get e.places t.task.place)) here
    ∙ ap (slice_get event.places) (number ∙ sym zeroth) ∙ sym (at 0) in (
      record {
        number = number;
        there = found;
        typed = subst (λ o. IfSome o (λ place. IfSome t.resource (HasType p place.rtype))) found
            (All-head (λ t. IsGiven p (duty_of m t)) t ts given);
        kept = subst (λ o. IfSome o (λ place. IfSome place.fixed (λ r. t.resource ≡ Some r))) found
            (All-head (λ t. IsKept p (duty_of m t)) t ts kept);
      },
      are_filled p m event here (k + 1) xs ts
          (λ i. let next : k + suc i ≡ k + 1 + i = omega arith in at (suc i) ∙ ap (slice_get event.places) next)
          rest (All-tail (λ t. IsGiven p (duty_of m t)) t ts given) (All-tail (λ t. IsKept p (duty_of m t)) t ts kept),
    )

-- what tasks of a meet give
abbrev pub gifts : Parts → Meet → List Task → List RawGiven
gifts p m ts = flat_map (given_of p) (map (duty_of m) ts)

-- ---- what is given is found again

module _ (p : Parts) (made : AreWellMade p) (m : Meet) where
  first_gives : (k : ℕ) (x : Place) (t : Task) → Fills p m k x t
      → given_of p (duty_of m t) ≡ given_by p (Some x) t.resource
  first_gives k x t f = ap (λ o. given_by p o t.resource) f.there

  -- later places give nothing for another role
  absent : (role : List ℕ) (k : ℕ) (xs : List Place) (ts : List Task) → AreFilled p m k xs ts
      → is_among_names role (roles xs) ≡ false → mentions role (gifts p m ts) ≡ false
  absent role k [] [] filled h = refl
  absent role k [] (t ∷ ts) filled h = absurd filled
  absent role k (x ∷ xs) [] filled h = absurd filled
  absent role k (x ∷ xs) (t ∷ ts) filled h =
      let parts = not_among role x.role (roles xs) h in
      list_any-append (λ one. is_role role (role_of one)) (given_of p (duty_of m t)) (gifts p m ts)
      ∙ ap₂ (λ a b. a || b)
      (ap (mentions role) (first_gives k x t filled.0) ∙ other_role p role x t.resource parts.0)
      (absent role (k + 1) xs ts filled.1 parts.1)

  -- after what the first place gives, nothing is given for the roles of later ones
  still_free : (front : List RawGiven) (k : ℕ) (x : Place) (t : Task) (xs : List Place) → Fills p m k x t
      → are_distinct (cons_option x.role (roles xs)) ≡ true → All (IsFree front) xs
      → All (IsFree (front ++ given_of p (duty_of m t))) xs
  still_free front k x t xs fills distinct free i d l =
      by (get_or xs i d).role (free i d l) (unlike x.role xs (later_roles x.role (roles xs) distinct).1 i d l)
    where
      by : (o : Option (List ℕ)) → IfSome o (λ role. mentions role front ≡ false)
          → IfSome o (λ role. is_role role x.role ≡ false)
          → IfSome o (λ role. mentions role (front ++ given_of p (duty_of m t)) ≡ false)
      by None a b = tt
      by (Some role) a b =
          list_any-append (λ one. is_role role (role_of one)) front (given_of p (duty_of m t))
          ∙ ap₂ (λ a b. a || b) a
          (ap (mentions role) (first_gives k x t fills) ∙ other_role p role x t.resource b)

  -- a place that has no preassigned resource has a role
  abbrev HasRole : Place → Type 0
  HasRole x = (role : List ℕ) × (x.role ≡ Some role)

  has_role : (x : Place) → IsPlace p x → x.fixed ≡ None → HasRole x
  has_role x is free = by x.role refl x.fixed free is.wanted
    where
      by : (o : Option (List ℕ)) → x.role ≡ o → (f : Option ResourceId) → f ≡ None → IsSome o ⊎ IsSome f → HasRole x
      by (Some role) e f g w = (role, e)
      by None e None g (inl w) = absurd (false≢true w)
      by None e None g (inr w) = absurd (false≢true w)
      by None e (Some r) g w = cc

  module _ (x : Place) (is : IsPlace p x) (xs : List Place)
      (distinct : are_distinct (cons_option x.role (roles xs)) ≡ true) where
    -- the resource at the first place
    found_first : (role : List ℕ) → x.fixed ≡ None → x.role ≡ Some role → (rest : List RawGiven)
        → mentions role rest ≡ false → (o : Option ResourceId) → IfSome o (HasType p x.rtype)
        → option_and_then (resource_of p) (find (λ one. is_role role (role_of one)) (given_by p (Some x) o ++ rest)) ≡ o
    found_first role free named rest later None has =
        ap (option_and_then (resource_of p)) (not_found role rest later)
    found_first role free named rest later (Some r) has =
        let test : RawGiven → Bool = λ one. is_role role (role_of one) in
        ap (λ h. option_and_then (resource_of p) (find test (h ++ rest))) (free_place_gives p x r role free named)
        ∙ ap (λ b. option_and_then (resource_of p) (cond b (Some (for_role p role r)) (find test rest)))
        (same_name role)
        ∙ resource_back p r made (typed p x.rtype r has)

    resource_found : (front : List RawGiven) (k : ℕ) (t : Task) (ts : List Task) → Fills p m k x t
        → AreFilled p m (k + 1) xs ts → IsFree front x
        → resource_at p (front ++ (given_of p (duty_of m t) ++ gifts p m ts)) x ≡ t.resource
    resource_found front k t ts fills filled free = by x.fixed refl
      where
        by : (f : Option ResourceId) → x.fixed ≡ f
            → resource_at p (front ++ (given_of p (duty_of m t) ++ gifts p m ts)) x ≡ t.resource
        by (Some r) e =
            ap (λ f. option_or f (option_and_then (λ role. option_and_then (resource_of p)
            (find (λ one. is_role role (role_of one)) (front ++ (given_of p (duty_of m t) ++ gifts p m ts)))) x.role)) e
            ∙ sym (subst (λ o. IfSome o (λ r. t.resource ≡ Some r)) e fills.kept)
        by None e =
            let named = has_role x is e in
            let role = named.0 in
            let test : RawGiven → Bool = λ one. is_role role (role_of one) in
            let rest = gifts p m ts in
            let own = given_of p (duty_of m t) in
            let later : mentions role rest ≡ false = absent role (k + 1) xs ts filled
            (subst (λ o. IfSome o (λ role. is_among_names role (roles xs) ≡ false)) named.1
            (later_roles x.role (roles xs) distinct).1) in
            let before : mentions role front ≡ false = subst (λ o. IfSome o (λ role. mentions role front ≡ false))
            named.1 free in
            (λ i. option_or (e i) (option_and_then (λ role. option_and_then (resource_of p)
            (find (λ one. is_role role (role_of one)) (front ++ (own ++ rest)))) (named.1 i)))
            ∙ ap (option_and_then (resource_of p)) (find-append test front (own ++ rest)
            ∙ ap (λ o. option_or o (find test (own ++ rest))) (not_found role front before))
            ∙ ap (λ h. option_and_then (resource_of p) (find test (h ++ rest))) (first_gives k x t fills)
            ∙ found_first role e named.1 rest later t.resource fills.typed

  -- the tasks of places, with what is given, are these tasks
  pub tasks_back : (slot : ℕ) (front : List RawGiven) (k : ℕ) (xs : List Place) (ts : List Task)
      → AreFilled p m k xs ts → All (IsPlace p) xs → are_distinct (roles xs) ≡ true → All (IsFree front) xs
      → map (task_of p slot (front ++ gifts p m ts)) (enumerate_from k xs) ≡ map (task_in slot) ts
  tasks_back slot front k [] [] filled places distinct free = refl
  tasks_back slot front k [] (t ∷ ts) filled places distinct free = absurd filled
  tasks_back slot front k (x ∷ xs) [] filled places distinct free = absurd filled
  tasks_back slot front k (x ∷ xs) (t ∷ ts) filled places distinct free =
      let own = given_of p (duty_of m t) in
      let first = resource_found x (All-head (IsPlace p) x xs places) xs distinct front k t ts filled.0 filled.1
      (All-head (IsFree front) x xs free) in
      let later = tasks_back slot (front ++ own) (k + 1) xs ts filled.1 (All-tail (IsPlace p) x xs places)
      (later_roles x.role (roles xs) distinct).0
      (still_free front k x t xs filled.0 distinct (All-tail (IsFree front) x xs free)) in
      let rest = ap (λ g. map (task_of p slot g) (enumerate_from (k + 1) xs)) (sym (append_assoc front own
      (gifts p m ts))) ∙ later in
      let number = (filled.0).number in
      λ i. record {
        task = record { meet = record { 0 = slot }; place = sym number i };
        resource = first i;
      } ∷ rest i

  -- ---- none of them is a cause

  no_place_cause : (x : Place) (r : ResourceId) → x.fixed ≡ None → HasType p x.rtype r
      → place_cause p (Some r) x ≡ None
  no_place_cause x r free has =
      let same : differ_in_resource x.fixed (Some r) ≡ false = ap (λ f. differ_in_resource f (Some r)) free in
      let suits : has_other_type p (Some r) x ≡ false =
      ap (λ o. option_map_or (λ rtype. not (rtype == x.rtype)) o false) has
      ∙ ap not (eq-eqb x.rtype x.rtype refl) in
      λ i. if same i then Some FIXED_RESOURCE else if suits i then Some WRONG_TYPE else None

  module _ (event : EventInfo) (all_distinct : are_distinct (roles event.places) ≡ true) where
    no_cause : (front : List RawGiven) (k : ℕ) (x : Place) (r : ResourceId) (role : List ℕ)
        → slice_get event.places k ≡ Some x → x.fixed ≡ None → x.role ≡ Some role → HasType p x.rtype r
        → mentions role front ≡ false → given_cause p event front (for_role p role r) ≡ None
    no_cause front k x r role at free named has fresh =
        given_cause-place p event front (for_role p role r) r x (resource_back p r made (typed p x.rtype r has))
        (find-by-role event.places k x role all_distinct at named) fresh
        ∙ no_place_cause x r free has

    -- nothing, or a resource that has no cause, before others that have none
    abbrev IsFine : List RawGiven → List RawGiven → Type 0
    IsFine front own = (own ≡ []) ⊎ ((g : RawGiven) × (own ≡ g ∷ []) × (given_cause p event front g ≡ None))

    one_fine : (front own rest : List RawGiven) → IsFine front own
        → first_given_cause p event (front ++ own) rest ≡ None
        → first_given_cause p event front (own ++ rest) ≡ None
    one_fine front own rest (inl e) = subst (λ h. first_given_cause p event (front ++ h) rest ≡ None
        → first_given_cause p event front (h ++ rest) ≡ None) (sym e)
        (λ l. ap (λ f. first_given_cause p event f rest) (sym (append-nil front)) ∙ l)
    one_fine front own rest (inr (g, e, none)) = subst (λ h. first_given_cause p event (front ++ h) rest ≡ None
        → first_given_cause p event front (h ++ rest) ≡ None) (sym e) (λ l. ap₂ (λ o q. option_or o q) none l)

    fine_first : (front : List RawGiven) (k : ℕ) (x : Place) → slice_get event.places k ≡ Some x → IsPlace p x
        → IsFree front x → (o : Option ResourceId) → IfSome o (HasType p x.rtype) → IsFine front (given_by p (Some x) o)
    fine_first front k x at is free None has = inl refl
    fine_first front k x at is free (Some r) has = by x.fixed refl
      where
        by : (f : Option ResourceId) → x.fixed ≡ f → IsFine front (given_at p x r)
        by (Some fixed) e = inl (fixed_place_gives p x fixed r e)
        by None e =
            let named = has_role x is e in
            let fresh : mentions named.0 front ≡ false = subst (λ o. IfSome o (λ role. mentions role front ≡ false))
            named.1 free in
            inr (
              for_role p named.0 r,
              free_place_gives p x r named.0 e named.1,
              no_cause front k x r named.0 at e named.1 has fresh,
            )

    pub no_causes : (front : List RawGiven) (k : ℕ) (xs : List Place) (ts : List Task)
        → ((i : ℕ) → slice_get xs i ≡ slice_get event.places (k + i))
        → AreFilled p m k xs ts → All (IsPlace p) xs → are_distinct (roles xs) ≡ true → All (IsFree front) xs
        → first_given_cause p event front (gifts p m ts) ≡ None
    no_causes front k [] [] at filled places distinct free = refl
    no_causes front k [] (t ∷ ts) at filled places distinct free = absurd filled
    no_causes front k (x ∷ xs) [] at filled places distinct free = absurd filled
    no_causes front k (x ∷ xs) (t ∷ ts) at filled places distinct free =
        let own = given_of p (duty_of m t) in
        let zeroth : k + 0 ≡ k = omega arith in
        let here : slice_get event.places k ≡ Some x = ap (slice_get event.places) (sym zeroth) ∙ sym (at 0) in
        let fine = fine_first front k x here (All-head (IsPlace p) x xs places) (All-head (IsFree front) x xs free)
        t.resource (filled.0).typed in
        let later = no_causes (front ++ own) (k + 1) xs ts
        (λ i. let next : k + suc i ≡ k + 1 + i = omega arith in at (suc i) ∙ ap (slice_get event.places) next)
        filled.1 (All-tail (IsPlace p) x xs places) (later_roles x.role (roles xs) distinct).0
        (still_free front k x t xs filled.0 distinct (All-tail (IsFree front) x xs free)) in
        one_fine front own (gifts p m ts) (subst (IsFine front) (sym (first_gives k x t filled.0)) fine) later
