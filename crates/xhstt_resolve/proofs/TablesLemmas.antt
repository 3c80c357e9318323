-- Tables are made of items and the groups that they name.
use Rattle.std.proofs.Common.{◌≡◌, ◌∙◌, sym, ap, subst, ℕ, ◌+◌, ◌<◌, ◌≤◌, ◌^◌, suc, arith, Bool, true, false, List, []}
use Rattle.std.proofs.Common.{◌∷◌, ◌++◌, map, length, get_or, Option, Some, None, refl, if◌then◌else◌}
use Rattle.std.specs.List.{All}
use Rattle.std.specs.Option.{option_map_or}
use Rattle.std.proofs.lemmas.List.{get_or-map, length-map}
use Rattle.std.proofs.lemmas.List.Elements.{All-nil, All-cons, All-append, All-weaker}
use Rattle.khe_base.specs.Names.{is_among_names, number_of}
use Rattle.xhstt_references.specs.declared.directories.Directory.{Directory}
use Rattle.xhstt_references.specs.Ids.{time_ids, resource_ids, event_ids}
use Rattle.xhstt_resolve.specs.Members.{numbers_from, members, members_in, groups_of_time, groups_of_resource}
use Rattle.xhstt_resolve.specs.Members.{groups_of_event, times_in, resources_in, events_in, set_of, time_set}
use Rattle.xhstt_resolve.specs.Members.{resource_set, event_set, listed, listed_times, listed_resources}
use Rattle.xhstt_resolve.specs.Tables.{HasNames, IsTableOf, AreTablesOf, members_at, listed_at}
use Rattle.xhstt_resolve.specs.declared.tables.Table.{Table}
use Rattle.xhstt_resolve.proofs.JoinedLemmas.{number_of_place, is_among_at, is_among_none}
use Rattle.xhstt_shape.specs.declared.records.RawInstance.{RawInstance}
use Rattle.xhstt_shape.specs.declared.records.Ref.{Ref}

-- the numbers of items are below their count
numbers_below : {X : Type 0} (test : X → Bool) (k : ℕ) (xs : List X)
    → All (λ n. n < k + length xs) (numbers_from test k xs)
numbers_below test k [] = All-nil (λ n. n < k + 0)
numbers_below test k (x ∷ xs) =
    All-append (λ n. n < k + suc (length xs)) (if test x then k ∷ [] else []) (numbers_from test (k + 1) xs)
    (here (test x))
    (All-weaker (λ n. n < k + 1 + length xs) (λ n. n < k + suc (length xs)) (λ n l. omega (arith, l))
    (numbers_from test (k + 1) xs) (numbers_below test (k + 1) xs))
  where
    here : (b : Bool) → All (λ n. n < k + suc (length xs)) (if b then k ∷ [] else [])
    here true = All-cons (λ n. n < k + suc (length xs)) k [] (omega arith) (All-nil (λ n. n < k + suc (length xs)))
    here false = All-nil (λ n. n < k + suc (length xs))

pub members_in_below : {X : Type 0} (ids : List (List ℕ)) (groups : X → List (List ℕ)) (xs : List X) (id : List ℕ)
    → All (λ n. n < length xs) (members_in ids groups xs id)
members_in_below ids groups xs id = by (is_among_names id ids)
  where
    by : (b : Bool) → All (λ n. n < length xs) (if b then members groups xs id else [])
    by true = All-weaker (λ n. n < 0 + length xs) (λ n. n < length xs) (λ n l. omega (arith, l)) (members groups xs id)
        (numbers_below (λ x. is_among_names id (groups x)) 0 xs)
    by false = All-nil (λ n. n < length xs)

-- and there are no more than items
numbers_bounded : {X : Type 0} (test : X → Bool) (k : ℕ) (xs : List X) → length (numbers_from test k xs) ≤ length xs
numbers_bounded test k [] = omega arith
numbers_bounded test k (x ∷ xs) = by (test x) (numbers_from test (k + 1) xs) (numbers_bounded test (k + 1) xs)
  where
    by : (b : Bool) (rest : List ℕ) → length rest ≤ length xs
        → length ((if b then k ∷ [] else []) ++ rest) ≤ suc (length xs)
    by true rest h = omega (arith, h)
    by false rest h = omega (arith, h)

members_in_bounded : {X : Type 0} (ids : List (List ℕ)) (groups : X → List (List ℕ)) (xs : List X) (id : List ℕ)
    → length (members_in ids groups xs id) ≤ length xs
members_in_bounded ids groups xs id = by (is_among_names id ids)
  where
    by : (b : Bool) → length (if b then members groups xs id else []) ≤ length xs
    by true = numbers_bounded (λ x. is_among_names id (groups x)) 0 xs
    by false = omega arith

-- a list by numbers is read at an Id
read_at : (f : List ℕ → List ℕ) (ids : List (List ℕ)) (id : List ℕ)
    → option_map_or (λ g. get_or (map f ids) g []) (number_of id ids) [] ≡ (if is_among_names id ids then f id else [])
read_at f ids id = by (number_of id ids) refl
  where
    by : (o : Option ℕ) → number_of id ids ≡ o → option_map_or (λ g. get_or (map f ids) g []) o []
        ≡ (if is_among_names id ids then f id else [])
    by None e = sym (ap (λ b. if b then f id else []) (is_among_none id ids e))
    by (Some g) e =
        let place = number_of_place id ids g e in
        get_or-map f ids g id [] place.0 ∙ ap f (sym place.1)
        ∙ sym (ap (λ b. if b then f id else []) (is_among_at id ids g place.0 place.1))

pub IsTableOf-made : {X : Type 0} (groups : X → List (List ℕ)) (xs : List X) (t : Table) → length xs < 2 ^ 32
    → length t.group_names.now < 2 ^ 32 → length t.names.now ≡ length xs
    → t.members ≡ map (members groups xs) t.group_names.now
    → IsTableOf t.names.now (members_in t.group_names.now groups xs) t
IsTableOf-made groups xs t few few_groups same made = record {
  table = record {
    small = omega (arith, few, same);
    few_groups = few_groups;
    whole = sym (ap length made ∙ length-map t.group_names.now (members groups xs));
    within = λ id. subst (λ ns. All (λ n. n < length t.names.now) ns) (sym (at id))
        (All-weaker (λ n. n < length xs) (λ n. n < length t.names.now) (λ n l. omega (arith, l, same))
        (members_in t.group_names.now groups xs id) (members_in_below t.group_names.now groups xs id));
    bounded = λ id. let e : length (members_at t id) ≡ length (members_in t.group_names.now groups xs id) =
        ap length (at id) in
        omega (arith, e, same, members_in_bounded t.group_names.now groups xs id);
  };
  names = refl;
  members = λ j id. at id j;
}
  where
    at : (id : List ℕ) → members_at t id ≡ members_in t.group_names.now groups xs id
    at id = ap (λ lists. option_map_or (λ g. get_or lists g []) (number_of id t.group_names.now) []) made
        ∙ read_at (members groups xs) t.group_names.now id

-- the tables of an instance
pub AreTablesOf-made : (i : RawInstance) (d : Directory) (t r e : Table) → HasNames i d
    → IsTableOf d.times (members_in d.time_groups groups_of_time i.times) t
    → IsTableOf d.resources (members_in d.resource_groups groups_of_resource i.resources) r
    → IsTableOf d.events (members_in d.event_groups groups_of_event i.events) e
    → AreTablesOf i (record { times = t; resources = r; events = e })
AreTablesOf-made i d t r e is ht hr he = record {
  times = subst (λ ids. IsTableOf ids (times_in i) t) is.times
      (subst (λ ids. IsTableOf d.times (members_in ids groups_of_time i.times) t) is.time_groups ht);
  resources = subst (λ ids. IsTableOf ids (resources_in i) r) is.resources
      (subst (λ ids. IsTableOf d.resources (members_in ids groups_of_resource i.resources) r) is.resource_groups hr);
  events = subst (λ ids. IsTableOf ids (events_in i) e) is.events
      (subst (λ ids. IsTableOf d.events (members_in ids groups_of_event i.events) e) is.event_groups he);
}

-- a set of a table's size is one of the instance
pub event_set-at : (i : RawInstance) (t : Table) → IsTableOf (event_ids i) (events_in i) t → (id : List ℕ)
    → set_of (length t.names.now) (members_at t id) ≡ event_set i (events_in i id)
event_set-at i t is id =
    let size : length t.names.now ≡ length i.events = ap length is.names ∙ length-map i.events (λ e. e.id.text) in
    λ j. set_of (size j) (is.members j id)

pub time_set-at : (i : RawInstance) (t : Table) → IsTableOf (time_ids i) (times_in i) t → (id : List ℕ)
    → set_of (length t.names.now) (members_at t id) ≡ time_set i (times_in i id)
time_set-at i t is id =
    let size : length t.names.now ≡ length i.times = ap length is.names ∙ length-map i.times (λ e. e.id.text) in
    λ j. set_of (size j) (is.members j id)

pub time_set-listed : (i : RawInstance) (t : Table) → IsTableOf (time_ids i) (times_in i) t → (groups times : List Ref)
    → set_of (length t.names.now) (listed_at t groups times) ≡ time_set i (listed_times i groups times)
time_set-listed i t is groups times =
    let size : length t.names.now ≡ length i.times = ap length is.names ∙ length-map i.times (λ e. e.id.text) in
    λ j. set_of (size j) (listed (is.members j) (is.names j) groups times)

pub resource_set-listed : (i : RawInstance) (t : Table) → IsTableOf (resource_ids i) (resources_in i) t
    → (groups resources : List Ref) → set_of (length t.names.now) (listed_at t groups resources)
    ≡ resource_set i (listed_resources i groups resources)
resource_set-listed i t is groups resources =
    let size : length t.names.now ≡ length i.resources = ap length is.names ∙ length-map i.resources (λ e. e.id.text) in
    λ j. set_of (size j) (listed (is.members j) (is.names j) groups resources)

-- what a table lists
pub listed-at : {ids : List (List ℕ)} {in_group : List ℕ → List ℕ} (t : Table) → IsTableOf ids in_group t
    → (groups singles : List Ref) → listed_at t groups singles ≡ listed in_group ids groups singles
listed-at t is groups singles = λ j. listed (is.members j) (is.names j) groups singles

-- the event groups are few
pub groups_few : (i : RawInstance) (d : Directory) → HasNames i d → length i.event_groups < 2 ^ 32
    → length d.event_groups < 2 ^ 32
groups_few i d is h = let e : length d.event_groups ≡ length i.event_groups =
    ap length is.event_groups ∙ length-map i.event_groups (λ g. g.id.text) in omega (arith, h, e)
