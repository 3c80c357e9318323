-- The members of a group in the order of the archive, and what a list of references lists: its groups expanded,
-- and then its single items.
use Rattle.std.specs.Prelude.{ℕ, ◌+◌, ◌==◌, Bool, not, if◌then◌else◌, List, [], ◌∷◌, ◌++◌, map, length}
use Rattle.std.specs.List.{filter, filter_map, flat_map, fold}
use Rattle.std.specs.Option.{option_to_list}
use Rattle.khe_base.specs.IdSet.{no_members, with_member}
use Rattle.khe_base.specs.Names.{is_among_names, number_of}
use Rattle.xhstt_references.specs.Ids.{time_group_ids, time_ids, resource_group_ids, resource_ids, event_group_ids}
use Rattle.xhstt_references.specs.Ids.{event_ids}
use Rattle.xhstt_shape.specs.declared.records.RawEvent.{RawEvent}
use Rattle.xhstt_shape.specs.declared.records.RawInstance.{RawInstance}
use Rattle.xhstt_shape.specs.declared.records.RawResource.{RawResource}
use Rattle.xhstt_shape.specs.declared.records.Ref.{Ref}
use Rattle.xhstt_shape.specs.declared.records.Time.{Time}

-- the numbers of the items that pass a test, from this number on
abbrev pub numbers_from : {X : Type 0} → (X → Bool) → ℕ → List X → List ℕ
numbers_from test k [] = []
numbers_from test k (x ∷ xs) = (if test x then k ∷ [] else []) ++ numbers_from test (k + 1) xs

-- the numbers of the items that pass a test, in order
abbrev pub numbers_where : {X : Type 0} → (X → Bool) → List X → List ℕ
numbers_where test xs = numbers_from test 0 xs

-- the Ids that references name
abbrev pub named : List Ref → List (List ℕ)
named refs = map (λ r. r.id) refs

-- the groups that a time, a resource and an event name
abbrev pub groups_of_time : Time → List (List ℕ)
groups_of_time t = named (option_to_list t.week) ++ (named (option_to_list t.day) ++ named t.time_groups)

abbrev pub groups_of_resource : RawResource → List (List ℕ)
groups_of_resource r = named r.resource_groups

abbrev pub groups_of_event : RawEvent → List (List ℕ)
groups_of_event e = named (option_to_list e.course) ++ named e.event_groups

-- the numbers of the items that name a group
abbrev pub members : {X : Type 0} → (X → List (List ℕ)) → List X → List ℕ → List ℕ
members groups xs id = numbers_where (λ x. is_among_names id (groups x)) xs

-- the members of the group with an Id, and none where no group has it
abbrev pub members_in : {X : Type 0} → List (List ℕ) → (X → List (List ℕ)) → List X → List ℕ → List ℕ
members_in ids groups xs id = if is_among_names id ids then members groups xs id else []

-- the times, resources and events of the group with an Id, in the order of the archive
abbrev pub times_in : RawInstance → List ℕ → List ℕ
times_in i id = members_in (time_group_ids i) groups_of_time i.times id

abbrev pub resources_in : RawInstance → List ℕ → List ℕ
resources_in i id = members_in (resource_group_ids i) groups_of_resource i.resources id

abbrev pub events_in : RawInstance → List ℕ → List ℕ
events_in i id = members_in (event_group_ids i) groups_of_event i.events id

-- the numbers of what references name, leaving out what names nothing
abbrev pub numbers_of : List (List ℕ) → List Ref → List ℕ
numbers_of ids refs = filter_map (λ r. number_of r.id ids) refs

-- what is listed, with repeats: the members of each group in turn, and then what is listed singly
abbrev pub listed : (List ℕ → List ℕ) → List (List ℕ) → List Ref → List Ref → List ℕ
listed in_group ids groups singles = flat_map (λ g. in_group g.id) groups ++ numbers_of ids singles

abbrev pub listed_times : RawInstance → List Ref → List Ref → List ℕ
listed_times i groups times = listed (times_in i) (time_ids i) groups times

abbrev pub listed_resources : RawInstance → List Ref → List Ref → List ℕ
listed_resources i groups resources = listed (resources_in i) (resource_ids i) groups resources

abbrev pub listed_events : RawInstance → List Ref → List Ref → List ℕ
listed_events i groups events = listed (events_in i) (event_ids i) groups events

-- the numbers of a list, each at its first mention
abbrev pub first_mentions : List ℕ → List ℕ
first_mentions [] = []
first_mentions (n ∷ ns) = n ∷ filter (λ m. not (m == n)) (first_mentions ns)

-- the set of these numbers, of a given size
abbrev pub set_of : ℕ → List ℕ → List Bool
set_of size numbers = fold with_member (no_members size) numbers

abbrev pub time_set : RawInstance → List ℕ → List Bool
time_set i numbers = set_of (length i.times) numbers

abbrev pub resource_set : RawInstance → List ℕ → List Bool
resource_set i numbers = set_of (length i.resources) numbers

abbrev pub event_set : RawInstance → List ℕ → List Bool
event_set i numbers = set_of (length i.events) numbers
