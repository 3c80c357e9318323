-- The deviations of the ten kinds at events, event resources, event groups and pairs of events, each after the page
-- of its kind in the XHSTT format. A kind at an event is a sum over the event's own meets, and one at a place a sum
-- over that place's tasks. An order of two events deviates by 0 while either has no start; a time group that is
-- listed twice counts twice.
use Rattle.std.specs.Prelude.{ℕ, ◌+◌, ◌-◌, ◌==◌, pos, ◌-ℤ◌, Bool, true, false, not, ◌&&◌, ◌||◌, nat_lt, min, max}
use Rattle.std.specs.Prelude.{if◌then◌else◌, Option, Some, None, is_none, List, [], ◌∷◌, count_by}
use Rattle.std.specs.List.{filter, filter_map, fold, list_any, list_all, sum_by, range_with_len}
use Rattle.std.specs.Option.{option_map}
use Rattle.khe_base.specs.Bounds.{outside, count_outside}
use Rattle.khe_base.specs.IdSet.{has_member, members_of}
use Rattle.khe_base.specs.declared.numbers.ResourceId.{ResourceId}
use Rattle.khe_base.specs.declared.numbers.TimeId.{TimeId}
use Rattle.khe_instance.specs.Lookups.{role_at, is_role}
use Rattle.khe_instance.specs.Running.{is_resource, meets_of, event_runs}
use Rattle.khe_instance.specs.declared.states.Duty.{Duty}
use Rattle.khe_instance.specs.declared.parts.EventInfo.{EventInfo}
use Rattle.khe_instance.specs.declared.rules.Spread.{Spread}
use Rattle.khe_instance.specs.declared.states.Meet.{Meet}

-- the tasks at a place of an event
abbrev pub duties_at : ℕ → ℕ → List Duty → List Duty
duties_at e place ds = filter (λ d. (d.meet.event.0 == e) && (d.place == place)) ds

-- whether a start is given and is no member of a set of times
abbrev pub starts_outside : List Bool → Option TimeId → Bool
starts_outside times None = false
starts_outside times (Some s) = not (has_member times s.0)

-- whether a start is given and is a member of a set of times
abbrev pub starts_in : List Bool → Option TimeId → Bool
starts_in times None = false
starts_in times (Some s) = has_member times s.0

-- whether an optional number leaves every number, or is this one
abbrev pub allows : Option ℕ → ℕ → Bool
allows None n = true
allows (Some only) n = n == only

-- a duration without a start, and without a resource
abbrev pub unplaced_duration : Option TimeId → ℕ → ℕ
unplaced_duration start duration = if is_none start then duration else 0

abbrev pub unfilled_duration : Option ResourceId → ℕ → ℕ
unfilled_duration resource duration = if is_none resource then duration else 0

-- Assign Time at an event: the duration of its meets without a start
abbrev pub assign_time : List Meet → ℕ → ℕ
assign_time meets e = sum_by (λ m. unplaced_duration m.start m.duration) (meets_of e meets)

-- Assign Resource at a place of an event: the duration of its tasks without a resource
abbrev pub assign_resource : List Duty → ℕ → ℕ → ℕ
assign_resource ds e place = sum_by (λ d. unfilled_duration d.resource d.meet.duration) (duties_at e place ds)

-- whether a duration is too short or too long
abbrev pub is_unfit : ℕ → ℕ → ℕ → Bool
is_unfit least greatest duration = nat_lt duration least || nat_lt greatest duration

-- Split Events at an event: how many of its meets are too short or too long, and by how many it has
-- too few or too many
abbrev pub split_events : List Meet → ℕ → ℕ → ℕ → ℕ → ℕ → ℕ
split_events meets e min_duration max_duration min_amount max_amount =
    count_by (λ m. is_unfit min_duration max_duration m.duration) (meets_of e meets)
    + count_outside (sum_by (λ m. 1) (meets_of e meets)) min_amount max_amount

-- Distribute Split Events at an event: by how many it has too few or too many meets of a duration
abbrev pub distribute_split_events : List Meet → ℕ → ℕ → ℕ → ℕ → ℕ
distribute_split_events meets e duration least greatest =
    count_outside (count_by (λ m. m.duration == duration) (meets_of e meets)) least greatest

-- a duration with a start outside the preferred times, of one duration alone where that is given
abbrev pub misplaced_duration : List Bool → Option ℕ → Option TimeId → ℕ → ℕ
misplaced_duration times only start duration =
    if starts_outside times start && allows only duration then duration else 0

-- Prefer Times at an event: the duration of its meets with a start outside the preferred times
abbrev pub prefer_times : List Meet → ℕ → List Bool → Option ℕ → ℕ
prefer_times meets e times only = sum_by (λ m. misplaced_duration times only m.start m.duration) (meets_of e meets)

-- whether a resource is given and is no member of a set of resources
abbrev pub given_outside : List Bool → Option ResourceId → Bool
given_outside resources None = false
given_outside resources (Some r) = not (has_member resources r.0)

-- a duration with a resource outside the preferred ones
abbrev pub misfilled_duration : List Bool → Option ResourceId → ℕ → ℕ
misfilled_duration resources resource duration = if given_outside resources resource then duration else 0

-- Prefer Resources at a place of an event: the duration of its tasks with a resource outside the
-- preferred ones
abbrev pub prefer_resources : List Duty → ℕ → ℕ → List Bool → ℕ
prefer_resources ds e place resources = sum_by (λ d. misfilled_duration resources d.resource d.meet.duration)
    (duties_at e place ds)

-- Avoid Split Assignments at an event group: how many resources its events have in the role, less one
abbrev pub avoid_split_assignments : List EventInfo → ℕ → List Duty → List Bool → List ℕ → ℕ
avoid_split_assignments events resources ds group role =
    let there = filter (λ d. has_member group d.meet.event.0 && is_role role (role_at events d.meet.event.0 d.place))
    ds in
    count_by (λ r. list_any (λ d. is_resource r d.resource) there) (range_with_len 0 resources) - 1

-- Spread Events at an event group: for each listed time group, by how many too few or too many of
-- its events' meets start in it
abbrev pub spread_events : List Meet → List Bool → List Spread → ℕ
spread_events meets group spreads =
    sum_by (λ s. count_outside (count_by (λ m. has_member group m.event.0 && starts_in s.group m.start) meets) s.min
    s.max) spreads

-- whether some of the events of a group run and some do not, by which events run
abbrev pub runs_apart : (ℕ → Bool) → List Bool → Bool
runs_apart running group = list_any running (members_of group) && not (list_all running (members_of group))

-- Link Events at an event group: the number of times at which some of its events run and some do
-- not, by which events run at each time
abbrev pub unlinked_times : (ℕ → ℕ → Bool) → ℕ → List Bool → ℕ
unlinked_times running times group = count_by (λ t. runs_apart (running t) group) (range_with_len 0 times)

abbrev pub link_events : List Meet → ℕ → List Bool → ℕ
link_events meets times group = unlinked_times (event_runs meets) times group

-- the starts of an event's meets, and the numbers after their last times
abbrev pub starts_of : List Meet → ℕ → List ℕ
starts_of meets e = filter_map (λ m. option_map (λ s. s.0) m.start) (meets_of e meets)

abbrev pub ends_of : List Meet → ℕ → List ℕ
ends_of meets e = filter_map (λ m. option_map (λ s. s.0 + m.duration) m.start) (meets_of e meets)

-- how far the times from the last end to the first start lie outside the bounds, where there is an
-- end and a start; the start may come before the end
abbrev pub order_of : List ℕ → List ℕ → ℕ → ℕ → ℕ
order_of [] starts least greatest = 0
order_of (f ∷ ends) [] least greatest = 0
order_of (f ∷ ends) (s ∷ starts) least greatest =
    outside (pos (fold min s starts) -ℤ pos (fold max f ends)) (pos least) (pos greatest)

-- Order Events at a pair: how far the times between the end of the first event and the start of the
-- second lie outside the bounds; nothing while either has no start
abbrev pub order_events : List Meet → ℕ → ℕ → ℕ → ℕ → ℕ
order_events meets first second least greatest = order_of (ends_of meets first) (starts_of meets second) least greatest
