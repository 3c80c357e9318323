-- The deviations at an event group, by the list of its events.
use Rattle.std.specs.Prelude.{ℕ, Bool, not, ◌&&◌, List, count_by}
use Rattle.std.specs.List.{list_any, list_all, sum_by, range_with_len}
use Rattle.khe_base.specs.Bounds.{count_outside}
use Rattle.khe_instance.specs.EventDeviation.{duties_at, starts_in}
use Rattle.khe_instance.specs.Lookups.{is_role, places_at, role_at}
use Rattle.khe_instance.specs.Running.{is_resource, meets_of, event_runs}
use Rattle.khe_instance.specs.declared.parts.EventInfo.{EventInfo}
use Rattle.khe_instance.specs.declared.rules.Spread.{Spread}
use Rattle.khe_instance.specs.declared.states.Duty.{Duty}
use Rattle.khe_instance.specs.declared.states.Meet.{Meet}

-- whether some of the duties have the resource
abbrev pub some_has : List Duty → ℕ → Bool
some_has ds r = list_any (λ d. is_resource r d.resource) ds

-- whether a resource has a duty in the role at a place of an event, and at the event
abbrev pub has_duty_at : List EventInfo → List Duty → List ℕ → ℕ → ℕ → ℕ → Bool
has_duty_at infos ds role r e k = is_role role (role_at infos e k) && some_has (duties_at e k ds) r

abbrev pub has_duty : List EventInfo → List Duty → List ℕ → ℕ → ℕ → Bool
has_duty infos ds role r e = list_any (has_duty_at infos ds role r e) (range_with_len 0 (places_at infos e))

-- whether a resource has a duty in the role at some of the events
abbrev pub has_duty_among : List EventInfo → List Duty → List ℕ → List ℕ → ℕ → Bool
has_duty_among infos ds role events r = list_any (has_duty infos ds role r) events

-- how many meets of an event start in a set of times
abbrev pub starting_at : List Meet → List Bool → ℕ → ℕ
starting_at meets times e = count_by (λ m. starts_in times m.start) (meets_of e meets)

-- how many meets of the events start in a set of times
abbrev pub starting_in : List Meet → List Bool → List ℕ → ℕ
starting_in meets times events = sum_by (starting_at meets times) events

-- by how many too few or too many start in the listed time groups
abbrev pub spread_over : List Meet → List Spread → List ℕ → ℕ
spread_over meets spreads events = sum_by (λ s. count_outside (starting_in meets s.group events) s.min s.max) spreads

-- whether some, and whether all of the events run at a time
abbrev pub some_run : List Meet → List ℕ → ℕ → Bool
some_run meets events t = list_any (event_runs meets t) events

abbrev pub all_run : List Meet → List ℕ → ℕ → Bool
all_run meets events t = list_all (event_runs meets t) events

-- at how many times some of the events run and some do not
abbrev pub apart_at : List Meet → List ℕ → ℕ → ℕ
apart_at meets events times = count_by (λ t. some_run meets events t && not (all_run meets events t))
    (range_with_len 0 times)
