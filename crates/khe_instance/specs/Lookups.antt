-- The duration and the places of the event with a number, and the role of a place.
use Rattle.std.specs.Prelude.{ℕ, Bool, false, Option, Some, None, List, length, slice_get}
use Rattle.std.specs.Option.{option_and_then, option_map_or}
use Rattle.std.specs.Str.{bytes_eq}
use Rattle.khe_instance.specs.declared.parts.EventInfo.{EventInfo}
use Rattle.khe_instance.specs.declared.parts.Place.{Place}

-- the duration of an event
abbrev pub duration_at : List EventInfo → ℕ → ℕ
duration_at events e = option_map_or (λ event. event.duration) (slice_get events e) 0

-- how many places an event has
abbrev pub places_at : List EventInfo → ℕ → ℕ
places_at events e = option_map_or (λ event. length event.places) (slice_get events e) 0

-- a place of an event
abbrev pub place_at : List EventInfo → ℕ → ℕ → Option Place
place_at events e k = option_and_then (λ event. slice_get event.places k) (slice_get events e)

-- the role of a place of an event
abbrev pub role_at : List EventInfo → ℕ → ℕ → Option (List ℕ)
role_at events e place = option_and_then (λ event. option_and_then (λ p. p.role) (slice_get event.places place))
    (slice_get events e)

-- whether an optional role is this one
abbrev pub is_role : List ℕ → Option (List ℕ) → Bool
is_role role None = false
is_role role (Some other) = bytes_eq role other
