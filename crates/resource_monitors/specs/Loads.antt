-- The load of a resource is what its tasks are worth together, in whole parts of one over the instance's unit. A
-- task is worth its place's workload for its meet's share of the event's duration.
use Rattle.std.specs.Prelude.{ℕ, ◌≡◌, ◌≤◌, ◌<◌, ◌+◌, ◌^◌, ◌⊎◌, Bool, true, false, if◌then◌else◌, Option, Some, None}
use Rattle.std.specs.Prelude.{List, []}
use Rattle.std.specs.Prelude.{◌∷◌, length, slice_get, slice_index}
use Rattle.std.specs.Option.{option_map_or}
use Rattle.khe_base.specs.declared.numbers.EventId.{EventId}
use Rattle.khe_base.specs.declared.numbers.ResourceId.{ResourceId}
use Rattle.khe_instance.specs.KindLaws.{is_kind}
use Rattle.khe_instance.specs.ResourceDeviation.{limit_workload, workload_in, workload_of}
use Rattle.khe_instance.specs.Running.{is_resource}
use Rattle.khe_instance.specs.Watching.{is_at}
use Rattle.khe_instance.specs.declared.parts.Parts.{Parts}
use Rattle.khe_instance.specs.declared.points.Monitor.{Monitor}
use Rattle.khe_instance.specs.declared.points.Point.{Point}
use Rattle.khe_instance.specs.declared.points.Point.TheVariants.{Resource}
use Rattle.khe_instance.specs.declared.rules.Kind.{Kind}
use Rattle.khe_instance.specs.declared.rules.Kind.TheVariants as kind
use Rattle.khe_instance.specs.declared.rules.Rule.{Rule}
use Rattle.khe_instance.specs.declared.rules.Rule.TheVariants.{LimitWorkload}
use Rattle.khe_told.specs.Fits.{AreTold}
use Rattle.khe_told.specs.Lists.{duties_in}
use Rattle.khe_told.specs.declared.slots.Slot.{Slot}
use Rattle.khe_instance.specs.declared.states.Meet.{Meet}
use Rattle.resource_monitors.specs.Posts.{AreLists, AreSame}
use Rattle.resource_monitors.specs.Runs.{AreOf}
use Rattle.resource_monitors.specs.declared.posts.Post.{Post}

abbrev pub is_on_workload : Kind → Bool
is_on_workload k = is_kind k kind.LimitWorkload

-- a meet of an event with a duration: its number and its start are worth nothing
abbrev pub meet_with : EventId → ℕ → Meet
meet_with e d = record { meet = record { 0 = 0 }; event = e; duration = d; start = None }

-- what its task at a place is worth, in parts of one over the unit
abbrev pub worth_at : Parts → EventId → ℕ → ℕ → ℕ
worth_at p e d place = workload_of p.events p.unit (record { meet = meet_with e d; place = place; resource = None })

-- a workload for each resource: that of its tasks
pub record HasLoads (p : Parts) (s : List Slot) (loads : List ℕ) : Type 0 where
  pub resources : length loads ≡ length p.resources
  pub each : (r : ℕ) → slice_index loads r ≡ workload_in p.events p.unit (duties_in s) r

-- what a rule on workloads measures of one, and a monitor of that of its resource
abbrev pub outside : Parts → Rule → ℕ → ℕ
outside p (LimitWorkload least greatest) load = limit_workload p.unit load least greatest
outside p _ load = 0

abbrev pub value_at : Parts → List ℕ → Rule → Point → ℕ
value_at p loads rule (Resource r) = outside p rule (slice_index loads r.0)
value_at p loads rule _ = 0

abbrev pub value_in : Parts → List ℕ → Monitor → ℕ
value_in p loads m = option_map_or (λ c. value_at p loads c.rule m.point) (slice_get p.constraints m.constraint) 0

-- what a task of a place adds to the workload of a resource
abbrev pub part_of : Option ResourceId → ℕ → ℕ → ℕ
part_of place worth q = if is_resource q place then worth else 0

-- what the tasks of such a meet are worth to a resource, by what its places from this one on are given
abbrev pub worths_of : Parts → EventId → ℕ → ℕ → List (Option ResourceId) → ℕ → ℕ
worths_of p e d place [] q = 0
worths_of p e d place (o ∷ given) q = part_of o (worth_at p e d place) q + worths_of p e d (place + 1) given q

-- there is room for the task's worth, or there is so much to take away
abbrev pub CanTurn : Bool → Option ResourceId → ℕ → List ℕ → Type 0
CanTurn true place worth loads = (r : ResourceId) → place ≡ Some r → slice_index loads r.0 + worth < 2 ^ 128
CanTurn false place worth loads = (r : ResourceId) → place ≡ Some r → worth ≤ slice_index loads r.0

-- the workloads rise by the task's worth, or fall by it
abbrev pub Turned : Bool → Option ResourceId → ℕ → List ℕ → List ℕ → Type 0
Turned true place worth old new = (q : ℕ) → slice_index new q ≡ slice_index old q + part_of place worth q
Turned false place worth old new = (q : ℕ) → slice_index old q ≡ slice_index new q + part_of place worth q

-- from what one task is worth to what another is
abbrev pub AreExchanged : Option ResourceId → Option ResourceId → ℕ → ℕ → List ℕ → List ℕ → Type 0
AreExchanged before later less more old new = (q : ℕ)
    → slice_index new q + part_of before less q ≡ slice_index old q + part_of later more q

-- these workloads can turn from what the tasks of one meet are worth to what those of another are
pub record CanExchange (p : Parts) (e : EventId) (less more : ℕ) (before later : List (Option ResourceId))
    (loads : List ℕ) : Type 0 where
  pub known : e.0 < length p.events
  pub resources : length loads ≡ length p.resources
  pub before_of : AreOf before (length p.resources)
  pub later_of : AreOf later (length p.resources)
  pub places : length later ≡ length before
  pub some : (q : ℕ) → worths_of p e less 0 before q ≤ slice_index loads q
  pub room : (q : ℕ) → slice_index loads q + worths_of p e more 0 later q < 2 ^ 128

-- from the one to the other
abbrev pub AreAllExchanged : Parts → EventId → ℕ → ℕ → List (Option ResourceId) → List (Option ResourceId) → List ℕ
    → List ℕ → Type 0
AreAllExchanged p e less more before later old new = (q : ℕ)
    → slice_index new q + worths_of p e less 0 before q ≡ slice_index old q + worths_of p e more 0 later q

-- a monitor on a workload that does not wait measures the same by both
abbrev pub AreMeasuredSame : Parts → (ℕ → Bool) → List ℕ → List ℕ → Type 0
AreMeasuredSame p waits old new = AreSame p is_on_workload waits (value_in p old) (value_in p new)

-- the monitor with a number is on the workload of what a place is given
pub record IsOnLoad (p : Parts) (place : Option ResourceId) (i : ℕ) : Type 0 where
  pub monitor : Monitor
  pub resource : ResourceId
  pub there : slice_get p.monitors i ≡ Some monitor
  pub served : is_on_workload monitor.kind ≡ true
  pub given : place ≡ Some resource
  pub own : is_at monitor.point resource.0 ≡ true

-- who waits and did not before is such a monitor
abbrev pub AreOnLoad : Parts → Option ResourceId → (ℕ → Bool) → (ℕ → Bool) → Type 0
AreOnLoad p place old new = (i : ℕ) → new i ≡ true → (old i ≡ true) ⊎ IsOnLoad p place i

-- or at what a place is given before or after, where that is something else or for another duration
abbrev pub AreOnEither : Parts → Option ResourceId → Option ResourceId → ℕ → ℕ → (ℕ → Bool) → (ℕ → Bool) → Type 0
AreOnEither p before later less more old new = (i : ℕ) → new i ≡ true
    → (old i ≡ true) ⊎ ((before ≡ later → less ≡ more → ⊥) × (IsOnLoad p before i ⊎ IsOnLoad p later i))

-- or at what is given before or after at one of several places
pub record IsOnMoved (p : Parts) (less more : ℕ) (before later : List (Option ResourceId)) (i : ℕ) : Type 0 where
  pub number : ℕ
  pub old_place : Option ResourceId
  pub new_place : Option ResourceId
  pub old_there : slice_get before number ≡ Some old_place
  pub new_there : slice_get later number ≡ Some new_place
  pub moved : old_place ≡ new_place → less ≡ more → ⊥
  pub own : IsOnLoad p old_place i ⊎ IsOnLoad p new_place i

abbrev pub AreOnMoved : Parts → ℕ → ℕ → List (Option ResourceId) → List (Option ResourceId) → (ℕ → Bool) → (ℕ → Bool)
    → Type 0
AreOnMoved p less more before later old new = (i : ℕ) → new i ≡ true
    → (old i ≡ true) ⊎ IsOnMoved p less more before later i

-- what the keeper keeps: the workloads of a told state of the instance, and the monitors on them
pub record AreKept (p : Parts) (s : List Slot) (loads : List ℕ) (lists : List (List Post)) : Type 0 where
  pub told : AreTold p s
  pub loads_all : HasLoads p s loads
  pub lists_all : AreLists is_on_workload (length p.resources) p.monitors lists
