-- The meets of a state: there are no more than all events last together, and each is no longer than
-- an event may be.
use Rattle.std.proofs.Common.{◌≡◌, sym, refl, ℕ, ◌*◌, ◌<◌, ◌≤◌, ◌==◌, Option, Some, None, List, length, get_or, All}
use Rattle.std.proofs.Common.{arith, count_by, sum_by, slice_get, subst}
use Rattle.std.specs.List.{range_with_len}
use Rattle.std.specs.Option.{option_map_or}
use Rattle.std.proofs.lemmas.List.Sums.{sum_by-le-sum_by}
use Rattle.std.proofs.lemmas.Option.{slice_get_within}
use Rattle.khe_base.specs.declared.limits.TheConstants.{DURATION, NUMBER}
use Rattle.khe_instance.specs.Lookups.{duration_at}
use Rattle.khe_instance.specs.Running.{meets_of}
use Rattle.khe_instance.specs.States.{IsTold}
use Rattle.khe_instance.specs.WellMade.{AreWellMade}
use Rattle.khe_instance.specs.declared.parts.EventInfo.{EventInfo}
use Rattle.khe_instance.specs.declared.parts.Parts.{Parts}
use Rattle.khe_instance.specs.declared.states.Meet.{Meet}
use Rattle.khe_instance.specs.declared.states.Task.{Task}
use Rattle.khe_instance.proofs.DutiesLemmas.{by_events, event_meets, length-le-sum_by, numbered-sum, within}
use Rattle.khe_instance.proofs.MadeLemmas.{event_made}

-- one for an event that is there
abbrev there_once : Option EventInfo → ℕ
there_once event = option_map_or (λ _. 1) event 0

module _ (p : Parts) (ms : List Meet) (ts : List Task) (made : AreWellMade p) (told : IsTold p ms ts) where
  one_event : (e : ℕ) → count_by (λ m. m.event.0 == e) ms * there_once (slice_get p.events e) ≤ duration_at p.events e
  one_event e = by (slice_get p.events e) refl
    where
      by : (o : Option EventInfo) → slice_get p.events e ≡ o
          → count_by (λ m. m.event.0 == e) ms * there_once o ≤ option_map_or (λ event. event.duration) o 0
      by None is = omega arith
      by (Some event) is =
          let few : count_by (λ m. m.event.0 == e) ms ≤ event.duration = event_meets p ms ts told e event is in
          omega arith

  pub few-meets : length ms ≤ DURATION
  few-meets =
      let n = length p.events in
      let below : All (λ m. m.event.0 < n) ms = λ k d l. slice_get_within p.events (get_or ms k d).event.0
      ((told.meets k d l).slot.0) ((told.meets k d l).slot.1) in
      let each : All (λ m. 1 ≤ there_once (slice_get p.events m.event.0)) ms =
      λ k d l. subst (λ o. 1 ≤ there_once o) (sym ((told.meets k d l).slot.1)) (omega arith) in
      let all : length ms ≤ sum_by (λ m. there_once (slice_get p.events m.event.0)) ms =
      length-le-sum_by (λ m. there_once (slice_get p.events m.event.0)) ms each in
      let sorted = by_events (λ e. there_once (slice_get p.events e)) n ms below in
      let most : sum_by (λ e. count_by (λ m. m.event.0 == e) ms * there_once (slice_get p.events e))
      (range_with_len 0 n) ≤ sum_by (duration_at p.events) (range_with_len 0 n) =
      sum_by-le-sum_by (λ e. count_by (λ m. m.event.0 == e) ms * there_once (slice_get p.events e))
      (duration_at p.events) (range_with_len 0 n) one_event in
      let whole : sum_by (duration_at p.events) (range_with_len 0 n) ≡ sum_by (λ e. e.duration) p.events =
      numbered-sum (λ e. e.duration) p.events in
      let limit : sum_by (λ e. e.duration) p.events ≤ DURATION = made.limits.duration in
      omega arith

  pub short-meets : All (λ m. m.duration ≤ NUMBER) ms
  short-meets k d l =
      let m = get_or ms k d in
      let meet = told.meets k d l in
      let event = meet.slot.0 in
      let together : sum_by (λ x. x.duration) (meets_of m.event.0 ms) ≤ event.duration =
      told.durations m.event.0 event meet.slot.1 in
      let few : event.duration ≤ NUMBER = (event_made p made m.event.0 event meet.slot.1).duration.1 in
      let part : m.duration ≤ sum_by (λ x. x.duration) (meets_of m.event.0 ms) = within m.event.0 ms k d l refl in
      omega arith
