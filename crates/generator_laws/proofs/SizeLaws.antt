-- How many parts of each sort the instance that is made has.
use Rattle.std.proofs.Common.{ℕ, ◌≡◌, ◌+◌, ◌*◌, ◌≤◌, List, [], ◌∷◌, ◌++◌, All, length}
use Rattle.std.proofs.Common.{refl, sym, ap, subst, ◌∙◌, arith, length-append}
use Rattle.std.specs.Prelude.{codes}
use Rattle.std.proofs.lemmas.List.{length-map}
use Rattle.std.proofs.lemmas.List.Sums.{sum_by-le}
use Rattle.xhstt_shape.specs.declared.records.RawEvent.{RawEvent}
use Rattle.xhstt_resolve.specs.Limits.{total_duration, task_count}
use Rattle.xhstt_resolve.specs.Parts.{places_of}
use Rattle.archive_generator.specs.declared.drawing.DrawnEvent.{DrawnEvent}
use Rattle.archive_generator.specs.Constraints as constraints
use Rattle.archive_generator.specs.Events as events
use Rattle.archive_generator.specs.Job as job
use Rattle.archive_generator.specs.Made as made
use Rattle.archive_generator.proofs.WellFormed.{IsShort}
use Rattle.generator_laws.proofs.DrawLaws.{AreDrawn}
use Rattle.generator_laws.proofs.EventLaws.{IsOne, all_events}
use Rattle.generator_laws.proofs.IdLaws as id
use Rattle.generator_laws.proofs.IdLaws.{IsSize, row, day_row, resource_rows}
use Rattle.generator_laws.proofs.NumberLaws.{row_length}

module _ (size : ℕ) (es : List DrawnEvent) where
  pub time_count : length (made.instance size es).times ≡ 40
  time_count = sym (length-map (made.instance size es).times (λ t. t.id.text)) ∙ ap length (id.time_ids size es)
      ∙ row_length (codes "t") 40

  pub time_group_count : length (made.instance size es).time_groups ≡ 6
  time_group_count = sym (length-map (made.instance size es).time_groups (λ g. g.id.text))
      ∙ ap length (id.time_group_ids size es) ∙ length-append day_row (codes "early" ∷ [])
      ∙ ap (λ n. n + 1) (row_length (codes "d") 5)

  pub type_count : length (made.instance size es).resource_types ≡ 3
  type_count = sym (length-map (made.instance size es).resource_types (λ t. t.id.text))
      ∙ ap length (id.resource_type_ids size es)

  pub resource_group_count : length (made.instance size es).resource_groups ≡ 3
  resource_group_count = sym (length-map (made.instance size es).resource_groups (λ g. g.id.text))
      ∙ ap length (id.resource_group_ids size es)

  rows : length (resource_rows size) ≡ job.resource_count size
  rows =
      let p = row (codes "p") (job.teachers size) in
      let c = row (codes "c") (job.classes size) in
      let q = row (codes "q") (job.rooms size) in
      length-append (p ++ c) q ∙ ap (λ n. n + length q) (length-append p c)
      ∙ (λ i. row_length (codes "p") (job.teachers size) i + row_length (codes "c") (job.classes size) i
      + row_length (codes "q") (job.rooms size) i)

  resource_count_is : length (made.instance size es).resources ≡ job.resource_count size
  resource_count_is = sym (length-map (made.instance size es).resources (λ r. r.id.text))
      ∙ ap length (id.resource_ids size es) ∙ rows

  pub resource_count : IsSize size → length (made.instance size es).resources ≤ 800
  resource_count s = let few = s.few in let is = resource_count_is in
      subst (λ n. n ≤ 800) (sym is) (omega arith)

  -- at most one group for two events, and that of all events
  pub event_group_count : IsSize size → length (made.instance size es).event_groups ≤ 1001
  event_group_count s =
      let few = s.few in
      let is : length (made.instance size es).event_groups
      ≡ length (codes "all" ∷ row (codes "h") (events.halves size)) =
      sym (length-map (made.instance size es).event_groups (λ g. g.id.text)) ∙ ap length (id.event_group_ids size es) in
      let halves = row_length (codes "h") (events.halves size) in
      omega arith

  pub constraint_count : length (made.instance size es).constraints ≡ 16
  unfolding made.instance constraints.constraints constraints.event_constraints constraints.part_constraints
      constraints.group_constraints constraints.resource_constraints constraints.load_constraints
  constraint_count = refl

  module _ (s : IsSize size) (drawn : AreDrawn size es) where
    pub event_count : length (made.instance size es).events ≤ 2000
    event_count =
        let few = s.few in
        let is : length (made.instance size es).events ≡ size =
        sym (length-map (made.instance size es).events (λ e. e.id.text)) ∙ ap length (id.event_ids size es drawn)
        ∙ row_length (codes "e") size in
        omega arith

    -- durations and places

    short : (e : DrawnEvent) → IsOne size e → (events.event size e).duration ≤ 3
    unfolding events.event
    short e one = one.short.1

    shorts : (e : DrawnEvent) → IsOne size e → IsShort (events.event size e).duration
    unfolding events.event
    shorts e one = one.short

    pub durations : All (λ (e : RawEvent). IsShort e.duration) (made.instance size es).events
    durations = all_events (λ (e : RawEvent). IsShort e.duration) size es drawn shorts

    -- all events together last at most 6000 times, and take their three places for as long
    pub duration_sum : total_duration (made.instance size es) ≤ 6000
    duration_sum =
        let i = made.instance size es in
        let each = all_events (λ (e : RawEvent). e.duration ≤ 3) size es drawn short in
        let sum = sum_by-le (λ (e : RawEvent). e.duration) 3 i.events each in
        let few = event_count in
        omega arith

    three_places : (e : DrawnEvent) → length (places_of (made.instance size es) (events.event size e)) ≡ 3
    unfolding events.event events.places
    three_places e = refl

    tasks : (e : DrawnEvent) → IsOne size e
        → (events.event size e).duration * length (places_of (made.instance size es) (events.event size e)) ≤ 9
    tasks e one =
        let few = short e one in
        subst (λ n. (events.event size e).duration * n ≤ 9) (sym (three_places e)) (omega arith)

    pub task_sum : task_count (made.instance size es) ≤ 18000
    task_sum =
        let i = made.instance size es in
        let f = λ (e : RawEvent). e.duration * length (places_of i e) in
        let each = all_events (λ (e : RawEvent). f e ≤ 9) size es drawn tasks in
        let sum = sum_by-le f 9 i.events each in
        let few = event_count in
        omega arith

    -- each event lists three resources
    three_resources : (e : DrawnEvent) → IsOne size e → length (events.event size e).resources ≤ 3
    unfolding events.event events.places
    three_resources e one = omega arith

    pub few_resources : All (λ (e : RawEvent). length e.resources ≤ 3) (made.instance size es).events
    few_resources = all_events (λ (e : RawEvent). length e.resources ≤ 3) size es drawn three_resources

    pub cell_count : length (made.instance size es).resources * length (made.instance size es).times ≤ 32000
    cell_count =
        let few = resource_count s in
        subst (λ n. length (made.instance size es).resources * n ≤ 32000) (sym time_count) (omega arith)
