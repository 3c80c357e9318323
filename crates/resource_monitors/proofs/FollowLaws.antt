-- What a slot that becomes another does to the counts and the monitors.
use Rattle.std.proofs.Common.{ℕ, ◌≡◌, ◌≤◌, ◌<◌, ◌+◌, ◌-◌, ◌^◌, ◌∙◌, ◌⊎◌, inl, inr, Bool, true, false, Option, Some}
use Rattle.std.proofs.Common.{None}
use Rattle.std.proofs.Common.{List, length, is_some, set, slice_get, refl, sym, ap, subst, arith}
use Rattle.std.proofs.Common.{get_or-set_same}
use Rattle.std.specs.List.{list_any, range_with_len}
use Rattle.std.proofs.lemmas.Bool.{true≢false}
use Rattle.std.proofs.lemmas.List.{length-replicate, length-set}
use Rattle.std.proofs.lemmas.List.Elements.{All-get_or}
use Rattle.std.proofs.lemmas.Option.{none-some, same_Some}
use Rattle.khe_base.specs.declared.limits.TheConstants.{GREATEST_COUNT, TASKS}
use Rattle.khe_base.specs.declared.numbers.ResourceId.{ResourceId}
use Rattle.khe_base.specs.declared.numbers.TimeId.{TimeId}
use Rattle.khe_instance.specs.Running.{running_tasks}
use Rattle.khe_instance.specs.Watching.{lists_time}
use Rattle.khe_instance.specs.WellMade.{AreWellMade}
use Rattle.khe_instance.specs.declared.parts.Parts.{Parts}
use Rattle.khe_instance.specs.declared.rules.Rule.{Rule}
use Rattle.khe_told.specs.Fits.{IsSlot}
use Rattle.khe_told.specs.Lists.{duties_in}
use Rattle.khe_told.specs.Slots.{no_slot, slot_at}
use Rattle.khe_told.specs.Turns.{AreWatchers, HasCell, IsTurn, SlotTurn, Watches, turned}
use Rattle.khe_told.specs.Watchers.{times_of}
use Rattle.khe_told.specs.declared.slots.Slot.{Slot}
use Rattle.khe_told.specs.declared.slots.Span.{Span}
use Rattle.timetables.specs.Counts.{count_at}
use Rattle.resource_monitors.specs.Runs.{AreAtMoved, AreExchanged, AreOf, CanExchange, IsAtMoved, IsAtRun}
use Rattle.resource_monitors.specs.Runs.{cells_of, run_of}
use Rattle.resource_monitors.specs.declared.runs.Run.{Run}
use Rattle.resource_monitors.proofs.RunLaws.{below, meet_there, run_within}
use Rattle.resource_monitors.proofs.StateLaws.{at_slot, others_few, tasks_few}
use Rattle.resource_monitors.proofs.TurnLaws.{cell_in, tasks_exchanged}

-- what is read from a turn
pub record Inputs : Type 0 where
  pub emptied : Option Run
  pub filled : Option Run
  pub before : List (Option ResourceId)
  pub later : List (Option ResourceId)

abbrev pub inputs_of : SlotTurn → Inputs
inputs_of t = record {
  emptied = run_of t.before.span;
  filled = run_of t.after.span;
  before = t.before.given;
  later = t.after.given;
}

-- the listed times of a meet are those of its run
listed_times : (rule : Rule) (span : Option Span) (run : Run) → run_of span ≡ Some run
    → list_any (lists_time rule) (range_with_len run.start (run.end - run.start)) ≡ true
    → (x : Slot) → x.span ≡ span → list_any (lists_time rule) (times_of x) ≡ true
listed_times rule None run e h x is = absurd (none-some run e)
listed_times rule (Some y) run e h x is = by y.duration y.start e is
  where
    by : (d : ℕ) (o : Option TimeId) → run_of (Some (record { duration = d; start = o })) ≡ Some run
        → x.span ≡ Some (record { duration = d; start = o }) → list_any (lists_time rule) (times_of x) ≡ true
    by d None e is = absurd (none-some run e)
    by d (Some t) e is =
        ap (λ o. list_any (lists_time rule) (times_of (record x { span = o }))) is
        ∙ ap (λ n. list_any (lists_time rule) (range_with_len t.0 n)) (let z : d ≡ t.0 + d - t.0 = omega arith in z)
        ∙ ap (λ (r : Run). list_any (lists_time rule) (range_with_len r.start (r.end - r.start))) (same_Some _ run e)
        ∙ h

module _ (p : Parts) (made : AreWellMade p) (s : List Slot) (t : SlotTurn) (turns : IsTurn p s t) where
  abbrev pub k : ℕ
  k = t.before.meet.0

  pub here : slot_at (turned s t) k ≡ t.after
  here = get_or-set_same s k t.after no_slot turns.there

  pub there : k < length (turned s t)
  there = let z = length-set s k t.after in let w = turns.there in omega (arith, z, w)

  pub slot_before : IsSlot p t.before
  slot_before = subst (IsSlot p) turns.slot (All-get_or (IsSlot p) s k no_slot turns.there turns.told.slots)

  pub slot_after : IsSlot p t.after
  slot_after = subst (IsSlot p) here (All-get_or (IsSlot p) (turned s t) k no_slot there turns.later.slots)

  pub below_before : (span : Option Span) → span ≡ t.before.span → (y : Span) (q : TimeId) → span ≡ Some y
      → y.start ≡ Some q → q.0 + y.duration < 2 ^ 32
  below_before = below p made t.before slot_before

  pub below_after : (span : Option Span) → span ≡ t.after.span → (y : Span) (q : TimeId) → span ≡ Some y
      → y.start ≡ Some q → q.0 + y.duration < 2 ^ 32
  below_after = below p made t.after slot_after

  pub exchanged : (q r : ℕ) → running_tasks (duties_in (turned s t)) q r + cell_in t.before q r
      ≡ running_tasks (duties_in s) q r + cell_in t.after q r
  exchanged q r = subst (λ x. running_tasks (duties_in (turned s t)) q r + cell_in x q r
      ≡ running_tasks (duties_in s) q r + cell_in t.after q r) turns.slot
      (tasks_exchanged s k t.after turns.there q r)

  -- a slot without a start before and after
  pub counts_none : (emptied filled : Option Run) → emptied ≡ run_of t.before.span → filled ≡ run_of t.after.span
      → is_some emptied ≡ false → is_some filled ≡ false → (q r : ℕ)
      → running_tasks (duties_in (turned s t)) q r ≡ running_tasks (duties_in s) q r
  counts_none emptied filled e f a b q r =
      let c = exchanged q r in
      let d : cell_in t.before q r ≡ 0 = none (run_of t.before.span) t.before.given (sym (ap is_some e) ∙ a) in
      let g : cell_in t.after q r ≡ 0 = none (run_of t.after.span) t.after.given (sym (ap is_some f) ∙ b) in
      omega (arith, c, d, g)
    where
      none : (run : Option Run) (given : List (Option ResourceId)) → is_some run ≡ false → cells_of run given q r ≡ 0
      none None given h = refl
      none (Some y) given h = absurd (true≢false h)

  pub same_places : length t.after.given ≡ length t.before.given
  same_places = sym (length-replicate (length t.after.given) None) ∙ ap (λ (y : Slot). length y.given) turns.same
      ∙ length-replicate (length t.before.given) None

  pub of_before : AreOf t.before.given (length p.resources)
  of_before = subst (λ (y : Slot). AreOf y.given (length p.resources)) turns.slot
      (at_slot p made s turns.told k turns.there)

  pub of_after : AreOf t.after.given (length p.resources)
  of_after = subst (λ (y : Slot). AreOf y.given (length p.resources)) here
      (at_slot p made (turned s t) turns.later k there)

  module _ (x : Inputs) (is : x ≡ inputs_of t) (rows : List (List ℕ))
      (counts : (q r : ℕ) → count_at rows q r ≡ running_tasks (duties_in s) q r) where
    some : (q r : ℕ) → cell_in t.before q r ≤ count_at rows q r
    some q r =
        let a = counts q r in
        let b : running_tasks (duties_in (set s k no_slot)) q r + cell_in (slot_at s k) q r
        ≡ running_tasks (duties_in s) q r + 0 = tasks_exchanged s k no_slot turns.there q r in
        let c : cell_in (slot_at s k) q r ≡ cell_in t.before q r = ap (λ (y : Slot). cell_in y q r) turns.slot in
        omega (arith, a, b, c)

    room : (y : Run) (q r : ℕ) → run_of t.after.span ≡ Some y
        → count_at rows q r + length t.before.given ≤ GREATEST_COUNT + cell_in t.before q r
    room y q r e =
        let live = meet_there t.after.span y e in
        let a = counts q r in
        let b = exchanged q r in
        let c : running_tasks (duties_in (turned s t)) q r + length t.after.given ≤ TASKS + cell_in t.after q r =
        subst (λ (z : Slot). running_tasks (duties_in (turned s t)) q r + length z.given ≤ TASKS + cell_in z q r) here
        (others_few p made (turned s t) turns.later k there live.0 (ap (λ (z : Slot). z.span) here ∙ live.1) q r) in
        let d = same_places in
        omega (arith, a, b, c, d)

    pub can_exchange : CanExchange p x.emptied x.filled x.before x.later (count_at rows)
    can_exchange = subst (λ (z : Inputs). CanExchange p z.emptied z.filled z.before z.later (count_at rows)) (sym is)
        (record {
          emptied_within = λ y e. run_within p t.before slot_before y e;
          filled_within = λ y e. run_within p t.after slot_after y e;
          before_of = of_before;
          later_of = of_after;
          places = same_places;
          some = some;
          few = λ q r. (let a = counts q r in let b = tasks_few p made s turns.told q r in omega (arith, a, b));
          room = room;
        })

    pub counts_then : (rows2 : List (List ℕ))
        → AreExchanged x.emptied x.filled x.before x.later (count_at rows) (count_at rows2) → (q r : ℕ)
        → count_at rows2 q r ≡ running_tasks (duties_in (turned s t)) q r
    counts_then rows2 h q r =
        let a = counts q r in
        let b = exchanged q r in
        let c : count_at rows2 q r + cell_in t.before q r ≡ count_at rows q r + cell_in t.after q r =
        subst (λ (z : Inputs). count_at rows2 q r + cells_of z.emptied z.before q r
        ≡ count_at rows q r + cells_of z.filled z.later q r) is (h q r) in
        omega (arith, a, b, c)

  -- who waits anew watches the turn
  pub watchers_then : (x : Inputs) → x ≡ inputs_of t → (old new : ℕ → Bool)
      → AreAtMoved p x.emptied x.filled x.before x.later old new → AreWatchers p t old new
  watchers_then x is old new h i e = by (subst (λ (z : Inputs). (old i ≡ true)
      ⊎ IsAtMoved p z.emptied z.filled z.before z.later i) is (h i e))
    where
      cell : (y : Slot) (j : ℕ) (o : Option ResourceId) → slice_get y.given j ≡ Some o
          → (w : IsAtRun p o (run_of y.span) i) → HasCell w.constraint.rule w.monitor.point y j
      cell y j o at w = (
        w.resource,
        at ∙ ap Some w.given,
        w.own,
        listed_times w.constraint.rule y.span w.times w.runs w.lists y refl,
      )

      by : (old i ≡ true) ⊎ IsAtMoved p (run_of t.before.span) (run_of t.after.span) t.before.given t.after.given i
          → (old i ≡ true) ⊎ Watches p t i
      by (inl w) = inl w
      by (inr w) = inr (found w.own)
        where
          found : IsAtRun p w.old_place (run_of t.before.span) i ⊎ IsAtRun p w.new_place (run_of t.after.span) i
              → Watches p t i
          found (inl a) = (
            a.monitor,
            a.constraint,
            a.there,
            a.ruled,
            inr (inl (
              w.number,
              (λ same spans. w.moved same (ap run_of spans)),
              inl (cell t.before w.number w.old_place w.old_there a),
            )),
          )
          found (inr a) = (
            a.monitor,
            a.constraint,
            a.there,
            a.ruled,
            inr (inl (
              w.number,
              (λ same spans. w.moved same (ap run_of spans)),
              inr (cell t.after w.number w.new_place w.new_there a),
            )),
          )
