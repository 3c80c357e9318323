-- What a slot that becomes another does to the workloads that are kept and to the monitors on them.
use Rattle.std.proofs.Common.{ℕ, ◌≡◌, ◌≤◌, ◌<◌, ◌+◌, ◌*◌, ◌^◌, ◌∙◌, ◌⊎◌, inl, inr, zero, suc, Bool, true, Option}
use Rattle.std.proofs.Common.{Some, None, List, replicate, set, length, slice_get, slice_index, refl}
use Rattle.std.proofs.Common.{sym}
use Rattle.std.proofs.Common.{ap, subst, arith}
use Rattle.std.specs.Option.{option_map, option_map_or}
use Rattle.std.proofs.lemmas.List.{length-replicate}
use Rattle.std.proofs.lemmas.List.Elements.{All-get_or}
use Rattle.std.proofs.lemmas.Option.{none-some, same_Some, slice_get_within}
use Rattle.khe_base.specs.declared.limits.TheConstants.{GREATEST_DEVIATION, UNIT}
use Rattle.khe_base.specs.declared.numbers.EventId.{EventId}
use Rattle.khe_base.specs.declared.numbers.ResourceId.{ResourceId}
use Rattle.khe_instance.specs.ResourceDeviation.{workload_in}
use Rattle.khe_instance.specs.Watching.{is_workload}
use Rattle.khe_instance.specs.WellMade.{AreWellMade}
use Rattle.khe_instance.specs.declared.parts.Parts.{Parts}
use Rattle.khe_instance.specs.declared.points.Point.{Point}
use Rattle.khe_instance.specs.declared.rules.Rule.{Rule}
use Rattle.khe_instance.specs.declared.states.Duty.{Duty}
use Rattle.khe_instance.proofs.MadeLemmas.{monitor_made}
use Rattle.khe_told.specs.Fits.{AreTold}
use Rattle.khe_told.specs.Lists.{duties_in}
use Rattle.khe_told.specs.Slots.{length_of, no_meets, no_slot, slot_at}
use Rattle.khe_told.specs.Turns.{AreWatchers, HasLoad, IsTurn, MovesLoad, SlotTurn, Watches, duration_of, turned}
use Rattle.khe_told.specs.declared.slots.Slot.{Slot}
use Rattle.khe_told.specs.declared.slots.Span.{Span}
use Rattle.khe_told.proofs.FrameLaws.{IsFrame, frames}
use Rattle.khe_told.proofs.FreeSlots.{told_opened}
use Rattle.resource_monitors.specs.Posts.{AreLists}
use Rattle.resource_monitors.specs.declared.posts.Post.{Post}
use Rattle.resource_monitors.proofs.FollowLaws.{of_after, of_before, same_places, slot_after, slot_before}
use Rattle.resource_monitors.proofs.StateLaws.{no_duties}
use Rattle.resource_monitors.specs.Loads.{AreAllExchanged, AreKept, AreOnMoved, CanExchange, HasLoads, IsOnLoad}
use Rattle.resource_monitors.specs.Loads.{IsOnMoved}
use Rattle.resource_monitors.specs.Loads.{is_on_workload, worths_of}
use Rattle.resource_monitors.proofs.LoadBoundLaws.{load_small}
use Rattle.resource_monitors.proofs.LoadLaws.{load_is, load_of, loads_exchanged}
use Rattle.resource_monitors.proofs.LoadValueLaws.{on_workload}

-- what is read from a turn
pub record Inputs : Type 0 where
  pub event : EventId
  pub less : ℕ
  pub more : ℕ
  pub before : List (Option ResourceId)
  pub later : List (Option ResourceId)

abbrev pub inputs_of : SlotTurn → Inputs
inputs_of t = record {
  event = t.before.event;
  less = length_of t.before;
  more = length_of t.after;
  before = t.before.given;
  later = t.after.given;
}

-- no workload is great
pub small_then : (p : Parts) → AreWellMade p → (s : List Slot) (loads : List ℕ) → AreTold p s → HasLoads p s loads
    → (r : ℕ) → slice_index loads r ≤ GREATEST_DEVIATION * p.unit
small_then p made s loads t h r = subst (λ n. n ≤ GREATEST_DEVIATION * p.unit) (sym (h.each r))
    (load_small p made s t r)

-- how long a meet is, where it has the same duration
pub lengths_of : (a b : Option Span) → option_map (λ (y : Span). y.duration) a ≡ option_map (λ (y : Span). y.duration) b
    → option_map_or (λ (y : Span). y.duration) a 0 ≡ option_map_or (λ (y : Span). y.duration) b 0
lengths_of None None e = refl
lengths_of None (Some y) e = absurd (none-some y.duration e)
lengths_of (Some x) None e = absurd (none-some x.duration (sym e))
lengths_of (Some x) (Some y) e = same_Some x.duration y.duration e

module _ (p : Parts) (made : AreWellMade p) (s : List Slot) (t : SlotTurn) (turns : IsTurn p s t) where
  same_event : t.after.event ≡ t.before.event
  same_event = ap (λ (x : Slot). x.event) turns.same

  pub known : t.before.event.0 < length p.events
  known = subst (λ (x : Slot). x.event.0 < length p.events) turns.slot
      (let f = All-get_or (IsFrame p.events) s t.before.meet.0 no_slot turns.there
      (frames p s made.first_meets turns.told.whose) in
      slice_get_within p.events (slot_at s t.before.meet.0).event.0 f.slot.0 f.slot.1)

  -- the workloads by the slot's places
  pub worth_before : (q : ℕ) → load_of p q t.before ≡ worths_of p t.before.event (length_of t.before) 0 t.before.given q
  worth_before q = load_is p q t.before (slot_before p made s t turns).empty

  worth_after : (q : ℕ) → load_of p q t.after ≡ worths_of p t.before.event (length_of t.after) 0 t.after.given q
  worth_after q = load_is p q t.after (slot_after p made s t turns).empty
      ∙ ap (λ e. worths_of p e (length_of t.after) 0 t.after.given q) same_event

  pub exchanged : (q : ℕ) → workload_in p.events p.unit (duties_in (turned s t)) q
      + worths_of p t.before.event (length_of t.before) 0 t.before.given q
      ≡ workload_in p.events p.unit (duties_in s) q
      + worths_of p t.before.event (length_of t.after) 0 t.after.given q
  exchanged q =
      let a = loads_exchanged p q s t.before.meet.0 t.after turns.there in
      let b : load_of p q (slot_at s t.before.meet.0) ≡ load_of p q t.before = ap (load_of p q) turns.slot in
      let c = worth_before q in
      let d = worth_after q in
      omega (arith, a, b, c, d)

  module _ (x : Inputs) (is : x ≡ inputs_of t) (loads : List ℕ) (has : HasLoads p s loads) where
    some : (q : ℕ) → worths_of p t.before.event (length_of t.before) 0 t.before.given q ≤ slice_index loads q
    some q =
        let a = has.each q in
        let b : workload_in p.events p.unit (duties_in (set s t.before.meet.0 no_slot)) q
        + load_of p q (slot_at s t.before.meet.0) ≡ workload_in p.events p.unit (duties_in s) q + 0 =
        loads_exchanged p q s t.before.meet.0 no_slot turns.there in
        let c : load_of p q (slot_at s t.before.meet.0) ≡ load_of p q t.before = ap (load_of p q) turns.slot in
        let d = worth_before q in
        omega (arith, a, b, c, d)

    room : (q : ℕ) → slice_index loads q + worths_of p t.before.event (length_of t.after) 0 t.after.given q < 2 ^ 128
    room q = by _ _ _ _ p.unit (has.each q) (load_small p made s turns.told q)
        (load_small p made (turned s t) turns.later q) (exchanged q) made.limits.unit (some q)
      where
        by : (a b c d u : ℕ) → slice_index loads q ≡ a → a ≤ GREATEST_DEVIATION * u → b ≤ GREATEST_DEVIATION * u
            → b + c ≡ a + d → u ≤ UNIT → c ≤ slice_index loads q → slice_index loads q + d < 2 ^ 128
        by a b c d u e f g h l m = omega (arith, e, f, g, h, l, m)

    pub can_exchange : CanExchange p x.event x.less x.more x.before x.later loads
    can_exchange = subst (λ (z : Inputs). CanExchange p z.event z.less z.more z.before z.later loads) (sym is)
        (record {
          known = known;
          resources = has.resources;
          before_of = of_before p made s t turns;
          later_of = of_after p made s t turns;
          places = same_places p made s t turns;
          some = some;
          room = room;
        })

    pub loads_then : (loads2 : List ℕ) → length loads2 ≡ length loads
        → AreAllExchanged p x.event x.less x.more x.before x.later loads loads2 → HasLoads p (turned s t) loads2
    loads_then loads2 same h = record {
      resources = same ∙ has.resources;
      each = λ q. (let a = has.each q in
          let b = exchanged q in
          let c : slice_index loads2 q + worths_of p t.before.event (length_of t.before) 0 t.before.given q
          ≡ slice_index loads q + worths_of p t.before.event (length_of t.after) 0 t.after.given q =
          subst (λ (z : Inputs). slice_index loads2 q + worths_of p z.event z.less 0 z.before q
          ≡ slice_index loads q + worths_of p z.event z.more 0 z.later q) is (h q) in
          omega (arith, a, b, c));
    }

  -- where nothing is given otherwise, nor for another duration
  pub loads_kept : (loads : List ℕ) → HasLoads p s loads → t.before.given ≡ t.after.given
      → duration_of t.before ≡ duration_of t.after → HasLoads p (turned s t) loads
  loads_kept loads has given durations = record {
    resources = has.resources;
    each = λ q. (let a = has.each q in
        let b = exchanged q in
        let c : worths_of p t.before.event (length_of t.before) 0 t.before.given q
        ≡ worths_of p t.before.event (length_of t.after) 0 t.after.given q =
        λ i. worths_of p t.before.event (lengths_of t.before.span t.after.span durations i) 0 (given i) q in
        omega (arith, a, b, c));
  }

  -- who waits anew watches the turn
  pub watchers_then : (x : Inputs) → x ≡ inputs_of t → (old new : ℕ → Bool)
      → AreOnMoved p x.less x.more x.before x.later old new → AreWatchers p t old new
  watchers_then x is old new h i e = by (subst (λ (z : Inputs). (old i ≡ true)
      ⊎ IsOnMoved p z.less z.more z.before z.later i) is (h i e))
    where
      moves : (w : IsOnMoved p (length_of t.before) (length_of t.after) t.before.given t.after.given i)
          → MovesLoad t w.number
      moves w = λ same durations. w.moved
          (same_Some w.old_place w.new_place (sym w.old_there ∙ same ∙ w.new_there))
          (lengths_of t.before.span t.after.span durations)

      watch : (y : Slot) (j : ℕ) (o : Option ResourceId) → slice_get y.given j ≡ Some o → IsOnLoad p o i → MovesLoad t j
          → ((rule : Rule) (point : Point) → HasLoad rule point y j
          → HasLoad rule point t.before j ⊎ HasLoad rule point t.after j) → Watches p t i
      watch y j o at a moved side =
          let on = on_workload p a.monitor (monitor_made p made i a.monitor a.there) a.served in (
            a.monitor,
            on.constraint,
            a.there,
            on.there,
            inr (inr (
              j,
              moved,
              side on.constraint.rule a.monitor.point
                  (a.resource, at ∙ ap Some a.given, a.own, ap is_workload on.rule),
            )),
          )

      by : (old i ≡ true) ⊎ IsOnMoved p (length_of t.before) (length_of t.after) t.before.given t.after.given i
          → (old i ≡ true) ⊎ Watches p t i
      by (inl w) = inl w
      by (inr w) = inr (either w.own)
        where
          either : IsOnLoad p w.old_place i ⊎ IsOnLoad p w.new_place i → Watches p t i
          either (inl a) = watch t.before w.number w.old_place w.old_there a (moves w) (λ rule point h. inl h)
          either (inr a) = watch t.after w.number w.new_place w.new_there a (moves w) (λ rule point h. inr h)

-- what is kept while there are no meets
pub kept_opened : (p : Parts) (loads : List ℕ) (lists : List (List Post)) → loads ≡ replicate (length p.resources) 0
    → AreLists is_on_workload (length p.resources) p.monitors lists → AreKept p (no_meets p) loads lists
kept_opened p loads lists b c = record {
  told = told_opened p;
  loads_all = record {
    resources = ap length b ∙ length-replicate (length p.resources) 0;
    each = λ r. (ap (λ xs. slice_index xs r) b ∙ none (length p.resources) r
        ∙ sym (ap (λ (ds : List Duty). workload_in p.events p.unit ds r) (no_duties p)));
  };
  lists_all = c;
}
  where
    none : (n r : ℕ) → slice_index (replicate n 0) r ≡ 0
    none zero r = refl
    none (suc n) zero = refl
    none (suc n) (suc r) = none n r
