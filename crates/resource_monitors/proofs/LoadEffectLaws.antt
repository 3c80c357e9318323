-- What effects make of workloads, and whom they let wait.
use Rattle.std.proofs.Common.{ℕ, ◌≡◌, ◌≤◌, ◌<◌, ◌+◌, ◌*◌, ◌^◌, ◌∙◌, ◌⊎◌, inl, inr, Bool, true, false, cond, Option}
use Rattle.std.proofs.Common.{Some, None, List, [], ◌∷◌, set, take, get_or, length, slice_get, refl, sym, ap, subst}
use Rattle.std.proofs.Common.{arith}
use Rattle.std.specs.Option.{option_map_or}
use Rattle.std.specs.Prelude.{◌==◌}
use Rattle.std.proofs.lemmas.Bool.{eq-eqb, eqb-true, true≢false}
use Rattle.std.proofs.lemmas.List.{length-set, take_all}
use Rattle.std.proofs.lemmas.Option.{slice_get_within}
use Rattle.khe_base.specs.declared.limits.TheConstants.{GREATEST_DEVIATION, UNIT}
use Rattle.khe_base.specs.declared.numbers.EventId.{EventId}
use Rattle.khe_base.specs.declared.numbers.ResourceId.{ResourceId}
use Rattle.khe_instance.specs.Deviation.{deviation_at}
use Rattle.khe_instance.specs.ResourceDeviation.{limit_workload, workload_in}
use Rattle.khe_instance.specs.Watching.{is_at}
use Rattle.khe_instance.specs.WellMade.{AreWellMade, IsMonitor}
use Rattle.khe_instance.specs.declared.parts.Parts.{Parts}
use Rattle.khe_instance.specs.declared.points.Monitor.{Monitor}
use Rattle.khe_instance.specs.declared.rules.Constraint.{Constraint}
use Rattle.khe_instance.specs.declared.rules.Kind.{Kind}
use Rattle.khe_instance.proofs.MadeLemmas.{monitor_made}
use Rattle.khe_told.specs.Agreement.{deviation_in}
use Rattle.khe_told.specs.Effects.{AreTurns, effects_of, given_with, turned_all}
use Rattle.khe_told.specs.declared.effects.Regiven.{Regiven}
use Rattle.khe_told.specs.Lists.{duties_in, meets_in}
use Rattle.khe_told.specs.Slots.{length_of, no_slot, slot_at}
use Rattle.khe_told.specs.Turns.{IsTurn, SlotTurn, turned}
use Rattle.khe_told.specs.Waits.{AreUnmoved, WaitOn}
use Rattle.khe_told.specs.declared.slots.Slot.{Slot}
use Rattle.resource_monitors.specs.Effects.{AreLoadsQueued, AreQueued, IsPlaceQueued, load_in}
use Rattle.resource_monitors.specs.Loads.{is_on_workload, outside, part_of, worth_at, worths_of}
use Rattle.resource_monitors.specs.Posts.{AreAdded, post, posts_of}
use Rattle.resource_monitors.specs.declared.posts.Post.{Post}
use Rattle.resource_monitors.proofs.LoadBoundLaws.{load_small}
use Rattle.resource_monitors.proofs.LoadFollowLaws.{exchanged, worth_before}
use Rattle.resource_monitors.proofs.LoadLaws.{load_of, loads_exchanged, worths_more}
use Rattle.resource_monitors.proofs.LoadValueLaws.{on_workload}
use Rattle.resource_monitors.proofs.WaitLaws.{posted}

-- the workload after one effect
module _ (p : Parts) (made : AreWellMade p) (s : List Slot) (t : SlotTurn) (turns : IsTurn p s t) (q : ℕ) where
  pub lost_within : worths_of p t.before.event (length_of t.before) 0 t.before.given q ≤ load_in p s q
  lost_within =
      let a : workload_in p.events p.unit (duties_in (set s t.before.meet.0 no_slot)) q
      + load_of p q (slot_at s t.before.meet.0) ≡ load_in p s q + 0 =
      loads_exchanged p q s t.before.meet.0 no_slot turns.there in
      let b : load_of p q (slot_at s t.before.meet.0) ≡ load_of p q t.before = ap (load_of p q) turns.slot in
      let d = worth_before p made s t turns q in
      omega (arith, a, b, d)

  pub gained_within : load_in p s q + worths_of p t.before.event (length_of t.after) 0 t.after.given q < 2 ^ 128
  gained_within = by _ _ _ _ p.unit (load_small p made s turns.told q) (load_small p made (turned s t) turns.later q)
      (exchanged p made s t turns q) made.limits.unit lost_within
    where
      by : (a b c d u : ℕ) → a ≤ GREATEST_DEVIATION * u → b ≤ GREATEST_DEVIATION * u → b + c ≡ a + d → u ≤ UNIT
          → c ≤ a → a + d < 2 ^ 128
      by a b c d u e f g h l = omega (arith, e, f, g, h, l)

-- a place is given this resource, or its task is worth nothing to it
module _ (p : Parts) (served : Kind → Bool) where
  queued_or_none : (o : Option ResourceId) (q : ℕ) (waits : ℕ → Bool)
      → ((r : ResourceId) → o ≡ Some r → AreQueued p served r.0 waits)
      → ((w : ℕ) → part_of o w q ≡ 0) ⊎ AreQueued p served q waits
  queued_or_none None q waits h = inl (λ w. refl)
  queued_or_none (Some r) q waits h = by (r.0 == q) refl
    where
      by : (b : Bool) → (r.0 == q) ≡ b → ((w : ℕ) → part_of (Some r) w q ≡ 0) ⊎ AreQueued p served q waits
      by true e = inr (subst (λ n. AreQueued p served n waits) (eqb-true r.0 q e) (h r refl))
      by false e = inl (λ w. ap (λ b. cond b w 0) e)

  pub queued_on : (q : ℕ) (old new : ℕ → Bool) → WaitOn old new → AreQueued p served q old → AreQueued p served q new
  queued_on q old new kept h i m there serves own = kept i (h i m there serves own)

-- up to a place
module _ (p : Parts) (e : EventId) (less more : ℕ) (before later : List (Option ResourceId)) where
  abbrev pub AreQueuedTo : ℕ → (ℕ → Bool) → Type 0
  AreQueuedTo k waits = (q : ℕ) → (worths_of p e less 0 (take k before) q ≡ worths_of p e more 0 (take k later) q)
      ⊎ AreQueued p is_on_workload q waits

  pub queued_none : (waits : ℕ → Bool) → AreQueuedTo 0 waits
  queued_none waits q = inl refl

  one_more : (k : ℕ) → k < length before → k < length later → (q : ℕ) (Q : Type 0)
      → (worths_of p e less 0 (take k before) q ≡ worths_of p e more 0 (take k later) q) ⊎ Q
      → (part_of (get_or before k None) (worth_at p e less k) q ≡ part_of (get_or later k None) (worth_at p e more k) q)
      ⊎ Q
      → (worths_of p e less 0 (take (k + 1) before) q ≡ worths_of p e more 0 (take (k + 1) later) q) ⊎ Q
  one_more k l m q Q (inr a) b = inr a
  one_more k l m q Q (inl a) (inr b) = inr b
  one_more k l m q Q (inl a) (inl b) =
      let c = worths_more p q e less before k l in
      let d = worths_more p q e more later k m in
      inl (omega (arith, a, b, c, d))

  pub queued_step : (k : ℕ) → k < length before → k < length later → (old new : ℕ → Bool) → WaitOn old new
      → (o n : Option ResourceId) → o ≡ get_or before k None → n ≡ get_or later k None
      → ((less ≡ more) × (o ≡ n)) ⊎ (IsPlaceQueued p is_on_workload o new × IsPlaceQueued p is_on_workload n new)
      → AreQueuedTo k old → AreQueuedTo (k + 1) new
  queued_step k l m old new on o n is_old is_new other h q =
      one_more k l m q (AreQueued p is_on_workload q new) (so (h q)) (at other)
    where
      so : (worths_of p e less 0 (take k before) q ≡ worths_of p e more 0 (take k later) q)
          ⊎ AreQueued p is_on_workload q old
          → (worths_of p e less 0 (take k before) q ≡ worths_of p e more 0 (take k later) q)
          ⊎ AreQueued p is_on_workload q new
      so (inl a) = inl a
      so (inr a) = inr (queued_on p is_on_workload q old new on a)

      by : ((w : ℕ) → part_of (get_or before k None) w q ≡ 0) ⊎ AreQueued p is_on_workload q new
          → ((w : ℕ) → part_of (get_or later k None) w q ≡ 0) ⊎ AreQueued p is_on_workload q new
          → (part_of (get_or before k None) (worth_at p e less k) q ≡ part_of (get_or later k None) (worth_at p e more k)
          q) ⊎ AreQueued p is_on_workload q new
      by (inr a) b = inr a
      by (inl a) (inr b) = inr b
      by (inl a) (inl b) = inl (a (worth_at p e less k) ∙ sym (b (worth_at p e more k)))

      at : ((less ≡ more) × (o ≡ n)) ⊎ (IsPlaceQueued p is_on_workload o new × IsPlaceQueued p is_on_workload n new)
          → (part_of (get_or before k None) (worth_at p e less k) q ≡ part_of (get_or later k None) (worth_at p e more k)
          q) ⊎ AreQueued p is_on_workload q new
      at (inl (d, same)) = inl (λ i. part_of ((sym is_old ∙ same ∙ is_new) i) (worth_at p e (d i) k) q)
      at (inr (first, second)) = by
          (queued_or_none p is_on_workload (get_or before k None) q new (λ r is. first r (is_old ∙ is)))
          (queued_or_none p is_on_workload (get_or later k None) q new (λ r is. second r (is_new ∙ is)))

  pub queued_last : (k : ℕ) → length before ≤ k → length later ≡ length before → (waits : ℕ → Bool)
      → AreQueuedTo k waits → (q : ℕ) → (worths_of p e less 0 before q ≡ worths_of p e more 0 later q)
      ⊎ AreQueued p is_on_workload q waits
  queued_last k l same waits h q = by (h q)
    where
      by : (worths_of p e less 0 (take k before) q ≡ worths_of p e more 0 (take k later) q)
          ⊎ AreQueued p is_on_workload q waits → (worths_of p e less 0 before q ≡ worths_of p e more 0 later q)
          ⊎ AreQueued p is_on_workload q waits
      by (inr a) = inr a
      by (inl a) = inl (ap (λ xs. worths_of p e less 0 xs q) (sym (take_all k before l)) ∙ a
          ∙ ap (λ xs. worths_of p e more 0 xs q) (take_all k later (omega (arith, l, same))))

-- an effect at all places
pub queued_all : (p : Parts) → AreWellMade p → (s : List Slot) (t : SlotTurn) → IsTurn p s t → (waits : ℕ → Bool)
    → ((q : ℕ) → (worths_of p t.before.event (length_of t.before) 0 t.before.given q
    ≡ worths_of p t.before.event (length_of t.after) 0 t.after.given q) ⊎ AreQueued p is_on_workload q waits)
    → AreLoadsQueued p s (turned s t) waits
queued_all p made s t turns waits h q = by (h q)
  where
    by : (worths_of p t.before.event (length_of t.before) 0 t.before.given q
        ≡ worths_of p t.before.event (length_of t.after) 0 t.after.given q) ⊎ AreQueued p is_on_workload q waits
        → (load_in p (turned s t) q ≡ load_in p s q) ⊎ AreQueued p is_on_workload q waits
    by (inr a) = inr a
    by (inl a) = let b = exchanged p made s t turns q in
        inl (let z : load_in p (turned s t) q ≡ load_in p s q = omega (arith, a, b) in z)

-- one effect after the other
pub loads_queued_on : (p : Parts) (s s1 s2 : List Slot) (mid new : ℕ → Bool) → AreLoadsQueued p s s1 mid
    → WaitOn mid new → AreLoadsQueued p s1 s2 new → AreLoadsQueued p s s2 new
loads_queued_on p s s1 s2 mid new first on second q = by (first q) (second q)
  where
    by : (load_in p s1 q ≡ load_in p s q) ⊎ AreQueued p is_on_workload q mid
        → (load_in p s2 q ≡ load_in p s1 q) ⊎ AreQueued p is_on_workload q new
        → (load_in p s2 q ≡ load_in p s q) ⊎ AreQueued p is_on_workload q new
    by a (inr b) = inr b
    by (inr a) b = inr (queued_on p is_on_workload q mid new on a)
    by (inl a) (inl b) = inl (b ∙ a)

-- the monitors of a list wait
pub list_queued : (p : Parts) → AreWellMade p → (r : ResourceId) (list : List Post)
    → list ≡ posts_of is_on_workload p.monitors r.0 → (hears : Bool) (old new : ℕ → Bool)
    → AreAdded (λ m. hears) list (length list) old new → hears ≡ true → AreQueued p is_on_workload r.0 new
list_queued p made r list is_list hears old new added heard i m there serves own =
    let on = on_workload p m (monitor_made p made i m there) serves in
    let e : on.resource.0 ≡ r.0 = eqb-true on.resource.0 r.0 (sym (ap (λ x. is_at x r.0) on.point) ∙ own) in
    let f = posted p is_on_workload r.0 on.resource i m there serves on.point e in
    let g : slice_get list f.0 ≡ Some (post i m) = ap (λ xs. slice_get xs f.0) is_list ∙ f.1 in
    added.each f.0 (post i m) (slice_get_within list f.0 (post i m) g) g heard

-- the deviation is what is measured of the workload
pub load_is_measured : (p : Parts) (s : List Slot) (m : Monitor) (c : Constraint) (r : ResourceId)
    → IsMonitor p m → is_on_workload m.kind ≡ true → slice_get p.constraints m.constraint ≡ Some c
    → is_at m.point r.0 ≡ true → deviation_in p s m ≡ outside p c.rule (load_in p s r.0)
load_is_measured p s m c r is served there own =
    let on = on_workload p m is served in
    let e : on.resource.0 ≡ r.0 = eqb-true on.resource.0 r.0 (sym (ap (λ x. is_at x r.0) on.point) ∙ own) in
    let same : Some on.constraint ≡ Some c = sym on.there ∙ there in
    ap (λ o. option_map_or (λ (x : Constraint). deviation_at p (meets_in s) (duties_in s) x.rule m.point) o 0) on.there
    ∙ (λ i. deviation_at p (meets_in s) (duties_in s) (on.rule i) (on.point i))
    ∙ ap (λ n. limit_workload p.unit (load_in p s n) on.least on.greatest) e
    ∙ sym (ap (λ x. outside p x (load_in p s r.0)) on.rule)
    ∙ ap (λ o. option_map_or (λ (x : Constraint). outside p x.rule (load_in p s r.0)) o 0) same

-- so who does not wait has the deviation that it had
pub loads_queued_unmoved : (p : Parts) → AreWellMade p → (s s2 : List Slot) (waits : ℕ → Bool)
    → AreLoadsQueued p s s2 waits → AreUnmoved p is_on_workload waits s s2
loads_queued_unmoved p made s s2 waits h i m there serves idle =
    let is = monitor_made p made i m there in
    let on = on_workload p m is serves in
    let own : is_at m.point on.resource.0 ≡ true = ap (λ x. is_at x on.resource.0) on.point ∙ same on.resource.0 in
    by on.resource on.constraint on.there own (h on.resource.0) is
  where
    same : (n : ℕ) → (n == n) ≡ true
    same n = eq-eqb n n refl

    by : (r : ResourceId) (c : Constraint) → slice_get p.constraints m.constraint ≡ Some c → is_at m.point r.0 ≡ true
        → (load_in p s2 r.0 ≡ load_in p s r.0) ⊎ AreQueued p is_on_workload r.0 waits → IsMonitor p m
        → deviation_in p s2 m ≡ deviation_in p s m
    by r c ruled own (inl a) is = load_is_measured p s2 m c r is serves ruled own ∙ ap (outside p c.rule) a
        ∙ sym (load_is_measured p s m c r is serves ruled own)
    by r c ruled own (inr a) is = absurd (true≢false (sym (a i m there serves own) ∙ idle))

-- there are as many places
pub given_length : (given : List (Option ResourceId)) (o : Option Regiven)
    → length (given_with given o) ≡ length given
given_length given None = refl
given_length given (Some r) = length-set given r.place r.resource

-- the whole of effects, one or two
pub load_small_after : (p : Parts) → AreWellMade p → (s : List Slot) (ts : List SlotTurn) → AreTurns p s ts → (q : ℕ)
    → load_in p (turned_all s ts) q ≤ GREATEST_DEVIATION * p.unit
load_small_after p made s [] turns q = load_small p made s turns q
load_small_after p made s (t ∷ ts) turns q = load_small_after p made (turned s t) ts turns.1 q

-- who is queued for each of them
pub first_unmoved : (p : Parts) → AreWellMade p → (s : List Slot) (t : SlotTurn) (ts : List SlotTurn)
    → effects_of t None ≡ ts → AreTurns p s ts → (waits : ℕ → Bool)
    → ((x : List Slot) → IsTurn p x t → AreLoadsQueued p x (turned x t) waits)
    → AreUnmoved p is_on_workload waits s (turned_all s ts)
first_unmoved p made s t ts e turns waits h =
    subst (λ us. AreTurns p s us → AreUnmoved p is_on_workload waits s (turned_all s us)) e
    (λ told. loads_queued_unmoved p made s (turned s t) waits (h s told.0)) turns

pub both_unmoved : (p : Parts) → AreWellMade p → (s : List Slot) (t u : SlotTurn) (ts : List SlotTurn)
    → effects_of t (Some u) ≡ ts → AreTurns p s ts → (mid waits : ℕ → Bool)
    → ((x : List Slot) → IsTurn p x t → AreLoadsQueued p x (turned x t) mid) → WaitOn mid waits
    → ((x : List Slot) → IsTurn p x u → AreLoadsQueued p x (turned x u) waits)
    → AreUnmoved p is_on_workload waits s (turned_all s ts)
both_unmoved p made s t u ts e turns mid waits h on k =
    subst (λ us. AreTurns p s us → AreUnmoved p is_on_workload waits s (turned_all s us)) e
    (λ told. loads_queued_unmoved p made s (turned (turned s t) u) waits
    (loads_queued_on p s (turned s t) (turned (turned s t) u) mid waits (h s told.0) on (k (turned s t) told.1.0))) turns
