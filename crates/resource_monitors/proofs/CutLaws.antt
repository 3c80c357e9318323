-- A cut of a meet leaves how many tasks run, and what tasks are worth, as they were.
use Rattle.std.proofs.Common.{ℕ, ◌≡◌, ◌≤◌, ◌<◌, ◌+◌, ◌*◌, ◌/◌, ◌∙◌, ◌⊎◌, inl, inr, Bool, true, false, cond, Option}
use Rattle.std.proofs.Common.{Some, None, List, [], ◌∷◌, slice_get, refl, sym, ap, subst, arith, le-leb, lt-ltb}
use Rattle.std.proofs.Common.{◌==◌, ◌&&◌, nat_le, nat_lt}
use Rattle.std.specs.Option.{option_map, option_map_or}
use Rattle.std.proofs.Math.Nat.{add-mul, mul-add}
use Rattle.std.proofs.lemmas.Bool.{and_from, cases_lt, le-ltb, lt-leb}
use Rattle.std.proofs.lemmas.Option.{none-some}
use Rattle.khe_base.specs.declared.numbers.EventId.{EventId}
use Rattle.khe_base.specs.declared.numbers.ResourceId.{ResourceId}
use Rattle.khe_base.specs.declared.numbers.TimeId.{TimeId}
use Rattle.khe_instance.specs.ResourceDeviation.{workload_in}
use Rattle.khe_instance.specs.Running.{running_tasks}
use Rattle.khe_instance.specs.WellMade.{AreWellMade}
use Rattle.khe_instance.specs.declared.parts.EventInfo.{EventInfo}
use Rattle.khe_instance.specs.declared.parts.Parts.{Parts}
use Rattle.khe_instance.specs.declared.parts.Place.{Place}
use Rattle.khe_instance.specs.declared.rules.Kind.{Kind}
use Rattle.khe_told.specs.Effects.{AreCut, AreTurns, IsCut, turned_all}
use Rattle.khe_told.specs.Lists.{duties_in}
use Rattle.khe_told.specs.Turns.{IsTurn, SlotTurn, turned}
use Rattle.khe_told.specs.Waits.{AreUnmoved}
use Rattle.khe_told.specs.declared.slots.Slot.{Slot}
use Rattle.khe_told.specs.declared.slots.Span.{Span}
use Rattle.resource_monitors.specs.Cells.{given_to, in_run, is_at_cells}
use Rattle.resource_monitors.specs.Kept.{AreKept}
use Rattle.resource_monitors.specs.Loads.{AreKept as AreLoadsKept, is_on_workload, part_of, worth_at, worths_of}
use Rattle.resource_monitors.specs.Runs.{cells_of, run_of}
use Rattle.resource_monitors.specs.declared.posts.Post.{Post}
use Rattle.resource_monitors.proofs.FamilyLaws.{unmoved_by}
use Rattle.resource_monitors.proofs.LoadLaws.{load_is, load_of, loads_exchanged}
use Rattle.resource_monitors.proofs.LoadStepLaws.{unmoved_by as loads_unmoved_by}
use Rattle.resource_monitors.proofs.TurnLaws.{cell_in, tasks_exchanged}

-- whether a time is one of a run
pub in_yes : (start end t : ℕ) → start ≤ t → t < end → in_run start end t ≡ true
in_yes start end t a b = and_from _ _ (le-leb start t a) (lt-ltb t end b)

pub in_not_before : (start end t : ℕ) → t < start → in_run start end t ≡ false
in_not_before start end t a = ap (λ b. b && nat_lt t end) (lt-leb start t a)

pub in_not_after : (start end t : ℕ) → end ≤ t → in_run start end t ≡ false
in_not_after start end t a = ap (λ b. nat_le start t && b) (le-ltb t end a) ∙ by (nat_le start t)
  where
    by : (b : Bool) → (b && false) ≡ false
    by true = refl
    by false = refl

-- the start of the rest, and the cells of the two parts
abbrev rest_start : ℕ → Option TimeId → Option TimeId
rest_start cut start = option_map (λ (t : TimeId). record { 0 = t.0 + cut }) start

cells_parted : (cut rest : ℕ) (start : Option TimeId) (given : List (Option ResourceId)) (q t : ℕ)
    → cells_of (run_of (Some (record { duration = cut; start = start }))) given q t
    + cells_of (run_of (Some (record { duration = rest; start = rest_start cut start }))) given q t
    ≡ cells_of (run_of (Some (record { duration = cut + rest; start = start }))) given q t
cells_parted cut rest None given q t = refl
cells_parted cut rest (Some o) given q t = by (cases_lt t o.0) (cases_lt t (o.0 + cut))
    (cases_lt t (o.0 + (cut + rest)))
  where
    n : ℕ
    n = given_to q given

    at : (a b c : Bool) → in_run o.0 (o.0 + cut) t ≡ a → in_run (o.0 + cut) (o.0 + cut + rest) t ≡ b
        → in_run o.0 (o.0 + (cut + rest)) t ≡ c → cond a n 0 + cond b n 0 ≡ cond c n 0
        → cond (in_run o.0 (o.0 + cut) t) n 0 + cond (in_run (o.0 + cut) (o.0 + cut + rest) t) n 0
        ≡ cond (in_run o.0 (o.0 + (cut + rest)) t) n 0
    at a b c e f g h = (λ i. cond (e i) n 0 + cond (f i) n 0) ∙ h ∙ sym (ap (λ d. cond d n 0) g)

    by : (t < o.0) ⊎ (o.0 ≤ t) → (t < o.0 + cut) ⊎ (o.0 + cut ≤ t)
        → (t < o.0 + (cut + rest)) ⊎ (o.0 + (cut + rest) ≤ t)
        → cond (in_run o.0 (o.0 + cut) t) n 0 + cond (in_run (o.0 + cut) (o.0 + cut + rest) t) n 0
        ≡ cond (in_run o.0 (o.0 + (cut + rest)) t) n 0
    by (inl a) _ _ = at false false false (in_not_before o.0 (o.0 + cut) t a)
        (in_not_before (o.0 + cut) (o.0 + cut + rest) t (omega (arith, a)))
        (in_not_before o.0 (o.0 + (cut + rest)) t a) refl
    by (inr a) (inl b) _ = at true false true (in_yes o.0 (o.0 + cut) t a b)
        (in_not_before (o.0 + cut) (o.0 + cut + rest) t b)
        (in_yes o.0 (o.0 + (cut + rest)) t a (omega (arith, b))) (let z : n + 0 ≡ n = omega arith in z)
    by (inr a) (inr b) (inl c) = at false true true (in_not_after o.0 (o.0 + cut) t b)
        (in_yes (o.0 + cut) (o.0 + cut + rest) t b (omega (arith, c)))
        (in_yes o.0 (o.0 + (cut + rest)) t a c) (let z : 0 + n ≡ n = omega arith in z)
    by (inr a) (inr b) (inr c) = at false false false (in_not_after o.0 (o.0 + cut) t b)
        (in_not_after (o.0 + cut) (o.0 + cut + rest) t (omega (arith, c)))
        (in_not_after o.0 (o.0 + (cut + rest)) t c) refl

-- what two parts of a meet are worth
worth_parted : (p : Parts) (e : EventId) (cut rest place : ℕ)
    → worth_at p e cut place + worth_at p e rest place ≡ worth_at p e (cut + rest) place
worth_parted p e cut rest place = by (slice_get p.events e.0)
  where
    product : (w rate : ℕ) → w * cut * rate + w * rest * rate ≡ w * (cut + rest) * rate
    product w rate = sym (add-mul (w * cut) (w * rest) rate) ∙ ap (λ n. n * rate) (sym (mul-add w cut rest))

    at : (event : EventInfo) (o : Option Place)
        → option_map_or (λ (q : Place). q.workload * cut * (p.unit / event.duration)) o 0
        + option_map_or (λ (q : Place). q.workload * rest * (p.unit / event.duration)) o 0
        ≡ option_map_or (λ (q : Place). q.workload * (cut + rest) * (p.unit / event.duration)) o 0
    at event None = refl
    at event (Some q) = product q.workload (p.unit / event.duration)

    by : (o : Option EventInfo)
        → option_map_or (λ (event : EventInfo). option_map_or (λ (q : Place). q.workload * cut * (p.unit
        / event.duration)) (slice_get event.places place) 0) o 0
        + option_map_or (λ (event : EventInfo). option_map_or (λ (q : Place). q.workload * rest * (p.unit
        / event.duration)) (slice_get event.places place) 0) o 0
        ≡ option_map_or (λ (event : EventInfo). option_map_or (λ (q : Place). q.workload * (cut + rest) * (p.unit
        / event.duration)) (slice_get event.places place) 0) o 0
    by None = refl
    by (Some event) = at event (slice_get event.places place)

worths_parted : (p : Parts) (e : EventId) (cut rest place : ℕ) (given : List (Option ResourceId)) (q : ℕ)
    → worths_of p e cut place given q + worths_of p e rest place given q ≡ worths_of p e (cut + rest) place given q
worths_parted p e cut rest place [] q = refl
worths_parted p e cut rest place (o ∷ given) q =
    let a = worths_parted p e cut rest (place + 1) given q in
    let b = part o in
    omega (arith, a, b)
  where
    part : (o : Option ResourceId) → part_of o (worth_at p e cut place) q + part_of o (worth_at p e rest place) q
        ≡ part_of o (worth_at p e (cut + rest) place) q
    part None = refl
    part (Some r) = by (r.0 == q)
      where
        by : (b : Bool) → cond b (worth_at p e cut place) 0 + cond b (worth_at p e rest place) 0
            ≡ cond b (worth_at p e (cut + rest) place) 0
        by true = worth_parted p e cut rest place
        by false = refl

-- two turns that cut a meet
module _ (p : Parts) (s : List Slot) (a b : SlotTurn) (first : IsTurn p s a) (second : IsTurn p (turned s a) b)
    (cut : IsCut a b) where
  counts_after : (q t : ℕ) → running_tasks (duties_in (turned (turned s a) b)) q t ≡ running_tasks (duties_in s) q t
  counts_after q t =
      let one : running_tasks (duties_in (turned s a)) q t + cell_in a.before q t
      ≡ running_tasks (duties_in s) q t + cell_in a.after q t =
      subst (λ (x : Slot). running_tasks (duties_in (turned s a)) q t + cell_in x q t
      ≡ running_tasks (duties_in s) q t + cell_in a.after q t) first.slot
      (tasks_exchanged s a.before.meet.0 a.after first.there q t) in
      let two : running_tasks (duties_in (turned (turned s a) b)) q t + cell_in b.before q t
      ≡ running_tasks (duties_in (turned s a)) q t + cell_in b.after q t =
      subst (λ (x : Slot). running_tasks (duties_in (turned (turned s a) b)) q t + cell_in x q t
      ≡ running_tasks (duties_in (turned s a)) q t + cell_in b.after q t) second.slot
      (tasks_exchanged (turned s a) b.before.meet.0 b.after second.there q t) in
      let free : cell_in b.before q t ≡ 0 = ap (λ o. cells_of (run_of o) b.before.given q t) cut.free in
      let whole : cell_in a.before q t ≡ cells_of (run_of
      (Some (record { duration = cut.cut + cut.rest; start = cut.start }))) a.before.given q t =
      ap (λ o. cells_of (run_of o) a.before.given q t) cut.whole in
      let short_one : cell_in a.after q t ≡ cells_of (run_of
      (Some (record { duration = cut.cut; start = cut.start }))) a.before.given q t =
      (λ i. cells_of (run_of (cut.first i)) (cut.given i) q t) in
      let short_two : cell_in b.after q t ≡ cells_of (run_of
      (Some (record { duration = cut.rest; start = rest_start cut.cut cut.start }))) a.before.given q t =
      (λ i. cells_of (run_of (cut.second i)) (cut.same i) q t) in
      let parts = cells_parted cut.cut cut.rest cut.start a.before.given q t in
      omega (arith, one, two, free, whole, short_one, short_two, parts)

  live : (x : Slot) (d : ℕ) (start : Option TimeId) → x.span ≡ Some (record { duration = d; start = start }) → (q : ℕ)
      → load_of p q x ≡ worths_of p x.event d 0 x.given q
  live x d start e q = load_is p q x (λ n. absurd (none-some _ (sym n ∙ e)))
      ∙ ap (λ o. worths_of p x.event (option_map_or (λ (y : Span). y.duration) o 0) 0 x.given q) e

  loads_after : (q : ℕ) → workload_in p.events p.unit (duties_in (turned (turned s a) b)) q
      ≡ workload_in p.events p.unit (duties_in s) q
  loads_after q =
      let one : workload_in p.events p.unit (duties_in (turned s a)) q + load_of p q a.before
      ≡ workload_in p.events p.unit (duties_in s) q + load_of p q a.after =
      subst (λ (x : Slot). workload_in p.events p.unit (duties_in (turned s a)) q + load_of p q x
      ≡ workload_in p.events p.unit (duties_in s) q + load_of p q a.after) first.slot
      (loads_exchanged p q s a.before.meet.0 a.after first.there) in
      let two : workload_in p.events p.unit (duties_in (turned (turned s a) b)) q + load_of p q b.before
      ≡ workload_in p.events p.unit (duties_in (turned s a)) q + load_of p q b.after =
      subst (λ (x : Slot). workload_in p.events p.unit (duties_in (turned (turned s a) b)) q + load_of p q x
      ≡ workload_in p.events p.unit (duties_in (turned s a)) q + load_of p q b.after) second.slot
      (loads_exchanged p q (turned s a) b.before.meet.0 b.after second.there) in
      let free : load_of p q b.before ≡ 0 = ap (λ o. load_of p q (record b.before { span = o })) cut.free in
      let whole : load_of p q a.before ≡ worths_of p a.before.event (cut.cut + cut.rest) 0 a.before.given q =
      live a.before _ _ cut.whole q in
      let short_one : load_of p q a.after ≡ worths_of p a.before.event cut.cut 0 a.before.given q =
      live a.after _ _ cut.first q
      ∙ (λ i. worths_of p (first.same i).event cut.cut 0 (cut.given i) q) in
      let short_two : load_of p q b.after ≡ worths_of p a.before.event cut.rest 0 a.before.given q =
      live b.after _ _ cut.second q
      ∙ (λ i. worths_of p ((ap (λ (x : Slot). x.event) second.same ∙ cut.event) i) cut.rest 0 (cut.same i) q) in
      let parts = worths_parted p a.before.event cut.cut cut.rest 0 a.before.given q in
      omega (arith, one, two, free, whole, short_one, short_two, parts)

-- what is kept of cells stays right
pub kept_cut : (served : Kind → Bool) (p : Parts) (s : List Slot) (rows : List (List ℕ))
    (sets : List (List (List Bool))) (lists : List (List Post)) → AreKept served p s rows sets lists
    → (ts : List SlotTurn) → AreTurns p s ts → AreCut ts → AreKept served p (turned_all s ts) rows sets lists
kept_cut served p s rows sets lists keeps [] turns cut = absurd cut
kept_cut served p s rows sets lists keeps (a ∷ []) turns cut = absurd cut
kept_cut served p s rows sets lists keeps (a ∷ b ∷ []) turns cut = record {
  told = turns.1.1;
  rows_all = keeps.rows_all;
  counts = λ r t. keeps.counts r t ∙ sym (counts_after p s a b turns.0 turns.1.0 cut r t);
  sets_all = keeps.sets_all;
  lists_all = keeps.lists_all;
}
kept_cut served p s rows sets lists keeps (a ∷ b ∷ c ∷ ts) turns cut = absurd cut

-- what is kept of workloads too
pub loads_cut : (p : Parts) (s : List Slot) (loads : List ℕ) (lists : List (List Post))
    → AreLoadsKept p s loads lists → (ts : List SlotTurn) → AreTurns p s ts → AreCut ts
    → AreLoadsKept p (turned_all s ts) loads lists
loads_cut p s loads lists keeps [] turns cut = absurd cut
loads_cut p s loads lists keeps (a ∷ []) turns cut = absurd cut
loads_cut p s loads lists keeps (a ∷ b ∷ []) turns cut = record {
  told = turns.1.1;
  loads_all = record {
    resources = keeps.loads_all.resources;
    each = λ r. keeps.loads_all.each r ∙ sym (loads_after p s a b turns.0 turns.1.0 cut r);
  };
  lists_all = keeps.lists_all;
}
loads_cut p s loads lists keeps (a ∷ b ∷ c ∷ ts) turns cut = absurd cut

-- so no deviation is another
pub unmoved_kept : (p : Parts) → AreWellMade p → (served : Kind → Bool)
    → ((k : Kind) → served k ≡ true → is_at_cells k ≡ true) → (s s2 : List Slot) (rows : List (List ℕ))
    (sets : List (List (List Bool))) (lists : List (List Post)) → AreKept served p s rows sets lists
    → AreKept served p s2 rows sets lists → (waits : ℕ → Bool) → AreUnmoved p served waits s s2
unmoved_kept p made served cells s s2 rows sets lists before now waits =
    unmoved_by p served made cells s s2 rows rows waits before.counts now.counts (λ i m there serves idle. refl)

pub loads_unmoved : (p : Parts) → AreWellMade p → (s s2 : List Slot) (loads : List ℕ) (lists : List (List Post))
    → AreLoadsKept p s loads lists → AreLoadsKept p s2 loads lists → (waits : ℕ → Bool)
    → AreUnmoved p is_on_workload waits s s2
loads_unmoved p made s s2 loads lists before now waits =
    loads_unmoved_by p made s s2 loads loads waits before.loads_all now.loads_all (λ i m there serves idle. refl)
