-- From the cells of one place and the lists to what a keeper promises.
use Rattle.std.proofs.Common.{ℕ, ◌≡◌, ◌<◌, ◌+◌, ◌-◌, ◌∙◌, ◌⊎◌, inl, inr, Bool, true, false, cond, Option, Some, None}
use Rattle.std.proofs.Common.{List, [], ◌∷◌, length, get_or, slice_get, refl, sym, ap, arith, zero-add, nat_le}
use Rattle.std.proofs.Common.{nat_lt, not}
use Rattle.std.specs.List.{range_with_len, list_any}
use Rattle.std.specs.Option.{option_map_or}
use Rattle.std.proofs.lemmas.Bool.{and_from, and_parts, eqb-true, leb-true, ltb-true, or_parts, true≢false}
use Rattle.std.proofs.lemmas.List.Folds.{list_any_at}
use Rattle.std.proofs.lemmas.List.FromFn.{get_or-range_with_len, length-range_with_len}
use Rattle.std.proofs.lemmas.Option.{slice_get_within, none-some}
use Rattle.khe_base.specs.declared.numbers.ResourceId.{ResourceId}
use Rattle.khe_instance.specs.Running.{is_resource, running_tasks}
use Rattle.khe_instance.specs.Watching.{is_at, lists_time}
use Rattle.khe_instance.specs.WellMade.{AreWellMade, IsMonitor}
use Rattle.khe_instance.specs.declared.parts.Parts.{Parts}
use Rattle.khe_instance.specs.declared.points.Monitor.{Monitor}
use Rattle.khe_instance.specs.declared.points.Point.TheVariants.{Resource}
use Rattle.khe_instance.specs.declared.rules.Constraint.{Constraint}
use Rattle.khe_instance.specs.declared.rules.Kind.{Kind}
use Rattle.khe_instance.proofs.MadeLemmas.{monitor_made}
use Rattle.khe_told.specs.Lists.{duties_in}
use Rattle.khe_told.specs.Waits.{AreUnmoved}
use Rattle.khe_told.specs.declared.slots.Slot.{Slot}
use Rattle.timetables.specs.Counts.{count_at}
use Rattle.resource_monitors.specs.Cells.{AreMeasuredSame, differs_at, given_to, in_run, is_at_cells, is_by_busy}
use Rattle.resource_monitors.specs.Cells.{is_due}
use Rattle.resource_monitors.specs.Cells.{is_low, limit_for, lists, lists_any, value_in}
use Rattle.resource_monitors.specs.Posts.{AreAdded, IsDueIn, is_served_at, list_for, post}
use Rattle.resource_monitors.specs.Runs.{AreAtRun, IsAtRun, Turned, cells_of}
use Rattle.resource_monitors.specs.declared.posts.Post.{Post}
use Rattle.resource_monitors.specs.declared.runs.Run.{Run}
use Rattle.resource_monitors.proofs.MeasureLaws.{at_resource, value_busy, value_is, value_same}
use Rattle.resource_monitors.proofs.PostLaws.{posts_each}
use Rattle.resource_monitors.proofs.TurnLaws.{turned_busy, turned_same}
use Rattle.resource_monitors.proofs.WaitLaws.{posted}

-- a place is given a resource, or not
pub given_or_not : (o : Option ResourceId) (q : ResourceId) → (o ≡ Some q) ⊎ (given_to q.0 (o ∷ []) ≡ 0)
given_or_not None q = inr refl
given_or_not (Some x) q = by (is_resource q.0 (Some x)) refl
  where
    by : (b : Bool) → is_resource q.0 (Some x) ≡ b → (Some x ≡ Some q) ⊎ (given_to q.0 (Some x ∷ []) ≡ 0)
    by true e = inl (λ i. Some (record { 0 = eqb-true x.0 q.0 e i }))
    by false e = inr (ap (λ b. 0 + cond {A = ℕ} b 1 0) e)

-- a time of a run is among its times
pub none_in_run : (f : ℕ → Bool) (start end t : ℕ) → list_any f (range_with_len start (end - start)) ≡ false
    → in_run start end t ≡ true → f t ≡ false
none_in_run f start end t none e = by (f t) refl
  where
    by : (b : Bool) → f t ≡ b → b ≡ false
    by false h = refl
    by true h =
        let parts = and_parts (nat_le start t) (nat_lt t end) e in
        let low = leb-true start t parts.0 in
        let high = ltb-true t end parts.1 in
        let i : t - start < end - start = omega (arith, low, high) in
        let value : get_or (range_with_len start (end - start)) (t - start) 0 ≡ t =
        get_or-range_with_len start (end - start) (t - start) 0 i
        ∙ (let z : start + (t - start) ≡ t = omega (arith, low) in z) in
        absurd (true≢false (sym (list_any_at f (range_with_len start (end - start)) (t - start) 0
        (let z = length-range_with_len start (end - start) in omega (arith, z, i)) (ap f value ∙ h)) ∙ none))

-- a monitor that does not wait measures the same as before
module _ (p : Parts) (served : Kind → Bool) (made : AreWellMade p)
    (cells : (k : Kind) → served k ≡ true → is_at_cells k ≡ true) where
  pub measured_after : (old new : List (List ℕ)) (place : Option ResourceId) (b : Bool) (run : Run)
      (old_waits waits : ℕ → Bool) → Turned b place (Some run) (count_at old) (count_at new)
      → AreAdded (is_due p new run.start run.end (limit_for b)) (list_for served p.monitors place)
      (length (list_for served p.monitors place)) old_waits waits
      → AreMeasuredSame p served waits old new
  measured_after old new place b run old_waits waits turned all i m there serves idle =
      by (given_or_not place at.0) (lists_any p start end m) refl
      (differs_at m.kind new start end limit m.point) refl
    where
      start : ℕ
      start = run.start

      end : ℕ
      end = run.end

      limit : ℕ
      limit = limit_for b

      is : IsMonitor p m
      is = monitor_made p made i m there

      kind : is_at_cells m.kind ≡ true
      kind = cells m.kind serves

      at : (r : ResourceId) × (m.point ≡ Resource r) × (r.0 < length p.resources)
      at = at_resource p m is kind

      kept : ((t : ℕ) → lists p m t ≡ true → cells_of (Some run) (place ∷ []) at.0.0 t ≡ 0)
          → value_in p new m ≡ value_in p old m
      kept h = value_same p old new m at.0 is kind at.1
          (λ t e. turned_same b place (Some run) (count_at old) (count_at new) turned at.0.0 t (h t e))

      busy : differs_at m.kind new start end limit m.point ≡ false → value_in p new m ≡ value_in p old m
      busy e =
          let parts = or_parts (not (is_by_busy m.kind)) (is_low new start end limit at.0.0)
          (sym (ap (differs_at m.kind new start end limit) at.1) ∙ e) in
          value_busy p old new m at.0 is (on (is_by_busy m.kind) parts.0) at.1
          (turned_busy b place run (count_at old) (count_at new) at.0.0 turned
          (λ t e. none_in_run (λ x. nat_le (count_at new at.0.0 x) limit) start end t parts.1 e))
        where
          on : (c : Bool) → not c ≡ false → c ≡ true
          on true h = refl
          on false h = absurd (true≢false h)

      none : (c : Bool) (n : ℕ) → n ≡ 0 → cond c n 0 ≡ 0
      none true n e = e
      none false n e = refl

      outside : lists_any p start end m ≡ false → (t : ℕ) → lists p m t ≡ true → in_run start end t ≡ false
      outside l t h = by (in_run start end t) refl
        where
          by : (b : Bool) → in_run start end t ≡ b → b ≡ false
          by false e = refl
          by true e = absurd (true≢false (sym h ∙ none_in_run (λ x. lists p m x) start end t l e))

      waiting : place ≡ Some at.0 → is_due p new start end limit m ≡ true → waits i ≡ true
      waiting here due =
          let f = posted p served at.0.0 at.0 i m there serves at.1 refl in
          let g : slice_get (list_for served p.monitors place) f.0 ≡ Some (post i m) =
          ap (λ x. slice_get (list_for served p.monitors x) f.0) here ∙ f.1 in
          all.each f.0 (post i m) (slice_get_within (list_for served p.monitors place) f.0 (post i m) g) g due

      by : (place ≡ Some at.0) ⊎ (given_to at.0.0 (place ∷ []) ≡ 0) → (c : Bool) → lists_any p start end m ≡ c
          → (d : Bool) → differs_at m.kind new start end limit m.point ≡ d → value_in p new m ≡ value_in p old m
      by (inl g) true e true f = absurd (true≢false (sym (waiting g
          (and_from (lists_any p start end m) (differs_at m.kind new start end limit m.point) e f)) ∙ idle))
      by (inl g) true e false f = busy f
      by (inl g) false e d f = kept
          (λ t h. ap (λ c. cond {A = ℕ} c (given_to at.0.0 (place ∷ [])) 0) (outside e t h))
      by (inr z) c e d f = kept (λ t h. none (in_run start end t) (given_to at.0.0 (place ∷ [])) z)

  -- who waits anew is at the place's resource and lists one of the times
  pub at_run : (rows : List (List ℕ)) (limit : ℕ) (place : Option ResourceId) (run : Run) (old new : ℕ → Bool)
      → AreAdded (is_due p rows run.start run.end limit) (list_for served p.monitors place)
      (length (list_for served p.monitors place)) old new
      → AreAtRun p place (Some run) old new
  at_run rows limit place run old new u i e = by (u.only i e)
    where
      test : Monitor → Bool
      test = is_due p rows run.start run.end limit

      found : (o : Option ResourceId) → place ≡ o → (j : ℕ) (a : Post)
          → slice_get (list_for served p.monitors o) j ≡ Some a
          → a.number.0 ≡ i → test a.monitor ≡ true → IsAtRun p place (Some run) i
      found None here j a g n t = absurd (none-some a g)
      found (Some r) here j a g n t =
          let f = posts_each (is_served_at served r.0) p.monitors 0 p.monitors
          (λ n. ap (slice_get p.monitors) (zero-add n)) j a g in
          let is : IsMonitor p a.monitor = monitor_made p made a.number.0 a.monitor f.0 in
          let k : Constraint = is.0 in
          record {
            monitor = a.monitor;
            constraint = k;
            resource = r;
            times = run;
            there = ap (slice_get p.monitors) (sym n) ∙ f.0;
            ruled = is.1;
            given = here;
            runs = refl;
            own = (and_parts (served a.monitor.kind) (is_at a.monitor.point r.0) f.1).1;
            lists = sym (ap (λ o. list_any (λ t. option_map_or (λ (c : Constraint). lists_time c.rule t) o false)
                (range_with_len run.start (run.end - run.start))) is.1)
                ∙ (and_parts (lists_any p run.start run.end a.monitor)
                (differs_at a.monitor.kind rows run.start run.end limit a.monitor.point) t).0;
          }

      by : (old i ≡ true) ⊎ IsDueIn test (list_for served p.monitors place) i
          → (old i ≡ true) ⊎ IsAtRun p place (Some run) i
      by (inl w) = inl w
      by (inr (j, a, g, n, t)) = inr (found place refl j a g n t)

  -- what is measured is the deviation
  pub unmoved_by : (s s2 : List Slot) (old new : List (List ℕ)) (waits : ℕ → Bool)
      → ((r t : ℕ) → count_at old r t ≡ running_tasks (duties_in s) r t)
      → ((r t : ℕ) → count_at new r t ≡ running_tasks (duties_in s2) r t)
      → AreMeasuredSame p served waits old new → AreUnmoved p served waits s s2
  unmoved_by s s2 old new waits before now same i m there serves idle =
      let is = monitor_made p made i m there in
      value_is p s2 new m is (cells m.kind serves) now ∙ same i m there serves idle
      ∙ sym (value_is p s old m is (cells m.kind serves) before)
