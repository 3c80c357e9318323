-- One workload after the other, and who then waits.
use Rattle.std.proofs.Common.{ℕ, ◌≡◌, ◌≤◌, ◌<◌, ◌+◌, ◌^◌, ◌∙◌, ◌⊎◌, inl, inr, Bool, true, false, cond, Option, Some}
use Rattle.std.proofs.Common.{None}
use Rattle.std.proofs.Common.{List, take, get_or, length, slice_get, slice_index, refl, sym, ap, subst, arith, zero-add}
use Rattle.std.proofs.lemmas.Bool.{and_parts, cases_eq, cases_lt, eq-eqb, ne_eqb, true≢false}
use Rattle.std.proofs.lemmas.List.{take_all}
use Rattle.std.proofs.lemmas.Option.{same_Some, slice_get-get_or, slice_get_within}
use Rattle.khe_base.specs.declared.numbers.EventId.{EventId}
use Rattle.khe_base.specs.declared.numbers.ResourceId.{ResourceId}
use Rattle.khe_instance.specs.Watching.{is_at}
use Rattle.khe_instance.specs.WellMade.{AreWellMade, IsMonitor}
use Rattle.khe_instance.specs.declared.parts.Parts.{Parts}
use Rattle.khe_instance.specs.declared.points.Monitor.{Monitor}
use Rattle.khe_instance.proofs.MadeLemmas.{monitor_made}
use Rattle.khe_told.specs.Waits.{AreUnmoved}
use Rattle.khe_told.specs.declared.slots.Slot.{Slot}
use Rattle.resource_monitors.specs.Posts.{AreAdded, IsDueIn, is_served_at, post, posts_of}
use Rattle.resource_monitors.specs.declared.posts.Post.{Post}
use Rattle.resource_monitors.proofs.PostLaws.{posts_each}
use Rattle.resource_monitors.proofs.WaitLaws.{posted}
use Rattle.resource_monitors.specs.Loads.{AreAllExchanged, AreExchanged, AreMeasuredSame, AreOnEither, AreOnLoad}
use Rattle.resource_monitors.specs.Loads.{AreOnMoved}
use Rattle.resource_monitors.specs.Loads.{CanTurn, HasLoads, IsOnLoad, IsOnMoved, Turned, is_on_workload, part_of}
use Rattle.resource_monitors.specs.Loads.{value_in, worth_at, worths_of}
use Rattle.resource_monitors.proofs.LoadLaws.{worths_less, worths_more}
use Rattle.resource_monitors.proofs.OverLaws.{passed_on}
use Rattle.resource_monitors.proofs.LoadValueLaws.{IsOnWorkload, on_workload, value_is, value_same}

-- the workload of another resource stays
elsewhere : (b : Bool) (r : ResourceId) (w : ℕ) (old new : List ℕ) → Turned b (Some r) w old new → (q : ℕ)
    → (r.0 ≡ q → ⊥) → slice_index new q ≡ slice_index old q
elsewhere b r w old new h q n = by b h
  where
    none : part_of (Some r) w q ≡ 0
    none = ap (λ c. cond c w 0) (ne_eqb r.0 q n)

    by : (c : Bool) → Turned c (Some r) w old new → slice_index new q ≡ slice_index old q
    by true u = let a : slice_index new q ≡ slice_index old q + part_of (Some r) w q = u q in omega (arith, a, none)
    by false u = let a : slice_index old q ≡ slice_index new q + part_of (Some r) w q = u q in omega (arith, a, none)

-- a monitor that does not wait measures the same as before
module _ (p : Parts) (made : AreWellMade p) (r : ResourceId) (list : List Post)
    (is_list : list ≡ posts_of is_on_workload p.monitors r.0) where
  pub measured_after : (b : Bool) (place : Option ResourceId) (w : ℕ) (old new : List ℕ) (hears : Bool)
      (old_waits waits : ℕ → Bool) → Turned b (Some r) w old new
      → AreAdded (λ m. hears) list (length list) old_waits waits → hears ≡ true → AreMeasuredSame p waits old new
  measured_after b place w old new hears old_waits waits turned added heard i m there serves idle =
      by (cases_eq on.resource.0 r.0)
    where
      is : IsMonitor p m
      is = monitor_made p made i m there

      on : IsOnWorkload p m
      on = on_workload p m is serves

      by : (on.resource.0 ≡ r.0) ⊎ (on.resource.0 ≡ r.0 → ⊥) → value_in p new m ≡ value_in p old m
      by (inl e) =
          let f = posted p is_on_workload r.0 on.resource i m there serves on.point e in
          let g : slice_get list f.0 ≡ Some (post i m) = ap (λ xs. slice_get xs f.0) is_list ∙ f.1 in
          absurd (true≢false (sym (added.each f.0 (post i m) (slice_get_within list f.0 (post i m) g) g heard) ∙ idle))
      by (inr n) = value_same p old new m on.resource is on.point
          (elsewhere b r w old new turned on.resource.0 (λ e. n (sym e)))

  found : (j : ℕ) (a : Post) → slice_get list j ≡ Some a
      → (slice_get p.monitors a.number.0 ≡ Some a.monitor) × (is_served_at is_on_workload r.0 a.monitor ≡ true)
  found j a g = posts_each (is_served_at is_on_workload r.0) p.monitors 0 p.monitors
      (λ n. ap (slice_get p.monitors) (zero-add n)) j a (ap (λ xs. slice_get xs j) (sym is_list) ∙ g)

  -- its posts have the numbers of monitors
  pub posts_known : (j : ℕ) (a : Post) → slice_get list j ≡ Some a → a.number.0 < length p.monitors
  posts_known j a g = slice_get_within p.monitors a.number.0 a.monitor (found j a g).0

  -- who waits anew is on the workload
  pub on_load : (test : Monitor → Bool) (place : Option ResourceId) → place ≡ Some r → (old new : ℕ → Bool)
      → AreAdded test list (length list) old new → AreOnLoad p place old new
  on_load test place here old new u i e = by (u.only i e)
    where
      by : (old i ≡ true) ⊎ IsDueIn test list i → (old i ≡ true) ⊎ IsOnLoad p place i
      by (inl w) = inl w
      by (inr (j, a, g, n, due)) =
          let f = found j a g in
          let parts = and_parts (is_on_workload a.monitor.kind) (is_at a.monitor.point r.0) f.1 in
          inr (record {
            monitor = a.monitor;
            resource = r;
            there = ap (slice_get p.monitors) (sym n) ∙ f.0;
            served = parts.0;
            given = here;
            own = parts.1;
          })

-- without a resource
pub turned_none : (b : Bool) (place : Option ResourceId) (w : ℕ) (loads : List ℕ) → place ≡ None
    → Turned b place w loads loads
turned_none b place w loads e = subst (λ o. Turned b o w loads loads) (sym e) (by b)
  where
    by : (c : Bool) → Turned c None w loads loads
    by true = λ q. (let z : slice_index loads q ≡ slice_index loads q + 0 = omega arith in z)
    by false = λ q. (let z : slice_index loads q ≡ slice_index loads q + 0 = omega arith in z)

-- what is measured is the deviation
pub unmoved_by : (p : Parts) → AreWellMade p → (s s2 : List Slot) (old new : List ℕ) (waits : ℕ → Bool)
    → HasLoads p s old → HasLoads p s2 new → AreMeasuredSame p waits old new → AreUnmoved p is_on_workload waits s s2
unmoved_by p made s s2 old new waits before now same i m there serves idle =
    let is = monitor_made p made i m there in
    value_is p s2 new m is serves now ∙ same i m there serves idle ∙ sym (value_is p s old m is serves before)

-- one place
pub room_then : (before later : Option ResourceId) (less more : ℕ) (old mid : List ℕ)
    → Turned false before less old mid → CanTurn true later more old → CanTurn true later more mid
room_then before later less more old mid fell room r e =
    let a : slice_index old r.0 ≡ slice_index mid r.0 + part_of before less r.0 = fell r.0 in
    let b = room r e in
    omega (arith, a, b)

pub exchanged_both : (before later : Option ResourceId) (less more : ℕ) (old mid new : List ℕ)
    → Turned false before less old mid → Turned true later more mid new
    → AreExchanged before later less more old new
exchanged_both before later less more old mid new fell rose q =
    let a : slice_index old q ≡ slice_index mid q + part_of before less q = fell q in
    let b : slice_index new q ≡ slice_index mid q + part_of later more q = rose q in
    omega (arith, a, b)

pub passed_over : (before later : Option ResourceId) (less more : ℕ) (loads : List ℕ) → before ≡ later → less ≡ more
    → AreExchanged before later less more loads loads
passed_over before later less more loads e f q = λ i. slice_index loads q + part_of (e i) (f i) q

pub on_either : (p : Parts) (before later : Option ResourceId) (less more : ℕ) (old mid new : ℕ → Bool)
    → (before ≡ later → less ≡ more → ⊥) → AreOnLoad p before old mid → AreOnLoad p later mid new
    → AreOnEither p before later less more old new
on_either p before later less more old mid new moved first second i e = by (second i e)
  where
    earlier : (old i ≡ true) ⊎ IsOnLoad p before i
        → (old i ≡ true) ⊎ ((before ≡ later → less ≡ more → ⊥) × (IsOnLoad p before i ⊎ IsOnLoad p later i))
    earlier (inl w) = inl w
    earlier (inr w) = inr (moved, inl w)

    by : (mid i ≡ true) ⊎ IsOnLoad p later i
        → (old i ≡ true) ⊎ ((before ≡ later → less ≡ more → ⊥) × (IsOnLoad p before i ⊎ IsOnLoad p later i))
    by (inl w) = earlier (first i w)
    by (inr w) = inr (moved, inr w)

-- all places
module _ (p : Parts) (event : EventId) (less more : ℕ) (before later : List (Option ResourceId)) where
  pub exchanged_last : (n : ℕ) (old new : List ℕ) → length before ≤ n → length later ≡ length before
      → AreAllExchanged p event less more (take n before) (take n later) old new
      → AreAllExchanged p event less more before later old new
  exchanged_last n old new l same h =
      subst (λ xs. AreAllExchanged p event less more xs later old new) (take_all n before l)
      (subst (λ xs. AreAllExchanged p event less more (take n before) xs old new)
      (take_all n later (omega (arith, l, same))) h)

  module _ (i : ℕ) (l : i < length before) (same : length later ≡ length before) where
    abbrev o : Option ResourceId
    o = get_or before i None

    abbrev n : Option ResourceId
    n = get_or later i None

    within : i < length later
    within = omega (arith, l, same)

    pub exchanged_more : (old mid new : List ℕ)
        → AreAllExchanged p event less more (take i before) (take i later) old mid
        → AreExchanged o n (worth_at p event less i) (worth_at p event more i) mid new
        → AreAllExchanged p event less more (take (i + 1) before) (take (i + 1) later) old new
    exchanged_more old mid new first second q =
        let a = worths_more p q event less before i l in
        let b = worths_more p q event more later i within in
        let c : slice_index mid q + worths_of p event less 0 (take i before) q
        ≡ slice_index old q + worths_of p event more 0 (take i later) q = first q in
        let d : slice_index new q + part_of o (worth_at p event less i) q
        ≡ slice_index mid q + part_of n (worth_at p event more i) q = second q in
        omega (arith, a, b, c, d)

    own_part : (o : Option ResourceId) (w : ℕ) (r : ResourceId) → o ≡ Some r → part_of o w r.0 ≡ w
    own_part o w r e = ap (λ x. part_of x w r.0) e ∙ ap (λ c. cond c w 0) (eq-eqb r.0 r.0 refl)

    pub some_here : (old mid : List ℕ) → ((q : ℕ) → worths_of p event less 0 before q ≤ slice_index old q)
        → AreAllExchanged p event less more (take i before) (take i later) old mid
        → CanTurn false o (worth_at p event less i) mid
    some_here old mid some first r e =
        let a = worths_more p r.0 event less before i l in
        let b = worths_less p r.0 event less before (i + 1) in
        let c : slice_index mid r.0 + worths_of p event less 0 (take i before) r.0
        ≡ slice_index old r.0 + worths_of p event more 0 (take i later) r.0 = first r.0 in
        let d = some r.0 in
        let f = own_part o (worth_at p event less i) r e in
        omega (arith, a, b, c, d, f)

    pub room_here : (old mid : List ℕ) → ((q : ℕ) → slice_index old q + worths_of p event more 0 later q < 2 ^ 128)
        → AreAllExchanged p event less more (take i before) (take i later) old mid
        → CanTurn true n (worth_at p event more i) mid
    room_here old mid room first r e =
        let a = worths_more p r.0 event more later i within in
        let b = worths_less p r.0 event more later (i + 1) in
        let c : slice_index mid r.0 + worths_of p event less 0 (take i before) r.0
        ≡ slice_index old r.0 + worths_of p event more 0 (take i later) r.0 = first r.0 in
        let d = room r.0 in
        let f = own_part n (worth_at p event more i) r e in
        omega (arith, a, b, c, d, f)

    pub moved_here : (old mid new : ℕ → Bool) → AreOnMoved p less more before later old mid
        → AreOnEither p o n less more mid new → AreOnMoved p less more before later old new
    moved_here old mid new first second j e = by (second j e)
      where
        by : (mid j ≡ true) ⊎ ((o ≡ n → less ≡ more → ⊥) × (IsOnLoad p o j ⊎ IsOnLoad p n j))
            → (old j ≡ true) ⊎ IsOnMoved p less more before later j
        by (inl w) = first j w
        by (inr w) = inr (record {
          number = i;
          old_place = o;
          new_place = n;
          old_there = slice_get-get_or before i None l;
          new_there = slice_get-get_or later i None within;
          moved = w.0;
          own = w.1;
        })

  -- up to the next place that is altered
  pub exchanged_over : (i next : ℕ) → i ≤ next → length later ≡ length before
      → ((j : ℕ) → i ≤ j → j < next → (slice_get before j ≡ slice_get later j) × (less ≡ more))
      → (old new : List ℕ) → AreAllExchanged p event less more (take i before) (take i later) old new
      → AreAllExchanged p event less more (take next before) (take next later) old new
  exchanged_over i next l same still old new h =
      passed_on (λ n. AreAllExchanged p event less more (take n before) (take n later) old new) i next l step h
    where
      step : (j : ℕ) → i ≤ j → j < next → AreAllExchanged p event less more (take j before) (take j later) old new
          → AreAllExchanged p event less more (take (j + 1) before) (take (j + 1) later) old new
      step j a b first = by (cases_lt j (length before))
        where
          by : (j < length before) ⊎ (length before ≤ j)
              → AreAllExchanged p event less more (take (j + 1) before) (take (j + 1) later) old new
          by (inl c) = exchanged_more j c same old new new first
              (passed_over (get_or before j None) (get_or later j None) (worth_at p event less j)
              (worth_at p event more j) new
              (same_Some (get_or before j None) (get_or later j None) (sym (slice_get-get_or before j None c)
              ∙ (still j a b).0 ∙ slice_get-get_or later j None (omega (arith, c, same))))
              (ap (λ d. worth_at p event d j) (still j a b).1))
          by (inr c) = subst (λ xs. AreAllExchanged p event less more xs (take (j + 1) later) old new)
              (take_all j before c ∙ sym (take_all (j + 1) before (omega (arith, c))))
              (subst (λ xs. AreAllExchanged p event less more (take j before) xs old new)
              (take_all j later (omega (arith, c, same)) ∙ sym (take_all (j + 1) later (omega (arith, c, same)))) first)
