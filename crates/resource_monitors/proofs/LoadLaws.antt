-- What tasks are worth, and what one task more or less does to workloads.
use Rattle.std.proofs.Common.{ℕ, ◌≡◌, ◌≤◌, ◌<◌, ◌+◌, ◌-◌, ◌*◌, ◌/◌, ◌^◌, ◌==◌, ◌∙◌, ◌⊎◌, inl, inr, zero, suc, cond}
use Rattle.std.proofs.Common.{Option}
use Rattle.std.proofs.Common.{Bool, true, false, Some, None, List, [], ◌∷◌, get_or, set, take, replicate, length}
use Rattle.std.proofs.Common.{slice_get}
use Rattle.std.proofs.Common.{slice_index, refl, sym, ap, subst, arith, sum_by, zero-add}
use Rattle.std.specs.Option.{option_map_or}
use Rattle.std.proofs.Math.Nat.{zero-mul}
use Rattle.std.proofs.lemmas.Bool.{cases_eq, eq-eqb, ne_eqb, true≢false}
use Rattle.std.proofs.lemmas.List.{get_or-set_same, get_or-set_other}
use Rattle.std.proofs.lemmas.List.Sums.{sum_by-append, sum_by-cons, sum_by-set}
use Rattle.khe_base.specs.declared.numbers.EventId.{EventId}
use Rattle.khe_base.specs.declared.numbers.ResourceId.{ResourceId}
use Rattle.khe_instance.specs.ResourceDeviation.{workload_in, workload_of}
use Rattle.khe_instance.specs.Running.{is_resource}
use Rattle.khe_instance.specs.declared.parts.EventInfo.{EventInfo}
use Rattle.khe_instance.specs.declared.parts.Parts.{Parts}
use Rattle.khe_instance.specs.declared.parts.Place.{Place}
use Rattle.khe_instance.specs.declared.states.Duty.{Duty}
use Rattle.khe_instance.specs.declared.states.Meet.{Meet}
use Rattle.khe_told.specs.Lists.{duties_in, duties_of, duties_with}
use Rattle.khe_told.specs.Slots.{IsBareIfFree, length_of, no_slot, slot_at}
use Rattle.khe_told.specs.declared.slots.Slot.{Slot}
use Rattle.khe_told.specs.declared.slots.Span.{Span}
use Rattle.resource_monitors.specs.Loads.{CanTurn, Turned, part_of, worth_at, worths_of}

module _ (p : Parts) (q : ℕ) where
  -- what a task, and the tasks of a slot are worth to the resource
  abbrev share : Duty → ℕ
  share d = cond (is_resource q d.resource) (workload_of p.events p.unit d) 0

  abbrev pub load_of : Slot → ℕ
  load_of x = sum_by share (duties_of x)

  loads_are : (s : List Slot) → workload_in p.events p.unit (duties_in s) q ≡ sum_by load_of s
  loads_are [] = refl
  loads_are (x ∷ s) =
      sum_by-append share (duties_of x) (duties_in s) ∙ ap (λ n. load_of x + n) (loads_are s)
      ∙ sym (sum_by-cons load_of x s)

  shares : (m : Meet) (place : ℕ) (given : List (Option ResourceId))
      → sum_by share (duties_with m place given) ≡ worths_of p m.event m.duration place given q
  shares m place [] = refl
  shares m place (o ∷ given) =
      sum_by-cons share (record { meet = m; place = place; resource = o }) (duties_with m (place + 1) given)
      ∙ ap (λ n. share (record { meet = m; place = place; resource = o }) + n) (shares m (place + 1) given)

  -- where nothing is given
  nothing : (e : EventId) (d place n : ℕ) → worths_of p e d place (replicate n None) q ≡ 0
  nothing e d place zero = refl
  nothing e d place (suc n) = zero-add (worths_of p e d (place + 1) (replicate n None) q) ∙ nothing e d (place + 1) n

  pub load_is : (x : Slot) → IsBareIfFree x → load_of x ≡ worths_of p x.event (length_of x) 0 x.given q
  load_is x free = by x.span refl
    where
      by : (o : Option Span) → x.span ≡ o → load_of (record x { span = o })
          ≡ worths_of p x.event (length_of (record x { span = o })) 0 x.given q
      by None e = sym (ap (λ g. worths_of p x.event 0 0 g q) (free e) ∙ nothing x.event 0 0 (length x.given))
      by (Some y) e =
          shares (record { meet = x.meet; event = x.event; duration = y.duration; start = y.start }) 0 x.given

  -- one slot in place of another
  pub loads_exchanged : (s : List Slot) (k : ℕ) (y : Slot) → k < length s
      → workload_in p.events p.unit (duties_in (set s k y)) q + load_of (slot_at s k)
      ≡ workload_in p.events p.unit (duties_in s) q + load_of y
  loads_exchanged s k y l =
      let a = loads_are s in
      let b = loads_are (set s k y) in
      let e : sum_by load_of (set s k y) + load_of (slot_at s k) ≡ sum_by load_of s + load_of y =
      sum_by-set load_of s k y no_slot l in
      omega (arith, a, b, e)

  -- the first places
  module _ (e : EventId) (d : ℕ) where
    more_by : (place : ℕ) (given : List (Option ResourceId)) (i : ℕ) → i < length given
        → worths_of p e d place (take (suc i) given) q ≡ worths_of p e d place (take i given) q
        + part_of (get_or given i None) (worth_at p e d (place + i)) q
    more_by place [] i l = absurd (omega (arith, l))
    more_by place (o ∷ given) zero l =
        let a : part_of o (worth_at p e d (place + 0)) q ≡ part_of o (worth_at p e d place) q =
        ap (λ n. part_of o (worth_at p e d n) q) (let z : place + 0 ≡ place = omega arith in z) in
        omega (arith, a)
    more_by place (o ∷ given) (suc i) l =
        let r = more_by (place + 1) given i (omega (arith, l)) in
        let a : part_of (get_or given i None) (worth_at p e d (place + suc i)) q
        ≡ part_of (get_or given i None) (worth_at p e d (place + 1 + i)) q =
        ap (λ n. part_of (get_or given i None) (worth_at p e d n) q)
        (let z : place + suc i ≡ place + 1 + i = omega arith in z) in
        omega (arith, r, a)

    pub worths_more : (given : List (Option ResourceId)) (i : ℕ) → i < length given
        → worths_of p e d 0 (take (i + 1) given) q ≡ worths_of p e d 0 (take i given) q
        + part_of (get_or given i None) (worth_at p e d i) q
    worths_more given i l =
        ap (λ n. worths_of p e d 0 (take n given) q) (let z : i + 1 ≡ suc i = omega arith in z) ∙ more_by 0 given i l
        ∙ ap (λ n. worths_of p e d 0 (take i given) q + part_of (get_or given i None) (worth_at p e d n) q) (zero-add i)

    less_by : (place : ℕ) (given : List (Option ResourceId)) (i : ℕ)
        → worths_of p e d place (take i given) q ≤ worths_of p e d place given q
    less_by place [] zero = omega arith
    less_by place [] (suc i) = omega arith
    less_by place (o ∷ given) zero = omega arith
    less_by place (o ∷ given) (suc i) = let r = less_by (place + 1) given i in omega (arith, r)

    pub worths_less : (given : List (Option ResourceId)) (i : ℕ)
        → worths_of p e d 0 (take i given) q ≤ worths_of p e d 0 given q
    worths_less given i = less_by 0 given i

-- what a task is worth, by the parts of its place and its event
pub worth_is : (p : Parts) (e : EventId) (d k : ℕ) (event : EventInfo) (places : List Place) (w rate unit : ℕ)
    → slice_get p.events e.0 ≡ Some event → places ≡ event.places
    → w ≡ option_map_or (λ (q : Place). q.workload) (slice_get places k) 0 → unit ≡ p.unit
    → rate ≡ unit / event.duration → w * d * rate ≡ worth_at p e d k
worth_is p e d k event places w rate unit there same a u c =
    (λ i. (a ∙ ap (λ (qs : List Place). option_map_or (λ (q : Place). q.workload) (slice_get qs k) 0) same) i * d
    * (c ∙ ap (λ n. n / event.duration) u) i)
    ∙ by (slice_get event.places k) d (p.unit / event.duration)
    ∙ sym (ap (λ o. option_map_or (λ (y : EventInfo). option_map_or
    (λ (q : Place). q.workload * d * (p.unit / y.duration)) (slice_get y.places k) 0) o 0) there)
  where
    by : (o : Option Place) (n m : ℕ) → option_map_or (λ (q : Place). q.workload) o 0 * n * m
        ≡ option_map_or (λ (q : Place). q.workload * n * m) o 0
    by None n m = ap (λ k. k * m) (zero-mul n) ∙ zero-mul m
    by (Some q) n m = refl

-- one workload turned
pub raised : (loads : List ℕ) (r w q : ℕ) → r < length loads
    → slice_index (set loads r (slice_index loads r + w)) q ≡ slice_index loads q + cond (r == q) w 0
raised loads r w q l = by (cases_eq r q)
  where
    by : (r ≡ q) ⊎ (r ≡ q → ⊥) → slice_index (set loads r (slice_index loads r + w)) q
        ≡ slice_index loads q + cond (r == q) w 0
    by (inl e) = ap (slice_index (set loads r (slice_index loads r + w))) (sym e)
        ∙ get_or-set_same loads r (slice_index loads r + w) 0 l ∙ ap (λ n. slice_index loads n + w) e
        ∙ ap (λ b. slice_index loads q + cond b w 0) (sym (eq-eqb r q e))
    by (inr n) =
        let a : slice_index (set loads r (slice_index loads r + w)) q ≡ slice_index loads q =
        get_or-set_other loads r q (slice_index loads r + w) 0 (λ h. n (sym h)) in
        let b : cond (r == q) w 0 ≡ 0 = ap (λ b. cond b w 0) (ne_eqb r q n) in
        omega (arith, a, b)

pub lowered : (loads : List ℕ) (r w q : ℕ) → r < length loads → w ≤ slice_index loads r
    → slice_index (set loads r (slice_index loads r - w)) q + cond (r == q) w 0 ≡ slice_index loads q
lowered loads r w q l m = by (cases_eq r q)
  where
    by : (r ≡ q) ⊎ (r ≡ q → ⊥) → slice_index (set loads r (slice_index loads r - w)) q + cond (r == q) w 0
        ≡ slice_index loads q
    by (inl e) =
        let a : slice_index (set loads r (slice_index loads r - w)) q ≡ slice_index loads r - w =
        ap (slice_index (set loads r (slice_index loads r - w))) (sym e)
        ∙ get_or-set_same loads r (slice_index loads r - w) 0 l in
        let b : cond (r == q) w 0 ≡ w = ap (λ b. cond b w 0) (eq-eqb r q e) in
        let c : slice_index loads r ≡ slice_index loads q = ap (slice_index loads) e in
        omega (arith, a, b, c, m)
    by (inr n) =
        let a : slice_index (set loads r (slice_index loads r - w)) q ≡ slice_index loads q =
        get_or-set_other loads r q (slice_index loads r - w) 0 (λ h. n (sym h)) in
        let b : cond (r == q) w 0 ≡ 0 = ap (λ b. cond b w 0) (ne_eqb r q n) in
        omega (arith, a, b)

pub risen : (b : Bool) (r : ResourceId) (w : ℕ) (old new : List ℕ) → b ≡ true → r.0 < length old
    → new ≡ set old r.0 (slice_index old r.0 + w) → Turned b (Some r) w old new
risen b r w old new h l is = subst (λ c. Turned c (Some r) w old new) (sym h)
    (λ q. ap (λ xs. slice_index xs q) is ∙ raised old r.0 w q l)

pub fallen : (b : Bool) (r : ResourceId) (w : ℕ) (old new : List ℕ) → b ≡ false → r.0 < length old
    → w ≤ slice_index old r.0 → new ≡ set old r.0 (slice_index old r.0 - w) → Turned b (Some r) w old new
fallen b r w old new h l enough is = subst (λ c. Turned c (Some r) w old new) (sym h)
    (λ q. sym (ap (λ xs. slice_index xs q + part_of (Some r) w q) is ∙ lowered old r.0 w q l enough))

pub room_one : (b : Bool) (r : ResourceId) (w : ℕ) (old : List ℕ) → b ≡ true → CanTurn b (Some r) w old
    → slice_index old r.0 + w < 2 ^ 128
room_one true r w old h can = can r refl
room_one false r w old h can = absurd (true≢false (sym h))

pub enough_one : (b : Bool) (r : ResourceId) (w : ℕ) (old : List ℕ) → b ≡ false → CanTurn b (Some r) w old
    → w ≤ slice_index old r.0
enough_one false r w old h can = can r refl
enough_one true r w old h can = absurd (true≢false h)
