-- What a task costs with each resource, by a task that is alike.
use Rattle.std.proofs.Common.{ℕ, ◌≡◌, ◌+◌, ◌*◌, ◌<◌, ◌≤◌, ◌++◌, None, List, [], ◌∷◌, zero, suc}
use Rattle.std.proofs.Common.{length, map}
use Rattle.std.proofs.Common.{take, drop, get_or, refl, sym, ap, subst, ◌∙◌, arith}
use Rattle.std.specs.Prelude.{All}
use Rattle.std.specs.List.{flat_map}
use Rattle.std.proofs.lemmas.List.{get_or-map, get_or-take, length-map, length-take-le, map_more}
use Rattle.std.proofs.lemmas.List.Concat.{flat_map-cons}
use Rattle.std.proofs.Math.Nat.{mul-le-mul_right}
use Rattle.std.proofs.Math.Seq.{drop-append-add, take-append_seam}
use Rattle.khe_base.specs.declared.numbers.ResourceId.{ResourceId}
use Rattle.khe_base.specs.declared.numbers.TaskId.{TaskId}
use Rattle.khe_base.specs.declared.sums.Totals.{Totals}
use Rattle.khe_engine.specs.States.{State, edited}
use Rattle.khe_engine.specs.Values.{deviations_in}
use Rattle.khe_instance.specs.Costs.{totals_of}
use Rattle.khe_instance.specs.declared.parts.Parts.{Parts}
use Rattle.khe_solution.specs.Editing as editing
use Rattle.khe_solution.specs.Refusing.{refusal}
use Rattle.khe_told.specs.declared.edits.Edit.TheVariants.{Give}
use Rattle.khe_told.specs.declared.slots.Slot.{Slot}
use Rattle.resource_match.specs.Choices.{no_cost}
use Rattle.resource_match.specs.Smallness.{IsSmall}
use Rattle.time_match.specs.Alike.{AreAlike, IsBare}
use Rattle.time_match.specs.Costs.{cost_with, no_resource, no_task, row}
use Rattle.time_match.specs.Leaders.{AreExchanged, AreLike, IsLeader, IsLikeness, no_likeness, tasks_of}
use Rattle.time_match.specs.Open.{AreReady}
use Rattle.time_match.specs.Parted.{costs_given}
use Rattle.time_match.specs.Wishes.{off_in, rest_in, wishes_in}
use Rattle.time_match.specs.declared.leaders.Leader.{Leader}
use Rattle.time_match.specs.declared.likenesses.Likeness.{Likeness}
use Rattle.time_match.proofs.AskLaws.{rows_next, table_length}
use Rattle.time_match.proofs.FourLaws.{four_hard, four_soft, parted_hard, parted_soft}
use Rattle.time_match.proofs.OpenLaws.{may_give_each}

pub same_totals : (x y : Totals) → x.hard ≡ y.hard → x.soft ≡ y.soft → x ≡ y
same_totals x y h k = λ i. record { hard = h i; soft = k i }

-- what a task costs with a resource: its wishes and the rest
cost_is_of : (p : Parts) (b : State) (t : TaskId) (r : ResourceId)
    → cost_with p b t r ≡ totals_of p (costs_given p (off_in b) b.slots t r)
unfolding edited editing.edited deviations_in
cost_is_of p b t r = refl

pub cost_hard : (p : Parts) (b : State) (t : TaskId) (r : ResourceId)
    → (cost_with p b t r).hard ≡ (rest_in p b t r).hard + (wishes_in p b t r).hard
cost_hard p b t r = ap (λ (x : Totals). x.hard) (cost_is_of p b t r) ∙ parted_hard p (off_in b) b.slots t r

pub cost_soft : (p : Parts) (b : State) (t : TaskId) (r : ResourceId)
    → (cost_with p b t r).soft ≡ (rest_in p b t r).soft + (wishes_in p b t r).soft
cost_soft p b t r = ap (λ (x : Totals). x.soft) (cost_is_of p b t r) ∙ parted_soft p (off_in b) b.slots t r

-- what the wishes leave of a cost
pub within_hard : (p : Parts) (b : State) (t : TaskId) (r : ResourceId) (a w : Totals) → a ≡ cost_with p b t r
    → w ≡ wishes_in p b t r → w.hard ≤ a.hard
within_hard p b t r a w e h =
    let c = cost_hard p b t r in
    let x = ap (λ (z : Totals). z.hard) e in
    let y = ap (λ (z : Totals). z.hard) h in
    omega (arith, c, x, y)

pub within_soft : (p : Parts) (b : State) (t : TaskId) (r : ResourceId) (a w : Totals) → a ≡ cost_with p b t r
    → w ≡ wishes_in p b t r → w.soft ≤ a.soft
within_soft p b t r a w e h =
    let c = cost_soft p b t r in
    let x = ap (λ (z : Totals). z.soft) e in
    let y = ap (λ (z : Totals). z.soft) h in
    omega (arith, c, x, y)

pub rest_is : (p : Parts) (b : State) (t : TaskId) (r : ResourceId) (a w x : Totals) → a ≡ cost_with p b t r
    → w ≡ wishes_in p b t r → x.hard + w.hard ≡ a.hard → x.soft + w.soft ≡ a.soft → x ≡ rest_in p b t r
rest_is p b t r a w x e h hard soft =
    let c = cost_hard p b t r in
    let d = cost_soft p b t r in
    let e1 = ap (λ (z : Totals). z.hard) e in
    let e2 = ap (λ (z : Totals). z.soft) e in
    let h1 = ap (λ (z : Totals). z.hard) h in
    let h2 = ap (λ (z : Totals). z.soft) h in
    same_totals x (rest_in p b t r) (omega (arith, c, e1, h1, hard)) (omega (arith, d, e2, h2, soft))

pub rest_small : (a w x : Totals) → IsSmall a → x.hard + w.hard ≡ a.hard → x.soft + w.soft ≡ a.soft → IsSmall x
rest_small a w x small hard soft =
    let h = small.hard in
    let s = small.soft in
    record { hard = omega (arith, h, hard); soft = omega (arith, s, soft) }

-- one more of a mapped list
pub mapped_next : {X Y : Type 0} (f : X → Y) (rs : List X) (k : ℕ) (d : X) (xs new : List Y) (y : Y) → k < length rs
    → xs ≡ map f (take k rs) → y ≡ f (get_or rs k d) → new ≡ xs ++ y ∷ [] → new ≡ map f (take (k + 1) rs)
mapped_next f rs k d xs new y l h is made = made ∙ (λ i. h i ++ is i ∷ []) ∙ sym (map_more f rs k d l)

-- what was asked of a task, and what a leader has, at a place
pub asked_at : (p : Parts) (b : State) (rs : List ResourceId) (t : TaskId) (asked : List Totals) (k : ℕ)
    → asked ≡ row p b rs t → k < length rs → get_or asked k no_cost ≡ cost_with p b t (get_or rs k no_resource)
asked_at p b rs t asked k is l = ap (λ xs. get_or xs k no_cost) is
    ∙ get_or-map (cost_with p b t) rs k no_resource no_cost l

pub rest_at : (p : Parts) (b : State) (rs : List ResourceId) (x : Leader) (rests : List Totals) (k : ℕ)
    → IsLeader p b rs x → rests ≡ x.rests → k < length rs
    → get_or rests k no_cost ≡ rest_in p b x.task (get_or rs k no_resource)
rest_at p b rs x rests k is same l =
    ap (λ xs. get_or xs k no_cost) (same ∙ is) ∙ get_or-map (rest_in p b x.task) rs k no_resource no_cost l

-- and what the led task costs with the resource there
module _ (p : Parts) (b : State) (x y : TaskId) (ex : AreExchanged p b x y) (r q : ResourceId) (rest own other : Totals)
    (is : rest ≡ rest_in p b x r) (mine : own ≡ rest_in p b y q) (its : other ≡ rest_in p b x q) where
  pub below_hard : other.hard ≤ rest.hard + own.hard
  below_hard =
      let f = ex.hard r q in
      let u = ap (λ (z : Totals). z.hard) is in
      let v = ap (λ (z : Totals). z.hard) mine in
      let w = ap (λ (z : Totals). z.hard) its in
      omega (arith, f, u, v, w)

  pub below_soft : other.soft ≤ rest.soft + own.soft
  below_soft =
      let f = ex.soft r q in
      let u = ap (λ (z : Totals). z.soft) is in
      let v = ap (λ (z : Totals). z.soft) mine in
      let w = ap (λ (z : Totals). z.soft) its in
      omega (arith, f, u, v, w)

  pub led_is : (wish cost : Totals) → wish ≡ wishes_in p b y r
      → cost.hard + other.hard ≡ rest.hard + own.hard + wish.hard
      → cost.soft + other.soft ≡ rest.soft + own.soft + wish.soft → cost ≡ cost_with p b y r
  led_is wish cost h hard soft =
      let f = ex.hard r q in
      let g = ex.soft r q in
      let u1 = ap (λ (z : Totals). z.hard) is in
      let v1 = ap (λ (z : Totals). z.hard) mine in
      let w1 = ap (λ (z : Totals). z.hard) its in
      let h1 = ap (λ (z : Totals). z.hard) h in
      let u2 = ap (λ (z : Totals). z.soft) is in
      let v2 = ap (λ (z : Totals). z.soft) mine in
      let w2 = ap (λ (z : Totals). z.soft) its in
      let h2 = ap (λ (z : Totals). z.soft) h in
      let c = cost_hard p b y r in
      let e = cost_soft p b y r in
      same_totals cost (cost_with p b y r) (omega (arith, f, u1, v1, w1, h1, c, hard))
      (omega (arith, g, u2, v2, w2, h2, e, soft))

-- two tasks for which the same was read exchange their resources
pub exchanged : (p : Parts) (b : State) (x y : Likeness) → IsLikeness p b.slots x → IsLikeness p b.slots y
    → AreLike x y → IsBare b.slots x.task → IsBare b.slots y.task → AreExchanged p b x.task y.task
exchanged p b x y hx hy like bx by =
    let alike : AreAlike p b.slots x.task y.task = record {
      start = hx.start ∙ like.start ∙ sym hy.start;
      duration = hx.duration ∙ like.duration ∙ sym hy.duration;
      worth = hx.worth ∙ like.worth ∙ sym hy.worth;
    } in
    record {
      hard = λ r q. four_hard p (off_in b) b.slots x.task y.task r q bx by alike hx.single hy.single;
      soft = λ r q. four_soft p (off_in b) b.slots x.task y.task r q bx by alike hx.single hy.single;
    }

-- the row of one of the tasks that were asked
pub row_in : (p : Parts) (b : State) (rs : List ResourceId) (ts : List TaskId) (k : ℕ) (d : TaskId) → k < length ts
    → take (length rs) (drop (k * length rs) (flat_map (row p b rs) ts)) ≡ row p b rs (get_or ts k d)
row_in p b rs [] k d l = absurd (omega (arith, l))
row_in p b rs (t ∷ ts) zero d l =
    let f = row p b rs in
    let many = length-map rs (cost_with p b t) in
    let none : zero * length rs ≡ 0 = omega arith in
    ap (λ n. take (length rs) (drop n (flat_map f (t ∷ ts)))) none
    ∙ (λ i. take (sym many i) (flat_map-cons f t ts i)) ∙ take-append_seam (f t) (flat_map f ts)
row_in p b rs (t ∷ ts) (suc k) d l =
    let f = row p b rs in
    let many = length-map rs (cost_with p b t) in
    let more : suc k * length rs ≡ length (f t) + k * length rs = omega (arith, many) in
    (λ i. take (length rs) (drop (more i) (flat_map-cons f t ts i)))
    ∙ ap (take (length rs)) (drop-append-add (f t) (flat_map f ts) (k * length rs))
    ∙ row_in p b rs ts k d (omega (arith, l))

-- what was asked of an earlier task
pub asked_is : (p : Parts) (b : State) (rs : List ResourceId) (read : List Likeness) (place first : ℕ)
    (pairs asked : List Totals) → place < length read → first < place
    → pairs ≡ flat_map (row p b rs) (take place (tasks_of read))
    → asked ≡ take (length rs) (drop (first * length rs) pairs)
    → asked ≡ row p b rs (get_or read first no_likeness).task
asked_is p b rs read place first pairs asked l h made is =
    let ts = tasks_of read in
    let task : Likeness → TaskId = λ x. x.task in
    let many = length-map read task in
    let long = length-take-le place ts (omega (arith, l, many)) in
    is ∙ ap (λ xs. take (length rs) (drop (first * length rs) xs)) made
    ∙ row_in p b rs (take place ts) first no_task (omega (arith, h, long))
    ∙ ap (row p b rs) (get_or-take place ts first no_task h
    ∙ get_or-map task read first no_likeness no_task (omega (arith, l, h)))

pub wide_enough : (p : Parts) (b : State) (rs : List ResourceId) (read : List Likeness) (place first : ℕ)
    (pairs : List Totals) → place < length read → first < place
    → pairs ≡ flat_map (row p b rs) (take place (tasks_of read)) → (first + 1) * length rs ≤ length pairs
wide_enough p b rs read place first pairs l h made =
    let ts = tasks_of read in
    let task : Likeness → TaskId = λ x. x.task in
    let many = length-map read task in
    let long = length-take-le place ts (omega (arith, l, many)) in
    let all = ap length made in
    let rows = table_length p b rs (take place ts) in
    let short : first + 1 ≤ length (take place ts) = omega (arith, h, long) in
    let wide : (first + 1) * length rs ≤ length (take place ts) * length rs = mul-le-mul_right (length rs) short in
    omega (arith, all, rows, wide)

-- what is ready of the task that was read at a place
pub bare_at : (p : Parts) (rs : List ResourceId) (s : List Slot) (read : List Likeness) (k : ℕ)
    → AreReady p rs s (tasks_of read) → k < length read → IsBare s (get_or read k no_likeness).task
bare_at p rs s read k ready l =
    let task : Likeness → TaskId = λ x. x.task in
    let many = length-map read task in
    let at : get_or (tasks_of read) k no_task ≡ (get_or read k no_likeness).task =
    get_or-map task read k no_likeness no_task l in
    let b : k < length (tasks_of read) = omega (arith, l, many) in
    subst (IsBare s) at (record { there = (ready.open_ k no_task b).there; none = ready.none k no_task b })

pub may_at : (p : Parts) (rs : List ResourceId) (s : List Slot) (read : List Likeness) (k : ℕ)
    → AreReady p rs s (tasks_of read) → k < length read
    → All (λ (r : ResourceId). refusal p s (Give (get_or read k no_likeness).task r) ≡ None) rs
may_at p rs s read k ready l =
    let task : Likeness → TaskId = λ x. x.task in
    let many = length-map read task in
    let at : get_or (tasks_of read) k no_task ≡ (get_or read k no_likeness).task =
    get_or-map task read k no_likeness no_task l in
    let b : k < length (tasks_of read) = omega (arith, l, many) in
    subst (λ (t : TaskId). All (λ (r : ResourceId). refusal p s (Give t r) ≡ None) rs) at
    (may_give_each p rs s (tasks_of read) ready k no_task b)

-- one more row
pub row_next_at : (p : Parts) (b : State) (rs : List ResourceId) (read : List Likeness) (k : ℕ)
    (pairs new : List Totals)
    → k < length read → pairs ≡ flat_map (row p b rs) (take k (tasks_of read))
    → new ≡ pairs ++ row p b rs (get_or read k no_likeness).task
    → new ≡ flat_map (row p b rs) (take (k + 1) (tasks_of read))
row_next_at p b rs read k pairs new l h made =
    let task : Likeness → TaskId = λ x. x.task in
    let many = length-map read task in
    let at : get_or (tasks_of read) k no_task ≡ (get_or read k no_likeness).task =
    get_or-map task read k no_likeness no_task l in
    rows_next p b rs (tasks_of read) k no_task pairs new (omega (arith, l, many)) h
    (made ∙ ap (λ t. pairs ++ row p b rs t) (sym at))
