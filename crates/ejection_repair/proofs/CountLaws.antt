-- How many moves a list has at most.
use Rattle.std.proofs.Common.{ℕ, zero, suc, ◌≡◌, ◌+◌, ◌-◌, ◌*◌, ◌<◌, ◌≤◌, ◌⊎◌, inl, inr, Bool, true, false, cond}
use Rattle.std.proofs.Common.{Option, Some, None, List, [], ◌∷◌, length, slice_get, refl, sym, ap, ◌∙◌}
use Rattle.std.proofs.Common.{subst, arith}
use Rattle.std.specs.Prelude.{◌==◌}
use Rattle.std.specs.List.{filter, flat_map, range_with_len}
use Rattle.std.specs.Option.{option_map_or}
use Rattle.std.proofs.Math.Nat.{mul-le-mul_right}
use Rattle.std.proofs.lemmas.Bool.Decides.{nat_tests}
use Rattle.std.proofs.lemmas.List.{length-map, length-append}
use Rattle.std.proofs.lemmas.List.FromFn.{length-range_with_len}
use Rattle.std.proofs.lemmas.List.Sums.{sum_by-cons}
use Rattle.std.proofs.lemmas.Option.{same_Some}
use Rattle.khe_base.proofs.ListLemmas.{all-there}
use Rattle.khe_base.specs.declared.numbers.EventId.{EventId}
use Rattle.khe_instance.specs.Kinds.{kind_of}
use Rattle.khe_instance.specs.WellMade.{AreWellMade, IsMonitor, IsPointOf, IsSinglePoint}
use Rattle.khe_instance.specs.declared.parts.EventInfo.{EventInfo}
use Rattle.khe_instance.specs.declared.parts.Parts.{Parts}
use Rattle.khe_instance.specs.declared.points.Monitor.{Monitor}
use Rattle.khe_instance.specs.declared.points.Point.{Point}
use Rattle.khe_instance.specs.declared.points.Point.TheVariants.{Event, EventResource, EventGroup, EventPair as Pair}
use Rattle.khe_instance.specs.declared.points.Point.TheVariants.{Resource}
use Rattle.khe_instance.specs.declared.rules.Constraint.{Constraint}
use Rattle.khe_instance.specs.declared.rules.Kind.{Kind}
use Rattle.khe_instance.specs.declared.rules.Kind.TheVariants as kind
use Rattle.khe_instance.specs.declared.rules.Rule.{Rule}
use Rattle.khe_instance.specs.declared.rules.Rule.TheVariants as rule
use Rattle.khe_told.specs.Fits.{AreTold}
use Rattle.khe_told.specs.Valid.{AreValid}
use Rattle.khe_told.specs.Slots.{held, held_by, length_of, slot_at}
use Rattle.khe_told.specs.declared.edits.Edit.{Edit}
use Rattle.khe_told.specs.declared.slots.Slot.{Slot}
use Rattle.khe_solution.proofs.EditLaws.{edit_slots, edit_valid}
use Rattle.khe_solution.proofs.NumberLaws.{slots_told}
use Rattle.khe_engine.specs.States.{State}
use Rattle.khe_engine.proofs.StateLaws.{edited_meets}
use Rattle.repair_moves.specs.Items.{is_item, is_meet_at, item_slots, meet_slots, task_slots}
use Rattle.repair_moves.specs.Moves.{choices, choices_from, edit_of, is_choice, items_from, moves, moves_of}
use Rattle.repair_moves.specs.Moves.{moves_under, part_from}
use Rattle.repair_moves.specs.Picked.{picked}
use Rattle.repair_moves.specs.Table.{parts_of}
use Rattle.repair_moves.specs.declared.parts.Part.{Part}
use Rattle.repair_moves.specs.declared.parts.Part.TheVariants.{TimeMoves, SwapMoves, Cuts, Joins, TaskMoves, TradeMoves}
use Rattle.repair_moves.specs.declared.parts.Part.TheVariants.{Gives}
use Rattle.repair_moves.proofs.ItemLaws.{event_within}
use Rattle.repair_moves.proofs.TaskLaws.{both_true}
use Rattle.ejection_repair.specs.Bounds.{most_moves, IsWithin}
use Rattle.ejection_repair.specs.Repaired.{repaired}
use Rattle.ejection_repair.proofs.BoundLaws.{filter_count, flat_count, repaired_within}
use Rattle.ejection_repair.proofs.EditLaws.{not_of_groups}
use Rattle.ejection_repair.proofs.KeptLaws.{Leads, move_is}

record Found (events : List EventInfo) (k : ℕ) : Type 0 where
  value : EventInfo
  found : slice_get events k ≡ Some value

there : (events : List EventInfo) (k : ℕ) → k < length events → Found events k
there [] k l = absurd (omega (arith, l))
there (x ∷ xs) zero l = record { value = x; found = refl }
there (x ∷ xs) (suc k) l = let r = there xs k (omega (arith, l)) in record { value = r.value; found = r.found }

picked_most : (test : ℕ → Bool) (n : ℕ) → length (picked test 0 n) ≤ n
unfolding picked
picked_most test n = let a = filter_count test (range_with_len 0 (n - 0)) in let b = length-range_with_len 0 (n - 0) in
    omega (arith, a, b)

choices_most : (p : Parts) (s : List Slot) (point : Point) (part : Part) (n : ℕ)
    → length (choices_from p s point part n 0) ≤ choices p s part n
unfolding choices_from
choices_most p s point part n =
    let a = length-map (picked (is_choice p s point part n) 0 (choices p s part n)) (edit_of p s point part n) in
    let b = picked_most (is_choice p s point part n) (choices p s part n) in
    omega (arith, a, b)

items_most : (p : Parts) (s : List Slot) (r : Rule) (point : Point) (part : Part)
    → length (items_from p s r point part 0) ≤ item_slots p part
unfolding items_from
items_most p s r point part = picked_most (is_item p s r point part) (item_slots p part)

-- a part whose meets or tasks have at most n choices each
part_most : (p : Parts) (s : List Slot) (r : Rule) (point : Point) (part : Part) (c : ℕ)
    → ((n : ℕ) → choices p s part n ≤ c) → length (part_from p s r point part 0) ≤ item_slots p part * c
unfolding part_from
part_most p s r point part c h =
    let a = flat_count (λ n. choices_from p s point part n 0) c (items_from p s r point part 0)
    (λ n m. (let x = h n in let y = choices_most p s point part n in omega (arith, x, y))) in
    let b = items_most p s r point part in
    let m = mul-le-mul_right c b in
    omega (arith, a, m)

-- the cuts of an event's meets are fewer than the meets last
cut_one : (e : ℕ) (f : ℕ → List Edit) (test : ℕ → Bool) (k : ℕ) (xs : List Slot)
    → ((i : ℕ) → i < length xs → test (k + i) ≡ true → length (f (k + i)) ≤ held_by e (slot_at xs i))
    → length (flat_map f (filter test (range_with_len k (length xs)))) ≤ held e xs
cut_one e f test k [] h = omega arith
cut_one e f test k (x ∷ xs) h =
    by_head (test k) refl
    (cut_one e f test (k + 1) xs (λ i l t. (let n : k + suc i ≡ k + 1 + i = omega arith in
    let q = h (suc i) (omega (arith, l)) (ap test n ∙ t) in
    let w = ap (λ j. length (f j)) n in omega (arith, q, w))))
  where
    z : k + 0 ≡ k
    z = omega arith

    by_head : (b : Bool) → test k ≡ b → length (flat_map f (filter test (range_with_len (k + 1) (length xs)))) ≤ held e
        xs
        → length (flat_map f (cond b (k ∷ filter test (range_with_len (k + 1) (length xs)))
        (filter test (range_with_len (k + 1) (length xs))))) ≤ held e (x ∷ xs)
    by_head true q rest =
        let one = h zero (omega arith) (ap test z ∙ q) in
        let w = ap (λ j. length (f j)) z in
        let long = length-append (f k) (flat_map f (filter test (range_with_len (k + 1) (length xs)))) in
        let all = sum_by-cons (held_by e) x xs in
        omega (arith, one, w, long, all, rest)
    by_head false q rest = let all = sum_by-cons (held_by e) x xs in omega (arith, all, rest)

-- a meet of one event
meet_held : (e : ℕ) (x : Slot) → (e == x.event.0) ≡ true → length_of x ≤ held_by e x
meet_held e x h = let same : x.event.0 ≡ e = grind (arith, nat_tests) in let is =
    ap (λ j. cond (j == e) (length_of x) 0) same in let yes = ap (λ b. cond b (length_of x) 0) (self e) in
    omega (arith, is, yes)
  where
    self : (n : ℕ) → (n == n) ≡ true
    self n = grind (arith, nat_tests)

cuts_most : (p : Parts) (s : List Slot) (r : Rule) (e : EventId) → AreWellMade p → AreTold p s → e.0 < length p.events
    → length (part_from p s r (Event e) Cuts 0) ≤ meet_slots p
unfolding part_from items_from picked is_item is_meet_at item_slots choices
cuts_most p s r e made told l =
    let at = there p.events e.0 l in
    let many = slots_told p s made.first_meets told in
    let test = is_item p s r (Event e) Cuts in
    let f : ℕ → List Edit = λ n. choices_from p s (Event e) Cuts n 0 in
    let one = cut_one e.0 f test 0 s (λ i q t. (let z : 0 + i ≡ i = omega arith in
    let n = both_true _ _ (ap test (sym z) ∙ t) in
    let h = meet_held e.0 (slot_at s i) n.1 in
    let c = choices_most p s (Event e) Cuts i in
    let w = ap (λ j. length (f j)) z in
    omega (arith, h, c, w))) in
    let same = ap (λ n. length (flat_map f (filter test (range_with_len 0 n))))
    (let k : length s ≡ meet_slots p - 0 = omega (arith, many) in k) in
    let short = told.durations e.0 at.value at.found in
    let within = event_within 0 e.0 p.events at.value made.first_meets at.found in
    omega (arith, one, same, short, within)

-- each part by its name
times_most : (p : Parts) (s : List Slot) (r : Rule) (point : Point)
    → length (part_from p s r point TimeMoves 0) ≤ meet_slots p * length p.times
unfolding item_slots choices
times_most p s r point = part_most p s r point TimeMoves (length p.times) (λ n. omega arith)

swaps_most : (p : Parts) (s : List Slot) (r : Rule) (point : Point)
    → length (part_from p s r point SwapMoves 0) ≤ meet_slots p * meet_slots p
unfolding item_slots choices
swaps_most p s r point = part_most p s r point SwapMoves (meet_slots p) (λ n. omega arith)

joins_most : (p : Parts) (s : List Slot) (r : Rule) (point : Point)
    → length (part_from p s r point Joins 0) ≤ meet_slots p * meet_slots p
unfolding item_slots choices
joins_most p s r point = part_most p s r point Joins (meet_slots p) (λ n. omega arith)

tasks_most : (p : Parts) (s : List Slot) (r : Rule) (point : Point)
    → length (part_from p s r point TaskMoves 0) ≤ task_slots p * length p.resources
unfolding item_slots choices
tasks_most p s r point = part_most p s r point TaskMoves (length p.resources) (λ n. omega arith)

trades_most : (p : Parts) (s : List Slot) (r : Rule) (point : Point)
    → length (part_from p s r point TradeMoves 0) ≤ task_slots p * task_slots p
unfolding item_slots choices
trades_most p s r point = part_most p s r point TradeMoves (task_slots p) (λ n. omega arith)

gives_most : (p : Parts) (s : List Slot) (r : Rule) (point : Point)
    → length (part_from p s r point Gives 0) ≤ task_slots p * 1
unfolding item_slots choices
gives_most p s r point = part_most p s r point Gives 1 (λ n. omega arith)

more_most : (f : Part → List Edit) (a : Part) (rest : List Part) (n m : ℕ) → length (f a) ≤ n
    → length (flat_map f rest) ≤ m → length (flat_map f (a ∷ rest)) ≤ n + m
more_most f a rest n m h g = let e = length-append (f a) (flat_map f rest) in omega (arith, e, h, g)

-- the parts of each kind
parts_most : (f : Part → List Edit) (b t n m : ℕ) → length (f TimeMoves) ≤ b * n → length (f SwapMoves) ≤ b * b
    → length (f Joins) ≤ b * b → length (f TaskMoves) ≤ t * m
    → length (f TradeMoves) ≤ t * t → length (f Gives) ≤ t * 1 → (k : Kind)
    → (k ≡ kind.SplitEvents ⊎ k ≡ kind.DistributeSplitEvents → length (f Cuts) ≤ b)
    → length (flat_map f (parts_of k)) ≤ b * (n + b + 1) + t * (m + t + 1)
unfolding parts_of
parts_most f b t n m times swaps joins tasks trades gives k cuts = by_kind k cuts
  where
    nothing : length (flat_map f []) ≤ 0
    nothing = omega arith

    one : (a : Part) (x : ℕ) → length (f a) ≤ x → length (flat_map f (a ∷ [])) ≤ x + 0
    one a x h = more_most f a [] x 0 h nothing

    with_gives : length (flat_map f (Gives ∷ [])) ≤ t * 1 + 0
    with_gives = one Gives (t * 1) gives

    with_trades : length (flat_map f (TradeMoves ∷ Gives ∷ [])) ≤ t * t + (t * 1 + 0)
    with_trades = more_most f TradeMoves (Gives ∷ []) (t * t) (t * 1 + 0) trades with_gives

    with_tasks : length (flat_map f (TaskMoves ∷ TradeMoves ∷ Gives ∷ [])) ≤ t * m + (t * t + (t * 1 + 0))
    with_tasks = more_most f TaskMoves (TradeMoves ∷ Gives ∷ []) (t * m) (t * t + (t * 1 + 0)) tasks with_trades

    with_swaps : length (flat_map f
        (SwapMoves ∷ TaskMoves ∷ TradeMoves ∷ Gives ∷ [])) ≤ b * b + (t * m + (t * t + (t * 1 + 0)))
    with_swaps = more_most f SwapMoves (TaskMoves ∷ TradeMoves ∷ Gives ∷ []) (b * b) (t * m + (t * t + (t * 1 + 0)))
        swaps with_tasks

    all : length (flat_map f
        (TimeMoves ∷ SwapMoves ∷ TaskMoves ∷ TradeMoves ∷ Gives ∷ []))
        ≤ b * n + (b * b + (t * m + (t * t + (t * 1 + 0))))
    all = more_most f TimeMoves (SwapMoves ∷ TaskMoves ∷ TradeMoves ∷ Gives ∷ []) (b * n)
        (b * b + (t * m + (t * t + (t * 1 + 0)))) times with_swaps

    of_times : length (flat_map f (TimeMoves ∷ SwapMoves ∷ [])) ≤ b * n + (b * b + 0)
    of_times = more_most f TimeMoves (SwapMoves ∷ []) (b * n) (b * b + 0) times (one SwapMoves (b * b) swaps)

    of_tasks : length (flat_map f (TaskMoves ∷ TradeMoves ∷ [])) ≤ t * m + (t * t + 0)
    of_tasks = more_most f TaskMoves (TradeMoves ∷ []) (t * m) (t * t + 0) tasks (one TradeMoves (t * t) trades)

    with_cuts : length (f Cuts) ≤ b → length (flat_map f (Cuts ∷ Joins ∷ [])) ≤ b + (b * b + 0)
    with_cuts h = more_most f Cuts (Joins ∷ []) b (b * b + 0) h (one Joins (b * b) joins)

    only_times : length (flat_map f (TimeMoves ∷ [])) ≤ b * n + 0
    only_times = one TimeMoves (b * n) times

    only_tasks : length (flat_map f (TaskMoves ∷ [])) ≤ t * m + 0
    only_tasks = one TaskMoves (t * m) tasks

    by_kind : (k : Kind) → (k ≡ kind.SplitEvents ⊎ k ≡ kind.DistributeSplitEvents → length (f Cuts) ≤ b)
        → length (flat_map f (parts_of k)) ≤ b * (n + b + 1) + t * (m + t + 1)
    by_kind kind.AssignTime h = let a = only_times in omega (arith, a)
    by_kind kind.AssignResource h = let a = only_tasks in omega (arith, a)
    by_kind kind.SplitEvents h = let a = with_cuts (h (inl refl)) in omega (arith, a)
    by_kind kind.DistributeSplitEvents h = let a = with_cuts (h (inr refl)) in omega (arith, a)
    by_kind kind.PreferTimes h = let a = of_times in omega (arith, a)
    by_kind kind.PreferResources h = let a = of_tasks in omega (arith, a)
    by_kind kind.AvoidSplitAssignments h = let a = of_tasks in omega (arith, a)
    by_kind kind.SpreadEvents h = let a = of_times in omega (arith, a)
    by_kind kind.LinkEvents h = let a = of_times in omega (arith, a)
    by_kind kind.OrderEvents h = let a = of_times in omega (arith, a)
    by_kind kind.AvoidClashes h = let a = all in omega (arith, a)
    by_kind kind.AvoidUnavailableTimes h = let a = all in omega (arith, a)
    by_kind kind.LimitIdleTimes h = let a = all in omega (arith, a)
    by_kind kind.ClusterBusyTimes h = let a = all in omega (arith, a)
    by_kind kind.LimitBusyTimes h = let a = all in omega (arith, a)
    by_kind kind.LimitWorkload h = let a = with_tasks in omega (arith, a)

-- the rules of splits have an event as their point
splits_event : (p : Parts) (r : Rule) (point : Point) → IsPointOf p r point
    → kind_of r ≡ kind.SplitEvents ⊎ kind_of r ≡ kind.DistributeSplitEvents → IsSinglePoint p point
splits_event p (rule.SplitEvents a b c d) point h k = h
splits_event p (rule.DistributeSplitEvents d least greatest) point h k = h
splits_event p rule.AssignTime point h k = h
splits_event p (rule.PreferTimes times duration) point h k = h
splits_event p (rule.AssignResource role) point h (inl k) = absurd (let g : ⊥ = cc in g)
splits_event p (rule.AssignResource role) point h (inr k) = absurd (let g : ⊥ = cc in g)
splits_event p (rule.PreferResources resources role) point h (inl k) = absurd (let g : ⊥ = cc in g)
splits_event p (rule.PreferResources resources role) point h (inr k) = absurd (let g : ⊥ = cc in g)
splits_event p (rule.AvoidSplitAssignments role) point h (inl k) = absurd (let g : ⊥ = cc in g)
splits_event p (rule.AvoidSplitAssignments role) point h (inr k) = absurd (let g : ⊥ = cc in g)
splits_event p (rule.SpreadEvents spreads) point h (inl k) = absurd (let g : ⊥ = cc in g)
splits_event p (rule.SpreadEvents spreads) point h (inr k) = absurd (let g : ⊥ = cc in g)
splits_event p rule.LinkEvents point h (inl k) = absurd (let g : ⊥ = cc in g)
splits_event p rule.LinkEvents point h (inr k) = absurd (let g : ⊥ = cc in g)
splits_event p (rule.OrderEvents pairs) point h (inl k) = absurd (let g : ⊥ = cc in g)
splits_event p (rule.OrderEvents pairs) point h (inr k) = absurd (let g : ⊥ = cc in g)
splits_event p rule.AvoidClashes point h (inl k) = absurd (let g : ⊥ = cc in g)
splits_event p rule.AvoidClashes point h (inr k) = absurd (let g : ⊥ = cc in g)
splits_event p (rule.AvoidUnavailableTimes times) point h (inl k) = absurd (let g : ⊥ = cc in g)
splits_event p (rule.AvoidUnavailableTimes times) point h (inr k) = absurd (let g : ⊥ = cc in g)
splits_event p (rule.LimitIdleTimes groups least greatest) point h (inl k) = absurd (let g : ⊥ = cc in g)
splits_event p (rule.LimitIdleTimes groups least greatest) point h (inr k) = absurd (let g : ⊥ = cc in g)
splits_event p (rule.ClusterBusyTimes groups least greatest) point h (inl k) = absurd (let g : ⊥ = cc in g)
splits_event p (rule.ClusterBusyTimes groups least greatest) point h (inr k) = absurd (let g : ⊥ = cc in g)
splits_event p (rule.LimitBusyTimes groups least greatest) point h (inl k) = absurd (let g : ⊥ = cc in g)
splits_event p (rule.LimitBusyTimes groups least greatest) point h (inr k) = absurd (let g : ⊥ = cc in g)
splits_event p (rule.LimitWorkload least greatest) point h (inl k) = absurd (let g : ⊥ = cc in g)
splits_event p (rule.LimitWorkload least greatest) point h (inr k) = absurd (let g : ⊥ = cc in g)

of_cuts : (p : Parts) (s : List Slot) (r : Rule) (point : Point) → AreWellMade p → AreTold p s → IsSinglePoint p point
    → length (part_from p s r point Cuts 0) ≤ meet_slots p
of_cuts p s r (Event e) made told h = cuts_most p s r e made told h
of_cuts p s r (EventResource e k) made told h = absurd h
of_cuts p s r (EventGroup g) made told h = absurd h
of_cuts p s r (Pair k) made told h = absurd h
of_cuts p s r (Resource q) made told h = absurd h

pub moves_most : (p : Parts) (s : List Slot) (n : ℕ) → AreWellMade p → AreTold p s → length (moves p s n) ≤ most_moves p
unfolding moves moves_of moves_under most_moves
moves_most p s n made told = by_monitor (slice_get p.monitors n) refl
  where
    by_rule : (x : Monitor) (k : Constraint) → x.kind ≡ kind_of k.rule → IsPointOf p k.rule x.point
        → length (moves_under p s x k) ≤ most_moves p
    by_rule x k sort point =
        let f : Part → List Edit = λ part. part_from p s k.rule x.point part 0 in
        parts_most f (meet_slots p) (task_slots p) (length p.times) (length p.resources) (times_most p s k.rule x.point)
        (swaps_most p s k.rule x.point) (joins_most p s k.rule x.point)
        (tasks_most p s k.rule x.point) (trades_most p s k.rule x.point) (gives_most p s k.rule x.point) x.kind
        (λ q. of_cuts p s k.rule x.point made told (splits_event p k.rule x.point point
        (subst (λ (y : Kind). y ≡ kind.SplitEvents ⊎ y ≡ kind.DistributeSplitEvents) sort q)))

    by_constraint : (x : Monitor) (o : Option Constraint) → slice_get p.constraints x.constraint ≡ o → IsMonitor p x
        → length (option_map_or (moves_under p s x) o []) ≤ most_moves p
    by_constraint x None e m = omega arith
    by_constraint x (Some k) e m =
        let same : m.0 ≡ k = same_Some m.0 k (sym m.1 ∙ e) in
        by_rule x k (m.2 ∙ ap (λ (c : Constraint). kind_of c.rule) same)
        (subst (λ (c : Constraint). IsPointOf p c.rule x.point) same m.3)

    by_monitor : (o : Option Monitor) → slice_get p.monitors n ≡ o
        → length (option_map_or (moves_of p s) o []) ≤ most_moves p
    by_monitor None e = omega arith
    by_monitor (Some x) e = by_constraint x (slice_get p.constraints x.constraint) refl
        (all-there (IsMonitor p) p.monitors n x made.monitors.each e)

-- moves lead from valid slots to valid ones
leads_valid : (p : Parts) → Leads p (λ u. AreValid p u.slots)
leads_valid p u m e v among =
    let move = move_is p u.slots m e among in
    let same = edit_slots p u.slots e v move.1 move.0
    ∙ sym (ap (λ (x : State). x.slots) (edited_meets u e (not_of_groups e move.1))) in
    subst (AreValid p) same (edit_valid p u.slots e v move.1 move.0)

pub repaired_bounded : (p q : Parts) (s : State) (depth b v : ℕ) → q ≡ p → AreWellMade q → AreValid p s.slots
    → IsWithin (length p.monitors) (most_moves p) depth (repaired p s depth b v).outcome
repaired_bounded p q s depth b v same made valid =
    let own : AreWellMade p = subst AreWellMade same made in
    repaired_within p (λ u. AreValid p u.slots) (length p.monitors) (most_moves p)
    (record {
      monitors = omega arith;
      lists = λ u m good. moves_most p u.slots m own good.told;
      onward =
          leads_valid p;
    }) s depth b v valid

pub valid_at : (p q : Parts) (s t : List Slot) → q ≡ p → t ≡ s → AreValid q t → AreValid p s
valid_at p q s t e f v = subst (λ x. AreValid p x) f (subst (λ x. AreValid x t) e v)
