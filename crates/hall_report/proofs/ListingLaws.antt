-- Lists of the demands that pass a test.
use Rattle.std.proofs.Common.{ℕ, suc, cond, ◌+◌, ◌<◌, ◌≡◌, Bool, true, false, Some, None, List, [], ◌∷◌, ◌++◌, map}
use Rattle.std.proofs.Common.{take, length, slice_get, refl, sym, ap, ◌∙◌, arith, append_assoc}
use Rattle.std.specs.List.{filter, flat_map, range_with_len}
use Rattle.std.specs.Option.{option_map_or}
use Rattle.std.proofs.lemmas.List.{length-map, length-take, map-append, take_more}
use Rattle.std.proofs.lemmas.Option.{slice_get_within}
use Rattle.std.proofs.lemmas.List.Elements.{filter-append}
use Rattle.khe_told.specs.Slots.{no_slot, slot_at}
use Rattle.khe_told.specs.declared.slots.Slot.{Slot}
use Rattle.khe_told.specs.declared.slots.Span.{Span}
use Rattle.khe_base.specs.declared.numbers.MeetId.{MeetId}
use Rattle.hall_report.specs.Demands.{chosen, place_demands, slot_demands, task_demands}
use Rattle.hall_report.specs.declared.demand.Demand.{Demand}
use Rattle.hall_report.specs.declared.demand.Demand.TheVariants.{Task}
use Rattle.hall_report.proofs.UnitsOpened.{mapped_next, range_next}

-- one demand more
pub filter_one : (test : Demand → Bool) (xs : List Demand) (d : Demand) (b : Bool) → test d ≡ b
    → filter test (xs ++ d ∷ []) ≡ filter test xs ++ cond b (d ∷ []) []
filter_one test xs d b h = filter-append test xs (d ∷ []) ∙ ap (λ v. filter test xs ++ cond v (d ∷ []) []) h

flat_more : {A B : Type 0} (f : A → List B) (xs : List A) (x : A) → flat_map f (xs ++ x ∷ []) ≡ flat_map f xs ++ f x
flat_more f [] x = nil_right (f x)
  where
    nil_right : {B : Type 0} (ys : List B) → ys ++ [] ≡ ys
    nil_right [] = refl
    nil_right (y ∷ ys) = ap (λ zs. y ∷ zs) (nil_right ys)
flat_more f (z ∷ xs) x = ap (λ ys. f z ++ ys) (flat_more f xs x) ∙ sym (append_assoc (f z) (flat_map f xs) (f x))

-- the next offset of a place
pub offsets_more : (meet : MeetId) (place n : ℕ)
    → map (λ o. Task meet place o) (range_with_len 0 (n + 1)) ≡ map (λ o. Task meet place o) (range_with_len 0 n)
    ++ Task meet place n ∷ []
offsets_more meet place n =
    let e : 0 + n ≡ n = omega arith in
    ap (map (λ o. Task meet place o)) (range_next 0 n ∙ ap (λ k. range_with_len 0 n ++ k ∷ []) e)
    ∙ map-append (λ o. Task meet place o) (range_with_len 0 n) (n ∷ [])

pub nil_end : {B : Type 0} (ys : List B) → ys ++ [] ≡ ys
nil_end [] = refl
nil_end (y ∷ ys) = ap (λ zs. y ∷ zs) (nil_end ys)

pub place_more : (test : Demand → Bool) (new list old : List Demand) (meet : MeetId) (place n : ℕ) (b : Bool)
    → list ≡ old ++ filter test (map (λ o. Task meet place o) (range_with_len 0 n)) → b ≡ test (Task meet place n)
    → new ≡ list ++ cond b (Task meet place n ∷ []) []
    → new ≡ old ++ filter test (map (λ o. Task meet place o) (range_with_len 0 (n + 1)))
place_more test new list old meet place n b h t g =
    g ∙ ap (λ xs. xs ++ cond b (Task meet place n ∷ []) []) h
    ∙ append_assoc old (filter test (map (λ o. Task meet place o) (range_with_len 0 n)))
    (cond b (Task meet place n ∷ []) [])
    ∙ ap (λ xs. old ++ xs) (sym (filter_one test (map (λ o. Task meet place o) (range_with_len 0 n)) (Task meet place n)
    b (sym t)))
    ∙ ap (λ xs. old ++ filter test xs) (sym (offsets_more meet place n))

-- the next place of a meet
pub places_more : (test : Demand → Bool) (new list old : List Demand) (f : ℕ → List Demand) (n : ℕ)
    → list ≡ old ++ filter test (flat_map f (range_with_len 0 n)) → new ≡ list ++ filter test (f n)
    → new ≡ old ++ filter test (flat_map f (range_with_len 0 (n + 1)))
places_more test new list old f n h g =
    let e : 0 + n ≡ n = omega arith in
    g ∙ ap (λ xs. xs ++ filter test (f n)) h
    ∙ append_assoc old (filter test (flat_map f (range_with_len 0 n))) (filter test (f n))
    ∙ ap (λ xs. old ++ xs) (sym (filter-append test (flat_map f (range_with_len 0 n)) (f n)))
    ∙ ap (λ xs. old ++ filter test xs) (sym (ap (flat_map f) (range_next 0 n ∙ ap (λ k. range_with_len 0 n ++ k ∷ []) e)
    ∙ flat_more f (range_with_len 0 n) n))

-- the next place of a meet that lasts one time
pub single_more : (test : Demand → Bool) (new list old : List Demand) (meet : MeetId) (n : ℕ) (b : Bool)
    → list ≡ old ++ filter test (flat_map (λ k. map (λ o. Task meet k o) (range_with_len 0 1)) (range_with_len 0 n))
    → b ≡ test (Task meet n 0) → new ≡ list ++ cond b (Task meet n 0 ∷ []) []
    → new ≡ old ++ filter test (flat_map (λ k. map (λ o. Task meet k o) (range_with_len 0 1))
    (range_with_len 0 (n + 1)))
single_more test new list old meet n b h t g =
    places_more test new list old (λ k. map (λ o. Task meet k o) (range_with_len 0 1)) n h
    (g ∙ ap (λ v. list ++ cond v (Task meet n 0 ∷ []) []) t)

-- the next slot of a state
pub slots_more : (test : Demand → Bool) (new list old : List Demand) (s : List Slot) (n : ℕ) → n < length s
    → list ≡ old ++ filter test (task_demands (take n s)) → new ≡ list ++ filter test (slot_demands (slot_at s n))
    → new ≡ old ++ filter test (task_demands (take (n + 1) s))
slots_more test new list old s n l h g =
    g ∙ ap (λ xs. xs ++ filter test (slot_demands (slot_at s n))) h
    ∙ append_assoc old (filter test (task_demands (take n s))) (filter test (slot_demands (slot_at s n)))
    ∙ ap (λ xs. old ++ xs) (sym (filter-append test (task_demands (take n s)) (slot_demands (slot_at s n))))
    ∙ ap (λ xs. old ++ filter test xs) (sym (ap (flat_map slot_demands) (take_more s n no_slot l)
    ∙ flat_more slot_demands (take n s) (slot_at s n)))

-- a slot with a meet, and one without
pub live_slot : (test : Demand → Bool) (x : Slot) (m : ℕ) (y : Span) (places : ℕ) → x.span ≡ Some y → x.meet.0 ≡ m
    → length x.given ≡ places
    → filter test (flat_map (λ k. map (λ o. Task (record { 0 = m }) k o) (range_with_len 0 y.duration))
    (range_with_len 0 places)) ≡ filter test (slot_demands x)
live_slot test x m y places span own many =
    let shown : slot_demands x ≡ flat_map (place_demands x y) (range_with_len 0 (length x.given)) =
    ap (λ v. option_map_or (λ (z : Span). flat_map (place_demands x z) (range_with_len 0 (length x.given))) v [])
    span in
    ap (λ n. filter test (flat_map (λ k. map (λ o. Task (record { 0 = m }) k o) (range_with_len 0 y.duration))
    (range_with_len 0 n))) (sym many)
    ∙ ap (λ n. filter test (flat_map (λ k. map (λ o. Task (record { 0 = n }) k o) (range_with_len 0 y.duration))
    (range_with_len 0 (length x.given)))) (sym own)
    ∙ ap (filter test) (sym shown)

pub free_slot : (test : Demand → Bool) (x : Slot) (list : List Demand) → x.span ≡ None
    → list ≡ list ++ filter test (slot_demands x)
free_slot test x list span =
    let shown : slot_demands x ≡ [] = ap (λ v. option_map_or
    (λ (z : Span). flat_map (place_demands x z) (range_with_len 0 (length x.given))) v []) span in
    sym (nil_end list) ∙ ap (λ xs. list ++ filter test xs) (sym shown)

-- lists by numbers
step_both : (b : Bool) (x : Demand) (ds bs cs : List Demand) → ds ≡ bs ++ cs
    → cond b (x ∷ ds) ds ≡ cond b (x ∷ bs) bs ++ cs
step_both true x ds bs cs h = ap (λ v. x ∷ v) h
step_both false x ds bs cs h = h

pub chosen_both : (test : ℕ → Bool) (n : ℕ) (xs ys : List Demand)
    → chosen test n (xs ++ ys) ≡ chosen test n xs ++ chosen test (n + length xs) ys
chosen_both test n [] ys = let e : n ≡ n + 0 = omega arith in ap (λ k. chosen test k ys) e
chosen_both test n (x ∷ xs) ys =
    let e : n + 1 + length xs ≡ n + suc (length xs) = omega arith in
    step_both (test n) x (chosen test (n + 1) (xs ++ ys)) (chosen test (n + 1) xs)
    (chosen test (n + suc (length xs)) ys)
    (chosen_both test (n + 1) xs ys ∙ ap (λ k. chosen test (n + 1) xs ++ chosen test k ys) e)

step_same : (b c : Bool) (x : Demand) (ds bs : List Demand) → b ≡ c → ds ≡ bs → cond b (x ∷ ds) ds ≡ cond c (x ∷ bs) bs
step_same b c x ds bs h g = ap (λ v. cond v (x ∷ ds) ds) h ∙ ap (λ v. cond c (x ∷ v) v) g

-- a test of demands as one of numbers
pub chosen_filter : (test : ℕ → Bool) (p : Demand → Bool) (n : ℕ) (xs : List Demand)
    → ((i : ℕ) (d : Demand) → slice_get xs i ≡ Some d → p d ≡ test (n + i)) → filter p xs ≡ chosen test n xs
chosen_filter test p n [] h = refl
chosen_filter test p n (x ∷ xs) h =
    let z : n + 0 ≡ n = omega arith in
    step_same (p x) (test n) x (filter p xs) (chosen test (n + 1) xs) (h 0 x refl ∙ ap test z)
    (chosen_filter test p (n + 1) xs (λ i d g. let e : n + suc i ≡ n + 1 + i = omega arith in
    h (suc i) d g ∙ ap test e))

-- two tests that agree
pub chosen_moved : (test other : ℕ → Bool) (a b : ℕ) (xs : List Demand)
    → ((i : ℕ) → i < length xs → test (a + i) ≡ other (b + i)) → chosen test a xs ≡ chosen other b xs
chosen_moved test other a b [] h = refl
chosen_moved test other a b (x ∷ xs) h =
    let za : a ≡ a + 0 = omega arith in
    let zb : b + 0 ≡ b = omega arith in
    step_same (test a) (other b) x (chosen test (a + 1) xs) (chosen other (b + 1) xs)
    (ap test za ∙ h 0 (omega arith) ∙ ap other zb)
    (chosen_moved test other (a + 1) (b + 1) xs
    (λ i l. let ea : a + 1 + i ≡ a + suc i = omega arith in let eb : b + suc i ≡ b + 1 + i = omega arith in
    ap test ea ∙ h (suc i) (omega (arith, l)) ∙ ap other eb))

-- one cell more
pub cells_more : (test : ℕ → Bool) (list old : List Demand) (f : ℕ → Demand) (cells : List ℕ) (n c : ℕ) (b : Bool)
    → slice_get cells n ≡ Some c → test n ≡ b → list ≡ old ++ chosen test 0 (map f (take n cells))
    → list ++ cond b (f c ∷ []) [] ≡ old ++ chosen test 0 (map f (take (n + 1) cells))
cells_more test list old f cells n c b at t h =
    let zero_n : 0 + length (map f (take n cells)) ≡ n = let a = length-map (take n cells) f in let l =
    slice_get_within cells n c at in let k = length-take n cells in omega (arith, a, l, k) in
    ap (λ xs. xs ++ cond b (f c ∷ []) []) h
    ∙ append_assoc old (chosen test 0 (map f (take n cells))) (cond b (f c ∷ []) [])
    ∙ ap (λ v. old ++ (chosen test 0 (map f (take n cells)) ++ cond v (f c ∷ []) [])) (sym t)
    ∙ ap (λ k. old ++ (chosen test 0 (map f (take n cells)) ++ chosen test k (f c ∷ []))) (sym zero_n)
    ∙ ap (λ xs. old ++ xs) (sym (chosen_both test 0 (map f (take n cells)) (f c ∷ [])))
    ∙ ap (λ xs. old ++ chosen test 0 xs) (sym (mapped_next f cells n c at))
