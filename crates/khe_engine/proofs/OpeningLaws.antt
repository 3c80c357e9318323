-- A timetable as it is told, one meet after the other: each change fits, and in the end all is told.
use Rattle.std.proofs.Common.{ℕ, zero, suc, ◌≡◌, ◌+◌, ◌*◌, ◌<◌, ◌≤◌, ◌⊎◌, inl, inr, Bool, true, false, cond, Option}
use Rattle.std.proofs.Common.{Some, None, List, [], ◌∷◌, length, map, set, get_or, slice_get, refl, sym, ap, subst, ◌∙◌}
use Rattle.std.proofs.Common.{arith, add-one, get_or-set_same, set-set}
use Rattle.std.specs.Prelude.{All, IfSome, ◌==◌, replicate}
use Rattle.std.specs.List.{sum_by}
use Rattle.std.specs.Option.{option_map, option_map_or}
use Rattle.std.proofs.lemmas.List.{length-set, length-map}
use Rattle.std.proofs.lemmas.List.Elements.{All-cons, All-head, All-tail, All-get_or}
use Rattle.std.proofs.lemmas.List.Sums.{sum_by-cons}
use Rattle.std.proofs.lemmas.Option.{same_Some, slice_get_within}
use Rattle.khe_base.specs.declared.numbers.EventId.{EventId}
use Rattle.khe_base.specs.declared.numbers.MeetId.{MeetId}
use Rattle.khe_base.specs.declared.numbers.ResourceId.{ResourceId}
use Rattle.khe_base.specs.declared.numbers.TaskId.{TaskId}
use Rattle.khe_base.specs.declared.numbers.TimeId.{TimeId}
use Rattle.khe_instance.specs.declared.parts.EventInfo.{EventInfo}
use Rattle.khe_instance.specs.declared.parts.Parts.{Parts}
use Rattle.khe_instance.specs.declared.states.Meet.{Meet}
use Rattle.khe_told.proofs.SlotLaws.{told_set}
use Rattle.khe_told.specs.Changes.{after, changed, meet_of}
use Rattle.khe_told.specs.Fits.{AreTold, Fits, IsSlot, Suits}
use Rattle.khe_told.specs.Lists.{meet_in}
use Rattle.khe_told.specs.Slots.{IsBareIfFree, emptied, held, held_by, is_live, length_of, no_slot, slot_at}
use Rattle.khe_told.specs.declared.changes.Change.{Change}
use Rattle.khe_told.specs.declared.changes.Change.TheVariants as change
use Rattle.khe_told.specs.declared.slots.Slot.{Slot}
use Rattle.khe_told.specs.declared.slots.Span.{Span}
use Rattle.khe_solution.proofs.Basics.{there-none, some_value}
use Rattle.khe_instance.specs.WellMade.{AreFirstMeets}
use Rattle.khe_told.proofs.OpeningLaws.{few_places, slots_amount}
use Rattle.khe_solution.proofs.Owners.{owner}
use Rattle.khe_solution.proofs.Spans.{in_event}
use Rattle.khe_solution.proofs.Rows.{Below, nothing_given}
use Rattle.khe_engine.specs.Openings.{coming, given_to, told_to}

-- a meet of which the start, or all, is still to be told
abbrev IsWithin : Option Span → Option Span → Type 0
IsWithin None b = Unit {0}
IsWithin (Some a) None = ⊥
IsWithin (Some a) (Some b) = (a.duration ≡ b.duration) × ((a.start ≡ None) ⊎ (a.start ≡ b.start))

-- a slot of which a part is told
record IsPartOf (x y : Slot) : Type 0 where
  whose : emptied x ≡ emptied y
  span : IsWithin x.span y.span
  bare : IsBareIfFree x
  given : Below x.given y.given

within_duration : (a b : Option Span) → IsWithin a b → IfSome b (λ y. 1 ≤ y.duration) → IfSome a (λ y. 1 ≤ y.duration)
within_duration None b w h = tt
within_duration (Some a) None w h = elim w [ ]
within_duration (Some a) (Some b) w h = let e = w.0 in omega (arith, e, h)

within_ends : (n : ℕ) (a b : Option Span) → IsWithin a b → IfSome b (λ y. IfSome y.start (λ t. t.0 + y.duration ≤ n))
    → IfSome a (λ y. IfSome y.start (λ t. t.0 + y.duration ≤ n))
within_ends n None b w h = tt
within_ends n (Some a) None w h = elim w [ ]
within_ends n (Some a) (Some b) w h = at w.1
  where
    at : ((a.start ≡ None) ⊎ (a.start ≡ b.start)) → IfSome a.start (λ t. t.0 + a.duration ≤ n)
    at (inl e) = subst (λ o. IfSome o (λ t. t.0 + a.duration ≤ n)) (sym e) tt
    at (inr e) = subst (λ o. IfSome o (λ t. t.0 + a.duration ≤ n)) (sym e)
        (subst (λ d. IfSome b.start (λ t. t.0 + d ≤ n)) (sym w.0) h)

within_length : (a b : Option Span) → IsWithin a b
    → option_map_or (λ (y : Span). y.duration) a 0 ≤ option_map_or (λ (y : Span). y.duration) b 0
within_length None b w = omega arith
within_length (Some a) None w = elim w [ ]
within_length (Some a) (Some b) w = let e = w.0 in omega (arith, e)

part_slot : (p : Parts) (x y : Slot) → IsPartOf x y → IsSlot p y → IsSlot p x
part_slot p x y a i = record {
  duration = within_duration x.span y.span a.span i.duration;
  ends = within_ends (length p.times) x.span y.span a.span i.ends;
  given = λ e k place r g f h. i.given e k place r (sym (ap (λ (z : Slot). slice_get p.events z.event.0) a.whose) ∙ g) f
      (a.given k r h);
  empty = a.bare;
}

cond_le : (b c : Bool) (m n : ℕ) → b ≡ c → m ≤ n → cond b m 0 ≤ cond c n 0
cond_le true true m n e l = l
cond_le false c m n e l = omega arith
cond_le true false m n e l = absurd (subst (λ t. cond t (Unit {0}) ⊥) e tt)

part_held : (e : ℕ) (x y : Slot) → IsPartOf x y → held_by e x ≤ held_by e y
part_held e x y a = cond_le (x.event.0 == e) (y.event.0 == e) (length_of x) (length_of y)
    (ap (λ (z : Slot). z.event.0 == e) a.whose) (within_length x.span y.span a.span)

-- an empty slot
length-replicate : {A : Type 0} (n : ℕ) (a : A) → length (replicate n a) ≡ n
length-replicate zero a = refl
length-replicate (suc n) a = ap suc (length-replicate n a)

emptied_twice : (x : Slot) → emptied (emptied x) ≡ emptied x
emptied_twice x = λ j. record x {
  span = None;
  given =
      replicate (length-replicate {A = Option ResourceId} (length x.given) None j) None;
}

empty_part : (x : Slot) → IsPartOf (emptied x) x
empty_part x = record {
  whose = emptied_twice x;
  span = tt;
  bare = λ n. sym (ap (λ k. replicate {A = Option ResourceId} k None)
      (length-replicate {A = Option ResourceId} (length x.given) None));
  given = λ j r h. absurd (nothing_given (length x.given) j r h);
}

empty_holds : (e : ℕ) (x : Slot) → held_by e (emptied x) ≡ 0
empty_holds e x = nothing (x.event.0 == e)
  where
    nothing : (b : Bool) → ◌≡◌ {A = ℕ} (cond b 0 0) 0
    nothing true = refl
    nothing false = refl

-- the slots so far
told_length : (k : ℕ) (s : List Slot) → length (told_to k s) ≡ length s
told_length zero s = length-map s emptied
told_length (suc k) [] = refl
told_length (suc k) (x ∷ s) = ap suc (told_length k s)

told_at : (k : ℕ) (s : List Slot) → slot_at (told_to k s) k ≡ emptied (slot_at s k)
told_at zero [] = refl
told_at zero (x ∷ s) = refl
told_at (suc k) [] = refl
told_at (suc k) (x ∷ s) = told_at k s

all_emptied : (s : List Slot) → map emptied (map emptied s) ≡ map emptied s
all_emptied [] = refl
all_emptied (x ∷ s) = λ j. emptied_twice x j ∷ all_emptied s j

told_whose : (k : ℕ) (s : List Slot) → map emptied (told_to k s) ≡ map emptied s
told_whose zero s = all_emptied s
told_whose (suc k) [] = refl
told_whose (suc k) (x ∷ s) = ap (λ xs. emptied x ∷ xs) (told_whose k s)

empty_slots : (p : Parts) (s : List Slot) → All (IsSlot p) s → All (IsSlot p) (map emptied s)
empty_slots p [] a = a
empty_slots p (x ∷ s) a =
    All-cons (IsSlot p) (emptied x) (map emptied s)
    (part_slot p (emptied x) x (empty_part x) (All-head (IsSlot p) x s a))
    (empty_slots p s (All-tail (IsSlot p) x s a))

told_slots : (p : Parts) (k : ℕ) (s : List Slot) → All (IsSlot p) s → All (IsSlot p) (told_to k s)
told_slots p zero s a = empty_slots p s a
told_slots p (suc k) [] a = a
told_slots p (suc k) (x ∷ s) a = All-cons (IsSlot p) x (told_to k s) (All-head (IsSlot p) x s a)
    (told_slots p k s (All-tail (IsSlot p) x s a))

empty_held : (e : ℕ) (s : List Slot) → held e (map emptied s) ≡ 0
empty_held e [] = refl
empty_held e (x ∷ s) =
    let a = sum_by-cons (held_by e) (emptied x) (map emptied s) in
    let b = empty_holds e x in
    let c = empty_held e s in
    omega (arith, a, b, c)

told_held : (e k : ℕ) (s : List Slot) → held e (told_to k s) + held_by e (slot_at s k) ≤ held e s + held_by e no_slot
told_held e zero [] = omega arith
told_held e zero (x ∷ s) =
    let a = empty_held e (x ∷ s) in
    let b = sum_by-cons (held_by e) x s in
    omega (arith, a, b)
told_held e (suc k) [] = omega arith
told_held e (suc k) (x ∷ s) =
    let a = sum_by-cons (held_by e) x (told_to k s) in
    let b = sum_by-cons (held_by e) x s in
    let c = told_held e k s in
    omega (arith, a, b, c)

pub told_so_far : (p : Parts) (k : ℕ) (s : List Slot) → AreTold p s → AreTold p (told_to k s)
told_so_far p k s t = record {
  whose = told_whose k s ∙ t.whose;
  slots = told_slots p k s t.slots;
  durations = λ e event g. let a = told_held e k s in let b = empty_holds e no_slot in let c = t.durations e event g in
      omega (arith, a, b, c);
}

-- with a part of the next one
amid : List Slot → ℕ → Slot → List Slot
amid s k x = set (told_to k s) k x

told_amid : (p : Parts) (k : ℕ) (s : List Slot) (x : Slot) → AreTold p s → k < length s → IsPartOf x (slot_at s k)
    → AreTold p (set (told_to k s) k x)
told_amid p k s x t l a =
    let n = told_length k s in
    let there : k < length (told_to k s) = omega (arith, n, l) in
    told_set p (told_to k s) k x (told_so_far p k s t) there
    (a.whose ∙ sym (emptied_twice (slot_at s k)) ∙ sym (ap emptied (told_at k s)))
    (part_slot p x (slot_at s k) a (All-get_or (IsSlot p) s k no_slot l t.slots))
    (λ e event g.
    let b = told_held e k s in
    let c = empty_holds e no_slot in
    let d = t.durations e event g in
    let f = part_held e x (slot_at s k) a in
    omega (arith, b, c, d, f))

-- a change of the next slot, of which a part is told
amid_after : (k : ℕ) (s : List Slot) (x : Slot) (c : Change) → k < length s → meet_of c ≡ k
    → after (set (told_to k s) k x) c ≡ set (told_to k s) k (changed x c)
amid_after k s x c l e =
    let n = told_length k s in
    let there : k < length (told_to k s) = omega (arith, n, l) in
    ap (λ m. set (set (told_to k s) k x) m (changed (slot_at (set (told_to k s) k x) m) c)) e
    ∙ ap (λ z. set (set (told_to k s) k x) k (changed z c)) (get_or-set_same (told_to k s) k x no_slot there)
    ∙ set-set (told_to k s) k x (changed x c)

amid_fits : (p : Parts) (k : ℕ) (s : List Slot) (x : Slot) (c : Change) → AreTold p s → k < length s → meet_of c ≡ k
    → Suits x c → IsPartOf (changed x c) (slot_at s k)
    → Fits p (set (told_to k s) k x) c
amid_fits p k s x c t l e u a =
    let n = told_length k s in
    let there : k < length (told_to k s) = omega (arith, n, l) in
    record {
      there = let m = length-set (told_to k s) k x in omega (arith, m, e, there);
      suits = subst (λ m. Suits (slot_at (set (told_to k s) k x) m) c) (sym e)
          (subst (λ z. Suits z c) (sym (get_or-set_same (told_to k s) k x no_slot there)) u);
      told = subst (AreTold p) (sym (amid_after k s x c l e)) (told_amid p k s (changed x c) t l a);
    }

-- the places so far
given_length : (k : ℕ) (g : List (Option ResourceId)) → length (given_to k g) ≡ length g
given_length zero g = length-replicate {A = Option ResourceId} (length g) None
given_length (suc k) [] = refl
given_length (suc k) (o ∷ g) = ap suc (given_length k g)

given_below : (k : ℕ) (g : List (Option ResourceId)) → Below (given_to k g) g
given_below zero g j r h = absurd (nothing_given (length g) j r h)
given_below (suc k) [] j r h = h
given_below (suc k) (o ∷ g) zero r h = h
given_below (suc k) (o ∷ g) (suc j) r h = given_below k g j r h

given_all : (g : List (Option ResourceId)) → given_to (length g) g ≡ g
given_all [] = refl
given_all (o ∷ g) = ap (λ xs. o ∷ xs) (given_all g)

given_at_next : (k : ℕ) (g : List (Option ResourceId)) → k < length g → slice_get (given_to k g) k ≡ Some None
given_at_next zero [] l = absurd (omega (arith, l))
given_at_next zero (o ∷ g) l = refl
given_at_next (suc k) [] l = absurd (omega (arith, l))
given_at_next (suc k) (o ∷ g) l = given_at_next k g (omega (arith, l))

given_set : (k : ℕ) (g : List (Option ResourceId)) (o : Option ResourceId) → k < length g → get_or g k None ≡ o
    → set (given_to k g) k o ≡ given_to (suc k) g
given_set zero [] o l e = absurd (omega (arith, l))
given_set zero (a ∷ g) o l e = ap (λ b. b ∷ replicate (length g) None) (sym e)
given_set (suc k) [] o l e = absurd (omega (arith, l))
given_set (suc k) (a ∷ g) o l e = ap (λ xs. a ∷ xs) (given_set k g o (omega (arith, l)) e)

given_still : (k : ℕ) (g : List (Option ResourceId)) → get_or g k None ≡ None → given_to (suc k) g ≡ given_to k g
given_still zero [] e = refl
given_still zero (a ∷ g) e = ap (λ b. b ∷ replicate (length g) None) e
given_still (suc k) [] e = refl
given_still (suc k) (a ∷ g) e = ap (λ xs. a ∷ xs) (given_still k g e)

-- what is read of the meet of a slot
some-none : {A : Type 0} (a : A) → None ≡ Some a → ⊥
some-none a h = there-none a (sym h)

pub span_is : (x : Slot) (m : Meet) → meet_in x ≡ Some m
    → x.span ≡ Some (record { duration = m.duration; start = m.start })
span_is x m h = at x.span h
  where
    at : (o : Option Span) → option_map (λ (y : Span). record
        { meet = x.meet; event = x.event; duration = y.duration; start = y.start }) o ≡ Some m
        → o ≡ Some (record { duration = m.duration; start = m.start })
    at None h = absurd (some-none m h)
    at (Some y) h = let e = same_Some (record {
      meet = x.meet;
      event = x.event;
      duration = y.duration;
      start =
          y.start;
    }) m h in λ i. Some (record { duration = (e i).duration; start = (e i).start })

pub event_is : (x : Slot) (m : Meet) → meet_in x ≡ Some m → m.event ≡ x.event
event_is x m h = at x.span h
  where
    at : (o : Option Span) → option_map (λ (y : Span). record
        { meet = x.meet; event = x.event; duration = y.duration; start = y.start }) o ≡ Some m → m.event ≡ x.event
    at None h = absurd (some-none m h)
    at (Some y) h = sym (ap (λ (z : Meet). z.event)
        (same_Some (record { meet = x.meet; event = x.event; duration = y.duration; start = y.start }) m h))

no_span : (x : Slot) → meet_in x ≡ None → x.span ≡ None
no_span x h = at x.span h
  where
    at : (o : Option Span) → option_map {U = Meet}
        (λ (y : Span). record { meet = x.meet; event = x.event; duration = y.duration; start = y.start }) o ≡ None
        → o ≡ None
    at None h = refl
    at (Some y) h = absurd (there-none _ h)

-- a slot without a meet
told_next : (k : ℕ) (s : List Slot) → emptied (slot_at s k) ≡ slot_at s k → told_to (suc k) s ≡ told_to k s
told_next zero [] e = refl
told_next zero (x ∷ s) e = ap (λ y. y ∷ map emptied s) (sym e)
told_next (suc k) [] e = refl
told_next (suc k) (x ∷ s) e = ap (λ xs. x ∷ xs) (told_next k s e)

pub told_free : (p : Parts) (k : ℕ) (s : List Slot) → AreTold p s → k < length s → meet_in (slot_at s k) ≡ None
    → told_to k s ≡ told_to (k + 1) s
told_free p k s t l h =
    let x = slot_at s k in
    let n = no_span x h in
    let bare = (All-get_or (IsSlot p) s k no_slot l t.slots).empty n in
    let e : emptied x ≡ x = λ i. record x { span = sym n i; given = sym bare i } in
    sym (ap (λ j. told_to j s) (add-one k) ∙ told_next k s e)

-- the whole of the next slot
told_set_next : (k : ℕ) (s : List Slot) → set (told_to k s) k (slot_at s k) ≡ told_to (suc k) s
told_set_next zero [] = refl
told_set_next zero (x ∷ s) = refl
told_set_next (suc k) [] = refl
told_set_next (suc k) (x ∷ s) = ap (λ xs. x ∷ xs) (told_set_next k s)

pub told_whole : (k : ℕ) (s : List Slot) → set (told_to k s) k (slot_at s k) ≡ told_to (k + 1) s
told_whole k s = told_set_next k s ∙ ap (λ j. told_to j s) (sym (add-one k))

-- its meet comes
coming_part : (p : Parts) (j : ℕ) (x : Slot) (y : Span) → x.span ≡ Some y → IsPartOf (coming j x) x
coming_part p j x y h = record {
  whose = λ i. record x { span = None; given = replicate (given_length j x.given i) None };
  span = subst (λ o. IsWithin (option_map (λ (z : Span). record z { start = None }) o) o) (sym h) (refl, inl refl);
  bare = λ n. absurd (there-none (record y { start = None })
      (sym (ap (option_map (λ (z : Span). record z { start = None })) h) ∙ n));
  given = given_below j x.given;
}

whole_part : (x : Slot) (y : Span) → x.span ≡ Some y → IsPartOf x x
whole_part x y h = record {
  whose = refl;
  span = subst (λ o. IsWithin o o) (sym h) (refl, inr refl);
  bare = λ n. absurd (there-none y (sym h ∙ n));
  given = λ j r g. g;
}

pub add_comes : (s : List Slot) (m : MeetId) (x : Meet) → meet_in (slot_at s m.0) ≡ Some x
    → after (told_to m.0 s) (change.Add m x.duration) ≡ set (told_to m.0 s) m.0 (coming 0 (slot_at s m.0))
add_comes s m x h =
    let k = m.0 in
    let z = slot_at s k in
    let is = span_is z x h in
    ap (λ y. set (told_to k s) k (changed y (change.Add m x.duration))) (told_at k s)
    ∙ ap (λ o. set (told_to k s) k (record z { span = o; given = replicate (length z.given) None }))
    (sym (ap (option_map (λ (y : Span). record y { start = None })) is))

pub add_fits : (p : Parts) (s : List Slot) (m : MeetId) (x : Meet) → AreTold p s → m.0 < length s
    → meet_in (slot_at s m.0) ≡ Some x → Fits p (told_to m.0 s) (change.Add m x.duration)
add_fits p s m x t l h =
    let k = m.0 in
    let n = told_length k s in
    let is = span_is (slot_at s k) x h in
    record {
      there = omega (arith, n, l);
      suits = ap (λ (z : Slot). z.span) (told_at k s);
      told = subst (AreTold p) (sym (add_comes s m x h))
          (told_amid p k s (coming 0 (slot_at s k)) t l
          (coming_part p 0 (slot_at s k) (record { duration = x.duration; start = x.start }) is));
    }

-- its places are given what they have
pub given_comes : (k j : ℕ) (s : List Slot) → get_or (slot_at s k).given j None ≡ None
    → set (told_to k s) k (coming j (slot_at s k)) ≡ set (told_to k s) k (coming (j + 1) (slot_at s k))
given_comes k j s e =
    let x = slot_at s k in
    ap (λ g. set (told_to k s) k (record (coming 0 x) { given = g }))
    (sym (ap (λ i. given_to i x.given) (add-one j) ∙ given_still j x.given e))

give_changes : (x : Slot) (t : TaskId) (r : ResourceId) → t.place < length x.given
    → get_or x.given t.place None ≡ Some r → changed (coming t.place x) (change.Give t r) ≡ coming (t.place + 1) x
give_changes x t r l e = ap (λ g. record (coming 0 x) { given = g })
    (given_set t.place x.given (Some r) l e ∙ ap (λ i. given_to i x.given) (sym (add-one t.place)))

pub give_comes : (s : List Slot) (t : TaskId) (r : ResourceId) → t.meet.0 < length s
    → t.place < length (slot_at s t.meet.0).given → get_or (slot_at s t.meet.0).given t.place None ≡ Some r
    → after (set (told_to t.meet.0 s) t.meet.0 (coming t.place (slot_at s t.meet.0))) (change.Give t r)
    ≡ set (told_to t.meet.0 s) t.meet.0 (coming (t.place + 1) (slot_at s t.meet.0))
give_comes s t r l i e =
    amid_after t.meet.0 s (coming t.place (slot_at s t.meet.0)) (change.Give t r) l refl
    ∙ ap (set (told_to t.meet.0 s) t.meet.0) (give_changes (slot_at s t.meet.0) t r i e)

pub give_fits : (p : Parts) (s : List Slot) (t : TaskId) (r : ResourceId) (y : Span) → AreTold p s → t.meet.0 < length s
    → t.place < length (slot_at s t.meet.0).given
    → (slot_at s t.meet.0).span ≡ Some y → get_or (slot_at s t.meet.0).given t.place None ≡ Some r
    → Fits p (set (told_to t.meet.0 s) t.meet.0 (coming t.place (slot_at s t.meet.0))) (change.Give t r)
give_fits p s t r y told l i h e =
    let x = slot_at s t.meet.0 in
    amid_fits p t.meet.0 s (coming t.place x) (change.Give t r) told l refl (
      record y { start = None },
      ap (option_map (λ (z : Span). record z { start = None })) h,
      given_at_next t.place
          x.given i,
    )
    (subst (λ z. IsPartOf z x) (sym (give_changes x t r i e)) (coming_part p (t.place + 1) x y h))

-- its start is told
pub start_comes : (k : ℕ) (s : List Slot) (m : Meet) → meet_in (slot_at s k) ≡ Some m → m.start ≡ None
    → set (told_to k s) k (coming (length (slot_at s k).given) (slot_at s k)) ≡ told_to (k + 1) s
start_comes k s m h n =
    let x = slot_at s k in
    let is = span_is x m h in
    let same : coming (length x.given) x ≡ x =
    λ i. record x {
      span = (ap (option_map (λ (z : Span). record z { start = None })) is
          ∙ ap (λ o. Some (record { duration = m.duration; start = o })) (sym n) ∙ sym is) i;
      given = given_all x.given i;
    } in
    ap (set (told_to k s) k) same ∙ told_whole k s

place_changes : (x : Slot) (k : MeetId) (m : Meet) (t : TimeId) → meet_in x ≡ Some m → m.start ≡ Some t
    → changed (coming (length x.given) x) (change.Place k t) ≡ x
place_changes x k m t h n =
    let is = span_is x m h in
    λ i. record x {
      span = (ap (λ o. option_map (λ (z : Span). record z { start = Some t })
          (option_map (λ (z : Span). record z { start = None }) o)) is
          ∙ ap (λ o. Some (record { duration = m.duration; start = o })) (sym n) ∙ sym is) i;
      given = given_all x.given i;
    }

pub place_comes : (s : List Slot) (k : MeetId) (m : Meet) (t : TimeId) → k.0 < length s
    → meet_in (slot_at s k.0) ≡ Some m → m.start ≡ Some t
    → after (set (told_to k.0 s) k.0 (coming (length (slot_at s k.0).given) (slot_at s k.0))) (change.Place k t)
    ≡ told_to (k.0 + 1) s
place_comes s k m t l h n =
    let x = slot_at s k.0 in
    amid_after k.0 s (coming (length x.given) x) (change.Place k t) l refl
    ∙ ap (set (told_to k.0 s) k.0) (place_changes x k m t h n)
    ∙ told_whole k.0 s

pub place_fits : (p : Parts) (s : List Slot) (k : MeetId) (m : Meet) (t : TimeId) → AreTold p s → k.0 < length s
    → meet_in (slot_at s k.0) ≡ Some m → m.start ≡ Some t
    → Fits p (set (told_to k.0 s) k.0 (coming (length (slot_at s k.0).given) (slot_at s k.0))) (change.Place k t)
place_fits p s k m t told l h n =
    let x = slot_at s k.0 in
    let is = span_is x m h in
    amid_fits p k.0 s (coming (length x.given) x) (change.Place k t) told l refl
    (m.duration, ap (option_map (λ (z : Span). record z { start = None })) is)
    (subst (λ z. IsPartOf z x) (sym (place_changes x k m t h n))
    (whole_part x (record { duration = m.duration; start = m.start }) is))

pub slots_number : (p : Parts) (s : List Slot) → AreTold p s
    → length s ≡ sum_by (λ (x : EventInfo). x.duration) p.events
slots_number p s t = sym (length-map s emptied) ∙ ap length t.whose ∙ slots_amount 0 p.events

pub told_last : (s : List Slot) → told_to (length s) s ≡ s
told_last [] = refl
told_last (x ∷ s) = ap (λ xs. x ∷ xs) (told_last s)

pub live_span : (s : List Slot) (k : ℕ) → is_live (slot_at s k) ≡ true → (y : Span) × ((slot_at s k).span ≡ Some y)
live_span s k h = some_value (slot_at s k).span h

-- the slot that a list of slots begins with, in an event of the instance, with as many places
pub event_there : (p : Parts) (s : List Slot) (k : ℕ) (m : Meet) → AreTold p s → k < length s
    → meet_in (slot_at s k) ≡ Some m → m.event.0 < length p.events
event_there p s k m t l h =
    let o = owner p s k t l in
    let i = slice_get_within p.events (slot_at s k).event.0 o.event o.there in
    let e = ap (λ (z : EventId). z.0) (event_is (slot_at s k) m h) in
    omega (arith, i, e)

pub places_there : (p : Parts) (s : List Slot) (k : ℕ) (m : Meet) (event : EventInfo) → AreTold p s → k < length s
    → meet_in (slot_at s k) ≡ Some m → slice_get p.events m.event.0 ≡ Some event
    → length event.places ≡ length (slot_at s k).given
places_there p s k m event t l h at =
    let o = owner p s k t l in
    let e = ap (λ (z : EventId). slice_get p.events z.0) (event_is (slot_at s k) m h) in
    let same : event ≡ o.event = same_Some event o.event (sym at ∙ e ∙ o.there) in
    ap (λ (z : EventInfo). length z.places) same ∙ o.places

pub places_few : (p : Parts) (s : List Slot) (k : ℕ) (m : Meet) (event : EventInfo) → AreFirstMeets 0 p.events
    → AreTold p s → k < length s → meet_in (slot_at s k) ≡ Some m
    → slice_get p.events m.event.0 ≡ Some event → length event.places ≤ sum_by
    (λ (x : EventInfo). x.duration * length x.places) p.events
places_few p s k m event f t l h at =
    let e = ap (λ (z : EventId). z.0) (event_is (slot_at s k) m h) in
    let i = in_event p s k m.event.0 event t f at l (sym e) in
    few_places p k m.event.0 event f (event, at, i.0, i.1) at
