-- Where the demands of a told state stand in their list.
use Rattle.std.proofs.Common.{ℕ, zero, suc, ◌+◌, ◌<◌, ◌≡◌, ◌⊎◌, inl, inr, Option, Some, None, List, [], ◌∷◌, ◌++◌, map}
use Rattle.std.proofs.Common.{length, slice_get, refl, sym, ap, ◌∙◌, arith}
use Rattle.std.specs.List.{flat_map, range_with_len}
use Rattle.std.specs.Option.{option_map_or}
use Rattle.std.proofs.lemmas.Option.{same_Some}
use Rattle.khe_told.specs.declared.slots.Slot.{Slot}
use Rattle.khe_told.specs.declared.slots.Span.{Span}
use Rattle.hall_report.specs.Demands.{place_demands, slot_demands, task_demands}
use Rattle.hall_report.specs.declared.demand.Demand.{Demand}
use Rattle.hall_report.specs.declared.demand.Demand.TheVariants.{Task}

none_some : {A : Type 0} (x : A) → None ≡ Some x → ⊥
none_some x e = let g : ⊥ = cc in g

pub get_left : {A : Type 0} (xs ys : List A) (i : ℕ) (x : A) → slice_get xs i ≡ Some x → slice_get (xs ++ ys) i ≡ Some x
get_left [] ys i x h = absurd (none_some x h)
get_left (z ∷ xs) ys zero x h = h
get_left (z ∷ xs) ys (suc i) x h = get_left xs ys i x h

pub get_right : {A : Type 0} (xs ys : List A) (i : ℕ) → slice_get (xs ++ ys) (length xs + i) ≡ slice_get ys i
get_right [] ys i = let e : 0 + i ≡ i = omega arith in ap (slice_get ys) e
get_right (z ∷ xs) ys i = let e : suc (length xs) + i ≡ suc (length xs + i) = omega arith in
    ap (slice_get (z ∷ xs ++ ys)) e ∙ get_right xs ys i

get_split : {A : Type 0} (xs ys : List A) (k : ℕ) (x : A) → slice_get (xs ++ ys) k ≡ Some x
    → (slice_get xs k ≡ Some x) ⊎ ((j : ℕ) × (length xs + j ≡ k) × (slice_get ys j ≡ Some x))
get_split [] ys k x h = inr (k, omega arith, h)
get_split (z ∷ xs) ys zero x h = inl h
get_split (z ∷ xs) ys (suc k) x h =
    elim (get_split xs ys k x h) [
      | inl l ↦ inl l
      | inr r ↦ inr (r.0, (let e = r.1 in omega (arith, e)), r.2)
    ]

-- how many the elements before a place give
pub before : {A B : Type 0} → (A → List B) → List A → ℕ → ℕ
before f [] i = 0
before f (x ∷ xs) zero = 0
before f (x ∷ xs) (suc i) = length (f x) + before f xs i

pub placed : {A B : Type 0} (f : A → List B) (xs : List A) (i j : ℕ) (x : A) (b : B) → slice_get xs i ≡ Some x
    → slice_get (f x) j ≡ Some b → slice_get (flat_map f xs) (before f xs i + j) ≡ Some b
unfolding before
placed f [] i j x b h g = absurd (none_some x h)
placed f (z ∷ xs) zero j x b h g =
    let e : 0 + j ≡ j = omega arith in
    ap (slice_get (flat_map f (z ∷ xs))) e ∙ get_left (f z) (flat_map f xs) j b
    (ap (λ y. slice_get (f y) j) (same_Some z x h) ∙ g)
placed f (z ∷ xs) (suc i) j x b h g =
    let e : length (f z) + before f xs i + j ≡ length (f z) + (before f xs i + j) = omega arith in
    ap (slice_get (f z ++ flat_map f xs)) e ∙ get_right (f z) (flat_map f xs) (before f xs i + j)
    ∙ placed f xs i j x b h g

pub record IsPlaced {A B : Type 0} (f : A → List B) (xs : List A) (k : ℕ) (b : B) : Type 0 where
  pub place : ℕ
  pub item : A
  pub inner : ℕ
  pub there : slice_get xs place ≡ Some item
  pub within : slice_get (f item) inner ≡ Some b
  pub spot : before f xs place + inner ≡ k

pub placed_at : {A B : Type 0} (f : A → List B) (xs : List A) (k : ℕ) (b : B) → slice_get (flat_map f xs) k ≡ Some b
    → IsPlaced f xs k b
unfolding before
placed_at f [] k b h = absurd (none_some b h)
placed_at f (x ∷ xs) k b h =
    elim (get_split (f x) (flat_map f xs) k b h) [
      | inl l ↦ record { place = 0; item = x; inner = k; there = refl; within = l; spot = omega arith }
      | inr r ↦
          let rest = placed_at f xs r.0 b r.2 in
          record {
            place = suc rest.place;
            item = rest.item;
            inner = rest.inner;
            there = rest.there;
            within =
                rest.within;
            spot = (let e = r.1 in let g = rest.spot in omega (arith, e, g));
          }
    ]

pub range_there : (a n i : ℕ) → i < n → slice_get (range_with_len a n) i ≡ Some (a + i)
range_there a zero i l = absurd (omega (arith, l))
range_there a (suc n) zero l = let e : a ≡ a + 0 = omega arith in ap Some e
range_there a (suc n) (suc i) l = let e : a + 1 + i ≡ a + suc i = omega arith in
    range_there (a + 1) n i (omega (arith, l)) ∙ ap Some e

pub range_at : (a n i y : ℕ) → slice_get (range_with_len a n) i ≡ Some y → (i < n) × (a + i ≡ y)
range_at a zero i y h = absurd (none_some y h)
range_at a (suc n) zero y h = (omega arith, (let e = same_Some a y h in omega (arith, e)))
range_at a (suc n) (suc i) y h = let r = range_at (a + 1) n i y h in let l = r.0 in let e = r.1 in
    (omega (arith, l), omega (arith, e))

pub mapped_there : {A B : Type 0} (g : A → B) (xs : List A) (i : ℕ) (x : A) → slice_get xs i ≡ Some x
    → slice_get (map g xs) i ≡ Some (g x)
mapped_there g [] i x h = absurd (none_some x h)
mapped_there g (z ∷ xs) zero x h = ap (λ y. Some (g y)) (same_Some z x h)
mapped_there g (z ∷ xs) (suc i) x h = mapped_there g xs i x h

pub mapped_at : {A B : Type 0} (g : A → B) (xs : List A) (i : ℕ) (y : B) → slice_get (map g xs) i ≡ Some y
    → (x : A) × (slice_get xs i ≡ Some x) × (g x ≡ y)
mapped_at g [] i y h = absurd (none_some y h)
mapped_at g (z ∷ xs) zero y h = (z, refl, same_Some (g z) y h)
mapped_at g (z ∷ xs) (suc i) y h = mapped_at g xs i y h

-- where a slot's demand stands among its own, and among all
pub spot_in : Slot → ℕ → ℕ → ℕ
spot_in x k o = option_map_or (λ y. before (place_demands x y) (range_with_len 0 (length x.given)) k + o) x.span 0

pub spot_of : List Slot → Slot → ℕ → ℕ → ℕ → ℕ
spot_of s x m k o = before slot_demands s m + spot_in x k o

pub spot_there : (s : List Slot) (m : ℕ) (x : Slot) (y : Span) (k o : ℕ) → slice_get s m ≡ Some x → x.span ≡ Some y
    → k < length x.given → o < y.duration
    → slice_get (task_demands s) (spot_of s x m k o) ≡ Some (Task x.meet k o)
unfolding spot_of spot_in
spot_there s m x y k o there span near l =
    let spot : spot_in x k o ≡ before (place_demands x y) (range_with_len 0 (length x.given)) k + o =
    ap (λ v. option_map_or (λ (z : Span). before (place_demands x z) (range_with_len 0 (length x.given)) k + o) v 0)
    span in
    let own : slice_get (place_demands x y k) o ≡ Some (Task x.meet k o) =
    mapped_there (λ j. Task x.meet k j) (range_with_len 0 y.duration) o o
    (let e : 0 + o ≡ o = omega arith in range_there 0 y.duration o l ∙ ap Some e) in
    let all : slice_get (flat_map (place_demands x y) (range_with_len 0 (length x.given)))
    (before (place_demands x y) (range_with_len 0 (length x.given)) k + o) ≡ Some (Task x.meet k o) =
    placed (place_demands x y) (range_with_len 0 (length x.given)) k o k (Task x.meet k o)
    (let e : 0 + k ≡ k = omega arith in range_there 0 (length x.given) k near ∙ ap Some e) own in
    let list : slot_demands x ≡ flat_map (place_demands x y) (range_with_len 0 (length x.given)) =
    ap (λ v. option_map_or (λ (z : Span). flat_map (place_demands x z) (range_with_len 0 (length x.given))) v [])
    span in
    placed slot_demands s m (spot_in x k o) x (Task x.meet k o) there
    (ap (λ v. slice_get v (spot_in x k o)) list ∙ ap (slice_get
    (flat_map (place_demands x y) (range_with_len 0 (length x.given)))) spot ∙ all)

pub record IsSpot (s : List Slot) (n : ℕ) (d : Demand) : Type 0 where
  pub meet : ℕ
  pub place : ℕ
  pub offset : ℕ
  pub slot : Slot
  pub span : Span
  pub there : slice_get s meet ≡ Some slot
  pub live : slot.span ≡ Some span
  pub near : place < length slot.given
  pub early : offset < span.duration
  pub «is» : Task slot.meet place offset ≡ d
  pub spot : spot_of s slot meet place offset ≡ n

span_cases : (o : Option Span) → (o ≡ None) ⊎ ((y : Span) × (o ≡ Some y))
span_cases None = inl refl
span_cases (Some y) = inr (y, refl)

pub spot_at : (s : List Slot) (n : ℕ) (d : Demand) → slice_get (task_demands s) n ≡ Some d → IsSpot s n d
unfolding spot_of spot_in
spot_at s n d h =
    let a = placed_at slot_demands s n d h in
    let x : Slot = a.item in
    let list : (v : Option Span) → List Demand = λ v. option_map_or
    (λ (z : Span). flat_map (place_demands x z) (range_with_len 0 (length x.given))) v [] in
    elim (span_cases x.span) [
      | inl none ↦ absurd (none_some d (sym (ap (λ v. slice_get (list v) a.inner) none) ∙ a.within))
      | inr some ↦
          let y : Span = some.0 in
          let b = placed_at (place_demands x y) (range_with_len 0 (length x.given)) a.inner d
          (sym (ap (λ v. slice_get (list v) a.inner) some.1) ∙ a.within) in
          let r = range_at 0 (length x.given) b.place b.item b.there in
          let c = mapped_at (λ j. Task x.meet b.item j) (range_with_len 0 y.duration) b.inner d b.within in
          let q = range_at 0 y.duration b.inner c.0 c.1 in
          let near : b.item < length x.given = let e = r.0 in let g = r.1 in omega (arith, e, g) in
          let same : b.item ≡ b.place = let e = r.1 in omega (arith, e) in
          let off : c.0 ≡ b.inner = let e = q.1 in omega (arith, e) in
          let early : c.0 < y.duration = let e = q.0 in omega (arith, e, off) in
          let shown : spot_in x b.item c.0 ≡ before (place_demands x y) (range_with_len 0 (length x.given))
          b.item + c.0 =
          ap (λ v. option_map_or (λ (z : Span). before (place_demands x z) (range_with_len 0 (length x.given))
          b.item + c.0) v 0) some.1 in
          let moved : before (place_demands x y) (range_with_len 0 (length x.given)) b.item
          ≡ before (place_demands x y) (range_with_len 0 (length x.given)) b.place =
          ap (before (place_demands x y) (range_with_len 0 (length x.given))) same in
          record {
            meet = a.place;
            place = b.item;
            offset = c.0;
            slot = x;
            span = y;
            there = a.there;
            live = some.1;
            near = near;
            early = early;
            «is» = c.2;
            spot = (let u = b.spot in let v = a.spot in omega (arith, u, v, shown, moved, off));
          }
    ]
