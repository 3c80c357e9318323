-- The members of a group: they ascend, and a monitor names them and no other event.
use Rattle.std.proofs.Common.{ℕ, ◌≡◌, ◌≤◌, ◌<◌, ◌+◌, ◌==◌, ◌∙◌, zero, suc, Bool, true, false, cond, Option, Some, None}
use Rattle.std.proofs.Common.{List, [], ◌∷◌, length, slice_get, filter, refl, sym, ap, arith, ◌⊎◌, inl, inr}
use Rattle.std.specs.List.{range_with_len}
use Rattle.std.specs.Option.{option_map_or}
use Rattle.std.proofs.lemmas.Bool.{cases_eq, cases_lt, eq-eqb, ne_eqb, true≢false}
use Rattle.std.proofs.lemmas.Option.{none-some, same_Some}
use Rattle.khe_base.specs.IdSet.{has_member, members_of}
use Rattle.khe_instance.specs.declared.parts.GroupInfo.{GroupInfo}
use Rattle.khe_instance.specs.declared.parts.Parts.{Parts}
use Rattle.khe_instance.specs.declared.points.Point.{Point}
use Rattle.khe_instance.specs.declared.points.Point.TheVariants.{Event, EventResource, EventGroup, EventPair as Pair}
use Rattle.khe_instance.specs.declared.points.Point.TheVariants.{Resource}
use Rattle.khe_instance.specs.declared.rules.Rule.{Rule}
use Rattle.khe_instance.specs.Watching.{names_event}
use Rattle.set_monitors.specs.Links.{AreAscending, members_at}

-- the numbers of a range that pass a test
module _ (f : ℕ → Bool) where
  passes : (from n i k : ℕ) → slice_get (filter f (range_with_len from n)) i ≡ Some k → (from ≤ k) × (f k ≡ true)
  passes from zero i k h = absurd (none-some k h)
  passes from (suc n) i k h = by (f from) refl i h
      (λ j g. let r = passes (from + 1) n j k g in (omega (arith, r.0), r.1))
    where
      by : (b : Bool) → f from ≡ b → (i : ℕ) → slice_get
          (cond b (from ∷ filter f (range_with_len (from + 1) n)) (filter f (range_with_len (from + 1) n))) i ≡ Some k
          → ((j : ℕ) → slice_get (filter f (range_with_len (from + 1) n)) j ≡ Some k → (from ≤ k) × (f k ≡ true))
          → (from ≤ k) × (f k ≡ true)
      by true e zero g r = let s : from ≡ k = same_Some from k g in (omega (arith, s), ap f (sym s) ∙ e)
      by true e (suc i) g r = r i g
      by false e i g r = r i g

  above : (from n i k : ℕ) → slice_get (filter f (range_with_len (from + 1) n)) i ≡ Some k → from < k
  above from n i k h = let r = passes (from + 1) n i k h in let l = r.0 in omega (arith, l)

  pub ascend : (from n : ℕ) → AreAscending (filter f (range_with_len from n))
  ascend from zero j k a b l g h = absurd (none-some a g)
  ascend from (suc n) j k a b l g h = by (f from) j k l g h (ascend (from + 1) n)
    where
      rest : List ℕ
      rest = filter f (range_with_len (from + 1) n)

      by : (c : Bool) (j k : ℕ) → j < k → slice_get (cond c (from ∷ rest) rest) j ≡ Some a
          → slice_get (cond c (from ∷ rest) rest) k ≡ Some b → AreAscending rest → a < b
      by true zero zero l g h r = absurd (omega (arith, l))
      by true zero (suc k) l g h r = let s : from ≡ a = same_Some from a g in let m = above from n k b h in
          omega (arith, s, m)
      by true (suc j) zero l g h r = absurd (omega (arith, l))
      by true (suc j) (suc k) l g h r = r j k a b (omega (arith, l)) g h
      by false j k l g h r = r j k a b l g h

  -- one that passes is among them
  pub record IsAmong (xs : List ℕ) (k : ℕ) : Type 0 where
    pub place : ℕ
    pub there : slice_get xs place ≡ Some k

  pub among : (from n k : ℕ) → from ≤ k → k < from + n → f k ≡ true → IsAmong (filter f (range_with_len from n)) k
  among from zero k l m h = absurd (omega (arith, l, m))
  among from (suc n) k l m h = by (cases_eq from k) (f from) refl (λ o. among (from + 1) n k o (omega (arith, m)) h)
    where
      rest : List ℕ
      rest = filter f (range_with_len (from + 1) n)

      by : (from ≡ k) ⊎ (from ≡ k → ⊥) → (b : Bool) → f from ≡ b → (from + 1 ≤ k → IsAmong rest k)
          → IsAmong (cond b (from ∷ rest) rest) k
      by (inl e) true g r = record { place = 0; there = ap Some e }
      by (inl e) false g r = absurd (true≢false (sym h ∙ sym (ap f e) ∙ g))
      by (inr a) true g r = let s = r (omega (arith, l, a)) in record { place = suc s.place; there = s.there }
      by (inr a) false g r = r (omega (arith, l, a))

-- the members of a point's group ascend
pub members_ascend : (p : Parts) (point : Point) → AreAscending (members_at p point)
members_ascend p (EventGroup g) = by (slice_get p.groups g)
  where
    by : (o : Option GroupInfo) → AreAscending (option_map_or (λ (x : GroupInfo). members_of x.events) o [])
    by (Some x) = ascend (has_member x.events) 0 (length x.events)
    by None = λ j k a b l h i. absurd (none-some a h)
members_ascend p (Event e) = λ j k a b l h i. absurd (none-some a h)
members_ascend p (EventResource e k) = λ j k a b l h i. absurd (none-some a h)
members_ascend p (Pair q) = λ j k a b l h i. absurd (none-some a h)
members_ascend p (Resource r) = λ j k a b l h i. absurd (none-some a h)

-- so no two places have one number
pub same_place : (xs : List ℕ) → AreAscending xs → (j k a b : ℕ) → slice_get xs j ≡ Some a → slice_get xs k ≡ Some b
    → (j == k) ≡ (a == b)
same_place xs up j k a b g h = by (cases_lt j k) (cases_lt k j)
  where
    by : (j < k) ⊎ (k ≤ j) → (k < j) ⊎ (j ≤ k) → (j == k) ≡ (a == b)
    by (inl l) o = let m = up j k a b l g h in ne_eqb j k (λ e. omega (arith, e, l))
        ∙ sym (ne_eqb a b (λ e. omega (arith, e, m)))
    by (inr l) (inl o) = let m = up k j b a o h g in
        ne_eqb j k (λ e. omega (arith, e, o)) ∙ sym (ne_eqb a b (λ e. omega (arith, e, m)))
    by (inr l) (inr o) =
        let e : j ≡ k = omega (arith, l, o) in
        eq-eqb j k e ∙ sym (eq-eqb a b (same_Some a b (sym g ∙ ap (slice_get xs) e ∙ h)))

-- a member is named, and what is named is a member
pub member_named : (p : Parts) (rule : Rule) (point : Point) (i e : ℕ) → slice_get (members_at p point) i ≡ Some e
    → names_event p rule point e ≡ true
member_named p rule (EventGroup g) i e h = by (slice_get p.groups g) h
  where
    by : (o : Option GroupInfo) → slice_get (option_map_or (λ (x : GroupInfo). members_of x.events) o []) i ≡ Some e
        → option_map_or (λ (x : GroupInfo). has_member x.events e) o false ≡ true
    by (Some x) h = (passes (has_member x.events) 0 (length x.events) i e h).1
    by None h = absurd (none-some e h)
member_named p rule (Event x) i e h = absurd (none-some e h)
member_named p rule (EventResource x k) i e h = absurd (none-some e h)
member_named p rule (Pair q) i e h = absurd (none-some e h)
member_named p rule (Resource r) i e h = absurd (none-some e h)

set_within : (xs : List Bool) (e : ℕ) → has_member xs e ≡ true → e < length xs
set_within [] e h = absurd (true≢false (sym h))
set_within (x ∷ xs) zero h = omega arith
set_within (x ∷ xs) (suc e) h = let r = set_within xs e h in omega (arith, r)

pub named_member : (p : Parts) (rule : Rule) (g e : ℕ) → names_event p rule (EventGroup g) e ≡ true
    → (i : ℕ) × (slice_get (members_at p (EventGroup g)) i ≡ Some e)
named_member p rule g e h = by (slice_get p.groups g) h
  where
    by : (o : Option GroupInfo) → option_map_or (λ (x : GroupInfo). has_member x.events e) o false ≡ true
        → (i : ℕ) × (slice_get (option_map_or (λ (x : GroupInfo). members_of x.events) o []) i ≡ Some e)
    by (Some x) h =
        let a = among (has_member x.events) 0 (length x.events) e (omega arith)
        (let w = set_within x.events e h in omega (arith, w)) h in
        (a.place, a.there)
    by None h = absurd (true≢false (sym h))
