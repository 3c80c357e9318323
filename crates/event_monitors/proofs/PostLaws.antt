-- The posts of the served monitors, as they are found one after the other, and their places by number.
use Rattle.std.proofs.Common.{ℕ, ◌≡◌, ◌≤◌, ◌<◌, ◌+◌, ◌∙◌, zero, suc, Bool, true, false, cond, Some, List, [], ◌∷◌, ◌++◌}
use Rattle.std.proofs.Common.{◌⊎◌, inl, inr, length, set, slice_get, refl, sym, ap, subst, arith}
use mathlib.Core.Logic.{⊎_elim}
use Rattle.std.proofs.lemmas.Bool.{cases_lt, true≢false}
use Rattle.std.proofs.lemmas.List.{length-append, length-set}
use Rattle.std.proofs.lemmas.Option.{none-some, same_Some, slice_get_within}
use Rattle.khe_base.proofs.ListLemmas.{get-last, get-other, get-set}
use Rattle.khe_instance.specs.declared.parts.Parts.{Parts}
use Rattle.khe_instance.specs.declared.points.Monitor.{Monitor}
use Rattle.khe_instance.specs.declared.rules.Kind.{Kind}
use Rattle.event_monitors.specs.Posts.{AreAscending, ArePlaces, ArePosts, IsPost}
use Rattle.event_monitors.specs.declared.posts.Post.{Post}

-- an element of a list with one more is one of the list, or the last
pub last_of : {X : Type 0} (xs : List X) (x y : X) (k : ℕ) → slice_get (xs ++ x ∷ []) k ≡ Some y
    → (slice_get xs k ≡ Some y) ⊎ ((k ≡ length xs) × (x ≡ y))
last_of [] x y zero h = inr (refl, same_Some x y h)
last_of [] x y (suc k) h = absurd (none-some y h)
last_of (z ∷ xs) x y zero h = inl h
last_of (z ∷ xs) x y (suc k) h = ⊎_elim (λ e. inl e) (λ (e : (k ≡ length xs) × (x ≡ y)). inr (ap suc e.0, e.1))
    (last_of xs x y k h)

kept_in : {X : Type 0} (xs ys : List X) (y : X) (k : ℕ) → slice_get xs k ≡ Some y → slice_get (xs ++ ys) k ≡ Some y
kept_in [] ys y k h = absurd (none-some y h)
kept_in (z ∷ xs) ys y zero h = h
kept_in (z ∷ xs) ys y (suc k) h = kept_in xs ys y k h

-- the posts of the served monitors below a number
pub record AreServed (p : Parts) (served : Kind → Bool) (n : ℕ) (posts : List Post) : Type 0 where
  pub each : (k : ℕ) (a : Post) → slice_get posts k ≡ Some a → IsPost p served a
  pub below : (k : ℕ) (a : Post) → slice_get posts k ≡ Some a → a.number.0 < n
  pub all : (i : ℕ) (m : Monitor) → i < n → slice_get p.monitors i ≡ Some m → served m.kind ≡ true
      → (k : ℕ) × (slice_get posts k ≡ Some (record { number = record { 0 = i }; monitor = m }))
  pub ascending : AreAscending posts
  pub few : length posts ≤ n

pub none_served : (p : Parts) (served : Kind → Bool) → AreServed p served 0 []
none_served p served = record {
  each = λ k a h. absurd (none-some a h);
  below = λ k a h. absurd (none-some a h);
  all = λ i m l h s. absurd (omega arith);
  ascending = λ j k a b l h i. absurd (none-some a h);
  few = omega arith;
}

module _ (p : Parts) (served : Kind → Bool) (n : ℕ) (m : Monitor) (posts : List Post)
    (there : slice_get p.monitors n ≡ Some m) (are : AreServed p served n posts) where
  abbrev post : Post
  post = record { number = record { 0 = n }; monitor = m }

  before : (i : ℕ) → i < n + 1 → (i < n) ⊎ (n ≡ i)
  before i l = ⊎_elim (λ h. inl h) (λ (h : n ≤ i). inr (let e : n ≡ i = omega (arith, l, h) in e)) (cases_lt i n)

  skipped : served m.kind ≡ false → AreServed p served (n + 1) posts
  skipped not = record {
    each = are.each;
    below = λ k a h. let l = are.below k a h in omega (arith, l);
    all = λ i x l h s. by i x h s (before i l);
    ascending = are.ascending;
    few = let f = are.few in omega (arith, f);
  }
    where
      by : (i : ℕ) (x : Monitor) → slice_get p.monitors i ≡ Some x → served x.kind ≡ true → (i < n) ⊎ (n ≡ i)
          → (k : ℕ) × (slice_get posts k ≡ Some (record { number = record { 0 = i }; monitor = x }))
      by i x h s (inl l) = are.all i x l h s
      by i x h s (inr e) = absurd (true≢false (sym s
          ∙ ap (λ (y : Monitor). served y.kind) (same_Some x m (sym h ∙ ap (slice_get p.monitors) (sym e) ∙ there))
          ∙ not))

  pushed : served m.kind ≡ true → AreServed p served (n + 1) (posts ++ post ∷ [])
  pushed serves = record {
    each = λ k a h. ⊎_elim (are.each k a) (λ (e : (k ≡ length posts) × (post ≡ a)). subst (IsPost p served) e.1
        (record { there = there; kind = serves })) (last_of posts post a k h);
    below = λ k a h. ⊎_elim (λ i. let l = are.below k a i in omega (arith, l))
        (λ (e : (k ≡ length posts) × (post ≡ a)). let q = ap (λ (b : Post). b.number.0) e.1 in omega (arith, q))
        (last_of posts post a k h);
    all = λ i x l h s. found i x h s (before i l);
    ascending = λ j k a b l h i. rising j k a b l (last_of posts post a j h) (last_of posts post b k i);
    few = let f = are.few in let q = length-append posts (post ∷ []) in omega (arith, f, q);
  }
    where
      found : (i : ℕ) (x : Monitor) → slice_get p.monitors i ≡ Some x → served x.kind ≡ true → (i < n) ⊎ (n ≡ i)
          → (k : ℕ) × (slice_get (posts ++ post ∷ []) k ≡ Some (record { number = record { 0 = i }; monitor = x }))
      found i x h s (inl l) = let a = are.all i x l h s in
          (a.0, kept_in posts (post ∷ []) (record { number = record { 0 = i }; monitor = x }) a.0 a.1)
      found i x h s (inr e) = (
        length posts,
        get-last posts post
            ∙ (λ j. Some (record {
              number = record { 0 = e j };
              monitor =
                  same_Some m x (sym there ∙ ap (slice_get p.monitors) e ∙ h) j;
            })),
      )

      rising : (j k : ℕ) (a b : Post) → j < k → (slice_get posts j ≡ Some a) ⊎ ((j ≡ length posts) × (post ≡ a))
          → (slice_get posts k ≡ Some b) ⊎ ((k ≡ length posts) × (post ≡ b)) → a.number.0 < b.number.0
      rising j k a b l (inl h) (inl i) = are.ascending j k a b l h i
      rising j k a b l (inl h) (inr e) = let q = ap (λ (c : Post). c.number.0) e.1 in let r = are.below j a h in
          omega (arith, q, r)
      rising j k a b l (inr e) (inl i) = absurd (let q = slice_get_within posts k b i in let r = e.0 in
          omega (arith, q, r, l))
      rising j k a b l (inr e) (inr f) = absurd (let q = e.0 in let r = f.0 in omega (arith, q, r, l))

  pub served_next : (more : List Post) → more ≡ cond (served m.kind) (posts ++ post ∷ []) posts
      → AreServed p served (n + 1) more
  served_next more is = subst (AreServed p served (n + 1)) (sym is) (by (served m.kind) refl)
    where
      by : (b : Bool) → served m.kind ≡ b → AreServed p served (n + 1) (cond b (posts ++ post ∷ []) posts)
      by true e = pushed e
      by false e = skipped e

pub all_served : (p : Parts) (served : Kind → Bool) (posts : List Post) → AreServed p served (length p.monitors) posts
    → ArePosts p served posts
all_served p served posts are = record {
  each = are.each;
  all = λ i m h s. are.all i m (slice_get_within p.monitors i m h) h s;
  ascending = are.ascending;
  few = are.few;
}

-- the places of the posts so far
pub record ArePlaced (posts : List Post) (places : List ℕ) (monitors n : ℕ) : Type 0 where
  pub rows : length places ≡ monitors
  pub each : (k : ℕ) (a : Post) → k < n → slice_get posts k ≡ Some a → slice_get places a.number.0 ≡ Some k

pub one_placed : (posts : List Post) (places : List ℕ) (monitors n : ℕ) (a : Post) → AreAscending posts
    → slice_get posts n ≡ Some a → a.number.0 < monitors → ArePlaced posts places monitors n
    → ArePlaced posts (set places a.number.0 n) monitors (n + 1)
one_placed posts places monitors n a up there within so = record {
  rows = length-set places a.number.0 n ∙ so.rows;
  each = λ k b l h. by k b h (before k l);
}
  where
    before : (k : ℕ) → k < n + 1 → (k < n) ⊎ (n ≡ k)
    before k l = ⊎_elim (λ h. inl h) (λ (h : n ≤ k). inr (let e : n ≡ k = omega (arith, l, h) in e)) (cases_lt k n)

    by : (k : ℕ) (b : Post) → slice_get posts k ≡ Some b → (k < n) ⊎ (n ≡ k)
        → slice_get (set places a.number.0 n) b.number.0 ≡ Some k
    by k b h (inl l) =
        let less = up k n b a l h there in
        get-other places a.number.0 b.number.0 n (λ e. omega (arith, less, e)) ∙ so.each k b l h
    by k b h (inr e) =
        let same : a ≡ b = same_Some a b (sym there ∙ ap (slice_get posts) e ∙ h) in
        ap (λ (c : Post). slice_get (set places a.number.0 n) c.number.0) (sym same)
        ∙ get-set places a.number.0 n (let r = so.rows in omega (arith, r, within)) ∙ ap Some e

pub all_placed : (posts : List Post) (places : List ℕ) (monitors : ℕ) → ArePlaced posts places monitors (length posts)
    → ArePlaces posts places
all_placed posts places monitors so k a h = so.each k a (slice_get_within posts k a h) h
