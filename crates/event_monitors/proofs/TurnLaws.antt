-- Gauges while those at the places of a list are turned, and monitors that wait.
use Rattle.std.proofs.Common.{ℕ, ◌≡◌, ◌≤◌, ◌<◌, ◌+◌, ◌∙◌, ◌||◌, ◌&&◌, nat_eq, zero, suc, Bool, true, false, cond, Some}
use Rattle.std.proofs.Common.{List, ◌∷◌}
use Rattle.std.proofs.Common.{drop, set, get_or, length, slice_get, refl, sym, ap, subst, arith, filter, ◌⊎◌, inl, inr}
use Rattle.std.specs.Option.{option_map_or}
use Rattle.std.specs.List.{range_with_len}
use Rattle.std.proofs.lemmas.Bool.{cases_eq, eq-eqb, ne_eqb, true≢false}
use Rattle.std.proofs.lemmas.List.{length-set}
use Rattle.std.proofs.lemmas.Option.{slice_get_within, slice_get-get_or, same_Some, none-some}
use Rattle.khe_base.proofs.ListLemmas.{drop-there, get-other, get-set}
use Rattle.khe_instance.specs.declared.parts.Parts.{Parts}
use Rattle.khe_instance.specs.declared.points.Monitor.{Monitor}
use Rattle.khe_told.specs.Waits.{WaitOn}
use Rattle.khe_told.specs.declared.slots.Slot.{Slot}
use Rattle.khe_instance.specs.declared.rules.Kind.TheVariants as kind
use Rattle.khe_instance.specs.declared.points.Point.TheVariants as point
use Rattle.event_monitors.specs.Posts.{names, names_at, posts_at, AreKept}
use Rattle.event_monitors.specs.Turns.{has, AreListedSince, AreSameOrWait, AreTurned}
use Rattle.event_monitors.specs.declared.posts.Post.{Post}

-- what stands for a post beyond the last
abbrev pub no_post : Post
no_post = record {
  number = record { 0 = 0 };
  monitor =
      record { kind = kind.AssignTime; constraint = 0; point = point.Event (record { 0 = 0 }) };
}

-- the numbers of a range that pass a test
module _ (f : ℕ → Bool) where
  below : (from n k : ℕ) → k < from → has (filter f (range_with_len from n)) k ≡ false
  below from zero k l = refl
  below from (suc n) k l = by (f from) (below (from + 1) n k (omega arith))
    where
      by : (b : Bool) → has (filter f (range_with_len (from + 1) n)) k ≡ false
          → has (cond b (from ∷ filter f (range_with_len (from + 1) n)) (filter f (range_with_len (from + 1) n))) k
          ≡ false
      by true r = (λ i. ne_eqb from k (omega arith) i || has (filter f (range_with_len (from + 1) n)) k) ∙ r
      by false r = r

  abbrev IsFound : (from n k : ℕ) → List ℕ → Type 0
  IsFound from n k rest = (f k ≡ true) × (k < from + n) × (from ≤ k) × (has rest k ≡ false)

  pub found : (from n j k : ℕ) → slice_get (filter f (range_with_len from n)) j ≡ Some k
      → IsFound from n k (drop (suc j) (filter f (range_with_len from n)))
  found from zero j k h = absurd (none-some k h)
  found from (suc n) j k h = by (λ i g. found (from + 1) n i k g) (f from) j refl h
    where
      rest : List ℕ
      rest = filter f (range_with_len (from + 1) n)

      more : (i : ℕ) → IsFound (from + 1) n k (drop (suc i) rest) → IsFound from (suc n) k (drop (suc i) rest)
      more i g = (g.0, omega (arith, g.1), omega (arith, g.2), g.3)

      by : ((i : ℕ) → slice_get rest i ≡ Some k → IsFound (from + 1) n k (drop (suc i) rest)) → (b : Bool) (i : ℕ)
          → f from ≡ b → slice_get (cond b (from ∷ rest) rest) i ≡ Some k
          → IsFound from (suc n) k (drop (suc i) (cond b (from ∷ rest) rest))
      by r true zero e g =
          let s : from ≡ k = same_Some from k g in
          (ap f (sym s) ∙ e, omega (arith, s), omega (arith, s), below (from + 1) n k (omega (arith, s)))
      by r true (suc i) e g = more i (r i g)
      by r false i e g = more i (r i g)

  -- a number of the range is among them where it passes
  pub has_range : (from n k : ℕ) → from ≤ k → k < from + n → has (filter f (range_with_len from n)) k ≡ f k
  has_range from zero k a b = absurd (omega arith)
  has_range from (suc n) k a b = by (λ l. has_range (from + 1) n k l (omega (arith, b))) (cases_eq from k) (f from) refl
    where
      rest : List ℕ
      rest = filter f (range_with_len (from + 1) n)

      by : (from + 1 ≤ k → has rest k ≡ f k) → (from ≡ k) ⊎ (from ≡ k → ⊥) → (b : Bool) → f from ≡ b
          → has (cond b (from ∷ rest) rest) k ≡ f k
      by r (inl e) true g = ap (λ c. c || has rest k) (eq-eqb from k e) ∙ sym (sym (ap f e) ∙ g)
      by r (inl e) false g = below (from + 1) n k (omega (arith, e)) ∙ sym (sym (ap f e) ∙ g)
      by r (inr e) true g = ap (λ c. c || has rest k) (ne_eqb from k e) ∙ r (omega (arith, a, e))
      by r (inr e) false g = r (omega (arith, a, e))

-- whether a post's place is listed, by the monitor
pub listed_as : (p : Parts) (posts : List Post) (e k : ℕ) (a : Post) → slice_get posts k ≡ Some a
    → has (posts_at p posts e) k ≡ names p e a.monitor
listed_as p posts e k a there =
    has_range (names_at p posts e) 0 (length posts) k (omega arith) (omega (arith, slice_get_within posts k a there))
    ∙ ap (λ o. option_map_or (λ (b : Post). names p e b.monitor) o false) there

-- one of a list where one was set
get-same : {X : Type 0} (xs : List X) (i : ℕ) (x y : X) → i < length xs → slice_get (set xs i x) i ≡ Some y → x ≡ y
get-same xs i x y l h = same_Some x y (sym (get-set xs i x l) ∙ h)

apart_from : (k j : ℕ) (rest : List ℕ) → has rest k ≡ false → has rest j ≡ true → k ≡ j → ⊥
apart_from k j rest fresh h n = true≢false (sym h ∙ ap (has rest) (sym n) ∙ fresh)

or_more : (k j : ℕ) (rest : List ℕ) → (k ≡ j → ⊥) → has rest j ≡ true → has (k ∷ rest) j ≡ true
or_more k j rest n h = (λ i. ne_eqb k j n i || h i)

pub or_less : (k j : ℕ) (rest : List ℕ) → has rest j ≡ false → (k ≡ j → ⊥) → has (k ∷ rest) j ≡ false
or_less k j rest h n = (λ i. ne_eqb k j n i || h i)

-- gauges of which some are turned
module _ {G : Type 0} (keeps : G → Parts → Monitor → List Slot → Type 0) (p : Parts) (posts : List Post)
    (s after : List Slot) (old : List G) where
  -- before the first
  pub turned_start : (e : ℕ) → AreKept keeps p posts old s
      → ((g : G) (m : Monitor) → names p e m ≡ false → keeps g p m s → keeps g p m after)
      → AreTurned keeps p posts after old old (posts_at p posts e)
  turned_start e kept law = record {
    amount = refl;
    later = λ k h. refl;
    kept = λ k a g h there here. law g a.monitor (sym (listed_as p posts e k a there) ∙ h) (kept k a g there here);
  }

  -- one more
  pub turned_step : (k : ℕ) (a : Post) (g : G) (now : List G) (rest : List ℕ) → slice_get posts k ≡ Some a
      → k < length now → has rest k ≡ false → keeps g p a.monitor after
      → AreTurned keeps p posts after old now (k ∷ rest) → AreTurned keeps p posts after old (set now k g) rest
  turned_step k a g now rest there l fresh keep u = record {
    amount = length-set now k g ∙ u.amount;
    later = λ j h. get-other now k j g (apart_from k j rest fresh h)
        ∙ u.later j (or_more k j rest (apart_from k j rest fresh h) h);
    kept = λ j b x h t n. by j b x h t n (cases_eq k j);
  }
    where
      by : (j : ℕ) (b : Post) (x : G) → has rest j ≡ false → slice_get posts j ≡ Some b
          → slice_get (set now k g) j ≡ Some x → (k ≡ j) ⊎ (k ≡ j → ⊥) → keeps x p b.monitor after
      by j b x h t n (inl o) =
          let same : a ≡ b = same_Some a b (sym there ∙ ap (slice_get posts) o ∙ t) in
          let new : g ≡ x = get-same now k g x l (ap (slice_get (set now k g)) o ∙ n) in
          subst (λ y. keeps y p b.monitor after) new (subst (λ (c : Post). keeps g p c.monitor after) same keep)
      by j b x h t n (inr o) = u.kept j b x (or_less k j rest h o) t (sym (get-other now k j g o) ∙ n)

-- those that wait no more did not wait before
pub still : (old new : ℕ → Bool) (i : ℕ) → WaitOn old new → new i ≡ false → old i ≡ false
still old new i on h = by (old i) refl
  where
    by : (b : Bool) → old i ≡ b → b ≡ false
    by false e = refl
    by true e = absurd (true≢false (sym (on i e) ∙ h))

-- one more gauge has the value that it had, or its monitor waits
pub same_step : {G : Type 0} (value : G → Parts → Monitor → ℕ) (p : Parts) (posts : List Post) (old : List G) (k : ℕ)
    (a : Post) (g1 g : G) (now : List G) (waits more : ℕ → Bool) → slice_get posts k ≡ Some a → k < length now
    → slice_get now k ≡ Some g1 → WaitOn waits more
    → (more a.number.0 ≡ false → value g p a.monitor ≡ value g1 p a.monitor)
    → AreSameOrWait value p posts old now waits → AreSameOrWait value p posts old (set now k g) more
same_step {G} value p posts old k a g1 g now waits more there l was on equal u j b g0 x t first new not =
    by (cases_eq k j)
  where
    less : waits b.number.0 ≡ false
    less = still waits more b.number.0 on not

    by : (k ≡ j) ⊎ (k ≡ j → ⊥) → value x p b.monitor ≡ value g0 p b.monitor
    by (inl o) =
        let same : a ≡ b = same_Some a b (sym there ∙ ap (slice_get posts) o ∙ t) in
        let is : g ≡ x = get-same now k g x l (ap (slice_get (set now k g)) o ∙ new) in
        ap (λ y. value y p b.monitor) (sym is)
        ∙ subst (λ (c : Post). more c.number.0 ≡ false → value g p c.monitor ≡ value g1 p c.monitor) same equal not
        ∙ u j b g0 g1 t first (ap (slice_get now) (sym o) ∙ was) less
    by (inr o) = u j b g0 x t first (sym (get-other now k j g o) ∙ new) less

-- gauges that are the same have the same values
pub same_start : {G : Type 0} (value : G → Parts → Monitor → ℕ) (p : Parts) (posts : List Post) (old : List G)
    (waits : ℕ → Bool) → AreSameOrWait value p posts old old waits
same_start value p posts old waits k a g0 g there first new not = ap (λ x. value x p a.monitor)
    (same_Some g g0 (sym new ∙ first))

-- who waits since has a post at a listed place, also after one more of these that may wait
pub listed_step : (posts : List Post) (list : List ℕ) (k : ℕ) (a : Post) (old waits more : ℕ → Bool)
    → has list k ≡ true → slice_get posts k ≡ Some a → ((i : ℕ) → (i ≡ a.number.0 → ⊥) → more i ≡ waits i)
    → AreListedSince posts list old waits → AreListedSince posts list old more
listed_step posts list k a old waits more listed there others since i new = by (cases_eq i a.number.0)
  where
    by : (i ≡ a.number.0) ⊎ (i ≡ a.number.0 → ⊥) → (old i ≡ true)
        ⊎ ((k : ℕ) × (a : Post) × (has list k ≡ true) × (slice_get posts k ≡ Some a) × (a.number.0 ≡ i))
    by (inl e) = inr (k, a, listed, there, sym e)
    by (inr n) = since i (sym (others i n) ∙ new)

-- one more monitor that may wait
module _ (hears : Bool) (number : ℕ) (old new : ℕ → Bool)
    (is : (i : ℕ) → new i ≡ (old i || (hears && nat_eq i number))) where
  pub added_on : WaitOn old new
  added_on i h = is i ∙ ap (λ b. b || (hears && nat_eq i number)) h

  pub added_own : hears ≡ true → new number ≡ true
  added_own h = is number ∙ ap (λ b. old number || (b && nat_eq number number)) h
      ∙ ap (λ b. old number || b) (eq-eqb number number refl) ∙ or_true (old number)
    where
      or_true : (b : Bool) → (b || true) ≡ true
      or_true true = refl
      or_true false = refl

  pub added_other : (i : ℕ) → (i ≡ number → ⊥) → new i ≡ old i
  added_other i n = is i ∙ ap (λ b. old i || (hears && b)) (ne_eqb i number n) ∙ none (old i) hears
    where
      none : (b c : Bool) → (b || (c && false)) ≡ b
      none true c = refl
      none false true = refl
      none false false = refl

-- the next of a list
module _ (p : Parts) (posts : List Post) (e : ℕ) (list : List ℕ) (i : ℕ) (d : Post) (is : list ≡ posts_at p posts e)
    (l : i < length list) where
  abbrev k : ℕ
  k = get_or list i 0

  spot : IsFound (names_at p posts e) 0 (length posts) k (drop (suc i) list)
  spot = subst (λ xs. slice_get xs i ≡ Some k → IsFound (names_at p posts e) 0 (length posts) k (drop (suc i) xs))
      (sym is) (found (names_at p posts e) 0 (length posts) i k) (slice_get-get_or list i 0 l)

  pub spot_within : get_or list i 0 < length posts
  spot_within = omega (arith, spot.1)

  pub spot_post : slice_get posts (get_or list i 0) ≡ Some (get_or posts (get_or list i 0) d)
  spot_post = slice_get-get_or posts k d spot_within

  pub spot_named : names p e (get_or posts (get_or list i 0) d).monitor ≡ true
  spot_named = sym (ap (λ o. option_map_or (λ (b : Post). names p e b.monitor) o false) spot_post) ∙ spot.0

  pub spot_listed : has list (get_or list i 0) ≡ true
  spot_listed = ap (λ xs. has xs k) is ∙ listed_as p posts e k (get_or posts k d) spot_post ∙ spot_named

  pub spot_fresh : has (drop (i + 1) list) (get_or list i 0) ≡ false
  spot_fresh = let n : i + 1 ≡ suc i = omega arith in ap (λ n. has (drop n list) k) n ∙ spot.3

  pub spot_drop : drop i list ≡ get_or list i 0 ∷ drop (i + 1) list
  spot_drop = drop-there list i k (slice_get-get_or list i 0 l)

  pub spot_has : has (drop i list) (get_or list i 0) ≡ true
  spot_has = ap (λ xs. has xs k) spot_drop ∙ (λ j. eq-eqb k k refl j || has (drop (i + 1) list) k)
