-- The tasks of one meet among all tasks, and its duties among all duties.
use Rattle.std.proofs.Common.{◌≡◌, ◌∙◌, ap, ap₂, refl, sym, ℕ, ◌==◌, Bool, true, false, cond, nat_lt}
use Rattle.std.proofs.Common.{List, [], ◌∷◌, ◌++◌, map, All, filter, flat_map}
use Rattle.std.specs.List.{list_all, range_with_len}
use Rattle.std.proofs.lemmas.Bool.{and_parts, eq-eqb}
use Rattle.std.proofs.lemmas.List.{append-nil}
use Rattle.std.proofs.lemmas.List.Elements.{All-cons, All-nil, All-head, All-tail, All-weaker, filter-append}
use Rattle.khe_base.specs.declared.numbers.TaskId.{TaskId}
use Rattle.khe_instance.specs.Lookups.{places_at}
use Rattle.khe_instance.specs.Running.{duties}
use Rattle.khe_instance.specs.States.{tasks_of}
use Rattle.khe_instance.specs.declared.parts.Parts.{Parts}
use Rattle.khe_instance.specs.declared.states.Meet.{Meet}
use Rattle.khe_instance.specs.declared.states.Task.{Task}
use Rattle.event_deviations.proofs.Beside.{Rising, duty_of, is_of}
use Rattle.xhstt_entries.specs.Spelled.{own_duties}
use Rattle.xhstt_entries.proofs.Own.{earlier_apart, later_apart}

-- a test that all of a list agree on
constant : {A B : Type 0} (test : B → Bool) (f : A → B) (b : Bool) (xs : List A) → ((x : A) → test (f x) ≡ b)
    → filter test (map f xs) ≡ cond b (map f xs) []
constant test f true [] h = refl
constant test f false [] h = refl
constant test f true (x ∷ xs) h =
    let later = filter test (map f xs) in
    ap (λ b. cond b (f x ∷ later) later) (h x) ∙ ap (λ l. f x ∷ l) (constant test f true xs h)
constant test f false (x ∷ xs) h =
    let later = filter test (map f xs) in
    ap (λ b. cond b (f x ∷ later) later) (h x) ∙ constant test f false xs h

-- a test of what elements have
filter_mapped : {A B : Type 0} (g : A → B) (test : B → Bool) (xs : List A)
    → map g (filter (λ x. test (g x)) xs) ≡ filter test (map g xs)
filter_mapped g test [] = refl
filter_mapped {A} {B} g test (x ∷ xs) = by (test (g x)) (filter_mapped g test xs)
  where
    by : (b : Bool) → map g (filter (λ x. test (g x)) xs) ≡ filter test (map g xs)
        → map g (cond b (x ∷ filter (λ x. test (g x)) xs) (filter (λ x. test (g x)) xs))
        ≡ cond b (g x ∷ filter test (map g xs)) (filter test (map g xs))
    by true e = ap (λ l. g x ∷ l) e
    by false e = e

-- a test that the piece of one element passes whole, and no other piece at all
none_left : {X A : Type 0} (test : A → Bool) (f : X → List A) (xs : List X) → All (λ x. filter test (f x) ≡ []) xs
    → filter test (flat_map f xs) ≡ []
none_left test f [] none = refl
none_left test f (x ∷ xs) none =
    filter-append test (f x) (flat_map f xs)
    ∙ ap₂ (λ a b. a ++ b) (All-head (λ y. filter test (f y) ≡ []) x xs none)
    (none_left test f xs (All-tail (λ y. filter test (f y) ≡ []) x xs none))

one_left : {X A : Type 0} (test : A → Bool) (f : X → List A) (before : List X) (x : X) (after : List X)
    → All (λ y. filter test (f y) ≡ []) before → filter test (f x) ≡ f x → All (λ y. filter test (f y) ≡ []) after
    → filter test (flat_map f (before ++ x ∷ after)) ≡ f x
one_left test f [] x after none own later =
    filter-append test (f x) (flat_map f after) ∙ ap₂ (λ a b. a ++ b) own (none_left test f after later)
    ∙ append-nil (f x)
one_left test f (y ∷ ys) x after none own later =
    filter-append test (f y) (flat_map f (ys ++ x ∷ after))
    ∙ ap₂ (λ a b. a ++ b) (All-head (λ z. filter test (f z) ≡ []) y ys none)
    (one_left test f ys x after (All-tail (λ z. filter test (f z) ≡ []) y ys none) own later)

-- the other meets have other numbers
abbrev IsApart : Meet → Meet → Type 0
IsApart m x = (x.meet.0 == m.meet.0) ≡ false

passes_mid : (test : Meet → Bool) (before : List Meet) (m : Meet) (after : List Meet)
    → list_all test (before ++ m ∷ after) ≡ true → test m ≡ true
passes_mid test [] m after h = (and_parts (test m) (list_all test after) h).0
passes_mid test (x ∷ xs) m after h =
    passes_mid test xs m after (and_parts (test x) (list_all test (xs ++ m ∷ after)) h).1

later_are : (m : Meet) (xs : List Meet) → list_all (λ x. nat_lt m.meet.0 x.meet.0) xs ≡ true → All (IsApart m) xs
later_are m [] h = All-nil (IsApart m)
later_are m (x ∷ xs) h =
    let parts = and_parts (nat_lt m.meet.0 x.meet.0) (list_all (λ y. nat_lt m.meet.0 y.meet.0) xs) h in
    All-cons (IsApart m) x xs (later_apart m.meet.0 x.meet.0 parts.0) (later_are m xs parts.1)

earlier_are : (before : List Meet) (m : Meet) (after : List Meet) → Rising (before ++ m ∷ after)
    → All (IsApart m) before
earlier_are [] m after h = All-nil (IsApart m)
earlier_are (x ∷ xs) m after h =
    All-cons (IsApart m) x xs
    (earlier_apart x.meet.0 m.meet.0 (passes_mid (λ y. nat_lt x.meet.0 y.meet.0) xs m after h.0))
    (earlier_are xs m after h.1)

last_rising : (before : List Meet) (m : Meet) (after : List Meet) → Rising (before ++ m ∷ after)
    → list_all (λ x. nat_lt m.meet.0 x.meet.0) after ≡ true
last_rising [] m after h = h.0
last_rising (x ∷ xs) m after h = last_rising xs m after h.1

module _ (before : List Meet) (m : Meet) (after : List Meet) (rising : Rising (before ++ m ∷ after)) where
  earlier : All (IsApart m) before
  earlier = earlier_are before m after rising

  later : All (IsApart m) after
  later = later_are m after (last_rising before m after rising)

  pub duties_found : (ts : List Task)
      → own_duties m (duties (before ++ m ∷ after) ts) ≡ map (duty_of m) (filter (is_of m.meet.0) ts)
  duties_found ts =
      one_left (λ d. d.meet.meet.0 == m.meet.0) (λ x. map (duty_of x) (filter (is_of x.meet.0) ts)) before m after
      (All-weaker (IsApart m) (λ x. filter (λ d. d.meet.meet.0 == m.meet.0) (map (duty_of x) (filter (is_of x.meet.0)
      ts)) ≡ [])
      (λ x e. constant (λ d. d.meet.meet.0 == m.meet.0) (duty_of x) false (filter (is_of x.meet.0) ts) (λ t. e))
      before earlier)
      (constant (λ d. d.meet.meet.0 == m.meet.0) (duty_of m) true (filter (is_of m.meet.0) ts)
      (λ t. eq-eqb m.meet.0 m.meet.0 refl))
      (All-weaker (IsApart m) (λ x. filter (λ d. d.meet.meet.0 == m.meet.0) (map (duty_of x) (filter (is_of x.meet.0)
      ts)) ≡ [])
      (λ x e. constant (λ d. d.meet.meet.0 == m.meet.0) (duty_of x) false (filter (is_of x.meet.0) ts) (λ t. e))
      after later)

  module _ (p : Parts) where
    abbrev id_at : Meet → ℕ → TaskId
    id_at x k = record { meet = x.meet; place = k }

    other_ids : (x : Meet) → IsApart m x → filter (λ id. id.meet.0 == m.meet.0) (tasks_of p x) ≡ []
    other_ids x e = constant (λ (id : TaskId). id.meet.0 == m.meet.0) (id_at x) false
        (range_with_len 0 (places_at p.events x.event.0)) (λ k. e)

    own_ids : filter (λ id. id.meet.0 == m.meet.0) (tasks_of p m) ≡ tasks_of p m
    own_ids = constant (λ (id : TaskId). id.meet.0 == m.meet.0) (id_at m) true
        (range_with_len 0 (places_at p.events m.event.0)) (λ k. eq-eqb m.meet.0 m.meet.0 refl)

    pub tasks_found : (ts : List Task) → map (λ t. t.task) ts ≡ flat_map (tasks_of p) (before ++ m ∷ after)
        → map (λ t. t.task) (filter (is_of m.meet.0) ts) ≡ tasks_of p m
    tasks_found ts told =
        filter_mapped (λ (t : Task). t.task) (λ id. id.meet.0 == m.meet.0) ts
        ∙ ap (filter (λ id. id.meet.0 == m.meet.0)) told
        ∙ one_left (λ id. id.meet.0 == m.meet.0) (tasks_of p) before m after
        (All-weaker (IsApart m) (λ x. filter (λ id. id.meet.0 == m.meet.0) (tasks_of p x) ≡ []) other_ids before
        earlier)
        own_ids
        (All-weaker (IsApart m) (λ x. filter (λ id. id.meet.0 == m.meet.0) (tasks_of p x) ≡ []) other_ids after later)
