-- Tasks that may be given resources stay so when others are given or lose theirs, and what edits of them come to.
use Rattle.std.proofs.Common.{ℕ, zero, suc, ◌≡◌, ◌+◌, ◌<◌, ◌⊎◌, inl, inr, Bool, true, false, cond, Option, Some, None}
use Rattle.std.proofs.Common.{List, [], ◌∷◌, length, drop, drop-cons, add-one, get_or, slice_get, refl, sym, ap, subst}
use Rattle.std.proofs.Common.{◌∙◌}
use Rattle.std.proofs.Common.{arith}
use Rattle.std.specs.Prelude.{All, AllPairs, is_none, is_some, nat_eq, nat_le, not}
use Rattle.std.specs.Option.{option_map_or}
use Rattle.std.proofs.lemmas.Bool.{lt-leb}
use Rattle.std.proofs.lemmas.List.Elements.{All-cons, All-head, All-tail, All-weaker}
use Rattle.std.proofs.lemmas.Option.{slice_get_within}
use Rattle.khe_base.specs.declared.numbers.ResourceId.{ResourceId}
use Rattle.khe_base.specs.declared.numbers.TaskId.{TaskId}
use Rattle.khe_engine.specs.States.{State, edited}
use Rattle.khe_instance.specs.Lookups.{place_at}
use Rattle.khe_instance.specs.declared.parts.Parts.{Parts}
use Rattle.khe_instance.specs.declared.parts.Place.{Place}
use Rattle.khe_instance.specs.declared.parts.ResourceInfo.{ResourceInfo}
use Rattle.khe_told.specs.Slots.{slot_at}
use Rattle.khe_told.specs.declared.edits.Edit.TheVariants.{Give, Take}
use Rattle.khe_told.specs.declared.refusals.Refusal.{Refusal}
use Rattle.khe_told.specs.declared.slots.Slot.{Slot}
use Rattle.khe_solution.specs.Editing as editing
use Rattle.khe_solution.specs.Editing.{staffed}
use Rattle.khe_solution.specs.Reading.{has_type, resource_at}
use Rattle.khe_solution.specs.Refusing.{first_refusal, give_row, refusal, take_row}
use Rattle.khe_solution.proofs.Basics.{AllPass, cases_eq, true-false}
use Rattle.khe_solution.proofs.EditingLaws.{staffed_given, staffed_none, staffed_other}
use Rattle.khe_solution.proofs.Stages.{MayTurn, place_still, turn_there, turns_still}
use Rattle.time_match.specs.Costs.{bare, chosen, given, no_resource, stripped}
use Rattle.time_match.specs.Open.{AreApart, AreReady, IsOpenFor}

may_turn : (p : Parts) (rs : List ResourceId) (s : List Slot) (t : TaskId) → IsOpenFor p rs s t → MayTurn p s t
may_turn p rs s t h = record { place = h.there; free = h.free }

pub open_there : (p : Parts) (rs : List ResourceId) (s : List Slot) (t : TaskId) → IsOpenFor p rs s t
    → t.meet.0 < length s
open_there p rs s t h = (turn_there p s t (may_turn p rs s t h)).0

-- what another task is given leaves it open
open_still : (p : Parts) (rs : List ResourceId) (s : List Slot) (a b : TaskId) (q : Option ResourceId)
    → a.meet.0 < length s → IsOpenFor p rs s b → IsOpenFor p rs (staffed s a q) b
open_still p rs s a b q l h =
    let m = turns_still p s a b q l (may_turn p rs s b h) in
    record {
      there = m.place;
      free = m.free;
      typed = All-weaker
          (λ (r : ResourceId). has_type p r.0 (place_at p.events (slot_at s b.meet.0).event.0 b.place) ≡ true)
          (λ (r : ResourceId). has_type p r.0
          (place_at p.events (slot_at (staffed s a q) b.meet.0).event.0 b.place) ≡ true)
          (λ r e. ap (has_type p r.0) (place_still p s a b q l) ∙ e) rs h.typed;
    }

-- and a task without a resource keeps none where another is given one, or any loses its own
none_apart : (p : Parts) (rs : List ResourceId) (s : List Slot) (a b : TaskId) (q : Option ResourceId)
    → a.meet.0 < length s → AreApart a b → resource_at s b ≡ None → resource_at (staffed s a q) b ≡ None
none_apart p rs s a b q l d h = staffed_other s a b q d l ∙ h

same_or_apart : (a b : TaskId) → (a ≡ b) ⊎ AreApart a b
same_or_apart a b = elim (cases_eq b.meet.0 a.meet.0) [
  | inl m ↦ elim (cases_eq b.place a.place) [
    | inl k ↦ inl (λ i. record { meet = record { 0 = sym m i }; place = sym k i })
    | inr d ↦ inr (λ e k. d k)
  ]
  | inr d ↦ inr (λ e k. d e)
]

none_stays : (p : Parts) (rs : List ResourceId) (s : List Slot) (a b : TaskId) → IsOpenFor p rs s a
    → resource_at s b ≡ None → resource_at (staffed s a None) b ≡ None
none_stays p rs s a b o h = elim (same_or_apart a b) [
  | inl e ↦ subst (λ (u : TaskId). resource_at (staffed s a None) u ≡ None) e
      (let w = turn_there p s a (may_turn p rs s a o) in staffed_given s a None w.0 w.1)
  | inr d ↦ none_apart p rs s a b None (open_there p rs s a o) d h
]

-- a task that is stripped
pub stripped_slots : (s : State) (t : TaskId) → (stripped s t).slots ≡ staffed s.slots t None
unfolding edited editing.edited
stripped_slots s t = by (resource_at s.slots t) refl
  where
    by : (o : Option ResourceId) → resource_at s.slots t ≡ o → (stripped s t).slots ≡ staffed s.slots t None
    by None e = ap (λ (o : Option ResourceId). (cond (is_some o) (edited s (Take t)) s).slots) e
        ∙ sym (staffed_none s.slots t None e)
    by (Some r) e = ap (λ (o : Option ResourceId). (cond (is_some o) (edited s (Take t)) s).slots) e

stripped_open : (p : Parts) (rs : List ResourceId) (s : State) (t u : TaskId) → IsOpenFor p rs s.slots t
    → IsOpenFor p rs s.slots u → IsOpenFor p rs (stripped s t).slots u
stripped_open p rs s t u o h = subst (λ z. IsOpenFor p rs z u) (sym (stripped_slots s t))
    (open_still p rs s.slots t u None (open_there p rs s.slots t o) h)

stripped_none : (p : Parts) (rs : List ResourceId) (s : State) (t u : TaskId) → IsOpenFor p rs s.slots t
    → resource_at s.slots u ≡ None → resource_at (stripped s t).slots u ≡ None
stripped_none p rs s t u o h = subst (λ z. resource_at z u ≡ None) (sym (stripped_slots s t))
    (none_stays p rs s.slots t u o h)

stripped_own : (p : Parts) (rs : List ResourceId) (s : State) (t : TaskId) → IsOpenFor p rs s.slots t
    → resource_at (stripped s t).slots t ≡ None
stripped_own p rs s t o = subst (λ z. resource_at z t ≡ None) (sym (stripped_slots s t))
    (let w = turn_there p s.slots t (may_turn p rs s.slots t o) in staffed_given s.slots t None w.0 w.1)

pub stripped_all : (p : Parts) (rs : List ResourceId) (s : State) (t : TaskId) (ts : List TaskId)
    → IsOpenFor p rs s.slots t → All (IsOpenFor p rs s.slots) ts → All (IsOpenFor p rs (stripped s t).slots) ts
stripped_all p rs s t ts o h = All-weaker (IsOpenFor p rs s.slots) (IsOpenFor p rs (stripped s t).slots)
    (λ u g. stripped_open p rs s t u o g) ts h

-- in the bare state each task is open and has none
bare_none : (p : Parts) (rs : List ResourceId) (s : State) (ts : List TaskId) (u : TaskId)
    → All (IsOpenFor p rs s.slots) ts → resource_at s.slots u ≡ None → resource_at (bare s ts).slots u ≡ None
unfolding bare
bare_none p rs s [] u o h = h
bare_none p rs s (t ∷ ts) u o h =
    let P = IsOpenFor p rs s.slots in
    let a = All-head P t ts o in
    bare_none p rs (stripped s t) ts u (stripped_all p rs s t ts a (All-tail P t ts o)) (stripped_none p rs s t u a h)

bare_open : (p : Parts) (rs : List ResourceId) (s : State) (ts : List TaskId) (u : TaskId)
    → All (IsOpenFor p rs s.slots) ts → IsOpenFor p rs s.slots u → IsOpenFor p rs (bare s ts).slots u
unfolding bare
bare_open p rs s [] u o h = h
bare_open p rs s (t ∷ ts) u o h =
    let P = IsOpenFor p rs s.slots in
    let a = All-head P t ts o in
    bare_open p rs (stripped s t) ts u (stripped_all p rs s t ts a (All-tail P t ts o)) (stripped_open p rs s t u a h)

bare_own : (p : Parts) (rs : List ResourceId) (s : State) (ts : List TaskId) → All (IsOpenFor p rs s.slots) ts
    → All (λ (t : TaskId). resource_at (bare s ts).slots t ≡ None) ts
unfolding bare
bare_own p rs s [] o = λ k d l. absurd (omega (arith, l))
bare_own p rs s (t ∷ ts) o =
    let P = IsOpenFor p rs s.slots in
    let a = All-head P t ts o in
    let rest = stripped_all p rs s t ts a (All-tail P t ts o) in
    All-cons (λ (u : TaskId). resource_at (bare (stripped s t) ts).slots u ≡ None) t ts
    (bare_none p rs (stripped s t) ts t rest (stripped_own p rs s t a)) (bare_own p rs (stripped s t) ts rest)

pub bare_ready : (p : Parts) (rs : List ResourceId) (s : State) (ts : List TaskId) → All (IsOpenFor p rs s.slots) ts
    → AllPairs AreApart ts → AreReady p rs (bare s ts).slots ts
bare_ready p rs s ts o d = record {
  open_ = All-weaker (IsOpenFor p rs s.slots) (IsOpenFor p rs (bare s ts).slots)
      (λ u h. bare_open p rs s ts u o h) ts o;
  none = bare_own p rs s ts o;
  apart = d;
}

-- one more task is stripped
pub bare_next : (s : State) (ts : List TaskId) (k : ℕ) (t d : TaskId) → k < length ts → get_or ts k d ≡ t
    → bare s (drop k ts) ≡ bare (stripped s t) (drop (k + 1) ts)
unfolding bare
bare_next s ts k t d l e =
    ap (bare s) (drop-cons ts k d l) ∙ (λ i. bare (stripped s (e i)) (drop (sym (add-one k) i) ts))

-- a row of which each test is false refuses nothing
passing : (row : List (Bool × Refusal)) → AllPass row → first_refusal row ≡ None
passing [] h = refl
passing ((test, r) ∷ rest) h = ap (λ t. cond t (Some r) (first_refusal rest)) h.0 ∙ passing rest h.1

pub may_take : (p : Parts) (rs : List ResourceId) (s : List Slot) (t : TaskId) → IsOpenFor p rs s t
    → is_some (resource_at s t) ≡ true → refusal p s (Take t) ≡ None
unfolding refusal
may_take p rs s t o h = passing (take_row p s t) (ap not o.there, (o.free, (some_there (resource_at s t) h, tt)))
  where
    some_there : (q : Option ResourceId) → is_some q ≡ true → is_none q ≡ false
    some_there None g = absurd (true-false (sym g))
    some_there (Some r) g = refl

-- a resource that has the type of a place is one of the instance
type_known : (p : Parts) (r : ℕ) (place : Option Place) → has_type p r place ≡ true
    → nat_le (length p.resources) r ≡ false
type_known p r None h = absurd (true-false (sym h))
type_known p r (Some place) h = lt-leb (length p.resources) r (at_resource (slice_get p.resources r) refl h)
  where
    at_resource : (o : Option ResourceInfo) → slice_get p.resources r ≡ o
        → option_map_or (λ (x : ResourceInfo). nat_eq x.rtype place.rtype) o false ≡ true → r < length p.resources
    at_resource None e k = absurd (true-false (sym k))
    at_resource (Some x) e k = slice_get_within p.resources r x e

may_give : (p : Parts) (s : List Slot) (t : TaskId) (r : ResourceId) → MayTurn p s t → resource_at s t ≡ None
    → has_type p r.0 (place_at p.events (slot_at s t.meet.0).event.0 t.place) ≡ true → refusal p s (Give t r) ≡ None
unfolding refusal
may_give p s t r m n h = passing (give_row p s t r)
    (ap not m.place, (type_known p r.0 _ h, (m.free, (ap is_some n, (ap not h, tt)))))

-- each task that is ready may be given each of the resources
pub may_give_each : (p : Parts) (rs : List ResourceId) (s : List Slot) (ts : List TaskId) → AreReady p rs s ts
    → All (λ (t : TaskId). All (λ (r : ResourceId). refusal p s (Give t r) ≡ None) rs) ts
may_give_each p rs s ts h k d l i e b =
    let t = get_or ts k d in
    let o = h.open_ k d l in
    may_give p s t (get_or rs i e) (may_turn p rs s t o) (h.none k d l) (o.typed i e b)

-- one task of those that are ready is given a resource, or none
tail_apart : (t : TaskId) (ts : List TaskId) → AllPairs AreApart (t ∷ ts) → AllPairs AreApart ts
tail_apart t ts h i j d l b = h (suc i) (suc j) d (omega (arith, l)) (omega (arith, b))

head_apart : (t : TaskId) (ts : List TaskId) → AllPairs AreApart (t ∷ ts) → All (AreApart t) ts
head_apart t ts h k d l = h zero (suc k) d (omega arith) (omega (arith, l))

pub given_slots : (s : State) (t : TaskId) (r : ResourceId) → (edited s (Give t r)).slots ≡ staffed s.slots t (Some r)
unfolding edited editing.edited
given_slots s t r = refl

pub ready_next : (p : Parts) (rs : List ResourceId) (s : State) (t : TaskId) (ts : List TaskId) (c : Option ℕ)
    → AreReady p rs s.slots (t ∷ ts) → AreReady p rs (given s rs t c).slots ts
ready_next p rs s t ts None h = record {
  open_ = All-tail (IsOpenFor p rs s.slots) t ts h.open_;
  none = All-tail (λ (u : TaskId). resource_at s.slots u ≡ None) t ts h.none;
  apart = tail_apart t ts h.apart;
}
ready_next p rs s t ts (Some k) h =
    let r = get_or rs k no_resource in
    let l = open_there p rs s.slots t (All-head (IsOpenFor p rs s.slots) t ts h.open_) in
    let away = head_apart t ts h.apart in
    let none = All-tail (λ (u : TaskId). resource_at s.slots u ≡ None) t ts h.none in
    let then : AreReady p rs (staffed s.slots t (Some r)) ts =
    record {
      open_ = All-weaker (IsOpenFor p rs s.slots) (IsOpenFor p rs (staffed s.slots t (Some r)))
          (λ u g. open_still p rs s.slots t u (Some r) l g) ts (All-tail (IsOpenFor p rs s.slots) t ts h.open_);
      none =
          λ i d b. none_apart p rs s.slots t (get_or ts i d) (Some r) l (away i d b) (none i d b);
      apart = tail_apart t ts h.apart;
    } in
    subst (λ z. AreReady p rs z ts) (sym (given_slots s t r)) then

pub chosen_next : (s : State) (rs : List ResourceId) (ts : List TaskId) (cs : List (Option ℕ)) (k : ℕ) (t : TaskId)
    → k < length ts → length cs ≡ length ts
    → chosen s rs (drop k ts) (drop k cs)
    ≡ chosen (given s rs (get_or ts k t) (get_or cs k None)) rs (drop (k + 1) ts) (drop (k + 1) cs)
unfolding chosen
chosen_next s rs ts cs k t l e =
    let b : k < length cs = omega (arith, l, e) in
    (λ i. chosen s rs (drop-cons ts k t l i) (drop-cons cs k None b i))
    ∙ (λ i. chosen (given s rs (get_or ts k t) (get_or cs k None)) rs (drop (sym (add-one k) i) ts)
    (drop (sym (add-one k) i) cs))
