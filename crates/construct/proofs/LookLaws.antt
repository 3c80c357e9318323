-- Edits that are looked at one after the other.
use Rattle.std.proofs.Common.{ℕ, zero, suc, ◌≡◌, ◌+◌, ◌-◌, ◌<◌, ◌≤◌, Bool, true, false, ◌&&◌, cond, Option, Some, None, IfSome}
use Rattle.std.proofs.Common.{List, [], ◌∷◌, length, map, refl, sym, ap, ◌∙◌, arith, subst}
use Rattle.std.specs.Prelude.{All, is_none}
use Rattle.std.specs.List.{filter, fold, range_with_len}
use Rattle.std.specs.Option.{option_and_then}
use Rattle.std.proofs.lemmas.Bool.{and_left, and_right, and_from, cond-true, cond-false}
use Rattle.std.proofs.lemmas.List.Elements.{All-nil, All-cons, All-head, All-tail, All-map}
use Rattle.construct.proofs.LeastLaws.{found_is}
use Rattle.construct.specs.Best.{improved, no_edit}
use Rattle.construct.specs.Choices.{IsMove, are_lower, assigns, gives, if_lower, is_accepted, least, lesser, lowering}
use Rattle.construct.specs.Choices.{totals_after, totals_at}
use Rattle.construct.specs.declared.choosing.Best.{Best}
use Rattle.khe_base.specs.Totals.{is_lower}
use Rattle.khe_base.specs.declared.numbers.TaskId.{TaskId}
use Rattle.khe_base.specs.declared.sums.Totals.{Totals}
use Rattle.khe_engine.specs.States.{State, edited}
use Rattle.khe_engine.specs.Values.{totals}
use Rattle.khe_instance.specs.declared.parts.Parts.{Parts}
use Rattle.khe_solution.specs.Refusing.{is_of_meets, refusal}
use Rattle.khe_told.specs.declared.edits.Edit.{Edit}
use Rattle.khe_told.specs.declared.edits.Edit.TheVariants.{Assign, Give}
use Rattle.khe_told.specs.declared.refusals.Refusal.{Refusal}

-- an edit that is not accepted, one that is no better, and one that is better
pub improved_not : (p : Parts) (s : State) (b : Best) (e : Edit) → is_accepted p s e ≡ false → b ≡ improved p s b e
unfolding improved
improved_not p s b e h = sym (cond-false _ _ b (and_left _ _ h))

pub improved_no : (p : Parts) (s : State) (b : Best) (e : Edit) → is_lower (totals p (edited s e)) b.totals ≡ false
    → b ≡ improved p s b e
unfolding improved are_lower totals_after
improved_no p s b e h = sym (cond-false _ _ b (and_right _ _ h))

pub improved_yes : (p : Parts) (s : State) (b : Best) (e : Edit) (t : Totals) → is_accepted p s e ≡ true
    → is_lower (totals p (edited s e)) b.totals ≡ true → t ≡ totals p (edited s e)
    → record { totals = t; edit = Some e } ≡ improved p s b e
unfolding improved are_lower totals_after
improved_yes p s b e t a h same =
    let now : Totals → Best = λ x. record { totals = x; edit = Some e } in
    ap now same ∙ sym (cond-true _ (now (totals p (edited s e))) b (and_from _ _ a h))

none_is : (o : Option Refusal) → is_none o ≡ true → o ≡ None
none_is None h = refl
none_is (Some r) h = absurd (let g : ⊥ = cc in g)

pub accepted_is : (p : Parts) (s : State) (e : Edit) → is_accepted p s e ≡ true → refusal p s.slots e ≡ None
unfolding is_accepted
accepted_is p s e h = none_is (refusal p s.slots e) h

-- one more of a row of edits
pub looked_next : (f : ℕ → Edit) (p : Parts) (s : State) (b : Best) (k n : ℕ) → k < n
    → fold (improved p s) b (map f (range_with_len k (n - k)))
    ≡ fold (improved p s) (improved p s b (f k)) (map f (range_with_len (k + 1) (n - (k + 1))))
looked_next f p s b k n l =
    let z : n - k ≡ suc (n - (k + 1)) = omega arith in
    ap (λ j. fold (improved p s) b (map f (range_with_len k j))) z

pub looked_end : (f : ℕ → Edit) (p : Parts) (s : State) (b : Best) (k n : ℕ) → n ≤ k
    → fold (improved p s) b (map f (range_with_len k (n - k))) ≡ b
looked_end f p s b k n l =
    let z : n - k ≡ 0 = omega arith in
    ap (λ j. fold (improved p s) b (map f (range_with_len k j))) z

abbrev pub assign_at : ℕ → ℕ → Edit
assign_at m t = Assign (record { 0 = m }) (record { 0 = t })

abbrev pub give_at : TaskId → ℕ → Edit
give_at k r = Give k (record { 0 = r })

-- what is looked at from the first on
pub record IsLooked (f : ℕ → Edit) (p : Parts) (s : State) (k n : ℕ) (b : Best) : Type 0 where
  pub rest : fold (improved p s) b (map f (range_with_len k (n - k)))
      ≡ fold (improved p s) (no_edit p s) (map f (range_with_len 0 n))

pub looked_start : (f : ℕ → Edit) (p : Parts) (s : State) (n : ℕ) (b : Best) → b ≡ no_edit p s → IsLooked f p s 0 n b
looked_start f p s n b e =
    let z : n - 0 ≡ n = omega arith in
    record {
      rest = ap (λ x. fold (improved p s) x (map f (range_with_len 0 (n - 0)))) e
          ∙ ap (λ j. fold (improved p s) (no_edit p s) (map f (range_with_len 0 j))) z;
    }

pub looked_more : (f : ℕ → Edit) (p : Parts) (s : State) (k n : ℕ) (b next : Best) → k < n → IsLooked f p s k n b
    → next ≡ improved p s b (f k) → IsLooked f p s (k + 1) n next
looked_more f p s k n b next l h e = record {
  rest = ap (λ x. fold (improved p s) x (map f (range_with_len (k + 1) (n - (k + 1))))) e
      ∙ sym (looked_next f p s b k n l) ∙ h.rest;
}

pub looked_all : (f : ℕ → Edit) (p : Parts) (s : State) (k n : ℕ) (b : Best) → n ≤ k → IsLooked f p s k n b
    → b.edit ≡ lowering p s (map f (range_with_len 0 n))
looked_all f p s k n b l h =
    ap (λ (x : Best). x.edit) (sym (looked_end f p s b k n l) ∙ h.rest) ∙ found_is p s (map f (range_with_len 0 n))

pub all_times : (p : Parts) (s : State) (m : ℕ)
    → lowering p s (map (assign_at m) (range_with_len 0 (length p.times))) ≡ lowering p s (assigns p m)
unfolding assigns
all_times p s m = refl

pub all_resources : (p : Parts) (s : State) (k : TaskId)
    → lowering p s (map (give_at k) (range_with_len 0 (length p.resources))) ≡ lowering p s (gives p k)
unfolding gives
all_resources p s k = refl

-- what is found is a move
lesser_either : (P : Edit → Type 0) (p : Parts) (s : State) (e : Edit) (o : Option Edit) → P e → IfSome o P
    → P (lesser p s e o)
unfolding lesser
lesser_either P p s e None a b = a
lesser_either P p s e (Some f) a b = either (are_lower (totals_after p s f) (totals_after p s e))
  where
    either : (c : Bool) → P (cond c f e)
    either true = b
    either false = a

pub least_among : (P : Edit → Type 0) (p : Parts) (s : State) (es : List Edit) → All P es → IfSome (least p s es) P
unfolding least
least_among P p s [] h = tt
least_among P p s (e ∷ es) h =
    lesser_either P p s e (least p s es) (All-head P e es h) (least_among P p s es (All-tail P e es h))

pub kept_if_lower : (P : Edit → Type 0) (p : Parts) (s : State) (o : Option Edit) → IfSome o P
    → IfSome (option_and_then (if_lower p s) o) P
unfolding if_lower
kept_if_lower P p s None h = tt
kept_if_lower P p s (Some e) h = either (are_lower (totals_after p s e) (totals_at p s))
  where
    either : (c : Bool) → IfSome (cond c (Some e) None) P
    either true = h
    either false = tt

accepted_moves : (p : Parts) (s : State) (es : List Edit) → All (λ e. is_of_meets e ≡ true) es
    → All (IsMove p s) (filter (is_accepted p s) es)
accepted_moves p s [] h = All-nil (IsMove p s)
accepted_moves p s (e ∷ es) h =
    by (is_accepted p s e) refl (accepted_moves p s es (All-tail (λ x. is_of_meets x ≡ true) e es h))
  where
    by : (c : Bool) → is_accepted p s e ≡ c → All (IsMove p s) (filter (is_accepted p s) es)
        → All (IsMove p s) (cond c (e ∷ filter (is_accepted p s) es) (filter (is_accepted p s) es))
    by true a r = All-cons (IsMove p s) e (filter (is_accepted p s) es)
        (record { ours = All-head (λ x. is_of_meets x ≡ true) e es h; accepted = accepted_is p s e a }) r
    by false a r = r

pub lowering_moves : (p : Parts) (s : State) (es : List Edit) → All (λ e. is_of_meets e ≡ true) es
    → IfSome (lowering p s es) (IsMove p s)
unfolding lowering
lowering_moves p s es h =
    kept_if_lower (IsMove p s) p s (least p s (filter (is_accepted p s) es))
    (least_among (IsMove p s) p s (filter (is_accepted p s) es) (accepted_moves p s es h))

ours_all : (f : ℕ → Edit) (a n : ℕ) → ((k : ℕ) → is_of_meets (f k) ≡ true)
    → All (λ e. is_of_meets e ≡ true) (map f (range_with_len a n))
ours_all f a zero h = All-nil (λ e. is_of_meets e ≡ true)
ours_all f a (suc n) h = All-cons (λ e. is_of_meets e ≡ true) (f a) (map f (range_with_len (a + 1) n)) (h a)
    (ours_all f (a + 1) n h)

-- so what was looked at is, for any row of moves
pub looked_move : (f : ℕ → Edit) (p : Parts) (s : State) (k n : ℕ) (b : Best) → ((j : ℕ) → is_of_meets (f j) ≡ true)
    → n ≤ k → IsLooked f p s k n b → IfSome b.edit (IsMove p s)
looked_move f p s k n b ours l h =
    subst (λ o. IfSome o (IsMove p s)) (sym (looked_all f p s k n b l h))
    (lowering_moves p s (map f (range_with_len 0 n)) (ours_all f 0 n ours))
