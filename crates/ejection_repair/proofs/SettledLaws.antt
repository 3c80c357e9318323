-- A repaired state is no worse, and what its outcome says of it is true.
use Rattle.std.proofs.Common.{ℕ, zero, suc, ◌≡◌, ◌+◌, ◌<◌, ◌≤◌, ◌⊎◌, inl, inr, Bool, true, false, cond, Option, Some}
use Rattle.std.proofs.Common.{None, List, [], ◌∷◌, ◌++◌, map, length, refl, ap, ◌∙◌, sym, subst, arith, append_assoc}
use Rattle.std.proofs.Common.{append-nil}
use Rattle.std.specs.Option.{option_map_or}
use Rattle.std.specs.Prelude.{Result, Ok, Err, IfOk, OnErr}
use Rattle.std.proofs.lemmas.Bool.Decides.{nat_tests}
use Rattle.std.proofs.lemmas.Bool.{cases_eq}
use Rattle.khe_base.specs.declared.sums.Totals.{Totals}
use Rattle.khe_instance.specs.declared.parts.Parts.{Parts}
use Rattle.khe_told.specs.declared.edits.Edit.{Edit}
use Rattle.khe_engine.specs.States.{State}
use Rattle.monitor_graph.specs.Dearer.{dearer, only}
use Rattle.repair_moves.specs.Moves.{moves}
use Rattle.ejection_repair.specs.Chains.{Chain, chains, longer, unmoved, extensions, tried}
use Rattle.ejection_repair.specs.Repaired.{Try, try_at, tries_from, Repaired, run, repaired}
use Rattle.ejection_repair.specs.Settled.{Among, LeadsOn, IsChain, IsSettled, IsTrueOf, accepted_of, IsNoWorse}
use Rattle.ejection_repair.specs.Trails.{is_fresh}
use Rattle.ejection_repair.specs.Values.{totals_at, are_lower, costs_at, defects}
use Rattle.ejection_repair.specs.declared.outcome.Outcome.{Outcome}
use Rattle.ejection_repair.proofs.AmongLaws.{among_flat, among_filter, among_rotated, among_map, place_of, before}
use Rattle.ejection_repair.proofs.AmongLaws.{behind}

pub lower_trans : (a b c : Totals) → are_lower a b ≡ true → are_lower b c ≡ true → are_lower a c ≡ true
unfolding are_lower
lower_trans a b c h k = grind (arith, nat_tests)

-- what a run comes to, against where it is
pub Comes : Parts → State → ℕ → Repaired → Type 0
Comes p s a r = ((accepted_of r.outcome ≡ a) × (r.state ≡ s))
    ⊎ ((a < accepted_of r.outcome) × (are_lower (totals_at p r.state) (totals_at p s) ≡ true))

comes_on : (p : Parts) (s u : State) (a : ℕ) (r : Repaired) → are_lower (totals_at p u) (totals_at p s) ≡ true
    → Comes p u (a + 1) r → Comes p s a r
unfolding Comes
comes_on p s u a r low (inl (e, f)) = inr (omega arith, ap (λ x. are_lower (totals_at p x) (totals_at p s)) f ∙ low)
comes_on p s u a r low (inr (l, f)) = inr (omega arith, lower_trans _ _ _ f low)

pub run_comes : (p : Parts) (d v n a t : ℕ) (s : State) (xs : List Try) → Comes p s a (run p d v n a t s xs)
unfolding run Comes
run_comes p d v zero a t s [] = inl (refl, refl)
run_comes p d v zero a t s (x ∷ xs) = inl (refl, refl)
run_comes p d v (suc n) a t s [] = inl (refl, refl)
run_comes p d v (suc n) a t s (x ∷ xs) =
    by (are_lower (totals_at p x.state) (totals_at p s)) refl
    (run_comes p d v n (a + 1) (t + 1) x.state (tries_from p x.state v 0 d)) (run_comes p d v n a (t + 1) s xs)
  where
    by : (b : Bool) → are_lower (totals_at p x.state) (totals_at p s) ≡ b
        → Comes p x.state (a + 1) (run p d v n (a + 1) (t + 1) x.state (tries_from p x.state v 0 d))
        → Comes p s a (run p d v n a (t + 1) s xs)
        → Comes p s a (cond b (run p d v n (a + 1) (t + 1) x.state (tries_from p x.state v 0 d))
        (run p d v n a (t + 1) s xs))
    by true e h k = comes_on p s x.state a (run p d v n (a + 1) (t + 1) x.state (tries_from p x.state v 0 d)) e h
    by false e h k = k

pub repaired_comes : (p : Parts) (s : State) (d b v : ℕ)
    → IsNoWorse p s (repaired p s d b v).state (accepted_of (repaired p s d b v).outcome)
unfolding repaired Comes
repaired_comes p s d b v = run_comes p d v b 0 0 s (tries_from p s v 0 d)

-- none of these is lower
pub NoneLower : Parts → State → List Try → Type 0
NoneLower p s [] = Unit {0}
NoneLower p s (x ∷ xs) = (are_lower (totals_at p x.state) (totals_at p s) ≡ false) × NoneLower p s xs

-- each chain stands in the list
in_extensions : (p : Parts) (marked : List ℕ) (v k : ℕ) (c : Chain) (m : ℕ) (e : Edit) (es : List Edit) (d : Chain)
    → length es < k
    → LeadsOn p marked c (Some m) (e ∷ es) d → Among d (extensions p marked v k c m)
unfolding extensions tried
in_extensions p marked v zero c m e es d l h = absurd (omega arith)
in_extensions p marked v (suc k) c m e es d l h =
    among_flat (λ x. longer c x ∷ option_map_or (extensions p marked v k (longer c x))
    (only (dearer marked (costs_at p (longer c x).state))) []) e d _
    (among_filter (is_fresh c.state.slots c.moved) e _ (among_rotated e v (moves p c.state.slots m) h.0) h.1)
    (last (in_extensions p marked v k) es l h.2)
  where
    Rest : Type 0
    Rest = (c : Chain) (m : ℕ) (e : Edit) (es : List Edit) (d : Chain) → length es < k
        → LeadsOn p marked c (Some m) (e ∷ es) d → Among d (extensions p marked v k c m)

    next : Rest → (o : Option ℕ) (f : Edit) (fs : List Edit) → length (f ∷ fs) < suc k
        → LeadsOn p marked (longer c e) o (f ∷ fs) d
        → Among d (option_map_or (extensions p marked v k (longer c e)) o [])
    next r None f fs l g = absurd g
    next r (Some n) f fs l g = r (longer c e) n f fs d (omega arith) g

    last : Rest → (es : List Edit) → length es < suc k
        → LeadsOn p marked (longer c e) (only (dearer marked (costs_at p (longer c e).state))) es d
        → Among d (longer c e ∷ option_map_or (extensions p marked v k (longer c e))
        (only (dearer marked (costs_at p (longer c e).state))) [])
    last r [] l g = inl (sym g)
    last r (f ∷ fs) l g = inr (next r (only (dearer marked (costs_at p (longer c e).state))) f fs l g)

in_chains : (p : Parts) (s : State) (v k : ℕ) (e : Edit) (es : List Edit) (d : Chain) → length es < k
    → IsChain p s e es d → Among d (chains p s v k)
unfolding chains
in_chains p s v k e es d l h =
    among_flat (extensions p (costs_at p s) v k (unmoved s)) h.0 d _ (among_rotated h.0 v (defects (costs_at p s)) h.1)
    (in_extensions p (costs_at p s) v k (unmoved s) h.0 e es d l h.2)

-- what is not lower among all tries is not lower among the chains of a length
none_left : (p : Parts) (s : State) (xs ys : List Try) → NoneLower p s (xs ++ ys) → NoneLower p s xs
unfolding NoneLower
none_left p s [] ys h = tt
none_left p s (x ∷ xs) ys h = (h.0, none_left p s xs ys h.1)

none_right : (p : Parts) (s : State) (xs ys : List Try) → NoneLower p s (xs ++ ys) → NoneLower p s ys
unfolding NoneLower
none_right p s [] ys h = h
none_right p s (x ∷ xs) ys h = none_right p s xs ys h.1

none_among : (p : Parts) (s : State) (gone : ℕ) (cs : List Chain) (d : Chain) → NoneLower p s (map (try_at gone) cs)
    → Among d cs → are_lower (totals_at p d.state) (totals_at p s) ≡ false
unfolding NoneLower
none_among p s gone [] d h k = absurd k
none_among p s gone (c ∷ cs) d h (inl e) = ap (λ x. are_lower (totals_at p x.state) (totals_at p s)) e ∙ h.0
none_among p s gone (c ∷ cs) d h (inr k) = none_among p s gone cs d h.1 k

none_tries : (p : Parts) (s : State) (v gone n k : ℕ) → NoneLower p s (tries_from p s v gone n) → gone < k
    → k ≤ gone + n → (d : Chain) → Among d (chains p s v k) → are_lower (totals_at p d.state) (totals_at p s) ≡ false
unfolding tries_from
none_tries p s v gone zero k h a b d m = absurd (omega arith)
none_tries p s v gone (suc n) k h a b d m =
    elim (cases_eq k (gone + 1)) [
      | inl e ↦ none_among p s gone (chains p s v (gone + 1)) d (none_left p s _ _ h)
          (let P : ℕ → Type 0 = λ j. Among d (chains p s v j) in subst P e m)
      | inr f ↦ none_tries p s v (gone + 1) n k (none_right p s (map (try_at gone) (chains p s v (gone + 1))) _ h)
          (omega arith) (omega arith) d m
    ]

-- what stands before a try of all that is to be looked at
record Stands (p : Parts) (s : State) (v gone n : ℕ) (x : Try) : Type 0 where
  from : gone ≤ x.gone
  below : x.gone < gone + n
  settled : (k : ℕ) → gone < k → k ≤ x.gone → (d : Chain) → Among d (chains p s v k)
      → are_lower (totals_at p d.state) (totals_at p s) ≡ false

stands : (p : Parts) (s : State) (v gone n : ℕ) (pre : List Try) (x : Try) (post : List Try)
    → tries_from p s v gone n ≡ pre ++ (x ∷ post) → NoneLower p s pre → Stands p s v gone n x
unfolding tries_from
stands p s v gone zero [] x post e h = absurd (let q : ⊥ = cc in q)
stands p s v gone zero (y ∷ pre) x post e h = absurd (let q : ⊥ = cc in q)
stands p s v gone (suc n) pre x post e h =
    let cs = chains p s v (gone + 1) in
    elim (place_of (map (try_at gone) cs) (tries_from p s v (gone + 1) n) pre x post e) [
      | before a l ↦
          let same : x.gone ≡ gone = ap (λ (y : Try). y.gone) (among_map gone x cs a).2 in
          record {
            from = omega (arith, same);
            below = omega (arith, same);
            settled =
                λ k f g d m. absurd (omega (arith, f, g, same));
          }
      | behind more f g ↦
          let all : NoneLower p s (map (try_at gone) cs ++ more) = subst (NoneLower p s) f h in
          let rest = stands p s v (gone + 1) n more x post g (none_right p s (map (try_at gone) cs) more all) in
          let up = rest.from in
          let down = rest.below in
          record {
            from = omega (arith, up);
            below = omega (arith, down);
            settled = λ k a b d m. elim (cases_eq k (gone + 1)) [
              | inl q ↦ none_among p s gone cs d (none_left p s _ _ all)
                  (let P : ℕ → Type 0 = λ j. Among d (chains p s v j) in subst P q m)
              | inr q ↦ rest.settled k (omega (arith, a, q)) b d m
            ];
          }
    ]

-- a state of which no chain of a length is lower is settled to that length
settles : (p : Parts) (s : State) (v k : ℕ) → (0 < k → (d : Chain) → Among d (chains p s v k)
    → are_lower (totals_at p d.state) (totals_at p s) ≡ false) → IsSettled p s k
settles p s v k h e es d l chain = h (omega (arith, l)) d (in_chains p s v k e es d l chain)

all_settled : (p : Parts) (s : State) (v depth : ℕ) (pre : List Try) → tries_from p s v 0 depth ≡ pre ++ []
    → NoneLower p s pre → IsSettled p s depth
all_settled p s v depth pre e h =
    let all : NoneLower p s (tries_from p s v 0 depth) = subst (NoneLower p s) (sym (e ∙ append-nil pre)) h in
    settles p s v depth (λ pos. none_tries p s v 0 depth depth all pos (omega arith))

none_more : (p : Parts) (s : State) (pre : List Try) (x : Try) → NoneLower p s pre
    → are_lower (totals_at p x.state) (totals_at p s) ≡ false → NoneLower p s (pre ++ (x ∷ []))
unfolding NoneLower
none_more p s [] x h e = (e, tt)
none_more p s (y ∷ pre) x h e = (h.0, none_more p s pre x h.1 e)

-- a run that looked at some of what is ahead in vain
run_true : (p : Parts) (depth v n a t budget : ℕ) (s : State) (pre xs : List Try) → tries_from p s v 0 depth ≡ pre ++ xs
    → NoneLower p s pre → t + n ≡ budget
    → IsTrueOf p depth budget (run p depth v n a t s xs).state (run p depth v n a t s xs).outcome
unfolding run NoneLower
run_true p depth v zero a t budget s pre [] e h q = (all_settled p s v depth pre e h, omega (arith, q), tt)
run_true p depth v zero a t budget s pre (x ∷ xs) e h q =
    let at = stands p s v 0 depth pre x xs e h in (
      settles p s v x.gone (λ pos. at.settled x.gone pos (omega arith)),
      omega (arith, q),
      let l = at.below in
          omega (arith, l),
    )
run_true p depth v (suc n) a t budget s pre [] e h q = (all_settled p s v depth pre e h, omega (arith, q), tt)
run_true p depth v (suc n) a t budget s pre (x ∷ xs) e h q =
    by (are_lower (totals_at p x.state) (totals_at p s)) refl
    (run_true p depth v n (a + 1) (t + 1) budget x.state [] (tries_from p x.state v 0 depth) refl nothing
    (omega (arith, q)))
    (λ f. run_true p depth v n a (t + 1) budget s (pre ++ (x ∷ [])) xs (e ∙ sym (append_assoc pre (x ∷ []) xs))
    (none_more p s pre x h f) (omega (arith, q)))
  where
    nothing : NoneLower p x.state []
    nothing = tt

    IsTrue : Repaired → Type 0
    IsTrue r = IsTrueOf p depth budget r.state r.outcome

    by : (b : Bool) → are_lower (totals_at p x.state) (totals_at p s) ≡ b
        → IsTrue (run p depth v n (a + 1) (t + 1) x.state (tries_from p x.state v 0 depth))
        → (are_lower (totals_at p x.state) (totals_at p s) ≡ false → IsTrue (run p depth v n a (t + 1) s xs))
        → IsTrue (cond b (run p depth v n (a + 1) (t + 1) x.state (tries_from p x.state v 0 depth))
        (run p depth v n a (t + 1) s xs))
    by true f g k = g
    by false f g k = k f

pub repaired_true : (p : Parts) (s : State) (depth budget v : ℕ)
    → IsTrueOf p depth budget (repaired p s depth budget v).state (repaired p s depth budget v).outcome
unfolding repaired NoneLower
repaired_true p s depth budget v = run_true p depth v budget 0 0 budget s [] (tries_from p s v 0 depth) refl tt
    (omega arith)

-- as a caller of the exact repair reads it
pub no_worse_by : (p : Parts) (s u : State) (d b v : ℕ) (o : Outcome) → o ≡ (repaired p s d b v).outcome
    → u ≡ (repaired p s d b v).state → IsNoWorse p s u (accepted_of o)
no_worse_by p s u d b v o e f =
    let P : State → Type 0 = λ x. IsNoWorse p s x (accepted_of o) in
    let Q : Outcome → Type 0 = λ y. IsNoWorse p s (repaired p s d b v).state (accepted_of y) in
    subst P (sym f) (subst Q (sym e) (repaired_comes p s d b v))

pub true_by : (p : Parts) (s u : State) (d b v : ℕ) (o : Outcome) → o ≡ (repaired p s d b v).outcome
    → u ≡ (repaired p s d b v).state → IsTrueOf p d b u o
true_by p s u d b v o e f =
    let P : State → Type 0 = λ x. IsTrueOf p d b x o in
    let Q : Outcome → Type 0 = λ y. IsTrueOf p d b (repaired p s d b v).state y in
    subst P (sym f) (subst Q (sym e) (repaired_true p s d b v))

pub both_ok : {A E : Type 0} (P Q R : A → Type 0) (r : Result A E) → IfOk r P → IfOk r Q → ((x : A) → P x → Q x → R x)
    → IfOk r R
both_ok P Q R (Ok x) p q f = f x p q
both_ok P Q R (Err e) p q f = tt

pub by_result : {A E : Type 0} (X P Q : Type 0) (r : Result A E) → IfOk r (λ _. P) → OnErr r Q → (P → X) → (Q → X) → X
by_result X P Q (Ok x) p q f g = f p
by_result X P Q (Err e) p q f g = g q
