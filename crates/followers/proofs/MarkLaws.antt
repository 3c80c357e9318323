-- The marks of an engine and of the records of ties, in step.
use Rattle.std.proofs.Common.{ℕ, suc, ◌≡◌, ◌≢◌, List, [], ◌∷◌, ◌++◌, Option, drop, length, refl, sym, ap, subst}
use Rattle.std.proofs.Common.{◌∙◌, arith}
use Rattle.std.proofs.lemmas.List.{length-map}
use Rattle.khe_instance.specs.declared.parts.Parts.{Parts}
use Rattle.undo_paths.specs.Stack.{inner, outer, without_mark}
use Rattle.khe_engine.specs.States.{State}
use Rattle.khe_engine.specs.Worlds.{Saved, closed, fresh}
use Rattle.followers.specs.Records.{AllTied, AllWithin, AreWithin, IsKept, IsWithin, saved_of, states_of, undone, undone_all, with_ties}
use Rattle.followers.specs.Ties.{IsTied, TiedState}
use Rattle.followers.specs.declared.edits.Tie.{Tie}
use Rattle.followers.specs.declared.records.Before.{Before}

-- the newest record goes
pub pop_marks : (since since2 : List (List Before)) (b : Before) → since ≡ (b ∷ inner since2) ∷ outer since2
    → since2 ≡ inner since2 ∷ outer since2 → length since2 ≡ length since
pop_marks since since2 b e f = ap length f ∙ sym (ap length e)

pub pop_within : (n : ℕ) (since since2 : List (List Before)) (b : Before) → since ≡ (b ∷ inner since2) ∷ outer since2
    → since2 ≡ inner since2 ∷ outer since2 → AreWithin n since → IsWithin n b × AreWithin n since2
pop_within n since since2 b e f w = let v = subst (AreWithin n) e w in (v.0.0, subst (AreWithin n) (sym f) (v.0.1, v.1))

-- how many states are saved
pub long_states : (saved : List Saved) → length (states_of saved) ≡ length saved
long_states saved = length-map saved (λ (x : Saved). x.state)

pub long_saved : (ties : List (Option Tie)) (states : List State) (since : List (List Before))
    → length states ≡ length since → length (saved_of ties states since) ≡ length states
long_saved ties [] since e = refl
long_saved ties (s ∷ more) [] e = sym e
long_saved ties (s ∷ more) (bs ∷ rest) e = let h : length more ≡ length rest = omega (arith, e) in
    ap suc (long_saved (undone_all ties bs) more rest h)

-- a mark is opened
pub kept_fresh : (p : Parts) (s : State) (ties : List (Option Tie)) (states : List State) (since : List (List Before))
    → IsKept p s ties states since → IsKept p s ties (s ∷ states) ([] ∷ since)
kept_fresh p s ties states since k = record {
  now = k.now;
  then = (k.now, k.then);
  steps = ap suc k.steps;
  within = (tt, k.within);
}

-- the records of two marks as those of one
undone_both : (ties : List (Option Tie)) (xs ys : List Before) → undone_all ties (xs ++ ys) ≡ undone_all (undone_all ties xs) ys
undone_both ties [] ys = refl
undone_both ties (x ∷ xs) ys = undone_both (undone ties x) xs ys

within_both : (n : ℕ) (xs ys : List Before) → AllWithin n xs → AllWithin n ys → AllWithin n (xs ++ ys)
within_both n [] ys a b = b
within_both n (x ∷ xs) ys a b = (a.0, within_both n xs ys a.1 b)

-- a mark is closed
pub saved_closed : (ties : List (Option Tie)) (saved : List Saved) (since : List (List Before))
    → length (states_of saved) ≡ length since
    → saved_of ties (states_of (closed saved)) (without_mark since) ≡ drop 1 (saved_of ties (states_of saved) since)
saved_closed ties [] since e = refl
saved_closed ties (x ∷ []) [] e = refl
saved_closed ties (x ∷ []) (bs ∷ since) e = refl
saved_closed ties (x ∷ y ∷ more) [] e = absurd (omega (arith, e))
saved_closed ties (x ∷ y ∷ more) (bs ∷ []) e = absurd (omega (arith, e))
saved_closed ties (x ∷ y ∷ more) (bs ∷ cs ∷ rest) e =
    ap (λ t. with_ties y.state t ∷ saved_of t (states_of more) rest) (undone_both ties bs cs)

closed_long : (saved : List Saved) (since : List (List Before)) → length (states_of saved) ≡ length since
    → length (states_of (closed saved)) ≡ length (without_mark since)
closed_long [] [] e = refl
closed_long [] (bs ∷ since) e = absurd (omega (arith, e))
closed_long (x ∷ []) [] e = absurd (omega (arith, e))
closed_long (x ∷ []) (bs ∷ []) e = refl
closed_long (x ∷ []) (bs ∷ cs ∷ since) e = absurd (omega (arith, e))
closed_long (x ∷ y ∷ more) [] e = absurd (omega (arith, e))
closed_long (x ∷ y ∷ more) (bs ∷ []) e = absurd (omega (arith, e))
closed_long (x ∷ y ∷ more) (bs ∷ cs ∷ rest) e = omega (arith, e)

closed_within : (n : ℕ) (since : List (List Before)) → AreWithin n since → AreWithin n (without_mark since)
closed_within n [] w = tt
closed_within n (bs ∷ []) w = tt
closed_within n (bs ∷ cs ∷ rest) w = (within_both n bs cs w.0 w.1.0, w.1.1)

tied_drop : (p : Parts) (ts : List TiedState) → AllTied p ts → AllTied p (drop 1 ts)
tied_drop p [] a = tt
tied_drop p (t ∷ ts) a = a.1

pub kept_closed : (p : Parts) (s : State) (ties : List (Option Tie)) (saved : List Saved) (since : List (List Before))
    → IsKept p s ties (states_of saved) since → IsKept p s ties (states_of (closed saved)) (without_mark since)
kept_closed p s ties saved since k = record {
  now = k.now;
  then = subst (AllTied p) (sym (saved_closed ties saved since k.steps))
      (tied_drop p (saved_of ties (states_of saved) since) k.then);
  steps = closed_long saved since k.steps;
  within = closed_within (length ties) since k.within;
}

-- the innermost mark is undone: of the ties, and of both
pub saved_undone : (ties ties2 : List (Option Tie)) (x : Saved) (xs : List Saved) (since since2 : List (List Before))
    → length (states_of (x ∷ xs)) ≡ length since → ties2 ≡ undone_all ties (inner since) → inner since2 ≡ []
    → outer since2 ≡ outer since → length since2 ≡ length since
    → saved_of ties2 (states_of (fresh x.state ∷ xs)) since2 ≡ saved_of ties (states_of (x ∷ xs)) since
saved_undone ties ties2 x xs [] since2 e t i o n = absurd (omega (arith, e))
saved_undone ties ties2 x xs (bs ∷ rest) [] e t i o n = absurd (omega (arith, n))
saved_undone ties ties2 x xs (bs ∷ rest) (cs ∷ more) e t i o n =
    ap (λ ys. with_ties x.state (undone_all ties2 ys) ∷ saved_of (undone_all ties2 ys) (states_of xs) more) i
    ∙ (λ j. with_ties x.state (t j) ∷ saved_of (t j) (states_of xs) (o j))

pub undone_within : (n : ℕ) (bs : List Before) (since since2 : List (List Before)) → inner since2 ≡ []
    → outer since2 ≡ outer since → AreWithin n since → AreWithin n since2
undone_within n bs since [] i o w = tt
undone_within n bs [] (cs ∷ more) i o w = (subst (AllWithin n) (sym i) tt, subst (AreWithin n) (sym o) tt)
undone_within n bs (ds ∷ rest) (cs ∷ more) i o w = (subst (AllWithin n) (sym i) tt, subst (AreWithin n) (sym o) w.1)

-- whether any state is saved
pub none_saved : (ties : List (Option Tie)) (saved : List Saved) (since : List (List Before)) → saved ≡ []
    → saved_of ties (states_of saved) since ≡ []
none_saved ties saved since e = ap (λ xs. saved_of ties (states_of xs) since) e

pub some_saved : (ties : List (Option Tie)) (saved : List Saved) (since : List (List Before))
    → length (states_of saved) ≡ length since → saved_of ties (states_of saved) since ≡ [] → saved ≡ []
some_saved ties [] since l e = refl
some_saved ties (x ∷ xs) [] l e = absurd (omega (arith, l))
some_saved ties (x ∷ xs) (bs ∷ rest) l e = let z : ⊥ = cc in absurd z

-- the innermost mark is undone, of the engine and of the ties
pub record IsUndone (ties ties2 : List (Option Tie)) (s2 : State) (saved saved2 : List Saved) (since since2 : List (List Before))
    : Type 0 where
  pub engine : (x : Saved) (xs : List Saved) → saved ≡ x ∷ xs → (s2 ≡ x.state) × (saved2 ≡ fresh x.state ∷ xs)
  pub back : ties2 ≡ undone_all ties (inner since)
  pub long : length ties2 ≡ length ties
  pub none : inner since2 ≡ []
  pub rest : outer since2 ≡ outer since
  pub marks : length since2 ≡ length since

-- its state is the saved one, and the saved ones are as they were
now_undone : (ties ties2 : List (Option Tie)) (x : Saved) (xs : List Saved) (since : List (List Before))
    → length (states_of (x ∷ xs)) ≡ length since → ties2 ≡ undone_all ties (inner since)
    → (y : TiedState) (ys : List TiedState) → saved_of ties (states_of (x ∷ xs)) since ≡ y ∷ ys
    → with_ties x.state ties2 ≡ y
now_undone ties ties2 x xs [] l b y ys e = absurd (omega (arith, l))
now_undone ties ties2 x xs (bs ∷ rest) l b y ys e = ap (with_ties x.state) b ∙ ap first_of e
  where
    first_of : List TiedState → TiedState
    first_of [] = with_ties x.state ties2
    first_of (t ∷ ts) = t

pub undone_now : (p : Parts) (s s2 : State) (ties ties2 : List (Option Tie)) (saved saved2 : List Saved)
    (since since2 : List (List Before)) → IsKept p s ties (states_of saved) since
    → IsUndone ties ties2 s2 saved saved2 since since2
    → (y : TiedState) (ys : List TiedState) → saved_of ties (states_of saved) since ≡ y ∷ ys
    → (with_ties s2 ties2 ≡ y) × (saved_of ties2 (states_of saved2) since2 ≡ saved_of ties (states_of saved) since)
undone_now p s s2 ties ties2 [] saved2 since since2 k u y ys e = let z : ⊥ = cc in absurd z
undone_now p s s2 ties ties2 (x ∷ xs) saved2 since since2 k u y ys e =
    let h = u.engine x xs refl in (
      ap (λ t. with_ties t ties2) h.0 ∙ now_undone ties ties2 x xs since k.steps u.back y ys e,
      ap (λ zs. saved_of ties2 (states_of zs) since2) h.1
          ∙ saved_undone ties ties2 x xs since since2 k.steps u.back u.none u.rest u.marks,
    )

first_tied : (p : Parts) (ties : List (Option Tie)) (x : Saved) (xs : List Saved) (since : List (List Before))
    → length (states_of (x ∷ xs)) ≡ length since → AllTied p (saved_of ties (states_of (x ∷ xs)) since)
    → IsTied p (with_ties x.state (undone_all ties (inner since)))
first_tied p ties x xs [] l a = absurd (omega (arith, l))
first_tied p ties x xs (bs ∷ rest) l a = a.0

pub kept_undone : (p : Parts) (s s2 : State) (ties ties2 : List (Option Tie)) (saved saved2 : List Saved)
    (since since2 : List (List Before)) → IsKept p s ties (states_of saved) since → saved ≢ []
    → IsUndone ties ties2 s2 saved saved2 since since2 → IsKept p s2 ties2 (states_of saved2) since2
kept_undone p s s2 ties ties2 [] saved2 since since2 k n u = absurd (n refl)
kept_undone p s s2 ties ties2 (x ∷ xs) saved2 since since2 k n u =
    let h = u.engine x xs refl in
    record {
      now = subst (λ t. IsTied p (with_ties t ties2)) (sym h.0) (subst (λ t. IsTied p (with_ties x.state t)) (sym u.back)
          (first_tied p ties x xs since k.steps k.then));
      then = subst (λ zs. AllTied p (saved_of ties2 (states_of zs) since2)) (sym h.1)
          (subst (AllTied p) (sym (saved_undone ties ties2 x xs since since2 k.steps u.back u.none u.rest u.marks)) k.then);
      steps = ap (λ zs. length (states_of zs)) h.1 ∙ k.steps ∙ sym u.marks;
      within = subst (λ m. AreWithin m since2) (sym u.long)
          (undone_within (length ties) [] since since2 u.none u.rest k.within);
    }

pub kept_end : (p p2 : Parts) (s s2 : State) (ties : List (Option Tie)) (saved saved2 : List Saved)
    (since since2 : List (List Before)) → IsKept p s ties (states_of saved) since → p2 ≡ p → s2 ≡ s
    → saved2 ≡ closed saved → since2 ≡ without_mark since → IsKept p2 s2 ties (states_of saved2) since2
kept_end p p2 s s2 ties saved saved2 since since2 k e f g h =
    subst (λ q. IsKept q s2 ties (states_of saved2) since2) (sym e)
    (subst (λ t. IsKept p t ties (states_of saved2) since2) (sym f)
    (subst (λ x. IsKept p s ties (states_of x) since2) (sym g)
    (subst (IsKept p s ties (states_of (closed saved))) (sym h) (kept_closed p s ties saved since k))))

-- another state under the same ties and marks
pub kept_after : (p q : Parts) (s s2 : State) (ties : List (Option Tie)) (states states2 : List State)
    (since : List (List Before)) → q ≡ p → states2 ≡ states → IsTied q (with_ties s2 ties) → IsKept p s ties states since
    → IsKept q s2 ties states2 since
kept_after p q s s2 ties states states2 since e f t k = record {
  now = t;
  then = subst (λ x. AllTied q (saved_of ties x since)) (sym f)
      (subst (λ r. AllTied r (saved_of ties states since)) (sym e) k.then);
  steps = ap length f ∙ k.steps;
  within = k.within;
}

pub saved_same : (ties : List (Option Tie)) (states states2 : List State) (since : List (List Before)) → states2 ≡ states
    → saved_of ties states2 since ≡ saved_of ties states since
saved_same ties states states2 since e = ap (λ x. saved_of ties x since) e
