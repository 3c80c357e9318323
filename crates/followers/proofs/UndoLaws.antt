-- Undoing to a mark that is not the innermost one.
use Rattle.std.proofs.Common.{ℕ, zero, suc, ◌≡◌, ◌+◌, ◌-◌, ◌≤◌, List, [], ◌∷◌, ◌++◌, Option, drop, length, refl, sym, ap, subst, ◌∙◌, arith}
use Rattle.std.proofs.lemmas.List.{drop-drop, length-drop}
use Rattle.undo_paths.specs.Stack.{inner, outer, without_mark}
use Rattle.khe_instance.specs.declared.parts.Parts.{Parts}
use Rattle.khe_engine.specs.States.{State}
use Rattle.khe_engine.specs.Worlds as engine
use Rattle.khe_engine.specs.Worlds.{Saved, around, fresh}
use Rattle.followers.specs.Records.{AllTied, AreWithin, IsKept, saved_of, states_of, undone_all, with_ties}
use Rattle.followers.specs.Ties.{IsTied, TiedState}
use Rattle.followers.specs.Worlds.{from_mark, last_saved as last_saved_of}
use Rattle.followers.specs.declared.edits.Tie.{Tie}
use Rattle.followers.specs.declared.records.Before.{Before}
use Rattle.followers.proofs.MarkLaws.{long_saved, long_states, undone_within}

-- the innermost mark is undone and closed
fallen : (since since2 : List (List Before)) → 2 ≤ length since → inner since2 ≡ [] → outer since2 ≡ outer since
    → length since2 ≡ length since → without_mark since2 ≡ outer since
fallen since [] l i o n = absurd (omega (arith, l, n))
fallen since (bs ∷ []) l i o n = absurd (omega (arith, l, n))
fallen since (bs ∷ next ∷ rest) l i o n = ap (λ x. (x ++ next) ∷ rest) i ∙ o

pub fall_saved : (ties ties2 : List (Option Tie)) (states : List State) (since since2 since3 : List (List Before))
    → 2 ≤ length since → ties2 ≡ undone_all ties (inner since) → inner since2 ≡ [] → outer since2 ≡ outer since
    → length since2 ≡ length since → since3 ≡ without_mark since2 → length states ≡ length since
    → saved_of ties2 (drop 1 states) since3 ≡ drop 1 (saved_of ties states since)
fall_saved ties ties2 states since since2 since3 l b i o n w e =
    ap (saved_of ties2 (drop 1 states)) (w ∙ fallen since since2 l i o n)
    ∙ ap (λ t. saved_of t (drop 1 states) (outer since)) b ∙ by states since e
  where
    by : (states : List State) (since : List (List Before)) → length states ≡ length since
        → saved_of (undone_all ties (inner since)) (drop 1 states) (outer since) ≡ drop 1 (saved_of ties states since)
    by [] since e = refl
    by (s ∷ more) [] e = absurd (omega (arith, e))
    by (s ∷ more) (bs ∷ rest) e = refl

within_outer : (n : ℕ) (since : List (List Before)) → AreWithin n since → AreWithin n (outer since)
within_outer n [] w = tt
within_outer n (bs ∷ rest) w = w.1

pub fall_within : (n m : ℕ) (since since2 since3 : List (List Before)) → 2 ≤ length since → inner since2 ≡ []
    → outer since2 ≡ outer since → length since2 ≡ length since → since3 ≡ without_mark since2 → m ≡ n
    → AreWithin n since → AreWithin m since3
fall_within n m since since2 since3 l i o k w e a = subst (AreWithin m) (sym (w ∙ fallen since since2 l i o k))
    (subst (λ x. AreWithin x (outer since)) (sym e) (within_outer n since a))

pub fall_marks : (since since2 since3 : List (List Before)) → 2 ≤ length since → inner since2 ≡ []
    → outer since2 ≡ outer since → length since2 ≡ length since → since3 ≡ without_mark since2
    → length since3 + 1 ≡ length since
fall_marks since since2 since3 l i o n w = let h : length since3 ≡ length (outer since) = ap length (w ∙ fallen since since2 l i o n) in
    by since l h
  where
    by : (since : List (List Before)) → 2 ≤ length since → length since3 ≡ length (outer since) → length since3 + 1 ≡ length since
    by [] l h = absurd (omega (arith, l))
    by (bs ∷ rest) l h = omega (arith, h)

-- one mark less
pub one_fall : (ties0 ties ties2 : List (Option Tie)) (states : List State) (since0 since since2 : List (List Before))
    → length states ≡ length since0 → length since2 + 1 ≡ length since → length since ≤ length since0
    → ((xs : List State) → length xs ≡ length since → saved_of ties2 (drop 1 xs) since2 ≡ drop 1 (saved_of ties xs since))
    → saved_of ties (drop (length since0 - length since) states) since
    ≡ drop (length since0 - length since) (saved_of ties0 states since0)
    → saved_of ties2 (drop (length since0 - length since2) states) since2
    ≡ drop (length since0 - length since2) (saved_of ties0 states since0)
one_fall ties0 ties ties2 states since0 since since2 e n l one v =
    let d = length since0 - length since in
    let up : length since0 - length since2 ≡ d + 1 = omega (arith, n, l) in
    let m : length (drop d states) ≡ length since = let x = length-drop d states in omega (arith, x, e, l) in
    ap (λ x. saved_of ties2 (drop x states) since2) up
    ∙ ap (λ xs. saved_of ties2 xs since2) (sym (drop_more d states))
    ∙ one (drop d states) m
    ∙ ap (drop 1) v
    ∙ drop_more d (saved_of ties0 states since0)
    ∙ ap (λ x. drop x (saved_of ties0 states since0)) (sym up)
  where
    drop_more : {A : Type 0} (d : ℕ) (xs : List A) → drop 1 (drop d xs) ≡ drop (d + 1) xs
    drop_more d xs = drop-drop 1 d xs

-- the mark that is left
pub last_saved : (ties ties2 : List (Option Tie)) (states : List State) (since since2 : List (List Before))
    → length states ≡ length since → ties2 ≡ undone_all ties (inner since) → inner since2 ≡ [] → outer since2 ≡ outer since
    → length since2 ≡ length since → saved_of ties2 states since2 ≡ saved_of ties states since
last_saved ties ties2 [] since since2 e b i o n = refl
last_saved ties ties2 (s ∷ more) [] since2 e b i o n = absurd (omega (arith, e))
last_saved ties ties2 (s ∷ more) (bs ∷ rest) [] e b i o n = absurd (omega (arith, n))
last_saved ties ties2 (s ∷ more) (bs ∷ rest) (cs ∷ left) e b i o n =
    ap (λ ys. with_ties s (undone_all ties2 ys) ∷ saved_of (undone_all ties2 ys) more left) i
    ∙ (λ j. with_ties s (b j) ∷ saved_of (b j) more (o j))

pub last_within : (n m : ℕ) (since since2 : List (List Before)) → inner since2 ≡ [] → outer since2 ≡ outer since → m ≡ n
    → AreWithin n since → AreWithin m since2
last_within n m since since2 i o e w = subst (λ x. AreWithin x since2) (sym e) (undone_within n [] since since2 i o w)

-- a mark is gone back to, of the engine and of the ties
pub record IsBackTo (k : ℕ) (s s2 : State) (ties ties2 : List (Option Tie)) (saved saved2 : List Saved)
    (since since2 : List (List Before)) : Type 0 where
  pub least : 1 ≤ k
  pub most : k ≤ length saved
  pub state : s2 ≡ engine.last_saved s (engine.from_mark k saved)
  pub engine : saved2 ≡ fresh s2 ∷ around (engine.from_mark k saved)
  pub ties_ : (states : List State) → length states ≡ length since
      → saved_of ties2 (drop (length since - k) states) since2 ≡ drop (length since - k) (saved_of ties states since)
  pub within : AreWithin (length ties2) since2
  pub inner_ : inner since2 ≡ []
  pub marks : length since2 ≡ k

map_drop : (n : ℕ) (xs : List Saved) → states_of (drop n xs) ≡ drop n (states_of xs)
map_drop zero xs = refl
map_drop (suc n) [] = refl
map_drop (suc n) (x ∷ xs) = map_drop n xs

same_to : (s s2 : State) (xs saved2 : List Saved) → 1 ≤ length xs → s2 ≡ engine.last_saved s xs
    → saved2 ≡ fresh s2 ∷ around xs → states_of saved2 ≡ states_of xs
same_to s s2 [] saved2 l e f = absurd (omega (arith, l))
same_to s s2 (x ∷ xs) saved2 l e f = ap states_of f ∙ ap (λ t. t ∷ states_of xs) e

pub states_to : (p : Parts) (k : ℕ) (s s2 : State) (ties ties2 : List (Option Tie)) (saved saved2 : List Saved)
    (since since2 : List (List Before)) → IsKept p s ties (states_of saved) since
    → IsBackTo k s s2 ties ties2 saved saved2 since since2
    → states_of saved2 ≡ drop (length since - k) (states_of saved)
states_to p k s s2 ties ties2 saved saved2 since since2 h b =
    let n : length saved ≡ length since = sym (long_states saved) ∙ h.steps in
    let left : 1 ≤ length (engine.from_mark k saved) =
    let x = length-drop (length saved - k) saved in let a = b.least in let c = b.most in omega (arith, x, a, c) in
    same_to s s2 (engine.from_mark k saved) saved2 left b.state b.engine
    ∙ map_drop (length saved - k) saved ∙ ap (λ m. drop (m - k) (states_of saved)) n

pub saved_to : (p : Parts) (k : ℕ) (s s2 : State) (ties ties2 : List (Option Tie)) (saved saved2 : List Saved)
    (since since2 : List (List Before)) → IsKept p s ties (states_of saved) since
    → IsBackTo k s s2 ties ties2 saved saved2 since since2
    → saved_of ties2 (states_of saved2) since2 ≡ from_mark k (saved_of ties (states_of saved) since)
saved_to p k s s2 ties ties2 saved saved2 since since2 h b =
    let long : length (saved_of ties (states_of saved) since) ≡ length since
    = long_saved ties (states_of saved) since h.steps ∙ h.steps in
    ap (λ xs. saved_of ties2 xs since2) (states_to p k s s2 ties ties2 saved saved2 since since2 h b)
    ∙ b.ties_ (states_of saved) h.steps
    ∙ ap (λ m. drop (m - k) (saved_of ties (states_of saved) since)) (sym long)

head_is : (t s : TiedState) (s2 : State) (ties2 : List (Option Tie)) (states : List State) (since2 : List (List Before))
    → inner since2 ≡ [] → 1 ≤ length since2 → (ts : List TiedState) → saved_of ties2 (s2 ∷ states) since2 ≡ ts
    → with_ties s2 ties2 ≡ last_saved_of t ts
head_is t s s2 ties2 states [] i l ts e = absurd (omega (arith, l))
head_is t s s2 ties2 states (bs ∷ rest) i l ts e = ap (λ ys. with_ties s2 (undone_all ties2 ys)) (sym i)
    ∙ ap (last_saved_of t) e

pub now_to : (p : Parts) (k : ℕ) (s s2 : State) (ties ties2 : List (Option Tie)) (saved saved2 : List Saved)
    (since since2 : List (List Before)) → IsKept p s ties (states_of saved) since
    → IsBackTo k s s2 ties ties2 saved saved2 since since2
    → with_ties s2 ties2 ≡ last_saved_of (with_ties s ties) (from_mark k (saved_of ties (states_of saved) since))
now_to p k s s2 ties ties2 saved saved2 since since2 h b =
    let l : 1 ≤ length since2 = let a = b.least in let m = b.marks in omega (arith, a, m) in
    head_is (with_ties s ties) (with_ties s ties) s2 ties2 (states_of (around (engine.from_mark k saved))) since2 b.inner_ l
    (from_mark k (saved_of ties (states_of saved) since))
    (ap (λ xs. saved_of ties2 (states_of xs) since2) (sym b.engine) ∙ saved_to p k s s2 ties ties2 saved saved2 since since2 h b)

tied_drop : (p : Parts) (n : ℕ) (ts : List TiedState) → AllTied p ts → AllTied p (drop n ts)
tied_drop p zero ts a = a
tied_drop p (suc n) [] a = tt
tied_drop p (suc n) (t ∷ ts) a = tied_drop p n ts a.1

tied_last : (p : Parts) (t : TiedState) (ts : List TiedState) → IsTied p t → AllTied p ts → IsTied p (last_saved_of t ts)
tied_last p t [] h a = h
tied_last p t (x ∷ xs) h a = a.0

pub kept_to : (p : Parts) (k : ℕ) (s s2 : State) (ties ties2 : List (Option Tie)) (saved saved2 : List Saved)
    (since since2 : List (List Before)) → IsKept p s ties (states_of saved) since
    → IsBackTo k s s2 ties ties2 saved saved2 since since2 → IsKept p s2 ties2 (states_of saved2) since2
kept_to p k s s2 ties ties2 saved saved2 since since2 h b =
    let old = saved_of ties (states_of saved) since in
    let left = tied_drop p (length old - k) old h.then in
    record {
      now = subst (IsTied p) (sym (now_to p k s s2 ties ties2 saved saved2 since since2 h b))
          (tied_last p (with_ties s ties) (from_mark k old) h.now left);
      then = subst (AllTied p) (sym (saved_to p k s s2 ties ties2 saved saved2 since since2 h b)) left;
      steps =
          let x : length (states_of saved2) ≡ length (drop (length since - k) (states_of saved))
          = ap length (states_to p k s s2 ties ties2 saved saved2 since since2 h b) in
          let y = length-drop (length since - k) (states_of saved) in
          let z = h.steps in
          let m = b.marks in
          let w : k ≤ length since = subst (λ n. k ≤ n) (sym (long_states saved) ∙ h.steps) b.most in
          omega (arith, x, y, z, m, w);
      within = b.within;
    }
