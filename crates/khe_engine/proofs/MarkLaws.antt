-- Undoing to a mark that is not the innermost one.
use Rattle.std.proofs.Common.{ℕ, zero, suc, ◌≡◌, ◌+◌, ◌-◌, ◌<◌, ◌≤◌, List, [], ◌∷◌, ◌++◌, drop, take, length, refl, sym}
use Rattle.std.proofs.Common.{ap, ◌∙◌, arith}
use Rattle.std.proofs.lemmas.List.Sums.{sum_by-cons}
use Rattle.khe_instance.specs.declared.parts.Parts.{Parts}
use Rattle.khe_told.specs.declared.edits.Back.{Back}
use Rattle.undo_paths.specs.Stack.{without_mark, inner, outer}
use Rattle.khe_engine.specs.States.{State}
use Rattle.khe_engine.specs.Worlds.{Saved, fresh, around, last_saved, from_mark, last_cost, trail_cost, trails_cost}
use Rattle.khe_engine.specs.Records.{undone_all, saved_of}
use Rattle.khe_engine.proofs.RecordLaws.{length_saved}

-- the innermost mark is undone and closed
fallen : (since since2 : List (List Back)) → 2 ≤ length since → inner since2 ≡ [] → outer since2 ≡ outer since
    → length since2 ≡ length since → without_mark since2 ≡ outer since
fallen since [] l i o n = absurd (omega (arith, l, n))
fallen since (bs ∷ []) l i o n = absurd (omega (arith, l, n))
fallen since (bs ∷ next ∷ rest) l i o n = ap (λ x. (x ++ next) ∷ rest) i ∙ o

pub fall_saved : (s s2 : State) (since since2 : List (List Back)) → 2 ≤ length since → s2 ≡ undone_all s (inner since)
    → inner since2 ≡ [] → outer since2 ≡ outer since → length since2 ≡ length since
    → saved_of s2 (without_mark since2) ≡ around (saved_of s since)
fall_saved s s2 since since2 l e i o n = ap (saved_of s2) (fallen since since2 l i o n)
    ∙ ap (λ x. saved_of x (outer since)) e ∙ there_rest s since
  where
    there_rest : (s : State) (since : List (List Back))
        → saved_of (undone_all s (inner since)) (outer since) ≡ around (saved_of s since)
    there_rest s [] = refl
    there_rest s (bs ∷ rest) = refl

pub fall_marks : (since : List (List Back)) → 2 ≤ length since → length (without_mark since) + 1 ≡ length since
fall_marks [] l = absurd (omega (arith, l))
fall_marks (bs ∷ []) l = absurd (omega (arith, l))
fall_marks (bs ∷ next ∷ rest) l = omega arith

-- from a mark on, one mark less
pub from_more : (k : ℕ) (xs : List Saved) → k < length xs → from_mark k (around xs) ≡ from_mark k xs
from_more k [] l = absurd (omega (arith, l))
from_more k (x ∷ xs) l = let e : suc (length xs) - k ≡ suc (length xs - k) = omega (arith, l) in
    sym (ap (λ n. drop n (x ∷ xs)) e)

from_all : (k : ℕ) (xs : List Saved) → k ≡ length xs → from_mark k xs ≡ xs
from_all k xs e = let z : length xs - k ≡ 0 = omega (arith, e) in ap (λ n. drop n xs) z

-- the innermost mark is the k-th
pub to_state : (k : ℕ) (s s2 : State) (since : List (List Back)) → 1 ≤ k → k ≡ length since
    → s2 ≡ undone_all s (inner since) → (t : State) → s2 ≡ last_saved t (from_mark k (saved_of s since))
to_state k s s2 [] l e h t = absurd (omega (arith, l, e))
to_state k s s2 (bs ∷ rest) l e h t = h ∙ sym
    (ap (last_saved t) (from_all k (saved_of s (bs ∷ rest)) (e ∙ sym (length_saved s (bs ∷ rest)))))

pub to_saved : (k : ℕ) (s s2 : State) (since since2 : List (List Back)) → 1 ≤ k → k ≡ length since
    → s2 ≡ undone_all s (inner since) → inner since2 ≡ [] → outer since2 ≡ outer since → length since2 ≡ length since
    → saved_of s2 since2 ≡ fresh s2 ∷ around (from_mark k (saved_of s since))
to_saved k s s2 [] since2 l e h i o n = absurd (omega (arith, l, e))
to_saved k s s2 (bs ∷ rest) [] l e h i o n = absurd (omega (arith, n))
to_saved k s s2 (bs ∷ rest) (cs ∷ more) l e h i o n =
    (λ j. saved_of s2 (i j ∷ o j)) ∙ ap (λ x. fresh s2 ∷ saved_of x rest) h
    ∙ sym (ap (λ x. fresh s2 ∷ around x) (from_all k (saved_of s (bs ∷ rest))
    (e ∙ sym (length_saved s (bs ∷ rest)))))

-- the cost of one mark more
pub trails_more : (p : Parts) (n : ℕ) (xs : List Saved) → 0 < n
    → trails_cost p n xs ≡ last_cost p xs + trails_cost p (n - 1) (around xs)
trails_more p n [] l = let a = none n in let b = none (n - 1) in omega (arith, a, b)
  where
    none : (m : ℕ) → trails_cost p m [] ≡ 0
    none zero = refl
    none (suc m) = refl
trails_more p n (x ∷ xs) l =
    let e : n ≡ suc (n - 1) = omega (arith, l) in
    ap (λ m. trails_cost p m (x ∷ xs)) e ∙ sum_by-cons (trail_cost p) x (take (n - 1) xs)
