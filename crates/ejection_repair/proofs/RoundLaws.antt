-- Lists that are begun inside and taken round.
use Rattle.std.proofs.Common.{ℕ, zero, suc, ◌≡◌, ◌+◌, ◌<◌, ◌≤◌, ◌%◌, List, [], ◌∷◌, ◌++◌, length, take, drop, refl, ap}
use Rattle.std.proofs.Common.{◌∙◌, sym, subst, arith, false, min, length-drop, add-one, append-nil}
use Rattle.std.proofs.Math.Nat.{mod-eq_of_lt}
use Rattle.khe_instance.specs.declared.parts.Parts.{Parts}
use Rattle.khe_told.specs.declared.edits.Edit.{Edit}
use Rattle.khe_told.specs.declared.slots.Slot.{Slot}
use Rattle.repair_moves.specs.Cursors.{ahead}
use Rattle.repair_moves.specs.declared.cursors.Cursor.{Cursor}
use Rattle.ejection_repair.specs.Chains.{rotated}
use Rattle.ejection_repair.specs.Rounds.{defects_ahead, moves_ahead}
use Rattle.ejection_repair.specs.Values.{defects_from}
use Rattle.ejection_repair.specs.declared.rounds.DefectRound.{DefectRound}
use Rattle.ejection_repair.specs.declared.rounds.MoveRound.{MoveRound}

drop_at : {A : Type 0} (xs ys zs : List A) (x : A) (n : ℕ) → ys ≡ drop n xs → ys ≡ x ∷ zs
    → (zs ≡ drop (suc n) xs) × (n < length xs)
drop_at [] ys zs x zero e f = absurd (let g : ⊥ = cc in g)
drop_at [] ys zs x (suc n) e f = absurd (let g : ⊥ = cc in g)
drop_at (y ∷ xs) ys zs x zero e f = let h : (y ∷ xs) ≡ x ∷ zs = cc in (let g : zs ≡ xs = cc in g, omega arith)
drop_at (y ∷ xs) ys zs x (suc n) e f = let r = drop_at xs ys zs x n e f in (r.0, let q = r.1 in omega arith)

-- what is ahead after one more
pub drop_onto : {A : Type 0} (xs ys zs : List A) (x : A) (n : ℕ) → ys ≡ drop n xs → ys ≡ x ∷ zs
    → (zs ≡ drop (n + 1) xs) × (n + 1 ≤ length xs)
drop_onto xs ys zs x n e f = let r = drop_at xs ys zs x n e f in
    (r.0 ∙ ap (λ k. drop k xs) (sym (add-one n)), let q = r.1 in omega arith)

pub drop_done : {A : Type 0} (xs ys : List A) (n : ℕ) → ys ≡ drop n xs → ys ≡ [] → length xs ≤ n
drop_done xs ys n e f = let h : length (drop n xs) ≡ 0 = ap length (sym e ∙ f) in omega (arith, length-drop n xs, h)

-- a walk that passed as many as a number or all, and has no more
pub passed_all : {A : Type 0} (xs ys : List A) (count v : ℕ) → count ≡ min v (length xs) → v ≤ count
    → ys ≡ drop count xs → ys ≡ [] → length xs ≡ count
passed_all xs ys count v e l d n = let h = drop_done xs ys count d n in omega arith

-- a walk round a list that begins after n of its moves
pub begun_round : (p : Parts) (s : List Slot) (c f : Cursor) (n v : ℕ) (xs : List Edit) → ahead p s f ≡ xs
    → ahead p s c ≡ drop n xs → n ≡ v % length xs
    → (r : MoveRound) → r ≡ record { cursor = c; first = f; before = n; wrapped = false }
    → moves_ahead p s r ≡ rotated v xs
unfolding moves_ahead rotated
begun_round p s c f n v xs ef ec en r er =
    subst (λ r. moves_ahead p s r ≡ rotated v xs) (sym er)
    (ap (λ ys. ys ++ take n (ahead p s f)) ec ∙ ap (λ ys. drop n xs ++ take n ys) ef
    ∙ ap (λ k. drop k xs ++ take k xs) en)

nothing_round : {A : Type 0} (xs : List A) (k : ℕ) → length xs ≡ 0 → xs ≡ drop k xs ++ take k xs
nothing_round [] zero e = refl
nothing_round [] (suc k) e = refl
nothing_round (x ∷ xs) k e = absurd (omega arith)

-- of no moves
pub begun_none : (p : Parts) (s : List Slot) (f : Cursor) (v : ℕ) (xs : List Edit) → ahead p s f ≡ xs → length xs ≡ 0
    → (r : MoveRound) → r ≡ record { cursor = f; first = f; before = 0; wrapped = false }
    → moves_ahead p s r ≡ rotated v xs
unfolding moves_ahead rotated
begun_none p s f v xs e n r er =
    subst (λ r. moves_ahead p s r ≡ rotated v xs) (sym er)
    (ap (λ ys. ys ++ take 0 (ahead p s f)) e ∙ append-nil xs ∙ nothing_round xs (v % length xs) n)

-- the same for any list, in pieces
pub rotated_small : {A : Type 0} (v : ℕ) (xs : List A) → v < length xs → rotated v xs ≡ drop v xs ++ take v xs
unfolding rotated
rotated_small v xs l = ap (λ k. drop k xs ++ take k xs) (mod-eq_of_lt l)

pub rotated_at : {A : Type 0} (v n : ℕ) (xs : List A) → n ≡ v % length xs → rotated v xs ≡ drop n xs ++ take n xs
unfolding rotated
rotated_at v n xs e = ap (λ k. drop k xs ++ take k xs) (sym e)

pub rotated_nothing : {A : Type 0} (v : ℕ) (xs : List A) → length xs ≡ 0 → rotated v xs ≡ xs
unfolding rotated
rotated_nothing v xs n = sym (nothing_round xs (v % length xs) n)

-- a walk round the defects that begins after n of them
pub defects_begun : (costs : List ℕ) (from n v : ℕ) (r : DefectRound)
    → r ≡ record { from = from; before = n; wrapped = false }
    → defects_from costs from ≡ drop n (defects_from costs 0)
    → rotated v (defects_from costs 0) ≡ drop n (defects_from costs 0) ++ take n (defects_from costs 0)
    → defects_ahead costs r ≡ rotated v (defects_from costs 0)
unfolding defects_ahead
defects_begun costs from n v r er e f =
    subst (λ r. defects_ahead costs r ≡ rotated v (defects_from costs 0)) (sym er)
    (ap (λ ys. ys ++ take n (defects_from costs 0)) e ∙ sym f)

pub rotated_none : {A : Type 0} (v : ℕ) (xs : List A) → length xs ≡ 0 → rotated v xs ≡ drop 0 xs ++ take 0 xs
rotated_none v xs e = rotated_nothing v xs e ∙ sym (append-nil xs)
