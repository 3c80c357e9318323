-- What is asked of the marks of a play of any states: what is made of it, and the answer.
use Rattle.std.proofs.Common.{ℕ, ◌≡◌, ◌↔◌, ◌<◌, ◌≤◌, ◌-◌, ◌⊎◌, inl, inr, zero, suc, Bool, false, cond}
use Rattle.std.proofs.Common.{Option, Some, None, Result, Ok, Err, List, [], ◌∷◌, drop, length, map, refl, sym}
use Rattle.std.proofs.Common.{ap, subst, ◌∙◌, arith}
use Rattle.std.specs.Prelude.{◌==◌, ◌||◌, nat_lt, OnOk, OnErr, IfErr}
use Rattle.std.proofs.lemmas.Bool.{eq-eqb, ne_eqb, le-ltb, lt-ltb}
use Rattle.std.proofs.lemmas.List.{length-drop, length-map}
use Rattle.khe_base.specs.declared.limits.TheConstants.{MARKS}
use Rattle.khe_told.specs.declared.refusals.Refusal.{Refusal}
use Rattle.khe_told.specs.declared.refusals.Refusal.TheVariants.{NoMark, MarksFull}
use Rattle.edit_script.specs.declared.commands.Command.TheVariants as command
use Rattle.script_run.specs.Answers.{refusal_of}
use Rattle.script_run.specs.Plays.{PlayOf, begin_refusal, last_refusal, mark_refusal, marked, restored, saved_to, unless}

pub ok_err : (v : Unit {0}) (r : Refusal) → Ok v ≡ Err r → ⊥
ok_err v r k = let g : ⊥ = cc in g

abbrev pub IsEmpty : {A : Type 0} → List A → Type 0
IsEmpty [] = Unit {0}
IsEmpty (x ∷ xs) = ⊥

-- a mark more
pub full_answer : {S : Type 0} (saved : List S) (r : Result (Unit {0}) Refusal)
    → ((r ≡ Err MarksFull) ↔ (length saved ≡ MARKS)) → IfErr r (λ x. x ≡ MarksFull)
    → refusal_of r ≡ begin_refusal saved
full_answer saved (Ok u) full only = sym (ap (λ b. cond b (Some MarksFull) None)
    (ne_eqb (length saved) MARKS (λ e. ok_err u MarksFull (full.1 e))))
full_answer saved (Err x) full only = ap Some only
    ∙ sym (ap (λ b. cond b (Some MarksFull) None) (eq-eqb (length saved) MARKS (full.0 (ap Err only))))

-- the last mark
pub none_answer : {S : Type 0} (saved : List S) (r : Result (Unit {0}) Refusal) → ((r ≡ Err NoMark) ↔ (saved ≡ []))
    → IfErr r (λ x. x ≡ NoMark) → refusal_of r ≡ last_refusal saved
none_answer [] (Ok u) none only = absurd (ok_err u NoMark (none.1 refl))
none_answer [] (Err x) none only = ap Some only
none_answer (y ∷ ys) (Ok u) none only = refl
none_answer (y ∷ ys) (Err x) none only = absurd (subst IsEmpty (sym (none.0 (ap Err only))) tt)

-- the mark with a number
abbrev or_none : Bool → Option Refusal
or_none b = cond b (Some NoMark) None

within_marks : (k n : ℕ) → 1 ≤ k → k ≤ n → or_none ((k == 0) || nat_lt n k) ≡ None
within_marks zero n l m = absurd (omega (arith, l))
within_marks (suc k) n l m = let z : (suc k == 0) ≡ false = ne_eqb (suc k) 0 (λ e. omega (arith, e)) in
    ap (λ b. or_none (b || nat_lt n (suc k))) z ∙ ap or_none (le-ltb n (suc k) m)

beyond_marks : (k n : ℕ) → (k < 1) ⊎ (n < k) → or_none ((k == 0) || nat_lt n k) ≡ Some NoMark
beyond_marks zero n h = refl
beyond_marks (suc k) n (inl h) = absurd (omega (arith, h))
beyond_marks (suc k) n (inr h) = let z : (suc k == 0) ≡ false = ne_eqb (suc k) 0 (λ e. omega (arith, e)) in
    ap (λ b. or_none (b || nat_lt n (suc k))) z ∙ ap or_none (lt-ltb n (suc k) h)

pub number_answer : {S : Type 0} (k : ℕ) (saved : List S) (r : Result (Unit {0}) Refusal)
    → OnOk r ((1 ≤ k) × (k ≤ length saved)) → IfErr r (λ x. (x ≡ NoMark) × ((k < 1) ⊎ (length saved < k)))
    → refusal_of r ≡ mark_refusal k saved
number_answer k saved (Ok u) ok err = sym (within_marks k (length saved) ok.0 ok.1)
number_answer k saved (Err x) ok err = ap Some err.0 ∙ sym (beyond_marks k (length saved) err.1)

-- the answers look at how many states are saved, and not at these
pub full_mapped : {S T : Type 0} (f : S → T) (saved : List S) → begin_refusal saved ≡ begin_refusal (map f saved)
full_mapped f saved = ap (λ n. cond (n == MARKS) (Some MarksFull) None) (sym (length-map saved f))

pub none_mapped : {S T : Type 0} (f : S → T) (saved : List S) → last_refusal saved ≡ last_refusal (map f saved)
none_mapped f [] = refl
none_mapped f (x ∷ xs) = refl

pub number_mapped : {S T : Type 0} (f : S → T) (k : ℕ) (saved : List S)
    → mark_refusal k saved ≡ mark_refusal k (map f saved)
number_mapped f k saved = ap (λ n. or_none ((k == 0) || nat_lt n k)) (sym (length-map saved f))

-- what is made of the play
pub marked_begin : {S : Type 0} (w v : PlayOf S) (r : Result (Unit {0}) Refusal)
    → ((r ≡ Err MarksFull) ↔ (length w.saved ≡ MARKS)) → IfErr r (λ x. x ≡ MarksFull) → v.state ≡ w.state
    → OnOk r (v.saved ≡ w.state ∷ w.saved) → OnErr r (v.saved ≡ w.saved) → v ≡ marked w command.Begin
marked_begin w v (Ok u) full only s ok err = (λ i. record { state = s i; saved = ok i })
    ∙ ap (λ o. unless o w (record w { saved = w.state ∷ w.saved })) (full_answer w.saved (Ok u) full only)
marked_begin w v (Err x) full only s ok err = (λ i. record { state = s i; saved = err i })
    ∙ ap (λ o. unless o w (record w { saved = w.state ∷ w.saved })) (full_answer w.saved (Err x) full only)

pub marked_end : {S : Type 0} (w v : PlayOf S) → v.state ≡ w.state → v.saved ≡ drop 1 w.saved
    → v ≡ marked w command.End
marked_end w v s e = λ i. record { state = s i; saved = e i }

pub marked_undo : {S : Type 0} (w v : PlayOf S) (r : Result (Unit {0}) Refusal) → ((r ≡ Err NoMark) ↔ (w.saved ≡ []))
    → IfErr r (λ x. x ≡ NoMark)
    → OnOk r ((x : S) (xs : List S) → w.saved ≡ x ∷ xs → (v.state ≡ x) × (v.saved ≡ w.saved)) → OnErr r (v ≡ w)
    → v ≡ marked w command.Undo
marked_undo {S} w v r none only ok err = by w.saved refl r none only ok err
  where
    by : (xs : List S) → w.saved ≡ xs → (r : Result (Unit {0}) Refusal) → ((r ≡ Err NoMark) ↔ (w.saved ≡ []))
        → IfErr r (λ x. x ≡ NoMark)
        → OnOk r ((x : S) (xs : List S) → w.saved ≡ x ∷ xs → (v.state ≡ x) × (v.saved ≡ w.saved)) → OnErr r (v ≡ w)
        → v ≡ restored w xs
    by [] e (Ok u) none only ok err = absurd (ok_err u NoMark (none.1 e))
    by [] e (Err x) none only ok err = err
    by (x ∷ xs) e (Ok u) none only ok err = let h = ok x xs e in
        let saved = h.1 ∙ e in
        λ i. record { state = h.0 i; saved = saved i }
    by (x ∷ xs) e (Err y) none only ok err = absurd (subst IsEmpty (sym (none.0 (ap Err only)) ∙ e) tt)

some_left : {S : Type 0} (k : ℕ) (saved : List S) → 1 ≤ k → k ≤ length saved → saved_to k saved ≡ [] → ⊥
some_left k saved l m e =
    let n = length-drop (length saved - k) saved in
    let z : length (drop (length saved - k) saved) ≡ 0 = ap length e in
    omega (arith, n, z, l, m)

pub marked_number : {S : Type 0} (k : ℕ) (w v : PlayOf S) (r : Result (Unit {0}) Refusal)
    → OnOk r ((1 ≤ k) × (k ≤ length w.saved)) → IfErr r (λ x. (x ≡ NoMark) × ((k < 1) ⊎ (length w.saved < k)))
    → OnOk r ((x : S) (xs : List S) → saved_to k w.saved ≡ x ∷ xs → v.state ≡ x)
    → OnOk r (v.saved ≡ saved_to k w.saved) → OnErr r (v ≡ w) → v ≡ marked w (command.UndoTo k)
marked_number {S} k w v (Ok u) ok err state saved same = by (saved_to k w.saved) refl
    ∙ ap (λ o. unless o w (restored w (saved_to k w.saved))) (number_answer k w.saved (Ok u) ok err)
  where
    by : (xs : List S) → saved_to k w.saved ≡ xs → v ≡ restored w xs
    by [] e = absurd (some_left k w.saved ok.0 ok.1 e)
    by (x ∷ xs) e = let s = state x xs e in let g = saved ∙ e in λ i. record { state = s i; saved = g i }
marked_number k w v (Err x) ok err state saved same = same
    ∙ ap (λ o. unless o w (restored w (saved_to k w.saved))) (number_answer k w.saved (Err x) ok err)
