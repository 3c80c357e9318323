-- Batches of solutions that follow one another, and what is made of them.
use Rattle.std.proofs.Common.{◌≡◌, ℕ, zero, suc, ◌+◌, ◌<◌, ◌≤◌, List, [], ◌∷◌, ◌++◌, length, take, drop, refl, sym, ap}
use Rattle.std.proofs.Common.{◌∙◌, ◌-◌, Some, Result, Ok, Err, IfOk, arith, append_assoc, length-drop, length-take-le}
use Rattle.std.proofs.Common.{map, slice_get, subst}
use Rattle.std.proofs.Math.Seq.{take-suc}
use Rattle.std.proofs.lemmas.List.{map-append, take-append-drop}
use Rattle.std.proofs.lemmas.Option.{get_or_from_slice_get, slice_get_within}
use Rattle.std.proofs.lemmas.List.Concat.{flat_map-cons}
use Rattle.std.specs.List.{enumerate_from, flat_map}
use Rattle.parallel_solve.proofs.CutLemmas.{get_dropped, ok_is}
use Rattle.parallel_solve.specs.Batches.{AreBatches, IsWindow, rows_from, batch_of}
use Rattle.parallel_solve.specs.Draws.{IsMade}
use Rattle.parallel_solve.specs.declared.spans.Span.{Span}
use Rattle.parallel_solve.specs.declared.jobs.Window.{Window}
use Rattle.xhstt_shape.specs.declared.records.RawSolution.{RawSolution}

drop_none : (k : ℕ) → drop {A = RawSolution} k [] ≡ []
drop_none zero = refl
drop_none (suc k) = refl

drop_more : (n k : ℕ) (xs : List RawSolution) → drop (n + k) xs ≡ drop k (drop n xs)
drop_more zero k xs = ap (λ m. drop m xs) (let z : zero + k ≡ k = omega arith in z)
drop_more (suc n) k [] = drop_none (suc n + k) ∙ sym (drop_none k)
drop_more (suc n) k (x ∷ xs) = ap (λ m. drop m (x ∷ xs)) (let z : suc n + k ≡ suc (n + k) = omega arith in z)
    ∙ drop_more n k xs

-- the rows of both parts, with their numbers
rows_both : (n : ℕ) (xs ys : List RawSolution)
    → enumerate_from n (xs ++ ys) ≡ enumerate_from n xs ++ enumerate_from (n + length xs) ys
rows_both n [] ys = ap (λ k. enumerate_from k ys) (let z : n ≡ n + zero = omega arith in z)
rows_both n (x ∷ xs) ys =
    ap (λ l. (n, x) ∷ l)
    (rows_both (n + 1) xs ys
    ∙ ap (λ k. enumerate_from (n + 1) xs ++ enumerate_from k ys)
    (let z : (n + 1) + length xs ≡ n + suc (length xs) = omega arith in z))

-- a batch, and what comes after it
pub rows_cut : (n count : ℕ) (raws : List RawSolution) → n + count ≤ length raws
    → batch_of n count raws ++ rows_from (n + count) raws ≡ rows_from n raws
rows_cut n count raws le =
    let left = drop n raws in
    let long : length (take count left) ≡ count =
    length-take-le count left (omega (arith, length-drop n raws, le)) in
    ap (λ ys. batch_of n count raws ++ enumerate_from (n + count) ys) (drop_more n count raws)
    ∙ ap (λ k. batch_of n count raws ++ enumerate_from (n + k) (drop count left)) (sym long)
    ∙ sym (rows_both n (take count left) (drop count left))
    ∙ ap (enumerate_from n) (take-append-drop count left)

-- a batch of one solution more
pub batch_more : (n k : ℕ) (raws : List RawSolution) (x : RawSolution) → slice_get raws (n + k) ≡ Some x
    → batch_of n (k + 1) raws ≡ batch_of n k raws ++ (n + k, x) ∷ []
batch_more n k raws x at =
    let left = drop n raws in
    let there : slice_get left k ≡ Some x = get_dropped raws n k x at in
    let within : k < length left = slice_get_within left k x there in
    let long : length (take k left) ≡ k = length-take-le k left (omega (arith, within)) in
    ap (λ m. enumerate_from n (take m left)) (let e : k + 1 ≡ suc k = omega arith in e)
    ∙ ap (enumerate_from n) (take-suc left k x within
    ∙ ap (λ y. take k left ++ y ∷ []) (get_or_from_slice_get left k x x there))
    ∙ rows_both n (take k left) (x ∷ [])
    ∙ ap (λ m. enumerate_from n (take k left) ++ (n + m, x) ∷ []) long

-- what is made of each solution of a batch, and of one more
pub told_more : {B : Type 0} (f : ℕ × RawSolution → B) (first number : ℕ) (raws : List RawSolution) (x : RawSolution)
    (told now : List B) (v : B) → first ≤ number → slice_get raws number ≡ Some x
    → told ≡ map f (batch_of first (number - first) raws) → now ≡ told ++ v ∷ [] → v ≡ f (number, x)
    → now ≡ map f (batch_of first ((number + 1) - first) raws)
told_more f first number raws x told now v le at so pushed is =
    let k = number - first in
    let there : first + k ≡ number = omega (arith, le) in
    let next : k + 1 ≡ (number + 1) - first = omega (arith, le) in
    pushed ∙ ap (λ y. told ++ y ∷ []) is ∙ ap (λ t. t ++ f (number, x) ∷ []) so
    ∙ ap (λ n. map f (batch_of first k raws) ++ f (n, x) ∷ []) (sym there)
    ∙ sym (map-append f (batch_of first k raws) ((first + k, x) ∷ []))
    ∙ ap (map f) (sym (batch_more first k raws x (subst (λ n. slice_get raws n ≡ Some x) (sym there) at)))
    ∙ ap (λ m. map f (batch_of first m raws)) next

module _ {M : Type 0} (f : List (ℕ × RawSolution) → M) (raws : List RawSolution) where
  -- one batch more
  pub one_more : (first reached count : ℕ) (made : List M) (m : M) → AreBatches f raws first reached made
      → m ≡ f (batch_of reached count raws) → AreBatches f raws first (reached + count) (made ++ m ∷ [])
  one_more first reached count [] m is told = (
    count,
    omega (arith, is),
    told ∙ ap (λ n. f (batch_of n count raws)) (sym is),
    ap (λ n. n + count) is,
  )
  one_more first reached count (x ∷ xs) m (c, le, is, rest) told =
      (c, omega (arith, le), is, one_more (first + c) reached count xs m rest told)

module _ {B : Type 0} (f : List (ℕ × RawSolution) → List B) (raws : List RawSolution) where
  -- what was made of batches, one after another, and what would be made of the rest in one
  pub joined : (first next : ℕ) (made : List (List B)) → AreBatches f raws first next made → next ≤ length raws
      → ((xs ys : List (ℕ × RawSolution)) → f (xs ++ ys) ≡ f xs ++ f ys)
      → flat_map (λ m. m) made ++ f (rows_from next raws) ≡ f (rows_from first raws)
  joined first next [] is le both = ap (λ n. f (rows_from n raws)) (sym is)
  joined first next (m ∷ ms) (count, within, is, rest) le both =
      let tail = f (rows_from next raws) in
      ap (λ l. l ++ tail) (flat_map-cons (λ (x : List B). x) m ms)
      ∙ append_assoc m (flat_map (λ x. x) ms) tail
      ∙ ap (λ t. m ++ t) (joined (first + count) next ms rest le both)
      ∙ ap (λ t. t ++ f (rows_from (first + count) raws)) is
      ∙ sym (both (batch_of first count raws) (rows_from (first + count) raws))
      ∙ ap f (rows_cut first count raws (omega (arith, within, le)))

-- what was made of a span is a window
pub window_of : {M E : Type 0} (f : List (ℕ × RawSolution) → M) (raws : List RawSolution) (first : ℕ) (span : Span)
    (made : Result (Window M) E)
    → span.first ≡ first → span.end ≤ length raws → (first < length raws → first < span.sure)
    → IfOk made (λ w. IsMade f raws span w.next w.made.items)
    → IfOk made (λ w. IsWindow f raws first w.next w.made.items)
window_of f raws first span (Ok w) is le some made = record {
  within = omega (arith, made.within, le);
  some = λ left. omega (arith, some left, made.sure);
  batches = subst (λ n. AreBatches f raws n w.next w.made.items) is made.batches;
}
window_of f raws first span (Err e) is le some made = made

-- what was made of a span that is sure to be made whole
pub whole_of : {M E : Type 0} (f : List (ℕ × RawSolution) → M) (raws : List RawSolution) (span : Span)
    (made : Result (Window M) E) (w : Window M) → span.end ≤ span.sure
    → IfOk made (λ w. IsMade f raws span w.next w.made.items) → made ≡ Ok w
    → AreBatches f raws span.first span.end w.made.items
whole_of f raws span made w le all is =
    let whole = ok_is made w (λ w. IsMade f raws span w.next w.made.items) all is in
    subst (λ n. AreBatches f raws span.first n w.made.items)
    (let e : w.next ≡ span.end = omega (arith, whole.sure, whole.within, le) in e) whole.batches
