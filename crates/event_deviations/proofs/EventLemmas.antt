-- Deviations at events, places and pairs.
use Rattle.std.proofs.Common.{◌≡◌, ◌∙◌, sym, ap, refl, ℕ, pos, ◌+◌, ◌<◌, ◌≤◌, max, min, Option, Some, None, List, []}
use Rattle.std.proofs.Common.{◌∷◌, ◌++◌, length, get_or, take, arith, All, IfSome, sum_by, filter_map}
use Rattle.std.specs.Option.{option_map_or}
use Rattle.std.specs.Prelude.{◌-ℤ◌}
use Rattle.std.proofs.lemmas.Int.{ints}
use Rattle.std.proofs.lemmas.List.{take_more, append-nil}
use Rattle.std.proofs.lemmas.List.Elements.{All-head, All-tail, filter_map-append}
use Rattle.std.proofs.lemmas.List.Sums.{sum_by-cons, fold_push}
use Rattle.khe_base.specs.Bounds.{outside}
use Rattle.khe_instance.specs.declared.states.Meet.{Meet}
use Rattle.event_deviations.specs.Ends.{greatest_of, least_of}

-- there are no more meets than their durations add to
pub few : (ms : List Meet) → All (λ m. 1 ≤ m.duration) ms → length ms ≤ sum_by (λ m. m.duration) ms
few [] h = omega arith
few (m ∷ ms) h =
    let rest = few ms (All-tail (λ m. 1 ≤ m.duration) m ms h) in
    let one : 1 ≤ m.duration = All-head (λ m. 1 ≤ m.duration) m ms h in
    omega (arith, sum_by-cons (λ (x : Meet). x.duration) m ms)

-- a sum of ones is a length
pub sum_of_ones : (ms : List Meet) → sum_by (λ m. 1) ms ≡ length ms
sum_of_ones [] = refl
sum_of_ones (m ∷ ms) = let rest = sum_of_ones ms in omega (arith, sum_by-cons (λ (x : Meet). 1) m ms)

-- how far a difference of two numbers lies outside bounds
pub outside_small : (a b least greatest : ℕ) → outside (pos a -ℤ pos b) (pos least) (pos greatest) ≤ a + b + least
outside_small a b least greatest = grind (arith, ints)

-- the greatest and the least with one more
greatest_of-push : (xs : List ℕ) (y : ℕ) → greatest_of (xs ++ y ∷ [])
    ≡ Some (option_map_or (λ n. max n y) (greatest_of xs) y)
greatest_of-push [] y = refl
greatest_of-push (x ∷ xs) y = ap Some (fold_push max x xs y)

least_of-push : (xs : List ℕ) (y : ℕ) → least_of (xs ++ y ∷ []) ≡ Some (option_map_or (λ n. min n y) (least_of xs) y)
least_of-push [] y = refl
least_of-push (x ∷ xs) y = ap Some (fold_push min x xs y)

pub IfSome-greater : (o : Option ℕ) (y most : ℕ) → IfSome o (λ n. n ≤ most) → y ≤ most
    → option_map_or (λ n. max n y) o y ≤ most
IfSome-greater None y most h l = l
IfSome-greater (Some n) y most h l = omega arith

pub IfSome-less : (o : Option ℕ) (y most : ℕ) → IfSome o (λ n. n ≤ most) → y ≤ most
    → option_map_or (λ n. min n y) o y ≤ most
IfSome-less None y most h l = l
IfSome-less (Some n) y most h l = omega arith

module _ (f : Meet → Option ℕ) (ms : List Meet) (i : ℕ) (m : Meet) (l : i < length ms) where
  front : filter_map f (take (i + 1) ms) ≡ filter_map f (take i ms) ++ filter_map f (get_or ms i m ∷ [])
  front = ap (filter_map f) (take_more ms i m l) ∙ filter_map-append f (take i ms) (get_or ms i m ∷ [])

  with_one : (y : ℕ) → f (get_or ms i m) ≡ Some y → filter_map f (take (i + 1) ms) ≡ filter_map f (take i ms) ++ y ∷ []
  with_one y e = front ∙ ap (λ o. filter_map f (take i ms) ++ filter_map (λ (x : Unit {0}). o) (tt ∷ [])) e

  pub without : f (get_or ms i m) ≡ None → filter_map f (take (i + 1) ms) ≡ filter_map f (take i ms)
  without e = front ∙ ap (λ o. filter_map f (take i ms) ++ filter_map (λ (x : Unit {0}). o) (tt ∷ [])) e
      ∙ append-nil (filter_map f (take i ms))

  pub greatest-more : (y : ℕ) (last new : Option ℕ) → f (get_or ms i m) ≡ Some y
      → last ≡ greatest_of (filter_map f (take i ms)) → new ≡ Some (option_map_or (λ n. max n y) last y)
      → new ≡ greatest_of (filter_map f (take (i + 1) ms))
  greatest-more y last new e was is =
      is ∙ ap (λ o. Some (option_map_or (λ n. max n y) o y)) was
      ∙ sym (ap greatest_of (with_one y e) ∙ greatest_of-push (filter_map f (take i ms)) y)

  pub greatest-same : (last : Option ℕ) → f (get_or ms i m) ≡ None → last ≡ greatest_of (filter_map f (take i ms))
      → last ≡ greatest_of (filter_map f (take (i + 1) ms))
  greatest-same last e was = was ∙ sym (ap greatest_of (without e))

  pub least-more : (y : ℕ) (first new : Option ℕ) → f (get_or ms i m) ≡ Some y
      → first ≡ least_of (filter_map f (take i ms)) → new ≡ Some (option_map_or (λ n. min n y) first y)
      → new ≡ least_of (filter_map f (take (i + 1) ms))
  least-more y first new e was is =
      is ∙ ap (λ o. Some (option_map_or (λ n. min n y) o y)) was
      ∙ sym (ap least_of (with_one y e) ∙ least_of-push (filter_map f (take i ms)) y)

  pub least-same : (first : Option ℕ) → f (get_or ms i m) ≡ None → first ≡ least_of (filter_map f (take i ms))
      → first ≡ least_of (filter_map f (take (i + 1) ms))
  least-same first e was = was ∙ sym (ap least_of (without e))
