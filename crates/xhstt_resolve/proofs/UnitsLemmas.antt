-- Least common multiples, one duration more.
use Rattle.std.proofs.Common.{ℕ, ◌≡◌, ◌∙◌, ap, subst, ◌+◌, ◌<◌, Bool, cond, Some, List, [], ◌∷◌, length, map, drop}
use Rattle.std.proofs.Common.{get_or}
use Prim.Native.Nat.{◌∣◌}
use Rattle.std.specs.Prelude.{find, nat_lt}
use Rattle.std.specs.List.{fold}
use Rattle.std.proofs.lemmas.Nat.Gcd.{dvd_refl, dvd_antisymm}
use Rattle.std.proofs.lemmas.List.Elements.{All-nil, All-cons, All-head, All-tail}
use Rattle.khe_base.specs.Units.{IsUnit, IsLeastMultiple}
use Rattle.xhstt_resolve.specs.Units.{least_multiple, running_units}
use Rattle.xhstt_resolve.proofs.WellMadeUnits.{unit_is}
use Rattle.khe_base.proofs.ListLemmas.{drop-next}

-- the unit of one duration is that duration
unit_of_one : (a : ℕ) → 0 < a → least_multiple 1 a ≡ a
unit_of_one a p =
    let m = least_multiple 1 a in
    let is : IsUnit (a ∷ []) m = unit_is (a ∷ []) (All-cons (λ x. 0 < x) a [] p (All-nil (λ x. 0 < x))) in
    dvd_antisymm (is.least a (All-cons (λ x. x ∣ a) a [] (dvd_refl a) (All-nil (λ x. x ∣ a))))
    (All-head (λ x. x ∣ m) a [] is.divided)

-- the unit of two is their least common multiple
unit_of_two : (a b : ℕ) → 0 < a → 0 < b → IsUnit (a ∷ b ∷ []) (least_multiple a b)
unit_of_two a b pa pb =
    let all = All-cons (λ x. 0 < x) a (b ∷ []) pa (All-cons (λ x. 0 < x) b [] pb (All-nil (λ x. 0 < x))) in
    subst (λ x. IsUnit (a ∷ b ∷ []) (least_multiple x b)) (unit_of_one a pa) (unit_is (a ∷ b ∷ []) all)

pub least_multiple-positive : (a b : ℕ) → 0 < a → 0 < b → 0 < least_multiple a b
least_multiple-positive a b pa pb = let is = unit_of_two a b pa pb in is.positive

-- there is one least common multiple
pub least_multiple-same : (a b m : ℕ) → 0 < a → 0 < b → IsLeastMultiple a b m → m ≡ least_multiple a b
least_multiple-same a b m pa pb is =
    let n = least_multiple a b in
    let two = unit_of_two a b pa pb in
    let left : a ∣ n = All-head (λ x. x ∣ n) a (b ∷ []) two.divided in
    let right : b ∣ n = All-head (λ x. x ∣ n) b [] (All-tail (λ x. x ∣ n) a (b ∷ []) two.divided) in
    dvd_antisymm
    (is.least n left right)
    (two.least m (All-cons (λ x. x ∣ m) a (b ∷ []) is.left
    (All-cons (λ x. x ∣ m) b [] is.right (All-nil (λ x. x ∣ m)))))

-- the unit with what is left, one item more
pub unit_step : {X : Type 0} (f : X → ℕ) (u : ℕ) (xs : List X) (k : ℕ) (x : X) → k < length xs → x ≡ get_or xs k x
    → fold least_multiple u (map f (drop k xs)) ≡ fold least_multiple (least_multiple u (f x)) (map f (drop (k + 1) xs))
unit_step f u xs k x l at = ap (λ ys. fold least_multiple u (map f ys)) (drop-next xs k x l at)

-- and so with the first running multiple above the greatest
pub above_step : {X : Type 0} (f : X → ℕ) (greatest u : ℕ) (xs : List X) (k : ℕ) (x : X) (b : Bool) → k < length xs
    → x ≡ get_or xs k x → nat_lt greatest (least_multiple u (f x)) ≡ b
    → find (nat_lt greatest) (running_units u (map f (drop k xs)))
    ≡ cond b (Some (least_multiple u (f x))) (find (nat_lt greatest)
    (running_units (least_multiple u (f x)) (map f (drop (k + 1) xs))))
above_step f greatest u xs k x b l at is =
    let m = least_multiple u (f x) in
    ap (λ ys. find (nat_lt greatest) (running_units u (map f ys))) (drop-next xs k x l at)
    ∙ ap (λ t. cond t (Some m) (find (nat_lt greatest) (running_units m (map f (drop (k + 1) xs))))) is
