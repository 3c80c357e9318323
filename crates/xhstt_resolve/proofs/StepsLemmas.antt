-- Steps of loops over lists.
use Rattle.std.proofs.Common.{◌≡◌, ◌∙◌, sym, ap, subst, ℕ, ◌+◌, ◌<◌, List, ◌∷◌, ◌++◌, length}
use Rattle.std.proofs.Common.{drop, get_or, Result}
use Rattle.std.specs.Result.{IfOk}
use Rattle.std.specs.List.{flat_map}
use Rattle.std.proofs.lemmas.List.{append_assoc, drop_more}

-- what is made of one item more, and what the rest will make
pub flat_map_step : {X Y : Type 0} (f : X → List Y) (made more : List Y) (xs : List X) (k : ℕ) (x : X) → k < length xs
    → x ≡ get_or xs k x → more ≡ made ++ f x
    → more ++ flat_map f (drop (k + 1) xs) ≡ made ++ flat_map f (drop k xs)
flat_map_step f made more xs k x within at added =
    ap (λ m. m ++ flat_map f (drop (k + 1) xs)) added
    ∙ append_assoc made (f x) (flat_map f (drop (k + 1) xs))
    ∙ ap (λ r. made ++ flat_map f r) (ap (λ y. y ∷ drop (k + 1) xs) at ∙ sym (drop_more xs k x within))

-- what a call gives, by an equal value
pub if_ok_same : {X Y : Type 0} {a b : X} (r : Result X Y) → a ≡ b → IfOk r (λ x. x ≡ a) → IfOk r (λ x. x ≡ b)
if_ok_same {X} r e h = subst (λ v. IfOk r (λ x. x ≡ v)) e h
