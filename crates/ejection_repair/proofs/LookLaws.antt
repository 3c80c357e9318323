-- Looking at lists of chains, piece by piece.
use Rattle.std.proofs.Common.{ℕ, zero, suc, ◌≡◌, Bool, true, false, cond, List, [], ◌∷◌, ◌++◌, refl, ap}
use Rattle.khe_base.specs.declared.sums.Totals.{Totals}
use Rattle.khe_instance.specs.declared.parts.Parts.{Parts}
use Rattle.khe_engine.specs.States.{State}
use Rattle.ejection_repair.specs.Chains.{Chain}
use Rattle.ejection_repair.specs.Looks.{through, found, spent, look}
use Rattle.ejection_repair.specs.Values.{totals_at, are_lower}

-- where none of the first is lower, what comes after is looked at
pub look_through : (p : Parts) (t : Totals) (n m : ℕ) (xs ys : List Chain) → look p t n xs ≡ through m
    → look p t n (xs ++ ys) ≡ look p t m ys
unfolding look
look_through p t n m [] ys e = ap (λ k. look p t k ys) (let g : n ≡ m = cc in g)
look_through p t zero m (c ∷ cs) ys e = absurd (let g : ⊥ = cc in g)
look_through p t (suc n) m (c ∷ cs) ys e = by (are_lower (totals_at p c.state) t) (look_through p t n m cs ys) e
  where
    by : (b : Bool) → (look p t n cs ≡ through m → look p t n (cs ++ ys) ≡ look p t m ys)
        → cond b (found c.state n) (look p t n cs) ≡ through m
        → cond b (found c.state n) (look p t n (cs ++ ys)) ≡ look p t m ys
    by true r h = absurd (let g : ⊥ = cc in g)
    by false r h = r h

-- the first that is lower is so whatever comes after
pub look_found : (p : Parts) (t : Totals) (n m : ℕ) (s : State) (xs ys : List Chain) → look p t n xs ≡ found s m
    → look p t n (xs ++ ys) ≡ found s m
unfolding look
look_found p t n m s [] ys e = absurd (let g : ⊥ = cc in g)
look_found p t zero m s (c ∷ cs) ys e = absurd (let g : ⊥ = cc in g)
look_found p t (suc n) m s (c ∷ cs) ys e = by (are_lower (totals_at p c.state) t) (look_found p t n m s cs ys) e
  where
    by : (b : Bool) → (look p t n cs ≡ found s m → look p t n (cs ++ ys) ≡ found s m)
        → cond b (found c.state n) (look p t n cs) ≡ found s m
        → cond b (found c.state n) (look p t n (cs ++ ys)) ≡ found s m
    by true r h = h
    by false r h = r h

pub look_spent : (p : Parts) (t : Totals) (n : ℕ) (xs ys : List Chain) → look p t n xs ≡ spent
    → look p t n (xs ++ ys) ≡ spent
unfolding look
look_spent p t n [] ys e = absurd (let g : ⊥ = cc in g)
look_spent p t zero (c ∷ cs) ys e = refl
look_spent p t (suc n) (c ∷ cs) ys e = by (are_lower (totals_at p c.state) t) (look_spent p t n cs ys) e
  where
    by : (b : Bool) → (look p t n cs ≡ spent → look p t n (cs ++ ys) ≡ spent)
        → cond b (found c.state n) (look p t n cs) ≡ spent → cond b (found c.state n) (look p t n (cs ++ ys)) ≡ spent
    by true r h = absurd (let g : ⊥ = cc in g)
    by false r h = r h

pub look_nothing : (p : Parts) (t : Totals) (n : ℕ) (xs : List Chain) → xs ≡ [] → look p t n xs ≡ through n
unfolding look
look_nothing p t n xs e = ap (look p t n) e
