-- A run, length by length.
use Rattle.std.proofs.Common.{ℕ, zero, suc, ◌≡◌, ◌+◌, ◌-◌, ◌<◌, ◌≤◌, Bool, true, false, cond, List, [], ◌∷◌, ◌++◌, map}
use Rattle.std.proofs.Common.{refl, ap, ◌∙◌, sym, arith}
use Rattle.khe_base.specs.declared.sums.Totals.{Totals}
use Rattle.khe_instance.specs.declared.parts.Parts.{Parts}
use Rattle.khe_engine.specs.States.{State}
use Rattle.khe_engine.specs.Worlds.{World}
use Rattle.ejection_repair.specs.Chains.{Chain, chains}
use Rattle.ejection_repair.specs.Kept.{IsBack}
use Rattle.ejection_repair.specs.Looks.{Looking, through, found, spent, look}
use Rattle.ejection_repair.specs.Repaired.{Try, try_at, tries_from, Repaired, run, repaired, runs_from}
use Rattle.ejection_repair.specs.Values.{totals_at, are_lower}
use Rattle.ejection_repair.specs.declared.outcome.Outcome.TheVariants.{Done, Spent}

-- all of these are looked at in vain
pub run_through : (p : Parts) (d v n m a t : ℕ) (s : State) (gone : ℕ) (cs : List Chain) (ys : List Try)
    → look p (totals_at p s) n cs ≡ through m
    → (m ≤ n) × (run p d v n a t s (map (try_at gone) cs ++ ys) ≡ run p d v m a (t + (n - m)) s ys)
unfolding run look
run_through p d v n m a t s gone [] ys e =
    let g : n ≡ m = cc in (
      omega arith,
      ap (λ k. run p d v k a t s ys) g
          ∙ ap (λ k. run p d v m a k s ys) (let h : t ≡ t + (n - m) = omega arith in h),
    )
run_through p d v zero m a t s gone (c ∷ cs) ys e = absurd (let g : ⊥ = cc in g)
run_through p d v (suc n) m a t s gone (c ∷ cs) ys e =
    by (are_lower (totals_at p c.state) (totals_at p s)) (run_through p d v n m a (t + 1) s gone cs ys) e
  where
    by : (b : Bool) → (look p (totals_at p s) n cs ≡ through m
        → (m ≤ n) × (run p d v n a (t + 1) s (map (try_at gone) cs ++ ys) ≡ run p d v m a (t + 1 + (n - m)) s ys))
        → cond b (found c.state n) (look p (totals_at p s) n cs) ≡ through m
        → (m ≤ suc n) × (cond b (run p d v n (a + 1) (t + 1) c.state (tries_from p c.state v 0 d))
        (run p d v n a (t + 1) s (map (try_at gone) cs ++ ys)) ≡ run p d v m a (t + (suc n - m)) s ys)
    by true r h = absurd (let g : ⊥ = cc in g)
    by false r h =
        let q = r h in let l = q.0 in (
          omega arith,
          q.1 ∙ ap (λ k. run p d v m a k s ys)
              (let f : t + 1 + (n - m) ≡ t + (suc n - m) = omega arith in f),
        )

pub run_found : (p : Parts) (d v n m a t : ℕ) (s u : State) (gone : ℕ) (cs : List Chain) (ys : List Try)
    → look p (totals_at p s) n cs ≡ found u m
    → (m < n) × (run p d v n a t s (map (try_at gone) cs ++ ys)
    ≡ run p d v m (a + 1) (t + (n - m)) u (tries_from p u v 0 d))
unfolding run look
run_found p d v n m a t s u gone [] ys e = absurd (let g : ⊥ = cc in g)
run_found p d v zero m a t s u gone (c ∷ cs) ys e = absurd (let g : ⊥ = cc in g)
run_found p d v (suc n) m a t s u gone (c ∷ cs) ys e =
    by (are_lower (totals_at p c.state) (totals_at p s)) (run_found p d v n m a (t + 1) s u gone cs ys) e
  where
    by : (b : Bool) → (look p (totals_at p s) n cs ≡ found u m
        → (m < n) × (run p d v n a (t + 1) s (map (try_at gone) cs ++ ys)
        ≡ run p d v m (a + 1) (t + 1 + (n - m)) u (tries_from p u v 0 d)))
        → cond b (found c.state n) (look p (totals_at p s) n cs) ≡ found u m
        → (m < suc n) × (cond b (run p d v n (a + 1) (t + 1) c.state (tries_from p c.state v 0 d))
        (run p d v n a (t + 1) s (map (try_at gone) cs ++ ys))
        ≡ run p d v m (a + 1) (t + (suc n - m)) u (tries_from p u v 0 d))
    by true r h =
        let same : c.state ≡ u = cc in let few : n ≡ m = cc in (
          omega arith,
          ap (λ x. run p d v n (a + 1) (t + 1) x (tries_from p x v 0 d)) same
              ∙ ap (λ k. run p d v k (a + 1) (t + 1) u (tries_from p u v 0 d)) few
              ∙ ap (λ k. run p d v m (a + 1) k u (tries_from p u v 0 d))
              (let f : t + 1 ≡ t + (suc n - m) = omega arith in f),
        )
    by false r h =
        let q = r h in let l = q.0 in (
          omega arith,
          q.1 ∙ ap (λ k. run p d v m (a + 1) k u (tries_from p u v 0 d))
              (let f : t + 1 + (n - m) ≡ t + (suc n - m) = omega arith in f),
        )

pub run_spent : (p : Parts) (d v n a t : ℕ) (s : State) (gone : ℕ) (cs : List Chain) (ys : List Try)
    → look p (totals_at p s) n cs ≡ spent
    → run p d v n a t s (map (try_at gone) cs ++ ys) ≡ record { state = s; outcome = Spent a (t + n) gone }
unfolding run look
run_spent p d v n a t s gone [] ys e = absurd (let g : ⊥ = cc in g)
run_spent p d v zero a t s gone (c ∷ cs) ys e =
    let f : ℕ → Repaired = λ k. record { state = s; outcome = Spent a k gone } in
    ap f (let q : t ≡ t + 0 = omega arith in q)
run_spent p d v (suc n) a t s gone (c ∷ cs) ys e =
    by (are_lower (totals_at p c.state) (totals_at p s)) (run_spent p d v n a (t + 1) s gone cs ys) e
  where
    by : (b : Bool) → (look p (totals_at p s) n cs ≡ spent
        → run p d v n a (t + 1) s (map (try_at gone) cs ++ ys)
        ≡ record { state = s; outcome = Spent a (t + 1 + n) gone })
        → cond b (found c.state n) (look p (totals_at p s) n cs) ≡ spent
        → cond b (run p d v n (a + 1) (t + 1) c.state (tries_from p c.state v 0 d))
        (run p d v n a (t + 1) s (map (try_at gone) cs ++ ys))
        ≡ record { state = s; outcome = Spent a (t + suc n) gone }
    by true r h = absurd (let g : ⊥ = cc in g)
    by false r h = let f : ℕ → Repaired = λ k. record { state = s; outcome = Spent a k gone } in
        r h ∙ ap f (let q : t + 1 + n ≡ t + suc n = omega arith in q)

-- nothing is ahead
pub run_done : (p : Parts) (d v n a t : ℕ) (s : State) → run p d v n a t s [] ≡ record { state = s; outcome = Done a t }
unfolding run
run_done p d v zero a t s = refl
run_done p d v (suc n) a t s = refl

-- one length more
pub tries_more : (p : Parts) (s : State) (v gone d : ℕ) → gone < d
    → tries_from p s v gone (d - gone) ≡ map (try_at gone) (chains p s v (gone + 1))
    ++ tries_from p s v (gone + 1) (d - (gone + 1))
unfolding tries_from
tries_more p s v gone d l =
    ap (tries_from p s v gone) (let e : d - gone ≡ suc (d - (gone + 1)) = omega arith in e)

pub tries_none : (p : Parts) (s : State) (v gone n : ℕ) → n ≡ 0 → tries_from p s v gone n ≡ []
unfolding tries_from
tries_none p s v gone n e = ap (tries_from p s v gone) e

looks_at : (w u : World) (lowest : Totals) (n v k : ℕ) (l : Looking) → IsBack w u → lowest ≡ totals_at w.parts w.state
    → look u.parts lowest n (chains u.parts u.state v k) ≡ l
    → look w.parts (totals_at w.parts w.state) n (chains w.parts w.state v k) ≡ l
looks_at w u lowest n v k l back low h =
    ap (λ t. look w.parts t n (chains w.parts w.state v k)) (sym low)
    ∙ ap (λ s. look w.parts lowest n (chains w.parts s v k)) (sym back.state)
    ∙ ap (λ q. look q lowest n (chains q u.state v k)) (sym back.parts) ∙ h

-- one length of a round, by what the sweep answers
pub round_through : (w u : World) (lowest : Totals) (d v n0 n m gone : ℕ) (X : ℕ → ℕ → Repaired) → IsBack w u
    → lowest ≡ totals_at w.parts w.state
    → look u.parts lowest n (chains u.parts u.state v (gone + 1)) ≡ through m → n ≤ n0 → gone < d
    → ((a t : ℕ) → X a t ≡ run w.parts d v n a (t + (n0 - n)) w.state (tries_from w.parts w.state v gone (d - gone)))
    → (m ≤ n0) × ((a t : ℕ) → X a t ≡ run w.parts d v m a (t + (n0 - m)) w.state
    (tries_from w.parts w.state v (gone + 1) (d - (gone + 1))))
round_through w u lowest d v n0 n m gone X back low h few l runs =
    let g = looks_at w u lowest n v (gone + 1) (through m) back low h in
    let ys = tries_from w.parts w.state v (gone + 1) (d - (gone + 1)) in
    let cs = chains w.parts w.state v (gone + 1) in
    let less : m ≤ n = (run_through w.parts d v n m 0 0 w.state gone cs ys g).0 in (
      omega arith,
      λ a t.
          runs a t ∙ ap (run w.parts d v n a (t + (n0 - n)) w.state) (tries_more w.parts w.state v gone d l)
          ∙ (run_through w.parts d v n m a (t + (n0 - n)) w.state gone cs ys g).1
          ∙ ap (λ k. run w.parts d v m a k w.state ys) (let e : t + (n0 - n) + (n - m) ≡ t + (n0 - m) = omega arith in
          e),
    )

pub round_found : (w u : World) (lowest : Totals) (d v n0 n m gone : ℕ) (s : State) (X : ℕ → ℕ → Repaired) → IsBack w u
    → lowest ≡ totals_at w.parts w.state
    → look u.parts lowest n (chains u.parts u.state v (gone + 1)) ≡ found s m → n ≤ n0 → gone < d
    → ((a t : ℕ) → X a t ≡ run w.parts d v n a (t + (n0 - n)) w.state (tries_from w.parts w.state v gone (d - gone)))
    → (m < n0) × ((a t : ℕ) → X a t ≡ runs_from w.parts d v m (a + 1) (t + (n0 - m)) s)
round_found w u lowest d v n0 n m gone s X back low h few l runs =
    let g = looks_at w u lowest n v (gone + 1) (found s m) back low h in
    let ys = tries_from w.parts w.state v (gone + 1) (d - (gone + 1)) in
    let cs = chains w.parts w.state v (gone + 1) in
    let less : m < n = (run_found w.parts d v n m 0 0 w.state s gone cs ys g).0 in (
      omega arith,
      λ a t.
          runs a t ∙ ap (run w.parts d v n a (t + (n0 - n)) w.state) (tries_more w.parts w.state v gone d l)
          ∙ (run_found w.parts d v n m a (t + (n0 - n)) w.state s gone cs ys g).1
          ∙ ap (λ k. runs_from w.parts d v m (a + 1) k s)
          (let e : t + (n0 - n) + (n - m) ≡ t + (n0 - m) = omega arith in e),
    )

pub round_spent : (w u : World) (lowest : Totals) (d v n0 n gone : ℕ) (X : ℕ → ℕ → Repaired) → IsBack w u
    → lowest ≡ totals_at w.parts w.state
    → look u.parts lowest n (chains u.parts u.state v (gone + 1)) ≡ spent → n ≤ n0 → gone < d
    → ((a t : ℕ) → X a t ≡ run w.parts d v n a (t + (n0 - n)) w.state (tries_from w.parts w.state v gone (d - gone)))
    → (a t : ℕ) → X a t ≡ record { state = w.state; outcome = Spent a (t + n0) gone }
round_spent w u lowest d v n0 n gone X back low h few l runs a t =
    let g = looks_at w u lowest n v (gone + 1) spent back low h in
    let ys = tries_from w.parts w.state v (gone + 1) (d - (gone + 1)) in
    let cs = chains w.parts w.state v (gone + 1) in
    let f : ℕ → Repaired = λ k. record { state = w.state; outcome = Spent a k gone } in
    runs a t ∙ ap (run w.parts d v n a (t + (n0 - n)) w.state) (tries_more w.parts w.state v gone d l)
    ∙ run_spent w.parts d v n a (t + (n0 - n)) w.state gone cs ys g
    ∙ ap f (let e : t + (n0 - n) + n ≡ t + n0 = omega arith in e)

pub round_done : (w : World) (d v n0 n gone : ℕ) (X : ℕ → ℕ → Repaired) → d ≤ gone
    → ((a t : ℕ) → X a t ≡ run w.parts d v n a (t + (n0 - n)) w.state (tries_from w.parts w.state v gone (d - gone)))
    → (a t : ℕ) → X a t ≡ record { state = w.state; outcome = Done a (t + (n0 - n)) }
round_done w d v n0 n gone X l runs a t =
    runs a t ∙ ap (run w.parts d v n a (t + (n0 - n)) w.state)
    (tries_none w.parts w.state v gone (d - gone) (omega arith)) ∙ run_done w.parts d v n a (t + (n0 - n)) w.state

pub begun_repaired : (p : Parts) (s u : State) (d v n : ℕ) → u ≡ s → runs_from p d v n 0 (n - n) u ≡ repaired p s d n v
unfolding repaired
begun_repaired p s u d v n e =
    ap (λ x. runs_from p d v n 0 (n - n) x) e ∙ ap (λ k. runs_from p d v n 0 k s) (let e : n - n ≡ 0 = omega arith in e)
