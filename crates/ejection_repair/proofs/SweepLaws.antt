-- Looking at the chains of one defect after another.
use Rattle.std.proofs.Common.{ℕ, ◌≡◌, List, [], ◌++◌, ap, ◌∙◌, sym}
use Rattle.std.specs.List.{flat_map}
use Rattle.khe_base.specs.declared.sums.Totals.{Totals}
use Rattle.khe_engine.specs.States.{State}
use Rattle.khe_engine.specs.Worlds.{World}
use Rattle.repair_moves.specs.declared.moved.Moved.{Moved}
use Rattle.ejection_repair.specs.Chains.{Chain, rotated, extensions, chains}
use Rattle.ejection_repair.specs.Kept.{IsBack}
use Rattle.ejection_repair.specs.Looks.{Looking, through, found, spent, look, chain_at}
use Rattle.ejection_repair.specs.Rounds.{defects_ahead}
use Rattle.ejection_repair.specs.Trails.{moved_of}
use Rattle.ejection_repair.specs.Values.{costs_at, defects_from}
use Rattle.ejection_repair.specs.declared.rounds.DefectRound.{DefectRound}
use Rattle.ejection_repair.specs.declared.trails.Trail.{Trail}
use Rattle.ejection_repair.proofs.LookLaws.{look_through, look_found, look_spent, look_nothing}

-- all chains, from a world whose costs are compared with
pub chains_begun : (w : World) (t : Trail) (r : DefectRound) (v k : ℕ) → w.marked ≡ costs_at w.parts w.state
    → moved_of t ≡ []
    → defects_ahead (costs_at w.parts w.state) r ≡ rotated v (defects_from (costs_at w.parts w.state) 0)
    → flat_map (extensions w.parts w.marked v k (chain_at t w)) (defects_ahead (costs_at w.parts w.state) r)
    ≡ chains w.parts w.state v k
unfolding chains
chains_begun w t r v k marked moved round =
    let f : List Moved → Chain = λ m. record { moved = m; state = w.state } in
    ap (λ ds. flat_map (extensions w.parts w.marked v k (chain_at t w)) ds) round
    ∙ ap (λ c. flat_map (extensions w.parts w.marked v k c) (rotated v (defects_from (costs_at w.parts w.state) 0)))
    (ap f moved)
    ∙ ap (λ m. flat_map (extensions w.parts m v k (f [])) (rotated v (defects_from (costs_at w.parts w.state) 0)))
    marked

-- what was looked at from a world that is back
look_back : (w u : World) (t : Trail) (v k m n : ℕ) (lowest : Totals) (l : Looking) → IsBack w u
    → look u.parts lowest n (extensions u.parts u.marked v k (chain_at t u) m) ≡ l
    → look w.parts lowest n (extensions w.parts w.marked v k (chain_at t w) m) ≡ l
look_back w u t v k m n lowest l back h =
    ap (λ s. look w.parts lowest n (extensions w.parts w.marked v k
    (let c : Chain = record { moved = moved_of t; state = s } in c) m)) (sym back.state)
    ∙ ap (λ x. look w.parts lowest n (extensions w.parts x v k (chain_at t u) m)) (sym back.marked)
    ∙ ap (λ q. look q lowest n (extensions q u.marked v k (chain_at t u) m)) (sym back.parts) ∙ h

pub sweep_through : (w u : World) (t : Trail) (v k m n n' : ℕ) (ms all : List ℕ) (lowest : Totals) → IsBack w u
    → flat_map (extensions w.parts w.marked v k (chain_at t w)) all
    ≡ extensions w.parts w.marked v k (chain_at t w) m ++ flat_map (extensions w.parts w.marked v k (chain_at t w)) ms
    → look u.parts lowest n (extensions u.parts u.marked v k (chain_at t u) m) ≡ through n'
    → look w.parts lowest n (flat_map (extensions w.parts w.marked v k (chain_at t w)) all)
    ≡ look w.parts lowest n' (flat_map (extensions w.parts w.marked v k (chain_at t w)) ms)
sweep_through w u t v k m n n' ms all lowest back eq h =
    ap (look w.parts lowest n) eq
    ∙ look_through w.parts lowest n n' _ _ (look_back w u t v k m n lowest _ back h)

pub sweep_found : (w u : World) (t : Trail) (v k m n n' : ℕ) (s : State) (ms all : List ℕ) (lowest : Totals)
    → IsBack w u → flat_map (extensions w.parts w.marked v k (chain_at t w)) all
    ≡ extensions w.parts w.marked v k (chain_at t w) m ++ flat_map (extensions w.parts w.marked v k (chain_at t w)) ms
    → look u.parts lowest n (extensions u.parts u.marked v k (chain_at t u) m) ≡ found s n'
    → look w.parts lowest n (flat_map (extensions w.parts w.marked v k (chain_at t w)) all) ≡ found s n'
sweep_found w u t v k m n n' s ms all lowest back eq h =
    ap (look w.parts lowest n) eq
    ∙ look_found w.parts lowest n n' s _ _ (look_back w u t v k m n lowest _ back h)

pub sweep_spent : (w u : World) (t : Trail) (v k m n : ℕ) (ms all : List ℕ) (lowest : Totals) → IsBack w u
    → flat_map (extensions w.parts w.marked v k (chain_at t w)) all
    ≡ extensions w.parts w.marked v k (chain_at t w) m ++ flat_map (extensions w.parts w.marked v k (chain_at t w)) ms
    → look u.parts lowest n (extensions u.parts u.marked v k (chain_at t u) m) ≡ spent
    → look w.parts lowest n (flat_map (extensions w.parts w.marked v k (chain_at t w)) all) ≡ spent
sweep_spent w u t v k m n ms all lowest back eq h =
    ap (look w.parts lowest n) eq
    ∙ look_spent w.parts lowest n _ _ (look_back w u t v k m n lowest _ back h)

pub sweep_done : (w : World) (t : Trail) (v k n : ℕ) (all : List ℕ) (lowest : Totals)
    → flat_map (extensions w.parts w.marked v k (chain_at t w)) all ≡ []
    → look w.parts lowest n (flat_map (extensions w.parts w.marked v k (chain_at t w)) all) ≡ through n
sweep_done w t v k n all lowest e = look_nothing w.parts lowest n _ e
