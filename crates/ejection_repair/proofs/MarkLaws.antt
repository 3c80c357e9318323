-- A mark, an edit and the way back, over plain worlds.
use Rattle.std.proofs.Common.{ℕ, ◌≡◌, ◌+◌, ◌≤◌, List, [], ◌∷◌, length, refl, ap, ◌∙◌, arith, append-nil}
use Rattle.std.proofs.lemmas.List.Sums.{sum_by-cons}
use Rattle.khe_told.specs.declared.changes.Change.{Change}
use Rattle.khe_engine.specs.States.{State}
use Rattle.khe_engine.specs.Worlds.{World, Saved, closed, fresh, grown, kept}
use Rattle.ejection_repair.specs.Kept.{IsBack, IsInside, room, states}

-- one mark more has its own records more
kept_more : (x : Saved) (xs : List Saved) → kept (x ∷ xs) ≡ x.records + kept xs
kept_more x xs = sum_by-cons (λ (x : Saved). x.records) x xs

-- a mark that was opened, and an edit that was made
pub made : (w b v : World) (cs : List Change) → b.parts ≡ w.parts → b.marked ≡ w.marked → b.spare ≡ w.spare
    → b.saved ≡ fresh w.state ∷ w.saved
    → v.parts ≡ b.parts → v.marked ≡ b.marked → b.spare + kept b.saved ≤ v.spare + kept v.saved
    → v.saved ≡ grown cs b.saved → IsInside w v
made w b v cs bp bm br bs vp vm vr vs =
    let h = ap kept bs ∙ kept_more (fresh w.state) w.saved in
    record {
      parts = vp ∙ bp;
      marked = vm ∙ bm;
      room = omega (arith, h, br, vr);
      trail = cs;
      saved = vs ∙ ap (grown cs) bs;
    }

closed_fresh : (s : State) (xs : List Saved) → closed (fresh s ∷ xs) ≡ xs
closed_fresh s [] = refl
closed_fresh s (y ∷ ys) =
    let f : List Change → ℕ → Saved = λ t n. record { state = y.state; trail = t; records = n } in
    ap (λ t. f t (y.records + 0) ∷ ys) (append-nil y.trail)
    ∙ ap (λ n. f y.trail n ∷ ys) (let e : y.records + 0 ≡ y.records = omega arith in e)

pub closed_states : (us : List Saved) (s : State) (ss : List State) → states us ≡ s ∷ ss → states (closed us) ≡ ss
closed_states [] s ss e = absurd (let g : ⊥ = cc in g)
closed_states (x ∷ []) s ss e = cc
closed_states (x ∷ y ∷ rest) s ss e = cc

pub closed_count : (us : List Saved) (n : ℕ) → length us ≡ n + 1 → length (closed us) ≡ n
closed_count [] n e = absurd (omega arith)
closed_count (x ∷ []) n e = omega arith
closed_count (x ∷ y ∷ rest) n e = omega arith

-- back at the mark, which is closed
pub back : (w v u x : World) → IsInside w v → u.parts ≡ v.parts → u.marked ≡ v.marked → room v ≤ room u
    → ((y : Saved) (ys : List Saved) → v.saved ≡ y ∷ ys → (u.state ≡ y.state) × (u.saved ≡ fresh y.state ∷ ys))
    → x.parts ≡ u.parts → x.marked ≡ u.marked → room u ≤ room x → x.state ≡ u.state → x.saved ≡ closed u.saved
    → IsBack w x
back w v u x inside up um ur undone xp xm xr xs ended =
    let h = undone _ _ inside.saved in
    record {
      parts = xp ∙ up ∙ inside.parts;
      marked = xm ∙ um ∙ inside.marked;
      room = let k = inside.room in omega (arith, k, ur, xr);
      state = xs ∙ h.0;
      saved = ended ∙ ap closed h.1 ∙ closed_fresh w.state w.saved;
    }
