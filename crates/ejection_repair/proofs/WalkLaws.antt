-- The moves of a walk that move nothing anew, written into a row.
use Rattle.std.proofs.Common.{ℕ, ◌≡◌, ◌<◌, ◌+◌, true, false, cond, List, [], ◌∷◌, ◌++◌, length, take, set}
use Rattle.std.proofs.Common.{sym, ap, subst, ◌∙◌, append_assoc}
use Rattle.std.specs.Prelude.{All}
use Rattle.std.specs.List.{filter}
use Rattle.std.proofs.lemmas.List.{take_more_set}
use Rattle.std.proofs.lemmas.List.Elements.{All-push, All-same}
use Rattle.khe_instance.specs.declared.parts.Parts.{Parts}
use Rattle.khe_told.specs.declared.edits.Edit.{Edit}
use Rattle.khe_told.specs.declared.slots.Slot.{Slot}
use Rattle.khe_engine.specs.States.{State}
use Rattle.khe_engine.specs.Worlds.{World}
use Rattle.repair_moves.specs.declared.moved.Moved.{Moved}
use Rattle.ejection_repair.specs.Kept.{IsBack}
use Rattle.ejection_repair.specs.Lifts.{IsMove, fresh_ahead}
use Rattle.ejection_repair.specs.Rounds.{moves_ahead}
use Rattle.ejection_repair.specs.Trails.{is_fresh}
use Rattle.ejection_repair.specs.declared.rounds.MoveRound.{MoveRound}

pub fresh_next : (p : Parts) (s : List Slot) (moved : List Moved) (r r' : MoveRound) (e : Edit)
    → moves_ahead p s r ≡ e ∷ moves_ahead p s r' → is_fresh s moved e ≡ true
    → fresh_ahead p s moved r ≡ e ∷ fresh_ahead p s moved r'
unfolding fresh_ahead
fresh_next p s moved r r' e h f =
    let rest = filter (is_fresh s moved) (moves_ahead p s r') in
    ap (filter (is_fresh s moved)) h ∙ ap (λ b. cond b (e ∷ rest) rest) f

pub fresh_passed : (p : Parts) (s : List Slot) (moved : List Moved) (r r' : MoveRound) (e : Edit)
    → moves_ahead p s r ≡ e ∷ moves_ahead p s r' → is_fresh s moved e ≡ false
    → fresh_ahead p s moved r ≡ fresh_ahead p s moved r'
unfolding fresh_ahead
fresh_passed p s moved r r' e h f =
    let rest = filter (is_fresh s moved) (moves_ahead p s r') in
    ap (filter (is_fresh s moved)) h ∙ ap (λ b. cond b (e ∷ rest) rest) f

pub fresh_none : (p : Parts) (s : List Slot) (moved : List Moved) (r : MoveRound) → moves_ahead p s r ≡ []
    → fresh_ahead p s moved r ≡ []
unfolding fresh_ahead
fresh_none p s moved r h = ap (filter (is_fresh s moved)) h

-- one more is written
pub written : {A : Type 0} (P : A → Type 0) (row : List A) (n : ℕ) (e : A) → n < length row → All P (take n row) → P e
    → All P (take (n + 1) (set row n e))
written P row n e l h one =
    All-same P (take (n + 1) (set row n e)) (take n row ++ e ∷ []) (take_more_set row n e l)
    (All-push P (take n row) e h one)

pub row_ahead : {A : Type 0} (all row rest rest' : List A) (n : ℕ) (e : A) → n < length row → all ≡ take n row ++ rest
    → rest ≡ e ∷ rest' → all ≡ take (n + 1) (set row n e) ++ rest'
row_ahead all row rest rest' n e l h g =
    h ∙ ap (λ xs. take n row ++ xs) g ∙ sym (append_assoc (take n row) (e ∷ []) rest')
    ∙ ap (λ xs. xs ++ rest') (sym (take_more_set row n e l))

-- what is written and what is ahead, in the world where the walk began
pub row_back : (w v : World) (moved : List Moved) (r r' : MoveRound) (front : List Edit) (p : Parts) (s : List Slot)
    → p ≡ w.parts → s ≡ v.state.slots → IsBack w v
    → fresh_ahead p s moved r ≡ front ++ fresh_ahead p s moved r'
    → fresh_ahead w.parts w.state.slots moved r ≡ front ++ fresh_ahead w.parts w.state.slots moved r'
row_back w v moved r r' front p s ep es back h =
    let P : Parts → Type 0 = λ q. fresh_ahead q s moved r ≡ front ++ fresh_ahead q s moved r' in
    let Q : List Slot → Type 0 = λ x. fresh_ahead w.parts x moved r ≡ front ++ fresh_ahead w.parts x moved r' in
    subst Q (es ∙ ap (λ (x : State). x.slots) back.state) (subst P ep h)

pub nothing_back : (w v : World) (moved : List Moved) (r : MoveRound) (p : Parts) (s : List Slot) → p ≡ w.parts
    → s ≡ v.state.slots → IsBack w v → fresh_ahead p s moved r ≡ [] → fresh_ahead w.parts w.state.slots moved r ≡ []
nothing_back w v moved r p s ep es back h =
    let P : Parts → Type 0 = λ q. fresh_ahead q s moved r ≡ [] in
    let Q : List Slot → Type 0 = λ x. fresh_ahead w.parts x moved r ≡ [] in
    subst Q (es ∙ ap (λ (x : State). x.slots) back.state) (subst P ep h)

pub moves_at : (p q : Parts) (s u : List Slot) (es : List Edit) → p ≡ q → s ≡ u → All (IsMove p s) es
    → All (IsMove q u) es
moves_at p q s u es ep eu h =
    let P : Parts → Type 0 = λ x. All (IsMove x s) es in
    let Q : List Slot → Type 0 = λ x. All (IsMove q x) es in
    subst Q eu (subst P ep h)
