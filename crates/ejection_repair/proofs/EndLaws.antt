-- Looking at the last moves of chains, of which only the states that they leave count.
use Rattle.std.proofs.Common.{ℕ, zero, suc, ◌≡◌, ◌==◌, ◌-◌, ◌<◌, ◌+◌, true, false, cond, List, [], ◌∷◌, ◌++◌, map}
use Rattle.std.proofs.Common.{length, drop, get_or, take, refl, sym, ap, subst, ◌∙◌, arith}
use Rattle.std.specs.Prelude.{All}
use Rattle.std.proofs.lemmas.Bool.{eqb-true}
use Rattle.std.proofs.lemmas.List.{drop-map, drop_more, map-append, take-append-drop}
use Rattle.std.proofs.lemmas.List.Elements.{All-drop, All-head, All-same}
use Rattle.std.specs.List.{filter, flat_map}
use Rattle.khe_base.specs.declared.sums.Totals.{Totals}
use Rattle.khe_instance.specs.declared.parts.Parts.{Parts}
use Rattle.khe_told.specs.declared.edits.Edit.{Edit}
use Rattle.khe_engine.specs.States.{State, edited}
use Rattle.khe_engine.specs.Worlds.{World}
use Rattle.repair_moves.specs.Moves.{moves}
use Rattle.ejection_repair.specs.Chains.{Chain, rotated, longer, tried, extensions, further_at}
use Rattle.ejection_repair.specs.Kept.{IsBack}
use Rattle.ejection_repair.specs.Lifts.{IsMove, ended, fresh_ahead, put_of}
use Rattle.ejection_repair.specs.Looks.{through, found, spent, look, chain_at}
use Rattle.ejection_repair.specs.Rounds.{moves_ahead}
use Rattle.ejection_repair.specs.Trails.{moved_of, is_fresh}
use Rattle.ejection_repair.specs.Values.{totals_at, are_lower}
use Rattle.ejection_repair.specs.declared.rounds.MoveRound.{MoveRound}
use Rattle.ejection_repair.specs.declared.trails.Trail.{Trail}
use Rattle.ejection_repair.proofs.LookLaws.{look_through, look_found, look_spent, look_nothing}
use Rattle.ejection_repair.proofs.SearchLaws.{extensions_more, further_no_more}

-- one state
one_cases : (p : Parts) (s : State) (e : Edit) (t : Totals) (n : ℕ) → 0 < n
    → look p t n (ended s e ∷ []) ≡ cond (are_lower (totals_at p (edited s e)) t) (found (edited s e) (n - 1))
    (through (n - 1))
unfolding look ended
one_cases p s e t zero l = absurd (omega arith)
one_cases p s e t (suc n) l =
    ap (λ m. cond (are_lower (totals_at p (edited s e)) t) (found (edited s e) m) (through m))
    (let q : n ≡ suc n - 1 = omega arith in q)

pub one_spent : (p : Parts) (s : State) (e : Edit) (t : Totals) (n : ℕ) → n ≡ 0 → look p t n (ended s e ∷ []) ≡ spent
unfolding look
one_spent p s e t n h = ap (λ n. look p t n (ended s e ∷ [])) h

pub one_found : (w : World) (e : Edit) (t : Totals) (n : ℕ) (s : State) → s ≡ edited w.state e → 0 < n
    → are_lower (totals_at w.parts (edited w.state e)) t ≡ true
    → look w.parts t n (ended w.state e ∷ []) ≡ found s (n - 1)
one_found w e t n s k l low =
    one_cases w.parts w.state e t n l
    ∙ ap (λ b. cond b (found (edited w.state e) (n - 1)) (through (n - 1))) low
    ∙ ap (λ x. found x (n - 1)) (sym k)

pub one_through : (w : World) (e : Edit) (t : Totals) (n : ℕ) → 0 < n
    → are_lower (totals_at w.parts (edited w.state e)) t ≡ false
    → look w.parts t n (ended w.state e ∷ []) ≡ through (n - 1)
one_through w e t n l low =
    one_cases w.parts w.state e t n l
    ∙ ap (λ b. cond b (found (edited w.state e) (n - 1)) (through (n - 1))) low

-- the first of a list of moves, from a world that is back where it was
ends_back : (w v : World) (t : Totals) (n : ℕ) (xs ys all : List Edit) → IsBack w v → all ≡ xs ++ ys
    → (look w.parts t n (map (ended w.state) xs) ≡ look v.parts t n (map (ended v.state) xs))
    × (map (ended w.state) all ≡ map (ended w.state) xs ++ map (ended w.state) ys)
ends_back w v t n xs ys all back eq = (
  ap (λ q. look q t n (map (ended w.state) xs)) (sym back.parts)
      ∙ ap (λ s. look v.parts t n (map (ended s) xs)) (sym back.state),
  ap (map (ended w.state)) eq ∙ map-append (ended w.state) xs ys,
)

pub ends_through : (w v : World) (t : Totals) (n m : ℕ) (xs ys all : List Edit) → IsBack w v → all ≡ xs ++ ys
    → look v.parts t n (map (ended v.state) xs) ≡ through m
    → look w.parts t n (map (ended w.state) all) ≡ look w.parts t m (map (ended w.state) ys)
ends_through w v t n m xs ys all back eq h =
    let e = ends_back w v t n xs ys all back eq in
    ap (look w.parts t n) e.1 ∙ look_through w.parts t n m _ _ (e.0 ∙ h)

pub ends_found : (w v : World) (t : Totals) (n m : ℕ) (s : State) (xs ys all : List Edit) → IsBack w v → all ≡ xs ++ ys
    → look v.parts t n (map (ended v.state) xs) ≡ found s m
    → look w.parts t n (map (ended w.state) all) ≡ found s m
ends_found w v t n m s xs ys all back eq h =
    let e = ends_back w v t n xs ys all back eq in
    ap (look w.parts t n) e.1 ∙ look_found w.parts t n m s _ _ (e.0 ∙ h)

pub ends_spent : (w v : World) (t : Totals) (n : ℕ) (xs ys all : List Edit) → IsBack w v → all ≡ xs ++ ys
    → look v.parts t n (map (ended v.state) xs) ≡ spent
    → look w.parts t n (map (ended w.state) all) ≡ spent
ends_spent w v t n xs ys all back eq h =
    let e = ends_back w v t n xs ys all back eq in
    ap (look w.parts t n) e.1 ∙ look_spent w.parts t n _ _ (e.0 ∙ h)

-- moves of a world that is back where it was
pub moves_back : (w v : World) (es : List Edit) → IsBack w v → All (IsMove w.parts w.state.slots) es
    → All (IsMove v.parts v.state.slots) es
moves_back w v es back h =
    let P : Parts → Type 0 = λ q. All (IsMove q w.state.slots) es in
    let Q : State → Type 0 = λ s. All (IsMove v.parts s.slots) es in
    subst Q (sym back.state) (subst P (sym back.parts) h)

-- extensions by one move
single : (p : Parts) (marked : List ℕ) (v : ℕ) (c : Chain) (es : List Edit)
    → flat_map (λ e. longer c e ∷ further_at p marked v 0 (longer c e)) es ≡ map (longer c) es
single p marked v c [] = refl
single p marked v c (e ∷ es) =
    ap (λ ys. longer c e ∷ (ys ++ flat_map (λ e. longer c e ∷ further_at p marked v 0 (longer c e)) es))
    (further_no_more p marked v (longer c e))
    ∙ ap (λ ys. longer c e ∷ ys) (single p marked v c es)

states_alone : (p : Parts) (t : Totals) (c : Chain) (es : List Edit) (n : ℕ)
    → look p t n (map (longer c) es) ≡ look p t n (map (ended c.state) es)
unfolding look longer ended
states_alone p t c [] n = refl
states_alone p t c (e ∷ es) zero = refl
states_alone p t c (e ∷ es) (suc n) =
    ap (cond (are_lower (totals_at p (edited c.state e)) t) (found (edited c.state e) n)) (states_alone p t c es n)

pub last_ends : (p : Parts) (marked : List ℕ) (v : ℕ) (c : Chain) (t : Totals) (n : ℕ) (es : List Edit)
    → look p t n (tried (further_at p marked v 0) c es)
    ≡ look p t n (map (ended c.state) (filter (is_fresh c.state.slots c.moved) es))
unfolding tried
last_ends p marked v c t n es =
    let fs = filter (is_fresh c.state.slots c.moved) es in
    ap (look p t n) (single p marked v c fs) ∙ states_alone p t c fs n

-- the next of several moves that are put, in a world that is back where it was
pub puts_on : (es : List Edit) (i : ℕ) (d e : Edit) → i < length es → e ≡ put_of (get_or es i d)
    → map put_of (drop i es) ≡ (e ∷ []) ++ map put_of (drop (i + 1) es)
puts_on es i d e l h =
    ap (map put_of) (drop_more es i d l) ∙ ap (λ x. x ∷ map put_of (drop (i + 1) es)) (sym h)

pub put_there : (w v : World) (es : List Edit) (i : ℕ) (d e : Edit) → IsBack w v
    → All (IsMove w.parts w.state.slots) (map put_of es) → i < length es → e ≡ put_of (get_or es i d)
    → IsMove v.parts v.state.slots e
put_there w v es i d e back h l g =
    let P = IsMove v.parts v.state.slots in
    let all = moves_back w v (map put_of es) back h in
    let rest = All-same P (map put_of (drop i es)) (drop i (map put_of es)) (sym (drop-map put_of i es))
    (All-drop P i (map put_of es) all) in
    All-head P e (map put_of (drop (i + 1) es))
    (All-same P (e ∷ map put_of (drop (i + 1) es)) (map put_of (drop i es)) (sym (puts_on es i d e l g)) rest)

-- all were looked at
pub ends_done : (p : Parts) (s : State) (t : Totals) (n : ℕ) (es : List Edit) → es ≡ []
    → look p t n (map (ended s) es) ≡ through n
ends_done p s t n es e = look_nothing p t n _ (ap (map (ended s)) e)

-- a move by itself
pub one_alone : (s : State) (es : List Edit) (d : Edit) → length es ≡ 1
    → map (ended s) es ≡ ended s (get_or es 0 d) ∷ []
one_alone s [] d l = absurd (omega arith)
one_alone s (e ∷ []) d l = refl
one_alone s (e ∷ f ∷ es) d l = absurd (omega arith)

-- a list that is empty
pub none_left : (es : List Edit) → (length es == 0) ≡ true → es ≡ []
none_left [] h = refl
none_left (e ∷ es) h = absurd (let n = eqb-true (length (e ∷ es)) 0 h in omega arith)

-- the two parts that a list is cut into
pub both_parts : (es first later : List Edit) (n : ℕ) → first ≡ take n es → later ≡ drop n es → es ≡ first ++ later
both_parts es first later n f l =
    sym (take-append-drop n es) ∙ ap (λ xs. xs ++ drop n es) (sym f) ∙ ap (λ xs. first ++ xs) (sym l)

-- the walk of the last moves begins
pub begun_last : (w : World) (t : Trail) (r : MoveRound) (d m n : ℕ) (lowest : Totals)
    → moves_ahead w.parts w.state.slots r ≡ rotated d (moves w.parts w.state.slots m)
    → look w.parts lowest n (map (ended w.state) (fresh_ahead w.parts w.state.slots (moved_of t) r))
    ≡ look w.parts lowest n (extensions w.parts w.marked d 1 (chain_at t w) m)
unfolding fresh_ahead
begun_last w t r d m n lowest h =
    let c = chain_at t w in
    ap (λ es. look w.parts lowest n (map (ended w.state) (filter (is_fresh w.state.slots (moved_of t)) es))) h
    ∙ sym (last_ends w.parts w.marked d c lowest n (rotated d (moves w.parts w.state.slots m)))
    ∙ ap (look w.parts lowest n) (sym (extensions_more w.parts w.marked d 1 c m (omega arith)))
