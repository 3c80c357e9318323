-- What a search has looked at, move by move.
use Rattle.std.proofs.Common.{ℕ, zero, suc, ◌≡◌, ◌+◌, ◌-◌, ◌<◌, ◌≤◌, Option, Some, None, Bool, true, false, cond, List}
use Rattle.std.proofs.Common.{[], ◌∷◌, ◌++◌, length, refl, ap, ◌∙◌, sym, subst, arith}
use Rattle.std.specs.List.{filter, flat_map}
use Rattle.std.specs.Option.{option_map_or, option_map}
use Rattle.khe_base.specs.declared.numbers.MonitorId.{MonitorId}
use Rattle.khe_base.specs.declared.sums.Totals.{Totals}
use Rattle.khe_instance.specs.declared.parts.Parts.{Parts}
use Rattle.khe_told.specs.declared.edits.Edit.{Edit}
use Rattle.khe_told.specs.declared.slots.Slot.{Slot}
use Rattle.khe_engine.specs.States.{State, edited}
use Rattle.khe_engine.specs.Worlds.{World, closed}
use Rattle.monitor_graph.specs.Dearer.{dearer, only}
use Rattle.repair_moves.specs.Moved.{moved_by}
use Rattle.repair_moves.specs.Moves.{moves}
use Rattle.repair_moves.specs.declared.moved.Moved.{Moved}
use Rattle.ejection_repair.specs.Chains.{Chain, rotated, longer, tried, extensions, further_at, onward}
use Rattle.ejection_repair.specs.Kept.{IsBack, IsInside, IsKept, room, states}
use Rattle.ejection_repair.specs.Looks.{Looking, through, found, spent, look, chain_at}
use Rattle.ejection_repair.specs.Rounds.{moves_ahead, IsRound}
use Rattle.ejection_repair.specs.Trails.{moved_of, is_fresh}
use Rattle.ejection_repair.specs.Values.{costs_at, totals_at, are_lower}
use Rattle.ejection_repair.specs.declared.rounds.MoveRound.{MoveRound}
use Rattle.ejection_repair.specs.declared.trails.Trail.{Trail}
use Rattle.ejection_repair.proofs.LookLaws.{look_through, look_found, look_spent, look_nothing}
use Rattle.ejection_repair.proofs.MarkLaws.{closed_states, closed_count}

-- one move of a list
pub tried_fresh : (on : Chain → List Chain) (c : Chain) (e : Edit) (es : List Edit)
    → is_fresh c.state.slots c.moved e ≡ true
    → tried on c (e ∷ es) ≡ (longer c e ∷ on (longer c e)) ++ tried on c es
unfolding tried
tried_fresh on c e es h = ap (λ b. flat_map (λ x. longer c x ∷ on (longer c x))
    (cond b (e ∷ filter (is_fresh c.state.slots c.moved) es) (filter (is_fresh c.state.slots c.moved) es))) h

pub tried_stale : (on : Chain → List Chain) (c : Chain) (e : Edit) (es : List Edit)
    → is_fresh c.state.slots c.moved e ≡ false
    → tried on c (e ∷ es) ≡ tried on c es
unfolding tried
tried_stale on c e es h = ap (λ b. flat_map (λ x. longer c x ∷ on (longer c x))
    (cond b (e ∷ filter (is_fresh c.state.slots c.moved) es) (filter (is_fresh c.state.slots c.moved) es))) h

pub tried_none : (on : Chain → List Chain) (c : Chain) → tried on c [] ≡ []
unfolding tried
tried_none on c = refl

-- extensions by at least one move
pub extensions_more : (p : Parts) (marked : List ℕ) (v k : ℕ) (c : Chain) (m : ℕ) → 0 < k
    → extensions p marked v k c m ≡ tried (further_at p marked v (k - 1)) c (rotated v (moves p c.state.slots m))
unfolding extensions further_at
extensions_more p marked v zero c m l = absurd (omega arith)
extensions_more p marked v (suc k) c m l = ap (λ n. tried (further_at p marked v n) c
    (rotated v (moves p c.state.slots m))) (let e : k ≡ suc k - 1 = omega arith in e)

pub extensions_none : (p : Parts) (marked : List ℕ) (v : ℕ) (c : Chain) (m : ℕ) → extensions p marked v 0 c m ≡ []
unfolding extensions
extensions_none p marked v c m = refl

-- the chain after a move
pub chain_made : (w v : World) (t t' : Trail) (e : Edit) → moved_of t' ≡ moved_of t ++ moved_by w.state.slots e
    → v.state ≡ edited w.state e
    → chain_at t' v ≡ longer (chain_at t w) e
unfolding longer
chain_made w v t t' e m s =
    let f : List Moved → Chain = λ x. record { moved = x; state = v.state } in
    let g : State → Chain = λ y. record { moved = moved_of t ++ moved_by w.state.slots e; state = y } in
    ap f m ∙ ap g s

-- no try is left
pub onward_none : (p : Parts) (marked : List ℕ) (v k : ℕ) (d : Chain) (t : Totals) (n : ℕ) → n ≡ 0
    → look p t n (onward p marked v k d) ≡ spent
unfolding look onward
onward_none p marked v k d t n e = ap (λ n. look p t n (onward p marked v k d)) e

onward_cases : (p : Parts) (marked : List ℕ) (v k : ℕ) (d : Chain) (t : Totals) (n : ℕ) → 0 < n
    → look p t n (onward p marked v k d) ≡ cond (are_lower (totals_at p d.state) t) (found d.state (n - 1))
    (look p t (n - 1) (further_at p marked v k d))
unfolding look onward
onward_cases p marked v k d t zero l = absurd (omega arith)
onward_cases p marked v k d t (suc n) l =
    ap (λ m. cond (are_lower (totals_at p d.state) t) (found d.state m) (look p t m (further_at p marked v k d)))
    (let e : n ≡ suc n - 1 = omega arith in e)

-- the chain is lower
pub onward_lower : (w v : World) (t t' : Trail) (e : Edit) (d k n : ℕ) (lowest : Totals) → IsInside w v
    → chain_at t' v ≡ longer (chain_at t w) e → 0 < n
    → are_lower (totals_at v.parts v.state) lowest ≡ true
    → look w.parts lowest n (onward w.parts w.marked d k (longer (chain_at t w) e)) ≡ found v.state (n - 1)
onward_lower w v t t' e d k n lowest inside chain l low =
    let c = longer (chain_at t w) e in
    let same : c.state ≡ v.state = ap (λ x. x.state) (sym chain) in
    let low2 : are_lower (totals_at w.parts c.state) lowest ≡ true =
    ap (λ s. are_lower (totals_at w.parts s) lowest) same
    ∙ ap (λ q. are_lower (totals_at q v.state) lowest) (sym inside.parts) ∙ low in
    onward_cases w.parts w.marked d k c lowest n l
    ∙ ap (λ b. cond b (found c.state (n - 1)) (look w.parts lowest (n - 1) (further_at w.parts w.marked d k c))) low2
    ∙ ap (λ s. found s (n - 1)) same

-- the chain isn't lower, and its extensions are looked at
pub onward_further : (w v : World) (t t' : Trail) (e : Edit) (d k n : ℕ) (lowest : Totals) → IsInside w v
    → chain_at t' v ≡ longer (chain_at t w) e → 0 < n
    → are_lower (totals_at v.parts v.state) lowest ≡ false
    → look w.parts lowest n (onward w.parts w.marked d k (longer (chain_at t w) e))
    ≡ look v.parts lowest (n - 1) (further_at v.parts v.marked d k (chain_at t' v))
onward_further w v t t' e d k n lowest inside chain l low =
    let c = longer (chain_at t w) e in
    let same : c.state ≡ v.state = ap (λ x. x.state) (sym chain) in
    let low2 : are_lower (totals_at w.parts c.state) lowest ≡ false =
    ap (λ s. are_lower (totals_at w.parts s) lowest) same
    ∙ ap (λ q. are_lower (totals_at q v.state) lowest) (sym inside.parts) ∙ low in
    onward_cases w.parts w.marked d k c lowest n l
    ∙ ap (λ b. cond b (found c.state (n - 1)) (look w.parts lowest (n - 1) (further_at w.parts w.marked d k c))) low2
    ∙ ap (λ x. look w.parts lowest (n - 1) (further_at w.parts w.marked d k x)) (sym chain)
    ∙ ap (λ q. look q lowest (n - 1) (further_at q w.marked d k (chain_at t' v))) (sym inside.parts)
    ∙ ap (λ m. look v.parts lowest (n - 1) (further_at v.parts m d k (chain_at t' v))) (sym inside.marked)

-- a search inside a mark that came back leaves the world inside it
pub inside_kept : (w v u : World) → IsInside w v → IsKept v u → room v ≤ room u → u.saved ≡ v.saved → IsInside w u
inside_kept w v u inside kept more saved = record {
  parts = kept.parts ∙ inside.parts;
  marked = kept.marked ∙ inside.marked;
  room = let h = inside.room in omega arith;
  trail = inside.trail;
  saved = saved ∙ inside.saved;
}

-- a mark that is closed after its search found something
pub kept_inside : (w v u x : World) → IsInside w v → IsKept v u → x.parts ≡ u.parts → x.marked ≡ u.marked
    → x.saved ≡ closed u.saved → IsKept w x
kept_inside w v u x inside kept parts marked saved = record {
  parts = parts ∙ kept.parts ∙ inside.parts;
  marked = marked ∙ kept.marked ∙ inside.marked;
  saved = ap states saved ∙ closed_states u.saved w.state (states w.saved) (kept.saved ∙ ap states inside.saved);
  count = ap length saved ∙ closed_count u.saved (length w.saved)
      (kept.count ∙ ap length inside.saved ∙ (let e : suc (length w.saved) ≡ length w.saved + 1 = omega arith in e));
}

pub kept_itself : (w : World) → IsKept w w
kept_itself w = record { parts = refl; saved = refl; marked = refl; count = refl }

pub back_kept : (w v : World) → IsBack w v → IsKept w v
back_kept w v back = record {
  parts = back.parts;
  saved = ap states back.saved;
  marked = back.marked;
  count =
      ap length back.saved;
}

-- from a world that is back where it was the same is tried
pub onward_back : (w v : World) (t : Trail) (e : Edit) (d k : ℕ) → IsBack w v
    → onward v.parts v.marked d k (longer (chain_at t v) e) ≡ onward w.parts w.marked d k (longer (chain_at t w) e)
onward_back w v t e d k back =
    ap (λ q. onward q v.marked d k (longer (chain_at t v) e)) back.parts
    ∙ ap (λ m. onward w.parts m d k (longer (chain_at t v) e)) back.marked
    ∙ ap (λ s. onward w.parts w.marked d k (longer (let c : Chain = record { moved = moved_of t; state = s } in c) e))
    back.state

-- what a list of moves begins with, and what comes after
pub tried_onward : (w v : World) (t : Trail) (e : Edit) (es all : List Edit) (d k : ℕ) → IsBack w v → all ≡ e ∷ es
    → is_fresh v.state.slots (moved_of t) e ≡ true
    → tried (further_at w.parts w.marked d k) (chain_at t w) all
    ≡ onward v.parts v.marked d k (longer (chain_at t v) e) ++ tried (further_at w.parts w.marked d k) (chain_at t w) es
unfolding onward
tried_onward w v t e es all d k back eq fresh =
    let on = further_at w.parts w.marked d k in
    let fresh2 : is_fresh w.state.slots (moved_of t) e ≡ true =
    ap (λ s. is_fresh s.slots (moved_of t) e) (sym back.state) ∙ fresh in
    ap (tried on (chain_at t w)) eq
    ∙ tried_fresh on (chain_at t w) e es fresh2
    ∙ ap (λ xs. xs ++ tried on (chain_at t w) es) (sym (onward_back w v t e d k back))

pub tried_passed : (w v : World) (t : Trail) (e : Edit) (es all : List Edit) (d k : ℕ) → IsBack w v → all ≡ e ∷ es
    → is_fresh v.state.slots (moved_of t) e ≡ false
    → tried (further_at w.parts w.marked d k) (chain_at t w) all
    ≡ tried (further_at w.parts w.marked d k) (chain_at t w) es
tried_passed w v t e es all d k back eq stale =
    let on = further_at w.parts w.marked d k in
    let stale2 : is_fresh w.state.slots (moved_of t) e ≡ false =
    ap (λ s. is_fresh s.slots (moved_of t) e) (sym back.state) ∙ stale in
    ap (tried on (chain_at t w)) eq ∙ tried_stale on (chain_at t w) e es stale2

pub back_again : (w v u : World) → IsBack w v → IsKept v u → room v ≤ room u → u.state ≡ v.state → u.saved ≡ v.saved
    → IsBack w u
back_again w v u back kept more state saved = record {
  parts = kept.parts ∙ back.parts;
  marked = kept.marked ∙ back.marked;
  room = let h = back.room in omega arith;
  state = state ∙ back.state;
  saved = saved ∙ back.saved;
}

pub back_itself : (w : World) → IsBack w w
back_itself w = record { parts = refl; marked = refl; room = omega arith; state = refl; saved = refl }

-- the extensions by the only monitor that is dearer
pub further_none : (p : Parts) (marked : List ℕ) (v k : ℕ) (d : Chain)
    → only (dearer marked (costs_at p d.state)) ≡ None → further_at p marked v k d ≡ []
unfolding further_at
further_none p marked v k d e = ap (λ o. option_map_or (extensions p marked v k d) o []) e

pub further_some : (p : Parts) (marked : List ℕ) (v k : ℕ) (d : Chain) (m : ℕ)
    → only (dearer marked (costs_at p d.state)) ≡ Some m → further_at p marked v k d ≡ extensions p marked v k d m
unfolding further_at
further_some p marked v k d m e = ap (λ o. option_map_or (extensions p marked v k d) o []) e

pub further_no_more : (p : Parts) (marked : List ℕ) (v : ℕ) (d : Chain) → further_at p marked v 0 d ≡ []
unfolding further_at extensions
further_no_more p marked v d = by (only (dearer marked (costs_at p d.state)))
  where
    by : (o : Option ℕ) → option_map_or (extensions p marked v 0 d) o [] ≡ []
    by None = refl
    by (Some m) = refl

-- the next move of a walk, in the world where the walk began
pub next_back : (w v : World) (r r' : MoveRound) (e : Edit) (p : Parts) (s : List Slot) → p ≡ w.parts
    → s ≡ v.state.slots → IsBack w v
    → moves_ahead p s r ≡ e ∷ moves_ahead p s r' → moves_ahead w.parts w.state.slots r
    ≡ e ∷ moves_ahead w.parts w.state.slots r'
next_back w v r r' e p s ep es back h =
    let P : Parts → Type 0 = λ q. moves_ahead q s r ≡ e ∷ moves_ahead q s r' in
    let Q : List Slot → Type 0 = λ x. moves_ahead w.parts x r ≡ e ∷ moves_ahead w.parts x r' in
    subst Q (es ∙ ap (λ (x : State). x.slots) back.state) (subst P ep h)

pub none_back : (w v : World) (r : MoveRound) (p : Parts) (s : List Slot) → p ≡ w.parts → s ≡ v.state.slots → IsBack w v
    → moves_ahead p s r ≡ [] → moves_ahead w.parts w.state.slots r ≡ []
none_back w v r p s ep es back h =
    let P : Parts → Type 0 = λ q. moves_ahead q s r ≡ [] in
    let Q : List Slot → Type 0 = λ x. moves_ahead w.parts x r ≡ [] in
    subst Q (es ∙ ap (λ (x : State). x.slots) back.state) (subst P ep h)

pub fresh_back : (v : World) (t : Trail) (e : Edit) (b x : Bool) (s : List Slot) → s ≡ v.state.slots
    → x ≡ is_fresh s (moved_of t) e → x ≡ b → is_fresh v.state.slots (moved_of t) e ≡ b
fresh_back v t e b x s es h g = ap (λ y. is_fresh y (moved_of t) e) (sym es) ∙ sym h ∙ g

-- the chain after a move, as the calls say it
pub chain_of : (w v : World) (t t' : Trail) (e : Edit) (s : List Slot) → s ≡ w.state.slots
    → moved_of t' ≡ moved_of t ++ moved_by s e
    → v.state ≡ edited w.state e → chain_at t' v ≡ longer (chain_at t w) e
chain_of w v t t' e s es m h = chain_made w v t t' e (m ∙ ap (λ x. moved_of t ++ moved_by x e) es) h

pub lower_of : (p : Parts) (s : State) (lowest x : Totals) (r b : Bool) → x ≡ totals_at p s → r ≡ are_lower x lowest
    → r ≡ b → are_lower (totals_at p s) lowest ≡ b
lower_of p s lowest x r b e f g = ap (λ y. are_lower y lowest) (sym e) ∙ sym f ∙ g

-- one move of the walk: what is still to be looked at
look_moved : (w v : World) (lowest : Totals) (n : ℕ) (xs : List Chain) (l : Looking) → IsBack w v
    → look v.parts lowest n xs ≡ l → look w.parts lowest n xs ≡ l
look_moved w v lowest n xs l back h = ap (λ q. look q lowest n xs) (sym back.parts) ∙ h

pub loop_through : (w v : World) (t : Trail) (e : Edit) (es all : List Edit) (d k n m : ℕ) (lowest : Totals)
    → IsBack w v → all ≡ e ∷ es
    → is_fresh v.state.slots (moved_of t) e ≡ true
    → look v.parts lowest n (onward v.parts v.marked d k (longer (chain_at t v) e)) ≡ through m
    → look w.parts lowest n (tried (further_at w.parts w.marked d k) (chain_at t w) all)
    ≡ look w.parts lowest m (tried (further_at w.parts w.marked d k) (chain_at t w) es)
loop_through w v t e es all d k n m lowest back eq fresh h =
    ap (look w.parts lowest n) (tried_onward w v t e es all d k back eq fresh)
    ∙ look_through w.parts lowest n m _ _ (look_moved w v lowest n _ _ back h)

pub loop_found : (w v : World) (t : Trail) (e : Edit) (es all : List Edit) (d k n m : ℕ) (s : State) (lowest : Totals)
    → IsBack w v → all ≡ e ∷ es
    → is_fresh v.state.slots (moved_of t) e ≡ true
    → look v.parts lowest n (onward v.parts v.marked d k (longer (chain_at t v) e)) ≡ found s m
    → look w.parts lowest n (tried (further_at w.parts w.marked d k) (chain_at t w) all) ≡ found s m
loop_found w v t e es all d k n m s lowest back eq fresh h =
    ap (look w.parts lowest n) (tried_onward w v t e es all d k back eq fresh)
    ∙ look_found w.parts lowest n m s _ _ (look_moved w v lowest n _ _ back h)

pub loop_spent : (w v : World) (t : Trail) (e : Edit) (es all : List Edit) (d k n : ℕ) (lowest : Totals) → IsBack w v
    → all ≡ e ∷ es
    → is_fresh v.state.slots (moved_of t) e ≡ true
    → look v.parts lowest n (onward v.parts v.marked d k (longer (chain_at t v) e)) ≡ spent
    → look w.parts lowest n (tried (further_at w.parts w.marked d k) (chain_at t w) all) ≡ spent
loop_spent w v t e es all d k n lowest back eq fresh h =
    ap (look w.parts lowest n) (tried_onward w v t e es all d k back eq fresh)
    ∙ look_spent w.parts lowest n _ _ (look_moved w v lowest n _ _ back h)

pub loop_stale : (w v : World) (t : Trail) (e : Edit) (es all : List Edit) (d k n : ℕ) (lowest : Totals) → IsBack w v
    → all ≡ e ∷ es
    → is_fresh v.state.slots (moved_of t) e ≡ false
    → look w.parts lowest n (tried (further_at w.parts w.marked d k) (chain_at t w) all)
    ≡ look w.parts lowest n (tried (further_at w.parts w.marked d k) (chain_at t w) es)
loop_stale w v t e es all d k n lowest back eq stale =
    ap (look w.parts lowest n) (tried_passed w v t e es all d k back eq stale)

pub loop_done : (w : World) (t : Trail) (all : List Edit) (d k n : ℕ) (lowest : Totals) → all ≡ []
    → look w.parts lowest n (tried (further_at w.parts w.marked d k) (chain_at t w) all) ≡ through n
loop_done w t all d k n lowest e =
    look_nothing w.parts lowest n _ (ap (tried (further_at w.parts w.marked d k) (chain_at t w)) e
    ∙ tried_none (further_at w.parts w.marked d k) (chain_at t w))

-- a number of a monitor, made of an optional number
pub no_number : (o : Option ℕ) (r : Option MonitorId) → r ≡ option_map (λ m. record { 0 = m }) o → r ≡ None → o ≡ None
no_number None r e f = refl
no_number (Some m) r e f = absurd (let g : ⊥ = cc in g)

pub a_number : (o : Option ℕ) (r : Option MonitorId) (x : MonitorId) → r ≡ option_map (λ m. record { 0 = m }) o
    → r ≡ Some x → o ≡ Some x.0
a_number None r x e f = absurd (let g : ⊥ = cc in g)
a_number (Some m) r x e f =
    let f2 : Option MonitorId → Option ℕ = λ o. option_map (λ y. y.0) o in
    ap f2 (sym e ∙ f)

-- the walk begins
pub begun_ahead : (p q : Parts) (s u : List Slot) (r : MoveRound) (v m : ℕ) → p ≡ q → s ≡ u
    → moves_ahead p s r ≡ rotated v (moves p s m) → moves_ahead q u r ≡ rotated v (moves q u m)
begun_ahead p q s u r v m e f h =
    let P : Parts → Type 0 = λ x. moves_ahead x s r ≡ rotated v (moves x s m) in
    let Q : List Slot → Type 0 = λ x. moves_ahead q x r ≡ rotated v (moves q x m) in
    subst Q f (subst P e h)

pub round_of : (p q : Parts) (r : MoveRound) → p ≡ q → IsRound p r → IsRound q r
round_of p q r e h = subst (λ x. IsRound x r) e h
