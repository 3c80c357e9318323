-- The views are the workers of a run of a board as plain data, whatever step comes next.
use Rattle.std.proofs.Common.{◌≡◌, ◌≢◌, ℕ, zero, suc, ◌+◌, ◌-◌, ◌^◌, ◌<◌, List, [], ◌∷◌, ◌++◌, length, map, set, refl}
use Rattle.std.proofs.Common.{sym, ap, ◌∙◌, subst, arith}
use mathlib.Core.Option.{some, some-ne-none, some-injective}
use lib.ListN.{get_elem?}
use Rattle.solve_board.specs.States.{list_of, with_number, IsWorker}
use Rattle.solve_board.specs.Runs.{moved, Event, Steps, Splits, Joins, after, MayHappen, IsRun, ran, nobody}
use Rattle.solve_board.specs.Counts.{IsAmong}
use Rattle.solve_board.specs.Rule.{state_of, IsReached}
use Rattle.solve_board.specs.Views.{spent_view, claimed, offered, looked, split_view, new_view, joined_view}
use Rattle.solve_board.specs.Seats.{EndsRun}
use Rattle.solve_board.specs.declared.states.BoardState.{BoardState}
use Rattle.solve_board.specs.declared.states.BoardStep.TheVariants.{Claim, Offer, Look}
use Rattle.solve_board.specs.declared.views.BoardView.{BoardView}

run_more : (events : List Event) (s : BoardState) (e : Event) → IsRun s events → MayHappen (ran s events) e
    → IsRun s (events ++ e ∷ [])
run_more [] s e run may = (may, tt)
run_more (x ∷ events) s e run may = (run.0, run_more events (after s x) e run.1 may)

ran_more : (events : List Event) (s : BoardState) (e : Event) → ran s (events ++ e ∷ []) ≡ after (ran s events) e
ran_more [] s e = refl
ran_more (x ∷ events) s e = ran_more events (after s x) e

-- one event more
reached_more : (s t : BoardState) (e : Event) → IsReached s → MayHappen s e → after s e ≡ t → IsReached t
reached_more s t e r may is = (
  r.0 ++ e ∷ [],
  run_more r.0 nobody e r.1 (subst (λ x. MayHappen x e) (sym r.2) may),
  ran_more r.0 nobody e ∙ ap (λ x. after x e) r.2 ∙ is,
)

state_is : (n m : ℕ) (c d o p : List (List ℕ)) → n ≡ m → c ≡ d → o ≡ p
    → ◌≡◌ {A = BoardState} (record { next = n; claims = c; offers = o }) (record { next = m; claims = d; offers = p })
state_is n m c d o p a b e = λ i. record { next = a i; claims = b i; offers = e i }

module _ (f : BoardView → List ℕ) where
  map_set : (vs : List BoardView) (i : ℕ) (w : BoardView) → map f (set vs i w) ≡ set (map f vs) i (f w)
  map_set [] i w = refl
  map_set (x ∷ vs) zero w = refl
  map_set (x ∷ vs) (suc i) w = ap (λ l. f x ∷ l) (map_set vs i w)

  list_at : (vs : List BoardView) (i : ℕ) (v : BoardView) → get_elem? vs i ≡ some v → list_of (map f vs) i ≡ f v
  list_at [] i v e = absurd (some-ne-none v (sym e))
  list_at (x ∷ vs) zero v e = ap f (some-injective x v e)
  list_at (x ∷ vs) (suc i) v e = list_at vs i v e

  map_same : (vs : List BoardView) (i : ℕ) (v w : BoardView) → get_elem? vs i ≡ some v → f w ≡ f v
      → map f (set vs i w) ≡ map f vs
  map_same [] i v w e same = refl
  map_same (x ∷ vs) zero v w e same = ap (λ y. y ∷ map f vs) (same ∙ sym (ap f (some-injective x v e)))
  map_same (x ∷ vs) (suc i) v w e same = ap (λ l. f x ∷ l) (map_same vs i v w e same)

  map_last : (vs : List BoardView) (w : BoardView) → map f (vs ++ w ∷ []) ≡ map f vs ++ f w ∷ []
  map_last [] w = refl
  map_last (x ∷ vs) w = ap (λ l. f x ∷ l) (map_last vs w)

  -- a number joins the list of a view
  map_with : (vs : List BoardView) (i : ℕ) (v w : BoardView) (n : ℕ) → get_elem? vs i ≡ some v → f w ≡ f v ++ n ∷ []
      → with_number (map f vs) i n ≡ map f (set vs i w)
  map_with vs i v w n e is = ap (λ l. set (map f vs) i (l ++ n ∷ [])) (list_at vs i v e)
      ∙ ap (set (map f vs) i) (sym is) ∙ sym (map_set vs i w)

  -- the list of one view moves into another's
  map_moved : (vs : List BoardView) (i j : ℕ) (v u w s : BoardView) → get_elem? vs i ≡ some v → get_elem? vs j ≡ some u
      → f w ≡ f v ++ f u → f s ≡ [] → moved (map f vs) i j ≡ map f (set (set vs i w) j s)
  map_moved vs i j v u w s e e' is none =
      ap (λ l. set (set (map f vs) i (l ++ list_of (map f vs) j)) j []) (list_at vs i v e)
      ∙ ap (λ l. set (set (map f vs) i (f v ++ l)) j []) (list_at vs j u e')
      ∙ ap (λ l. set (set (map f vs) i l) j []) (sym is)
      ∙ ap (λ l. set l j []) (sym (map_set vs i w))
      ∙ ap (set (map f (set vs i w)) j) (sym none)
      ∙ sym (map_set (set vs i w) j s)

  there : (vs : List BoardView) (i : ℕ) (v : BoardView) → get_elem? vs i ≡ some v → i < length (map f vs)
  there [] i v e = absurd (some-ne-none v (sym e))
  there (x ∷ vs) zero v e = omega arith
  there (x ∷ vs) (suc i) v e = omega (arith, there vs i v e)

abbrev claims_of : BoardView → List ℕ
claims_of v = v.claims

abbrev offers_of : BoardView → List ℕ
offers_of v = v.offers

module _ (next : ℕ) (views : List BoardView) (id : ℕ) (v : BoardView) (at : get_elem? views id ≡ some v)
    (r : IsReached (state_of next views)) where
  worker : IsWorker (state_of next views) id
  worker = (there claims_of views id v at, there offers_of views id v at)

  pub claim_reached : next < 2 ^ 64 - 1 → IsReached (state_of (suc next) (set views id (claimed v next)))
  claim_reached small = reached_more (state_of next views) (state_of (suc next) (set views id (claimed v next)))
      (Steps (Claim id)) r (worker, small)
      (state_is (next + 1) (suc next) _ _ _ _ (omega arith)
      (map_with claims_of views id v (claimed v next) next at refl)
      (sym (map_same offers_of views id v (claimed v next) at refl)))

  pub offer_reached : (job word : ℕ) → IsAmong job v.claims
      → IsReached (state_of next (set views id (offered v job word)))
  offer_reached job word is = reached_more (state_of next views) (state_of next (set views id (offered v job word)))
      (Steps (Offer id job)) r (worker, subst (IsAmong job) (sym (list_at claims_of views id v at)) is)
      (state_is next next _ _ _ _ refl (sym (map_same claims_of views id v (offered v job word) at refl))
      (map_with offers_of views id v (offered v job word) job at refl))

  pub look_reached : (word : ℕ) → IsReached (state_of next (set views id (looked v word)))
  look_reached word = reached_more (state_of next views) (state_of next (set views id (looked v word)))
      (Steps (Look id)) r worker
      (state_is next next _ _ _ _ refl (sym (map_same claims_of views id v (looked v word) at refl))
      (sym (map_same offers_of views id v (looked v word) at refl)))

  pub split_reached : IsReached (state_of next (set views id (split_view v) ++ new_view v ∷ []))
  split_reached = reached_more (state_of next views) (state_of next (set views id (split_view v) ++ new_view v ∷ []))
      Splits r tt
      (state_is next next _ _ _ _ refl (last claims_of refl refl) (last offers_of refl refl))
    where
      last : (f : BoardView → List ℕ) → f (split_view v) ≡ f v → f (new_view v) ≡ []
          → map f views ++ [] ∷ [] ≡ map f (set views id (split_view v) ++ new_view v ∷ [])
      last f same none =
          ap (λ l. l ++ [] ∷ []) (sym (map_same f views id v (split_view v) at same))
          ∙ ap (λ x. map f (set views id (split_view v)) ++ x ∷ []) (sym none)
          ∙ sym (map_last f (set views id (split_view v)) (new_view v))

  pub join_reached : (other : ℕ) (u : BoardView) → get_elem? views other ≡ some u → other ≢ id
      → IsReached (state_of next (set (set views id (joined_view v u)) other spent_view))
  join_reached other u there' apart = reached_more (state_of next views)
      (state_of next (set (set views id (joined_view v u)) other spent_view)) (Joins id other) r
      (worker, (there claims_of views other u there', there offers_of views other u there'), λ e. apart (sym e))
      (state_is next next _ _ _ _ refl
      (map_moved claims_of views id other v u (joined_view v u) spent_view at there' refl refl)
      (map_moved offers_of views id other v u (joined_view v u) spent_view at there' refl refl))

-- the claims and offers of a view are those of a worker of the run
pub ends_run : (next : ℕ) (views : List BoardView) (id : ℕ) (v : BoardView) → get_elem? views id ≡ some v
    → IsReached (state_of next views) → EndsRun v next
ends_run next views id v at r = (
  r.0,
  r.1,
  ap (λ (s : BoardState). s.next) r.2,
  (
    id,
    ap (λ (s : BoardState). list_of s.claims id) r.2 ∙ list_at claims_of views id v at,
    ap (λ (s : BoardState). list_of s.offers id) r.2 ∙ list_at offers_of views id v at,
  ),
)
