-- A join keeps the rule of a board, and what its second load tells.
use Rattle.std.proofs.Common.{◌≡◌, ◌≢◌, ℕ, ◌+◌, ◌<◌, ◌≤◌, List, ◌++◌, set, refl, sym, subst, ⊎_elim, arith}
use Rattle.std.specs.Prelude.{min, slice_index, slice_set}
use mathlib.Core.Option.{some, none}
use native.Mathlib.Decide.{dec_lt}
use lib.ListN.{get_elem?}
use Rattle.atomic_table.specs.Table.{step, Act, keeps, Valid, homes_after, carried_after, Allows, Joins}
use Rattle.atomic_table.proofs.Lists.{at_set, set_again}
use Rattle.solve_board.specs.Counts.{weigh, one_at, one_from, times, IsAmong}
use Rattle.solve_board.specs.Views.{spent_view, joined_view}
use Rattle.solve_board.specs.Rule.{IsOffered, IsView, IsKept, Holds}
use Rattle.solve_board.specs.Plays.{Seated, Tells}
use Rattle.solve_board.specs.declared.views.BoardView.{BoardView}
use Rattle.solve_board.proofs.ReachedLemmas as runs
use Rattle.solve_board.proofs.Sums as sums
use Rattle.solve_board.proofs.Kept.{view_stays, claimed_once}

joins_keep : (jobs next low : ℕ) (views : List BoardView) (id : ℕ) (v : BoardView) (other : ℕ) (u : BoardView)
    → IsKept jobs next low views → get_elem? views id ≡ some v → other ≢ id → get_elem? views other ≡ some u
    → get_elem? (set views id (joined_view v u)) other ≡ some u → 0 < v.weight → 0 < u.weight
    → IsKept jobs next low (set (set views id (joined_view v u)) other spent_view)
joins_keep jobs next low views id v other u k at apart there there' v_weight u_weight =
    let w = joined_view v u in
    let mine = k.each id v at in
    let theirs = k.each other u there in
    let one : List BoardView = set views id w in
    let views' : List BoardView = set one other spent_view in
    let first = λ (f : BoardView → ℕ). sums.total_set f views id v w at in
    let second = λ (f : BoardView → ℕ). sums.total_set f one other u spent_view there' in
    let all = λ (n : ℕ). sums.weigh-append (one_at n) v.offers u.offers in
    let more : (n : ℕ) → IsOffered views n → IsOffered views' n =
    λ n is. omega (
      arith,
      first (λ (y : BoardView). times n y.offers),
      second (λ (y : BoardView). times n y.offers),
      all n,
      is,
    ) in
    let both : IsView jobs low views' w = record {
      offers = λ n is. one_of n (dec_lt 0 (times n v.offers)) (omega (arith, all n, is));
      looks = λ n is. one_look n more (dec_lt 0 (times n v.looks))
          (omega (arith, sums.weigh-append (one_at n) v.looks u.looks, is));
      seen = omega (arith, mine.seen, theirs.seen);
      over = omega (arith, sums.weigh-append (one_from jobs) v.claims u.claims, mine.over, theirs.over);
      spent = λ z. absurd (omega (arith, z, v_weight));
      jobs_are = λ _. mine.jobs_are v_weight;
    } in
    let middle = sums.each_set (λ _. IsView jobs low views) (λ _. IsView jobs low views') views id w k.each
    (λ j y. view_stays jobs low low views views' y (omega arith) more) both in
    record {
      few = k.few;
      claims = λ h. let a = first (λ (y : BoardView). weigh h y.claims) in let b =
          second (λ (y : BoardView). weigh h y.claims) in let d = sums.weigh-append h v.claims u.claims in let c =
          k.claims h in omega (arith, a, b, c, d);
      lowest = k.lowest;
      shown = λ lt. more low (k.shown lt);
      budget = let a = first (λ (y : BoardView). y.left + y.weight) in let b =
          second (λ (y : BoardView). y.left + y.weight) in let c = k.budget in omega (arith, a, b, c);
      reached = runs.join_reached next views id v at k.reached other u there apart;
      each = sums.each_set (λ _. IsView jobs low views') (λ _. IsView jobs low views') one other spent_view middle
          (λ _ _ y. y) record {
            offers = λ n is. absurd (omega (arith, is));
            looks = λ n is. absurd (omega (arith, is));
            seen = omega (arith, k.lowest, k.few);
            over = omega arith;
            spent = λ _. (refl, refl, refl);
            jobs_are = λ p. absurd (omega (arith, p));
          };
    }
  where
    one_of : (n : ℕ) → Dec (0 < times n v.offers) → 0 < times n v.offers + times n u.offers
        → (n < jobs) × IsAmong n (v.claims ++ u.claims) × (min v.seen u.seen ≤ n)
    one_of n (yes is) _ = let o = (k.each id v at).offers n is in
        (o.0, omega (arith, o.1, sums.weigh-append (one_at n) v.claims u.claims), omega (arith, o.2))
    one_of n (no not) is = let o = (k.each other u there).offers n (omega (arith, not, is)) in
        (o.0, omega (arith, o.1, sums.weigh-append (one_at n) v.claims u.claims), omega (arith, o.2))

    one_look : (n : ℕ) → ((m : ℕ) → IsOffered views m
        → IsOffered (set (set views id (joined_view v u)) other spent_view) m) → Dec (0 < times n v.looks)
        → 0 < times n v.looks + times n u.looks → (min v.seen u.seen ≤ n)
        × IsOffered (set (set views id (joined_view v u)) other spent_view) n
    one_look n more (yes is) _ = let o = (k.each id v at).looks n is in (omega (arith, o.0), more n o.1)
    one_look n more (no not) is = let o = (k.each other u there).looks n (omega (arith, not, is)) in
        (omega (arith, o.0), more n o.1)

pub joins : (jobs id : ℕ) (v : BoardView) (other : ℕ) (u : BoardView) → 0 < v.weight → 0 < u.weight
    → Joins (Holds jobs) id v other u (joined_view v u) spent_view
joins jobs id v other u v_weight u_weight s h at apart there =
    let was : get_elem? s.views other ≡ some u = ⊎_elim
    (λ (x : (other ≡ id) × (joined_view v u ≡ u)). absurd (apart x.0))
    (λ (x : (other ≢ id) × (get_elem? s.views other ≡ some u)). x.1)
    (at_set s.views id other (joined_view v u) u there) in
    (h.0, h.1, h.2, joins_keep jobs h.0 h.1 s.views id v other u h.3 at apart was there v_weight u_weight)

pub tells : (jobs slots id : ℕ) (me : Seated)
    → Allows (Holds jobs) slots id me 0 (λ n. n) (Tells (step slots 0 0 0 none) me)
tells jobs slots id me s h homes at fits =
    let next = h.0 in
    let low = h.1 in
    let same : IsKept jobs next low (set s.views id me.0) =
    subst (IsKept jobs next low) (sym (set_again s.views id me.0 at)) h.3 in
    let P : List ℕ → Type 0 = λ ws. (w : BoardView) × (a : Act (Unit {0})) × Valid s.homes me.1 a
    × Holds jobs (record {
      words = slice_set ws 0 (slice_index ws 0);
      homes = homes_after s.homes me.1 a;
      views =
          slice_set s.views id w;
    }) × Tells (step slots 0 0 0 none) me (slice_index ws 0) (w, carried_after me.1 a) in
    subst P (sym h.2) (
      me.0,
      keeps,
      tt,
      (next, low, refl, same),
      (refl, claimed_once jobs next low s.views id me.0 h.3 at),
    )
