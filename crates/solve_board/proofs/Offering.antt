-- An offer keeps the rule of a board.
use Rattle.std.proofs.Common.{◌≡◌, ℕ, ◌+◌, ◌<◌, ◌≤◌, List, [], ◌∷◌, ◌++◌, set, refl, sym, subst, ⊎_elim, arith}
use Rattle.std.specs.Prelude.{min, slice_index, slice_set}
use mathlib.Core.Option.{some, none}
use native.Mathlib.Decide.{dec_lt}
use lib.ListN.{get_elem?}
use Rattle.atomic_table.specs.Table.{step, Act, keeps, Valid, homes_after, carried_after, Allows}
use Rattle.solve_board.specs.Counts.{weigh, one_at, times, IsAmong}
use Rattle.solve_board.specs.Views.{offered}
use Rattle.solve_board.specs.Rule.{IsOffered, IsView, IsKept, Holds}
use Rattle.solve_board.specs.Plays.{Seated, Offers}
use Rattle.solve_board.specs.declared.views.BoardView.{BoardView}
use Rattle.solve_board.proofs.ReachedLemmas as runs
use Rattle.solve_board.proofs.Sums as sums
use Rattle.solve_board.proofs.Kept.{min_case, more_offered, view_stays}

offers_keep : (jobs next low job : ℕ) (views : List BoardView) (id : ℕ) (v : BoardView) → IsKept jobs next low views
    → get_elem? views id ≡ some v → 0 < v.weight → job < jobs → IsAmong job v.claims
    → IsKept jobs next (min low job) (set views id (offered v job low))
offers_keep jobs next low job views id v k at some_weight small mine_is =
    let w = offered v job low in
    let mine = k.each id v at in
    let views' : List BoardView = set views id w in
    let joins = λ (n : ℕ). sums.weigh-append (one_at n) v.offers (job ∷ []) in
    let more = more_offered views id v w at (λ n. omega (arith, joins n)) in
    let here : IsOffered views' job = let a = sums.total_set (λ (u : BoardView). times job u.offers) views id v w at in
    let b = sums.total_at (λ (u : BoardView). times job u.offers) views id v at in
    omega (arith, a, b, joins job, sums.one_here job) in
    record {
      few = k.few;
      claims = λ h. let a = sums.total_set (λ (u : BoardView). weigh h u.claims) views id v w at in let c =
          k.claims h in omega (arith, a, c);
      lowest = omega (arith, k.lowest);
      shown = λ lt. ⊎_elim
          (λ (m : (min low job ≡ low) × (low ≤ job)). subst (IsOffered views') (sym m.0)
          (more low (k.shown (omega (arith, m.0, lt)))))
          (λ (m : (min low job ≡ job) × (job ≤ low)). subst (IsOffered views') (sym m.0) here)
          (min_case low job);
      budget = let a = sums.total_set (λ (u : BoardView). u.left + u.weight) views id v w at in let c = k.budget in
          omega (arith, a, c);
      reached = runs.offer_reached next views id v at k.reached job low mine_is;
      each = sums.each_set (λ _. IsView jobs low views) (λ _. IsView jobs (min low job) views') views id w k.each
          (λ j u. view_stays jobs low (min low job) views views' u (omega arith) more) record {
            offers = λ n is. one_more n (dec_lt 0 (times n v.offers)) is;
            looks = λ n is. (
              let a = (mine.looks n is).0 in let b = mine.seen in
                  omega (arith, a, b),
              more n (mine.looks n is).1,
            );
            seen = omega arith;
            over = mine.over;
            spent = λ z. absurd (omega (arith, z, some_weight));
            jobs_are = mine.jobs_are;
          };
    }
  where
    one_more : (n : ℕ) → Dec (0 < times n v.offers) → IsAmong n (v.offers ++ job ∷ [])
        → (n < jobs) × IsAmong n v.claims × (min low job ≤ n)
    one_more n (yes is) _ = let o = (k.each id v at).offers n is in let b = (k.each id v at).seen in
        (o.0, o.1, omega (arith, o.2, b))
    one_more n (no not) is =
        let same : n ≡ job = sums.one_is n job (let a = sums.weigh-append (one_at n) v.offers (job ∷ []) in
        omega (arith, a, not, is)) in
        (omega (arith, same, small), subst (λ m. IsAmong m v.claims) (sym same) mine_is, omega (arith, same))

pub offers : (jobs slots id job : ℕ) (me : Seated) → 0 < me.0.weight → job < jobs → IsAmong job me.0.claims
    → Allows (Holds jobs) slots id me 1 (λ n. min n job) (Offers (step slots 1 job 0 none) me)
offers jobs slots id job me weight small is s h homes at fits =
    let next = h.0 in
    let low = h.1 in
    let P : List ℕ → Type 0 = λ ws. (w : BoardView) × (a : Act (Unit {0})) × Valid s.homes me.1 a
    × Holds jobs (record {
      words = slice_set ws 1 (min (slice_index ws 1) job);
      homes = homes_after s.homes me.1 a;
      views = slice_set s.views id w;
    }) × Offers (step slots 1 job 0 none) me (slice_index ws 1)
    (w, carried_after me.1 a) in
    subst P (sym h.2) (
      offered me.0 job low,
      keeps,
      tt,
      (next, min low job, refl, offers_keep jobs next low job s.views id me.0 h.3 at weight small is),
      (refl, (h.3.each id me.0 at).seen),
    )
