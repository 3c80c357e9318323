-- A claim keeps the rule of a board.
use Rattle.std.proofs.Common.{◌≡◌, ℕ, suc, ◌+◌, ◌^◌, ◌%◌, ◌<◌, List, [], ◌∷◌, set, refl, sym, ap, subst, arith}
use Rattle.std.specs.Prelude.{slice_index, slice_set}
use mathlib.Core.Option.{some, none}
use lib.ListN.{get_elem?}
use Rattle.atomic_table.specs.Table.{step, Act, keeps, Valid, homes_after, carried_after, Allows}
use Rattle.solve_board.specs.Counts.{weigh, one_at, one_from, IsAmong}
use Rattle.solve_board.specs.Views.{claimed}
use Rattle.solve_board.specs.Rule.{IsView, IsKept, Holds}
use Rattle.solve_board.specs.Plays.{Seated, Claims}
use Rattle.solve_board.specs.declared.views.BoardView.{BoardView}
use Rattle.solve_board.proofs.ReachedLemmas as runs
use Rattle.solve_board.proofs.Sums as sums
use Rattle.solve_board.proofs.Kept.{more_offered, view_stays, next_bound, next_is_new, few_claimed}

claims_keep : (jobs next low : ℕ) (views : List BoardView) (id : ℕ) (v : BoardView) → IsKept jobs next low views
    → get_elem? views id ≡ some v → 0 < v.weight → ((n : ℕ) → IsAmong n v.claims → n < jobs)
    → IsKept jobs (suc next) low (set views id (claimed v next))
claims_keep jobs next low views id v k at some_weight below =
    let w = claimed v next in
    let mine = k.each id v at in
    let views' : List BoardView = set views id w in
    let more = more_offered views id v w at (λ n. omega arith) in
    record {
      few = k.few;
      claims = λ h. let a = sums.total_set (λ (u : BoardView). weigh h u.claims) views id v w at in let b =
          sums.weigh-append h v.claims (next ∷ []) in let c = k.claims h in omega (arith, a, b, c);
      lowest = k.lowest;
      shown = λ lt. more low (k.shown lt);
      budget = let a = sums.total_set (λ (u : BoardView). u.left + u.weight) views id v w at in let c = k.budget in
          omega (arith, a, c);
      reached = runs.claim_reached next views id v at k.reached
          (let b = next_bound jobs next low views k in omega (arith, b));
      each = sums.each_set (λ _. IsView jobs low views) (λ _. IsView jobs low views') views id w k.each
          (λ j u. view_stays jobs low low views views' u (omega arith) more) record {
            offers = λ n is. let o = mine.offers n is in (
              o.0,
              (let b = sums.weigh-append (one_at n) v.claims (next ∷ []) in let p = o.1 in omega (arith, b, p)),
              o.2,
            );
            looks = λ n is. ((mine.looks n is).0, more n (mine.looks n is).1);
            seen = mine.seen;
            over = let a = sums.weigh-append (one_from jobs) v.claims (next ∷ []) in let b =
                sums.none_from jobs v.claims below in let c = sums.from_most jobs next in
                omega (arith, a, b, c, some_weight);
            spent = λ z. absurd (omega (arith, z, some_weight));
            jobs_are = mine.jobs_are;
          };
    }

pub claims : (jobs slots id : ℕ) (me : Seated) → 0 < me.0.weight → ((n : ℕ) → IsAmong n me.0.claims → n < jobs)
    → Allows (Holds jobs) slots id me 0 (λ n. (n + 1) % 2 ^ 64) (Claims (step slots 0 1 0 none) me)
claims jobs slots id me weight below s h homes at fits =
    let next = h.0 in
    let low = h.1 in
    let bound = next_bound jobs next low s.views h.3 in
    let wraps : (next + 1) % 2 ^ 64 ≡ suc next = omega (arith, bound) in
    let P : List ℕ → Type 0 = λ ws. (w : BoardView) × (a : Act (Unit {0})) × Valid s.homes me.1 a
    × Holds jobs (record {
      words = slice_set ws 0 ((slice_index ws 0 + 1) % 2 ^ 64);
      homes =
          homes_after s.homes me.1 a;
      views = slice_set s.views id w;
    })
    × Claims (step slots 0 1 0 none) me (slice_index ws 0) (w, carried_after me.1 a) in
    subst P (sym h.2) (
      claimed me.0 next,
      keeps,
      tt,
      (
        suc next,
        low,
        ap (λ (n : ℕ). n ∷ low ∷ []) wraps,
        claims_keep jobs next low s.views id me.0 h.3 at weight
            below,
      ),
      (refl, next_is_new jobs next low s.views id me.0 h.3 at, few_claimed jobs next low s.views id me.0 h.3 at),
    )
