-- A split keeps the rule of a board.
use Rattle.std.proofs.Common.{◌≡◌, ℕ, ◌+◌, ◌<◌, List, [], ◌∷◌, ◌++◌, set, subst, ⊎_elim, arith}
use mathlib.Core.Option.{some}
use lib.ListN.{get_elem?}
use Rattle.atomic_table.specs.Table.{Splits}
use Rattle.atomic_table.proofs.Lists.{at_snoc}
use Rattle.solve_board.specs.Counts.{weigh, times}
use Rattle.solve_board.specs.Views.{split_view, new_view}
use Rattle.solve_board.specs.Rule.{IsOffered, IsView, IsKept, Holds}
use Rattle.solve_board.specs.declared.views.BoardView.{BoardView}
use Rattle.solve_board.proofs.ReachedLemmas as runs
use Rattle.solve_board.proofs.Sums as sums
use Rattle.solve_board.proofs.Kept.{view_stays}

splits_keep : (jobs next low : ℕ) (views : List BoardView) (id : ℕ) (v : BoardView) → IsKept jobs next low views
    → get_elem? views id ≡ some v → 0 < v.weight → 0 < v.left
    → IsKept jobs next low (set views id (split_view v) ++ new_view v ∷ [])
splits_keep jobs next low views id v k at some_weight some_left =
    let w = split_view v in
    let new = new_view v in
    let mine = k.each id v at in
    let one : List BoardView = set views id w in
    let views' : List BoardView = one ++ new ∷ [] in
    let sum = λ (f : BoardView → ℕ). sums.total_snoc f one new in
    let swap = λ (f : BoardView → ℕ). sums.total_set f views id v w at in
    let more : (n : ℕ) → IsOffered views n → IsOffered views' n =
    λ n is. omega (
      arith,
      sum (λ (u : BoardView). times n u.offers),
      swap (λ (u : BoardView). times n u.offers),
      is,
    ) in
    let old = sums.each_set (λ _. IsView jobs low views) (λ _. IsView jobs low views') views id w k.each
    (λ j u. view_stays jobs low low views views' u (omega arith) more) record {
      offers = mine.offers;
      looks = λ n is. ((mine.looks n is).0, more n (mine.looks n is).1);
      seen = mine.seen;
      over = mine.over;
      spent = λ z. absurd (omega (arith, z, some_weight));
      jobs_are = mine.jobs_are;
    } in
    let fresh : IsView jobs low views' new = record {
      offers = λ n is. absurd (omega (arith, is));
      looks = λ n is. absurd (omega (arith, is));
      seen = mine.seen;
      over = omega arith;
      spent = λ z. absurd (omega (arith, z));
      jobs_are = λ _. mine.jobs_are some_weight;
    } in
    record {
      few = k.few;
      claims = λ h. let a = sum (λ (u : BoardView). weigh h u.claims) in let b =
          swap (λ (u : BoardView). weigh h u.claims) in let c = k.claims h in omega (arith, a, b, c);
      lowest = k.lowest;
      shown = λ lt. more low (k.shown lt);
      budget = let a = sum (λ (u : BoardView). u.left + u.weight) in let b =
          swap (λ (u : BoardView). u.left + u.weight) in let c = k.budget in omega (arith, a, b, c, some_left);
      reached = runs.split_reached next views id v at k.reached;
      each = λ j u e. ⊎_elim (λ was. old j u was) (λ (same : new ≡ u). subst (IsView jobs low views') same fresh)
          (at_snoc one new u j e);
    }

pub splits : (jobs id : ℕ) (v : BoardView) → 0 < v.weight → 0 < v.left
    → Splits (Holds jobs) id v (split_view v) (new_view v)
splits jobs id v weight left s h at = (h.0, h.1, h.2, splits_keep jobs h.0 h.1 s.views id v h.3 at weight left)
