-- A look keeps the rule of a board, and what it answers.
use Rattle.std.proofs.Common.{◌≡◌, Bool, true, false, ℕ, ◌+◌, ◌<◌, ◌≤◌, List, [], ◌∷◌, ◌++◌, set, refl, sym, ap, ◌∙◌}
use Rattle.std.proofs.Common.{subst, arith}
use Rattle.std.specs.Prelude.{Some, None, MatchOption, nat_lt, if◌then◌else◌, slice_index, slice_set}
use Rattle.std.proofs.lemmas.Bool.Decides.{nat_tests}
use mathlib.Core.Option.{some, none}
use native.Mathlib.Decide.{dec_lt}
use lib.ListN.{get_elem?}
use Rattle.atomic_table.specs.Table.{step, Act, keeps, Valid, homes_after, carried_after, Allows}
use Rattle.solve_board.specs.Counts.{weigh, one_at, times, IsAmong}
use Rattle.solve_board.specs.Views.{looked, saw, saw_none}
use Rattle.solve_board.specs.Rule.{IsOffered, IsView, IsKept, Holds}
use Rattle.solve_board.specs.Plays.{Seated, Looks}
use Rattle.solve_board.specs.declared.views.BoardView.{BoardView}
use Rattle.solve_board.proofs.ReachedLemmas as runs
use Rattle.solve_board.proofs.Sums as sums
use Rattle.solve_board.proofs.Kept.{more_offered, view_stays}

looks_keep : (jobs next low : ℕ) (views : List BoardView) (id : ℕ) (v : BoardView) → IsKept jobs next low views
    → get_elem? views id ≡ some v → 0 < v.weight
    → IsKept jobs next low (set views id (looked v low))
looks_keep jobs next low views id v k at some_weight =
    let w = looked v low in
    let mine = k.each id v at in
    let views' : List BoardView = set views id w in
    let more = more_offered views id v w at (λ n. omega arith) in
    record {
      few = k.few;
      claims = λ h. let a = sums.total_set (λ (u : BoardView). weigh h u.claims) views id v w at in let c =
          k.claims h in omega (arith, a, c);
      lowest = k.lowest;
      shown = λ lt. more low (k.shown lt);
      budget = let a = sums.total_set (λ (u : BoardView). u.left + u.weight) views id v w at in let c = k.budget in
          omega (arith, a, c);
      reached = runs.look_reached next views id v at k.reached low;
      each = sums.each_set (λ _. IsView jobs low views) (λ _. IsView jobs low views') views id w k.each
          (λ j u. view_stays jobs low low views views' u (omega arith) more) record {
            offers = λ n is. let o = mine.offers n is in (
              o.0,
              o.1,
              (let p = o.2 in let b = mine.seen in omega (arith, p, b)),
            );
            looks = λ n is. let r = seen_or n (nat_lt low v.jobs) refl is in (r.0, more n r.1);
            seen = omega arith;
            over = mine.over;
            spent = λ z. absurd (omega (arith, z, some_weight));
            jobs_are = mine.jobs_are;
          };
    }
  where
    seen_or : (n : ℕ) (b : Bool) → nat_lt low v.jobs ≡ b → IsAmong n (if b then v.looks ++ low ∷ [] else v.looks)
        → (low ≤ n) × IsOffered views n
    seen_or n false is among = let m = (k.each id v at).looks n among in
        (omega (arith, m.0, (k.each id v at).seen), m.1)
    seen_or n true is among = either_look n (dec_lt 0 (times n v.looks)) among
      where
        either_look : (n : ℕ) → Dec (0 < times n v.looks) → IsAmong n (v.looks ++ low ∷ [])
            → (low ≤ n) × IsOffered views n
        either_look n (yes old) among = let m = (k.each id v at).looks n old in
            (omega (arith, m.0, (k.each id v at).seen), m.1)
        either_look n (no new) among =
            let same : n ≡ low = sums.one_is n low (let a = sums.weigh-append (one_at n) v.looks (low ∷ []) in
            omega (arith, a, new, among)) in
            let lt : low < v.jobs = grind (arith, nat_tests, is) in
            let lt' : low < jobs = omega (arith, lt, (k.each id v at).jobs_are some_weight) in
            (omega (arith, same), subst (IsOffered views) (sym same) (k.shown lt'))

pub looks : (jobs slots id : ℕ) (me : Seated) → 0 < me.0.weight
    → Allows (Holds jobs) slots id me 1 (λ n. n) (Looks (step slots 1 0 0 none) me)
looks jobs slots id me weight s h homes at fits =
    let next = h.0 in
    let low = h.1 in
    let mine = h.3.each id me.0 at in
    let P : List ℕ → Type 0 = λ ws. (w : BoardView) × (a : Act (Unit {0})) × Valid s.homes me.1 a
    × Holds jobs (record {
      words = slice_set ws 1 (slice_index ws 1);
      homes = homes_after s.homes me.1 a;
      views =
          slice_set s.views id w;
    }) × Looks (step slots 1 0 0 none) me (slice_index ws 1) (w, carried_after me.1 a) in
    subst P (sym h.2) (
      looked me.0 low,
      keeps,
      tt,
      (next, low, refl, looks_keep jobs next low s.views id me.0 h.3 at weight),
      (
        refl,
        omega (arith, h.3.lowest, mine.jobs_are weight),
        mine.seen,
        λ o is. omega
            (arith, (mine.offers o is).2, mine.seen),
      ),
    )

-- what a look answers, by the word that it found
pub look_found : (v w : BoardView) (word : ℕ) → w ≡ looked v word → word ≤ v.jobs → (b : Bool) → nat_lt word v.jobs ≡ b
    → MatchOption (if b then Some word else None) (w ≡ saw_none v) (λ n. (w ≡ saw v n) × (n < v.jobs))
look_found v w word is le true lt = (
  is ∙ ap (λ b. record v
      { looks = if b then v.looks ++ word ∷ [] else v.looks; seen = word }) lt,
  grind (arith, nat_tests, lt),
)
look_found v w word is le false ge =
    let same : word ≡ v.jobs = let g : v.jobs ≤ word = grind (arith, nat_tests, ge) in omega (arith, g, le) in
    is ∙ ap (λ b. record v { looks = if b then v.looks ++ word ∷ [] else v.looks; seen = word }) ge
    ∙ ap (λ n. record v { seen = n }) same
