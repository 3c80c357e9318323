-- What the last seat of a board finds.
use Rattle.std.proofs.Common.{◌≡◌, Bool, true, false, ℕ, ◌+◌, ◌^◌, ◌<◌, ◌≤◌, List, [], ◌∷◌, sym, ap, ◌∙◌, subst, arith}
use Rattle.std.specs.Prelude.{Some, None, MatchOption, nat_lt, if◌then◌else◌}
use Rattle.std.proofs.lemmas.Bool.Decides.{nat_tests}
use mathlib.Core.Option.{some, some-injective}
use native.Mathlib.Decide.{dec_lt}
use lib.ListN.{get_elem?}
use Rattle.atomic_table.specs.Table.{Final, Seen}
use Rattle.solve_board.specs.Counts.{one_at, times, IsAmong, once_below}
use Rattle.solve_board.specs.Rule.{IsKept, Holds}
use Rattle.solve_board.specs.Seats.{EndsRun}
use Rattle.solve_board.specs.declared.views.BoardView.{BoardView}
use Rattle.solve_board.proofs.ReachedLemmas as runs
use Rattle.solve_board.proofs.Sums as sums

-- what a seat finds where all seats were joined into it
pub record IsWhole (jobs next low : ℕ) (v : BoardView) : Type 0 where
  pub run : EndsRun v next
  pub numbers : (n : ℕ) → times n v.claims ≡ once_below next n
  pub looks : (n : ℕ) → IsAmong n v.looks → IsAmong n v.offers
  pub lowest : (n : ℕ) → IsAmong n v.offers → (low ≤ n) × (n < jobs)
  pub shown : low < jobs → IsAmong low v.offers

whole : (jobs next low : ℕ) (views : List BoardView) (id : ℕ) (v : BoardView) → IsKept jobs next low views
    → get_elem? views id ≡ some v → v.left + v.weight ≡ 2 ^ 32 + 1 → IsWhole jobs next low v
whole jobs next low views id v k at all =
    let mine = k.each id v at in
    let alone = λ (f : BoardView → ℕ) (z : (j : ℕ) (u : BoardView) → get_elem? views j ≡ some u → u.left + u.weight ≡ 0
    → f u ≡ 0). sums.total_alone (λ (u : BoardView). u.left + u.weight) f views id v at
    (let b = k.budget in omega (arith, b, all)) z in
    let numbers = λ (n : ℕ). alone (λ (u : BoardView). times n u.claims)
    (λ j u e z. ap (times n) ((k.each j u e).spent (omega (arith, z))).0) in
    let offers = λ (n : ℕ). alone (λ (u : BoardView). times n u.offers)
    (λ j u e z. ap (times n) ((k.each j u e).spent (omega (arith, z))).1) in
    record {
      run = runs.ends_run next views id v at k.reached;
      numbers = λ n. sym (numbers n) ∙ (k.claims (one_at n) ∙ sums.weigh_once n next);
      looks = λ n is. omega (arith, offers n, (mine.looks n is).1);
      lowest = λ n is. let o = mine.offers n is in (omega (arith, o.2, mine.seen), o.0);
      shown = λ lt. omega (arith, offers low, k.shown lt);
    }

pub closes : (jobs id : ℕ) (v : BoardView) (words : List ℕ) (slots : List (Unit {0})) (next low : ℕ)
    → Final (Seen (Holds jobs) id v) words slots → v.left + v.weight ≡ 2 ^ 32 + 1
    → get_elem? words 0 ≡ some next → get_elem? words 1 ≡ some low → IsWhole jobs next low v
closes jobs id v words slots next low f all at0 at1 =
    let h = f.1.0 in
    let is : words ≡ h.0 ∷ h.1 ∷ [] = sym f.2 ∙ h.2 in
    let a : h.0 ≡ next = some-injective _ _ (sym (ap (λ (ws : List ℕ). get_elem? ws 0) is) ∙ at0) in
    let b : h.1 ≡ low = some-injective _ _ (sym (ap (λ (ws : List ℕ). get_elem? ws 1) is) ∙ at1) in
    subst (λ (n : ℕ). IsWhole jobs n low v) a (subst (λ (l : ℕ). IsWhole jobs h.0 l v) b
    (whole jobs h.0 h.1 f.0.views id v h.3 f.1.1 all))

pub least_found : (jobs next low : ℕ) (v : BoardView) → IsWhole jobs next low v → (b : Bool) → nat_lt low jobs ≡ b
    → MatchOption (if b then Some low else None) (v.offers ≡ [])
    (λ m. IsAmong m v.offers × ((n : ℕ) → IsAmong n v.offers → m ≤ n))
least_found jobs next low v w true is = (w.shown (grind (arith, nat_tests, is)), λ n among. (w.lowest n among).0)
least_found jobs next low v w false is = sums.no_numbers v.offers (λ n. none_there n (dec_lt 0 (times n v.offers)))
  where
    none_there : (n : ℕ) → Dec (0 < times n v.offers) → times n v.offers ≡ 0
    none_there n (yes among) = let l = w.lowest n among in let g : jobs ≤ low = grind (arith, nat_tests, is) in
        absurd (omega (arith, l.0, l.1, g))
    none_there n (no not) = omega (arith, not)
