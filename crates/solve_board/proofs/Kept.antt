-- What the rule of a board says of one seat, and what a step leaves of it.
use Rattle.std.proofs.Common.{length, ◌≡◌, ◌⊎◌, inl, inr, ℕ, ◌+◌, ◌^◌, ◌≤◌, List, set, ◌∙◌, arith}
use Rattle.std.specs.Prelude.{min}
use mathlib.Core.Option.{some}
use mathlib.Core.Logic.{dite}
use native.Mathlib.Decide.{dec_le}
use lib.ListN.{get_elem?}
use Rattle.solve_board.specs.Counts.{weigh, total, one_at, one_from, times, once_below}
use Rattle.solve_board.specs.Rule.{IsOffered, IsView, IsKept}
use Rattle.solve_board.specs.declared.views.BoardView.{BoardView}
use Rattle.solve_board.proofs.Sums as sums

pub min_case : (a b : ℕ) → ((min a b ≡ a) × (a ≤ b)) ⊎ ((min a b ≡ b) × (b ≤ a))
min_case a b = dite (dec_le a b) (λ le. inl (omega (arith, le), le))
    (λ n. let l : b ≤ a = omega (arith, n) in inr (omega (arith, l), l))

-- what is offered is still offered where a view offers no less
pub more_offered : (views : List BoardView) (id : ℕ) (v w : BoardView) → get_elem? views id ≡ some v
    → ((n : ℕ) → times n v.offers ≤ times n w.offers) → (n : ℕ) → IsOffered views n → IsOffered (set views id w) n
more_offered views id v w at le n is = omega (
  arith,
  sums.total_set (λ (u : BoardView). times n u.offers) views id v w
      at,
  le n,
  is,
)

-- a view that stays keeps what it keeps, where the least offer doesn't rise and what is offered is still offered
pub view_stays : (jobs low low' : ℕ) (views views' : List BoardView) (u : BoardView) → low' ≤ low
    → ((n : ℕ) → IsOffered views n → IsOffered views' n) → IsView jobs low views u → IsView jobs low' views' u
view_stays jobs low low' views views' u le more k = record {
  offers = k.offers;
  looks = λ n is. ((k.looks n is).0, more n (k.looks n is).1);
  seen = omega (arith, k.seen);
  over = k.over;
  spent = k.spent;
  jobs_are = k.jobs_are;
}

-- how many numbers of jobs or more there are is bounded, so the next number never wraps
pub next_bound : (jobs next low : ℕ) (views : List BoardView) → IsKept jobs next low views → next ≤ 10000 + (2 ^ 32 + 1)
next_bound jobs next low views k =
    let a = sums.above_bound jobs next in
    let b = k.claims (one_from jobs) in
    let c : total (λ (v : BoardView). weigh (one_from jobs) v.claims) views ≤ total
    (λ (v : BoardView). v.left + v.weight) views =
    sums.total_le (λ (v : BoardView). weigh (one_from jobs) v.claims) (λ (v : BoardView). v.left + v.weight) views
    (λ i v e. omega (arith, (k.each i v e).over)) in
    omega (arith, a, b, c, k.budget, k.few)

-- nobody has claimed the next number
pub next_is_new : (jobs next low : ℕ) (views : List BoardView) (id : ℕ) (v : BoardView) → IsKept jobs next low views
    → get_elem? views id ≡ some v → times next v.claims ≡ 0
next_is_new jobs next low views id v k at =
    let a = sums.total_at (λ (u : BoardView). times next u.claims) views id v at in
    let b : total (λ (u : BoardView). times next u.claims) views ≡ once_below next next =
    k.claims (one_at next) ∙ sums.weigh_once next next in
    let c = sums.once_past next next (omega arith) in
    omega (arith, a, b, c)

-- a seat has claimed no more numbers than all have
pub few_claimed : (jobs next low : ℕ) (views : List BoardView) (id : ℕ) (v : BoardView) → IsKept jobs next low views
    → get_elem? views id ≡ some v → length v.claims ≤ next
few_claimed jobs next low views id v k at =
    let a = sums.total_at (λ (u : BoardView). weigh (λ _. 1) u.claims) views id v at in
    let b = k.claims (λ _. 1) in
    let c = sums.ones_below next in
    let d = sums.weigh-ones v.claims in
    omega (arith, a, b, c, d)

-- no number is claimed twice
pub claimed_once : (jobs next low : ℕ) (views : List BoardView) (id : ℕ) (v : BoardView) → IsKept jobs next low views
    → get_elem? views id ≡ some v → (n : ℕ) → times n v.claims ≤ 1
claimed_once jobs next low views id v k at n =
    let a = sums.total_at (λ (u : BoardView). times n u.claims) views id v at in
    let b : total (λ (u : BoardView). times n u.claims) views ≡ once_below next n =
    k.claims (one_at n) ∙ sums.weigh_once n next in
    let c = sums.once_most n next in
    omega (arith, a, b, c)
