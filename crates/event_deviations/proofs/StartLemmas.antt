-- Counts of the meets that start at each time: one meet more.
use Rattle.std.proofs.Common.{◌≡◌, ◌∙◌, sym, ap, ◌+◌, ◌<◌, ◌≤◌, ℕ, Bool, cond, Option, Some, None, List, length, get_or}
use Rattle.std.proofs.Common.{set, take, arith, ◌⊎◌, inl, inr, count_by}
use Rattle.std.proofs.lemmas.Bool.{cases_eq}
use Rattle.std.proofs.lemmas.List.{length-set, get_or-set_same, get_or-set_other}
use Rattle.std.proofs.lemmas.List.Sums.{sum_by_more}
use Rattle.khe_base.specs.IdSet.{has_member}
use Rattle.khe_base.specs.declared.numbers.TimeId.{TimeId}
use Rattle.khe_instance.specs.EventDeviation.{starts_in}
use Rattle.khe_instance.specs.declared.states.Meet.{Meet}
use Rattle.event_deviations.specs.Marked.{sum_in}
use Rattle.event_deviations.proofs.MarkLemmas.{sum_in-more}

-- to old counts the first i meets were added
pub record AreCounted (old new : List ℕ) (ms : List Meet) (i : ℕ) : Type 0 where
  pub long : length new ≡ length old
  pub exact : (times : List Bool) → sum_in new times
      ≡ sum_in old times + count_by (λ m. starts_in times m.start) (take i ms)
  pub few : (t : ℕ) → get_or new t 0 ≤ get_or old t 0 + i

module _ (old vs : List ℕ) (ms : List Meet) (i : ℕ) (d : Meet) (l : i < length ms) (was : AreCounted old vs ms i) where
  more : (times : List Bool) (o : Option TimeId) → (get_or ms i d).start ≡ o
      → count_by (λ m. starts_in times m.start) (take (i + 1) ms)
      ≡ count_by (λ m. starts_in times m.start) (take i ms) + cond (starts_in times o) 1 0
  more times o is = sum_by_more (λ (m : Meet). cond (starts_in times m.start) 1 0) ms i d l
      ∙ ap (λ o. count_by (λ m. starts_in times m.start) (take i ms) + cond (starts_in times o) 1 0) is

  pub counted-none : (get_or ms i d).start ≡ None → AreCounted old vs ms (i + 1)
  counted-none given = record {
    long = was.long;
    exact = λ times.
        let m = more times None given in
        let before = was.exact times in
        omega arith;
    few = λ t. let before = was.few t in omega arith;
  }

  pub counted-some : (s : TimeId) → (get_or ms i d).start ≡ Some s → s.0 < length vs
      → AreCounted old (set vs s.0 (get_or vs s.0 0 + 1)) ms (i + 1)
  counted-some s given within = record {
    long = length-set vs s.0 (get_or vs s.0 0 + 1) ∙ was.long;
    exact = λ times.
        let m = more times (Some s) given in
        let put = sum_in-more times vs s.0 within in
        let before = was.exact times in
        omega arith;
    few = λ t. by t (cases_eq t s.0);
  }
    where
      by : (t : ℕ) → (t ≡ s.0) ⊎ (t ≡ s.0 → ⊥)
          → get_or (set vs s.0 (get_or vs s.0 0 + 1)) t 0 ≤ get_or old t 0 + (i + 1)
      by t (inl e) =
          let own : get_or (set vs s.0 (get_or vs s.0 0 + 1)) t 0 ≡ get_or vs t 0 + 1 =
          ap (λ k. get_or (set vs s.0 (get_or vs s.0 0 + 1)) k 0) e
          ∙ get_or-set_same vs s.0 (get_or vs s.0 0 + 1) 0 within ∙ sym (ap (λ k. get_or vs k 0 + 1) e) in
          let before = was.few t in
          omega arith
      by t (inr ne) =
          let own = get_or-set_other vs s.0 t (get_or vs s.0 0 + 1) 0 ne in
          let before = was.few t in
          omega arith
