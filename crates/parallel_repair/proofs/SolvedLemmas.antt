-- The fates of all jobs, and the least result.
use Rattle.std.proofs.Common.{◌≡◌, ◌⊎◌, inl, inr, ⊎_elim, ℕ, ◌<◌, ◌≤◌, false, List, [], ◌∷◌, Option, Some, None}
use Rattle.std.proofs.Common.{sym, ap, ◌∙◌, subst, arith}
use Rattle.std.specs.Prelude.{MatchOption, unwrap_or}
use Rattle.std.specs.List.{AllByRecursion}
use Rattle.std.proofs.lemmas.Bool.Decides.{nat_tests}
use native.Mathlib.Decide.{dec_lt}
use Rattle.khe_base.specs.declared.sums.Totals.{Totals}
use Rattle.solve_board.specs.declared.views.BoardView.{BoardView}
use Rattle.solve_board.specs.Counts.{times, IsAmong, once_below}
use Rattle.solve_board.proofs.Sums.{one_is}
use Rattle.parallel_repair.specs.Ranks.{is_before, CostsNothing}
use Rattle.parallel_repair.specs.Solved.{HasRun, IsLeftOut, IsSolved}
use Rattle.parallel_repair.specs.Worked.{jobs_of, IsRow, IsBest, IsDone}
use Rattle.parallel_repair.specs.Turns.{HasEnded}
use Rattle.parallel_repair.specs.Fates.{AreFates}
use Rattle.parallel_repair.specs.declared.answers.Answer.{Answer}
use Rattle.parallel_repair.specs.declared.answers.Best.{Best}
use Rattle.parallel_repair.specs.declared.answers.Fate.{Fate}
use Rattle.parallel_repair.specs.declared.answers.Row.{Row}
use Rattle.parallel_repair.specs.declared.answers.Solved.{Solved}
use Rattle.parallel_repair.proofs.RankLemmas.{before_through, before_neither}
use Rattle.parallel_repair.proofs.WorkLemmas.{in_either}

row_below : (answer : ℕ → Answer) (jobs n : ℕ) (rows : List Row) → AllByRecursion (IsRow answer jobs) rows
    → IsAmong n (jobs_of rows) → n < jobs
row_below answer jobs n [] h is = absurd (omega (arith, is))
row_below answer jobs n (r ∷ rows) h is = ⊎_elim
    (λ l. let same = one_is n r.job (omega (arith, l)) in omega (arith, same, h.0.0))
    (λ l. row_below answer jobs n rows h.1 l)
    (in_either n (r.job ∷ []) (jobs_of rows) is)

zero_first : (s t : Totals) (n m : ℕ) → CostsNothing t → m < n → is_before s n t m ≡ false
zero_first s t n m z lt = grind (arith, nat_tests, z.0, z.1)

below_once : (n bound : ℕ) → n < bound → once_below bound n ≡ 1
below_once n bound h = grind (arith, nat_tests)

once_is_below : (n bound : ℕ) → 0 < once_below bound n → n < bound
once_is_below n bound h = grind (arith, nat_tests, h)

-- what a seat and its rows show once the board is closed
pub record IsClosed (v : BoardView) (next : ℕ) (found : Option ℕ) : Type 0 where
  pub numbers : (n : ℕ) → times n v.claims ≡ once_below next n
  pub looks : (n : ℕ) → IsAmong n v.looks → IsAmong n v.offers
  pub least : MatchOption found (v.offers ≡ []) (λ m. IsAmong m v.offers × ((n : ℕ) → IsAmong n v.offers → m ≤ n))

module _ (answer : ℕ → Answer) (jobs left : ℕ) (v : BoardView) (rows : List Row) (best : Option Best) (next : ℕ)
    (least : Option ℕ) (ended : HasEnded answer jobs left v rows best) (closed : IsClosed v next least) where
  done_all : (n : ℕ) → n < jobs → IsDone v.looks (jobs_of rows) n
  done_all n lt =
      let p = ended.past in
      let q : p.0 < next = once_is_below p.0 next (omega (arith, closed.numbers p.0, p.1)) in
      ended.is.worked.done n (omega (arith, closed.numbers n, below_once n next (omega (arith, q, p.2, lt)))) lt

  pub some_best : 0 < jobs → best ≡ None → ⊥
  some_best some is = ⊎_elim
      (λ l. let none : jobs_of rows ≡ [] = subst (IsBest answer (jobs_of rows)) is ended.is.worked.best_is in let z =
      ap (times 0) none in omega (arith, l, z))
      (λ r. omega (arith, r.2))
      (done_all 0 some)

-- what all jobs come to
pub finished : (answer : ℕ → Answer) (jobs left : ℕ) (v : BoardView) (rows : List Row) (best : Best) (fates : List Fate)
    (next : ℕ) (least : Option ℕ)
    → HasEnded answer jobs left v rows (Some best) → IsClosed v next least
    → AreFates answer jobs rows (unwrap_or least 0) fates
    → IsSolved answer jobs (record { job = best.job; totals = best.totals; plain = best.plain; fates = fates })
finished answer jobs left v rows best fates next None ended closed are = record {
  count = are.count;
  fates = λ n lt. inl (are.ran n (ran n lt));
  within = row_below answer jobs best.job rows ended.is.worked.rows_are ended.is.worked.best_is.0;
  ran = are.ran best.job ended.is.worked.best_is.0;
  totals = ended.is.worked.best_is.1;
  plain = ended.is.worked.best_is.2;
  least = λ n lt. ended.is.worked.best_is.3 n (ran n lt);
}
  where
    ran : (n : ℕ) → n < jobs → IsAmong n (jobs_of rows)
    ran n lt = ⊎_elim (λ l. l) (λ r. absurd (let o = closed.looks r.0 r.1 in let z = ap (times r.0) closed.least in
        omega (arith, o, z)))
        (done_all answer jobs left v rows (Some best) next None ended closed n lt)
finished answer jobs left v rows best fates next (Some m) ended closed are = record {
  count = are.count;
  fates = λ n lt. fate n lt (dec_lt 0 (times n (jobs_of rows)));
  within = row_below answer jobs best.job rows ended.is.worked.rows_are ended.is.worked.best_is.0;
  ran = are.ran best.job ended.is.worked.best_is.0;
  totals = ended.is.worked.best_is.1;
  plain = ended.is.worked.best_is.2;
  least = λ n lt. lowest n lt (dec_lt 0 (times n (jobs_of rows)));
}
  where
    done : (n : ℕ) → n < jobs → IsDone v.looks (jobs_of rows) n
    done = done_all answer jobs left v rows (Some best) next (Some m) ended closed

    m_is : IsAmong m (jobs_of rows) × CostsNothing (answer m).totals
    m_is = ended.is.worked.offers_are m closed.least.0

    after_m : (n : ℕ) → n < jobs → ¬ (0 < times n (jobs_of rows)) → m < n
    after_m n lt not = ⊎_elim (λ l. absurd (not l)) (λ r. omega (arith, closed.least.1 r.0 (closed.looks r.0 r.1), r.2))
        (done n lt)

    none_before : (k : ℕ) → k < m → CostsNothing (answer k).totals → ⊥
    none_before k lt z = ⊎_elim
        (λ l. omega (arith, closed.least.1 k (ended.is.worked.zeros k l z), lt))
        (λ r. omega (arith, closed.least.1 r.0 (closed.looks r.0 r.1), r.2, lt))
        (done k (omega (arith, lt, row_below answer jobs m rows ended.is.worked.rows_are m_is.0)))

    fate : (n : ℕ) → n < jobs → Dec (0 < times n (jobs_of rows)) → HasRun answer fates n ⊎ IsLeftOut answer fates n
    fate n lt (yes is) = inl (are.ran n is)
    fate n lt (no not) = inr (record {
      by = m;
      is = are.skipped n lt (omega (arith, not));
      lower = after_m n lt not;
      ran = are.ran m m_is.0;
      free = m_is.1;
      least = none_before;
    })

    lowest : (n : ℕ) → n < jobs → Dec (0 < times n (jobs_of rows))
        → is_before (answer n).totals n best.totals best.job ≡ false
    lowest n lt (yes is) = ended.is.worked.best_is.3 n is
    lowest n lt (no not) = before_through (answer n).totals best.totals (answer m).totals n best.job m
        (zero_first (answer n).totals (answer m).totals n m m_is.1 (after_m n lt not))
        (ended.is.worked.best_is.3 m m_is.0)

-- the job, its totals and its result are the same, however the jobs were shared
pub same_solved : (answer : ℕ → Answer) (jobs : ℕ) (s t : Solved) → IsSolved answer jobs s → IsSolved answer jobs t
    → (s.job ≡ t.job) × (s.totals ≡ t.totals) × (s.plain ≡ t.plain)
same_solved answer jobs s t x y =
    let a : is_before t.totals t.job s.totals s.job ≡ false =
    subst (λ (u : Totals). is_before u t.job s.totals s.job ≡ false) (sym y.totals) (x.least t.job y.within) in
    let b : is_before s.totals s.job t.totals t.job ≡ false =
    subst (λ (u : Totals). is_before u s.job t.totals t.job ≡ false) (sym x.totals) (y.least s.job x.within) in
    let job : s.job ≡ t.job = before_neither s.totals t.totals s.job t.job b a in (
      job,
      x.totals ∙ ap (λ n. (answer n).totals) job ∙ sym y.totals,
      x.plain ∙ ap (λ n. (answer n).plain) job
          ∙ sym y.plain,
    )
