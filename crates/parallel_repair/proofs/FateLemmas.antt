-- The fates of all jobs by their rows.
use Rattle.std.proofs.Common.{◌≡◌, ◌≢◌, ⊎_elim, ℕ, zero, suc, ◌+◌, ◌<◌, List, [], ◌∷◌, ◌++◌, length, set, take, get_or}
use Rattle.std.proofs.Common.{replicate}
use Rattle.std.proofs.Common.{Some, refl, sym, ap, ◌∙◌, subst, arith, length-set}
use Rattle.std.proofs.lemmas.List.{length-replicate}
use Rattle.std.specs.Prelude.{slice_get, All}
use Rattle.std.specs.List.{AllByRecursion}
use mathlib.Core.Logic.{dite}
use native.Mathlib.Decide.{ℕ_discrete}
use Rattle.solve_board.specs.Counts.{times, one_at, IsAmong}
use Rattle.solve_board.proofs.Sums.{weigh-append, one_here, one_is}
use Rattle.parallel_repair.specs.Solved.{HasRun}
use Rattle.parallel_repair.specs.Worked.{jobs_of, IsRow}
use Rattle.parallel_repair.specs.Fates.{AreFates}
use Rattle.parallel_repair.specs.declared.answers.Answer.{Answer}
use Rattle.parallel_repair.specs.declared.answers.Fate.{Fate}
use Rattle.parallel_repair.specs.declared.answers.Fate.TheVariants.{Ran, Skipped}
use Rattle.parallel_repair.specs.declared.answers.Row.{Row}
use Rattle.parallel_repair.proofs.WorkLemmas.{in_either, jobs_of-append}

get_here : (fates : List Fate) (i : ℕ) (f : Fate) → i < length fates → slice_get (set fates i f) i ≡ Some f
get_here [] i f h = absurd (omega arith)
get_here (x ∷ fates) zero f h = refl
get_here (x ∷ fates) (suc i) f h = get_here fates i f (omega arith)

get_else : (fates : List Fate) (i j : ℕ) (f : Fate) → j ≢ i → slice_get (set fates i f) j ≡ slice_get fates j
get_else [] i j f d = refl
get_else (x ∷ fates) zero zero f d = absurd (d refl)
get_else (x ∷ fates) zero (suc j) f d = refl
get_else (x ∷ fates) (suc i) zero f d = refl
get_else (x ∷ fates) (suc i) (suc j) f d = get_else fates i j f (λ e. d (ap suc e))

get_all : (n i : ℕ) (f : Fate) → i < n → slice_get (replicate n f) i ≡ Some f
get_all zero i f h = absurd (omega arith)
get_all (suc n) zero f h = refl
get_all (suc n) (suc i) f h = get_all n i f (omega arith)

module _ (answer : ℕ → Answer) (jobs by : ℕ) where
  pub none_ran : AreFates answer jobs [] by (replicate jobs (Skipped by))
  none_ran = record {
    count = length-replicate jobs (Skipped by);
    ran = λ n h. absurd (omega (arith, h));
    skipped = λ n lt _. get_all jobs n (Skipped by) lt;
  }

  pub one_ran : (rows : List Row) (fates : List Fate) (r : Row) → IsRow answer jobs r
      → AreFates answer jobs rows by fates → AreFates answer jobs (rows ++ r ∷ []) by (set fates r.job (Ran r.totals))
  one_ran rows fates r is a =
      let jobs_are = jobs_of-append rows (r ∷ []) in
      let here : HasRun answer (set fates r.job (Ran r.totals)) r.job =
      get_here fates r.job (Ran r.totals) (omega (arith, is.0, a.count)) ∙ ap (λ t. Some (Ran t)) is.1 in
      record {
        count = length-set fates r.job (Ran r.totals) ∙ a.count;
        ran = λ n h. dite (ℕ_discrete n r.job)
            (λ (e : n ≡ r.job). subst (HasRun answer (set fates r.job (Ran r.totals))) (sym e) here)
            (λ (d : n ≢ r.job). get_else fates r.job n (Ran r.totals) d
            ∙ a.ran n (⊎_elim (λ l. l) (λ x. absurd (d (one_is n r.job (omega (arith, x)))))
            (in_either n (jobs_of rows) (r.job ∷ []) (subst (IsAmong n) jobs_are h))));
        skipped = λ n lt none.
            let z = ap (times n) jobs_are in
            let s = weigh-append (one_at n) (jobs_of rows) (r.job ∷ []) in
            get_else fates r.job n (Ran r.totals) (λ e. absurd
            (let o : one_at n r.job ≡ 1 = ap (λ k. one_at n k) (sym e) ∙ one_here n in
            omega (arith, none, z, s, o)))
            ∙ a.skipped n lt (omega (arith, none, z, s));
      }

take_suc : (xs : List Row) (i : ℕ) (d : Row) → i < length xs → take (suc i) xs ≡ take i xs ++ get_or xs i d ∷ []
take_suc [] i d h = absurd (omega arith)
take_suc (x ∷ xs) zero d h = refl
take_suc (x ∷ xs) (suc i) d h = ap (λ l. x ∷ l) (take_suc xs i d (omega arith))

pub take_more : (xs : List Row) (i : ℕ) (d : Row) → i < length xs → take (i + 1) xs ≡ take i xs ++ get_or xs i d ∷ []
take_more xs i d h = let e : suc i ≡ i + 1 = omega arith in
    subst (λ k. take k xs ≡ take i xs ++ get_or xs i d ∷ []) e (take_suc xs i d h)

pub all_rows : (P : Row → Type 0) (rows : List Row) → AllByRecursion P rows → All P rows
all_rows P [] h k d lt = absurd (omega (arith, lt))
all_rows P (x ∷ rows) h zero d lt = h.0
all_rows P (x ∷ rows) h (suc k) d lt = all_rows P rows h.1 k d (omega (arith, lt))
