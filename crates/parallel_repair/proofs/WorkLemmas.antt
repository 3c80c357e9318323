-- What workers have done, put together.
use Rattle.std.proofs.Common.{◌≡◌, ◌⊎◌, inl, inr, ⊎_elim, ℕ, ◌+◌, ◌<◌, ◌≤◌, Bool, true, false, List, [], ◌∷◌, ◌++◌}
use Rattle.std.proofs.Common.{Option, Some, None}
use Rattle.std.proofs.Common.{refl, sym, ap, ◌∙◌, subst, arith, append-nil}
use Rattle.std.specs.Prelude.{if◌then◌else◌}
use Rattle.std.specs.List.{AllByRecursion}
use native.Mathlib.Decide.{dec_lt}
use Rattle.solve_board.specs.Counts.{times, one_at, IsAmong}
use Rattle.solve_board.proofs.Sums.{weigh-append, one_here, one_is}
use Rattle.parallel_repair.specs.Ranks.{is_before, CostsNothing, is_free, lesser}
use Rattle.parallel_repair.specs.Worked.{jobs_of, IsBest, IsDone, IsRow, IsWorked}
use Rattle.parallel_repair.specs.Turns.{row, best_of}
use Rattle.parallel_repair.specs.declared.answers.Answer.{Answer}
use Rattle.parallel_repair.specs.declared.answers.Best.{Best}
use Rattle.parallel_repair.specs.declared.answers.Row.{Row}
use Rattle.parallel_repair.proofs.RankLemmas.{before_lower, before_through, before_self, free_zero, zero_free}

pub in_left : (n : ℕ) (xs ys : List ℕ) → IsAmong n xs → IsAmong n (xs ++ ys)
in_left n xs ys h = omega (arith, weigh-append (one_at n) xs ys, h)

pub in_right : (n : ℕ) (xs ys : List ℕ) → IsAmong n ys → IsAmong n (xs ++ ys)
in_right n xs ys h = omega (arith, weigh-append (one_at n) xs ys, h)

pub in_either : (n : ℕ) (xs ys : List ℕ) → IsAmong n (xs ++ ys) → IsAmong n xs ⊎ IsAmong n ys
in_either n xs ys h = cases (dec_lt 0 (times n xs))
  where
    cases : Dec (0 < times n xs) → IsAmong n xs ⊎ IsAmong n ys
    cases (yes l) = inl l
    cases (no r) = inr (omega (arith, weigh-append (one_at n) xs ys, h, r))

pub in_none : (n : ℕ) (A : Type 0) → IsAmong n [] → A
in_none n A h = absurd (omega (arith, h))

pub jobs_of-append : (xs ys : List Row) → jobs_of (xs ++ ys) ≡ jobs_of xs ++ jobs_of ys
jobs_of-append [] ys = refl
jobs_of-append (x ∷ xs) ys = ap (λ l. x.job ∷ l) (jobs_of-append xs ys)

rows-append : (P : Row → Type 0) (xs ys : List Row) → AllByRecursion P xs → AllByRecursion P ys
    → AllByRecursion P (xs ++ ys)
rows-append P [] ys a b = b
rows-append P (x ∷ xs) ys a b = (a.0, rows-append P xs ys a.1 b)

module _ (answer : ℕ → Answer) where
  Least : List ℕ → Best → Type 0
  Least ns b = (n : ℕ) → IsAmong n ns → is_before (answer n).totals n b.totals b.job ≡ false

  pub best_both : (ns ms : List ℕ) (a b : Option Best) → IsBest answer ns a → IsBest answer ms b
      → IsBest answer (ns ++ ms) (lesser a b)
  best_both ns ms None b p q = subst (λ l. IsBest answer (l ++ ms) b) (sym p) q
  best_both ns ms (Some a) None p q = subst (λ l. IsBest answer l (Some a))
      (sym (append-nil ns) ∙ ap (λ l. ns ++ l) (sym q)) p
  best_both ns ms (Some a) (Some b) p q = chosen (is_before b.totals b.job a.totals a.job) refl
    where
      chosen : (c : Bool) → is_before b.totals b.job a.totals a.job ≡ c
          → IsBest answer (ns ++ ms) (if c then Some b else Some a)
      chosen true is = (
        in_right b.job ns ms q.0,
        q.1,
        q.2,
        λ n h. ⊎_elim
            (λ l. before_lower (answer n).totals a.totals b.totals n a.job b.job (p.3 n l) is) (λ r. q.3 n r)
            (in_either n ns ms h),
      )
      chosen false is = (
        in_left a.job ns ms p.0,
        p.1,
        p.2,
        λ n h. ⊎_elim (λ l. p.3 n l)
            (λ r. before_through (answer n).totals a.totals b.totals n a.job b.job (q.3 n r) is) (in_either n ns ms h),
      )

  done_more : (looks ran more : List ℕ) (n : ℕ) → ((m : ℕ) → IsAmong m looks → IsAmong m more) → IsDone looks ran n
      → IsDone more ran n
  done_more looks ran more n sub d = ⊎_elim (λ l. inl l) (λ r. inr (r.0, sub r.0 r.1, r.2)) d

  -- more looks take nothing away
  pub grow : (jobs : ℕ) (claims offers looks more : List ℕ) (rows : List Row) (best : Option Best)
      → ((m : ℕ) → IsAmong m looks → IsAmong m more) → IsWorked answer jobs claims offers looks rows best
      → IsWorked answer jobs claims offers more rows best
  grow jobs claims offers looks more rows best sub w = record {
    done = λ n h lt. done_more looks (jobs_of rows) more n sub (w.done n h lt);
    rows_are = w.rows_are;
    zeros = w.zeros;
    offers_are = w.offers_are;
    best_is = w.best_is;
  }

  pub both : (jobs : ℕ) (c1 c2 o1 o2 looks : List ℕ) (r1 r2 : List Row) (b1 b2 : Option Best)
      → IsWorked answer jobs c1 o1 looks r1 b1 → IsWorked answer jobs c2 o2 looks r2 b2
      → IsWorked answer jobs (c1 ++ c2) (o1 ++ o2) looks (r1 ++ r2) (lesser b1 b2)
  both jobs c1 c2 o1 o2 looks r1 r2 b1 b2 v w =
      let ran = jobs_of-append r1 r2 in
      let left = λ (n : ℕ) (h : IsAmong n (jobs_of r1)). subst (IsAmong n) (sym ran)
      (in_left n (jobs_of r1) (jobs_of r2) h) in
      let right = λ (n : ℕ) (h : IsAmong n (jobs_of r2)). subst (IsAmong n) (sym ran)
      (in_right n (jobs_of r1) (jobs_of r2) h) in
      record {
        done = λ n h lt. ⊎_elim
            (λ l. ⊎_elim (λ x. inl (left n x)) (λ y. inr y) (v.done n l lt))
            (λ r. ⊎_elim (λ x. inl (right n x)) (λ y. inr y) (w.done n r lt))
            (in_either n c1 c2 h);
        rows_are = rows-append (IsRow answer jobs) r1 r2 v.rows_are w.rows_are;
        zeros = λ n h z. ⊎_elim (λ l. in_left n o1 o2 (v.zeros n l z)) (λ r. in_right n o1 o2 (w.zeros n r z))
            (in_either n (jobs_of r1) (jobs_of r2) (subst (IsAmong n) ran h));
        offers_are = λ n h. ⊎_elim (λ l. let o = v.offers_are n l in (left n o.0, o.1))
            (λ r. let o = w.offers_are n r in (right n o.0, o.1)) (in_either n o1 o2 h);
        best_is = subst (λ l. IsBest answer l (lesser b1 b2)) (sym ran)
            (best_both (jobs_of r1) (jobs_of r2) b1 b2 v.best_is w.best_is);
      }

  pub nothing : (jobs : ℕ) (looks : List ℕ) → IsWorked answer jobs [] [] looks [] None
  nothing jobs looks = record {
    done = λ n h lt. in_none n (IsDone looks [] n) h;
    rows_are = tt;
    zeros = λ n h z. h;
    offers_are = λ n h. in_none n (IsAmong n [] × CostsNothing (answer n).totals) h;
    best_is = refl;
  }

  -- a worker that has claimed a number of jobs or more
  pub one_past : (jobs job : ℕ) (looks : List ℕ) → jobs ≤ job → IsWorked answer jobs (job ∷ []) [] looks [] None
  one_past jobs job looks ge = record {
    done = λ n h lt. absurd (let same = one_is n job (omega (arith, h)) in omega (arith, same, lt, ge));
    rows_are = tt;
    zeros = λ n h z. h;
    offers_are = λ n h. in_none n (IsAmong n [] × CostsNothing (answer n).totals) h;
    best_is = refl;
  }

  -- a job that is skipped for a lower one
  pub one_skipped : (jobs job m : ℕ) (looks : List ℕ) → IsAmong m looks → m < job
      → IsWorked answer jobs (job ∷ []) [] looks [] None
  one_skipped jobs job m looks is lt = record {
    done = λ n h _. inr (m, is, let same = one_is n job (omega (arith, h)) in omega (arith, same, lt));
    rows_are = tt;
    zeros = λ n h z. h;
    offers_are = λ n h. in_none n (IsAmong n [] × CostsNothing (answer n).totals) h;
    best_is = refl;
  }

  -- a job that is run
  pub one_run : (jobs job : ℕ) (looks : List ℕ) → job < jobs
      → IsWorked answer jobs (job ∷ []) (if is_free (answer job).totals then job ∷ [] else []) looks
      (row job (answer job) ∷ []) (Some (best_of job (answer job)))
  one_run jobs job looks lt = record {
    done = λ n h _. inl h;
    rows_are = ((lt, refl), tt);
    zeros = λ n h z. zero_there n (is_free (answer job).totals) refl (one_is n job (omega (arith, h))) z;
    offers_are = λ n h. offer_there n (is_free (answer job).totals) refl h;
    best_is = (
      omega (arith, one_here job),
      refl,
      refl,
      λ n h. subst
          (λ k. is_before (answer k).totals k (answer job).totals job ≡ false) (sym (one_is n job (omega (arith, h))))
          (before_self (answer job).totals job),
    );
  }
    where
      zero_there : (n : ℕ) (b : Bool) → is_free (answer job).totals ≡ b → n ≡ job → CostsNothing (answer n).totals
          → IsAmong n (if b then job ∷ [] else [])
      zero_there n true is same z = omega (arith, one_here job, ap (λ k. one_at k job) same)
      zero_there n false is same z = absurd (zero_free (answer job).totals is
          (subst (λ k. CostsNothing (answer k).totals) same z))

      offer_there : (n : ℕ) (b : Bool) → is_free (answer job).totals ≡ b → IsAmong n (if b then job ∷ [] else [])
          → IsAmong n (job ∷ []) × CostsNothing (answer n).totals
      offer_there n true is h = (
        h,
        subst (λ k. CostsNothing (answer k).totals) (sym (one_is n job (omega (arith, h))))
            (free_zero (answer job).totals is),
      )
      offer_there n false is h = in_none n (IsAmong n (job ∷ []) × CostsNothing (answer n).totals) h
