-- Every step of a board as plain data keeps the order, and so does every run.
use Rattle.std.proofs.Common.{◌≡◌, ◌≢◌, ℕ, zero, suc, ◌+◌, ◌<◌, List, [], ◌∷◌, ◌++◌, length, set, refl, sym, ap, ◌∙◌}
use Rattle.std.proofs.Common.{subst, arith, length-append, length-set}
use Rattle.std.proofs.lemmas.Bool.Decides.{nat_tests}
use mathlib.Core.Logic.{dite}
use native.Mathlib.Decide.{ℕ_discrete, dec_lt}
use Rattle.solve_board.specs.States.{list_of, with_number, stepped, MayStep, IsInOrder}
use Rattle.solve_board.specs.Runs.{moved, Event, Steps, Splits, Joins, after, MayHappen, IsRun, ran, nobody}
use Rattle.solve_board.specs.Counts.{total, times, one_at, IsAmong, once_below}
use Rattle.solve_board.specs.declared.states.BoardState.{BoardState}
use Rattle.solve_board.specs.declared.states.BoardStep.{BoardStep}
use Rattle.solve_board.specs.declared.states.BoardStep.TheVariants.{Claim, Offer, Look}
use Rattle.solve_board.proofs.Sums.{one_is, weigh-append, total_snoc}

list_here : (lists : List (List ℕ)) (i : ℕ) (new : List ℕ) → i < length lists → list_of (set lists i new) i ≡ new
list_here [] i new h = absurd (omega arith)
list_here (x ∷ lists) zero new h = refl
list_here (x ∷ lists) (suc i) new h = list_here lists i new (omega arith)

list_else : (lists : List (List ℕ)) (i j : ℕ) (new : List ℕ) → j ≢ i → list_of (set lists i new) j ≡ list_of lists j
list_else [] i j new d = refl
list_else (x ∷ lists) zero zero new d = absurd (d refl)
list_else (x ∷ lists) zero (suc j) new d = refl
list_else (x ∷ lists) (suc i) zero new d = refl
list_else (x ∷ lists) (suc i) (suc j) new d = list_else lists i j new (λ e. d (ap suc e))

list_more : (lists : List (List ℕ)) (j : ℕ) → list_of (lists ++ [] ∷ []) j ≡ list_of lists j
list_more [] zero = refl
list_more [] (suc j) = refl
list_more (x ∷ lists) zero = refl
list_more (x ∷ lists) (suc j) = list_more lists j

total_list : (f : List ℕ → ℕ) (lists : List (List ℕ)) (i : ℕ) (new : List ℕ) → i < length lists
    → total f (set lists i new) + f (list_of lists i) ≡ total f lists + f new
total_list f [] i new h = absurd (omega arith)
total_list f (x ∷ lists) zero new h = omega arith
total_list f (x ∷ lists) (suc i) new h = omega (arith, total_list f lists i new (omega arith))

-- a number that joins a list is then among it, and the others stay
among_more : (lists : List (List ℕ)) (i j n new : ℕ) → i < length lists → IsAmong n (list_of lists j)
    → IsAmong n (list_of (with_number lists i new) j)
among_more lists i j n new h is = dite (ℕ_discrete j i)
    (λ (e : j ≡ i). subst (λ k. IsAmong n (list_of (with_number lists i new) k)) (sym e)
    (subst (IsAmong n) (sym (list_here lists i (list_of lists i ++ new ∷ []) h))
    (omega (
      arith,
      weigh-append (one_at n) (list_of lists i) (new ∷ []),
      subst (λ k. IsAmong n (list_of lists k)) e
          is,
    ))))
    (λ (d : j ≢ i). subst (IsAmong n) (sym (list_else lists i j (list_of lists i ++ new ∷ []) d)) is)

once_next : (bound n : ℕ) → once_below (bound + 1) n ≡ once_below bound n + one_at n bound
once_next bound n = grind (arith, nat_tests)

pub step_order : (s : BoardState) (step : BoardStep) → MayStep s step → IsInOrder s → IsInOrder (stepped s step)
step_order s (Claim worker) may o = record {
  paired = omega (arith, o.paired, length-set s.claims worker (list_of s.claims worker ++ s.next ∷ []));
  claims = λ n.
      let a = total_list (times n) s.claims worker (list_of s.claims worker ++ s.next ∷ []) may.0.0 in
      let b = weigh-append (one_at n) (list_of s.claims worker) (s.next ∷ []) in
      let c = o.claims n in
      let d = once_next s.next n in
      omega (arith, a, b, c, d);
  offers = λ j n is. among_more s.claims worker j n s.next may.0.0 (o.offers j n is);
}
step_order s (Offer worker job) may o = record {
  paired = omega (arith, o.paired, length-set s.offers worker (list_of s.offers worker ++ job ∷ []));
  claims = o.claims;
  offers = λ j n is. dite (ℕ_discrete j worker)
      (λ (e : j ≡ worker). subst (λ k. IsAmong n (list_of s.claims k)) (sym e)
      (here n (dec_lt 0 (times n (list_of s.offers worker)))
      (subst (IsAmong n) (list_here s.offers worker (list_of s.offers worker ++ job ∷ []) may.0.1)
      (subst (λ k. IsAmong n (list_of (with_number s.offers worker job) k)) e is))))
      (λ (d : j ≢ worker). o.offers j n (subst (IsAmong n)
      (list_else s.offers worker j (list_of s.offers worker ++ job ∷ []) d) is));
}
  where
    here : (n : ℕ) → Dec (0 < times n (list_of s.offers worker)) → IsAmong n (list_of s.offers worker ++ job ∷ [])
        → IsAmong n (list_of s.claims worker)
    here n (yes was) is = o.offers worker n was
    here n (no not) is =
        let same : n ≡ job = one_is n job (omega (
          arith,
          weigh-append (one_at n) (list_of s.offers worker) (job ∷ []),
          not,
          is,
        )) in
        subst (λ m. IsAmong m (list_of s.claims worker)) (sym same) may.1
step_order s (Look worker) may o = o

-- what stands in the lists after one moved into another
moved_from : (lists : List (List ℕ)) (into from : ℕ) → from < length lists → list_of (moved lists into from) from ≡ []
moved_from lists into from h = list_here (set lists into (list_of lists into ++ list_of lists from)) from []
    (omega (arith, h, length-set lists into (list_of lists into ++ list_of lists from)))

moved_into : (lists : List (List ℕ)) (into from : ℕ) → into < length lists → into ≢ from
    → list_of (moved lists into from) into ≡ list_of lists into ++ list_of lists from
moved_into lists into from h d = list_else (set lists into (list_of lists into ++ list_of lists from)) from into [] d
    ∙ list_here lists into (list_of lists into ++ list_of lists from) h

moved_else : (lists : List (List ℕ)) (into from j : ℕ) → j ≢ into → j ≢ from
    → list_of (moved lists into from) j ≡ list_of lists j
moved_else lists into from j d e = list_else (set lists into (list_of lists into ++ list_of lists from)) from j [] e
    ∙ list_else lists into j (list_of lists into ++ list_of lists from) d

moved_total : (n : ℕ) (lists : List (List ℕ)) (into from : ℕ) → into < length lists → from < length lists → into ≢ from
    → total (times n) (moved lists into from) ≡ total (times n) lists
moved_total n lists into from h k d =
    let both = list_of lists into ++ list_of lists from in
    let one : List (List ℕ) = set lists into both in
    let a = total_list (times n) lists into both h in
    let b = total_list (times n) one from [] (omega (arith, k, length-set lists into both)) in
    let c : times n (list_of one from) ≡ times n (list_of lists from) =
    ap (times n) (list_else lists into from both (λ e. d (sym e))) in
    let e = weigh-append (one_at n) (list_of lists into) (list_of lists from) in
    omega (arith, a, b, c, e)

moved_length : (lists : List (List ℕ)) (into from : ℕ) → length (moved lists into from) ≡ length lists
moved_length lists into from = length-set (set lists into (list_of lists into ++ list_of lists from)) from []
    ∙ length-set lists into (list_of lists into ++ list_of lists from)

join_order : (s : BoardState) (into from : ℕ) → MayHappen s (Joins into from) → IsInOrder s
    → IsInOrder (after s (Joins into from))
join_order s into from may o = record {
  paired = omega (arith, o.paired, moved_length s.offers into from, moved_length s.claims into from);
  claims = λ n. moved_total n s.claims into from may.0.0 may.1.0 may.2 ∙ o.claims n;
  offers = λ j n is. dite (ℕ_discrete j from)
      (λ (e : j ≡ from). absurd (nothing n (subst (IsAmong n) (moved_from s.offers into from may.1.1)
      (subst (λ k. IsAmong n (list_of (moved s.offers into from) k)) e is))))
      (λ (d : j ≢ from). dite (ℕ_discrete j into)
      (λ (e : j ≡ into). subst (λ k. IsAmong n (list_of (moved s.claims into from) k)) (sym e)
      (subst (IsAmong n) (sym (moved_into s.claims into from may.0.0 may.2))
      (either_of n (dec_lt 0 (times n (list_of s.offers into)))
      (subst (IsAmong n) (moved_into s.offers into from may.0.1 may.2)
      (subst (λ k. IsAmong n (list_of (moved s.offers into from) k)) e is)))))
      (λ (f : j ≢ into). subst (IsAmong n) (sym (moved_else s.claims into from j f d))
      (o.offers j n (subst (IsAmong n) (moved_else s.offers into from j f d) is))));
}
  where
    nothing : (n : ℕ) → IsAmong n [] → ⊥
    nothing n is = omega (arith, is)

    either_of : (n : ℕ) → Dec (0 < times n (list_of s.offers into))
        → IsAmong n (list_of s.offers into ++ list_of s.offers from)
        → IsAmong n (list_of s.claims into ++ list_of s.claims from)
    either_of n (yes was) is = let a = o.offers into n was in
        omega (arith, a, weigh-append (one_at n) (list_of s.claims into) (list_of s.claims from))
    either_of n (no not) is = let a = o.offers from n
        (omega (arith, not, is, weigh-append (one_at n) (list_of s.offers into) (list_of s.offers from))) in
        omega (arith, a, weigh-append (one_at n) (list_of s.claims into) (list_of s.claims from))

event_order : (s : BoardState) (e : Event) → MayHappen s e → IsInOrder s → IsInOrder (after s e)
event_order s (Steps step) may o = step_order s step may o
event_order s Splits may o = record {
  paired = omega (arith, o.paired, length-append s.offers ([] ∷ []), length-append s.claims ([] ∷ []));
  claims = λ n. omega (arith, total_snoc (times n) s.claims [], o.claims n);
  offers = λ j n is. subst (IsAmong n) (sym (list_more s.claims j))
      (o.offers j n (subst (IsAmong n) (list_more s.offers j) is));
}
event_order s (Joins into from) may o = join_order s into from may o

pub run_order : (events : List Event) (s : BoardState) → IsRun s events → IsInOrder s → IsInOrder (ran s events)
run_order [] s run o = o
run_order (e ∷ events) s run o = run_order events (after s e) run.1 (event_order s e run.0 o)

pub nobody_order : IsInOrder nobody
nobody_order = record { paired = refl; claims = λ n. grind (arith, nat_tests); offers = λ j n is. absurd (none j n is) }
  where
    none : (j n : ℕ) → IsAmong n (list_of [] j) → ⊥
    none j n is = omega (arith, is)

pub order_after : (s after : BoardState) (step : BoardStep) → after ≡ stepped s step → MayStep s step → IsInOrder s
    → IsInOrder after
order_after s after step is may o = subst IsInOrder (sym is) (step_order s step may o)
