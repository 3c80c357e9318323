-- What is true of the least result of many repairs.
use Rattle.std.proofs.Common.{ℕ, ◌≡◌, ◌⊎◌, ◌==◌, ◌&&◌, ◌||◌, nat_lt, inl, inr, Bool, true, false, List, ◌++◌}
use Rattle.std.proofs.Common.{sym, ap, subst, ◌∙◌, refl, encode_utf8_all}
use Rattle.ejection_repair.specs.Repaired.{repaired}
use Rattle.ejection_repair.specs.Settled.{IsNoWorse, accepted_of}
use Rattle.ejection_repair.proofs.SettledLaws.{no_worse_by}
use Rattle.khe_base.specs.Totals.{is_lower}
use Rattle.khe_base.specs.declared.sums.Totals.{Totals}
use Rattle.khe_engine.specs.Openings.{IsStateOf}
use Rattle.khe_engine.specs.States.{State}
use Rattle.khe_engine.specs.Values.{totals}
use Rattle.khe_instance.specs.WellMade.{AreWellMade}
use Rattle.khe_instance.specs.declared.parts.Parts.{Parts}
use Rattle.khe_instance.specs.declared.states.Plain.{Plain}
use Rattle.parallel_repair.specs.Jobs.{answer_at, job_answer, job_from}
use Rattle.parallel_repair.specs.Listed.{state_in}
use Rattle.parallel_repair.proofs.FillLemmas.{state_is}
use Rattle.parallel_repair.specs.Ranks.{is_before}
use Rattle.parallel_repair.specs.Solved.{IsSolved}
use Rattle.parallel_repair.specs.declared.answers.Solved.{Solved}
use Rattle.parallel_repair.proofs.SolvedLemmas.{same_solved}
use Rattle.xhstt_shape.specs.declared.records.Archive.{Archive}
use Rattle.xhstt_writer.specs.Archives.{canonical}
use Rattle.repair_run.specs.Laws.{IsLeast}
use Rattle.repair_run.specs.Lines.{solve_line}
use Rattle.repair_run.specs.Placed.{respelled}
use Rattle.repair_run.specs.Solves.{IsSolveText, solve_bytes}
use Rattle.repair_run.proofs.MendedLaws.{lower}

-- totals that do not come first are not lower
left_false : (x y : Bool) → (x || y) ≡ false → x ≡ false
left_false true y h = h
left_false false y h = refl

not_lower : (t u : Totals) (i j : ℕ) → is_before t i u j ≡ false → is_lower t u ≡ false
not_lower t u i j h =
    left_false (is_lower t u) (((t.hard == u.hard) && (t.soft == u.soft)) && nat_lt i j) h

-- what a job comes to costs what the state that it leaves does
job_costs : (p : Parts) (plain : Plain) (before : State) (depth budget n : ℕ) → before ≡ state_in p plain
    → (job_answer p plain depth budget n).totals ≡ totals p (repaired p before depth budget n).state
unfolding job_answer job_from answer_at
job_costs p plain before depth budget n e = ap (λ (s : State). totals p (repaired p s depth budget n).state) (sym e)

pub least : (p : Parts) (plain : Plain) (before : State) (depth budget jobs : ℕ) (s : Solved) → AreWellMade p
    → IsStateOf p plain before → IsSolved (job_answer p plain depth budget) jobs s
    → IsLeast p before depth budget jobs s
least p plain before depth budget jobs s made is solved = record {
  cost = by (no_worse_by p before u depth budget s.job (repaired p before depth budget s.job).outcome refl refl);
  least = λ n lt.
      subst (λ (t : Totals). is_lower t s.totals ≡ false) (job_costs p plain before depth budget n begins)
      (not_lower (job_answer p plain depth budget n).totals s.totals n s.job (solved.least n lt));
}
  where
    u : State
    u = (repaired p before depth budget s.job).state

    begins : before ≡ state_in p plain
    begins = state_is p plain before made is

    costs : s.totals ≡ totals p u
    costs = solved.totals ∙ job_costs p plain before depth budget s.job begins

    by : IsNoWorse p before u (accepted_of (repaired p before depth budget s.job).outcome)
        → (s.totals ≡ totals p before) ⊎ (is_lower s.totals (totals p before) ≡ true)
    by (inl (none, same)) = inl (costs ∙ ap (totals p) same)
    by (inr (some, h)) =
        inr (subst (λ (t : Totals). is_lower t (totals p before) ≡ true) (sym costs) (lower p u before h))

pub one_way : (a : Archive) (number : ℕ) (p : Parts) (plain : Plain) (depth budget jobs : ℕ) (text other : List ℕ)
    → IsSolveText a number p plain depth budget jobs text → IsSolveText a number p plain depth budget jobs other
    → encode_utf8_all text ≡ encode_utf8_all other
one_way a number p plain depth budget jobs text other x y =
    let same = same_solved (job_answer p plain depth budget) jobs x.solved y.solved x.is y.is in
    let bytes : solve_bytes a number p x.solved ≡ solve_bytes a number p y.solved =
    λ i. canonical (respelled a number p (same.2 i)) ++ encode_utf8_all (solve_line (same.0 i) (same.1 i)) in
    x.bytes_are ∙ bytes ∙ sym y.bytes_are
