-- What a repair and a solve are written as is read as the same archive but for one solution, which costs no more.
use Rattle.std.proofs.Common.{ℕ, ◌≡◌, ◌<◌, ◌⊎◌, inl, inr, ◌∙◌, refl, sym, ap, subst, true, Option, Some, None}
use Rattle.std.proofs.Common.{Ok, List, [], ◌++◌, slice_get, option_map, All, encode_utf8_all}
use Rattle.std.specs.Option.{option_map_or}
use Rattle.std.proofs.lemmas.Option.{same_Some}
use Rattle.ejection_repair.specs.Repaired.{repaired}
use Rattle.ejection_repair.specs.Settled.{accepted_of}
use Rattle.khe_base.specs.Totals.{is_lower}
use Rattle.khe_base.specs.declared.sums.Totals.{Totals}
use Rattle.khe_engine.specs.Openings.{IsStateOf}
use Rattle.khe_engine.specs.States.{State}
use Rattle.khe_engine.specs.Values as values
use Rattle.khe_instance.specs.Evaluated.{totals}
use Rattle.khe_instance.specs.States.{IsValid}
use Rattle.khe_instance.specs.WellMade.{AreWellMade}
use Rattle.khe_instance.specs.declared.parts.Parts.{Parts}
use Rattle.khe_instance.specs.declared.states.Plain.{Plain}
use Rattle.parallel_repair.specs.Jobs.{answer_at, job_answer, job_from}
use Rattle.parallel_repair.specs.Listed.{listed, state_in}
use Rattle.parallel_repair.proofs.FillLemmas.{state_is}
use Rattle.khe_told.specs.Lists.{meets_in, tasks_in}
use Rattle.repair_run.proofs.LineLaws.{repair_read, solve_read}
use Rattle.repair_run.proofs.MendedLaws.{no_dearer}
use Rattle.repair_run.proofs.SolvedLaws.{least}
use Rattle.repair_run.proofs.SpellLaws.{respelled_formed}
use Rattle.repair_run.specs.Lines.{repair_line, solve_line}
use Rattle.repair_run.specs.Placed.{archive_with, respelled}
use Rattle.repair_run.specs.Repairs.{IsRepairText}
use Rattle.repair_run.specs.Solves.{IsSolveText}
use Rattle.xhstt_entries.specs.Texts.{HasSpellable}
use Rattle.same_archives.proofs.FaultLaws.{same_resolved}
use Rattle.same_archives.proofs.SolutionLaws.{same_completed}
use Rattle.same_archives.proofs.SpellingLaws.{same_spelling}
use Rattle.written_costs.proofs.WrittenLaws.{written_costs_as_before}
use Rattle.xhstt_completion.proofs.Resolved.{placed}
use Rattle.xhstt_completion.proofs.Valid.{state-valid}
use Rattle.xhstt_completion.specs.Causes.{first_cause}
use Rattle.xhstt_completion.specs.Completed.{completed, state_of, unless}
use Rattle.xhstt_completion.specs.Entries.{IsEntry, IsSolution}
use Rattle.xhstt_completion.specs.declared.faults.Cause.{Cause}
use Rattle.xhstt_entries.proofs.EntryLaws.{each_entry}
use Rattle.xhstt_entries.specs.Spelled.{entries_of, spelled}
use Rattle.xhstt_references.specs.Followed.{followed_of}
use Rattle.xhstt_references.specs.References.{solutions_of}
use Rattle.xhstt_resolve.specs.Resolved.{resolved}
use Rattle.xhstt_resolve.specs.declared.resolving.Resolved.{Resolved}
use Rattle.xhstt_shape.specs.Places.{unplaced}
use Rattle.xhstt_shape.specs.WellFormed.{IsWellFormed}
use Rattle.xhstt_shape.specs.declared.records.Archive.{Archive}
use Rattle.xhstt_shape.specs.declared.records.RawSolution.{RawSolution}
use Rattle.xhstt_writer.specs.Archives.{IsReadAs, canonical}
use Rattle.xhstt_writer.proofs.Written.{canonical_spells}
use Rattle.text_laws.specs.Read.{IsArchiveOf, IsTimetableOf}
use Rattle.text_laws.specs.Repaired.{IsReadRepaired, IsReadSolved, IsWrittenWith}
use Rattle.text_laws.specs.Rewritten.{IsReadAgain}
use Rattle.text_laws.proofs.PlacedLaws.{entries_only, same_emptied, set_there}
use Rattle.text_laws.proofs.ReadLaws.{instance_of, read_formed, spellable, well_made}
use Rattle.text_laws.proofs.ResolvedLaws.{resolved_with}
use Rattle.text_laws.proofs.StateLaws.{IsLeft, cleared, left_by, same_totals, state_there}

-- a canonical spelling is read again
pub read_again : (bytes : List ℕ) (a : Archive) (r : Resolved) → IsArchiveOf bytes a r → IsReadAgain a r
read_again bytes a r is =
    let back = canonical_spells a (read_formed bytes a r is) in
    record {
      archive = back.1;
      read = record {
        tree = back.0;
        spelled = back.2;
        shape = back.3;
        resolved_is = same_resolved a back.1 r back.4 is.resolved_is;
      };
      same = back.4;
      again = sym (same_spelling a back.1 back.4);
    }

-- what a solution that is read says stands whole, with all monitors attached and no groups
pub record IsWhole (p : Parts) (plain : Plain) : Type 0 where
  pub valid : IsValid p plain
  pub none : plain.detached ≡ []
  pub single : plain.groups ≡ []

whole_by : (p : Parts) (raw : RawSolution) (plain : Plain) (o : Option Cause) → AreWellMade p → IsSolution p raw
    → first_cause p [] raw.events ≡ o → unless o (state_of p raw.events) ≡ Ok plain → IsWhole p plain
whole_by p raw plain None made is e same =
    let plain_is : state_of p raw.events ≡ plain = let g : state_of p raw.events ≡ plain = cc in g in
    record {
      valid = subst (IsValid p) plain_is (state-valid p raw.events made is e);
      none = sym (ap (λ x. x.detached) plain_is);
      single = sym (ap (λ x. x.groups) plain_is);
    }
whole_by p raw plain (Some cause) made is e same = absurd (let g : ⊥ = cc in g)

pub whole : (a : Archive) (r : Resolved) (number : ℕ) (p : Parts) (plain : Plain) → IsWellFormed a → resolved a ≡ Ok r
    → AreWellMade p → IsTimetableOf a r number p plain → IsWhole p plain
whole a r number p plain w e made x =
    let pl = placed a r e w.in_form number x.solution x.there in
    whole_by p x.solution plain (first_cause p [] x.solution.events) made
    (subst (λ q. IsSolution q x.solution) (same_Some pl.parts p (sym pl.at ∙ x.parts)) pl.solution) refl x.completes

-- a value that a mapped option has comes from one
source : {A B : Type 0} (f : A → B) (o : Option A) (y : B) → option_map f o ≡ Some y → (x : A) × (o ≡ Some x) × (f x ≡ y)
source f None y e = absurd (let g : ⊥ = cc in g)
source f (Some x) y e = (x, refl, same_Some (f x) y e)

-- an archive that was read, with a solution and a timetable that is written in its place
module _ (a : Archive) (r : Resolved) (number : ℕ) (p : Parts) (plain : Plain) (w : IsWellFormed a)
    (e : resolved a ≡ Ok r) (x : IsTimetableOf a r number p plain) (made : AreWellMade p) (left : Plain)
    (valid : IsValid p (cleared left)) where
  abbrev old : RawSolution
  old = x.solution

  abbrev c : Archive
  c = archive_with (spelled p left old) number a

  entries : All (IsEntry p) (entries_of p left)
  entries = each_entry p (cleared left) made valid.told

  pub written_formed : HasSpellable p → IsWellFormed (respelled a number p left)
  written_formed texts = respelled_formed a w p texts number left entries

  same_written : respelled a number p left ≡ c
  same_written = ap (λ o. option_map_or (λ raw. archive_with (spelled p left raw) number a) o a) x.there

  abbrev again : Resolved
  again = record r { followed = followed_of c }

  resolves : resolved c ≡ Ok again
  resolves = resolved_with a r number old p (entries_of p left) e x.there x.parts entries

  -- the solution of an archive that is the same
  solution_of : (b : Archive) → unplaced c ≡ unplaced b
      → (t : Plain) × IsTimetableOf b again number p t × (totals p t ≡ totals p (cleared left))
  solution_of b same =
      let costs = written_costs_as_before p (cleared left) old made valid in
      let there : option_map (completed p) (slice_get (solutions_of b) number) ≡ Some (Ok costs.0) =
      sym (same_completed c b p number same)
      ∙ ap (option_map (completed p)) (set_there (spelled p left old) old number a x.there)
      ∙ ap Some costs.1 in
      let s = source (completed p) (slice_get (solutions_of b) number) (Ok costs.0) there in
      (costs.0, record { solution = s.0; there = s.1; parts = x.parts; completes = s.2 }, costs.2.totals)

  pub written_with : (bytes line : List ℕ) → IsReadAs bytes (respelled a number p left)
      → bytes ≡ canonical (respelled a number p left) ++ encode_utf8_all line
      → (t : Plain) × IsWrittenWith line a r number p bytes t × (totals p t ≡ totals p (cleared left))
  written_with bytes line is are =
      let b = is.1 in
      let same : unplaced c ≡ unplaced b = sym (ap unplaced same_written) ∙ is.4 in
      let s = solution_of b same in (
        s.0,
        record {
          archive = b;
          again = again;
          bytes_are = are ∙ ap (λ xs. xs ++ encode_utf8_all line) (same_spelling (respelled a number p left) b is.4);
          read = record {
            tree = is.0;
            spelled = is.2;
            shape = is.3;
            resolved_is = same_resolved c b again same resolves;
          };
          instances = refl;
          of = refl;
          same = ap unplaced (sym (entries_only a number old (entries_of p left) x.there)) ∙ same_emptied number c b same;
          solution = s.1;
        },
        s.2,
      )

-- the same with the costs of the timetable on the line
pub line_costs : (f : Totals → List ℕ) (a : Archive) (r : Resolved) (number : ℕ) (p : Parts) (bytes : List ℕ) (t : Plain)
    (u : Totals) → totals p t ≡ u → IsWrittenWith (f u) a r number p bytes t
    → IsWrittenWith (f (totals p t)) a r number p bytes t
line_costs f a r number p bytes t u e h = subst (λ v. IsWrittenWith (f v) a r number p bytes t) (sym e) h

pub repair_no_dearer : (bytes : List ℕ) (a : Archive) (r : Resolved) (number : ℕ) (p : Parts) (plain : Plain)
    (depth budget : ℕ) (text : List ℕ) → IsArchiveOf bytes a r → IsTimetableOf a r number p plain
    → IsRepairText a number p plain depth budget text → IsReadRepaired a r number p plain (encode_utf8_all text)
repair_no_dearer bytes a r number p plain depth budget text read x is =
    let w = read_formed bytes a r read in
    let i = instance_of a r number p read.resolved_is x.parts in
    let made = well_made a r p w read.resolved_is i in
    let stands = whole a r number p plain w read.resolved_is made x in
    let m = is.mended in
    let left = left_by p plain m.plain is.is.state depth budget 0 m.totals made stands.valid stands.none stands.single
    is.is.begins (record { meets = is.is.listed.meets; tasks = is.is.listed.tasks }) is.is.totals in
    let formed = written_formed a r number p plain w read.resolved_is x made m.plain left.valid (spellable a p w i) in
    let back = written_with a r number p plain w read.resolved_is x made m.plain left.valid (encode_utf8_all text)
    (repair_line m.outcome m.totals)
    (subst (λ bs. IsReadAs bs (respelled a number p m.plain)) (sym is.bytes_are) (repair_read a number p m formed))
    is.bytes_are in
    let costs : totals p back.0 ≡ m.totals = back.2 ∙ sym left.costs in
    let law = no_dearer p plain depth budget m is.is in
    let before = same_totals p plain law.before made law.begins in
    record {
      outcome = m.outcome;
      timetable = back.0;
      written = line_costs (repair_line m.outcome) a r number p (encode_utf8_all text) back.0 m.totals costs back.1;
      cost = by back.0 m.totals law.before (accepted_of m.outcome) costs before law.cost;
    }
  where
    by : (t : Plain) (u : Totals) (s : State) (n : ℕ) → totals p t ≡ u → values.totals p s ≡ totals p plain
        → ((n ≡ 0) × (u ≡ values.totals p s)) ⊎ ((0 < n) × (is_lower u (values.totals p s) ≡ true))
        → ((n ≡ 0) × (totals p t ≡ totals p plain)) ⊎ ((0 < n) × (is_lower (totals p t) (totals p plain) ≡ true))
    by t u s n c d (inl (none, same)) = inl (none, c ∙ same ∙ d)
    by t u s n c d (inr (some, lower)) = inr (some, (λ j. is_lower (c j) (sym d j)) ∙ lower)

-- the job with the least result
pub solved_left : (p : Parts) (plain : Plain) (s : State) (depth budget job : ℕ) (left : Plain) (costs : Totals)
    → AreWellMade p → IsWhole p plain → IsStateOf p plain s
    → left ≡ (job_answer p plain depth budget job).plain → costs ≡ (job_answer p plain depth budget job).totals
    → IsLeft p left costs
unfolding job_answer job_from answer_at listed
solved_left p plain s depth budget job left costs made stands begins e d =
    let same : state_in p plain ≡ s = sym (state_is p plain s made begins) in
    left_by p plain left s depth budget job costs made stands.valid stands.none stands.single begins
    (record {
      meets = ap (λ (q : State). meets_in (repaired p q depth budget job).state.slots) (sym same) ∙ sym (ap (λ (q : Plain). q.meets) e);
      tasks = ap (λ (q : State). tasks_in (repaired p q depth budget job).state.slots) (sym same) ∙ sym (ap (λ (q : Plain). q.tasks) e);
    })
    (d ∙ ap (λ (q : State). values.totals p (repaired p q depth budget job).state) same)

pub solve_no_dearer : (bytes : List ℕ) (a : Archive) (r : Resolved) (number : ℕ) (p : Parts) (plain : Plain)
    (depth budget jobs : ℕ) (text : List ℕ) → IsArchiveOf bytes a r → IsTimetableOf a r number p plain
    → IsSolveText a number p plain depth budget jobs text → IsReadSolved a r number p plain jobs (encode_utf8_all text)
solve_no_dearer bytes a r number p plain depth budget jobs text read x is =
    let w = read_formed bytes a r read in
    let i = instance_of a r number p read.resolved_is x.parts in
    let made = well_made a r p w read.resolved_is i in
    let stands = whole a r number p plain w read.resolved_is made x in
    let begins = state_there p plain made stands.valid.told in
    let s = is.solved in
    let left = solved_left p plain begins.0 depth budget s.job s.plain s.totals made stands begins.1 is.is.plain
    is.is.totals in
    let formed = written_formed a r number p plain w read.resolved_is x made s.plain left.valid (spellable a p w i) in
    let back = written_with a r number p plain w read.resolved_is x made s.plain left.valid (encode_utf8_all text)
    (solve_line s.job s.totals)
    (subst (λ bs. IsReadAs bs (respelled a number p s.plain)) (sym is.bytes_are) (solve_read a number p s formed))
    is.bytes_are in
    let costs : totals p back.0 ≡ s.totals = back.2 ∙ sym left.costs in
    let law = least p plain begins.0 depth budget jobs s made begins.1 is.is in
    let before = same_totals p plain begins.0 made begins.1 in
    record {
      job = s.job;
      within = is.is.within;
      timetable = back.0;
      written = line_costs (solve_line s.job) a r number p (encode_utf8_all text) back.0 s.totals costs back.1;
      cost = by back.0 s.totals begins.0 costs before law.cost;
    }
  where
    by : (t : Plain) (u : Totals) (q : State) → totals p t ≡ u → values.totals p q ≡ totals p plain
        → (u ≡ values.totals p q) ⊎ (is_lower u (values.totals p q) ≡ true)
        → (totals p t ≡ totals p plain) ⊎ (is_lower (totals p t) (totals p plain) ≡ true)
    by t u q c d (inl same) = inl (c ∙ same ∙ d)
    by t u q c d (inr lower) = inr ((λ j. is_lower (c j) (sym d j)) ∙ lower)
