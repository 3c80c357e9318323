-- No two outcomes: each command has one status and one text.
use Rattle.std.proofs.Common.{ℕ, ◌≡◌, ◌∙◌, inl, inr, Bool, Option, Some, None, Ok, List}
use Rattle.std.proofs.Common.{[], ◌++◌, refl, sym, ap, subst, arith, encode_utf8_all}
use Rattle.ejection_repair.specs.Repaired.{repaired}
use Rattle.archive_generator.proofs.WellFormed.{made_fits}
use Rattle.archive_generator.specs.Made.{made}
use Rattle.khe_app.specs.Outcome.{IsPlayTo, IsRepairIn}
use Rattle.reading_commands.specs.Outcome.{IsAnswerTo}
use Rattle.archive_reading.specs.Reading.{IsReadingOf}
use Rattle.khe_app.specs.Outcome.{IsRepairOf, IsRepairTo, IsRunOf, IsRunOr, IsRunTo, IsScripted, IsSolveIn, IsSolveOf}
use Rattle.khe_app.specs.Outcome.{IsSolveTo}
use Rattle.reading_commands.specs.Outcome.{IsSpellingTo, spelling_of}
use Rattle.archive_reading.specs.Starting.{Start, barred, begins, start_in, start_of}
use Rattle.archive_reading.specs.Reading.{Reading, evaluable, refused}
use Rattle.reading_commands.specs.Outcome.{status_of, text_of}
use Rattle.khe_engine.specs.Openings.{IsStateOf}
use Rattle.khe_engine.specs.States.{State}
use Rattle.khe_engine.specs.Values as engine
use Rattle.khe_instance.specs.WellMade.{AreWellMade}
use Rattle.khe_instance.specs.declared.parts.Parts.{Parts}
use Rattle.khe_instance.specs.declared.states.Plain.{Plain}
use Rattle.khe_told.specs.Lists.{meets_in, tasks_in}
use Rattle.made_run.specs.Commands.{commands}
use Rattle.made_run.specs.Courses.{course, started}
use Rattle.made_run.specs.Lines.{made_line}
use Rattle.made_run.specs.Runs.{IsRunLine}
use Rattle.parallel_repair.proofs.FillLemmas.{state_is}
use Rattle.repair_run.proofs.SolvedLaws.{one_way}
use Rattle.repair_run.specs.Lines.{repair_line}
use Rattle.repair_run.specs.Placed.{respelled}
use Rattle.repair_run.specs.Repairs.{IsRepairText}
use Rattle.text_laws.proofs.ReadLaws.{instance_of, read_formed, well_made}
use Rattle.xhstt_resolve.specs.Resolved.{resolved}
use Rattle.xhstt_resolve.specs.declared.resolving.Resolved.{Resolved}
use Rattle.xhstt_shape.specs.declared.records.Archive.{Archive}
use Rattle.xhstt_writer.specs.Archives.{canonical}
use Rattle.khe_app.specs.Outcome.{answers_of}
use Rattle.outcome_laws.specs.Outcomes.{AreOne}
use Rattle.outcome_laws.proofs.AnswerLaws.{both}
use Rattle.khe_app.proofs.ReadingLaws.{one_reading, spelled_by}
use Rattle.khe_app.proofs.StartLaws.{same_start, started_by}

-- the parts of a run are well made
pub made_of : (bytes : List ℕ) (a : Archive) (r : Resolved) (number : ℕ) (p : Parts) (plain : Plain)
    → IsReadingOf bytes (evaluable a r) → start_of a r number ≡ begins p plain → AreWellMade p
made_of bytes a r number p plain is e =
    let read = (spelled_by bytes a r is).archive in
    let x = started_by a r number p plain e in
    well_made a r p (read_formed bytes a r read) read.resolved_is (instance_of a r number p read.resolved_is x.parts)

pub one_state : (p : Parts) (plain : Plain) (s t : State) → AreWellMade p → IsStateOf p plain s → IsStateOf p plain t → s ≡ t
one_state p plain s t made f g = state_is p plain s made f ∙ sym (state_is p plain t made g)

-- reports
pub answers : (all : Bool) (o : Option (List ℕ)) (status other : ℕ) (text more : List ℕ) → IsAnswerTo all o status text
    → IsAnswerTo all o other more → AreOne status other text more
answers all None status other text more f g = both status other 4 text more [] f.0 g.0 f.1 g.1
answers all (Some bytes) status other text more f g =
    let same = one_reading bytes g.reading f.reading g.is f.is in
    both status other (status_of f.reading) text more (text_of all f.reading) f.status_is
    (g.status_is ∙ ap status_of same) f.text_is (g.text_is ∙ ap (text_of all) same)

-- scripts
runs : (tied : Bool) (p : Parts) (plain : Plain) (script : List ℕ) (status other : ℕ) (text more : List ℕ) → AreWellMade p
    → IsRunOf tied p plain script status text → IsRunOf tied p plain script other more → AreOne status other text more
runs tied p plain script status other text more made f g =
    let same = one_state p plain g.state f.state made g.is f.is in
    record {
      status = f.status_is ∙ sym g.status_is;
      bytes = ap encode_utf8_all
          (f.text_is ∙ sym (g.text_is ∙ ap (λ s. answers_of tied p s script) same));
    }

runs_or : (tied : Bool) (p : Parts) (plain : Plain) (script : List ℕ) (status other : ℕ) (text more : List ℕ) → AreWellMade p
    → IsRunOr tied p plain script status text → IsRunOr tied p plain script other more → AreOne status other text more
runs_or tied p plain script status other text more made (inl f) (inl g) =
    both status other 7 text more _ f.1 g.1 f.2 g.2
runs_or tied p plain script status other text more made (inl f) (inr g) =
    absurd (let l = f.0 in let m = g.0 in omega (arith, l, m))
runs_or tied p plain script status other text more made (inr f) (inl g) =
    absurd (let l = f.0 in let m = g.0 in omega (arith, l, m))
runs_or tied p plain script status other text more made (inr f) (inr g) =
    runs tied p plain script status other text more made f.1 g.1

scripts : (tied : Bool) (s : Start) (script : Option (List ℕ)) (status other : ℕ) (text more : List ℕ)
    → ((p : Parts) (plain : Plain) → s ≡ begins p plain → AreWellMade p) → IsScripted tied s script status text
    → IsScripted tied s script other more → AreOne status other text more
scripts tied (barred f) script status other text more made x y = both status other 3 text more _ x.0 y.0 x.1 y.1
scripts tied (begins p plain) None status other text more made x y = both status other 4 text more [] x.0 y.0 x.1 y.1
scripts tied (begins p plain) (Some script) status other text more made x y =
    runs_or tied p plain script status other text more (made p plain refl) x y

plays_in : (tied : Bool) (number : ℕ) (bytes : List ℕ) (script : Option (List ℕ)) (x : Reading) (status other : ℕ)
    (text more : List ℕ) → IsReadingOf bytes x → IsScripted tied (start_in number x) script status text
    → IsScripted tied (start_in number x) script other more → AreOne status other text more
plays_in tied number bytes script (evaluable a r) status other text more is f g =
    scripts tied (start_of a r number) script status other text more (λ p plain e. made_of bytes a r number p plain is e) f g
plays_in tied number bytes script (refused x) status other text more is f g = both status other 3 text more _ f.0 g.0 f.1 g.1

pub plays : (tied : Bool) (number : ℕ) (o script : Option (List ℕ)) (status other : ℕ) (text more : List ℕ)
    → IsPlayTo tied number o script status text → IsPlayTo tied number o script other more → AreOne status other text more
plays tied number None script status other text more f g = both status other 4 text more [] f.0 g.0 f.1 g.1
plays tied number (Some bytes) script status other text more f g =
    let same = one_reading bytes g.reading f.reading g.is f.is in
    plays_in tied number bytes script f.reading status other text more f.is f.scripted
    (subst (λ x. IsScripted tied (start_in number x) script other more) same g.scripted)

-- spellings
pub spellings : (o : Option (List ℕ)) (status other : ℕ) (text more : List ℕ) → IsSpellingTo o status text
    → IsSpellingTo o other more → AreOne status other text more
spellings None status other text more f g = both status other 4 text more [] f.0 g.0 f.1 g.1
spellings (Some bytes) status other text more f g =
    let same = one_reading bytes g.reading f.reading g.is f.is in
    record {
      status = f.status_is ∙ sym (g.status_is ∙ ap status_of same);
      bytes = f.bytes_are ∙ sym (g.bytes_are ∙ ap spelling_of same);
    }

-- repairs
repair_texts : (a : Archive) (number : ℕ) (p : Parts) (plain : Plain) (depth budget : ℕ) (text more : List ℕ)
    → AreWellMade p → IsRepairText a number p plain depth budget text
    → IsRepairText a number p plain depth budget more → encode_utf8_all text ≡ encode_utf8_all more
repair_texts a number p plain depth budget text more made f g =
    let m = f.mended in
    let n = g.mended in
    let same = one_state p plain f.is.state g.is.state made f.is.begins g.is.begins in
    let outcomes : m.outcome ≡ n.outcome =
    f.is.outcome ∙ ap (λ s. (repaired p s depth budget 0).outcome) same ∙ sym g.is.outcome in
    let costs : m.totals ≡ n.totals =
    f.is.totals ∙ ap (λ s. engine.totals p (repaired p s depth budget 0).state) same ∙ sym g.is.totals in
    let meets : m.plain.meets ≡ n.plain.meets =
    sym f.is.listed.meets ∙ ap (λ s. meets_in (repaired p s depth budget 0).state.slots) same ∙ g.is.listed.meets in
    let tasks : m.plain.tasks ≡ n.plain.tasks =
    sym f.is.listed.tasks ∙ ap (λ s. tasks_in (repaired p s depth budget 0).state.slots) same ∙ g.is.listed.tasks in
    let archives : respelled a number p m.plain ≡ respelled a number p n.plain =
    λ i. respelled a number p (record { meets = meets i; tasks = tasks i; detached = []; groups = [] }) in
    f.bytes_are
    ∙ (λ i. canonical (archives i) ++ encode_utf8_all (repair_line (outcomes i) (costs i)))
    ∙ sym g.bytes_are

repairs_of : (a : Archive) (number depth budget : ℕ) (s : Start) (status other : ℕ) (text more : List ℕ)
    → ((p : Parts) (plain : Plain) → s ≡ begins p plain → AreWellMade p)
    → IsRepairOf a number depth budget s status text → IsRepairOf a number depth budget s other more
    → AreOne status other text more
repairs_of a number depth budget (barred x) status other text more made f g =
    both status other 3 text more _ f.0 g.0 f.1 g.1
repairs_of a number depth budget (begins p plain) status other text more made f g = record {
  status = f.0 ∙ sym g.0;
  bytes = repair_texts a number p plain depth budget text more (made p plain refl) f.1 g.1;
}

repairs_in : (number depth budget : ℕ) (bytes : List ℕ) (x : Reading) (status other : ℕ) (text more : List ℕ)
    → IsReadingOf bytes x → IsRepairIn number depth budget x status text → IsRepairIn number depth budget x other more
    → AreOne status other text more
repairs_in number depth budget bytes (evaluable a r) status other text more is f g =
    repairs_of a number depth budget (start_of a r number) status other text more
    (λ p plain e. made_of bytes a r number p plain is e) f g
repairs_in number depth budget bytes (refused x) status other text more is f g =
    both status other 3 text more _ f.0 g.0 f.1 g.1

pub repairs : (number depth budget : ℕ) (o : Option (List ℕ)) (status other : ℕ) (text more : List ℕ)
    → IsRepairTo number depth budget o status text → IsRepairTo number depth budget o other more
    → AreOne status other text more
repairs number depth budget None status other text more f g = both status other 4 text more [] f.0 g.0 f.1 g.1
repairs number depth budget (Some bytes) status other text more f g =
    repairs_in number depth budget bytes f.reading status other text more f.is f.repaired
    (subst (λ x. IsRepairIn number depth budget x other more) (one_reading bytes g.reading f.reading g.is f.is)
    g.repaired)

-- solves
solves_of : (a : Archive) (number depth budget jobs : ℕ) (s : Start) (status other : ℕ) (text more : List ℕ)
    → IsSolveOf a number depth budget jobs s status text → IsSolveOf a number depth budget jobs s other more
    → AreOne status other text more
solves_of a number depth budget jobs (barred x) status other text more f g =
    both status other 3 text more _ f.0 g.0 f.1 g.1
solves_of a number depth budget jobs (begins p plain) status other text more f g = record {
  status = f.0 ∙ sym g.0;
  bytes = one_way a number p plain depth budget jobs text more f.1 g.1;
}

solves_in : (number depth budget jobs : ℕ) (x : Reading) (status other : ℕ) (text more : List ℕ)
    → IsSolveIn number depth budget jobs x status text → IsSolveIn number depth budget jobs x other more
    → AreOne status other text more
solves_in number depth budget jobs (evaluable a r) status other text more f g =
    solves_of a number depth budget jobs (start_of a r number) status other text more f g
solves_in number depth budget jobs (refused x) status other text more f g =
    both status other 3 text more _ f.0 g.0 f.1 g.1

pub solves : (number depth budget jobs : ℕ) (o : Option (List ℕ)) (status other : ℕ) (text more : List ℕ)
    → IsSolveTo number depth budget jobs o status text → IsSolveTo number depth budget jobs o other more
    → AreOne status other text more
solves number depth budget jobs None status other text more f g = both status other 4 text more [] f.0 g.0 f.1 g.1
solves number depth budget jobs (Some bytes) status other text more f g =
    solves_in number depth budget jobs f.reading status other text more f.solved
    (subst (λ x. IsSolveIn number depth budget jobs x other more) (one_reading bytes g.reading f.reading g.is f.is)
    g.solved)

-- what is made, and its run
same_instances : (a : Archive) (r q : Resolved) → resolved a ≡ Ok r → resolved a ≡ Ok q → q ≡ r
same_instances a r q e d = let g : q ≡ r = cc in g

made_lines : (seed size : ℕ) (p : Parts) (plain : Plain) (text more : List ℕ) → AreWellMade p
    → IsRunLine seed size p plain text → IsRunLine seed size p plain more → text ≡ more
made_lines seed size p plain text more made f g =
    f.line_is
    ∙ ap (λ s. made_line seed size p (course p (started s) (commands seed size)))
    (one_state p plain f.state g.state made f.is g.is)
    ∙ sym g.line_is

pub made_runs : (seed size status other : ℕ) (text more : List ℕ) → IsRunTo seed size status text
    → IsRunTo seed size other more → AreOne status other text more
made_runs seed size status other text more f g =
    let a = made seed size in
    let one = same_instances a f.instances g.instances f.resolved_is g.resolved_is in
    let start : start_of a f.instances 0 ≡ begins g.parts g.plain =
    ap (λ r. start_of a r 0) (sym one) ∙ g.start_is in
    let same = same_start g.parts f.parts g.plain f.plain (sym start ∙ f.start_is) in
    let x = started_by a f.instances 0 f.parts f.plain f.start_is in
    let good = well_made a f.instances f.parts (made_fits seed size) f.resolved_is
    (instance_of a f.instances 0 f.parts f.resolved_is x.parts) in
    let line : IsRunLine seed size f.parts f.plain more =
    subst (λ q. IsRunLine seed size q f.plain more) same.0 (subst (λ s. IsRunLine seed size g.parts s more) same.1 g.line) in
    record {
      status = f.status_is ∙ sym g.status_is;
      bytes = ap encode_utf8_all (made_lines seed size f.parts f.plain text more good f.line line);
    }
