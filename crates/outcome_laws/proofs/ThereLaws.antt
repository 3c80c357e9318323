-- There is an outcome: bytes have a reading, and each command makes something of it.
use Rattle.std.proofs.Common.{ℕ, zero, suc, ◌≡◌, ◌<◌, ◌≤◌, ◌+◌, ◌∙◌, ◌⊎◌, inl, inr, Bool, true, false, Option, Some, None}
use Rattle.std.proofs.Common.{Result, Ok, Err, List, [], ◌∷◌, map, length, take, refl, sym, ap, subst, arith}
use Rattle.std.proofs.Common.{encode_utf8_all, slice_get, option_map, nat_lt, take_all}
use Rattle.std.specs.List.{range_with_len}
use Rattle.std.specs.Option.{option_map_or}
use Rattle.std.specs.Str.{IsUtf8, IsValidUpTo, chars, is_utf8}
use Rattle.std.proofs.lemmas.Bool.Decides.{nat_tests}
use Rattle.std.proofs.lemmas.List.FromFn.{get_or-range_with_len, length-map-range_with_len, length-range_with_len}
use Rattle.std.proofs.lemmas.Option.{slice_get-get_or, slice_get-map}
use Rattle.std.proofs.lemmas.Str.{IsUtf8-from_is_utf8, IsUtf8-nil, encodes-chars, is_utf8-from_IsUtf8}
use Rattle.ejection_repair.proofs.KeptLaws.{same_grouping}
use Rattle.ejection_repair.specs.Repaired.{repaired}
use Rattle.fault_tables.specs.declared.faults.TheConstants.{NOT_UTF8}
use Rattle.khe_app.specs.Outcome.{IsMadeTo, IsRunTo}
use Rattle.archive_reading.specs.Starting.{start_by, Start, barred, begins, start_in, start_of}
use Rattle.khe_app.specs.Outcome.{IsPlayTo, IsRepairIn, IsRepairOf, IsRepairTo, IsRunOr}
use Rattle.reading_commands.specs.Outcome.{IsAnswerTo}
use Rattle.archive_reading.specs.Reading.{IsRead, IsReadingOf}
use Rattle.khe_app.specs.Outcome.{IsScripted, IsSolveIn, IsSolveOf, IsSolveTo}
use Rattle.reading_commands.specs.Outcome.{IsSpellingTo}
use Rattle.archive_reading.specs.Reading.{IsShaped, Reading}
use Rattle.reading_commands.specs.Outcome.{spelling_of, status_of, text_of}
use Rattle.archive_reading.specs.Reading.{evaluable, refused}
use Rattle.archive_reading.specs.Refusals.{refusal_line}
use Rattle.khe_app.specs.Lines.{script_too_large_line}
use Rattle.archive_reading.specs.declared.refusals.Refusal.TheVariants.{Fault, Limit, NoSuchSolution, TooLarge}
use Rattle.khe_base.specs.declared.limits.TheConstants.{ARCHIVE_BYTES, MADE_EVENTS, SCRIPT_BYTES}
use Rattle.khe_engine.specs.Openings.{IsStateOf}
use Rattle.khe_engine.specs.States.{State}
use Rattle.khe_engine.specs.Values as engine
use Rattle.khe_instance.specs.WellMade.{AreWellMade}
use Rattle.khe_instance.specs.declared.parts.Parts.{Parts}
use Rattle.khe_instance.specs.declared.states.Plain.{Plain}
use Rattle.khe_told.specs.Lists.{meets_in, tasks_in}
use Rattle.archive_generator.proofs.WellFormed.{made_fits}
use Rattle.archive_generator.specs.Made.{made}
use Rattle.generator_laws.proofs.MadeLaws.{has_start, made_resolved}
use Rattle.generator_laws.specs.Starts.{HasStart}
use Rattle.parallel_repair.specs.Jobs.{job_answer}
use Rattle.parallel_repair.proofs.RankLemmas.{before_lower, before_self}
use Rattle.parallel_repair.specs.Ranks.{is_before}
use Rattle.parallel_repair.specs.Solved.{IsSolved}
use Rattle.parallel_repair.specs.declared.answers.Answer.{Answer as Job}
use Rattle.parallel_repair.specs.declared.answers.Fate.{Fate}
use Rattle.parallel_repair.specs.declared.answers.Fate.TheVariants.{Ran}
use Rattle.parallel_repair.specs.declared.answers.Solved.{Solved}
use Rattle.repair_run.specs.Solves.{IsSolveText, solve_bytes}
use Rattle.repair_run.specs.Repairs.{IsRepairText, repair_bytes}
use Rattle.repair_run.specs.declared.mending.Mended.{Mended}
use Rattle.repair_run.proofs.LineLaws.{repair_read, solve_read}
use Rattle.text_laws.proofs.ReadLaws.{instance_of, read_formed, spellable, well_made}
use Rattle.text_laws.proofs.RepairedLaws.{IsWhole, solved_left, whole, written_formed}
use Rattle.text_laws.proofs.StateLaws.{IsLeft, left_by, repaired_valid, state_there}
use Rattle.text_laws.specs.Read.{IsTimetableOf}
use Rattle.xhstt_completion.specs.Completed.{completed}
use Rattle.xhstt_completion.specs.Numbered.{parts_at}
use Rattle.xhstt_references.specs.Followed.{followed_of}
use Rattle.xhstt_resolve.specs.Parts.{parts_of}
use Rattle.xhstt_resolve.specs.Resolved.{instances_of, resolved}
use Rattle.xhstt_resolve.specs.declared.faults.ResolveFault.{ResolveFault}
use Rattle.xhstt_resolve.specs.declared.faults.ResolveFault.TheVariants as resolve
use Rattle.xhstt_resolve.specs.declared.resolving.Resolved.{Resolved}
use Rattle.xhstt_shape.specs.Shape.{shape_of}
use Rattle.xhstt_shape.specs.WellFormed.{IsWellFormed}
use Rattle.xhstt_shape.specs.declared.faults.ShapeFault.{ShapeFault}
use Rattle.xhstt_shape.specs.declared.faults.ShapeFault.TheVariants as shape
use Rattle.xhstt_shape.specs.declared.records.Archive.{Archive}
use Rattle.xhstt_text.proofs.Answer.{decides}
use Rattle.xhstt_text.specs.Document.{forest_of}
use Rattle.xhstt_text.specs.FirstFault.{HasFault, IsText}
use Rattle.xhstt_writer.specs.Archives.{canonical}
use Rattle.xhstt_writer.proofs.Written.{canonical_spells}
use Rattle.outcome_laws.proofs.AnswerLaws.{Answer}
use Rattle.outcome_laws.proofs.NeverLaws.{resolved_never, shape_never}
use Rattle.khe_app.proofs.ReadingLaws.{spelled_by}
use Rattle.khe_app.proofs.StartLaws.{started_by}

-- the greatest front of bytes that is UTF-8
untrue : {A : Type 0} → true ≡ false → A
untrue e = absurd (let g : ⊥ = cc in g)

no_utf8 : (bs : List ℕ) → is_utf8 bs ≡ false → IsUtf8 bs → ⊥
no_utf8 bs e u = untrue (sym (is_utf8-from_IsUtf8 bs u) ∙ e)

down : (bs : List ℕ) (m : ℕ) → m < length bs → ((k : ℕ) → m < k → IsUtf8 (take k bs) → ⊥)
    → (n : ℕ) × IsValidUpTo bs n
down bs zero l none = (0, record { short = l; front = IsUtf8-nil; longest = λ k m u. none k m u })
down bs (suc m) l none = by (down bs m (omega (arith, l))) (is_utf8 (take (suc m) bs)) refl
  where
    by : (((k : ℕ) → m < k → IsUtf8 (take k bs) → ⊥) → (n : ℕ) × IsValidUpTo bs n) → (b : Bool)
        → is_utf8 (take (suc m) bs) ≡ b → (n : ℕ) × IsValidUpTo bs n
    by further true e =
        (suc m, record { short = l; front = IsUtf8-from_is_utf8 (take (suc m) bs) e; longest = λ k p u. none k p u })
    by further false e = further (λ k p u. at k p u (nat_lt (suc m) k) refl)
      where
        at : (k : ℕ) → m < k → IsUtf8 (take k bs) → (b : Bool) → nat_lt (suc m) k ≡ b → ⊥
        at k p u true d = none k (grind (arith, nat_tests)) u
        at k p u false d =
            let same : k ≡ suc m = grind (arith, nat_tests) in
            no_utf8 (take (suc m) bs) e (subst (λ j. IsUtf8 (take j bs)) same u)

invalid : (bs : List ℕ) → (IsUtf8 bs → ⊥) → (n : ℕ) × IsValidUpTo bs n
invalid [] h = absurd (h IsUtf8-nil)
invalid (b ∷ bs) h =
    down (b ∷ bs) (length bs) (omega arith)
    (λ k p u. h (subst IsUtf8 (take_all k (b ∷ bs) (omega (arith, p))) u))

-- a text or a fault
text_or_fault : (bytes : List ℕ) → IsText bytes ⊎ HasFault bytes
text_or_fault bytes = by (is_utf8 bytes) refl
  where
    by : (b : Bool) → is_utf8 bytes ≡ b → IsText bytes ⊎ HasFault bytes
    by true e = decides bytes (IsUtf8-from_is_utf8 bytes e)
    by false e = let v = invalid bytes (no_utf8 bytes e) in inr (NOT_UTF8, v.0, inl (refl, v.1))

-- a reading
read_there : (a : Archive) (answer : Result Resolved ResolveFault) → (answer ≡ Err resolve.NoMemory → ⊥)
    → (x : Reading) × IsRead a answer x
read_there a (Ok r) h = (evaluable a r, refl)
read_there a (Err (resolve.Bad kind at)) h = (refused (Fault kind at), refl)
read_there a (Err (resolve.Limit which value)) h = (refused (Limit which value), refl)
read_there a (Err resolve.NoMemory) h = absurd (h refl)

shaped_there : (answer : Result Archive ShapeFault) → (answer ≡ Err shape.NoMemory → ⊥)
    → (x : Reading) × IsShaped answer x
shaped_there (Ok a) h = read_there a (resolved a) (resolved_never a)
shaped_there (Err (shape.Bad kind at)) h = (refused (Fault kind at), refl)
shaped_there (Err shape.NoMemory) h = absurd (h refl)

small_there : (bytes : List ℕ) → length bytes ≤ ARCHIVE_BYTES → IsText bytes ⊎ HasFault bytes
    → (x : Reading) × IsReadingOf bytes x
small_there bytes few (inl d) =
    let s = shaped_there (shape_of (forest_of d.0)) (shape_never (forest_of d.0)) in
    (s.0, inr (few, inr (record { tree = forest_of d.0; spelled = (d.0, d.1, refl); shaped = s.1 })))
small_there bytes few (inr f) = (
  refused (Fault f.0 f.1),
  inr (few, inl (record { kind = f.0; at = f.1; first = f.2; refused_is = refl })),
)

pub reading_there : (bytes : List ℕ) → (x : Reading) × IsReadingOf bytes x
reading_there bytes = by (nat_lt ARCHIVE_BYTES (length bytes)) refl
  where
    by : (b : Bool) → nat_lt ARCHIVE_BYTES (length bytes) ≡ b → (x : Reading) × IsReadingOf bytes x
    by true e = (refused TooLarge, inl (grind (arith, nat_tests), refl))
    by false e = small_there bytes (grind (arith, nat_tests)) (text_or_fault bytes)

-- a solution that a run begins with, of an archive that was read
pub record IsReady (a : Archive) (r : Resolved) (number : ℕ) (p : Parts) (plain : Plain) : Type 0 where
  pub formed : IsWellFormed a
  pub resolved_is : resolved a ≡ Ok r
  pub timetable : IsTimetableOf a r number p plain
  pub made : AreWellMade p
  pub whole : IsWhole p plain

pub ready_by : (a : Archive) (r : Resolved) (number : ℕ) (p : Parts) (plain : Plain) → IsWellFormed a
    → resolved a ≡ Ok r → start_of a r number ≡ begins p plain → IsReady a r number p plain
ready_by a r number p plain w e s =
    let x = started_by a r number p plain s in
    let good = well_made a r p w e (instance_of a r number p e x.parts) in
    record {
      formed = w;
      resolved_is = e;
      timetable = x;
      made = good;
      whole = whole a r number p plain w e good x;
    }

ready_of : (bytes : List ℕ) (a : Archive) (r : Resolved) (number : ℕ) (p : Parts) (plain : Plain)
    → IsReadingOf bytes (evaluable a r) → start_of a r number ≡ begins p plain → IsReady a r number p plain
ready_of bytes a r number p plain is s =
    let read = (spelled_by bytes a r is).archive in
    ready_by a r number p plain (read_formed bytes a r read) read.resolved_is s

pub state_of_ready : (a : Archive) (r : Resolved) (number : ℕ) (p : Parts) (plain : Plain) → IsReady a r number p plain
    → (s : State) × IsStateOf p plain s
state_of_ready a r number p plain h = state_there p plain h.made h.whole.valid.told

-- reports
pub answer_there : (all : Bool) (o : Option (List ℕ)) → Answer (IsAnswerTo all o)
answer_there all None = (4, [], (refl, refl))
answer_there all (Some bytes) =
    let x = reading_there bytes in (
      status_of x.0,
      text_of all x.0,
      record { reading = x.0; is = x.1; status_is = refl; text_is = refl },
    )

-- scripts
run_there : (tied : Bool) (p : Parts) (plain : Plain) (script : List ℕ) → ((s : State) × IsStateOf p plain s)
    → Answer (IsRunOr tied p plain script)
run_there tied p plain script s = by (nat_lt SCRIPT_BYTES (length script)) refl
  where
    by : (b : Bool) → nat_lt SCRIPT_BYTES (length script) ≡ b → Answer (IsRunOr tied p plain script)
    by true e = (7, script_too_large_line, inl (grind (arith, nat_tests), refl, refl))
    by false e = (
      _,
      _,
      inr (grind (arith, nat_tests), record { state = s.0; is = s.1; status_is = refl; text_is = refl }),
    )

script_there : (tied : Bool) (s : Start) (script : Option (List ℕ))
    → ((p : Parts) (plain : Plain) → s ≡ begins p plain → (t : State) × IsStateOf p plain t)
    → Answer (IsScripted tied s script)
script_there tied (barred f) script h = (3, refusal_line f, (refl, refl))
script_there tied (begins p plain) None h = (4, [], (refl, refl))
script_there tied (begins p plain) (Some script) h = run_there tied p plain script (h p plain refl)

play_in : (tied : Bool) (number : ℕ) (bytes : List ℕ) (script : Option (List ℕ)) (x : Reading) → IsReadingOf bytes x
    → Answer (IsScripted tied (start_in number x) script)
play_in tied number bytes script (evaluable a r) is =
    script_there tied (start_of a r number) script
    (λ p plain s. state_of_ready a r number p plain (ready_of bytes a r number p plain is s))
play_in tied number bytes script (refused f) is = (3, refusal_line f, (refl, refl))

pub play_there : (tied : Bool) (number : ℕ) (o script : Option (List ℕ)) → Answer (IsPlayTo tied number o script)
play_there tied number None script = (4, [], (refl, refl))
play_there tied number (Some bytes) script =
    let x = reading_there bytes in
    let s = play_in tied number bytes script x.0 x.1 in
    (s.0, s.1, record { reading = x.0; is = x.1; scripted = s.2 })

-- spellings
spelled_text : (bytes : List ℕ) (x : Reading) → IsReadingOf bytes x
    → (text : List ℕ) × (encode_utf8_all text ≡ spelling_of x)
spelled_text bytes (evaluable a r) is =
    let w = read_formed bytes a r (spelled_by bytes a r is).archive in
    (chars (canonical a), encodes-chars (canonical a) (canonical_spells a w).2.1.0)
spelled_text bytes (refused f) is = (refusal_line f, refl)

pub spelling_there : (o : Option (List ℕ)) → Answer (IsSpellingTo o)
spelling_there None = (4, [], (refl, refl))
spelling_there (Some bytes) =
    let x = reading_there bytes in
    let t = spelled_text bytes x.0 x.1 in (
      status_of x.0,
      t.0,
      record { reading = x.0; is = x.1; status_is = refl; bytes_are = t.1 },
    )

-- repairs
repair_text : (a : Archive) (r : Resolved) (number : ℕ) (p : Parts) (plain : Plain) (depth budget : ℕ)
    → IsReady a r number p plain → (text : List ℕ) × IsRepairText a number p plain depth budget text
repair_text a r number p plain depth budget h =
    let s = state_of_ready a r number p plain h in
    let u = (repaired p s.0 depth budget 0).state in
    let left : Plain = record {
      meets = meets_in u.slots;
      tasks = tasks_in u.slots;
      detached = plain.detached;
      groups = plain.groups;
    } in
    let m : Mended = record {
      outcome = (repaired p s.0 depth budget 0).outcome;
      totals = engine.totals p u;
      plain = left;
    } in
    let good = repaired_valid p plain s.0 depth budget 0 h.made h.whole.valid s.1 in
    let stands : IsLeft p left m.totals =
    left_by p plain left s.0 depth budget 0 m.totals h.made h.whole.valid h.whole.none h.whole.single s.1
    (record { meets = refl; tasks = refl }) refl in
    let texts = spellable a p h.formed (instance_of a r number p h.resolved_is h.timetable.parts) in
    let form = written_formed a r number p plain h.formed h.resolved_is h.timetable h.made left stands.valid texts in
    let utf8 = (repair_read a number p m form).2.1.0 in (
      chars (repair_bytes a number p m),
      record {
        mended = m;
        is = record {
          state = s.0;
          begins = s.1;
          outcome = refl;
          listed = record {
            told = good.told;
            meets = refl;
            tasks = refl;
            grouping = same_grouping p s.0 depth budget 0 ∙ s.1.grouping;
          };
          totals = refl;
        };
        bytes_are = encodes-chars (repair_bytes a number p m) utf8;
      },
    )

repair_of : (a : Archive) (r : Resolved) (number depth budget : ℕ) (s : Start)
    → ((p : Parts) (plain : Plain) → s ≡ begins p plain → IsReady a r number p plain)
    → Answer (IsRepairOf a number depth budget s)
repair_of a r number depth budget (barred f) h = (3, refusal_line f, (refl, refl))
repair_of a r number depth budget (begins p plain) h =
    let t = repair_text a r number p plain depth budget (h p plain refl) in
    (0, t.0, (refl, t.1))

repair_in : (number depth budget : ℕ) (bytes : List ℕ) (x : Reading) → IsReadingOf bytes x
    → Answer (IsRepairIn number depth budget x)
repair_in number depth budget bytes (evaluable a r) is =
    repair_of a r number depth budget (start_of a r number) (λ p plain s. ready_of bytes a r number p plain is s)
repair_in number depth budget bytes (refused f) is = (3, refusal_line f, (refl, refl))

pub repair_there : (number depth budget : ℕ) (o : Option (List ℕ)) → Answer (IsRepairTo number depth budget o)
repair_there number depth budget None = (4, [], (refl, refl))
repair_there number depth budget (Some bytes) =
    let x = reading_there bytes in
    let s = repair_in number depth budget bytes x.0 x.1 in
    (s.0, s.1, record { reading = x.0; is = x.1; repaired = s.2 })

-- the job whose result comes first of n
abbrev ComesFirst : (ℕ → Job) → ℕ → ℕ → Type 0
ComesFirst answer k j = (n : ℕ) → n < suc k → is_before (answer n).totals n (answer j).totals j ≡ false

below_or_last : {P : Type 0} (n k : ℕ) → n < suc (suc k) → (n < suc k → P) → (n ≡ suc k → P) → P
below_or_last {P} n k l f g = pick (nat_lt n (suc k)) refl
  where
    pick : (t : Bool) → nat_lt n (suc k) ≡ t → P
    pick true e = f (grind (arith, nat_tests))
    pick false e = g (grind (arith, nat_tests))

one_more : (answer : ℕ → Job) (k j : ℕ) → j < suc k → ComesFirst answer k j → (t : Bool)
    → is_before (answer (suc k)).totals (suc k) (answer j).totals j ≡ t
    → (i : ℕ) × (i < suc (suc k)) × ComesFirst answer (suc k) i
one_more answer k j l first true e = (
  suc k,
  omega arith,
  λ n m. below_or_last n k m
      (λ b. before_lower (answer n).totals (answer j).totals (answer (suc k)).totals n j (suc k) (first n b) e)
      (λ z. subst (λ x. is_before (answer x).totals x (answer (suc k)).totals (suc k) ≡ false) (sym z)
      (before_self (answer (suc k)).totals (suc k))),
)
one_more answer k j l first false e = (
  j,
  omega (arith, l),
  λ n m. below_or_last n k m (first n)
      (λ z. subst (λ x. is_before (answer x).totals x (answer j).totals j ≡ false) (sym z) e),
)

least_job : (answer : ℕ → Job) (k : ℕ) → (j : ℕ) × (j < suc k) × ComesFirst answer k j
least_job answer zero = (
  0,
  omega arith,
  λ n l. let z : n ≡ 0 = omega (arith, l) in
      subst (λ x. is_before (answer x).totals x (answer 0).totals 0 ≡ false) (sym z)
      (before_self (answer 0).totals 0),
)
least_job answer (suc k) = let b = least_job answer k in one_more answer k b.0 b.1 b.2 _ refl

-- all jobs ran
ran_all : (answer : ℕ → Job) (jobs n : ℕ) → n < jobs
    → slice_get (map (λ k. Ran (answer k).totals) (range_with_len 0 jobs)) n ≡ Some (Ran (answer n).totals)
ran_all answer jobs n l =
    let f : ℕ → Fate = λ k. Ran (answer k).totals in
    let long : length (range_with_len 0 jobs) ≡ jobs = length-range_with_len 0 jobs in
    let z : 0 + n ≡ n = omega arith in
    slice_get-map f (range_with_len 0 jobs) n
    ∙ ap (option_map f) (slice_get-get_or (range_with_len 0 jobs) n 0 (omega (arith, l, long)))
    ∙ ap (λ k. Some (f k)) (get_or-range_with_len 0 jobs n 0 l ∙ z)

solved_there : (answer : ℕ → Job) (jobs : ℕ) → 1 ≤ jobs → (s : Solved) × IsSolved answer jobs s
solved_there answer zero l = absurd (omega (arith, l))
solved_there answer (suc k) l =
    let b = least_job answer k in (
      record {
        job = b.0;
        totals = (answer b.0).totals;
        plain = (answer b.0).plain;
        fates = map (λ n. Ran (answer n).totals) (range_with_len 0 (suc k));
      },
      record {
        count = length-map-range_with_len (λ n. Ran (answer n).totals) 0 (suc k);
        fates = λ n m. inl (ran_all answer (suc k) n m);
        within = b.1;
        ran = ran_all answer (suc k) b.0 b.1;
        totals = refl;
        plain = refl;
        least = b.2;
      },
    )

-- solves
solve_text : (a : Archive) (r : Resolved) (number : ℕ) (p : Parts) (plain : Plain) (depth budget jobs : ℕ) → 1 ≤ jobs
    → IsReady a r number p plain → (text : List ℕ) × IsSolveText a number p plain depth budget jobs text
solve_text a r number p plain depth budget jobs some h =
    let s = solved_there (job_answer p plain depth budget) jobs some in
    let start = state_of_ready a r number p plain h in
    let stands = solved_left p plain start.0 depth budget s.0.job s.0.plain s.0.totals h.made h.whole start.1 s.1.plain
    s.1.totals in
    let texts = spellable a p h.formed (instance_of a r number p h.resolved_is h.timetable.parts) in
    let form = written_formed a r number p plain h.formed h.resolved_is h.timetable h.made s.0.plain stands.valid texts in
    let utf8 = (solve_read a number p s.0 form).2.1.0 in (
      chars (solve_bytes a number p s.0),
      record { solved = s.0; is = s.1; bytes_are = encodes-chars (solve_bytes a number p s.0) utf8 },
    )

solve_of : (a : Archive) (r : Resolved) (number depth budget jobs : ℕ) (s : Start) → 1 ≤ jobs
    → ((p : Parts) (plain : Plain) → s ≡ begins p plain → IsReady a r number p plain)
    → Answer (IsSolveOf a number depth budget jobs s)
solve_of a r number depth budget jobs (barred f) some h = (3, refusal_line f, (refl, refl))
solve_of a r number depth budget jobs (begins p plain) some h =
    let t = solve_text a r number p plain depth budget jobs some (h p plain refl) in
    (0, t.0, (refl, t.1))

solve_in : (number depth budget jobs : ℕ) (bytes : List ℕ) (x : Reading) → 1 ≤ jobs → IsReadingOf bytes x
    → Answer (IsSolveIn number depth budget jobs x)
solve_in number depth budget jobs bytes (evaluable a r) some is =
    solve_of a r number depth budget jobs (start_of a r number) some
    (λ p plain s. ready_of bytes a r number p plain is s)
solve_in number depth budget jobs bytes (refused f) some is = (3, refusal_line f, (refl, refl))

pub solve_there : (number depth budget jobs : ℕ) (o : Option (List ℕ)) → 1 ≤ jobs
    → Answer (IsSolveTo number depth budget jobs o)
solve_there number depth budget jobs None some = (4, [], (refl, refl))
solve_there number depth budget jobs (Some bytes) some =
    let x = reading_there bytes in
    let s = solve_in number depth budget jobs bytes x.0 some x.1 in
    (s.0, s.1, record { reading = x.0; is = x.1; solved = s.2 })

-- what is made, and its run
pub make_there : (seed size : ℕ) → Answer (IsMadeTo seed size)
make_there seed size =
    let a = made seed size in (
      0,
      chars (canonical a),
      (refl, encodes-chars (canonical a) (canonical_spells a (made_fits seed size)).2.1.0),
    )

start_is : (seed size : ℕ) (r : Resolved) (h : HasStart seed size r)
    → start_of (made seed size) r 0 ≡ begins h.parts h.state
start_is seed size r h =
    ap (λ o. option_map_or (λ raw. option_map_or (λ p. start_by p (completed p raw)) (parts_at r 0)
    (barred NoSuchSolution)) o (barred NoSuchSolution)) h.first
    ∙ ap (λ o. option_map_or (λ p. start_by p (completed p h.solution)) o (barred NoSuchSolution)) h.parts_are
    ∙ ap (start_by h.parts) h.completed_is

pub made_run_there : (seed size : ℕ) → 1 ≤ size → size ≤ MADE_EVENTS → Answer (IsRunTo seed size)
made_run_there seed size some few =
    let a = made seed size in
    let r : Resolved = record { instances = map parts_of a.instances; of = instances_of a; followed = followed_of a } in
    let e : resolved a ≡ Ok r = made_resolved seed size some few in
    let h = has_start seed size some few r e in
    let begun_is = start_is seed size r h in
    let ready = ready_by a r 0 h.parts h.state (made_fits seed size) e begun_is in
    let s = state_of_ready a r 0 h.parts h.state ready in (
      0,
      _,
      record {
        instances = r;
        resolved_is = e;
        parts = h.parts;
        plain = h.state;
        start_is = begun_is;
        status_is = refl;
        line = record { state = s.0; is = s.1; line_is = refl };
      },
    )
