-- How a run ends that makes an archive, or runs its job.
use Rattle.std.proofs.Common.{ℕ, ◌≡◌, ◌<◌, ◌≤◌, ◌^◌, ◌⊎◌, inl, inr, List, Option, Some, None, IfSome, Bool}
use Rattle.std.proofs.Common.{Ok, Err, sym, ap, subst, ◌∙◌, refl, arith, encode_utf8_all, length, slice_get}
use Rattle.std.specs.Option.{option_map_or}
use Rattle.std.specs.Str.{chars}
use Rattle.std.proofs.lemmas.Str.{encodes-chars}
use Rattle.std.proofs.lemmas.Option.{same_Some}
use Rattle.khe_base.specs.declared.limits.TheConstants.{MADE_EVENTS}
use Rattle.archive_generator.specs.Made.{made}
use Rattle.archive_generator.proofs.SlotLaws.{made_instances}
use Rattle.khe_instance.specs.declared.parts.Parts.{Parts}
use Rattle.khe_instance.specs.declared.states.Plain.{Plain}
use Rattle.generator_laws.specs.Starts.{HasStart}
use Rattle.generator_laws.proofs.MadeLaws.{has_start, made_resolved}
use Rattle.made_run.specs.Runs.{IsRunLine}
use Rattle.archive_reading.specs.Starting.{IsBarredBy, Start, begins, barred, start_by, start_of}
use Rattle.khe_app.specs.Ends.{IsEnd, LacksOf}
use Rattle.reading_commands.specs.Ends.{Holdings, Written}
use Rattle.khe_app.specs.Outcome.{IsOutcomeOf, IsRunTo}
use Rattle.command_words.specs.Words.{making, running}
use Rattle.archive_reading.specs.declared.reading.Unread.{Unread}
use Rattle.archive_reading.specs.declared.reading.Unread.TheVariants as unread
use Rattle.archive_reading.specs.declared.refusals.Refusal.TheVariants.{NoSuchSolution}
use Rattle.khe_app.proofs.CheckEnds.{canonical_utf8}
use Rattle.khe_app.proofs.EndsLemmas.{end_starved, end_written, not_two}
use Rattle.parallel_solve.specs.Verdicts.{parts_at}
use Rattle.xhstt_completion.specs.Completed.{completed}
use Rattle.xhstt_resolve.specs.Answers.{IsFaultOf}
use Rattle.xhstt_resolve.specs.Resolved.{resolved}
use Rattle.xhstt_resolve.specs.declared.faults.ResolveFault.{ResolveFault}
use Rattle.xhstt_resolve.specs.declared.faults.ResolveFault.TheVariants as resolve
use Rattle.xhstt_resolve.specs.declared.resolving.Resolved.{Resolved}
use Rattle.xhstt_shape.specs.WellFormed.{IsWellFormed}
use Rattle.xhstt_shape.specs.declared.records.Archive.{Archive}
use Rattle.xhstt_writer.specs.Archives.{canonical}

-- an archive that was made, in its canonical spelling

making_outcome : (h : Holdings) (seed size : ℕ) (text : List ℕ) → encode_utf8_all text ≡ canonical (made seed size)
    → IfSome h (λ under. IsOutcomeOf (Some (making seed size)) under 0 text)
making_outcome None seed size text e = tt
making_outcome (Some under) seed size text e = (refl, e)

making_there : (h : Holdings) (seed size : ℕ) → LacksOf (Some (making seed size)) h → ⊥
making_there None seed size l = l
making_there (Some under) seed size l = omega (arith, l.0)

pub end_making : (h : Holdings) (seed size : ℕ) (a : Archive) (sound : Bool) (faults : ℕ)
    (before after : Option (List ℕ)) (sink sink2 result : ℕ) → a ≡ made seed size → IsWellFormed a
    → Written before after sink sink2 (canonical a) 0 result
    → IsEnd (Some (making seed size)) h sound faults faults before after sink sink2 result
end_making h seed size a sound faults before after sink sink2 result e form written =
    let text = chars (canonical a) in
    let spells : encode_utf8_all text ≡ canonical a = encodes-chars (canonical a) (canonical_utf8 a form) in
    end_written (Some (making seed size)) h sound faults faults before after sink sink2 text 0 result
    (making_outcome h seed size text (spells ∙ ap canonical e)) (inl refl)
    (subst (λ bytes. Written before after sink sink2 bytes 0 result) (sym spells) written)
    (λ s l. making_there h seed size l)

pub zero_two : ◌≡◌ {A = ℕ} 0 2 → ⊥
zero_two e = omega (arith, e)

-- the run of a job

running_outcome : (h : Holdings) (seed size : ℕ) (text : List ℕ) → IsRunTo seed size 0 text
    → IfSome h (λ under. IsOutcomeOf (Some (running seed size)) under 0 text)
running_outcome None seed size text r = tt
running_outcome (Some under) seed size text r = r

running_there : (h : Holdings) (seed size : ℕ) → LacksOf (Some (running seed size)) h → ⊥
running_there None seed size l = l
running_there (Some under) seed size l = let e : ◌≡◌ {A = ℕ} 4 0 = l.status_is in omega (arith, e)

-- the line was written, or memory ran out before anything was
abbrev IsRan : ℕ → ℕ → Option (List ℕ) → Option (List ℕ) → ℕ → ℕ → ℕ → Type 0
IsRan seed size before after sink sink2 result =
    ((result ≡ 6) × (after ≡ before)) ⊎ ((text : List ℕ) × IsRunTo seed size 0 text
    × Written before after sink sink2 (encode_utf8_all text) 0 result)

pub end_running : (h : Holdings) (seed size : ℕ) (sound : Bool) (faults : ℕ) (before after : Option (List ℕ))
    (sink sink2 result : ℕ) → IsRan seed size before after sink sink2 result
    → IsEnd (Some (running seed size)) h sound faults faults before after sink sink2 result
end_running h seed size sound faults before after sink sink2 result (inl w) =
    end_starved (Some (running seed size)) h sound faults faults before after sink sink2 result w.0 w.1
end_running h seed size sound faults before after sink sink2 result (inr (text, r, w)) =
    end_written (Some (running seed size)) h sound faults faults before after sink sink2 text 0 result
    (running_outcome h seed size text r) (inl refl) w (λ s l. running_there h seed size l)

pub running_not_two : (seed size : ℕ) (before after : Option (List ℕ)) (sink sink2 result : ℕ)
    → IsRan seed size before after sink sink2 result → result ≡ 2 → ⊥
running_not_two seed size before after sink sink2 result (inl w) two = let six = w.0 in omega (arith, six, two)
running_not_two seed size before after sink sink2 result (inr (text, r, w)) two =
    not_two before after sink sink2 (encode_utf8_all text) 0 result w zero_two two

-- the archive that was made has one instance
one_few : (n : ℕ) → n ≡ 1 → n < 2 ^ 32
one_few n e = omega (arith, e)

pub made_few : (seed size : ℕ) (a : Archive) → a ≡ made seed size → length a.instances < 2 ^ 32
made_few seed size a e =
    one_few (length a.instances)
    (ap (λ (x : Archive). length x.instances) e ∙ ap length (made_instances seed size))

no_fault : (seed size : ℕ) (a : Archive) (f : ResolveFault) → 1 ≤ size → size ≤ MADE_EVENTS → a ≡ made seed size
    → resolved a ≡ Err f → ⊥
no_fault seed size a f some few e is =
    let made_is = made_resolved seed size some few in
    let faulty : resolved (made seed size) ≡ Err f = sym (ap resolved e) ∙ is in
    let g : ⊥ = cc in g

-- it is resolved, so that a fault is want of memory
pub not_refused : (seed size : ℕ) (a : Archive) (f : ResolveFault) → 1 ≤ size → size ≤ MADE_EVENTS → a ≡ made seed size
    → IsFaultOf (resolved a) f → f ≡ resolve.NoMemory
not_refused seed size a resolve.NoMemory some few e is = refl
not_refused seed size a (resolve.Bad kind at) some few e is = absurd (no_fault seed size a _ some few e is)
not_refused seed size a (resolve.Limit which value) some few e is = absurd (no_fault seed size a _ some few e is)

-- and its first solution begins the run
started_as : (seed size : ℕ) (r : Resolved) (h : HasStart seed size r)
    → start_of (made seed size) r 0 ≡ begins h.parts h.state
started_as seed size r h =
    ap (λ o. option_map_or (λ raw. option_map_or (λ p. start_by p (completed p raw)) (parts_at r 0)
    (barred NoSuchSolution)) o (barred NoSuchSolution)) h.first
    ∙ ap (λ o. option_map_or (λ p. start_by p (completed p h.solution)) o (barred NoSuchSolution)) h.parts_are
    ∙ ap (start_by h.parts) h.completed_is

pub start_made : (seed size : ℕ) (a : Archive) (r : Resolved) → 1 ≤ size → size ≤ MADE_EVENTS → a ≡ made seed size
    → resolved a ≡ Ok r → (p : Parts) × (plain : Plain) × (start_of a r 0 ≡ begins p plain)
start_made seed size a r some few e is =
    let h = has_start seed size some few r (sym (ap resolved e) ∙ is) in (
      h.parts,
      h.state,
      ap (λ (x : Archive). start_of x r 0) e ∙ started_as seed size r h,
    )

pub only_starved : (s : Start) (u : Unread) → ((p : Parts) × (plain : Plain) × (s ≡ begins p plain)) → IsBarredBy s u
    → u ≡ unread.NoMemory
only_starved s unread.NoMemory start barred_is = refl
only_starved s (unread.Refused refusal) (p, plain, e) barred_is = absurd (let b = barred_is in let g : ⊥ = cc in g)

pub run_of_start : (seed size : ℕ) (a : Archive) (r : Resolved) (k : ℕ) (p q : Parts) (plain : Plain)
    (before after : Option (List ℕ)) (sink sink2 result : ℕ) → a ≡ made seed size → resolved a ≡ Ok r
    → slice_get r.instances k ≡ Some p → slice_get r.instances k ≡ Some q → start_of a r 0 ≡ begins p plain
    → ((result ≡ 6) × (after ≡ before)) ⊎ ((text : List ℕ) × IsRunLine seed size q plain text
    × Written before after sink sink2 (encode_utf8_all text) 0 result)
    → IsRan seed size before after sink sink2 result
run_of_start seed size a r k p q plain before after sink sink2 result e is at at2 start (inl w) = inl w
run_of_start seed size a r k p q plain before after sink sink2 result e is at at2 start (inr (text, t, w)) =
    inr (
      text,
      record {
        instances = r;
        resolved_is = sym (ap resolved e) ∙ is;
        parts = p;
        plain = plain;
        start_is = sym (ap (λ (x : Archive). start_of x r 0) e) ∙ start;
        status_is = refl;
        line = subst (λ (x : Parts). IsRunLine seed size x plain text) (same_Some q p (sym at2 ∙ at)) t;
      },
      w,
    )
