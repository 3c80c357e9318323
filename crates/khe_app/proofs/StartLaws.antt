-- What a start is, where there is one.
use Rattle.std.proofs.Common.{ℕ, ◌≡◌, ◌∙◌, Option, Some, None, Result, Ok, Err, refl, sym, ap, subst, slice_get}
use Rattle.std.specs.Option.{option_map_or}
use Rattle.archive_reading.specs.Starting.{Start, barred, begins, start_by, start_of}
use Rattle.archive_reading.specs.declared.refusals.Refusal.{Refusal}
use Rattle.archive_reading.specs.declared.refusals.Refusal.TheVariants.{NoSuchSolution}
use Rattle.khe_instance.specs.declared.parts.Parts.{Parts}
use Rattle.khe_instance.specs.declared.states.Plain.{Plain}
use Rattle.text_laws.specs.Read.{IsTimetableOf}
use Rattle.xhstt_completion.specs.Completed.{completed}
use Rattle.xhstt_completion.specs.Numbered.{parts_at}
use Rattle.xhstt_completion.specs.declared.faults.Cause.{Cause}
use Rattle.xhstt_references.specs.References.{solutions_of}
use Rattle.xhstt_resolve.specs.declared.resolving.Resolved.{Resolved}
use Rattle.xhstt_shape.specs.declared.records.Archive.{Archive}
use Rattle.xhstt_shape.specs.declared.records.RawSolution.{RawSolution}

-- a start is not barred
pub begins_barred : {A : Type 0} (p : Parts) (plain : Plain) (x : Refusal) → begins p plain ≡ barred x → A
begins_barred p plain x e = absurd (subst is_begun e tt)
  where
    is_begun : Start → Type 0
    is_begun (begins p plain) = Unit {0}
    is_begun (barred x) = ⊥

abbrev parts_in : Parts → Start → Parts
parts_in d (begins p plain) = p
parts_in d (barred x) = d

abbrev plain_in : Plain → Start → Plain
plain_in d (begins p plain) = plain
plain_in d (barred x) = d

pub same_start : (p q : Parts) (s t : Plain) → begins p s ≡ begins q t → (p ≡ q) × (s ≡ t)
same_start p q s t e = (ap (parts_in p) e, ap (plain_in s) e)

completed_by : (q p : Parts) (answer : Result Plain Cause) (plain : Plain) → start_by q answer ≡ begins p plain
    → (q ≡ p) × (answer ≡ Ok plain)
completed_by q p (Ok s) plain e = let same = same_start q p s plain e in (same.0, ap Ok same.1)
completed_by q p (Err cause) plain e = begins_barred p plain _ (sym e)

parts_by : (a : Archive) (r : Resolved) (number : ℕ) (p : Parts) (plain : Plain) (raw : RawSolution) (o : Option Parts)
    → slice_get (solutions_of a) number ≡ Some raw → parts_at r number ≡ o
    → option_map_or (λ q. start_by q (completed q raw)) o (barred NoSuchSolution) ≡ begins p plain
    → IsTimetableOf a r number p plain
parts_by a r number p plain raw None at e s = begins_barred p plain NoSuchSolution (sym s)
parts_by a r number p plain raw (Some q) at e s =
    let c = completed_by q p (completed q raw) plain s in
    record {
      solution = raw;
      there = at;
      parts = e ∙ ap Some c.0;
      completes = sym (ap (λ x. completed x raw) c.0) ∙ c.1;
    }

-- a solution that a run begins with says its timetable
pub started_by : (a : Archive) (r : Resolved) (number : ℕ) (p : Parts) (plain : Plain)
    → start_of a r number ≡ begins p plain → IsTimetableOf a r number p plain
started_by a r number p plain e = by (slice_get (solutions_of a) number) refl e
  where
    by : (o : Option RawSolution) → slice_get (solutions_of a) number ≡ o
        → option_map_or (λ raw. option_map_or (λ q. start_by q (completed q raw)) (parts_at r number)
        (barred NoSuchSolution)) o (barred NoSuchSolution) ≡ begins p plain
        → IsTimetableOf a r number p plain
    by None at s = begins_barred p plain NoSuchSolution (sym s)
    by (Some raw) at s = parts_by a r number p plain raw (parts_at r number) at refl s
