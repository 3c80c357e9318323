-- The solution that a script begins with.
use Rattle.std.proofs.Common.{ℕ, ◌≡◌, ◌<◌, Some, Ok, Err, length, get_or, slice_get, sym, ap, subst, ◌∙◌, arith}
use Rattle.std.proofs.Common.{zero-add}
use Rattle.std.specs.Option.{option_and_then, option_map_or}
use Rattle.std.proofs.lemmas.Option.{same_Some, slice_get-get_or}
use Rattle.khe_base.proofs.ListLemmas.{there}
use Rattle.khe_instance.specs.declared.parts.Parts.{Parts}
use Rattle.khe_instance.specs.declared.states.Plain.{Plain}
use Rattle.archive_reading.specs.Starting.{barred, begins, start_by, start_of}
use Rattle.archive_reading.specs.Ready.{IsReady}
use Rattle.parallel_solve.specs.Verdicts.{parts_at}
use Rattle.archive_reading.specs.declared.refusals.Refusal.TheVariants.{NoSuchSolution, Invalid}
use Rattle.xhstt_completion.specs.Completed.{completed}
use Rattle.xhstt_completion.specs.declared.faults.Cause.{Cause}
use Rattle.xhstt_references.specs.References.{solutions_of}
use Rattle.xhstt_resolve.specs.declared.resolving.Resolved.{Resolved}
use Rattle.xhstt_shape.specs.declared.records.Archive.{Archive}
use Rattle.xhstt_shape.specs.declared.records.RawSolution.{RawSolution}

-- a solution that is there, and its instance
pub record IsChosen (a : Archive) (r : Resolved) (number : ℕ) : Type 0 where
  pub raw : RawSolution
  pub found : slice_get (solutions_of a) number ≡ Some raw
  pub parts : Parts
  pub there : slice_get r.instances (get_or r.of number 0) ≡ Some parts
  pub at : parts_at r number ≡ Some parts

-- a number's instance, where it is looked up
pub at_number : (r : Resolved) (number : ℕ) (p : Parts) → number < length r.of
    → slice_get r.instances (get_or r.of number 0) ≡ Some p → parts_at r number ≡ Some p
at_number r number p l at =
    ap (option_and_then (λ j. slice_get r.instances j)) (slice_get-get_or r.of number 0 l) ∙ at

pub chosen : (a : Archive) (r : Resolved) (number : ℕ) → IsReady a r → number < length r.of → IsChosen a r number
chosen a r number ready l =
    let counted = ready.ready.counted in
    let t = there (solutions_of a) number (omega (arith, counted, l)) in
    let one = ready.ready.ones number t.value t.found in
    let at : parts_at r number ≡ Some one.parts = subst (λ n. parts_at r n ≡ Some one.parts) (zero-add number) one.at in
    let k : slice_get r.of number ≡ Some (get_or r.of number 0) = slice_get-get_or r.of number 0 l in
    record {
      raw = t.value;
      found = t.found;
      parts = one.parts;
      there = sym (ap (option_and_then (λ j. slice_get r.instances j)) k) ∙ at;
      at = at;
    }

started : (a : Archive) (r : Resolved) (number : ℕ) (c : IsChosen a r number)
    → start_of a r number ≡ start_by c.parts (completed c.parts c.raw)
started a r number c =
    ap (λ o. option_map_or (λ raw. option_map_or (λ p. start_by p (completed p raw)) (parts_at r number)
    (barred NoSuchSolution)) o (barred NoSuchSolution)) c.found
    ∙ ap (λ o. option_map_or (λ p. start_by p (completed p c.raw)) o (barred NoSuchSolution)) c.at

-- by the instance that was found
pub same_parts : (a : Archive) (r : Resolved) (number : ℕ) (c : IsChosen a r number) (p : Parts)
    → slice_get r.instances (get_or r.of number 0) ≡ Some p → c.parts ≡ p
same_parts a r number c p at = same_Some c.parts p (sym c.there ∙ at)

pub begun_at : (a : Archive) (r : Resolved) (number : ℕ) (c : IsChosen a r number) (p : Parts) (plain : Plain)
    → slice_get r.instances (get_or r.of number 0) ≡ Some p
    → ((raw : RawSolution) → slice_get (solutions_of a) number ≡ Some raw → completed p raw ≡ Ok plain)
    → start_of a r number ≡ begins p plain
begun_at a r number c p plain at is =
    started a r number c ∙ ap (λ q. start_by q (completed q c.raw)) (same_parts a r number c p at)
    ∙ ap (start_by p) (is c.raw c.found)

pub barred_at : (a : Archive) (r : Resolved) (number : ℕ) (c : IsChosen a r number) (p : Parts) (cause : Cause)
    → slice_get r.instances (get_or r.of number 0) ≡ Some p
    → ((raw : RawSolution) → slice_get (solutions_of a) number ≡ Some raw → completed p raw ≡ Err cause)
    → start_of a r number ≡ barred (Invalid cause.cause cause.entry)
barred_at a r number c p cause at is =
    started a r number c ∙ ap (λ q. start_by q (completed q c.raw)) (same_parts a r number c p at)
    ∙ ap (start_by p) (is c.raw c.found)
