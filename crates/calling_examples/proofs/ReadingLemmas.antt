-- A solution with an instance is one of the archive's.
use Rattle.std.proofs.Common.{ℕ, ◌≡◌, ◌∙◌, ◌<◌, Option, Some, None, Ok, length, slice_get, refl, sym, ap, arith}
use Rattle.std.specs.Option.{option_and_then}
use Rattle.std.specs.Prelude.{unwrap_or}
use Rattle.std.proofs.lemmas.List.{length-map}
use Rattle.std.proofs.lemmas.Option.{slice_get_within}
use Rattle.khe_base.proofs.ListLemmas.{there}
use Rattle.khe_base.specs.Names.{number_of}
use Rattle.khe_base.specs.declared.sums.Totals.{Totals}
use Rattle.khe_instance.specs.Evaluated.{totals}
use Rattle.khe_instance.specs.declared.parts.Parts.{Parts}
use Rattle.khe_instance.specs.declared.states.Plain.{Plain}
use Rattle.calling_examples.specs.Reading.{AreTotalsOf}
use Rattle.xhstt_completion.proofs.Resolved.{resolved-as}
use Rattle.xhstt_completion.specs.Completed.{completed}
use Rattle.xhstt_completion.specs.Numbered.{parts_at}
use Rattle.xhstt_references.specs.Ids.{instance_ids}
use Rattle.xhstt_references.specs.References.{solutions_of}
use Rattle.xhstt_resolve.specs.Resolved.{resolved}
use Rattle.xhstt_resolve.specs.declared.resolving.Resolved.{Resolved}
use Rattle.xhstt_shape.specs.declared.records.Archive.{Archive}
use Rattle.xhstt_shape.specs.declared.records.RawSolution.{RawSolution}

pub number_there : (a : Archive) (r : Resolved) (n : ℕ) (p : Parts) → resolved a ≡ Ok r → parts_at r n ≡ Some p
    → n < length (solutions_of a)
number_there a r n p e at = by (slice_get r.of n) refl
  where
    by : (o : Option ℕ) → slice_get r.of n ≡ o → n < length (solutions_of a)
    by None is =
        let none : ◌≡◌ {A = Option Parts} None (Some p) =
        sym (ap (λ o. option_and_then (λ k. slice_get r.instances k) o) is) ∙ at in
        absurd (let g : ⊥ = cc in g)
    by (Some k) is =
        let within = slice_get_within r.of n k is in
        let of = ap length (resolved-as a r e).of in
        let many = length-map (solutions_of a) (λ s. unwrap_or (number_of s.reference.id (instance_ids a)) 0) in
        omega (arith, within, of, many)

pub totals_are : (a : Archive) (r : Resolved) (n : ℕ) (p : Parts) (plain : Plain) (t : Totals) → resolved a ≡ Ok r
    → parts_at r n ≡ Some p
    → ((raw : RawSolution) → slice_get (solutions_of a) n ≡ Some raw → completed p raw ≡ Ok plain)
    → t ≡ totals p plain → AreTotalsOf a r n t
totals_are a r n p plain t e at exact is =
    let one = there (solutions_of a) n (number_there a r n p e at) in
    record {
      raw = one.value;
      found = one.found;
      parts = p;
      instance = at;
      plain = plain;
      completes = exact one.value one.found;
      totals_are = is;
    }
