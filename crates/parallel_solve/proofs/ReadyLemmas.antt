-- An archive that was resolved: each solution has its instance.
use Rattle.std.proofs.Common.{ℕ, ◌≡◌, ◌<◌, ◌≤◌, ◌^◌, Ok, length, sym, ap, subst, ◌∙◌, arith, zero-add}
use Rattle.std.specs.Prelude.{unwrap_or}
use Rattle.std.proofs.lemmas.List.{length-map}
use Rattle.khe_base.specs.Names.{number_of}
use Rattle.khe_base.specs.declared.limits.TheConstants.{SOLUTIONS}
use Rattle.parallel_solve.specs.Ready.{IsOne, IsReady}
use Rattle.xhstt_completion.proofs.Resolved.{one, resolved-as}
use Rattle.xhstt_references.specs.Ids.{instance_ids}
use Rattle.xhstt_references.specs.References.{solutions_of}
use Rattle.xhstt_resolve.specs.Resolved.{resolved}
use Rattle.xhstt_resolve.specs.declared.resolving.Resolved.{Resolved}
use Rattle.xhstt_shape.specs.WellFormed as formed
use Rattle.xhstt_shape.specs.declared.records.Archive.{Archive}

solutions-few : (n : ℕ) → n ≤ SOLUTIONS → n < 2 ^ 32
solutions-few n h = omega (arith, h)

-- a resolved archive is ready to be evaluated
pub ready : (a : Archive) (r : Resolved) → resolved a ≡ Ok r → formed.IsInForm a → IsReady a r
ready a r e form =
    let held = resolved-as a r e in
    record {
      ones = λ k raw at. subst (λ n. IsOne r n raw) (sym (zero-add k)) (one a r e form k raw at);
      counted = ap length held.of ∙ length-map (solutions_of a)
          (λ s. unwrap_or (number_of s.reference.id (instance_ids a)) 0);
      few = solutions-few (length (solutions_of a)) held.few;
    }
