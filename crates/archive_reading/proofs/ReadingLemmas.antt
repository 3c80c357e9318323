-- How the steps of reading lead to an archive's reading.
use Rattle.std.proofs.Common.{ℕ, ◌≡◌, ◌≤◌, inr, List, length, Err, Result, refl, sym, subst}
use Rattle.khe_base.specs.declared.limits.TheConstants.{ARCHIVE_BYTES}
use Rattle.archive_reading.specs.Reading.{IsRead, IsShaped, IsSpelled, Reading, refused}
use Rattle.archive_reading.specs.Steps.{IsTree, IsStopped, of_resolve}
use Rattle.archive_reading.specs.declared.refusals.Refusal.TheVariants.{Fault, Limit}
use Rattle.xhstt_resolve.specs.Answers.{IsFaultOf}
use Rattle.xhstt_resolve.specs.Resolved.{resolved}
use Rattle.xhstt_resolve.specs.declared.faults.ResolveFault.{ResolveFault}
use Rattle.xhstt_resolve.specs.declared.faults.ResolveFault.TheVariants as resolve
use Rattle.xhstt_resolve.specs.declared.resolving.Resolved.{Resolved}
use Rattle.xhstt_shape.specs.declared.records.Archive.{Archive}

-- the reading of an archive that a tree gives
pub spelled : (bytes : List ℕ) (a : Archive) (answer : Result Resolved ResolveFault) (reading : Reading)
    → IsTree bytes a
    → resolved a ≡ answer → IsRead a answer reading → IsSpelled bytes reading
spelled bytes a answer reading tree is read = record {
  tree = tree.tree;
  spelled = tree.spelled;
  shaped = subst (λ shaped. IsShaped shaped reading) (sym tree.shape) (subst (λ r. IsRead a r reading) (sym is) read);
}

pub resolve-stopped : (bytes : List ℕ) (a : Archive) (fault : ResolveFault) → length bytes ≤ ARCHIVE_BYTES
    → IsTree bytes a
    → IsFaultOf (resolved a) fault → IsStopped bytes (of_resolve fault)
resolve-stopped bytes a (resolve.Bad kind at) few tree is =
    inr (few, inr (spelled bytes a (Err (resolve.Bad kind at)) (refused (Fault kind at)) tree is refl))
resolve-stopped bytes a (resolve.Limit which value) few tree is =
    inr (few, inr (spelled bytes a (Err (resolve.Limit which value)) (refused (Limit which value)) tree is refl))
resolve-stopped bytes a resolve.NoMemory few tree is = tt
