-- The solution is there, and its instance is the one that was found.
use Rattle.std.proofs.Common.{◌≡◌, ◌<◌, Some, Err, length, get_or, slice_get, subst, sym, arith}
use Rattle.std.proofs.lemmas.Option.{slice_get_within}
use Rattle.xhstt_completion.specs.Completed.{completed, IsFaultOf}
use Rattle.xhstt_completion.specs.declared.faults.Cause.{Cause}
use Rattle.xhstt_shape.specs.declared.records.RawSolution.{RawSolution}
use Rattle.xhstt_references.specs.References.{solutions_of}
use Rattle.archive_reading.proofs.StartLemmas.{at_number, barred_at, begun_at, chosen}
use Rattle.archive_reading.proofs.starting.begin.Goals as goal

pub instance_numbered-inst-requires : goal.instance_numbered-inst-requires
instance_numbered-inst-requires c =
    let r = c.args.resolved.now in
    let n = c.args.number in
    let low : n < length r.of = omega (arith, c.if-len-number.false, c.len.ensures) in
    let s = chosen c.args.archive.now r n c.requires low in
    subst (λ k. k < length r.instances) (sym c.instance_number-instance.ensures)
    (slice_get_within r.instances (get_or r.of n 0) s.parts s.there)

pub solution-requires-clause-instance : goal.solution-requires-clause-instance
solution-requires-clause-instance c =
    let r = c.args.resolved.now in
    let n = c.args.number in
    let low : n < length r.of = omega (arith, c.if-len-number.false, c.len.ensures) in
    let p = c.instance_numbered-inst.result.now in
    let at : slice_get r.instances (get_or r.of n 0) ≡ Some p =
    subst (λ k. slice_get r.instances k ≡ Some p) c.instance_number-instance.ensures
    c.instance_numbered-inst.ensures in
    at_number r n p low at

pub returns-in-Ok-clause-begun : goal.returns-in-Ok-clause-begun
returns-in-Ok-clause-begun c =
    let r = c.args.resolved.now in
    let n = c.args.number in
    let low : n < length r.of = omega (arith, c.if-len-number.false, c.len.ensures) in
    let p = c.instance_numbered-inst.result.now in
    let at : slice_get r.instances (get_or r.of n 0) ≡ Some p =
    subst (λ k. slice_get r.instances k ≡ Some p) c.instance_number-instance.ensures
    c.instance_numbered-inst.ensures in (
      p,
      c.instance_numbered-inst.ensures,
      c.in-Ok.ensures.valid,
      begun_at c.args.archive.now r n
          (chosen c.args.archive.now r n c.requires low) p c.in-Ok.plain at c.in-Ok.ensures.exact,
    )

pub returns-in-Err-Invalid-clause-barred : goal.returns-in-Err-Invalid-clause-barred
returns-in-Err-Invalid-clause-barred c =
    let r = c.args.resolved.now in
    let n = c.args.number in
    let low : n < length r.of = omega (arith, c.if-len-number.false, c.len.ensures) in
    let p = c.instance_numbered-inst.result.now in
    let at : slice_get r.instances (get_or r.of n 0) ≡ Some p =
    subst (λ k. slice_get r.instances k ≡ Some p) c.instance_number-instance.ensures
    c.instance_numbered-inst.ensures in
    let s = chosen c.args.archive.now r n c.requires low in
    let cause : Cause = record { cause = c.in-Err-Invalid.cause; entry = c.in-Err-Invalid.entry } in
    let is : (raw : RawSolution) → slice_get (solutions_of c.args.archive.now) n ≡ Some raw
    → completed p raw ≡ Err cause =
    λ raw found. subst (IsFaultOf (completed p raw)) c.in-Err-Invalid.field-0-is
    (c.in-Err-Invalid.ensures.invalid raw found) in
    barred_at c.args.archive.now r n s p cause at is
