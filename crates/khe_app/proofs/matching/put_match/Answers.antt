-- The time, then the type, and else what is matched.
use Rattle.std.proofs.Common.{◌<◌, ◌≤◌, inl, inr, refl, arith, length}
use Rattle.archive_reading.specs.Refusals.{refusal_line}
use Rattle.archive_reading.specs.declared.refusals.Refusal.TheVariants.{NoSuchTime, NoSuchType}
use Rattle.khe_app.proofs.matching.put_match.Goals as goal

pub returns-then-times-wanted-clause-written : goal.returns-then-times-wanted-clause-written
returns-then-times-wanted-clause-written g c =
    let off : length c.args.inst.now.times ≤ c.args.wanted.time = omega (arith, c.times.ensures, c.if-times-wanted.true) in
    inr (3, refusal_line NoSuchTime, inl (off, (refl, refl)), c.put_refusal.ensures.written)

pub returns-then-types-wanted-clause-written : goal.returns-then-types-wanted-clause-written
returns-then-types-wanted-clause-written g c =
    let below : c.args.wanted.time < length c.args.inst.now.times =
    omega (arith, c.times.ensures, c.if-times-wanted.false) in
    let off : c.args.inst.now.types ≤ c.args.wanted.rtype = omega (arith, c.types.ensures, c.if-types-wanted.true) in
    inr (3, refusal_line NoSuchType, inr (inl (below, off, (refl, refl))), c.put_refusal-then-types-wanted.ensures.written)
