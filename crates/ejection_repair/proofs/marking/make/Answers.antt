use Rattle.std.proofs.Common.{false, refl, arith}
use Rattle.std.proofs.lemmas.Bool.{both_ways}
use Rattle.ejection_repair.proofs.EditLaws.{accepted_at, no_child}
use Rattle.ejection_repair.proofs.MarkLaws.{made}
use Rattle.ejection_repair.proofs.marking.make.Goals as goal

pub returns-clause-inside : goal.returns-clause-inside
returns-clause-inside g c =
    let b = c.in-Ok.ensures in
    let e = c.in-Ok-edit.ensures in
    made c.args.engine.now c.begin.new.self c.edit.new.self _ b.parts b.marked b.spare b.ok e.parts e.marked e.spare
    e.saved

pub unreachable-requires-in_default-edit : goal.unreachable-requires-in_default-edit
unreachable-requires-in_default-edit g c =
    let b = c.in-Ok.ensures in
    let s = b.spare in
    both_ways false refl (c.in_default-edit.ensures.room
    (accepted_at c.args.engine.now c.begin.new.self c.args.edit b.parts b.state c.requires.ours c.requires.accepted)
    (no_child c.args.edit c.requires.ours)
    (omega (arith, s, c.requires.room)))
