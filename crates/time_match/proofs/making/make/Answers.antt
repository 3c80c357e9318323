-- There is room for the record.
use Rattle.std.proofs.Common.{false, refl}
use Rattle.std.proofs.lemmas.Bool.{both_ways}
use Rattle.time_match.proofs.EditLaws.{accepted, no_child}
use Rattle.time_match.proofs.making.make.Goals as goal

pub unreachable-requires : goal.unreachable-requires
unreachable-requires g c =
    let w = c.args.engine.now in
    both_ways false refl (c.in_default.ensures.room (accepted w.parts w.state c.args.edit c.requires.ours
    c.requires.accepted) (no_child c.args.edit c.requires.ours) c.requires.room)
