-- The engine accepts what was found, and takes no memory, since no mark is open.
use Rattle.std.proofs.Common.{false, refl, sym, ap, ◌∙◌}
use Rattle.std.specs.Option.{option_map_or}
use Rattle.std.proofs.lemmas.Bool.{both_ways}
use Rattle.khe_engine.specs.States.{edited}
use Rattle.khe_told.proofs.ValidLaws.{if_given}
use Rattle.construct.specs.Choices.{IsMove}
use Rattle.construct.proofs.TurnLaws.{move_accepted, move_childless, none_saved}
use Rattle.construct.proofs.constructing.make.Goals as goal

pub unreachable-requires : goal.unreachable-requires
unreachable-requires g c =
    let p = c.args.engine.now.parts in
    let s = c.args.engine.now.state in
    let e = c.in-Some.edit in
    let move = if_given (IsMove p s) c.args.found e c.in-Some.is c.requires.move_ in
    both_ways false refl (c.in_default-edit.ensures.unmarked (move_accepted p s e move) (move_childless p s e move)
    c.requires.marks)

pub returns-clause-state : goal.returns-clause-state
returns-clause-state g c =
    let s = c.args.engine.now.state in
    c.in-Ok.ensures.state ∙ ap (λ o. option_map_or (edited s) o s) (sym c.in-Some.is)

pub returns-clause-marks : goal.returns-clause-marks
returns-clause-marks g c = none_saved _ _ _ c.requires.marks c.in-Ok.ensures.saved
