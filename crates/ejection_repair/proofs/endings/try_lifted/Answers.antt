use Rattle.std.proofs.Common.{ap, sym, subst, ◌∙◌, arith}
use Rattle.ejection_repair.specs.Lifts.{IsMove}
use Rattle.ejection_repair.specs.Looks.{found}
use Rattle.ejection_repair.proofs.LiftLaws as lifts
use Rattle.ejection_repair.proofs.SearchLaws as search
use Rattle.ejection_repair.proofs.endings.try_lifted.Goals as goal

pub make-requires-clause-ours : goal.make-requires-clause-ours
make-requires-clause-ours g c =
    let w = c.args.engine.now in
    let h = lifts.lift_made w.parts w.state c.args.moves.now c.args.moved (omega (arith, c.requires.some))
    c.requires.moves c.requires.same in
    (subst (IsMove w.parts w.state.slots) (sym c.lift_of.ensures) h).ours

pub make-requires-clause-accepted : goal.make-requires-clause-accepted
make-requires-clause-accepted g c =
    let w = c.args.engine.now in
    let h = lifts.lift_made w.parts w.state c.args.moves.now c.args.moved (omega (arith, c.requires.some))
    c.requires.moves c.requires.same in
    (subst (IsMove w.parts w.state.slots) (sym c.lift_of.ensures) h).accepted

pub put_each-requires-clause-puts : goal.put_each-requires-clause-puts
put_each-requires-clause-puts g c =
    let w = c.args.engine.now in
    lifts.puts_there w c.make.new.engine c.args.moves.now c.args.moved _ c.lift_of.ensures c.make.ensures.inside.parts
    c.make.ensures.state c.requires.moves c.requires.same

pub returns-in-Through-clause-looks : goal.returns-in-Through-clause-looks
returns-in-Through-clause-looks g c =
    let w = c.args.engine.now in let v = c.make.new.engine in let e = c.in-Through.ensures in
    let back = c.take_back.ensures w (search.inside_kept w v c.put_each.new.engine c.make.ensures.inside e.kept e.room
    e.looks.2) in (
      lifts.look_lifted w v c.args.aim.now.lowest c.args.left.now c.args.moves.now c.args.moved _ c.lift_of.ensures
          c.make.ensures.inside.parts c.make.ensures.state c.requires.moves c.requires.same ∙ e.looks.0,
      back.state,
      back.saved,
    )

pub returns-in-Through-clause-kept : goal.returns-in-Through-clause-kept
returns-in-Through-clause-kept g c =
    let w = c.args.engine.now in let e = c.in-Through.ensures in
    search.back_kept w c.take_back.new.engine (c.take_back.ensures w
    (search.inside_kept w c.make.new.engine c.put_each.new.engine c.make.ensures.inside e.kept e.room e.looks.2))

pub returns-in-Found-clause-looks : goal.returns-in-Found-clause-looks
returns-in-Found-clause-looks g c =
    let w = c.args.engine.now in let v = c.make.new.engine in
    lifts.look_lifted w v c.args.aim.now.lowest c.args.left.now c.args.moves.now c.args.moved _ c.lift_of.ensures
    c.make.ensures.inside.parts c.make.ensures.state c.requires.moves c.requires.same
    ∙ c.in-Found.ensures.looks ∙ ap (λ s. found s c.put_each.new.left) (sym c.keep.ensures.state)

pub returns-in-Found-clause-kept : goal.returns-in-Found-clause-kept
returns-in-Found-clause-kept g c =
    let k = c.keep.ensures in
    search.kept_inside c.args.engine.now c.make.new.engine c.put_each.new.engine c.keep.new.engine
    c.make.ensures.inside c.in-Found.ensures.kept k.parts k.marked k.saved

pub returns-in-Spent-clause-looks : goal.returns-in-Spent-clause-looks
returns-in-Spent-clause-looks g c =
    let w = c.args.engine.now in let v = c.make.new.engine in let e = c.in-Spent.ensures in
    let back = c.take_back-in-Spent.ensures w (search.inside_kept w v c.put_each.new.engine c.make.ensures.inside
    e.kept e.room e.looks.2) in (
      lifts.look_lifted w v c.args.aim.now.lowest c.args.left.now c.args.moves.now c.args.moved _ c.lift_of.ensures
          c.make.ensures.inside.parts c.make.ensures.state c.requires.moves c.requires.same ∙ e.looks.0,
      back.state,
      back.saved,
      e.looks.3,
    )

pub returns-in-Spent-clause-kept : goal.returns-in-Spent-clause-kept
returns-in-Spent-clause-kept g c =
    let w = c.args.engine.now in let e = c.in-Spent.ensures in
    search.back_kept w c.take_back-in-Spent.new.engine (c.take_back-in-Spent.ensures w
    (search.inside_kept w c.make.new.engine c.put_each.new.engine c.make.ensures.inside e.kept e.room e.looks.2))
