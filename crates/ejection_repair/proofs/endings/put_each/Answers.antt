use Rattle.std.proofs.Common.{refl, sym, ap, ◌∙◌, ◌+◌, [], ◌∷◌, drop, map}
use Rattle.std.proofs.lemmas.List.{drop_all}
use Rattle.ejection_repair.specs.Lifts.{put_of}
use Rattle.ejection_repair.proofs.EndLaws as ends
use Rattle.ejection_repair.proofs.SearchLaws as search
use Rattle.ejection_repair.proofs.endings.put_each.Goals as goal

pub loop-edit-init : goal.loop-edit-init
loop-edit-init g c = record { back = search.back_itself c.args.engine.now; looks = refl }

pub loop-edit-preserved : goal.loop-edit-preserved
loop-edit-preserved g c =
    let w = c.args.engine.now in let v = c.loop-edit.engine in let i = c.loop-edit.invariant in let e =
    c.in-Through.ensures in
    let now = c.put_of.result ∷ [] in
    let later = map put_of (drop (c.loop-edit.edit-index + 1) c.args.moves.now) in
    let on = ends.puts_on c.args.moves.now c.loop-edit.edit-index _ c.put_of.result c.loop-edit-test.true
    c.put_of.ensures in
    record {
      back = search.back_again w v c.try_one.new.engine i.back e.kept e.room e.looks.1 e.looks.2;
      looks = sym (ends.ends_through w v c.args.aim.now.lowest c.loop-edit.left c.try_one.new.left now later _ i.back on
          e.looks.0) ∙ i.looks;
    }

pub returns-in-Found-clause-looks : goal.returns-in-Found-clause-looks
returns-in-Found-clause-looks g c =
    let w = c.args.engine.now in let v = c.loop-edit.engine in let i = c.loop-edit.invariant in
    let now = c.put_of.result ∷ [] in
    let later = map put_of (drop (c.loop-edit.edit-index + 1) c.args.moves.now) in
    let on = ends.puts_on c.args.moves.now c.loop-edit.edit-index _ c.put_of.result c.loop-edit-test.true
    c.put_of.ensures in
    sym i.looks ∙ ends.ends_found w v c.args.aim.now.lowest c.loop-edit.left c.try_one.new.left _ now later _ i.back on
    c.in-Found.ensures.looks

pub returns-in-Spent-clause-looks : goal.returns-in-Spent-clause-looks
returns-in-Spent-clause-looks g c =
    let w = c.args.engine.now in let v = c.loop-edit.engine in let i = c.loop-edit.invariant in let e =
    c.in-Spent.ensures.looks in
    let now = c.put_of.result ∷ [] in
    let later = map put_of (drop (c.loop-edit.edit-index + 1) c.args.moves.now) in
    let on = ends.puts_on c.args.moves.now c.loop-edit.edit-index _ c.put_of.result c.loop-edit-test.true
    c.put_of.ensures in (
      sym i.looks ∙ ends.ends_spent w v c.args.aim.now.lowest c.loop-edit.left now later _ i.back on e.0,
      e.1 ∙ i.back.state,
      e.2 ∙ i.back.saved,
      e.3,
    )

pub returns-clause-looks : goal.returns-clause-looks
returns-clause-looks g c =
    let w = c.args.engine.now in let i = c.loop-edit.invariant in (
      sym i.looks ∙ ends.ends_done w.parts w.state c.args.aim.now.lowest c.loop-edit.left _
          (ap (map put_of) (drop_all c.loop-edit.edit-index c.args.moves.now c.loop-edit-test.false)),
      i.back.state,
      i.back.saved,
    )

pub try_one-requires-clause-move_ : goal.try_one-requires-clause-move_
try_one-requires-clause-move_ g c =
    ends.put_there c.args.engine.now c.loop-edit.engine c.args.moves.now c.loop-edit.edit-index _ c.put_of.result
    c.loop-edit.invariant.back c.requires.puts c.loop-edit-test.true c.put_of.ensures
