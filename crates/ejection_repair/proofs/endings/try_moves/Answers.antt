use Rattle.std.proofs.Common.{List, refl, sym, subst, ◌∙◌}
use Rattle.std.specs.Prelude.{All}
use Rattle.std.proofs.lemmas.List.Elements.{All-drop, All-take}
use Rattle.khe_told.specs.declared.edits.Edit.{Edit}
use Rattle.ejection_repair.specs.Lifts.{IsMove}
use Rattle.ejection_repair.proofs.EndLaws as ends
use Rattle.ejection_repair.proofs.SearchLaws as search
use Rattle.ejection_repair.proofs.endings.try_moves.Goals as goal

pub loop-rest-init : goal.loop-rest-init
loop-rest-init g c = record { back = search.back_itself c.args.engine.now; moves = c.requires.moves; looks = refl }

pub loop-rest-preserved : goal.loop-rest-preserved
loop-rest-preserved g c =
    let w = c.args.engine.now in let v = c.loop-rest.engine in let i = c.loop-rest.invariant in let e =
    c.in-Through.ensures in
    let rest = c.loop-rest.rest.now in
    let n = c.run_of-run.result.count in
    let cut = c.split_at.ensures in
    let first = c.split_at.result.0.now in
    let later = c.split_at.result.1.now in
    let P : Edit → Type 0 = IsMove w.parts w.state.slots in
    let all : List Edit → Type 0 = λ xs. All P xs in
    record {
      back = search.back_again w v c.try_run.new.engine i.back e.kept e.room e.looks.1 e.looks.2;
      moves = subst all (sym cut.back) (All-drop P n rest i.moves);
      looks = sym (ends.ends_through w v c.args.aim.now.lowest c.loop-rest.left c.try_run.new.left first later rest
          i.back (ends.both_parts rest first later n cut.front cut.back) e.looks.0) ∙ i.looks;
    }

pub returns-in-Found-clause-looks : goal.returns-in-Found-clause-looks
returns-in-Found-clause-looks g c =
    let w = c.args.engine.now in let i = c.loop-rest.invariant in
    let rest = c.loop-rest.rest.now in
    let cut = c.split_at.ensures in
    let first = c.split_at.result.0.now in
    let later = c.split_at.result.1.now in
    sym i.looks ∙ ends.ends_found w c.loop-rest.engine c.args.aim.now.lowest c.loop-rest.left c.try_run.new.left _
    first later rest i.back (ends.both_parts rest first later c.run_of-run.result.count cut.front cut.back)
    c.in-Found.ensures.looks

pub returns-in-Spent-clause-looks : goal.returns-in-Spent-clause-looks
returns-in-Spent-clause-looks g c =
    let w = c.args.engine.now in let i = c.loop-rest.invariant in let e = c.in-Spent.ensures.looks in
    let rest = c.loop-rest.rest.now in
    let cut = c.split_at.ensures in
    let first = c.split_at.result.0.now in
    let later = c.split_at.result.1.now in (
      sym i.looks ∙ ends.ends_spent w c.loop-rest.engine c.args.aim.now.lowest c.loop-rest.left first later rest i.back
          (ends.both_parts rest first later c.run_of-run.result.count cut.front cut.back) e.0,
      e.1 ∙ i.back.state,
      e.2 ∙ i.back.saved,
      e.3,
    )

pub returns-clause-looks : goal.returns-clause-looks
returns-clause-looks g c =
    let w = c.args.engine.now in let i = c.loop-rest.invariant in (
      sym i.looks ∙ ends.ends_done w.parts w.state c.args.aim.now.lowest c.loop-rest.left c.loop-rest.rest.now
          (ends.none_left c.loop-rest.rest.now (sym c.is_empty.ensures ∙ c.loop-rest-test.false)),
      i.back.state,
      i.back.saved,
    )

pub try_run-requires-clause-moves : goal.try_run-requires-clause-moves
try_run-requires-clause-moves g c =
    let w = c.args.engine.now in let v = c.loop-rest.engine in let i = c.loop-rest.invariant in
    let rest = c.loop-rest.rest.now in
    let P : Edit → Type 0 = IsMove v.parts v.state.slots in
    let all : List Edit → Type 0 = λ xs. All P xs in
    subst all (sym c.split_at.ensures.front)
    (All-take P c.run_of-run.result.count rest (ends.moves_back w v rest i.back i.moves))
