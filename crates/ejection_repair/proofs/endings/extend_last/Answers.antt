use Rattle.std.proofs.Common.{sym, ◌∙◌, take}
use Rattle.ejection_repair.specs.Lifts.{fresh_ahead}
use Rattle.ejection_repair.specs.Trails.{moved_of}
use Rattle.ejection_repair.proofs.EndLaws as ends
use Rattle.ejection_repair.proofs.SearchLaws as search
use Rattle.ejection_repair.proofs.WalkLaws as walks
use Rattle.ejection_repair.proofs.endings.extend_last.Goals as goal

pub loop-count-init : goal.loop-count-init
loop-count-init g c =
    let w = c.args.engine.now in
    let r = c.moves_from-round.ensures in
    let v = c.args.aim.now.diversifier in
    let begun = search.begun_ahead _ w.parts _ w.state.slots c.moves_from-round.result v c.args.monitor.0
    c.instance-inst.ensures c.solution.ensures.slots r.ahead in
    record {
      back = search.back_itself w;
      inst = c.instance-inst.ensures;
      round = search.round_of _ w.parts _ c.instance-inst.ensures r.round;
      looks = ends.begun_last w c.args.trail.now c.moves_from-round.result v c.args.monitor.0 c.args.left.now
          c.args.aim.now.lowest begun;
    }

pub loop-count-preserved : goal.loop-count-preserved
loop-count-preserved g c =
    let w = c.args.engine.now in let v = c.loop-count.engine in let i = c.loop-count.invariant in let e =
    c.in-Through.ensures in
    let front = take c.in-Some.count c.gather.new.row in
    let moved = moved_of c.args.trail.now in
    let on = walks.row_back w v moved c.loop-count.round c.gather.new.round front _ _ i.inst
    c.solution-in-loop-count.ensures.slots i.back c.in-Some.ensures.next.2 in
    record {
      back = search.back_again w v c.try_moves.new.engine i.back e.kept e.room e.looks.1 e.looks.2;
      inst = i.inst;
      round = search.round_of _ w.parts _ i.inst c.in-Some.ensures.round;
      looks = sym (ends.ends_through w v c.args.aim.now.lowest c.loop-count.left c.try_moves.new.left front
          (fresh_ahead w.parts w.state.slots moved c.gather.new.round) _ i.back on e.looks.0) ∙ i.looks;
    }

pub returns-in-Found-clause-looks : goal.returns-in-Found-clause-looks
returns-in-Found-clause-looks g c =
    let w = c.args.engine.now in let v = c.loop-count.engine in let i = c.loop-count.invariant in
    let front = take c.in-Some.count c.gather.new.row in
    let moved = moved_of c.args.trail.now in
    let on = walks.row_back w v moved c.loop-count.round c.gather.new.round front _ _ i.inst
    c.solution-in-loop-count.ensures.slots i.back c.in-Some.ensures.next.2 in
    sym i.looks ∙ ends.ends_found w v c.args.aim.now.lowest c.loop-count.left c.try_moves.new.left _ front
    (fresh_ahead w.parts w.state.slots moved c.gather.new.round) _ i.back on c.in-Found.ensures.looks

pub returns-in-Spent-clause-looks : goal.returns-in-Spent-clause-looks
returns-in-Spent-clause-looks g c =
    let w = c.args.engine.now in let v = c.loop-count.engine in let i = c.loop-count.invariant in let e =
    c.in-Spent.ensures.looks in
    let front = take c.in-Some.count c.gather.new.row in
    let moved = moved_of c.args.trail.now in
    let on = walks.row_back w v moved c.loop-count.round c.gather.new.round front _ _ i.inst
    c.solution-in-loop-count.ensures.slots i.back c.in-Some.ensures.next.2 in (
      sym i.looks ∙ ends.ends_spent w v c.args.aim.now.lowest c.loop-count.left front
          (fresh_ahead w.parts w.state.slots moved c.gather.new.round) _ i.back on e.0,
      e.1 ∙ i.back.state,
      e.2 ∙ i.back.saved,
      e.3,
    )

pub returns-clause-looks : goal.returns-clause-looks
returns-clause-looks g c =
    let w = c.args.engine.now in let i = c.loop-count.invariant in (
      sym i.looks ∙ ends.ends_done w.parts w.state c.args.aim.now.lowest c.loop-count.left _
          (walks.nothing_back w c.loop-count.engine (moved_of c.args.trail.now) c.loop-count.round _ _ i.inst
          c.solution-in-loop-count.ensures.slots i.back c.in_default.ensures.next),
      i.back.state,
      i.back.saved,
    )

pub try_moves-requires-clause-moves : goal.try_moves-requires-clause-moves
try_moves-requires-clause-moves g c =
    let v = c.loop-count.engine in let i = c.loop-count.invariant in
    walks.moves_at _ v.parts _ v.state.slots _ (i.inst ∙ sym i.back.parts) c.solution-in-loop-count.ensures.slots
    c.in-Some.ensures.moves
