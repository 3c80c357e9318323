use Rattle.std.proofs.Common.{sym, ◌∙◌}
use Rattle.ejection_repair.specs.Trails.{moved_of}
use Rattle.ejection_repair.proofs.WalkLaws as walks
use Rattle.ejection_repair.proofs.endings.next_fresh.Goals as goal

pub loop-edit-preserved : goal.loop-edit-preserved
loop-edit-preserved c =
    let moved = moved_of c.args.trail.now in
    record {
      round = c.in-Some.ensures.round;
      ahead = sym (walks.fresh_passed c.args.inst.now c.args.solution.now.slots moved c.loop-edit.round
          c.next_of.new.round c.in-Some.edit c.in-Some.ensures.next (sym c.is_fresh.ensures ∙ c.if-is_fresh.false))
          ∙ c.loop-edit.invariant.ahead;
    }

pub returns-then-is_fresh-clause-next : goal.returns-then-is_fresh-clause-next
returns-then-is_fresh-clause-next c =
    sym c.loop-edit.invariant.ahead
    ∙ walks.fresh_next c.args.inst.now c.args.solution.now.slots (moved_of c.args.trail.now) c.loop-edit.round
    c.next_of.new.round c.in-Some.edit c.in-Some.ensures.next (sym c.is_fresh.ensures ∙ c.if-is_fresh.true)

pub returns-clause-next : goal.returns-clause-next
returns-clause-next c =
    let p = c.args.inst.now in let s = c.args.solution.now.slots in let moved = moved_of c.args.trail.now in (
      sym c.loop-edit.invariant.ahead ∙ walks.fresh_none p s moved c.loop-edit.round c.in_default.ensures.next.0,
      walks.fresh_none p s moved c.next_of.new.round c.in_default.ensures.next.1,
    )
