use Rattle.std.proofs.Common.{ℕ, ◌-◌, true, false, sym, ap, ◌∙◌, refl, arith, List, subst}
use Rattle.ejection_repair.specs.Chains.{Chain, tried, further_at, extensions}
use Rattle.ejection_repair.specs.Looks.{found, chain_at, look, Looks}
use Rattle.ejection_repair.proofs.LookLaws as looks
use Rattle.ejection_repair.proofs.SearchLaws as search
use Rattle.ejection_repair.proofs.searching.+search.Goals as goal

pub attempt-returns-then-left-eq0-clause-looks : goal.attempt-returns-then-left-eq0-clause-looks
attempt-returns-then-left-eq0-clause-looks g t c =
    (search.onward_none _ _ _ _ _ _ _ c.if-left-eq0.true, refl, refl, c.if-left-eq0.true)

pub attempt-returns-then-are_lower-clause-looks : goal.attempt-returns-then-are_lower-clause-looks
attempt-returns-then-are_lower-clause-looks g t c =
    let w = c.args.engine.now in let v = c.make.new.engine in
    let chain = search.chain_of w v c.args.trail.now c.longer-further.result c.args.edit c.solution.result.now.slots
    c.solution.ensures.slots c.longer-further.ensures.moved c.make.ensures.state in
    let low = search.lower_of v.parts v.state c.args.aim.now.lowest c.totals_of.result c.are_lower.result true
    c.totals_of.ensures c.are_lower.ensures c.if-are_lower.true in
    search.onward_lower w v c.args.trail.now c.longer-further.result c.args.edit c.args.aim.now.diversifier c.args.more
    c.args.left.now c.args.aim.now.lowest c.make.ensures.inside chain (omega arith) low
    ∙ ap (λ s. found s (c.args.left.now - 1)) (sym c.keep.ensures.state)

pub attempt-returns-then-are_lower-clause-kept : goal.attempt-returns-then-are_lower-clause-kept
attempt-returns-then-are_lower-clause-kept g t c =
    let k = c.keep.ensures in
    search.kept_inside c.args.engine.now c.make.new.engine c.make.new.engine c.keep.new.engine c.make.ensures.inside
    (search.kept_itself c.make.new.engine) k.parts k.marked k.saved

pub attempt-returns-in-Through-clause-looks : goal.attempt-returns-in-Through-clause-looks
attempt-returns-in-Through-clause-looks g t c =
    let w = c.args.engine.now in let v = c.make.new.engine in let u = c.go_on.new.engine in
    let chain = search.chain_of w v c.args.trail.now c.longer-further.result c.args.edit c.solution.result.now.slots
    c.solution.ensures.slots c.longer-further.ensures.moved c.make.ensures.state in
    let low = search.lower_of v.parts v.state c.args.aim.now.lowest c.totals_of.result c.are_lower.result false
    c.totals_of.ensures c.are_lower.ensures c.if-are_lower.false in
    let e = c.in-Through.ensures in
    let back = c.take_back.ensures w (search.inside_kept w v u c.make.ensures.inside e.kept e.room e.looks.2) in (
      search.onward_further w v c.args.trail.now c.longer-further.result c.args.edit c.args.aim.now.diversifier
          c.args.more c.args.left.now c.args.aim.now.lowest c.make.ensures.inside chain (omega arith) low
          ∙ e.looks.0,
      back.state,
      back.saved,
    )

pub attempt-returns-in-Found-clause-looks : goal.attempt-returns-in-Found-clause-looks
attempt-returns-in-Found-clause-looks g t c =
    let w = c.args.engine.now in let v = c.make.new.engine in
    let chain = search.chain_of w v c.args.trail.now c.longer-further.result c.args.edit c.solution.result.now.slots
    c.solution.ensures.slots c.longer-further.ensures.moved c.make.ensures.state in
    let low = search.lower_of v.parts v.state c.args.aim.now.lowest c.totals_of.result c.are_lower.result false
    c.totals_of.ensures c.are_lower.ensures c.if-are_lower.false in
    search.onward_further w v c.args.trail.now c.longer-further.result c.args.edit c.args.aim.now.diversifier
    c.args.more c.args.left.now c.args.aim.now.lowest c.make.ensures.inside chain (omega arith) low
    ∙ c.in-Found.ensures.looks ∙ ap (λ s. found s c.go_on.new.left) (sym c.keep-in-Found.ensures.state)

pub attempt-returns-in-Found-clause-kept : goal.attempt-returns-in-Found-clause-kept
attempt-returns-in-Found-clause-kept g t c =
    let k = c.keep-in-Found.ensures in
    search.kept_inside c.args.engine.now c.make.new.engine c.go_on.new.engine c.keep-in-Found.new.engine
    c.make.ensures.inside c.in-Found.ensures.kept k.parts k.marked k.saved

pub attempt-returns-in-Spent-clause-looks : goal.attempt-returns-in-Spent-clause-looks
attempt-returns-in-Spent-clause-looks g t c =
    let w = c.args.engine.now in let v = c.make.new.engine in let u = c.go_on.new.engine in
    let chain = search.chain_of w v c.args.trail.now c.longer-further.result c.args.edit c.solution.result.now.slots
    c.solution.ensures.slots c.longer-further.ensures.moved c.make.ensures.state in
    let low = search.lower_of v.parts v.state c.args.aim.now.lowest c.totals_of.result c.are_lower.result false
    c.totals_of.ensures c.are_lower.ensures c.if-are_lower.false in
    let e = c.in-Spent.ensures in
    let back = c.take_back-in-Spent.ensures w (search.inside_kept w v u c.make.ensures.inside e.kept e.room
    e.looks.2) in (
      search.onward_further w v c.args.trail.now c.longer-further.result c.args.edit c.args.aim.now.diversifier
          c.args.more c.args.left.now c.args.aim.now.lowest c.make.ensures.inside chain (omega arith) low
          ∙ e.looks.0,
      back.state,
      back.saved,
      e.looks.3,
    )

pub extend-returns-then-more-eq0-clause-looks : goal.extend-returns-then-more-eq0-clause-looks
extend-returns-then-more-eq0-clause-looks g t c =
    let E = c.args.engine.now in (
      looks.look_nothing _ _ _ _
          (ap (λ k. extensions E.parts E.marked c.args.aim.now.diversifier k (chain_at c.args.trail.now E)
          c.args.monitor.0) c.if-more-eq0.true
          ∙ search.extensions_none E.parts E.marked c.args.aim.now.diversifier (chain_at c.args.trail.now E)
          c.args.monitor.0),
      refl,
      refl,
    )

pub extend-returns-then-more-eq1-clause-looks : goal.extend-returns-then-more-eq1-clause-looks
extend-returns-then-more-eq1-clause-looks g t c =
    let E = c.args.engine.now in
    let chain = chain_at c.args.trail.now E in
    let P : ℕ → Type 0 = λ k. Looks c.extend_last.result (look E.parts c.args.aim.now.lowest c.args.left.now
    (extensions E.parts E.marked c.args.aim.now.diversifier k chain c.args.monitor.0)) E c.extend_last.new.engine
    c.extend_last.new.left in
    subst P (sym c.if-more-eq1.true) c.extend_last.ensures.looks

pub extend-loop-edit-init : goal.extend-loop-edit-init
extend-loop-edit-init g t c =
    let E = c.args.engine.now in
    let chain = chain_at c.args.trail.now E in
    let v = c.args.aim.now.diversifier in
    let k = c.args.more in
    let r = c.moves_from-round.ensures in
    let begun = search.begun_ahead _ E.parts _ E.state.slots c.moves_from-round.result v c.args.monitor.0
    c.instance-inst.ensures c.solution.ensures.slots r.ahead in
    record {
      back = search.back_itself E;
      inst = c.instance-inst.ensures;
      more = omega arith;
      round = search.round_of _ E.parts _ c.instance-inst.ensures r.round;
      looks = ap (look E.parts c.args.aim.now.lowest c.args.left.now)
          (ap (tried (further_at E.parts E.marked v (k - 1)) chain) begun
          ∙ sym (search.extensions_more E.parts E.marked v k chain c.args.monitor.0 (omega arith)));
    }

pub extend-loop-edit-preserved-in-Through : goal.extend-loop-edit-preserved-in-Through
extend-loop-edit-preserved-in-Through g t c =
    let E = c.args.engine.now in let v = c.loop-edit.engine in let i = c.loop-edit.invariant in let e =
    c.in-Through.ensures in
    let trail = c.args.trail.now in
    let next = search.next_back E v _ _ c.in-Some.edit _ _ i.inst c.solution-in-loop-edit.ensures.slots i.back
    c.in-Some.ensures.next in
    let fresh = search.fresh_back v trail c.in-Some.edit true _ _ c.solution-in-Some.ensures.slots c.is_fresh.ensures
    c.if-is_fresh.true in
    record {
      back = search.back_again E v c.attempt.new.engine i.back e.kept e.room e.looks.1 e.looks.2;
      inst = i.inst;
      more = i.more;
      round = search.round_of _ E.parts _ i.inst c.in-Some.ensures.round;
      looks = sym (search.loop_through E v trail c.in-Some.edit _ _ c.args.aim.now.diversifier (c.args.more - 1)
          c.loop-edit.left c.attempt.new.left c.args.aim.now.lowest i.back next fresh e.looks.0) ∙ i.looks;
    }

pub extend-loop-edit-preserved : goal.extend-loop-edit-preserved
extend-loop-edit-preserved g t c =
    let E = c.args.engine.now in let v = c.loop-edit.engine in let i = c.loop-edit.invariant in
    let trail = c.args.trail.now in
    let next = search.next_back E v _ _ c.in-Some.edit _ _ i.inst c.solution-in-loop-edit.ensures.slots i.back
    c.in-Some.ensures.next in
    let stale = search.fresh_back v trail c.in-Some.edit false _ _ c.solution-in-Some.ensures.slots c.is_fresh.ensures
    c.if-is_fresh.false in
    record {
      back = i.back;
      inst = i.inst;
      more = i.more;
      round = search.round_of _ E.parts _ i.inst c.in-Some.ensures.round;
      looks = sym (search.loop_stale E v trail c.in-Some.edit _ _ c.args.aim.now.diversifier (c.args.more - 1)
          c.loop-edit.left c.args.aim.now.lowest i.back next stale) ∙ i.looks;
    }

pub extend-returns-in-Found-clause-looks : goal.extend-returns-in-Found-clause-looks
extend-returns-in-Found-clause-looks g t c =
    let E = c.args.engine.now in let v = c.loop-edit.engine in let i = c.loop-edit.invariant in
    let trail = c.args.trail.now in
    let next = search.next_back E v _ _ c.in-Some.edit _ _ i.inst c.solution-in-loop-edit.ensures.slots i.back
    c.in-Some.ensures.next in
    let fresh = search.fresh_back v trail c.in-Some.edit true _ _ c.solution-in-Some.ensures.slots c.is_fresh.ensures
    c.if-is_fresh.true in
    sym i.looks ∙ search.loop_found E v trail c.in-Some.edit _ _ c.args.aim.now.diversifier (c.args.more - 1)
    c.loop-edit.left _ _ c.args.aim.now.lowest i.back next fresh c.in-Found.ensures.looks

pub extend-returns-in-Spent-clause-looks : goal.extend-returns-in-Spent-clause-looks
extend-returns-in-Spent-clause-looks g t c =
    let E = c.args.engine.now in let v = c.loop-edit.engine in let i = c.loop-edit.invariant in let e =
    c.in-Spent.ensures.looks in
    let trail = c.args.trail.now in
    let next = search.next_back E v _ _ c.in-Some.edit _ _ i.inst c.solution-in-loop-edit.ensures.slots i.back
    c.in-Some.ensures.next in
    let fresh = search.fresh_back v trail c.in-Some.edit true _ _ c.solution-in-Some.ensures.slots c.is_fresh.ensures
    c.if-is_fresh.true in (
      sym i.looks ∙ search.loop_spent E v trail c.in-Some.edit _ _ c.args.aim.now.diversifier (c.args.more - 1)
          c.loop-edit.left c.args.aim.now.lowest i.back next fresh e.0,
      e.1 ∙ i.back.state,
      e.2 ∙ i.back.saved,
      e.3,
    )

pub extend-returns-clause-looks : goal.extend-returns-clause-looks
extend-returns-clause-looks g t c =
    let E = c.args.engine.now in let i = c.loop-edit.invariant in let trail = c.args.trail.now in
    let none = search.none_back E c.loop-edit.engine c.loop-edit.round _ _ i.inst c.solution-in-loop-edit.ensures.slots
    i.back c.in_default.ensures.next.0 in (
      sym i.looks ∙ search.loop_done E trail _ c.args.aim.now.diversifier (c.args.more - 1) c.loop-edit.left
          c.args.aim.now.lowest none,
      i.back.state,
      i.back.saved,
    )

pub go_on-returns-in-None-clause-looks : goal.go_on-returns-in-None-clause-looks
go_on-returns-in-None-clause-looks g t c =
    let E = c.args.engine.now in let chain = chain_at c.args.trail.now E in (
      looks.look_nothing _ _ _ _ (search.further_none E.parts E.marked c.args.aim.now.diversifier c.args.more chain
          (search.no_number _ _ c.only_dearer.ensures.only c.in-None.is)),
      refl,
      refl,
    )

pub go_on-returns-in-Some-clause-looks : goal.go_on-returns-in-Some-clause-looks
go_on-returns-in-Some-clause-looks g t c =
    let E = c.args.engine.now in let chain = chain_at c.args.trail.now E in
    let e = search.further_some E.parts E.marked c.args.aim.now.diversifier c.args.more chain c.in-Some.monitor.0
    (search.a_number _ _ _ c.only_dearer.ensures.only c.in-Some.is) in
    let P : List Chain → Type 0 = λ xs. Looks c.extend.result (look E.parts c.args.aim.now.lowest c.args.left.now xs) E
    c.extend.new.engine c.extend.new.left in
    subst P (sym e) c.extend.ensures.looks

pub attempt-returns-in-Through-clause-kept : goal.attempt-returns-in-Through-clause-kept
attempt-returns-in-Through-clause-kept g t c =
    let w = c.args.engine.now in let e = c.in-Through.ensures in
    search.back_kept w c.take_back.new.engine (c.take_back.ensures w
    (search.inside_kept w c.make.new.engine c.go_on.new.engine c.make.ensures.inside e.kept e.room e.looks.2))

pub attempt-returns-in-Spent-clause-kept : goal.attempt-returns-in-Spent-clause-kept
attempt-returns-in-Spent-clause-kept g t c =
    let w = c.args.engine.now in let e = c.in-Spent.ensures in
    search.back_kept w c.take_back-in-Spent.new.engine
    (c.take_back-in-Spent.ensures w (search.inside_kept w c.make.new.engine c.go_on.new.engine c.make.ensures.inside
    e.kept e.room e.looks.2))
