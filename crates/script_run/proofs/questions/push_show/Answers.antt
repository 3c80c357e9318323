-- At each turn the slots up to the next meet leave what is left, and the meet's lines join what waits, of which
-- something may go on.
use Rattle.std.proofs.Common.{◌+◌, ◌++◌, ◌∙◌, arith, drop, subst}
use Rattle.std.specs.List.{flat_map}
use Rattle.khe_io.specs.Amid.{IsAmid}
use Rattle.khe_io.proofs.AmidLemmas.{always-err}
use Rattle.khe_told.specs.Fits.{AreTold}
use Rattle.khe_told.specs.Slots.{slot_at}
use Rattle.khe_engine.proofs.OpeningLaws.{slots_number}
use Rattle.khe_solution.proofs.Basics.{live_there}
use Rattle.script_run.specs.Answers.{slot_text}
use Rattle.script_run.proofs.AddedLaws.{amid_added, amid_added_cut}
use Rattle.script_run.proofs.ShowLaws.{shown_next, shown_none}
use Rattle.script_run.proofs.questions.push_show.Goals as goal

pub push_slot-requires-clause-there : goal.push_slot-requires-clause-there
push_slot-requires-clause-there g c =
    let e = c.in-Some.ensures in
    live_there c.args.solution.now.slots c.in-Some.meet.0 e.1

pub overflow_add-next : goal.overflow_add-next
overflow_add-next g c =
    let s = c.args.solution.now.slots in
    let e = c.in-Some.ensures in
    let below = live_there s c.in-Some.meet.0 e.1 in
    let many = slots_number c.args.inst.now s (subst (λ p. AreTold p s) c.requires.parts c.facts-2.ensures.told) in
    let limit = c.facts.ensures.limits.duration in
    omega (arith, below, many, limit)

pub returns-in_err-push_slot-clause-front : goal.returns-in_err-push_slot-clause-front
returns-in_err-push_slot-clause-front g c =
    let p = c.args.inst.now in
    let s = c.args.solution.now.slots in
    let e = c.in-Some.ensures in
    let m = c.in-Some.meet.0 in
    let f = slot_text p in
    let before = g.G.Onward.taken c.args.onward.now in
    let now = g.G.Onward.taken c.loop-meet.onward in
    let rest = flat_map f (drop (m + 1) s) in
    let whole = c.args.text.now ++ flat_map f s in
    let left = subst (λ xs. IsAmid before now c.loop-meet.text xs whole)
    (shown_next p s c.loop-meet.next.0 m e.0 e.1 e.2) c.loop-meet.invariant.amid in
    always-err c.from_residual.result
    (amid_added_cut before now (g.G.Onward.taken c.push_slot.new.onward) c.loop-meet.text (f (slot_at s m)) rest whole
    left c.in_err-push_slot.ensures.front)

pub loop-meet-preserved : goal.loop-meet-preserved
loop-meet-preserved g c =
    let p = c.args.inst.now in
    let s = c.args.solution.now.slots in
    let e = c.in-Some.ensures in
    let m = c.in-Some.meet.0 in
    let f = slot_text p in
    let before = g.G.Onward.taken c.args.onward.now in
    let now = g.G.Onward.taken c.loop-meet.onward in
    let rest = flat_map f (drop (m + 1) s) in
    let whole = c.args.text.now ++ flat_map f s in
    let left = subst (λ xs. IsAmid before now c.loop-meet.text xs whole)
    (shown_next p s c.loop-meet.next.0 m e.0 e.1 e.2) c.loop-meet.invariant.amid in
    record {
      amid = amid_added before now (g.G.Onward.taken c.push_slot.new.onward) c.loop-meet.text (f (slot_at s m))
          c.push_slot.new.text rest whole left c.in_ok-push_slot.ensures.added;
      faultless = c.in_ok-push_slot.ensures.faultless ∙ c.loop-meet.invariant.faultless;
    }

pub loop-meet-smaller : goal.loop-meet-smaller
loop-meet-smaller g c =
    let e = c.in-Some.ensures in
    let below = live_there c.args.solution.now.slots c.in-Some.meet.0 e.1 in
    let from = e.0 in
    omega (arith, below, from)

pub returns-clause-added : goal.returns-clause-added
returns-clause-added g c =
    let s = c.args.solution.now.slots in
    let f = slot_text c.args.inst.now in
    subst (λ xs. IsAmid (g.G.Onward.taken c.args.onward.now) (g.G.Onward.taken c.loop-meet.onward) c.loop-meet.text xs
    (c.args.text.now ++ flat_map f s)) (shown_none c.args.inst.now s c.loop-meet.next.0 c.in_default.ensures)
    c.loop-meet.invariant.amid
