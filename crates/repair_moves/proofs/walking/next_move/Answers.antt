use Rattle.std.proofs.Common.{◌∷◌, ap, sym, ◌∙◌, arith, refl, slice_get}
use Rattle.std.proofs.lemmas.Option.{slice_get-get_or, slice_get_within}
use Rattle.khe_base.proofs.ListLemmas.{all-there}
use Rattle.khe_instance.specs.WellMade.{IsMonitor}
use Rattle.repair_moves.specs.Cursors.{ahead}
use Rattle.repair_moves.specs.declared.cursors.Cursor.{Cursor}
use Rattle.repair_moves.specs.declared.parts.Part.TheVariants.{TimeMoves}
use Rattle.repair_moves.proofs.WalkLaws as walks
use Rattle.repair_moves.proofs.walking.next_move.Goals as goal

pub constraint-requires : goal.constraint-requires
constraint-requires c =
    let p = c.args.inst.now in
    let m = all-there (IsMonitor p) p.monitors c.args.cursor.now.monitor.0 c.monitor-monitor.result
    c.facts.ensures.monitors.each c.monitor-monitor.ensures in
    slice_get_within p.constraints c.monitor-monitor.result.constraint m.0 m.1

pub loop-part-init : goal.loop-part-init
loop-part-init c = record {
  ahead = walks.ahead_at _ _ c.args.cursor.now c.monitor-monitor.result _ c.parts_of-parts.result.now
      c.monitor-monitor.ensures c.constraint.ensures c.parts_of-parts.ensures.parts;
  small = c.requires.cursor.item;
  same = refl;
}

pub loop-part-preserved : goal.loop-part-preserved
loop-part-preserved c = record {
  ahead = c.loop-part.invariant.ahead ∙ walks.parts_next _ _ _ _ c.parts_of-parts.result.now c.loop-part.part _
      c.loop-part.spot c.at_start-spot.result
      (slice_get-get_or c.parts_of-parts.result.now c.loop-part.part TimeMoves c.loop-part-test.true)
      c.in-None.ensures.next c.at_start-spot.ensures;
  small = let e = ap (λ s. s.item) c.at_start-spot.ensures in omega arith;
  same = c.loop-part.invariant.same;
}

pub returns-in-Some-clause-next : goal.returns-in-Some-clause-next
returns-in-Some-clause-next c =
    let same = c.loop-part.invariant.same in
    let moved : Cursor = record {
      monitor = c.loop-part.cursor.monitor;
      part = c.loop-part.part;
      spot =
          c.in-Some.found.spot;
    } in
    c.loop-part.invariant.ahead ∙ walks.parts_found _ _ _ _ c.parts_of-parts.result.now c.loop-part.part _
    c.loop-part.spot c.in-Some.found.spot c.in-Some.found.edit
    (slice_get-get_or c.parts_of-parts.result.now c.loop-part.part TimeMoves c.loop-part-test.true)
    c.in-Some.ensures.next
    ∙ ap (λ xs. c.in-Some.found.edit ∷ xs) (sym (walks.ahead_at _ _ moved c.monitor-monitor.result _
    c.parts_of-parts.result.now
    (ap (λ x. slice_get c.args.inst.now.monitors x.monitor.0) same ∙ c.monitor-monitor.ensures) c.constraint.ensures
    c.parts_of-parts.ensures.parts))

pub returns-clause-next : goal.returns-clause-next
returns-clause-next c =
    let none = c.loop-part.invariant.ahead ∙ walks.parts_none _ _ _ _ c.parts_of-parts.result.now c.loop-part.part
    c.loop-part.spot c.loop-part-test.false in
    (none, ap (ahead c.args.inst.now c.args.solution.now.slots) c.loop-part.invariant.same ∙ none)
