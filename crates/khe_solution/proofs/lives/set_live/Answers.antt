use Rattle.std.proofs.Common.{◌≡◌, ◌≤◌, length, ap, ◌∙◌, arith}
use Rattle.std.specs.Prelude.{is_some}
use Rattle.khe_told.specs.Slots.{is_live, slot_at}
use Rattle.khe_solution.specs.declared.lives.LiveRows.{LiveRows}
use Rattle.khe_solution.proofs.LiveLaws.{live_all, live_more, rows_kept}
use Rattle.khe_solution.proofs.lives.set_live.Goals as goal

pub loop-slot-preserved : goal.loop-slot-preserved
loop-slot-preserved c =
    let s = c.args.told.now in
    let n = c.loop-slot.slot in
    let b = c.is_some-is_live.result in
    let u : LiveRows = record { words = c.put_bit.new.words; marks = c.put_bit.new.marks } in
    let live : b ≡ is_live (slot_at s n) = c.is_some-is_live.ensures ∙ ap is_some c.span.ensures in
    record {
      rows = rows_kept (length s) c.loop-slot.rows u c.loop-slot.invariant.rows c.put_bit.ensures.length
          c.put_bit.ensures.marks c.put_bit.ensures.marked;
      bits = live_more s n b c.loop-slot.rows u c.loop-slot.invariant.bits live c.put_bit.ensures.bits;
    }

pub returns : goal.returns
returns c =
    let s = c.args.told.now in
    let n = c.loop-slot.slot in
    let ended : length s ≤ n = let a = c.loop-slot-test.false in let b = c.len-slot-end.ensures in omega (arith, a, b) in
    live_all s n c.loop-slot.rows c.loop-slot.invariant.bits ended c.loop-slot.invariant.rows
