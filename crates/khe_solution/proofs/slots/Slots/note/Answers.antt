use Rattle.std.proofs.Common.{List, subst, sym}
use Rattle.khe_told.specs.Fits.{Fits}
use Rattle.khe_told.specs.declared.slots.Slot.{Slot}
use Rattle.khe_solution.specs.FreeBits.{AreFree}
use Rattle.khe_solution.specs.LiveBits.{AreLiveBits}
use Rattle.khe_solution.specs.TaskRows.{AreKept}
use Rattle.khe_solution.proofs.FreeLaws.{free_kept}
use Rattle.khe_solution.proofs.LiveLaws.{live_kept}
use Rattle.khe_solution.proofs.slots.Slots.note.Goals as goal

pub invariant_of-self : goal.invariant_of-self
invariant_of-self c =
    let s : List Slot = c.self.inside.told in
    let fits = subst (λ (q : List Slot). Fits c.args.inst.now q c.args.change) (sym c.self.view_is) c.requires in (
      subst (λ (q : List Slot). AreFree q c.keep_free.new.words.items) (sym c.note.ensures)
          (free_kept s c.args.change c.self.inside.free.items c.keep_free.new.words.items fits.there c.self.invariant.0
          c.keep_free.ensures.length c.keep_free.ensures.bits),
      subst (λ (q : List Slot). AreKept q c.keep_tasks.new.rows) (sym c.note.ensures) c.keep_tasks.ensures,
      subst (λ (q : List Slot). AreLiveBits q c.keep_live.new.rows) (sym c.note.ensures)
          (live_kept s c.args.change c.self.inside.live c.keep_live.new.rows fits.there c.self.invariant.2
          c.keep_live.ensures.length c.keep_live.ensures.marks c.keep_live.ensures.marked c.keep_live.ensures.bits),
    )
