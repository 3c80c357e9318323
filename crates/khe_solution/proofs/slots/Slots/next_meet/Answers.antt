use Rattle.std.proofs.Common.{List, subst}
use Rattle.khe_told.specs.declared.slots.Slot.{Slot}
use Rattle.khe_solution.specs.LiveBits.{IsNextMeet}
use Rattle.khe_solution.proofs.LiveLaws.{next_is}
use Rattle.khe_solution.proofs.slots.Slots.next_meet.Goals as goal

pub returns : goal.returns
returns c =
    subst (λ (s : List Slot). IsNextMeet s c.args.from.0 c.next_live.result) c.self.view_is
    (next_is c.self.inside.told c.self.inside.live c.args.from.0 c.next_live.result c.self.invariant.2
    c.next_live.ensures)
