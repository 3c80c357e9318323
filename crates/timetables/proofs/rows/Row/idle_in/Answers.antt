-- A bit is set exactly where the resource is busy.
use Rattle.std.proofs.Common.{◌≡◌, ◌∙◌, ℕ, Bool, ap, length}
use Rattle.khe_base.specs.IdSet.{has_member}
use Rattle.khe_base.specs.Bits.{is_set}
use Rattle.khe_base.specs.Busy.{count_below, is_idle_time}
use Rattle.timetables.specs.Counts.{is_busy}
use Rattle.timetables.proofs.rows.Row.idle_in.Goals as goal

pub returns : goal.returns
returns c =
    let set = c.args.mask.now in
    let idle = λ (busy : ℕ → Bool). count_below (is_idle_time (has_member set) busy (length set)) (length set) in
    let bits : is_set c.self.inside.busy.items ≡ is_busy c.self.inside.counts.items =
    λ i t. c.self.invariant.bits t i in
    c.idle.ensures ∙ ap (λ w. idle (is_set w)) c.as_slice.ensures.value ∙ ap idle bits
    ∙ ap (λ xs. idle (is_busy xs)) c.self.view_is
