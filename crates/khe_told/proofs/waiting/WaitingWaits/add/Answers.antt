use Rattle.std.proofs.Common.{◌≡◌, ◌<◌, subst, sym, ap, ◌∙◌, arith, length, get_or, false}
use Rattle.khe_told.proofs.WaitingLaws.{has_room}
use Rattle.khe_told.proofs.waiting.WaitingWaits.add.Goals as goal

pub push-requires : goal.push-requires
push-requires c =
    let flags = c.self.inside.flags.items in
    let l : c.args.monitor.0 < length flags = subst (λ v. c.args.monitor.0 < length v.flags) (sym c.self.view_is) c.requires.known in
    let e = c.if-index.false in
    let idle : get_or flags c.args.monitor.0 false ≡ false = ap (get_or flags c.args.monitor.0) (sym e) ∙ sym c.index.ensures ∙ e in
    let h = has_room c.self.inside.list.items c.args.monitor.0 flags l idle c.self.invariant.0 in
    let room = c.self.invariant.1 in
    omega (arith, h, room)
