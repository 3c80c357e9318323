use Rattle.std.proofs.Common.{◌≡◌, ◌∷◌, [], ◌++◌, subst, arith, length, length-set, set, false}
use Rattle.khe_told.specs.Waits.{AreListedOnce}
use Rattle.khe_told.proofs.WaitingLaws.{flagged, popped, within}
use Rattle.khe_told.proofs.waiting.Waiting.pop.Goals as goal

pub index_mut-requires : goal.index_mut-requires
index_mut-requires c =
    let m = c.in_ok-monitor.monitor in
    let flags = c.self.inside.flags.items in
    let xs = c.pop.new.self.items in
    let listed : AreListedOnce (xs ++ m ∷ []) flags = subst (λ ys. AreListedOnce ys flags) c.in_ok-monitor.ensures.items c.self.invariant.0 in
    let l = within flags m.0 (flagged xs m flags listed) in
    let v = c.self.inside.flags.ok.0 in
    omega (arith, l, v)

pub invariant_of-self-2 : goal.invariant_of-self-2
invariant_of-self-2 c =
    let m = c.in_ok-monitor.monitor in
    let flags = c.self.inside.flags.items in
    let xs = c.pop.new.self.items in
    let listed : AreListedOnce (xs ++ m ∷ []) flags = subst (λ ys. AreListedOnce ys flags) c.in_ok-monitor.ensures.items c.self.invariant.0 in
    let l : length (set flags m.0 false) ≡ length flags = length-set flags m.0 false in
    let room = c.self.invariant.1 in
    let same = c.in_ok-monitor.ensures.capacity in
    (popped xs m flags listed, omega (arith, l, room, same))
