use Rattle.std.proofs.Common.{◌≡◌, ap, arith, subst, sym, ◌∙◌}
use Rattle.khe_told.proofs.SlotLaws.{told_after}
use Rattle.khe_told.specs.Changes.{after_all}
use Rattle.khe_told.specs.Fits.{AllFit, AreTold}
use Rattle.khe_told.specs.Watchers.{watcher_counts}
use Rattle.khe_engine.proofs.LateLaws.{roomier}
use Rattle.khe_engine.proofs.late.LateWatcher.note_all.Goals as goal

pub returns-clause-of : goal.returns-clause-of
returns-clause-of g c =
    let p = c.args.inst.now in
    let base = g.F.Family.told c.args.self.now.listeners.families in
    let late = c.args.self.now.changes.items in
    let more = c.args.changes.now in
    let now = g.F.Family.told c.follow.new.listeners.families in
    let u = c.catch_up.ensures in
    let f = c.follow.ensures in
    let b = c.requires.of.1 in
    let there : now ≡ after_all (after_all base late) more = f.told ∙ ap (λ x. after_all x more) u.told in
    let told = told_after p (after_all base late) more (told_after p base late b.told b.fit) c.requires.fit in (
      (f.of, c.requires.of.0.1, f.values, f.idle),
      record {
        told = subst (AreTold p) (sym there) told;
        fit = subst (AllFit p now) (sym u.none) tt;
      },
      roomier p _ _ c.requires.of.2 u.room,
    )

pub returns-clause-steps : goal.returns-clause-steps
returns-clause-steps g c =
    let p = c.args.inst.now in
    let first = c.catch_up.ensures.steps in
    let then = c.follow.ensures.steps in
    let there = ap (λ x. watcher_counts p x c.args.changes.now) c.catch_up.ensures.told in
    let none = ap (watcher_counts p (g.F.Family.told c.follow.new.listeners.families)) c.catch_up.ensures.none in
    omega (arith, first, then, there, none)
