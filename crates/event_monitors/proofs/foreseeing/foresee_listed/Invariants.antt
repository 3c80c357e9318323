use Rattle.std.proofs.Common.{drop}
use Rattle.event_monitors.specs.Effects.{HoldAt}
use Rattle.event_monitors.proofs.foreseeing.foresee_listed.Given as goal

abbrev pub invariant-loop-place : goal.invariant-loop-place
invariant-loop-place g l = HoldAt (λ m. g.G.Gauge.Foresees l.inst m l.effects) l.posts (drop l.place-index l.list)
    → HoldAt (λ m. g.G.Gauge.Foresees l.inst m l.effects) l.posts l.list
