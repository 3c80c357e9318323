use Rattle.std.proofs.Common.{◌≡◌, ◌-◌, ◌∙◌, map, sym, subst, arith}
use Rattle.khe_told.specs.Effects.{turned_all}
use Rattle.set_monitors.specs.AvoidSplitAssignments.{AreHeld, AreWithin, held, holders}
use Rattle.set_monitors.specs.AvoidSplitAssignments.{shared_exact}
use Rattle.set_monitors.specs.Handings.{IsHandedOf}
use Rattle.set_monitors.proofs.ForeseenLaws.{told_after, told_first}
use Rattle.set_monitors.proofs.HandingLaws.{holders_handed, shared_of_state}
use Rattle.set_monitors.proofs.HolderLaws.{held_few, holders_few}
use Rattle.set_monitors.proofs.HolderTurns.{held_within, listed_within}
use Rattle.set_monitors.proofs.avoid_split_assignments.HoldersGauge.value_after.Goals as goal

pub above_after-above-requires-clause-first : goal.above_after-above-requires-clause-first
above_after-above-requires-clause-first c = subst (λ xs. IsHandedOf xs c.handings_of-handings.result.first)
    (sym c.as_slice-candidates.ensures)
    (c.handings_of-handings.ensures.first c.args.told.now c.args.self.now.candidates c.args.self.now.counts.items
    c.args.self.now.above c.requires.keeps.0 c.requires.turns)

pub above_after-above-requires-clause-second : goal.above_after-above-requires-clause-second
above_after-above-requires-clause-second c = subst (λ xs. IsHandedOf xs c.handings_of-handings.result.second)
    (sym c.as_slice-candidates.ensures)
    (c.handings_of-handings.ensures.second c.args.told.now c.args.self.now.candidates c.args.self.now.counts.items
    c.args.self.now.above c.requires.keeps.0 c.requires.turns)

pub above_after-above-requires-clause-within : goal.above_after-above-requires-clause-within
above_after-above-requires-clause-within c =
    let p = c.args.inst.now in
    let s = c.args.told.now in
    let kept = c.requires.keeps.0 in
    subst AreWithin (sym c.as_slice-2.ensures.value)
    (held_within (held p c.args.monitor s) c.args.self.now.candidates c.args.self.now.counts.items kept.amount
    kept.counts (λ q. held_few p c.args.monitor s q c.facts.ensures
    (told_first p s c.args.effects.now c.requires.turns).whose))

pub above_after-above-requires-clause-small : goal.above_after-above-requires-clause-small
above_after-above-requires-clause-small c =
    let a = holders_few c.args.inst.now (held c.args.inst.now c.args.monitor c.args.told.now) c.facts.ensures in
    let b = c.requires.keeps.0.above in
    omega (arith, a, b)

-- how many resources have a task then
above_is : (c : goal.After-from) → c.above_after-above.result
    ≡ holders c.args.inst.now (held c.args.inst.now c.args.monitor (turned_all c.args.told.now c.args.effects.now))
above_is c =
    let p = c.args.inst.now in
    let m = c.args.monitor in
    let s = c.args.told.now in
    let ts = c.args.effects.now in
    let g = c.args.self.now in
    let kept = c.requires.keeps.0 in
    let hs = c.handings_of-handings.result in
    let handed = c.handings_of-handings.ensures.handed s c.requires.turns in
    let mid = handed.0 in
    let first = c.handings_of-handings.ensures.first s g.candidates g.counts.items g.above kept c.requires.turns in
    let second = c.handings_of-handings.ensures.second s g.candidates g.counts.items g.above kept c.requires.turns in
    let within = listed_within p m s g.candidates g.counts.items g.above kept in
    let a = holders_handed p (held p m s) mid hs.first handed.1 (within hs.first.before first.0)
    (within hs.first.after first.1) in
    let b = holders_handed p mid (held p m (turned_all s ts)) hs.second handed.2 (within hs.second.before second.0)
    (within hs.second.after second.1) in
    let is = c.above_after-above.ensures (held p m s) mid
    (subst (λ xs. AreHeld (held p m s) xs c.as_slice-2.result.now) (sym c.as_slice-candidates.ensures)
    (subst (λ ns. AreHeld (held p m s) g.candidates ns) (sym c.as_slice-2.ensures.value) kept.counts)) handed.1 in
    let d = kept.above in
    omega (arith, a, b, is, d)

pub returns-clause-value : goal.returns-clause-value
returns-clause-value c =
    let p = c.args.inst.now in
    let m = c.args.monitor in
    let s = c.args.told.now in
    let s2 = turned_all s c.args.effects.now in
    let g = c.args.self.now in
    shared_exact p m s2 g.candidates (map (held p m s2) g.candidates) c.above_after-above.result
    (shared_of_state p m s s2 g.candidates g.counts.items g.above c.above_after-above.result
    (told_after p s c.args.effects.now c.requires.turns) (above_is c) c.requires.keeps.0)
    ∙ sym (c.from.ensures ∙ c.saturating_sub.ensures)
