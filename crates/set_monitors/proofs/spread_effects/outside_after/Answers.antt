use Rattle.std.proofs.Common.{◌≡◌, ◌≤◌, ◌<◌, ◌∙◌, Some, get_or, slice_get, length, sym, ap}
use Rattle.std.proofs.Common.{arith}
use Rattle.std.proofs.lemmas.List.{drop_all, take_all}
use Rattle.std.proofs.lemmas.Option.{slice_get-get_or}
use Rattle.set_monitors.specs.SpreadEvents.{counted_then, spread_by}
use Rattle.set_monitors.proofs.SpreadLaws.{follows_next}
use Rattle.set_monitors.proofs.spread_effects.outside_after.Goals as goal

pub loop-i-preserved : goal.loop-i-preserved
loop-i-preserved c =
    let ss = c.args.spreads.now in
    let ns = c.args.counts.now in
    let i = c.loop-i.i in
    let here = c.loop-i-test.true in
    let q = c.index-spreads-i.result in
    let n = get_or ns i 0 in
    let l : i < length ns = omega (arith, here, c.requires.amount) in
    let at : slice_get ss i ≡ Some q = slice_get-get_or ss i q here ∙ ap Some (sym c.index-spreads-i.is) in
    let there : slice_get ns i ≡ Some n = slice_get-get_or ns i 0 l in
    let a = c.args.shifts.first in
    let b = c.args.shifts.second in
    let so = c.loop-i.invariant in
    let one = c.with_one-total.ensures in
    record {
      follows = λ f are whole. follows_next (λ g k. counted_then (counted_then k g a.before a.after) g b.before b.after)
          ss ns f c.loop-i.total c.with_one-total.result i q n at there are one.outside (so.follows f are whole);
      bound = let x = so.bound in let y = one.bound in omega (arith, x, y);
    }

pub with_one-total-requires-clause-small : goal.with_one-total-requires-clause-small
with_one-total-requires-clause-small c =
    let a = c.loop-i.invariant.bound in
    let b = c.loop-i-test.true in
    let d = c.requires.listed in
    omega (arith, a, b, d)

pub returns : goal.returns
returns c = λ f are whole.
    let ss = c.args.spreads.now in
    let a = c.args.shifts.first in
    let b = c.args.shifts.second in
    let test = c.loop-i-test.false in
    let end : length ss ≤ c.loop-i.i = omega (arith, test) in
    let is = c.loop-i.invariant.follows f are whole in
    let t = ap (spread_by (λ g. counted_then (counted_then (f g) g a.before a.after) g b.before b.after))
    (take_all c.loop-i.i ss end) in
    let d = ap (spread_by f) (drop_all c.loop-i.i ss end) in
    omega (arith, is, t, d)
