-- One more post, from the end on.
use Rattle.std.proofs.Common.{ℕ, ◌≡◌, ◌<◌, ◌≤◌, ◌+◌, ◌-◌, ◌∙◌, Bool, Some, List, length, get_or, slice_get, subst, arith}
use Rattle.std.proofs.lemmas.Option.{slice_get-get_or, slice_get_within}
use Rattle.khe_instance.proofs.MadeLemmas.{monitor_made}
use Rattle.khe_instance.specs.declared.points.Monitor.{Monitor}
use Rattle.khe_instance.specs.declared.points.Point.TheVariants as point
use Rattle.khe_instance.specs.declared.rules.Kind.TheVariants as kind
use Rattle.resource_monitors.specs.Cells.{is_due_if}
use Rattle.resource_monitors.specs.declared.posts.Post.{Post}
use Rattle.resource_monitors.proofs.WaitLaws.{AreAddedFrom, added_step_down}
use Rattle.resource_monitors.proofs.cell_waits.add_due.Goals as goal

abbrev no_post : Post
no_post = record {
  number = record { 0 = 0 };
  monitor =
      record { kind = kind.AssignTime; constraint = 0; point = point.Event (record { 0 = 0 }) };
}

-- the post that comes next
next_there : (list : List Post) (place : ℕ) → 0 < place → place ≤ length list
    → slice_get list (place - 1) ≡ Some (get_or list (place - 1) no_post)
next_there list place l w = slice_get-get_or list (place - 1) no_post (omega arith)

pub add_one-requires-clause-monitor : goal.add_one-requires-clause-monitor
add_one-requires-clause-monitor g c = monitor_made c.args.inst.now c.facts.ensures _ _
    (c.requires.posts _ _ (next_there c.args.list.now c.loop-place.place c.loop-place-test.true
    c.loop-place.invariant.within))

pub add_one-requires-clause-known : goal.add_one-requires-clause-known
add_one-requires-clause-known g c =
    let x = slice_get_within c.args.inst.now.monitors _ _
    (c.requires.posts _ _ (next_there c.args.list.now c.loop-place.place c.loop-place-test.true
    c.loop-place.invariant.within)) in
    let b = c.loop-place.invariant.same in
    let d = c.requires.monitors in
    omega (arith, x, b, d)

pub loop-place-preserved : goal.loop-place-preserved
loop-place-preserved g c =
    let p = c.args.inst.now in
    let list = c.args.list.now in
    let i : ℕ = c.loop-place.place - 1 in
    let a : Post = get_or list i no_post in
    let there = next_there list c.loop-place.place c.loop-place-test.true c.loop-place.invariant.within in
    let due : Monitor → Bool = is_due_if p c.args.start c.args.end c.args.low in
    let old = g.W.Waits.waits c.args.waits.now in
    let mid = g.W.Waits.waits c.loop-place.waits in
    let before : AreAddedFrom due list (i + 1) old mid =
    subst (λ (n : ℕ). AreAddedFrom due list n old mid)
    (let l = c.loop-place-test.true in omega (arith, l)) c.loop-place.invariant.added in
    record {
      within = let w = c.loop-place.invariant.within in omega (arith, w);
      same = c.add_one.ensures.monitors ∙ c.loop-place.invariant.same;
      added = added_step_down due list i a old mid (g.W.Waits.waits c.add_one.new.waits) there
          c.add_one.ensures.waits before;
    }
