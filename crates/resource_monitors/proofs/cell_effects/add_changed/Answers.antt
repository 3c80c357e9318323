-- One more post.
use Rattle.std.proofs.Common.{◌∙◌, get_or, arith}
use Rattle.std.proofs.lemmas.Option.{slice_get-get_or}
use Rattle.khe_instance.specs.declared.points.Point.TheVariants as point
use Rattle.khe_instance.specs.declared.rules.Kind.TheVariants as kind
use Rattle.resource_monitors.specs.Effects.{is_changed}
use Rattle.resource_monitors.specs.declared.posts.Post.{Post}
use Rattle.resource_monitors.proofs.WaitLaws.{added_step}
use Rattle.resource_monitors.proofs.cell_effects.add_changed.Goals as goal

abbrev no_post : Post
no_post = record {
  number = record { 0 = 0 };
  monitor =
      record { kind = kind.AssignTime; constraint = 0; point = point.Event (record { 0 = 0 }) };
}

pub add_one-requires-clause-known : goal.add_one-requires-clause-known
add_one-requires-clause-known g c =
    let l = c.requires.known _ _
    (slice_get-get_or c.args.list.now c.loop-post.post-index no_post c.loop-post-test.true) in
    let b = c.loop-post.invariant.same in
    omega (arith, l, b)

pub loop-post-preserved : goal.loop-post-preserved
loop-post-preserved g c =
    let list = c.args.list.now in
    let i = c.loop-post.post-index in
    let a : Post = get_or list i no_post in
    let there = slice_get-get_or list i no_post c.loop-post-test.true in
    record {
      same = c.add_one.ensures.monitors ∙ c.loop-post.invariant.same;
      added = added_step (λ m. is_changed m.kind c.args.busy c.args.clashes) list i a (g.W.Waits.waits c.args.waits.now)
          (g.W.Waits.waits c.loop-post.waits) (g.W.Waits.waits c.add_one.new.waits) there c.add_one.ensures.waits
          c.loop-post.invariant.added;
    }
