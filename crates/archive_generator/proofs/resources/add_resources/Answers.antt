-- A resource more.
use Rattle.std.proofs.Common.{◌++◌, ◌∙◌, ap, sym, append-nil}
use Rattle.archive_generator.specs.Resources.{resource}
use Rattle.archive_generator.proofs.ListLemmas.{below_none, one_more}
use Rattle.archive_generator.proofs.resources.add_resources.Goals as goal

pub loop-number-init : goal.loop-number-init
loop-number-init c =
    sym (append-nil c.args.list.now)
    ∙ ap (λ ys. c.args.list.now ++ ys) (sym (below_none (resource c.args.sort)))

pub loop-number-preserved : goal.loop-number-preserved
loop-number-preserved c =
    c.in_ok-push.ensures.ok
    ∙ one_more (resource c.args.sort) c.args.list.now c.loop-number.list c.loop-number.number
    c.in_ok-resource.field-0 c.loop-number.invariant c.in_ok-resource.ensures
