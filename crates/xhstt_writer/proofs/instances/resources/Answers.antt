use Rattle.std.proofs.Common.{List, sym, subst, ◌∙◌}
use Rattle.xhstt_shape.specs.declared.words.Tag.TheVariants as tag
use Rattle.xhstt_writer.specs.Trees.{filled}
use Rattle.xhstt_writer.specs.Parts.{Body, row, put_all}
use Rattle.xhstt_writer.specs.Archives.{resources_parts}
use Rattle.xhstt_writer.proofs.ListLemmas.{around_any, around_none}
use Rattle.xhstt_writer.proofs.instances.resources.Goals as goal

pub returns : goal.returns
returns g c more t rest whole h =
    c.some_resources.ensures more t rest whole (subst
    (λ (bs : List Body). g.O.Output.said c.args.out.now
    (filled (put_all tag.Resources bs more) c.args.opened t rest) whole)
    (around_any (row (resources_parts c.args.instance.now))
    (sym c.has_no_resources.ensures ∙ c.if-has_no_resources.false)) h)

pub returns-then-has_no_resources : goal.returns-then-has_no_resources
unfolding put_all
returns-then-has_no_resources g c more t rest whole h =
    subst (λ (bs : List Body). g.O.Output.said c.args.out.now
    (filled (put_all tag.Resources bs more) c.args.opened t rest) whole)
    (around_none (row (resources_parts c.args.instance.now))
    (sym c.has_no_resources.ensures ∙ c.if-has_no_resources.true)) h
