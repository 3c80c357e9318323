use Rattle.std.proofs.Common.{List, sym, subst, ◌∙◌}
use Rattle.xhstt_shape.specs.declared.words.Tag.TheVariants as tag
use Rattle.xhstt_writer.specs.Trees.{filled}
use Rattle.xhstt_writer.specs.Parts.{Body, row, put_all}
use Rattle.xhstt_writer.specs.Archives.{times_parts}
use Rattle.xhstt_writer.proofs.ListLemmas.{around_any, around_none}
use Rattle.xhstt_writer.proofs.instances.times.Goals as goal

pub returns : goal.returns
returns g c more t rest whole h =
    c.some_times.ensures more t rest whole (subst
    (λ (bs : List Body). g.O.Output.said c.args.out.now (filled (put_all tag.Times bs more) c.args.opened t rest)
    whole) (around_any (row (times_parts c.args.instance.now))
    (sym c.has_no_times.ensures ∙ c.if-has_no_times.false)) h)

pub returns-then-has_no_times : goal.returns-then-has_no_times
unfolding put_all
returns-then-has_no_times g c more t rest whole h =
    subst (λ (bs : List Body). g.O.Output.said c.args.out.now (filled (put_all tag.Times bs more) c.args.opened t rest)
    whole) (around_none (row (times_parts c.args.instance.now))
    (sym c.has_no_times.ensures ∙ c.if-has_no_times.true)) h
