use Rattle.std.proofs.Common.{List, sym, subst, ◌∙◌}
use Rattle.xhstt_shape.specs.declared.words.Tag.TheVariants as tag
use Rattle.xhstt_writer.specs.Archives as spec
use Rattle.xhstt_writer.specs.Trees.{filled}
use Rattle.xhstt_writer.specs.Parts.{Body, put_all}
use Rattle.xhstt_writer.proofs.ListLemmas.{around_some}
use Rattle.xhstt_writer.proofs.solutions.given_list.Goals as goal

pub returns : goal.returns
returns g c more t rest whole h =
    let bodies = around_some tag.Resource spec.given c.args.givens (sym c.is_empty.ensures ∙ c.if-is_empty.false) in
    c.put_givens.ensures more t rest whole (subst (λ (bs : List Body). g.O.Output.said c.args.out.now
    (filled (put_all tag.Resources bs more) c.args.opened t rest) whole) bodies h)
