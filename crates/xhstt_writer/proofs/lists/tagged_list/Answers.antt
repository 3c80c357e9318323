use Rattle.std.proofs.Common.{List, [], ◌∷◌, ap, sym, subst, ◌∙◌}
use Rattle.xhstt_writer.specs.Trees.{filled}
use Rattle.xhstt_writer.specs.Parts.{Body, element, put_all, each}
use Rattle.xhstt_writer.proofs.ListLemmas.{around_each, around_empty}
use Rattle.xhstt_writer.proofs.lists.tagged_list.Goals as goal

pub returns : goal.returns
returns g c more t rest whole h =
    let named = g.T.Tagged.own_tag in
    let body = g.T.Write.body in
    let bodies = around_each named body c.args.list.now (sym c.is_empty.ensures ∙ c.if-is_empty.false)
    ∙ ap (λ xs. element [] (each named body xs) ∷ []) (sym c.as_slice.ensures) in
    c.put_tagged.ensures more t rest whole (subst
    (λ (bs : List Body). g.O.Output.said c.args.out.now (filled (put_all c.args.outer bs more) c.args.opened t rest)
    whole) bodies h)

pub returns-then-is_empty : goal.returns-then-is_empty
unfolding put_all
returns-then-is_empty g c more t rest whole h =
    subst (λ (bs : List Body). g.O.Output.said c.args.out.now
    (filled (put_all c.args.outer bs more) c.args.opened t rest) whole)
    (around_empty g.T.Tagged.own_tag g.T.Write.body c.args.list.now (sym c.is_empty.ensures ∙ c.if-is_empty.true)) h
