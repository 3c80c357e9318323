-- All that is named is within the names.
use Rattle.std.proofs.Common.{◌∙◌, ap, length}
use Rattle.std.specs.List.{fold}
use Rattle.xhstt_resolve.specs.Collected.{with_mention, no_mentions}
use Rattle.xhstt_resolve.specs.Members.{numbers_of}
use Rattle.xhstt_resolve.proofs.MentionsLemmas.{collected_mentions, numbers_within}
use Rattle.xhstt_resolve.proofs.tables.first_named.Goals as goal

pub returns : goal.returns
returns c =
    let ids = c.args.names.now in
    let ns = numbers_of ids c.args.references.now in
    ap (λ m. m.numbers) c.in_ok-collect_named.ensures
    ∙ ap (λ m. (fold with_mention m ns).numbers) (c.in_ok-mentions.ensures ∙ ap no_mentions c.len.ensures.len)
    ∙ collected_mentions (length ids) ns (numbers_within ids c.args.references.now)
