-- All that is listed is within the size, and groups that are listed again bring nothing new.
use Rattle.std.proofs.Common.{◌∙◌, ◌≤◌, sym, ap, subst, length}
use Rattle.std.specs.List.{fold}
use Rattle.xhstt_resolve.specs.Collected.{with_mention, no_mentions}
use Rattle.xhstt_resolve.specs.Tables.{listed_at, listed_once}
use Rattle.xhstt_resolve.proofs.MentionsLemmas.{collected_mentions, collected_few, listed_within}
use Rattle.xhstt_resolve.proofs.OnceLemmas.{mentions_once}
use Rattle.xhstt_resolve.proofs.tables.Table.first_mentions.Goals as goal

pub returns-clause-numbers : goal.returns-clause-numbers
returns-clause-numbers c =
    let t = c.args.self.now in
    let ns = listed_once t c.args.groups.now c.args.singles.now in
    let made = c.in_ok-collect.ensures
    ∙ ap (λ m. fold with_mention m ns) (c.in_ok-mentions.ensures ∙ ap no_mentions c.size.ensures)
    ∙ mentions_once t c.requires c.args.groups.now c.args.singles.now in
    ap (λ m. m.numbers) made
    ∙ collected_mentions (length t.names.now) (listed_at t c.args.groups.now c.args.singles.now)
    (listed_within t c.requires c.args.groups.now c.args.singles.now)

pub returns-clause-few : goal.returns-clause-few
returns-clause-few c =
    let t = c.args.self.now in
    let ns = listed_once t c.args.groups.now c.args.singles.now in
    let made = c.in_ok-collect.ensures
    ∙ ap (λ m. fold with_mention m ns) (c.in_ok-mentions.ensures ∙ ap no_mentions c.size.ensures)
    ∙ mentions_once t c.requires c.args.groups.now c.args.singles.now in
    subst (λ m. length m.numbers ≤ length t.names.now) (sym made)
    (collected_few (length t.names.now) (listed_at t c.args.groups.now c.args.singles.now) c.requires.small
    (listed_within t c.requires c.args.groups.now c.args.singles.now))
