-- The table is that of the instance.
use Rattle.std.proofs.Common.{ap, ◌≤◌, length, arith}
use Rattle.std.proofs.lemmas.Result.{IfOk-weaker}
use Rattle.std.proofs.lemmas.List.{length-map}
use Rattle.khe_base.specs.declared.limits.TheConstants.{RESOURCES}
use Rattle.xhstt_resolve.specs.Members.{first_mentions}
use Rattle.xhstt_resolve.proofs.StepsLemmas.{if_ok_same}
use Rattle.xhstt_resolve.proofs.TablesLemmas.{listed-at}
use Rattle.xhstt_resolve.proofs.points.resources_of.Goals as goal

pub returns-clause-numbers : goal.returns-clause-numbers
returns-clause-numbers c =
    if_ok_same c.first_mentions.result (ap first_mentions
    (listed-at c.args.lookup.now.tables.resources c.requires.tables.resources c.args.groups.now c.args.resources.now))
    c.first_mentions.ensures.numbers

pub returns-clause-few : goal.returns-clause-few
returns-clause-few c =
    let i = c.args.lookup.now.instance.now in
    let t = c.args.lookup.now.tables.resources in
    IfOk-weaker c.first_mentions.result (λ ns. length ns ≤ length t.names.now) (λ ns. length ns ≤ RESOURCES)
    (λ ns h. omega (
      arith,
      h,
      ap length c.requires.tables.resources.names,
      length-map i.resources (λ r. r.id.text),
      c.requires.counts.resources,
    ))
    c.first_mentions.ensures.few
