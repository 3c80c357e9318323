-- The table is that of the instance.
use Rattle.std.proofs.Common.{◌∙◌, ap, length, arith}
use Rattle.std.proofs.lemmas.List.{length-map}
use Rattle.xhstt_resolve.proofs.watching.times_in.Goals as goal

pub returns-clause-count : goal.returns-clause-count
returns-clause-count c = ap length c.members.ensures
    ∙ ap (λ f. length (f c.args.group.now.id)) c.requires.tables.times.members

pub returns-clause-small : goal.returns-clause-small
returns-clause-small c =
    let i = c.args.lookup.now.instance.now in
    let table = c.requires.tables.times in
    omega (
      arith,
      ap length c.members.ensures,
      table.table.bounded c.args.group.now.id,
      ap length table.names,
      length-map i.times (λ t. t.id.text),
      c.requires.counts.times,
    )
