use Rattle.std.proofs.Common.{refl}
use Rattle.std.specs.Vec.{with_item}
use Rattle.std.specs.Prelude.{Some}
use Rattle.demand_matching.proofs.Changes.{put_table}
use Rattle.demand_matching.proofs.table.Table.put_domain.Goals as goal

pub returns-clause-table : goal.returns-clause-table
returns-clause-table c = put_table c.args.self.now
    (with_item c.args.self.now.demands c.args.demand (Some c.args.domain)) c.args.demand c.args.domain c.requires.table
    c.requires.demand c.requires.supply c.requires.domain refl
