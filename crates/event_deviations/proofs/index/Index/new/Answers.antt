use Rattle.event_deviations.proofs.Lookups.{all_within}
use Rattle.event_deviations.proofs.index.Index.new.Goals as goal

pub duties_by-requires : goal.duties_by-requires
duties_by-requires c = all_within c.args.inst.now c.args.meets.now c.args.duties.now c.facts.ensures c.requires
