use Rattle.std.proofs.Common.{◌∙◌}
use Rattle.khe_solution.proofs.SpotLaws.{put_more}
use Rattle.khe_solution.proofs.tasks.put_meet.Goals as goal

pub loop-place-preserved : goal.loop-place-preserved
loop-place-preserved c =
    let i = c.loop-place.invariant in
    record {
      rows = c.put.ensures.rows;
      stride = c.put.ensures.stride ∙ i.stride;
      put = put_more c.args.rows.now c.loop-place.rows c.put.new.rows c.args.first c.loop-place.place c.args.given.now
          c.args.is_in i.stride i.put c.put.ensures.put;
    }
