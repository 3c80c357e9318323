use Rattle.std.proofs.Common.{inr}
use Rattle.set_monitors.proofs.foreseeing.keep_meets.Goals as goal

pub returns-else-is_cut : goal.returns-else-is_cut
returns-else-is_cut c = λ h p m. inr (c.keep_all_meets.ensures h p m)
