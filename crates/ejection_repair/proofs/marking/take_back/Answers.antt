use Rattle.ejection_repair.proofs.MarkLaws.{back}
use Rattle.ejection_repair.proofs.marking.take_back.Goals as goal

pub returns : goal.returns
returns g c =
    let u = c.in-Ok.ensures in
    let e = c.in-Ok-end.ensures in
    λ w inside. back w _ _ _ inside u.parts u.marked u.spare u.ok e.parts e.marked e.spare e.state e.saved
