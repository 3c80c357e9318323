-- The timetable lists the state.
use Rattle.std.proofs.Common.{◌∙◌, ap}
use Rattle.khe_io.proofs.AmidLemmas.{one-ok}
use Rattle.repair_run.specs.Placed.{respelled}
use Rattle.talk_run.proofs.SentLaws.{listed_alike}
use Rattle.talk_run.proofs.answering.respell_as.Goals as goal

pub returns : goal.returns
returns g c =
    let a = c.args.archive.now in
    let k = c.args.solution in
    let plain = c.in_ok-plain.plain in
    one-ok c.respell.result c.respell.ensures
    (λ e. e ∙ ap (λ q. respelled a k q plain) c.instance.ensures
    ∙ listed_alike a k c.args.engine.now.parts plain c.args.engine.now.state c.in_ok-plain.ensures.state)
