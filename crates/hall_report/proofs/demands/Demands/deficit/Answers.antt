use Rattle.hall_report.specs.Demands.{domains}
use Rattle.hall_report.proofs.Renaming.{deficit_renamed}
use Rattle.hall_report.proofs.Stated.{kept_number, kept_place, renamed}
use Rattle.hall_report.proofs.demands.Demands.deficit.Goals as goal

pub returns : goal.returns
returns c = λ p are.
    deficit_renamed (domains p c.args.self.now.told) c.args.self.now.matching
    (kept_number p c.args.self.now.told c.args.self.now.units c.args.self.now.picks c.args.self.now.matching
    c.args.self.now.cells are.told are.units are.opened are.numbered)
    (kept_place p c.args.self.now.told c.args.self.now.units c.args.self.now.picks c.args.self.now.matching
    c.args.self.now.cells are.told are.units are.opened are.numbered)
    c.deficit.result
    (renamed p c.args.self.now.told c.args.self.now.units c.args.self.now.picks c.args.self.now.matching
    c.args.self.now.cells are.told are.units are.opened are.numbered)
    c.deficit.ensures.greatest
