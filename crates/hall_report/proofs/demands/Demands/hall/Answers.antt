use Rattle.std.proofs.Common.{ℕ, ◌∙◌, ◌+◌, ◌++◌, map, ap, subst}
use Rattle.std.specs.List.{filter}
use Rattle.khe_base.specs.IdSet.{has_member}
use Rattle.demand_matching.specs.Excess.{IsDeficit}
use Rattle.hall_report.specs.Demands.{chosen, task_demands}
use Rattle.hall_report.specs.Kept.{cell_demand}
use Rattle.hall_report.specs.Listing.{is_marked}
use Rattle.hall_report.proofs.Halls.{hall_is, hall_none}
use Rattle.hall_report.proofs.demands.Demands.hall.Goals as goal

pub returns-then-deficit-eq0 : goal.returns-then-deficit-eq0
returns-then-deficit-eq0 c = λ p are.
    hall_none p c.args.self.now.told c.args.self.now.units c.args.self.now.picks c.args.self.now.matching
    c.args.self.now.cells c.args.self.now.tasks c.args.self.now.times are c.new-hall.result
    (subst (λ (n : ℕ). IsDeficit c.args.self.now.matching n) c.if-deficit-eq0.true c.deficit.ensures.greatest)
    c.new-hall.ensures

pub returns : goal.returns
returns c = λ p are.
    hall_is p c.args.self.now.told c.args.self.now.units c.args.self.now.picks c.args.self.now.matching
    c.args.self.now.cells c.args.self.now.tasks c.args.self.now.times are
    c.in_ok-marks.marks c.list.new.hall c.in_ok-marks.ensures.least
    (c.in_ok-list.ensures ∙ ap (λ xs. (xs ++ filter (is_marked c.args.self.now.units c.in_ok-marks.marks)
    (task_demands c.args.self.now.told)) ++ chosen (λ i. has_member c.in_ok-marks.marks (c.args.self.now.tasks + i))
    0 (map (cell_demand c.args.self.now.times) c.args.self.now.cells)) c.new-hall.ensures)
