use Rattle.std.proofs.Common.{◌%◌, arith, inl, inr}
use Rattle.std.proofs.lemmas.Bool.{cases_lt}
use Rattle.demand_matching.proofs.Looks.{none_free, where_none}
use Rattle.demand_matching.proofs.table.Table.free_in.Goals as goal

pub returns-then-count-eq0 : goal.returns-then-count-eq0
returns-then-count-eq0 c =
    λ s may free. none_free c.args.self.now c.args.domain 0 s c.requires.table c.requires.domain
    (omega (arith, c.count-count.ensures)) (λ j n l p. absurd (omega arith)) may free

pub returns-in-None : goal.returns-in-None
returns-in-None c =
    let start = c.args.demand % c.count-count.result in
    where_none c.free_between-in-None.result _ _ _ c.free_between-in-None.ensures
    (λ low s may free. none_free c.args.self.now c.args.domain c.count-count.result s c.requires.table c.requires.domain
    (omega (arith, c.count-count.ensures))
    (λ j n l p. elim (cases_lt j start) [
      | inl x ↦ low j n (omega arith) x p
      | inr x ↦
          c.in-None.ensures j n (omega arith) l p
    ]) may free)
