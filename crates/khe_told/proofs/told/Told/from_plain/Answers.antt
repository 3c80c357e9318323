-- The slots list the state, so they are told.
use Rattle.std.proofs.Common.{sym}
use Rattle.khe_instance.specs.States.{IsTold}
use Rattle.khe_told.proofs.PlainLaws.{told_listed}
use Rattle.khe_told.proofs.ValidLaws.{subst2}
use Rattle.khe_told.specs.Stored.{slots_in}
use Rattle.khe_told.proofs.told.Told.from_plain.Goals as goal

pub returns-clause-told : goal.returns-clause-told
returns-clause-told c =
    let h = c.put_all.ensures.filled in
    told_listed c.args.inst.now (slots_in 0 c.put_all.new.rows.items c.put_all.new.given.items)
    c.facts.ensures.first_meets h.whose h.bare
    (subst2 (IsTold c.args.inst.now) (sym h.meets) (sym h.tasks) c.requires)
