-- What stands from where the line begins is all that is lent, and it is ASCII.
use Rattle.std.proofs.Common.{◌≡◌, ◌∙◌, ◌-◌, sym, subst, arith, length-drop, take_all, drop, true, List, ℕ}
use Rattle.std.specs.Str.{IsAscii}
use Rattle.std.proofs.lemmas.Str.{IsUtf8-from_ascii}
use Rattle.khe_base.specs.Text.{is_ascii}
use Rattle.evaluation_report.proofs.DemandLemmas.{task-ascii, task-is_ascii}
use Rattle.evaluation_report.proofs.demands.task_text.Goals as goal

pub from_utf8_unchecked-requires : goal.from_utf8_unchecked-requires
from_utf8_unchecked-requires c =
    let p = c.put_task-begin in
    let a = c.args in
    let rest = drop p.result p.new.room in
    let all = take_all (48 - p.result) rest (omega (arith, length-drop p.result p.new.room)) in
    IsUtf8-from_ascii _ (subst IsAscii (sym (all ∙ p.ensures.written))
    (task-ascii a.meet a.place a.offset c.ranges.meet.fits c.ranges.place.fits c.ranges.offset.fits))

pub returns-clause-ascii : goal.returns-clause-ascii
returns-clause-ascii c =
    let p = c.put_task-begin in
    let a = c.args in
    let rest = drop p.result p.new.room in
    let all = take_all (48 - p.result) rest (omega (arith, length-drop p.result p.new.room)) in
    subst (λ (xs : List ℕ). is_ascii xs ≡ true) (sym (c.from_utf8_unchecked.ensures ∙ (all ∙ p.ensures.written)))
    (task-is_ascii a.meet a.place a.offset c.ranges.meet.fits c.ranges.place.fits c.ranges.offset.fits)
