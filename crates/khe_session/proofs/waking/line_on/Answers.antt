-- A line is carried out with what is held, if there is something.
use Rattle.std.proofs.Common.{◌∙◌, ◌+◌, refl, sym}
use Rattle.khe_session.proofs.WakingLaws.{full_spent, held_fits, left_rests, lined_in, none_rests, none_same, none_spent, none_starved}
use Rattle.khe_session.proofs.waking.line_on.Goals as goal

pub kept_after-requires-clause-fits : goal.kept_after-requires-clause-fits
kept_after-requires-clause-fits g c =
    held_fits g.F.Family.IsOf g.F.Family.told c.args.inst.now c.args.kept.now c.in-Some.held
    (sym c.take.ensures.value ∙ c.in-Some.is) c.requires.rests

pub returns-then-lines-eq18446744073709551615-clause-spent : goal.returns-then-lines-eq18446744073709551615-clause-spent
returns-then-lines-eq18446744073709551615-clause-spent g c = λ is. (
  full_spent c.args.inst.now c.args.solution c.args.lines.now c.args.kept.now
      c.if-lines-eq18446744073709551615.true,
  refl,
)

pub returns-in-Ok-clause-rests : goal.returns-in-Ok-clause-rests
returns-in-Ok-clause-rests g c =
    left_rests g.F.Family.IsOf g.F.Family.told c.args.inst.now c.put.new.place c.in-Ok.left c.put.ensures
    c.in-Ok.ensures.fits

pub returns-in-Ok-clause-lined : goal.returns-in-Ok-clause-lined
returns-in-Ok-clause-lined g c =
    lined_in c.args.inst.now c.args.solution c.args.lines.now (c.args.lines.now + 1) c.args.kept.now c.put.new.place
    c.in-Some.held c.in-Ok.left c.args.line.now c.kept_after.new.answer.items
    (sym c.take.ensures.value ∙ c.in-Some.is) c.put.ensures (c.in-Ok.ensures.lined c.args.lines.now refl)

pub returns-in-Err-clause-rests : goal.returns-in-Err-clause-rests
returns-in-Err-clause-rests g c =
    none_rests g.F.Family.IsOf g.F.Family.told c.args.inst.now c.take.new.self c.take.ensures.after

pub returns-in-Err-clause-starved : goal.returns-in-Err-clause-starved
returns-in-Err-clause-starved g c = λ is.
    none_starved c.args.inst.now c.args.solution c.args.lines.now c.take.new.self c.take.ensures.after

pub returns-in-None-clause-rests : goal.returns-in-None-clause-rests
returns-in-None-clause-rests g c =
    none_rests g.F.Family.IsOf g.F.Family.told c.args.inst.now c.take.new.self c.take.ensures.after

pub returns-in-None-clause-spent : goal.returns-in-None-clause-spent
returns-in-None-clause-spent g c = λ is.
    let p = c.args.inst.now in
    let none = sym c.take.ensures.value ∙ c.in-None.is in (
      none_spent p c.args.solution c.args.lines.now c.args.kept.now none,
      none_same p c.args.solution c.args.lines.now c.args.kept.now c.take.new.self none c.take.ensures.after,
    )
