-- The timetable is of the instance with the number.
use Rattle.std.proofs.Common.{inr, refl, slice_get, arith}
use Rattle.khe_base.proofs.ListLemmas.{all-there}
use Rattle.khe_instance.specs.declared.parts.Parts.{Parts}
use Rattle.xhstt_entries.specs.Texts.{HasSpellable}
use Rattle.xhstt_shape.specs.Characters.{IsSpellable}
use Rattle.archive_reading.specs.Refusals.{refusal_line}
use Rattle.archive_reading.specs.declared.refusals.Refusal.TheVariants.{NoSuchInstance}
use Rattle.khe_app.proofs.ConstructEnds.{absent_text, constructed_text, none_there}
use Rattle.khe_app.proofs.constructing.construct_in.Goals as goal

pub put_construct-requires-clause-texts : goal.put_construct-requires-clause-texts
put_construct-requires-clause-texts g c =
    all-there HasSpellable c.args.read.now.resolved.instances c.args.number c.instance_numbered-inst.result.now
    c.requires.ready.texts c.instance_numbered-inst.ensures

pub put_construct-requires-clause-id : goal.put_construct-requires-clause-id
put_construct-requires-clause-id g c =
    all-there (λ (p : Parts). IsSpellable p.id) c.args.read.now.resolved.instances c.args.number
    c.instance_numbered-inst.result.now c.requires.ready.ids c.instance_numbered-inst.ensures

pub returns-clause-written : goal.returns-clause-written
returns-clause-written g c =
    constructed_text c.args.read.now.archive c.args.read.now.resolved c.args.number c.args.chains
    c.instance_numbered-inst.result.now _ _ _ _ c.put_construct.result.0 c.instance_numbered-inst.ensures
    c.put_construct.ensures.written

pub returns-then-len-number-clause-written : goal.returns-then-len-number-clause-written
returns-then-len-number-clause-written g c =
    let line = refusal_line NoSuchInstance in
    inr (
      3,
      line,
      absent_text c.args.read.now.archive c.args.chains (slice_get c.args.read.now.resolved.instances c.args.number) 3
          line (none_there c.args.read.now.resolved.instances c.args.number (omega (arith, c.if-len-number.true, c.len.ensures)))
          (refl, refl),
      c.put_refusal.ensures.written,
    )
