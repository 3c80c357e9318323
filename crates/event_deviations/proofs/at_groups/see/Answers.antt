use Rattle.std.proofs.Common.{◌∙◌, sym, ap, subst, ◌<◌, None, IfSome, length}
use Rattle.std.proofs.lemmas.List.{length-set}
use Rattle.khe_instance.specs.declared.states.Duty.{Duty}
use Rattle.event_deviations.proofs.GroupLemmas.{see-some, see-none}
use Rattle.event_deviations.proofs.at_groups.see.Goals.{in-Some, in_default}
use Rattle.event_deviations.proofs.at_groups.see.Goals as goal

pub loop-duty-preserved : goal.loop-duty-preserved
loop-duty-preserved c =
    let ds = c.args.duties.now in
    let i = c.loop-duty.duty-index in
    let none : Duty = record {
      meet = record {
        meet = record { 0 = 0 };
        event = record { 0 = 0 };
        duration = 0;
        start =
            None;
      };
      place = 0;
      resource = None;
    } in
    let here = c.loop-duty-test.true in
    let old = c.loop-duty.invariant in
    elim c.match-duty.branch [
      | in-Some w ↦
          let r = w.in-Some.resource in
          let before : r.0 < length c.args.seen.now = subst (λ o. IfSome o (λ x. x.0 < length c.args.seen.now))
          w.in-Some.is (c.requires i none here) in
          let within : r.0 < length c.loop-duty.seen = subst (λ n. r.0 < n) (sym old.long) before in
          record {
            long = ap length (w.seen-is ∙ w.put.ensures) ∙ length-set c.loop-duty.seen r.0 1 ∙ old.long;
            marked = see-some c.loop-duty.seen c.args.seen.now ds i none here old.marked r w.in-Some.is within
                c.match-duty.seen (w.seen-is ∙ w.put.ensures);
          }
      | in_default w ↦ record {
        long = ap length w.seen-is ∙ old.long;
        marked = rw w.seen-is (see-none c.loop-duty.seen c.args.seen.now ds i none here old.marked w.in_default.is);
      }
    ]
