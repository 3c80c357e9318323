-- The archive has one instance, and its events have the durations that were drawn.
use Rattle.std.proofs.Common.{◌≡◌, ◌≤◌, ◌<◌, ◌^◌, ◌∙◌, sym, subst}
use Rattle.std.specs.List.{sum_by}
use Rattle.archive_generator.specs.Job.{slots}
use Rattle.xhstt_shape.specs.declared.records.RawEvent.{RawEvent}
use Rattle.archive_generator.proofs.SlotLaws.{durations_of, slots_few, slots_some, some_instances}
use Rattle.archive_generator.proofs.durations.slot_count.Goals as goal

pub first_instance-instance-requires : goal.first_instance-instance-requires
first_instance-instance-requires c = some_instances c.args.seed c.args.size c.args.archive.now c.as_slice.result.now
    c.requires.made c.as_slice.ensures

pub total_duration-requires : goal.total_duration-requires
total_duration-requires c =
    let same : sum_by (λ (e : RawEvent). e.duration) c.as_slice-2.result.now ≡ slots c.args.seed c.args.size =
    durations_of c.args.seed c.args.size c.args.archive.now c.as_slice.result.now c.first_instance-instance.result.now
    c.as_slice-2.result.now c.requires.made c.as_slice.ensures c.first_instance-instance.ensures c.as_slice-2.ensures in
    subst (λ n. n < 2 ^ 32) (sym same) (slots_few c.args.seed c.args.size c.requires.few)

pub returns-clause-value : goal.returns-clause-value
returns-clause-value c =
    c.total_duration.ensures
    ∙ durations_of c.args.seed c.args.size c.args.archive.now c.as_slice.result.now
    c.first_instance-instance.result.now c.as_slice-2.result.now c.requires.made c.as_slice.ensures
    c.first_instance-instance.ensures c.as_slice-2.ensures

pub returns-clause-some : goal.returns-clause-some
returns-clause-some c =
    let same : c.total_duration.result ≡ slots c.args.seed c.args.size =
    c.total_duration.ensures
    ∙ durations_of c.args.seed c.args.size c.args.archive.now c.as_slice.result.now
    c.first_instance-instance.result.now c.as_slice-2.result.now c.requires.made c.as_slice.ensures
    c.first_instance-instance.ensures c.as_slice-2.ensures in
    subst (λ n. 1 ≤ n) (sym same) (slots_some c.args.seed c.args.size c.requires.some)
