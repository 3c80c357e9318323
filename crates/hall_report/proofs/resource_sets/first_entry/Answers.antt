use Rattle.std.proofs.Common.{◌∙◌, sym, ap}
use Rattle.std.specs.Option.{option_map_or}
use Rattle.khe_instance.specs.Slots.{first_task}
use Rattle.khe_instance.specs.declared.parts.EventInfo.{EventInfo}
use Rattle.hall_report.proofs.Following.{first_unit}
use Rattle.hall_report.proofs.resource_sets.first_entry.Goals as goal

pub first_task-requires : goal.first_task-requires
first_task-requires c = first_unit c.args.inst.now c.args.event.0 _ c.facts.ensures c.event.ensures

pub returns : goal.returns
returns c = c.first_task.ensures ∙ sym (ap (λ o. first_task c.args.inst.now.events
    (option_map_or (λ (x : EventInfo). x.first_meet) o 0)) c.event.ensures)
