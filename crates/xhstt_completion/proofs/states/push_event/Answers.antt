-- One part more.
use Rattle.std.proofs.Common.{◌≡◌, ◌∙◌, ◌+◌, ◌-◌, ◌<◌, ◌≤◌, ◌++◌, ◌∷◌, [], Some, sym, ap, subst, arith, map, length}
use Rattle.std.proofs.Common.{get_or, take, drop, None}
use Rattle.std.specs.List.{enumerate_from}
use Rattle.std.specs.Option.{option_or}
use Rattle.std.proofs.lemmas.List.{get_or_default}
use Rattle.std.proofs.lemmas.Option.{same_Some}
use Rattle.khe_instance.specs.declared.states.Meet.{Meet}
use Rattle.xhstt_completion.specs.Chains.{IsChain}
use Rattle.xhstt_completion.specs.Completed.{part_of, meet_of, task_of, meets_at, tasks_at}
use Rattle.xhstt_completion.specs.Entries.{IsEntry, duration_of, start_of, entries_of}
use Rattle.xhstt_completion.proofs.CausesLemmas.{unwrap_or-positive}
use Rattle.xhstt_completion.proofs.EventLemmas.{IsLeft, here, left-more, left-all, next-fits, all-meets, all-tasks}
use Rattle.xhstt_completion.proofs.FoundLemmas.{found-read}
use Rattle.xhstt_completion.proofs.WellMadeLemmas.{event-made, places-few, slots-few}
use Rattle.xhstt_completion.proofs.states.push_event.Goals as goal
use Rattle.xhstt_references.specs.declared.following.Named.{Named}
use Rattle.xhstt_shape.specs.declared.records.RawEntry.{RawEntry}

abbrev none : Named
none = record { event = record { 0 = 0 }; time = None; first = 0 }

pub push_entry-requires-clause-few : goal.push_entry-requires-clause-few
push_entry-requires-clause-few c = places-few c.args.inst.now c.args.number.0 c.event-event.result.now c.facts.ensures
    c.event-event.ensures

pub push_rest-requires : goal.push_rest-requires
push_rest-requires c = places-few c.args.inst.now c.args.number.0 c.event-event.result.now c.facts.ensures
    c.event-event.ensures

pub overflow_add-slot : goal.overflow_add-slot
overflow_add-slot c =
    let bound = slots-few c.args.inst.now c.args.number.0 c.event-event.result.now c.facts.ensures
    c.event-event.ensures in
    omega (arith, bound, c.loop-at.invariant.room)

pub loop-at-init : goal.loop-at-init
loop-at-init c =
    let p = c.args.inst.now in
    let entries = c.args.entries.now in
    let firsts = c.args.chains.now.firsts.items in
    let nexts = c.args.chains.now.nexts.items in
    let e = c.args.number.0 in
    let event = c.event-event.result.now in
    let at = c.index-at.result.now in
    let within : e < length firsts = omega (arith, c.requires.there, c.requires.firsts) in
    let at_is : at ≡ get_or firsts e 0 = c.index-at.ensures ∙ get_or_default firsts e at 0 within in
    left-all p entries nexts event e at c.args.timetable.now.meets c.args.timetable.now.tasks
    (subst (λ n. IsChain entries nexts 0 n (entries_of p e entries)) (sym at_is) c.requires.own)
    (c.requires.fits event c.event-event.ensures)

pub resources_at-given-requires : goal.resources_at-given-requires
resources_at-given-requires c =
    let is = found-read c.args.inst.now c.args.entries.now c.args.found.now.named c.as_slice-named.result.now
    c.args.found.now.given c.loop-at.at c.index-entries-at.result none c.requires.each c.requires.many
    c.as_slice-named.ensures c.loop-at-test.true c.index-entries-at.is in
    omega (arith, is.within, ap length c.as_slice.ensures)

pub push_entry-requires-clause-resources : goal.push_entry-requires-clause-resources
push_entry-requires-clause-resources c =
    let p = c.args.inst.now in
    let entry = c.index-entries-at.result in
    let n = get_or c.as_slice-named.result.now c.loop-at.at none in
    let is = found-read p c.args.entries.now c.args.found.now.named c.as_slice-named.result.now
    c.args.found.now.given c.loop-at.at entry none c.requires.each c.requires.many c.as_slice-named.ensures
    c.loop-at-test.true c.index-entries-at.is in
    is.resources
    ∙ ap (map (λ x. Some x)) (sym (c.resources_at-given.ensures
    ∙ ap (λ xs. take (length entry.resources) (drop n.first xs)) c.as_slice.ensures))

pub overflow_sub-left : goal.overflow_sub-left
overflow_sub-left c =
    let event = c.event-event.result.now in
    let entry = c.index-entries-at.result in
    let inv = c.loop-at.invariant in
    let is = here c.args.entries.now c.args.chains.now.nexts.items c.loop-at.at inv.rest entry inv.chain
    c.loop-at-test.true c.index-entries-at.is in
    let fits = next-fits event c.loop-at.left inv.rest is.next.entry is.next.later is.next.is inv.fits in
    omega (arith, fits.0, ap (duration_of event) is.same, c.duration_of.ensures)

pub loop-at-preserved : goal.loop-at-preserved
loop-at-preserved c =
    let p = c.args.inst.now in
    let entries = c.args.entries.now in
    let nexts = c.args.chains.now.nexts.items in
    let e = c.args.number.0 in
    let event = c.event-event.result.now in
    let at = c.loop-at.at in
    let slot = c.loop-at.slot in
    let left = c.loop-at.left in
    let meets = c.loop-at.timetable.meets in
    let tasks = c.loop-at.timetable.tasks in
    let old = c.args.timetable.now in
    let entry = c.index-entries-at.result in
    let d = c.duration_of.result in
    let inv = c.loop-at.invariant in
    let found = found-read p entries c.args.found.now.named c.as_slice-named.result.now c.args.found.now.given at
    entry none c.requires.each c.requires.many c.as_slice-named.ensures c.loop-at-test.true c.index-entries-at.is in
    let is = here entries nexts at inv.rest entry inv.chain c.loop-at-test.true c.index-entries-at.is in
    let lasts : duration_of event is.next.entry ≡ d = ap (duration_of event) is.same ∙ sym c.duration_of.ensures in
    let starts : start_of p event is.next.entry ≡ c.start_of.result =
    ap (start_of p event) is.same ∙ ap (λ t. option_or t event.fixed) found.time ∙ sym c.start_of.ensures in
    let made = event-made p e event c.facts.ensures c.event-event.ensures in
    let is_entry : IsEntry p entry = subst (IsEntry p) (sym c.index-entries-at.is)
    (c.requires.entries at entry c.loop-at-test.true) in
    let own : 1 ≤ duration_of event entry = unwrap_or-positive entry.duration event.duration is_entry.duration
    made.duration.0 in
    let positive : 1 ≤ duration_of event is.next.entry = omega (arith, own, ap (duration_of event) is.same) in
    let meet : Meet = record {
      meet = record { 0 = slot };
      event = record { 0 = e };
      duration = d;
      start =
          c.start_of.result;
    } in
    let meet_is : meet_of e (slot, part_of p event is.next.entry) ≡ meet =
    λ k. record { meet = record { 0 = slot }; event = record { 0 = e }; duration = lasts k; start = starts k }
    in
    let given : entry.resources ≡ is.next.entry.resources = ap (λ (x : RawEntry). x.resources) (sym is.same) in
    let room : at < length nexts = omega (arith, c.loop-at-test.true, c.requires.nexts) in
    let next : c.index-at-in-loop-at.result.now ≡ get_or nexts at 0 =
    c.index-at-in-loop-at.ensures ∙ get_or_default nexts at c.index-at-in-loop-at.result.now 0 room in
    let more = left-more p entries nexts event e at slot left meets c.push_entry.new.timetable.meets tasks
    c.push_entry.new.timetable.tasks old.tasks old.meets inv is.next positive
    (c.in_ok-push_entry.ensures.meets ∙ ap (λ m. meets ++ m ∷ []) (sym meet_is))
    (c.in_ok-push_entry.ensures.tasks ∙ ap (λ g. tasks ++ map (task_of p slot g) (enumerate_from 0 event.places)) given)
    in
    subst (λ n. IsLeft p entries nexts event e n (slot + 1) (left - d) c.push_entry.new.timetable.meets
    c.push_entry.new.timetable.tasks old.meets old.tasks) (sym next)
    (subst (λ k. IsLeft p entries nexts event e (get_or nexts at 0) (slot + 1) (left - k)
    c.push_entry.new.timetable.meets c.push_entry.new.timetable.tasks old.meets old.tasks) lasts more)

pub loop-at-smaller : goal.loop-at-smaller
loop-at-smaller c =
    let entries = c.args.entries.now in
    let nexts = c.args.chains.now.nexts.items in
    let at = c.loop-at.at in
    let inv = c.loop-at.invariant in
    let is = here entries nexts at inv.rest c.index-entries-at.result inv.chain c.loop-at-test.true
    c.index-entries-at.is in
    let room : at < length nexts = omega (arith, c.loop-at-test.true, c.requires.nexts) in
    let next : c.index-at-in-loop-at.result.now ≡ get_or nexts at 0 =
    c.index-at-in-loop-at.ensures ∙ get_or_default nexts at c.index-at-in-loop-at.result.now 0 room in
    omega (arith, is.next.ahead, next, c.loop-at-test.true)

pub returns-clause-meets : goal.returns-clause-meets
returns-clause-meets c = λ event at.
    let p = c.args.inst.now in
    let entries = c.args.entries.now in
    let e = c.args.number.0 in
    let own = c.event-event.result.now in
    let old = c.args.timetable.now in
    let sofar = c.loop-at.timetable in
    let over : length entries ≤ c.loop-at.at = omega (arith, c.loop-at-test.false) in
    subst (λ x. c.push_rest.new.timetable.meets ≡ old.meets ++ meets_at p entries (e, x))
    (same_Some own event (sym c.event-event.ensures ∙ at))
    (all-meets p entries c.args.chains.now.nexts.items own e c.loop-at.at c.loop-at.slot c.loop-at.left sofar.meets
    c.push_rest.new.timetable.meets sofar.tasks old.tasks old.meets c.loop-at.invariant over
    c.in_ok-push_rest.ensures.meets)

pub returns-clause-tasks : goal.returns-clause-tasks
returns-clause-tasks c = λ event at.
    let p = c.args.inst.now in
    let entries = c.args.entries.now in
    let e = c.args.number.0 in
    let own = c.event-event.result.now in
    let old = c.args.timetable.now in
    let sofar = c.loop-at.timetable in
    let over : length entries ≤ c.loop-at.at = omega (arith, c.loop-at-test.false) in
    subst (λ x. c.push_rest.new.timetable.tasks ≡ old.tasks ++ tasks_at p entries (e, x))
    (same_Some own event (sym c.event-event.ensures ∙ at))
    (all-tasks p entries c.args.chains.now.nexts.items own e c.loop-at.at c.loop-at.slot c.loop-at.left sofar.meets
    sofar.tasks c.push_rest.new.timetable.tasks old.tasks old.meets c.loop-at.invariant over
    c.in_ok-push_rest.ensures.tasks)
