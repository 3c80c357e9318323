-- One event more.
use Rattle.std.proofs.Common.{◌≡◌, ◌∙◌, ◌+◌, ◌<◌, ◌≤◌, sym, ap, subst, arith, true, false, Some, length, map, drop}
use Rattle.std.proofs.Common.{get_or}
use Rattle.std.specs.Prelude.{find, nat_lt}
use Rattle.std.specs.List.{fold}
use Rattle.std.proofs.lemmas.Bool.{lt-ltb, le-ltb}
use Rattle.std.proofs.lemmas.List.{drop_all}
use Rattle.std.proofs.lemmas.List.Elements.{All-get_or}
use Rattle.khe_base.specs.declared.limits.TheConstants.{UNIT}
use Rattle.xhstt_shape.specs.declared.records.RawEvent.{RawEvent}
use Rattle.xhstt_resolve.specs.Units.{least_multiple, running_units}
use Rattle.xhstt_resolve.proofs.UnitsLemmas.{least_multiple-positive, least_multiple-same, unit_step, above_step}
use Rattle.xhstt_resolve.proofs.units.unit_of.Goals as goal

pub loop-event-preserved : goal.loop-event-preserved
loop-event-preserved c =
    let f = λ (y : RawEvent). y.duration in
    let events = c.args.instance.now.events in
    let u = c.loop-event.unit in
    let i = c.loop-event.event-index in
    let e = c.event-item.result in
    let items = c.as_slice-event-items.ensures in
    let within : i < length events = subst (λ xs. i < length xs) items c.loop-event-test.true in
    let at : e ≡ get_or events i e = c.event-item.is ∙ ap (λ xs. get_or xs i e) items in
    let least : 1 ≤ e.duration = subst (λ (y : RawEvent). 1 ≤ y.duration) (sym at)
    (All-get_or (λ (y : RawEvent). 1 ≤ y.duration) events i e within c.requires) in
    let long : 0 < e.duration = omega arith in
    let next : c.least_multiple-next.result ≡ least_multiple u e.duration =
    least_multiple-same u e.duration _ c.loop-event.invariant.positive long c.least_multiple-next.ensures in
    let small : least_multiple u e.duration ≤ UNIT =
    subst (λ m. m ≤ UNIT) next (subst (λ g. c.least_multiple-next.result ≤ g) c.from.ensures
    c.if-next-from.false) in
    record {
      whole = ap (λ m. fold least_multiple m (map f (drop (i + 1) events))) next
          ∙ sym (unit_step f u events i e within at) ∙ c.loop-event.invariant.whole;
      above =
          ap (λ m. find (nat_lt UNIT) (running_units m (map f (drop (i + 1) events)))) next
          ∙ sym (above_step f UNIT u events i e false within at (le-ltb UNIT (least_multiple u e.duration) small))
          ∙ c.loop-event.invariant.above;
      positive = subst (λ m. 0 < m) (sym next) (least_multiple-positive u e.duration c.loop-event.invariant.positive
          long);
    }

pub returns-then-next-from-clause-above : goal.returns-then-next-from-clause-above
returns-then-next-from-clause-above c =
    let f = λ (y : RawEvent). y.duration in
    let events = c.args.instance.now.events in
    let u = c.loop-event.unit in
    let i = c.loop-event.event-index in
    let e = c.event-item.result in
    let items = c.as_slice-event-items.ensures in
    let within : i < length events = subst (λ xs. i < length xs) items c.loop-event-test.true in
    let at : e ≡ get_or events i e = c.event-item.is ∙ ap (λ xs. get_or xs i e) items in
    let least : 1 ≤ e.duration = subst (λ (y : RawEvent). 1 ≤ y.duration) (sym at)
    (All-get_or (λ (y : RawEvent). 1 ≤ y.duration) events i e within c.requires) in
    let long : 0 < e.duration = omega arith in
    let next : c.least_multiple-next.result ≡ least_multiple u e.duration =
    least_multiple-same u e.duration _ c.loop-event.invariant.positive long c.least_multiple-next.ensures in
    let great : UNIT < least_multiple u e.duration =
    subst (λ m. UNIT < m) next (subst (λ g. g < c.least_multiple-next.result) c.from.ensures c.if-next-from.true) in
    sym c.loop-event.invariant.above ∙ above_step f UNIT u events i e true within at
    (lt-ltb UNIT (least_multiple u e.duration) great) ∙ ap Some (sym next)

pub returns-clause-unit : goal.returns-clause-unit
returns-clause-unit c =
    let f = λ (y : RawEvent). y.duration in
    let events = c.args.instance.now.events in
    let u = c.loop-event.unit in
    let i = c.loop-event.event-index in
    let all : length events ≤ i = subst (λ xs. length xs ≤ i) c.as_slice-event-items.ensures c.loop-event-test.false in
    sym (ap (λ ys. fold least_multiple u (map f ys)) (drop_all i events all)) ∙ c.loop-event.invariant.whole

pub returns-clause-within : goal.returns-clause-within
returns-clause-within c =
    let f = λ (y : RawEvent). y.duration in
    let events = c.args.instance.now.events in
    let u = c.loop-event.unit in
    let i = c.loop-event.event-index in
    let all : length events ≤ i = subst (λ xs. length xs ≤ i) c.as_slice-event-items.ensures c.loop-event-test.false in
    sym c.loop-event.invariant.above ∙ ap (λ ys. find (nat_lt UNIT) (running_units u (map f ys)))
    (drop_all i events all)
