-- At the start all of each event is left, and an entry takes its duration.
use Rattle.std.proofs.Common.{ℕ, List, Option, ◌≡◌, ◌∙◌, ◌+◌, ◌-◌, ◌<◌, ◌≤◌, ◌++◌, ◌∷◌, [], sym, ap, subst, arith}
use Rattle.std.proofs.Common.{length, map, take, drop, get_or, slice_get, Some, None, refl, inl, inr, zero-add}
use Rattle.std.proofs.Common.{add-zero}
use Rattle.std.specs.Prelude.{slice_set}
use Rattle.std.specs.List.{sum_by}
use Rattle.std.specs.Option.{option_or, option_map}
use Rattle.khe_instance.specs.declared.parts.Parts.{Parts}
use Rattle.xhstt_completion.specs.declared.faults.Cause.{Cause}
use Rattle.xhstt_shape.specs.declared.records.RawEntry.{RawEntry}
use Rattle.std.proofs.lemmas.Bool.{cases_eq, eq-eqb, ne_eqb}
use Rattle.std.proofs.lemmas.List.{get_or-map, length-map, length-set, get_or-set_same, get_or-set_other}
use Rattle.std.proofs.lemmas.List.{get_or_default, length-take-le}
use Rattle.std.proofs.lemmas.List.Sums.{sum-map, sum_by-set}
use Rattle.std.proofs.lemmas.Option.{get_or_from_slice_get, slice_get_within, slice_get_read, same_Some}
use Rattle.khe_base.specs.declared.limits.TheConstants.{DURATION}
use Rattle.khe_instance.specs.Named.{event_named}
use Rattle.khe_instance.specs.declared.parts.EventInfo.{EventInfo}
use Rattle.khe_instance.specs.WellMade.{IsEvent}
use Rattle.xhstt_completion.specs.Causes.{first_cause, cause_in, cause_after, used_by}
use Rattle.xhstt_completion.specs.Entries.{IsEntry, duration_of, is_event}
use Rattle.xhstt_completion.proofs.CausesLemmas.{first_cause-drop, cause_after-in, take-next, not_too_long, used_by-own}
use Rattle.xhstt_completion.proofs.CausesLemmas.{used_by-other, unwrap_or-positive}
use Rattle.xhstt_completion.proofs.checking.first_cause.Goals as goal

pub loop-number-init : goal.loop-number-init
loop-number-init c =
    let events = c.args.inst.now.events in
    let left = c.in_ok-left.left.items in
    let same : left ≡ map (λ e. e.duration) events = c.in_ok-left.ensures in
    record {
      many = ap length same ∙ length-map events (λ (e : EventInfo). e.duration);
      few =
          let total : sum_by (λ x. x) left ≡ sum_by (λ e. e.duration) events =
          ap (sum_by (λ x. x)) same ∙ sum-map (λ (e : EventInfo). e.duration) events in
          let within : sum_by (λ e. e.duration) events ≤ DURATION = c.facts.ensures.limits.duration in
          subst (λ n. n ≤ DURATION) (sym (zero-add (sum_by (λ x. x) left) ∙ total)) within;
      left = λ e event there.
          add-zero (get_or left e 0)
          ∙ ap (λ xs. get_or xs e 0) same
          ∙ get_or-map (λ (x : EventInfo). x.duration) events e event 0 (slice_get_within events e event there)
          ∙ ap (λ (x : EventInfo). x.duration) (get_or_from_slice_get events e event event there);
      rest = refl;
    }

-- what the entries of an event used before is what is not left of it
balanced : (p : Parts) (before : List RawEntry) (left : List ℕ) (e rest : ℕ) (event : EventInfo) → e < length left
    → rest ≡ get_or left e rest → get_or left e 0 + used_by p e event before ≡ event.duration
    → (rest ≤ event.duration) × (event.duration - rest ≡ used_by p e event before)
balanced p before left e rest event within at balance =
    let is : rest ≡ get_or left e 0 = at ∙ get_or_default left e rest 0 within in
    (omega (arith, is, balance), omega (arith, is, balance))

pub overflow_sub-used : goal.overflow_sub-used
overflow_sub-used c =
    let e = c.named_at-named.result.event in
    let event = c.event-event.result.now in
    let old = c.loop-number.left.items in
    let within : e.0 < length old = subst (λ k. e.0 < k) (sym c.loop-number.invariant.many)
    c.named_at-named.ensures.there in
    (balanced c.args.inst.now (take c.loop-number.number c.args.entries.now) old e.0 c.index-rest.result.now event
    within
    c.index-rest.ensures (c.loop-number.invariant.left e.0 event c.event-event.ensures)).0

pub returns-in-Some : goal.returns-in-Some
returns-in-Some c =
    let p = c.args.inst.now in
    let entries = c.args.entries.now in
    let n = c.loop-number.number in
    let e = c.named_at-named.result.event in
    let event = c.event-event.result.now in
    let entry = c.index-entries-number.result in
    let old = c.loop-number.left.items in
    let before = take n entries in
    let is = c.named_at-named.ensures.found entry
    (slice_get_read entries _ n entry refl c.loop-number-test.true c.index-entries-number.is) in
    let within : e.0 < length old = subst (λ k. e.0 < k) (sym c.loop-number.invariant.many)
    c.named_at-named.ensures.there in
    let used = (balanced p before old e.0 c.index-rest.result.now event within c.index-rest.ensures
    (c.loop-number.invariant.left e.0 event c.event-event.ensures)).1 in
    let at : ℕ → ℕ → Cause = λ k cause. record { cause = cause; entry = k } in
    let here : cause_after p before entry ≡ Some c.in-Some.cause =
    cause_after-in p before entry e event is.event c.event-event.ensures
    ∙ ap (λ k. cause_in p event k entry) (sym used) ∙ sym c.in_ok-cause.ensures ∙ c.in-Some.is
    in
    let low : n ≤ length entries = omega (arith, c.loop-number-test.true) in
    let long : length before ≡ n = length-take-le n entries low in
    sym (ap (λ k. Some (at k c.in-Some.cause)) long)
    ∙ sym (ap (λ (o : Option ℕ). option_or (option_map (at (length before)) o)
    (first_cause p (before ++ entry ∷ []) (drop (n + 1) entries))) here)
    ∙ sym (first_cause-drop p before entries n entry c.loop-number-test.true c.index-entries-number.is)
    ∙ c.loop-number.invariant.rest

-- without a cause at an entry, the first one stands later
step : (p : Parts) (before : List RawEntry) (later : Option Cause) (entry : RawEntry)
    → cause_after p before entry ≡ None
    → option_or (option_map (λ cause. record { cause = cause; entry = length before }) (cause_after p before entry))
    later ≡ later
step p before later entry free =
    ap (λ (o : Option ℕ). option_or (let at : ℕ → Cause = λ cause. record { cause = cause; entry = length before } in
    option_map at o) later) free

pub resources_at-resources-requires : goal.resources_at-resources-requires
resources_at-resources-requires c =
    let entry = c.index-entries-number.result in
    let is = c.named_at-named.ensures.found entry
    (slice_get_read c.args.entries.now _ c.loop-number.number entry refl c.loop-number-test.true
    c.index-entries-number.is) in
    omega (arith, is.within, ap length c.as_slice.ensures)

pub cause_in-requires-clause-event : goal.cause_in-requires-clause-event
cause_in-requires-clause-event c =
    let events = c.args.inst.now.events in
    let event = c.event-event.result.now in
    let e = c.named_at-named.result.event.0 in
    subst (IsEvent c.args.inst.now) (get_or_from_slice_get events e event event c.event-event.ensures)
    (c.facts.ensures.events e event c.named_at-named.ensures.there)

pub cause_in-requires-clause-time : goal.cause_in-requires-clause-time
cause_in-requires-clause-time c =
    let entry = c.index-entries-number.result in
    (c.named_at-named.ensures.found entry (slice_get_read c.args.entries.now _ c.loop-number.number entry refl
    c.loop-number-test.true c.index-entries-number.is)).time

pub cause_in-requires-clause-resources : goal.cause_in-requires-clause-resources
cause_in-requires-clause-resources c =
    let entry = c.index-entries-number.result in
    let is = c.named_at-named.ensures.found entry
    (slice_get_read c.args.entries.now _ c.loop-number.number entry refl c.loop-number-test.true
    c.index-entries-number.is) in
    is.resources ∙ ap (map (λ x. Some x)) (sym (c.resources_at-resources.ensures
    ∙ ap (λ xs. take (length entry.resources) (drop c.named_at-named.result.first xs)) c.as_slice.ensures))

pub loop-number-preserved : goal.loop-number-preserved
loop-number-preserved c =
    let p = c.args.inst.now in
    let entries = c.args.entries.now in
    let n = c.loop-number.number in
    let e0 = c.named_at-named.result.event in
    let event0 = c.event-event.result.now in
    let entry = c.index-entries-number.result in
    let is = c.named_at-named.ensures.found entry
    (slice_get_read entries _ n entry refl c.loop-number-test.true c.index-entries-number.is) in
    let e0_there : e0.0 < length p.events = c.named_at-named.ensures.there in
    let old = c.loop-number.left.items in
    let rest = c.index-rest.result.now in
    let d = c.duration_of.result in
    let before = take n entries in
    let named : event_named p entry.reference.id ≡ Some e0 = is.event in
    let there0 : slice_get p.events e0.0 ≡ Some event0 = c.event-event.ensures in
    let in_old : e0.0 < length old = subst (λ k. e0.0 < k) (sym c.loop-number.invariant.many) e0_there in
    let next : take (n + 1) entries ≡ before ++ entry ∷ [] =
    take-next entries n entry c.loop-number-test.true c.index-entries-number.is in
    let lasts : d ≡ duration_of event0 entry = c.duration_of.ensures in
    let rest_is : rest ≡ get_or old e0.0 0 = c.index-rest.ensures ∙ get_or_default old e0.0 rest 0 in_old in
    let balance : get_or old e0.0 0 + used_by p e0.0 event0 before ≡ event0.duration =
    c.loop-number.invariant.left e0.0 event0 there0 in
    let used_is : event0.duration - rest ≡ used_by p e0.0 event0 before = omega arith in
    let none : c.in_ok-cause.cause ≡ None = c.in_default.is in
    let no_cause : cause_in p event0 (used_by p e0.0 event0 before) entry ≡ None =
    ap (λ used. cause_in p event0 used entry) (sym used_is) ∙ sym c.in_ok-cause.ensures ∙ none
    in
    let within : used_by p e0.0 event0 before + duration_of event0 entry ≤ event0.duration =
    not_too_long p event0 _ entry no_cause in
    let is_entry : IsEntry p entry = subst (IsEntry p) (sym c.index-entries-number.is)
    (c.requires.entries n entry c.loop-number-test.true) in
    let is_event0 : IsEvent p event0 = subst (IsEvent p) (get_or_from_slice_get p.events e0.0 event0 event0 there0)
    (c.facts.ensures.events e0.0 event0 e0_there) in
    let positive : 1 ≤ duration_of event0 entry =
    unwrap_or-positive entry.duration event0.duration is_entry.duration is_event0.duration.0 in
    let later = slice_set old e0.0 (rest - d) in
    record {
      many = length-set old e0.0 (rest - d) ∙ c.loop-number.invariant.many;
      few =
          let moved : sum_by (λ x. x) later + get_or old e0.0 0 ≡ sum_by (λ x. x) old + (rest - d) =
          sum_by-set (λ x. x) old e0.0 (rest - d) 0 in_old in
          let few_before : n + sum_by (λ x. x) old ≤ DURATION = c.loop-number.invariant.few in
          let few_after : n + 1 + sum_by (λ x. x) later ≤ DURATION = omega arith in
          few_after;
      left = λ e event there.
          elim (cases_eq e e0.0) [
            | inl own ↦
                let there_own : slice_get p.events e0.0 ≡ Some event =
                subst (λ k. slice_get p.events k ≡ Some event) own there in
                let same : event0 ≡ event = same_Some event0 event (sym there0 ∙ there_own) in
                let used_now : used_by p e0.0 event0 (before ++ entry ∷ [])
                ≡ used_by p e0.0 event0 before + duration_of event0 entry =
                used_by-own p e0.0 event0 before entry (ap (is_event e0.0) named ∙ eq-eqb e0.0 e0.0 refl)
                in
                let at : get_or later e0.0 0 ≡ rest - d = get_or-set_same old e0.0 (rest - d) 0 in_old in
                let done : get_or later e0.0 0 + used_by p e0.0 event0 (before ++ entry ∷ []) ≡ event0.duration =
                omega arith in
                subst (λ (x : EventInfo). get_or later e 0 + used_by p e x (take (n + 1) entries) ≡ x.duration) same
                (subst (λ k. get_or later k 0 + used_by p k event0 (take (n + 1) entries) ≡ event0.duration) (sym own)
                (subst (λ xs. get_or later e0.0 0 + used_by p e0.0 event0 xs ≡ event0.duration) (sym next) done))
            | inr other ↦
                let used_now : used_by p e event (before ++ entry ∷ []) ≡ used_by p e event before =
                used_by-other p e event before entry (ap (is_event e) named ∙ ne_eqb e0.0 e (λ h. other (sym h)))
                in
                let at : get_or later e 0 ≡ get_or old e 0 = get_or-set_other old e0.0 e (rest - d) 0 other in
                ap (λ k. k + used_by p e event (take (n + 1) entries)) at
                ∙ ap (λ xs. get_or old e 0 + used_by p e event xs) next
                ∙ ap (λ k. get_or old e 0 + k) used_now
                ∙ c.loop-number.invariant.left e event there
          ];
      rest =
          let free : cause_after p before entry ≡ None =
          cause_after-in p before entry e0 event0 named there0 ∙ no_cause in
          ap (λ xs. first_cause p xs (drop (n + 1) entries)) next
          ∙ sym (step p before (first_cause p (before ++ entry ∷ []) (drop (n + 1) entries)) entry free)
          ∙ sym (first_cause-drop p before entries n entry c.loop-number-test.true c.index-entries-number.is)
          ∙ c.loop-number.invariant.rest;
    }
