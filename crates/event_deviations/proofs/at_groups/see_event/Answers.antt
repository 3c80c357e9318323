use Rattle.std.proofs.Common.{◌≡◌, ◌∙◌, sym, ap, ap₂, subst, ◌<◌, ◌&&◌, true, false, Some, length, get_or, slice_get}
use Rattle.std.proofs.Common.{option_and_then}
use Rattle.std.proofs.lemmas.Option.{slice_get-get_or}
use Rattle.khe_instance.specs.EventDeviation.{duties_at}
use Rattle.khe_instance.specs.Lookups.{is_role, role_at}
use Rattle.khe_instance.specs.declared.parts.Parts.{Parts}
use Rattle.event_deviations.specs.Groups.{has_duty_at, some_has}
use Rattle.event_deviations.proofs.GroupLemmas.{place-seen, place-passed, role_there}
use Rattle.event_deviations.proofs.at_groups.see_event.Goals.{then-has_role, else-has_role}
use Rattle.event_deviations.proofs.at_groups.see_event.Goals as goal

pub loop-number-preserved : goal.loop-number-preserved
loop-number-preserved c =
    let infos = c.args.index.now.parts.events in
    let ds = c.args.index.now.duties in
    let role = c.args.role.now in
    let e = c.args.event.0 in
    let k = c.loop-number.number in
    let event = c.event.result.now in
    let place = c.index-places-number.result in
    let old = c.loop-number.invariant in
    let holds = has_duty_at infos ds role in
    let there : slice_get infos e ≡ Some event = subst (λ (p : Parts). slice_get p.events e ≡ Some event) c.inst.ensures
    c.event.ensures in
    let within : k < length event.places = subst (λ n. k < n) (ap length c.as_slice-places.ensures)
    c.loop-number-test.true in
    let read : place ≡ get_or event.places k place =
    c.index-places-number.is ∙ ap (λ ps. get_or ps k place) c.as_slice-places.ensures in
    let role_is : role_at infos e k ≡ place.role =
    role_there infos e k event there ∙ ap (option_and_then (λ p. p.role))
    (slice_get-get_or event.places k place within ∙ ap Some (sym read)) in
    elim c.if-has_role.branch [
      | then-has_role w ↦
          let passes : is_role role (role_at infos e k) ≡ true =
          ap (is_role role) role_is ∙ sym c.has_role.ensures ∙ w.if-has_role.true in
          let own = w.duties.result.now in
          record {
            long = ap length w.seen-is ∙ w.see.ensures.seen ∙ old.long;
            marked = rw w.seen-is
                (place-seen (λ r. holds r e) c.loop-number.seen c.args.seen.now k old.marked _ (some_has own)
                w.see.ensures.marked
                (λ r. ap₂ (λ b l. b && some_has l r) passes (sym w.duties.ensures.are)));
          }
      | else-has_role w ↦
          let fails : is_role role (role_at infos e k) ≡ false =
          ap (is_role role) role_is ∙ sym c.has_role.ensures ∙ w.if-has_role.false in
          record {
            long = ap length w.seen-is ∙ old.long;
            marked = rw w.seen-is (place-passed (λ r. holds r e) c.loop-number.seen c.args.seen.now k old.marked
                (λ r. ap (λ b. b && some_has (duties_at e k ds) r) fails));
          }
    ]
