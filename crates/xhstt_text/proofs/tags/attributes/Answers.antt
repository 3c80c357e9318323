use Rattle.std.proofs.Common.{◌≡◌, ◌<◌, ◌∷◌, false, length, [], refl, sym, ap, ◌∙◌, arith}
use Rattle.std.proofs.lemmas.List.{length-append}
use Rattle.xhstt_text.specs.Bytes.{is_white}
use Rattle.xhstt_text.specs.Document.{has_name}
use Rattle.xhstt_text.specs.Machine.{Tag, Read}
use Rattle.xhstt_text.specs.Reading.{read_of}
use Rattle.xhstt_text.proofs.Follow.{fails_with, passes_on, skip_length, take_length, known_name, new_name}
use Rattle.xhstt_text.proofs.FollowAttributes.{named_tag, attribute_colon, leaves_tag, no_gap, repeated}
use Rattle.xhstt_text.proofs.FollowAttributes.{over_attribute_name, over_attribute}
use Rattle.xhstt_text.proofs.tags.attributes.Goals as goal

pub attributes-init : goal.attributes-init
attributes-init c = record {
  follows = ([], c.no_names-names.ensures, λ frames nodes place tag first. refl);
  onward = omega arith;
  place = omega arith;
  few = c.requires;
}

pub returns-in_default-clause-leads : goal.returns-in_default-clause-leads
returns-in_default-clause-leads c = λ frames nodes place tag first.
    let h = c.attributes.here in
    let a = c.white-start.result in
    c.attributes.invariant.follows.2 frames nodes place tag first
    ∙ leaves_tag place tag first c.attributes.invariant.follows.0 (read_of frames nodes c.attributes.rows.items) h.at
    h.rest.now a.at a.rest.now c.white-start.ensures c.in_default.ensures

pub returns-in_default-clause-onward : goal.returns-in_default-clause-onward
returns-in_default-clause-onward c =
    let h = c.attributes.here in
    let a = c.white-start.result in
    omega (
      arith,
      c.attributes.invariant.onward,
      c.attributes.invariant.place,
      skip_length is_white h.at h.rest.now a.at
          a.rest.now c.white-start.ensures,
    )

pub returns-then-start-here-clause-leads : goal.returns-then-start-here-clause-leads
returns-then-start-here-clause-leads c = λ frames nodes place tag first.
    let h = c.attributes.here in
    let a = c.white-start.result in
    let d = c.in-Some.after in
    let known = c.attributes.invariant.follows.0 in
    fails_with c.bad_markup.result _ _ c.bad_markup.ensures
    (c.attributes.invariant.follows.2 frames nodes place tag first
    ∙ no_gap (named_tag place tag first known) (read_of frames nodes c.attributes.rows.items) h.at h.rest.now a.at
    a.rest.now c.in-Some.found.now d.at d.rest.now c.white-start.ensures c.in-Some.ensures c.if-start-here.true)

pub returns-then-not-branch-clause-leads : goal.returns-then-not-branch-clause-leads
returns-then-not-branch-clause-leads c = λ frames nodes place tag first.
    let h = c.attributes.here in
    let a = c.white-start.result in
    let d = c.in-Some.after in
    let known = c.attributes.invariant.follows.0 in
    let was = c.in_ok-add_name.ensures.new known c.attributes.invariant.follows.1 in
    fails_with c.bad_markup-then-not-branch.result _ _ c.bad_markup-then-not-branch.ensures
    (c.attributes.invariant.follows.2 frames nodes place tag first
    ∙ repeated (named_tag place tag first known) (read_of frames nodes c.attributes.rows.items) h.at h.rest.now a.at
    a.rest.now c.in-Some.found.now d.at d.rest.now c.white-start.ensures c.in-Some.ensures c.if-start-here.false
    (known_name _ _ was c.if-not-branch.true))

pub returns-then-next_is-clause-leads : goal.returns-then-next_is-clause-leads
returns-then-next_is-clause-leads c = λ frames nodes place tag first.
    let h = c.attributes.here in
    let a = c.white-start.result in
    let d = c.in-Some.after in
    let known = c.attributes.invariant.follows.0 in
    let was = c.in_ok-add_name.ensures.new known c.attributes.invariant.follows.1 in
    fails_with c.unsupported.result _ _ c.unsupported.ensures
    (c.attributes.invariant.follows.2 frames nodes place tag first
    ∙ attribute_colon (named_tag place tag first known) (read_of frames nodes c.attributes.rows.items) h.at h.rest.now
    a.at a.rest.now c.in-Some.found.now d.at d.rest.now c.white-start.ensures c.in-Some.ensures
    c.if-start-here.false (new_name _ _ was c.if-not-branch.false) (sym c.next_is.ensures ∙ c.if-next_is.true))

pub returns-in_err-value-clause-leads : goal.returns-in_err-value-clause-leads
returns-in_err-value-clause-leads c = λ frames nodes place tag first.
    let h = c.attributes.here in
    let a = c.white-start.result in
    let d = c.in-Some.after in
    let known = c.attributes.invariant.follows.0 in
    let t : Tag = named_tag place tag first known in
    let r : Read = read_of frames nodes c.attributes.rows.items in
    let new : has_name c.in-Some.found.now known ≡ false =
    new_name _ _ (c.in_ok-add_name.ensures.new known c.attributes.invariant.follows.1) c.if-not-branch.false in
    passes_on c.from_residual-in_err-value.result c.in_err-value.field-0.0 _ _ _ c.from_residual-in_err-value.ensures.1
    (c.attributes.invariant.follows.2 frames nodes place tag first
    ∙ over_attribute_name t r h.at h.rest.now a.at a.rest.now c.in-Some.found.now d.at d.rest.now
    c.white-start.ensures c.in-Some.ensures c.if-start-here.false)
    (c.in_err-value.ensures.leads t a.at c.in-Some.found.now r new)

shorter : (c : goal.In_ok-push) → length c.in_ok-value.end.rest.now < length c.attributes.here.rest.now
shorter c =
    let h = c.attributes.here in
    let a = c.white-start.result in
    let d = c.in-Some.after in
    omega (
      arith,
      c.in_ok-value.ensures.onward,
      skip_length is_white h.at h.rest.now a.at a.rest.now
          c.white-start.ensures,
      take_length a.at a.rest.now c.in-Some.found.now d.at d.rest.now c.in-Some.ensures,
    )

pub attributes-smaller : goal.attributes-smaller
attributes-smaller c = shorter c

pub attributes-preserved : goal.attributes-preserved
attributes-preserved c =
    let h = c.attributes.here in
    let a = c.white-start.result in
    let d = c.in-Some.after in
    let z = c.in_ok-value.end in
    let found = c.in-Some.found.now in
    let known = c.attributes.invariant.follows.0 in
    let held = c.attributes.invariant.follows.1 in
    let new : has_name found known ≡ false = new_name _ _ (c.in_ok-add_name.ensures.new known held)
    c.if-not-branch.false in
    record {
      follows = (
        found ∷ known,
        c.in_ok-add_name.ensures.added known held,
        λ frames nodes place tag first.
            let t : Tag = named_tag place tag first known in
            let r : Read = read_of frames nodes c.attributes.rows.items in
            c.attributes.invariant.follows.2 frames nodes place tag first
            ∙ over_attribute t r h.at h.rest.now a.at a.rest.now found d.at d.rest.now c.in_ok-value.value z.at
            z.rest.now c.push.new.self.items c.white-start.ensures c.in-Some.ensures c.if-start-here.false
            (c.in_ok-value.ensures.leads t a.at found r new) c.in_ok-push.ensures.items,
      );
      onward = omega (arith, shorter c, c.attributes.invariant.onward);
      place = omega (
        arith,
        c.attributes.invariant.place,
        c.in_ok-value.ensures.onward,
        skip_length is_white h.at
            h.rest.now a.at a.rest.now c.white-start.ensures,
        take_length a.at a.rest.now found d.at d.rest.now
            c.in-Some.ensures,
      );
      few = omega (
        arith,
        c.attributes.invariant.few,
        ap length c.in_ok-push.ensures.items ∙ length-append c.attributes.rows.items (_ ∷ []),
        c.in_ok-value.ensures.onward,
        skip_length is_white h.at
            h.rest.now a.at a.rest.now c.white-start.ensures,
        take_length a.at a.rest.now found d.at d.rest.now
            c.in-Some.ensures,
      );
    }
