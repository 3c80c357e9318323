use Rattle.std.proofs.Common.{◌∙◌, Option, Some, ℕ, refl, sym, ap}
use Rattle.std.specs.Option.{option_or}
use Rattle.xhstt_text.specs.Reading.{with_loose_text}
use Rattle.xhstt_text.proofs.Follow.{passes_on}
use Rattle.xhstt_text.proofs.FollowText.{notes, no_notes, noted_place}
use Rattle.xhstt_text.proofs.tags.content_text.Goals as goal

pub returns-then-not-begins_text-clause-leads : goal.returns-then-not-begins_text-clause-leads
returns-then-not-begins_text-clause-leads c = λ f fs nodes rows e.
    let h = c.args.here in
    let a = c.white-start.result in
    no_notes f fs nodes rows c.args.loose h.at h.rest.now a.at a.rest.now e c.white-start.ensures

pub returns-in_err-end-clause-leads : goal.returns-in_err-end-clause-leads
returns-in_err-end-clause-leads c = λ f fs nodes rows e.
    let h = c.args.here in
    let a = c.white-start.result in
    let now : Option ℕ = option_or c.args.loose (Some a.at) in
    let p = noted_place c.args.loose a.at in
    passes_on c.from_residual.result c.in_err-end.field-0.0 _ _ _ c.from_residual.ensures.1
    (notes f fs nodes rows c.args.loose now h.at h.rest.now a.at a.rest.now e refl c.white-start.ensures
    (sym c.begins_text.ensures ∙ c.if-not-begins_text.false))
    (c.in_err-end.ensures.leads (with_loose_text f now) fs nodes rows p.0 p.1)

pub returns-clause-leads : goal.returns-clause-leads
returns-clause-leads c = λ f fs nodes rows e.
    let h = c.args.here in
    let a = c.white-start.result in
    let p = noted_place c.args.loose a.at in
    let at = ap (λ place. option_or c.args.loose (Some place)) c.of.ensures in
    notes f fs nodes rows c.args.loose c.or.result h.at h.rest.now a.at a.rest.now e (c.or.ensures ∙ at) c.white-start.ensures
    (sym c.begins_text.ensures ∙ c.if-not-begins_text.false)
    ∙ c.in_ok-end.ensures.leads (with_loose_text f c.or.result) fs nodes rows p.0 (c.or.ensures ∙ at ∙ p.1)
