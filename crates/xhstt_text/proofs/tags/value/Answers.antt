use Rattle.std.proofs.Common.{◌∙◌}
use Rattle.xhstt_text.proofs.Follow.{fails_with, passes_on}
use Rattle.xhstt_text.proofs.FollowValues.{value_no_equals, value_no_quote, value_begins, value_no_end, value_read}
use Rattle.xhstt_text.proofs.tags.value.Goals as goal

pub returns-in_default-clause-leads : goal.returns-in_default-clause-leads
returns-in_default-clause-leads c = λ t place known r new.
    let h = c.args.here in
    let a = c.white-before.result in
    fails_with c.bad_markup.result _ _ c.bad_markup.ensures
    (value_no_equals t place known r h.at h.rest.now a.at a.rest.now new c.requires.name c.requires.colon
    c.white-before.ensures c.in_default.ensures)

pub returns-in_default-quote-clause-leads : goal.returns-in_default-quote-clause-leads
returns-in_default-quote-clause-leads c = λ t place known r new.
    let h = c.args.here in
    let a = c.white-before.result in
    let b = c.in-Some.equal in
    let d = c.white-after.result in
    fails_with c.bad_markup-in_default-quote.result _ _ c.bad_markup-in_default-quote.ensures
    (value_no_quote t place known r h.at h.rest.now a.at a.rest.now b.at b.rest.now d.at d.rest.now new c.requires.name
    c.requires.colon c.white-before.ensures c.in-Some.ensures c.white-after.ensures c.in_default-quote.ensures)

pub returns-in_err-to-clause-leads : goal.returns-in_err-to-clause-leads
returns-in_err-to-clause-leads c = λ t place known r new.
    let h = c.args.here in
    let a = c.white-before.result in
    let b = c.in-Some.equal in
    let d = c.white-after.result in
    let q = c.in-Some-quote in
    passes_on c.from_residual.result c.in_err-to.field-0.0 _ _ _ c.from_residual.ensures.1
    (value_begins t place known r h.at h.rest.now a.at a.rest.now b.at b.rest.now d.at d.rest.now q.mark q.from.at
    q.from.rest.now new c.requires.name c.requires.colon c.white-before.ensures c.in-Some.ensures
    c.white-after.ensures q.ensures)
    (c.in_err-to.ensures.leads t place known q.from.at r)

pub returns-in_default-past-clause-leads : goal.returns-in_default-past-clause-leads
returns-in_default-past-clause-leads c = λ t place known r new.
    let h = c.args.here in
    let a = c.white-before.result in
    let b = c.in-Some.equal in
    let d = c.white-after.result in
    let q = c.in-Some-quote in
    let e = c.in_ok-to.to in
    fails_with c.bad_markup-in_default-past.result _ _ c.bad_markup-in_default-past.ensures
    (value_no_end t place known r _ q.mark q.from.at e.at e.rest.now
    (value_begins t place known r h.at h.rest.now a.at a.rest.now b.at b.rest.now d.at d.rest.now q.mark q.from.at
    q.from.rest.now new c.requires.name c.requires.colon c.white-before.ensures c.in-Some.ensures
    c.white-after.ensures q.ensures
    ∙ c.in_ok-to.ensures.leads t place known q.from.at r)
    c.in_ok-to.ensures.stops c.in_default-past.ensures)

pub returns-clause-leads : goal.returns-clause-leads
returns-clause-leads c = λ t place known r new.
    let h = c.args.here in
    let a = c.white-before.result in
    let b = c.in-Some.equal in
    let d = c.white-after.result in
    let q = c.in-Some-quote in
    let e = c.in_ok-to.to in
    let f = c.in-Some-past.end in
    value_read t place known r _ q.mark q.from.at e.at e.rest.now f.at f.rest.now
    (value_begins t place known r h.at h.rest.now a.at a.rest.now b.at b.rest.now d.at d.rest.now q.mark q.from.at
    q.from.rest.now new c.requires.name c.requires.colon c.white-before.ensures c.in-Some.ensures
    c.white-after.ensures q.ensures
    ∙ c.in_ok-to.ensures.leads t place known q.from.at r)
    c.in-Some-past.ensures
