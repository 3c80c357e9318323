-- The reference, then the time, then the resources.
use Rattle.std.proofs.Common.{◌≡◌, ◌∙◌, ◌-◌, All, ap, length, subst, sym}
use Rattle.xhstt_shape.specs.Packed.{IsEntryIn, IsGivenIn, entry_at}
use Rattle.xhstt_shape.specs.declared.packed.PackedEntry.{PackedEntry}
use Rattle.xhstt_shape.specs.Values as spec
use Rattle.xhstt_shape.specs.Values.{entry}
use Rattle.xhstt_shape.proofs.PackedLemmas.{entry-in-parts, entry-is, givens-in-longer, longer-longer, ok-weaker}
use Rattle.xhstt_shape.proofs.packing_elements.pack_entry_of.Goals as goal

pub returns-clause-row : goal.returns-clause-row
returns-clause-row c =
    let xs = c.pack_reference_of.new.letters.items in
    let ys = c.pack_time_of.new.letters.items in
    let zs = c.push_resources_of.new.letters.items in
    let gs = c.args.givens.now.items in
    let hs = c.push_resources_of.new.givens.items in
    let first : c.len-first.result ≡ length gs = c.len-first.ensures ∙ c.args.givens.now.ok.0 in
    let end : c.len.result ≡ length hs = c.len.ensures ∙ c.push_resources_of.new.givens.ok.0 in
    let e : PackedEntry = record {
      reference = c.in_ok-reference.reference;
      duration = c.in_ok-duration.duration;
      time = c.in_ok-time.time;
      first = c.len-first.result;
      count = c.len.result - c.len-first.result;
    } in
    ok-weaker (λ x. x ≡ e) (IsEntryIn zs hs) c.row.result (λ x is. subst (IsEntryIn zs hs) (sym is)
    (entry-in-parts xs ys zs gs hs e c.pack_time_of.ensures.longer c.push_resources_of.ensures.longer c.push_resources_of.ensures.more
    c.in_ok-reference.ensures.inside c.in_ok-time.ensures.inside first (λ i. end i - first i))) c.row.ensures

pub returns-clause-is : goal.returns-clause-is
unfolding entry
returns-clause-is c =
    let os = c.args.letters.now.items in
    let xs = c.pack_reference_of.new.letters.items in
    let ys = c.pack_time_of.new.letters.items in
    let zs = c.push_resources_of.new.letters.items in
    let gs = c.args.givens.now.items in
    let hs = c.push_resources_of.new.givens.items in
    let first : c.len-first.result ≡ length gs = c.len-first.ensures ∙ c.args.givens.now.ok.0 in
    let end : c.len.result ≡ length hs = c.len.ensures ∙ c.push_resources_of.new.givens.ok.0 in
    let e : PackedEntry = record {
      reference = c.in_ok-reference.reference;
      duration = c.in_ok-duration.duration;
      time = c.in_ok-time.time;
      first = c.len-first.result;
      count = c.len.result - c.len-first.result;
    } in
    let givens : All (IsGivenIn ys) gs =
    givens-in-longer os ys gs (longer-longer os xs ys c.pack_reference_of.ensures.longer c.pack_time_of.ensures.longer) c.requires in
    ok-weaker (λ x. x ≡ e) (λ x. entry_at zs hs x ≡ (spec.entry c.args.element.now)) c.row.result
    (λ x is. ap (entry_at zs hs) is ∙ entry-is xs ys zs gs hs e (spec.entry c.args.element.now) c.pack_time_of.ensures.longer
    c.push_resources_of.ensures.longer c.push_resources_of.ensures.more givens c.in_ok-reference.ensures.inside
    c.in_ok-time.ensures.inside first (λ i. end i - first i) c.in_ok-reference.ensures.is c.in_ok-duration.ensures
    c.in_ok-time.ensures.is c.in_ok-push_resources_of.ensures.is) c.row.ensures
