-- The reference, then the time, then the resources.
use Rattle.std.proofs.Common.{◌≡◌, ◌∙◌, ◌++◌, ◌-◌, All, ap, length, refl, subst, sym}
use Rattle.xhstt_shape.specs.Packed.{IsEntryIn, IsGivenIn, entry_at, givens_at}
use Rattle.xhstt_shape.specs.declared.packed.PackedEntry.{PackedEntry}
use Rattle.xhstt_shape.proofs.PackedLemmas.{entry-in-parts, entry-is, givens-in-longer, longer-longer, ok-weaker}
use Rattle.xhstt_shape.proofs.packing.pack_entry.Goals as goal

pub returns-clause-row : goal.returns-clause-row
returns-clause-row c =
    let xs = c.pack_reference.new.letters.items in
    let ys = c.pack_optional.new.letters.items in
    let zs = c.push_givens.new.letters.items in
    let gs = c.args.givens.now.items in
    let hs = c.push_givens.new.givens.items in
    let first : c.len-first.result ≡ length gs = c.len-first.ensures ∙ c.args.givens.now.ok.0 in
    let end : c.len.result ≡ length hs = c.len.ensures ∙ c.push_givens.new.givens.ok.0 in
    let e : PackedEntry = record {
      reference = c.in_ok-reference.reference;
      duration = c.args.entry.now.duration;
      time = c.in_ok-time.time;
      first = c.len-first.result;
      count = c.len.result - c.len-first.result;
    } in
    ok-weaker (λ x. x ≡ e) (IsEntryIn zs hs) c.row.result (λ x is. subst (IsEntryIn zs hs) (sym is)
    (entry-in-parts xs ys zs gs hs e c.pack_optional.ensures.longer c.push_givens.ensures.longer c.push_givens.ensures.more
    c.in_ok-reference.ensures.inside c.in_ok-time.ensures.inside first (λ i. end i - first i))) c.row.ensures

pub returns-clause-is : goal.returns-clause-is
returns-clause-is c =
    let os = c.args.letters.now.items in
    let xs = c.pack_reference.new.letters.items in
    let ys = c.pack_optional.new.letters.items in
    let zs = c.push_givens.new.letters.items in
    let gs = c.args.givens.now.items in
    let hs = c.push_givens.new.givens.items in
    let first : c.len-first.result ≡ length gs = c.len-first.ensures ∙ c.args.givens.now.ok.0 in
    let end : c.len.result ≡ length hs = c.len.ensures ∙ c.push_givens.new.givens.ok.0 in
    let e : PackedEntry = record {
      reference = c.in_ok-reference.reference;
      duration = c.args.entry.now.duration;
      time = c.in_ok-time.time;
      first = c.len-first.result;
      count = c.len.result - c.len-first.result;
    } in
    let givens : All (IsGivenIn ys) gs =
    givens-in-longer os ys gs (longer-longer os xs ys c.pack_reference.ensures.longer c.pack_optional.ensures.longer) c.requires in
    ok-weaker (λ x. x ≡ e) (λ x. entry_at zs hs x ≡ c.args.entry.now) c.row.result
    (λ x is. ap (entry_at zs hs) is ∙ entry-is xs ys zs gs hs e c.args.entry.now c.pack_optional.ensures.longer
    c.push_givens.ensures.longer c.push_givens.ensures.more givens c.in_ok-reference.ensures.inside
    c.in_ok-time.ensures.inside first (λ i. end i - first i) c.in_ok-reference.ensures.is refl
    c.in_ok-time.ensures.is (c.in_ok-push_givens.ensures.is ∙ ap (λ list. givens_at ys gs ++ list) c.as_slice.ensures)) c.row.ensures
