-- The text goes last.
use Rattle.std.proofs.Common.{◌≡◌, ◌∙◌, ◌++◌, ap, length}
use Rattle.xhstt_shape.proofs.PackedLemmas.{last-text-in}
use Rattle.xhstt_shape.proofs.packed.pack_text.Goals as goal

pub returns-clause-inside : goal.returns-clause-inside
returns-clause-inside c =
    let old = c.args.letters.now.items in
    let first : c.in_ok-first.first ≡ length old = c.in_ok-first.ensures ∙ c.len.ensures ∙ c.args.letters.now.ok.0 in
    last-text-in old c.extend_from_slice.new.self.items c.args.text.now
    (record { first = c.in_ok-first.first; count = c.in_ok-count.count })
    (c.in_ok-extend_from_slice.ensures.items ∙ ap (λ xs. old ++ xs) c.as_bytes.ensures.value) first
    c.in_ok-count.ensures c.utf8.text
