-- Where an element has no reference, one without a name stands in.
use Rattle.std.proofs.Common.{◌≡◌, ◌∙◌, None, ap, sym, unwrap_or}
use Rattle.std.specs.Option.{option_map}
use Rattle.std.proofs.lemmas.Str.{chars-nil}
use Rattle.xhstt_shape.specs.Packed.{reference_at}
use Rattle.xhstt_shape.specs.Values as spec
use Rattle.xhstt_shape.specs.Values.{reference}
use Rattle.xhstt_shape.proofs.packing_elements.pack_reference_of.Goals as goal

pub returns-in_ok-pack_text-in-None-clause-is : goal.returns-in_ok-pack_text-in-None-clause-is
unfolding reference
returns-in_ok-pack_text-in-None-clause-is c =
    let xs = c.pack_given_reference.new.letters.items in
    let empty = c.in_ok-pack_text-in-None.ensures.text ∙ chars-nil in
    let none : None ≡ spec.optional_reference c.args.element.now =
    sym (ap (option_map (reference_at xs)) c.in-None.is) ∙ c.in_ok-found.ensures.is in
    (λ i. record { id = empty i; at = 0 }) ∙ ap (λ o. unwrap_or o (spec.as_reference spec.no_name)) none
