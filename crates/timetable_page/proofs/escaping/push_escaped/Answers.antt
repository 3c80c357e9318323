-- The characters that were taken are those of the text.
use Rattle.std.proofs.Common.{◌∙◌, ◌++◌, sym, ap, ◌≡◌}
use Rattle.std.proofs.lemmas.Iterator.{YieldsList-from_chars}
use Rattle.std.proofs.lemmas.Iterator.Consumers.{YieldsList-end}
use Rattle.std.proofs.lemmas.List.{map-id}
use Rattle.std.proofs.lemmas.Str.{encodes_same, encodes-chars}
use Rattle.timetable_page.specs.Escape.{escaped}
use Rattle.timetable_page.proofs.escaping.push_escaped.Goals as goal

pub returns : goal.returns
returns c =
    let t = YieldsList-end (YieldsList-from_chars c.as_str.result.now c.as_str.utf8 cc) c.loop-character.yielded _
    c.loop-character.yielded_by _ _ c.in-None.is c.next.ensures.steps in
    let same : c.loop-character.yielded ≡ c.args.text.now =
    sym (map-id c.loop-character.yielded) ∙ t.0 ∙ encodes_same _ _ (encodes-chars _ c.as_str.utf8 ∙ c.as_str.ensures) in
    c.loop-character.invariant ∙ ap (λ x. c.args.page.now ++ escaped x) same
