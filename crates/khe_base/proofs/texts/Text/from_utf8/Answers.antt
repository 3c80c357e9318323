-- The bytes are a text exactly where they are UTF-8.
use Rattle.std.proofs.Common.{◌∙◌, ap, Some}
use Rattle.khe_base.specs.Text.{characters}
use Rattle.khe_base.proofs.TextLemmas.{text_of-IsUtf8, text_of-not_utf8}
use Rattle.khe_base.proofs.texts.Text.from_utf8.Goals as goal

pub returns-in_ok-from_str-in-Ok : goal.returns-in_ok-from_str-in-Ok
returns-in_ok-from_str-in-Ok c =
    let cases = c.in-Ok.ensures.cases in
    ap Some (c.in_ok-from_str-in-Ok.ensures ∙ ap characters cases.0) ∙ text_of-IsUtf8 _ cases.1

pub returns-in-Err : goal.returns-in-Err
returns-in-Err c = text_of-not_utf8 _ c.in-Err.ensures.cases.0
