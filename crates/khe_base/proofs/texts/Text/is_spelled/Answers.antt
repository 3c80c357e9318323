-- The characters are the same exactly where the bytes are.
use Rattle.std.proofs.Common.{◌≡◌, ◌∙◌, sym, ap, string_bytes}
use Rattle.std.specs.Str.{bytes_eq}
use Rattle.std.proofs.lemmas.Str.{IsUtf8-string_bytes}
use Rattle.khe_base.specs.Text.{characters}
use Rattle.khe_base.proofs.TextLemmas.{bytes_eq-characters, bytes_eq-turned}
use Rattle.khe_base.proofs.texts.Text.is_spelled.Goals as goal

pub returns-clause-by : goal.returns-clause-by
returns-clause-by c =
    let mine = c.self.inside.items in
    let bytes : c.eq.result ≡ bytes_eq c.args.spelling.now (string_bytes mine) =
    rw (← c.as_str.ensures.value) c.eq.ensures
    in
    bytes ∙ sym (bytes_eq-characters _ _ c.utf8.spelling (IsUtf8-string_bytes mine))
    ∙ ap (bytes_eq (characters c.args.spelling.now)) c.self.view_is

pub returns-clause-is : goal.returns-clause-is
returns-clause-is c = returns-clause-by c ∙ bytes_eq-turned (characters c.args.spelling.now) c.args.self.now
