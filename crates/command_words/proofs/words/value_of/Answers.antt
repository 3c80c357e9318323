-- The value is that of the words that are left.
use Rattle.std.proofs.Common.{◌≡◌, ◌∙◌, Some, true, false, map, drop, string_bytes, sym, ap}
use Rattle.std.specs.Str.{bytes_eq}
use Rattle.std.proofs.lemmas.List.{take_rest}
use Rattle.command_words.specs.Words.{value_of}
use Rattle.command_words.proofs.ValueLemmas.{two_of, value_here, value_none, value_past}
use Rattle.command_words.proofs.words.value_of.Goals as goal

pub returns-then-eq : goal.returns-then-eq
returns-then-eq c =
    let name = c.args.name.now in
    let rest = c.loop-rest.rest.now in
    let option = string_bytes c.option-item.result in
    let value = string_bytes c.value-item.result in
    let same : bytes_eq name option ≡ true =
    ap (bytes_eq name) (sym c.as_str.ensures.value) ∙ sym c.eq.ensures ∙ c.if-eq.true in
    sym c.loop-rest.invariant
    ∙ ap (value_of name) (two_of string_bytes rest c.option-item.result c.value-item.result c.in-len2-up.len_at_least
    c.option-item.is c.value-item.is)
    ∙ value_here name option value (map string_bytes (drop 2 rest)) same
    ∙ ap (λ v. Some v) (sym c.as_str-then-eq.ensures.value)

pub loop-rest-preserved : goal.loop-rest-preserved
loop-rest-preserved c =
    let name = c.args.name.now in
    let rest = c.loop-rest.rest.now in
    let option = string_bytes c.option-item.result in
    let value = string_bytes c.value-item.result in
    let other : bytes_eq name option ≡ false =
    ap (bytes_eq name) (sym c.as_str.ensures.value) ∙ sym c.eq.ensures ∙ c.if-eq.false in
    ap (λ xs. value_of name (map string_bytes xs)) (take_rest rest 2)
    ∙ sym (value_past name option value (map string_bytes (drop 2 rest)) other)
    ∙ sym (ap (value_of name) (two_of string_bytes rest c.option-item.result c.value-item.result
    c.in-len2-up.len_at_least c.option-item.is c.value-item.is))
    ∙ c.loop-rest.invariant

pub returns : goal.returns
returns c =
    sym c.loop-rest.invariant
    ∙ value_none string_bytes c.args.name.now c.loop-rest.rest.now c.in_default.len_below
