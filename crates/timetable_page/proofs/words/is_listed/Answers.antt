-- The solution is named here, or by the options that are left.
use Rattle.std.proofs.Common.{◌≡◌, ◌∙◌, true, false, map, drop, string_bytes, sym, ap}
use Rattle.std.proofs.lemmas.List.{take_rest}
use Rattle.timetable_page.specs.Words.{is_listed, is_named}
use Rattle.timetable_page.proofs.WordLemmas.{two_of, listed_past}
use Rattle.timetable_page.proofs.words.is_listed.Goals as goal

pub loop-rest-preserved : goal.loop-rest-preserved
loop-rest-preserved c =
    let rest = c.loop-rest.rest.now in
    let option = string_bytes c.option-item.result in
    let value = string_bytes c.value-item.result in
    let other : is_named option value c.args.number ≡ false =
    ap (λ o. is_named o value c.args.number) (sym c.as_str.ensures.value)
    ∙ ap (λ v. is_named c.as_str.result.now v c.args.number) (sym c.as_str-in-len2-up.ensures.value)
    ∙ sym c.is_named.ensures ∙ c.if-is_named.false in
    ap (λ xs. is_listed (map string_bytes xs) c.args.number) (take_rest rest 2)
    ∙ sym (listed_past option value (map string_bytes (drop 2 rest)) c.args.number other)
    ∙ sym (ap (λ xs. is_listed xs c.args.number) (two_of string_bytes rest c.option-item.result c.value-item.result
    c.in-len2-up.len_at_least c.option-item.is c.value-item.is))
    ∙ c.loop-rest.invariant
