-- The options that are left say the rest.
use Rattle.std.proofs.Common.{◌≡◌, ◌∙◌, Some, map, drop, string_bytes, sym, ap}
use Rattle.std.proofs.lemmas.List.{take_rest}
use Rattle.timetable_page.specs.Words.{told_by, with_option}
use Rattle.timetable_page.proofs.WordLemmas.{two_of, told_next}
use Rattle.timetable_page.proofs.words.told_by.Goals as goal

pub loop-rest-preserved : goal.loop-rest-preserved
loop-rest-preserved c =
    let told = c.loop-rest.told in
    let next = c.in_ok-told.told in
    let rest = c.loop-rest.rest.now in
    let option = string_bytes c.option-item.result in
    let value = string_bytes c.value-item.result in
    let some : with_option told option value ≡ Some next =
    ap (λ o. with_option told o value) (sym c.as_str.ensures.value)
    ∙ ap (λ v. with_option told c.as_str.result.now v) (sym c.as_str-in-len2-up.ensures.value)
    ∙ sym c.with_option.ensures ∙ c.in_ok-told.was in
    ap (λ xs. told_by next (map string_bytes xs)) (take_rest rest 2)
    ∙ sym (told_next told next option value (map string_bytes (drop 2 rest)) some)
    ∙ sym (ap (told_by told) (two_of string_bytes rest c.option-item.result c.value-item.result
    c.in-len2-up.len_at_least c.option-item.is c.value-item.is))
    ∙ c.loop-rest.invariant
