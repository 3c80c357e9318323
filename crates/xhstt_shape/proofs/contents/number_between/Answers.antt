-- Each test of the code is one of the definition.
use Rattle.std.proofs.Common.{◌≡◌, ◌≤◌, ◌<◌, true, Some, None, if◌then◌else◌, length, rules, ap, sym, ◌∙◌, arith, List}
use Rattle.std.proofs.Common.{ℕ}
use Rattle.std.specs.List.{list_all}
use Rattle.std.proofs.lemmas.Bool.{and_from, le-leb, lt-ltb}
use Rattle.std.proofs.lemmas.Bool.Decides.{nat_tests}
use Rattle.xhstt_shape.specs.Contents as spec
use Rattle.xhstt_shape.proofs.contents.number_between.Goals as goal

-- a number that passes each test is the one that is written
in_range : (least greatest : ℕ) (bytes : List ℕ) → list_all spec.is_digit bytes ≡ true → 0 < length bytes
    → length bytes ≤ 10 → least ≤ spec.value_after 0 bytes → spec.value_after 0 bytes ≤ greatest
    → Some (spec.value_after 0 bytes) ≡ spec.number_between least greatest bytes
unfolding spec.number_between
in_range least greatest bytes digits some short low high =
    sym (ap (λ b. if b then Some (spec.value_after 0 bytes) else None)
    (and_from _ _ (and_from _ _ (and_from _ _ (and_from _ _ digits (lt-ltb _ _ some)) (le-leb _ _ short))
    (le-leb _ _ low)) (le-leb _ _ high)))

pub returns : goal.returns
returns c =
    let bytes = c.args.bytes.now in
    let digits : list_all spec.is_digit bytes ≡ true = search rules in
    let some : 0 < length bytes = grind (arith, nat_tests) in
    let short : length bytes ≤ 10 = omega arith in
    let low : c.args.least ≤ spec.value_after 0 bytes = omega (arith, c.value_of-value.ensures, c.from.ensures) in
    let high : spec.value_after 0 bytes ≤ c.args.greatest =
    omega (arith, c.value_of-value.ensures, c.from-else-value-from.ensures) in
    ap Some c.value_of-value.ensures ∙ in_range c.args.least c.args.greatest bytes digits some short low high
